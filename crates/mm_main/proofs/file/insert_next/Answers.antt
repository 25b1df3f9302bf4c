use Rattle.std.proofs.Common.{◌∙◌, arith}
use Rattle.std.specs.Int.{w32}
use Rattle.std.proofs.lemmas.Int.{to_z_pos}
use Rattle.mm_main.specs.Drafted.{drafted}
use Rattle.mm_main.proofs.MoreSteps.{more_of}
use Rattle.mm_main.proofs.file.insert_next.Goals as goal

pub returns-clause-stands : goal.returns-clause-stands
returns-clause-stands c = λ payloads stands.
    more_of c.args.collection.now payloads c.args.payload.now (drafted c.args.draft.now) (drafted c.put_next.new.draft) (drafted c.put_block.new.draft) c.args.at c.args.last c.put_block.result stands
    (c.put_block.ensures.keeps.size ∙ c.in_ok-put_next.ensures.keeps.size ∙ c.requires.size) c.requires.room
    c.in_ok-put_next.ensures.leads c.in_ok-put_next.ensures.before c.in_ok-put_next.ensures.behind c.put_block.ensures.before c.put_block.ensures.between
    c.put_block.ensures.extent (rw (to_z_pos w32 c.args.last (omega arith)) at c.put_block.ensures.record) c.put_block.ensures.rest c.put_block.ensures.chain
