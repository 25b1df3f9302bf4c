use Rattle.std.proofs.Common.{◌∙◌}
use Rattle.mm_main.specs.Drafted.{drafted}
use Rattle.mm_main.proofs.MoreSteps.{first_of}
use Rattle.mm_main.proofs.file.insert_first.Goals as goal

pub returns-clause-stands : goal.returns-clause-stands
returns-clause-stands c =
    first_of c.args.collection.now c.args.payload.now (drafted c.put_header.new.draft) (drafted c.put_block.new.draft) c.put_block.result
    (c.put_block.ensures.keeps.size ∙ c.in_ok-put_header.ensures.keeps.size ∙ c.requires.size) c.requires.room c.in_ok-put_header.ensures.header
    c.put_block.ensures.before c.put_block.ensures.extent c.put_block.ensures.record c.put_block.ensures.rest c.put_block.ensures.chain
