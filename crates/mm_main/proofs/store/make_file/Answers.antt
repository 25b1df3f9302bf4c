use Rattle.std.proofs.Common.{◌∙◌}
use Rattle.std.proofs.lemmas.Result.{on_ok_weaker}
use Rattle.mm_main.proofs.StoreSteps.{absent_at_first, made_size}
use Rattle.mm_main.proofs.store.make_file.Goals as goal

pub add_file-requires-clause-absent : goal.add_file-requires-clause-absent
add_file-requires-clause-absent c = absent_at_first c.args.draft.now c.requires.new

pub put_header-requires-clause-size : goal.put_header-requires-clause-size
put_header-requires-clause-size c = made_size c.args.draft.now c.add_file.new.self _ 1_048_576 c.in_ok-add_file.ensures.ok

pub returns-clause-size : goal.returns-clause-size
returns-clause-size c =
    let size = made_size c.args.draft.now c.add_file.new.self _ 1_048_576 c.in_ok-add_file.ensures.ok in
    on_ok_weaker c.put_header.result (λ header. c.put_header.ensures.keeps.size ∙ size) c.put_header.ensures.header
