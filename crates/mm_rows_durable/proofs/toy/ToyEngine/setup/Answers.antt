use Rattle.std.proofs.Common.{◌∙◌, ap}
use Rattle.std.specs.FinMap.{get, get-empty}
use Rattle.std.specs.Ordering.{nat_cmp}
use Rattle.mm_ranges.specs.Overlay.{Image}
use Rattle.mm_held.specs.Steps.{IsSetUp}
use Rattle.mm_rows_durable.specs.Toy.{toy}
use Rattle.mm_rows_durable.proofs.Seats.{sets_up, on_ok}
use Rattle.mm_rows_durable.proofs.toy.ToyEngine.setup.Goals as goal

pub add_file-requires-clause-absent : goal.add_file-requires-clause-absent
add_file-requires-clause-absent c = ap (λ (i : Image). get i 0) c.requires.no_file ∙ get-empty nat_cmp 0

pub returns-clause-stands : goal.returns-clause-stands
returns-clause-stands c =
    let old = c.args.draft.now.image in
    let new = c.add_file.new.self.image in
    on_ok c.add_file.result (IsSetUp toy old new) (sets_up old new)
