use Rattle.std.proofs.Common.{List, ℕ, Some, ap}
use Rattle.mm_recover.specs.Laying.{made_entry}
use Rattle.mm_recover.proofs.LaidOver.{lays_own}
use Rattle.mm_recover.specs.Overlaid.{own_name}
use Rattle.mm_recover.proofs.overlaying.lay_one_made.Goals as goal

pub returns : goal.returns
returns c = lays_own (made_entry c.args.name.now c.args.made) (own_name c.args.file.now) c.is_own.result c.args.content (Some c.in_ok-bytes.bytes) c.is_own.ensures c.if-not-is_own.false (ap (λ (l : List ℕ). Some l) c.in_ok-bytes.ensures)
