use Rattle.std.proofs.Common.{◌≡◌, drop}
use Rattle.std.specs.Prelude.{option_map}
use Rattle.mm_bson.specs.View.{tree, elements_of}
use Rattle.mm_update.specs.Changed.{keeps_id}
use Rattle.mm_update.proofs.apply.keeps_id.Given as goal

abbrev pub invariant-loop-field : goal.invariant-loop-field
invariant-loop-field l = keeps_id (option_map (λ v. tree v.now) l.old) (elements_of (drop l.field-index l.fields)) ≡ keeps_id (option_map (λ v. tree v.now) l.old) (elements_of l.fields)
