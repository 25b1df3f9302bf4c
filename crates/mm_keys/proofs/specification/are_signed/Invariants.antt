use Rattle.std.proofs.Common.{drop}
use Rattle.std.specs.Prelude.{◌↔◌}
use Rattle.mm_bson.specs.View.{elements_of}
use Rattle.mm_keys.specs.Specification.{AreSigned}
use Rattle.mm_keys.proofs.specification.are_signed.Given as goal

abbrev pub invariant-loop-field : goal.invariant-loop-field
invariant-loop-field l = AreSigned (elements_of (drop l.field-index l.fields)) ↔ AreSigned (elements_of l.fields)
