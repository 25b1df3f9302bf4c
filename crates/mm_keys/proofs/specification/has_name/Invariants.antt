use Rattle.std.proofs.Common.{◌≡◌, drop}
use Rattle.mm_bson.specs.View.{elements_of}
use Rattle.mm_bson.specs.Path.{find}
use Rattle.mm_keys.proofs.specification.has_name.Given as goal

abbrev pub invariant-loop-field : goal.invariant-loop-field
invariant-loop-field l = find l.name (elements_of (drop l.field-index l.fields)) ≡ find l.name (elements_of l.fields)
