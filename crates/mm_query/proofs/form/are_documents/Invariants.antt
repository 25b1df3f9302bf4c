use Rattle.std.proofs.Common.{◌≡◌, drop}
use Rattle.mm_bson.specs.View.{values_of}
use Rattle.mm_query.specs.Form.{are_documents}
use Rattle.mm_query.proofs.form.are_documents.Given as goal

abbrev pub invariant-loop-value : goal.invariant-loop-value
invariant-loop-value l = are_documents (values_of (drop l.value-index l.values)) ≡ are_documents (values_of l.values)
