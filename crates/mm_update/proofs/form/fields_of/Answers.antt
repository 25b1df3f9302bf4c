use Rattle.std.proofs.Common.{◌<◌, length, arith}
use Rattle.std.proofs.lemmas.Bool.Decides.{nat_tests}
use Rattle.mm_update.proofs.Fields.{AreNames-built}
use Rattle.mm_update.proofs.Listed.{some_path}
use Rattle.mm_update.proofs.form.fields_of.Goals as goal

pub returns-else-is_empty-clause-some : goal.returns-else-is_empty-clause-some
returns-else-is_empty-clause-some c =
    let some : 0 < length c.elements-fields.result.now = grind (arith, nat_tests) in
    rw c.in-Document.is (some_path c.elements-fields.result.now _ some c.elements-fields.ensures.elements)

pub returns-else-is_empty-clause-names : goal.returns-else-is_empty-clause-names
returns-else-is_empty-clause-names c = rw c.elements-fields.ensures.elements (AreNames-built _ c.elements-fields.ensures.built.elements)
