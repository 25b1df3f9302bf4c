use Rattle.std.proofs.Common.{◌≡◌, drop}
use Rattle.mm_bson.specs.Tree.{append}
use Rattle.mm_bson.specs.View.{elements_of}
use Rattle.mm_query.specs.Form.{wrong_operators}
use Rattle.mm_query.specs.Kept.{tests_of}
use Rattle.mm_query.proofs.form.add_tests.Given as goal

abbrev pub invariant-loop-field : goal.invariant-loop-field
invariant-loop-field l = record {
  parts : append (tests_of l.tests.items) (elements_of (drop l.field-index l.fields)) ≡ append (tests_of l.fn.tests.items) (elements_of l.fields);
  wrong : wrong_operators (elements_of (drop l.field-index l.fields)) ≡ wrong_operators (elements_of l.fields);
}
