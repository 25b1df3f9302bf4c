use Rattle.std.proofs.Common.{drop}
use Rattle.std.specs.Prelude.{◌↔◌}
use Rattle.mm_bson.specs.View.{tree_in}
use Rattle.mm_query.specs.Match.{AllHold}
use Rattle.mm_query.specs.Kept.{tests_of}
use Rattle.mm_query.proofs.condition.all_hold.Given as goal

abbrev pub invariant-loop-test : goal.invariant-loop-test
invariant-loop-test l = AllHold (tests_of (drop l.test-index l.tests)) (tree_in l.value) l.found ↔ AllHold (tests_of l.tests) (tree_in l.value) l.found
