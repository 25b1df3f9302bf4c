use Rattle.std.proofs.Common.{ℕ, List, ap, ◌∙◌}
use Rattle.std.specs.Prelude.{◌||◌}
use Rattle.std.specs.Ordering.{nat_cmp}
use Rattle.std.specs.BTreeSet.{contains}
use Rattle.mm_recover.specs.Reading.{is_number_of}
use Rattle.mm_recover.proofs.FileNumbers.{has_next, has_all}
use Rattle.mm_recover.proofs.numbers.number_set.Goals as goal

pub loop-name-preserved : goal.loop-name-preserved
loop-name-preserved c = λ n. has_next c.args.names.now c.loop-name.name-index c.name-item.result n _ (contains nat_cmp c.loop-name.numbers n) c.loop-name-test.true c.name-item.is
    (c.in_ok-numbers.ensures n ∙ ap (λ (l : List ℕ). is_number_of l n || contains nat_cmp c.loop-name.numbers n) c.deref.ensures) (c.loop-name.invariant n)

pub returns : goal.returns
returns c = λ n. has_all c.args.names.now c.loop-name.name-index n (contains nat_cmp c.loop-name.numbers n) c.loop-name-test.false (c.loop-name.invariant n)
