use Rattle.std.proofs.Common.{◌≡◌, ℕ, ◌<◌, ◌^◌, rules}
use Rattle.std.specs.Ordering.{nat_cmp}
use Rattle.std.specs.BTreeSet.{contains}
use Rattle.mm_jfiles.specs.Names.{journal_name}
use Rattle.mm_recover.proofs.FileNumbers.{number_added, none_added}
use Rattle.mm_recover.proofs.numbers.add_number.Goals as goal

pub returns-in_default : goal.returns-in_default
returns-in_default c = λ n.
    let none : (m : ℕ) → m < 2 ^ 32 → c.args.name.now ≡ journal_name m → ⊥ = search rules in
    none_added c.args.name.now n (contains nat_cmp c.args.numbers n) none

pub returns : goal.returns
returns c = λ n. number_added c.args.name.now c.in-Some.number n _ _ (search rules) (search rules) (c.in_ok-insert.ensures.updates.0 n)
