use Rattle.std.proofs.Common.{◌≡◌, ◌++◌, map, string_bytes, sym, ◌∙◌, subst, rules}
use Rattle.std.specs.List.Sorted.{IsStrictlySortedBy}
use Rattle.mm_outside.specs.Image.{name_cmp}
use Rattle.mm_recover.proofs.TouchedNames.{rising_names}
use Rattle.mm_recover.proofs.touched.in_order.Goals as goal

pub returns-clause-rising : goal.returns-clause-rising
returns-clause-rising c =
    let none_left : map string_bytes c.loop-name.names.items ≡ map string_bytes c.loop-name.names.items ++ map string_bytes c.loop-name.name-iterator = search rules in
    subst (IsStrictlySortedBy name_cmp) (sym (none_left ∙ c.loop-name.invariant)) (rising_names c.args.set.now.keys c.into_iter-name-iterator.ensures.into_iter_gives.4)
