-- Chains that are followed list by list.
use Rattle.std.proofs.Common.{◌≡◌, ℕ, true, inl, inr, List, [], ◌∷◌, ◌++◌, map, Result, Ok, Err, IfOk, Vec, Global, refl, ap, subst}
use Rattle.std.specs.List.{list_any}
use Rattle.std.specs.Ordering.{nat_cmp}
use Rattle.std.specs.BTreeMap.{is_at}
use Rattle.std.specs.BTreeSet.{BTreeSet, IsEmpty}
use Rattle.mm_walk.specs.declared.walk.Broken.{Broken}
use Rattle.mm_walk.specs.declared.walk.Broken.TheVariants.{At, NoMemory}
use Rattle.mm_links.specs.Links.{Place, once}
use Rattle.mm_walk.specs.Walk.{Reading, AreWhole, BreaksFirst, seen_after, key, Knows, IfBroken}

pub whole_append : (seen : List Place) (rs : List Reading) (pss : List (List Place)) (qs : List Reading) (qss : List (List Place)) → AreWhole seen rs pss → AreWhole (seen_after seen pss) qs qss → AreWhole seen (rs ++ qs) (pss ++ qss)
whole_append seen [] [] qs qss a b = b
whole_append seen [] (ps ∷ pss) qs qss a b = absurd a
whole_append seen (r ∷ rs) [] qs qss a b = absurd a
whole_append seen (r ∷ rs) (ps ∷ pss) qs qss a b = (a.0, whole_append (ps ++ seen) rs pss qs qss a.1 b)

pub seen_append : (seen : List Place) (pss qss : List (List Place)) → seen_after seen (pss ++ qss) ≡ seen_after (seen_after seen pss) qss
seen_append seen [] qss = refl
seen_append seen (ps ∷ pss) qss = seen_append (ps ++ seen) pss qss

pub breaks_more : (seen : List Place) (qs more : List Reading) (at : Place) → BreaksFirst seen qs at → BreaksFirst seen (qs ++ more) at
breaks_more seen [] more at b = absurd b
breaks_more seen (q ∷ qs) more at (inl b) = inl b
breaks_more seen (q ∷ qs) more at (inr t) = inr (t.0, t.1, breaks_more (t.0 ++ seen) qs more at t.2)

pub breaks_behind : (seen : List Place) (rs : List Reading) (pss : List (List Place)) (qs more : List Reading) (at : Place) → AreWhole seen rs pss → BreaksFirst (seen_after seen pss) qs at → BreaksFirst seen (rs ++ qs ++ more) at
breaks_behind seen [] [] qs more at a b = breaks_more seen qs more at b
breaks_behind seen [] (ps ∷ pss) qs more at a b = absurd a
breaks_behind seen (r ∷ rs) [] qs more at a b = absurd a
breaks_behind seen (r ∷ rs) (ps ∷ pss) qs more at a b = inr (ps, a.0, breaks_behind (ps ++ seen) rs pss qs more at a.1 b)

pub fresh_after : (seen : List Place) (rs : List Reading) (pss : List (List Place)) → AreWhole seen rs pss → once seen ≡ true → once (seen_after seen pss) ≡ true
fresh_after seen [] [] a o = o
fresh_after seen [] (ps ∷ pss) a o = absurd a
fresh_after seen (r ∷ rs) [] a o = absurd a
fresh_after seen (r ∷ rs) (ps ∷ pss) a o = fresh_after (ps ++ seen) rs pss a.1 a.0.followed.fresh

-- ---- what following gives, of a set that knows no place yet

pub row_whole : (r : Result (Vec (Vec (ℕ × ℕ) Global) Global) Broken) (old : BTreeSet ℕ) (rs qs : List Reading) → Knows old [] → rs ≡ qs → IfOk r (λ all. (before : List Place) → Knows old before → once before ≡ true → AreWhole before rs (map (λ ps. ps.items) all.items))
    → IfOk r (λ all. AreWhole [] qs (map (λ ps. ps.items) all.items))
row_whole (Ok all) old rs qs k e h = subst (λ (xs : List Reading). AreWhole [] xs (map (λ ps. ps.items) all.items)) e (h [] k refl)
row_whole (Err x) old rs qs k e h = tt

pub row_seen : (r : Result (Vec (Vec (ℕ × ℕ) Global) Global) Broken) (old new : BTreeSet ℕ) → Knows old [] → IfOk r (λ all. (before : List Place) → Knows old before → once before ≡ true → Knows new (seen_after before (map (λ ps. ps.items) all.items)))
    → IfOk r (λ all. Knows new (seen_after [] (map (λ ps. ps.items) all.items)))
row_seen (Ok all) old new k h = h [] k refl
row_seen (Err x) old new k h = tt

pub row_broken : (r : Result (Vec (Vec (ℕ × ℕ) Global) Global) Broken) (old : BTreeSet ℕ) (rs qs : List Reading) → Knows old [] → rs ≡ qs → IfBroken r (λ at. (before : List Place) → Knows old before → once before ≡ true → BreaksFirst before rs at)
    → IfBroken r (λ at. BreaksFirst [] qs at)
row_broken (Ok all) old rs qs k e h = tt
row_broken (Err (At at)) old rs qs k e h = subst (λ (xs : List Reading). BreaksFirst [] xs at) e (h [] k refl)
row_broken (Err NoMemory) old rs qs k e h = tt

pub knows_none : (set : BTreeSet ℕ) → IsEmpty set → Knows set []
knows_none set e p a b = ap (λ (ks : List ℕ). list_any (is_at (nat_cmp (key p))) ks) e
