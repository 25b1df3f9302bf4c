-- Chains each of which is whole, whatever was seen before it, are whole in a row where no place is on two of them.
use Rattle.std.proofs.Common.{◌≡◌, ◌⊎◌, inl, inr, true, List, [], ◌∷◌, ◌++◌, refl, sym, ◌∙◌, ap, append_assoc}
use Rattle.std.proofs.lemmas.Bool.{false≢true}
use Rattle.mm_links.specs.Links.{Place, has, once}
use Rattle.mm_walk.specs.Walk.{Reading, IsWhole, AreWhole, seen_after}
use Rattle.mm_walk.proofs.WalkLaws.{once_left}
use Rattle.mm_check.specs.Findings.{joined}
use Rattle.mm_check.proofs.PhaseBack.{has_either, once_append}
use Rattle.mm_check.proofs.Insides.{has_in}
use Rattle.mm_check.proofs.CheckLaws.{apart_of, once_right}

abbrev pub IsWholeAlone : Reading → List Place → Type 0
IsWholeAlone r ps = (before : List Place) → once (ps ++ before) ≡ true → IsWhole r before ps

abbrev pub EachWhole : List Reading → List (List Place) → Type 0
EachWhole [] [] = Unit {0}
EachWhole [] (ps ∷ pss) = ⊥
EachWhole (r ∷ rs) [] = ⊥
EachWhole (r ∷ rs) (ps ∷ pss) = IsWholeAlone r ps × EachWhole rs pss

pub whole_of_each : (rs : List Reading) (pss : List (List Place)) (seen : List Place) → EachWhole rs pss → once (joined pss) ≡ true → once seen ≡ true → ((p : Place) → has (joined pss) p ≡ true → has seen p ≡ true → ⊥) → AreWhole seen rs pss
whole_of_each [] [] seen e o k f = tt
whole_of_each [] (ps ∷ pss) seen e o k f = absurd e
whole_of_each (r ∷ rs) [] seen e o k f = absurd e
whole_of_each (r ∷ rs) (ps ∷ pss) seen e o k f =
    let fresh = once_append ps seen (once_left ps (joined pss) o) k (λ p i j. f p (has_in ps (joined pss) p (inl i)) j) in (
      e.0 seen fresh,
      whole_of_each rs pss (ps ++ seen) e.1 (once_right ps (joined pss) o) fresh (λ p i j. elim (has_either ps seen p j) [
        | inl a ↦ apart_of ps (joined pss) p o a i
        | inr b ↦ f p (has_in ps (joined pss) p (inr i)) b
      ]),
    )

pub each_append : (rs qs : List Reading) (pss qss : List (List Place)) → EachWhole rs pss → EachWhole qs qss → EachWhole (rs ++ qs) (pss ++ qss)
each_append [] qs [] qss a b = b
each_append [] qs (ps ∷ pss) qss a b = absurd a
each_append (r ∷ rs) qs [] qss a b = absurd a
each_append (r ∷ rs) qs (ps ∷ pss) qss a b = (a.0, each_append rs qs pss qss a.1 b)

pub joined_append : (pss qss : List (List Place)) → joined (pss ++ qss) ≡ joined pss ++ joined qss
joined_append [] qss = refl
joined_append (ps ∷ pss) qss = ap (λ (xs : List Place). ps ++ xs) (joined_append pss qss) ∙ sym (append_assoc ps (joined pss) (joined qss))

-- what was seen once chains were followed is what was seen before, and their places
pub seen_joined : (seen : List Place) (pss : List (List Place)) (p : Place) → has (seen_after seen pss) p ≡ true → (has seen p ≡ true) ⊎ (has (joined pss) p ≡ true)
seen_joined seen [] p h = inl h
seen_joined seen (ps ∷ pss) p h = elim (seen_joined (ps ++ seen) pss p h) [
  | inl i ↦ elim (has_either ps seen p i) [ inl j ↦ inr (has_in ps (joined pss) p (inl j)) | inr j ↦ inl j ]
  | inr j ↦ inr (has_in ps (joined pss) p (inr j))
]

pub has_seen : (seen : List Place) (pss : List (List Place)) (p : Place) → (has seen p ≡ true) ⊎ (has (joined pss) p ≡ true) → has (seen_after seen pss) p ≡ true
has_seen seen [] p (inl i) = i
has_seen seen [] p (inr j) = absurd (false≢true j)
has_seen seen (ps ∷ pss) p (inl i) = has_seen (ps ++ seen) pss p (inl (has_in ps seen p (inr i)))
has_seen seen (ps ∷ pss) p (inr j) = elim (has_either ps (joined pss) p j) [
  | inl i ↦ has_seen (ps ++ seen) pss p (inl (has_in ps seen p (inl i)))
  | inr k ↦ has_seen (ps ++ seen) pss p (inr k)
]

pub once_seen : (rs : List Reading) (pss : List (List Place)) (seen : List Place) → AreWhole seen rs pss → once seen ≡ true → once (seen_after seen pss) ≡ true
once_seen [] [] seen a o = o
once_seen [] (ps ∷ pss) seen a o = absurd a
once_seen (r ∷ rs) [] seen a o = absurd a
once_seen (r ∷ rs) (ps ∷ pss) seen a o = once_seen rs pss (ps ++ seen) a.1 a.0.followed.fresh
