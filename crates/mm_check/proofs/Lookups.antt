-- What chains that are whole say of each of their heads, and what stands at the places that were found.
use Rattle.std.proofs.Common.{◌≡◌, inl, inr, ◌⊎◌, true, false, List, [], ◌∷◌, ◌++◌, map, Some, None, refl, sym, ◌∙◌, ap, subst}
use Rattle.std.proofs.lemmas.Bool.{cases_Bool, false≢true}
use Rattle.mm_ranges.specs.Overlay.{Image}
use Rattle.mm_links.specs.Links.{Place, same, has, once}
use Rattle.mm_links.proofs.LinkLaws.{either, same_is, same_own, same_not, has_here, has_there, has_more, once_parts}
use Rattle.mm_extents.specs.Heap.{Cell, extent, live, deleted}
use Rattle.mm_walk.specs.Walk.{Reading, IsWhole, AreWhole}
use Rattle.mm_check.specs.RecordChain.{rec_at}
use Rattle.mm_check.specs.ExtentChain.{ext_at}
use Rattle.mm_check.specs.ListChain.{del_at}
use Rattle.mm_check.specs.Findings.{joined}
use Rattle.mm_check.specs.FoundShape.{beside, room_at, found_heap}
use Rattle.mm_check.proofs.RecordLaws.{if_yes, if_no}
use Rattle.mm_check.proofs.PhaseBack.{has_either}

-- each place's chain is whole, whatever was seen before it
pub whole_beside : (reading : Place → Reading) (es : List Place) (pss : List (List Place)) (seen : List Place) (e : Place) → AreWhole seen (map reading es) pss → has es e ≡ true
    → (before : List Place) × IsWhole (reading e) before (beside es pss e)
whole_beside reading [] pss seen e a h = absurd (false≢true h)
whole_beside reading (x ∷ xs) [] seen e a h = absurd a
whole_beside reading (x ∷ xs) (ps ∷ pss) seen e a h = elim (cases_Bool (same x e)) [
  | inl y ↦ (seen, subst (λ (z : Place). IsWhole (reading z) seen (beside (x ∷ xs) (ps ∷ pss) e)) (same_is x e y) (subst (λ (qs : List Place). IsWhole (reading x) seen qs) (sym (if_yes _ _ _ y)) a.0))
  | inr n ↦
      let t = whole_beside reading xs pss (ps ++ seen) e a.1 (sym (has_there x xs e n) ∙ h) in
      (t.0, subst (λ (qs : List Place). IsWhole (reading e) t.0 qs) (sym (if_no _ _ _ n)) t.1)
]

-- a place that no chain begins at has no list
pub beside_none : (es : List Place) (pss : List (List Place)) (e : Place) → has es e ≡ false → beside es pss e ≡ []
beside_none [] pss e h = refl
beside_none (x ∷ xs) [] e h = refl
beside_none (x ∷ xs) (ps ∷ pss) e h = elim (cases_Bool (same x e)) [
  | inl y ↦ absurd (false≢true (sym h ∙ has_here x xs e y))
  | inr n ↦ if_no _ _ _ n ∙ beside_none xs pss e (sym (has_there x xs e n) ∙ h)
]

-- what is on one of the chains is beside a head, and the other way
pub in_beside : (reading : Place → Reading) (es : List Place) (pss : List (List Place)) (seen : List Place) (p : Place) → AreWhole seen (map reading es) pss → once es ≡ true → has (joined pss) p ≡ true
    → (e : Place) × (has es e ≡ true) × (has (beside es pss e) p ≡ true)
in_beside reading [] [] seen p a o h = absurd (false≢true h)
in_beside reading [] (ps ∷ pss) seen p a o h = absurd a
in_beside reading (x ∷ xs) [] seen p a o h = absurd a
in_beside reading (x ∷ xs) (ps ∷ pss) seen p a o h = elim (has_either ps (joined pss) p h) [
  | inl i ↦ (x, has_here x xs x (same_own x), ap (λ (qs : List Place). has qs p) (if_yes _ _ _ (same_own x)) ∙ i)
  | inr j ↦
      let t = in_beside reading xs pss (ps ++ seen) p a.1 (once_parts x xs o).1 j in
      let apart : same x t.0 ≡ false = same_not x t.0 (λ e. false≢true (sym (once_parts x xs o).0 ∙ ap (has xs) e ∙ t.1)) in
      (t.0, has_more x xs t.0 t.1, ap (λ (qs : List Place). has qs p) (if_no _ _ _ apart) ∙ t.2)
]

pub beside_in : (es : List Place) (pss : List (List Place)) (e p : Place) → has (beside es pss e) p ≡ true → has (joined pss) p ≡ true
beside_in [] pss e p h = absurd (false≢true h)
beside_in (x ∷ xs) [] e p h = absurd (false≢true h)
beside_in (x ∷ xs) (ps ∷ pss) e p h = elim (cases_Bool (same x e)) [
  | inl y ↦ has_first_part ps (joined pss) p (sym (ap (λ (qs : List Place). has qs p) (if_yes _ _ _ y)) ∙ h)
  | inr n ↦ has_rest ps (joined pss) p (beside_in xs pss e p (sym (ap (λ (qs : List Place). has qs p) (if_no _ _ _ n)) ∙ h))
]
  where
    has_first_part : (xs ys : List Place) (p : Place) → has xs p ≡ true → has (xs ++ ys) p ≡ true
    has_first_part [] ys p h = absurd (false≢true h)
    has_first_part (x ∷ xs) ys p h = elim (either (same x p) (has xs p) h) [
      | inl y ↦ has_here x (xs ++ ys) p y
      | inr t ↦ has_more x (xs ++ ys) p (has_first_part xs ys p t)
    ]

    has_rest : (xs ys : List Place) (p : Place) → has ys p ≡ true → has (xs ++ ys) p ≡ true
    has_rest [] ys p h = h
    has_rest (x ∷ xs) ys p h = has_more x (xs ++ ys) p (has_rest xs ys p h)

module _ (image : Image) (all records blocks : List Place) where
  pub extent_found : (p : Place) → has all p ≡ true → found_heap image all records blocks p ≡ Some (extent (ext_at image p))
  extent_found p h = if_yes _ _ _ h

  pub record_found : (p : Place) → has all p ≡ false → has records p ≡ true → found_heap image all records blocks p ≡ Some (live (rec_at image p) (room_at image p))
  record_found p a h = if_no _ _ _ a ∙ if_yes _ _ _ h

  pub block_found : (p : Place) → has all p ≡ false → has records p ≡ false → has blocks p ≡ true → found_heap image all records blocks p ≡ Some (deleted (del_at image p) (room_at image p))
  block_found p a b h = if_no _ _ _ a ∙ if_no _ _ _ b ∙ if_yes _ _ _ h

  -- what stands there is one of the three
  pub found_is : (p : Place) (c : Cell) → found_heap image all records blocks p ≡ Some c → (has all p ≡ true) ⊎ ((has records p ≡ true) ⊎ (has blocks p ≡ true))
  found_is p c e = elim (cases_Bool (has all p)) [
    | inl a ↦ inl a
    | inr a ↦ elim (cases_Bool (has records p)) [
      | inl b ↦ inr (inl b)
      | inr b ↦ elim (cases_Bool (has blocks p)) [
        | inl d ↦ inr (inr d)
        | inr d ↦ absurd (let f : None ≡ Some c = sym (if_no _ _ _ a ∙ if_no _ _ _ b ∙ if_no _ _ _ d) ∙ e in cc)
      ]
    ]
  ]
