-- Where files stand in some shape, phase 6 as a whole finds nothing, and finds the shape's chains.
use Rattle.std.proofs.Common.{◌≡◌, ℕ, pos, ◌⊎◌, inl, inr, Bool, true, false, List, [], ◌∷◌, ◌++◌, map, Some, refl, sym, ◌∙◌, ap}
use Rattle.std.specs.Prelude.{◌&&◌, not}
use Rattle.std.proofs.lemmas.Bool.{false≢true}
use Rattle.mm_frames.specs.declared.rec_header.RecHeader.{RecHeader}
use Rattle.mm_links.specs.Links.{Place, same, has, once}
use Rattle.mm_links.proofs.LinkLaws.{same_own, either, has_here, has_more, once_parts}
use Rattle.mm_extents.specs.Heap.{live}
use Rattle.mm_records.specs.Shape.{Shape}
use Rattle.mm_records.specs.Stands.{RecordsStand}
use Rattle.mm_walk.specs.Walk.{Reading, IsWhole, AreWhole, BreaksFirst}
use Rattle.mm_walk.proofs.WalkLaws.{all_whole_or_broken, all_whole_is_one}

no_true : (b : Bool) → (b ≡ true → ⊥) → b ≡ false
no_true true f = absurd (f refl)
no_true false f = refl

pub has_either : (xs ys : List Place) (p : Place) → has (xs ++ ys) p ≡ true → (has xs p ≡ true) ⊎ (has ys p ≡ true)
has_either [] ys p h = inr h
has_either (x ∷ xs) ys p h = elim (either (same x p) (has (xs ++ ys) p) h) [
  | inl y ↦ inl (has_here x xs p y)
  | inr t ↦ elim (has_either xs ys p t) [ inl a ↦ inl (has_more x xs p a) | inr b ↦ inr b ]
]

and_of : (a b : Bool) → a ≡ false → b ≡ true → (not a && b) ≡ true
and_of true b e f = absurd (false≢true (sym e))
and_of false b e f = f

pub once_append : (xs ys : List Place) → once xs ≡ true → once ys ≡ true → ((p : Place) → has xs p ≡ true → has ys p ≡ true → ⊥) → once (xs ++ ys) ≡ true
once_append [] ys a b f = b
once_append (x ∷ xs) ys a b f =
    let t = once_parts x xs a in
    and_of (has (xs ++ ys) x) (once (xs ++ ys))
    (no_true (has (xs ++ ys) x) (λ h. elim (has_either xs ys x h) [ inl i ↦ false≢true (sym t.0 ∙ i) | inr j ↦ f x (has_here x xs x (same_own x)) j ]))
    (once_append xs ys t.1 b (λ p i j. f p (has_more x xs p i) j))

module _ (free : List ℕ) (s : Shape) (st : RecordsStand free s) where
  -- a record is on the chain of one extent
  one_chain : (e f p : Place) → has (s.records e) p ≡ true → has (s.records f) p ≡ true → e ≡ f
  one_chain e f p i j =
      let a = st.on_chain e p i in let b = st.on_chain f p j in
      let h : a.h ≡ b.h = same_live a.h b.h a.room b.room (sym a.there ∙ b.there) in
      let o : pos e.1 ≡ pos f.1 = sym a.of_extent ∙ ap (λ (x : RecHeader). x.extent_ofs) h ∙ b.of_extent in
      let o' : e.1 ≡ f.1 = cc in
      let k : e.0 ≡ f.0 = sym a.file ∙ b.file in
      λ i. (k i, o' i)
    where
      same_live : (h g : RecHeader) (r q : List ℕ) → Some (live h r) ≡ Some (live g q) → h ≡ g
      same_live h g r q e = cc

  module _ (reading : Place → Reading) where
    pub phase_whole : (es : List Place) (seen : List Place) → once es ≡ true → once seen ≡ true → ((e p : Place) → has es e ≡ true → has (s.records e) p ≡ true → has seen p ≡ true → ⊥)
        → ((e : Place) → has es e ≡ true → (before : List Place) → once (s.records e ++ before) ≡ true → IsWhole (reading e) before (s.records e)) → AreWhole seen (map reading es) (map s.records es)
    phase_whole [] seen o k f w = tt
    phase_whole (e ∷ es) seen o k f w =
        let t = once_parts e es o in
        let fresh : once (s.records e ++ seen) ≡ true = once_append (s.records e) seen (st.linked e).no_twice k (λ p i j. f e p (has_here e es e (same_own e)) i j) in (
          w e (has_here e es e (same_own e)) seen fresh,
          phase_whole es (s.records e ++ seen) t.1 fresh
              (λ d p i j h. elim (has_either (s.records e) seen p h) [
                | inl a ↦ false≢true (sym t.0 ∙ ap (has es) (one_chain e d p a j) ∙ i)
                | inr b ↦ f d p (has_more e es d i) j b
              ])
              (λ d i. w d (has_more e es d i)),
        )

    -- phase 6 breaks nowhere, and what it finds are the chains of the shape
    pub phase_finds_nothing : (es : List Place) → once es ≡ true → ((e : Place) → has es e ≡ true → (before : List Place) → once (s.records e ++ before) ≡ true → IsWhole (reading e) before (s.records e)) → (at : Place) → BreaksFirst [] (map reading es) at → ⊥
    phase_finds_nothing es o w at b = all_whole_or_broken [] (map reading es) (map s.records es) at (phase_whole es [] o refl (λ e p i j h. false≢true h) w) b

    pub phase_finds_shape : (es : List Place) (pss : List (List Place)) → once es ≡ true → ((e : Place) → has es e ≡ true → (before : List Place) → once (s.records e ++ before) ≡ true → IsWhole (reading e) before (s.records e)) → AreWhole [] (map reading es) pss → pss ≡ map s.records es
    phase_finds_shape es pss o w a = all_whole_is_one [] (map reading es) pss (map s.records es) a (phase_whole es [] o refl (λ e p i j h. false≢true h) w)
