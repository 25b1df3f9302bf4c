-- What is known of each limit that a condition gives is known of the tightest one.
use Rattle.std.proofs.Common.{◌≡◌, Bool, true, false, List, ℕ, Option, Some, None, refl, subst}
use Rattle.std.specs.Prelude.{MatchBool, if◌then◌else◌}
use Rattle.std.specs.Str.{bytes_eq}
use Rattle.std.proofs.lemmas.Slice.Eq.{bytes_eq-Decides}
use Rattle.mm_bson.specs.Tree.{Tree, document, array, Elements, no_elements, element, Values, no_values, item}
use Rattle.mm_bson.specs.Path.{value_at_path}
use Rattle.mm_query.specs.declared.side.Side.{Side}
use Rattle.mm_query.specs.Form.{is_and, is_or}
use Rattle.mm_query.specs.Match.{Matches, AllMatch, EachMatches, SomeMatch, Meets}
use Rattle.mm_query.specs.Bounds.{is_at, opposite, limit_in, limit_at, limit_inside, limit_each}
use Rattle.mm_query.proofs.Outer.{outer_of_keeps}

abbrev pub IfThere : (Tree → Type 0) → Option Tree → Type 0
IfThere P o = (t : Tree) → o ≡ Some t → P t

module _ (P : Tree → Type 0) (side : Side) (path : List ℕ) (d : Elements) (meets : (u : Tree) → Meets u (value_at_path path d) → IfThere P (limit_in side u)) where
  none_there : IfThere P None
  none_there t is = absurd cc

  here : (name : List ℕ) (u : Tree) → is_at path name ≡ true → Meets u (value_at_path name d) → IfThere P (limit_in side u)
  here name u at h = by (is_and name) (is_or name) at
    where
      by : (a o : Bool) → (if a then false else (if o then false else bytes_eq name path)) ≡ true → IfThere P (limit_in side u)
      by true o at = absurd cc
      by false true at = absurd cc
      by false false at =
          let same : name ≡ path = (bytes_eq-Decides name path).0 at in
          meets u (subst (λ p. Meets u (value_at_path p d)) same h)

  not_or : (name : List ℕ) → is_at path name ≡ true → is_or name ≡ false
  not_or name at = by (is_and name) (is_or name) at
    where
      by : (a o : Bool) → (if a then false else (if o then false else bytes_eq name path)) ≡ true → o ≡ false
      by true o at = absurd cc
      by false true at = absurd cc
      by false false at = refl

  asked : (o : Bool) (name : List ℕ) (u : Tree) → is_at path name ≡ true → is_or name ≡ o → MatchBool o (SomeMatch u d) (Meets u (value_at_path name d)) → IfThere P (limit_in side u)
  asked false name u at or h = here name u at h
  asked true name u at or h =
      let wrong : true ≡ false = rw or at (not_or name at) in
      absurd cc

  field : (name : List ℕ) (u : Tree) → (AllMatch u d → IfThere P (limit_inside side path u)) → MatchBool (is_and name) (AllMatch u d) (MatchBool (is_or name) (SomeMatch u d) (Meets u (value_at_path name d)))
      → IfThere P (if is_and name then limit_inside side path u else (if is_at path name then limit_in side u else None))
  field name u inside h = by (is_and name) (is_at path name) refl h
    where
      by : (a b : Bool) → is_at path name ≡ b → MatchBool a (AllMatch u d) (MatchBool (is_or name) (SomeMatch u d) (Meets u (value_at_path name d))) → IfThere P (if a then limit_inside side path u else (if b then limit_in side u else None))
      by true b at h = inside h
      by false false at h = none_there
      by false true at h = asked (is_or name) name u at refl h

  mutual
    pub fields : (es : Elements) → Matches es d → IfThere P (limit_at side path es)
    fields no_elements h = none_there
    fields (element name u es) h =
        outer_of_keeps P (opposite side) (if is_and name then limit_inside side path u else (if is_at path name then limit_in side u else None)) (limit_at side path es) (field name u (λ k. inside u k) h.0) (fields es h.1)

    inside : (u : Tree) → AllMatch u d → IfThere P (limit_inside side path u)
    inside (document es) h = fields es h
    inside (array vs) h = each vs h
    inside _ h = absurd h

    each : (vs : Values) → EachMatches vs d → IfThere P (limit_each side path vs)
    each no_values h = none_there
    each (item u vs) h = outer_of_keeps P (opposite side) (limit_inside side path u) (limit_each side path vs) (inside u h.0) (each vs h.1)
