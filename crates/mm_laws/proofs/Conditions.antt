-- Conditions together, and the operators $in and $exists.
use Rattle.std.proofs.Common.{◌≡◌, ℕ, Bool, true, false, List, ◌⊎◌, inl, inr, sym, ap}
use Rattle.std.specs.Prelude.{◌↔◌, is_some, codes}
use Rattle.mm_bson.specs.Tree.{Tree, document, array, boolean, Elements, no_elements, element, Values, no_values, item}
use Rattle.mm_bson.specs.Path.{value_at_path}
use Rattle.mm_keys.specs.Key.{or_null}
use Rattle.mm_query.specs.Form.{has_dollar}
use Rattle.mm_query.specs.Match.{SomeOf, Equals, Matches}
use Rattle.mm_query.specs.Laws.{asks, is_plain}
use Rattle.mm_query.proofs.Contrary.{no_and, no_or}
use Rattle.mm_laws.specs.Conditions.{FieldsJoin, ArePlain, InIsSomeEquality, ExistsTells, AbsenceTells}

pub fields_join : FieldsJoin
fields_join no_elements fs d = (λ h. (tt, h), λ h. h.1)
fields_join (element name t es) fs d =
    let later = fields_join es fs d in
    (λ h. let k = later.0 h.1 in ((h.0, k.0), k.1), λ h. (h.0.0, later.1 (h.0.1, h.1)))

-- a condition that isn't operators is equality
equality_is : (path : List ℕ) (u : Tree) (d : Elements) → has_dollar path ≡ false → is_plain u false → Matches (element path u no_elements) d ↔ Equals u (or_null (value_at_path path d))
equality_is path (document es) d plain right = rw (no_and path plain, no_or path plain, right) (λ h. h.0, λ h. (h, tt))
equality_is path u d plain right = rw (no_and path plain, no_or path plain) (λ h. h.0, λ h. (h, tt))

each_is : (path : List ℕ) (vs : Values) (d : Elements) → has_dollar path ≡ false → ArePlain vs → SomeOf (λ v. Equals v (or_null (value_at_path path d))) vs ↔ SomeOf (λ u. Matches (element path u no_elements) d) vs
each_is path no_values d plain right = (λ h. h, λ h. h)
each_is path (item u vs) d plain right = let later = each_is path vs d plain right.1 in (there later.0, back later.1)
  where
    there : (SomeOf (λ v. Equals v (or_null (value_at_path path d))) vs → SomeOf (λ v. Matches (element path v no_elements) d) vs) → Equals u (or_null (value_at_path path d)) ⊎ SomeOf (λ v. Equals v (or_null (value_at_path path d))) vs → Matches (element path u no_elements) d ⊎ SomeOf (λ v. Matches (element path v no_elements) d) vs
    there later (inl h) = inl ((equality_is path u d plain right.0).1 h)
    there later (inr h) = inr (later h)

    back : (SomeOf (λ v. Matches (element path v no_elements) d) vs → SomeOf (λ v. Equals v (or_null (value_at_path path d))) vs) → Matches (element path u no_elements) d ⊎ SomeOf (λ v. Matches (element path v no_elements) d) vs → Equals u (or_null (value_at_path path d)) ⊎ SomeOf (λ v. Equals v (or_null (value_at_path path d))) vs
    back later (inl h) = inl ((equality_is path u d plain right.0).0 h)
    back later (inr h) = inr (later h)

in_as_some : (path : List ℕ) (vs : Values) (d : Elements) → has_dollar path ≡ false → Matches (asks path (codes "$in") (array vs)) d ↔ SomeOf (λ v. Equals v (or_null (value_at_path path d))) vs
in_as_some path vs d plain = rw (no_and path plain, no_or path plain) (λ h. h.0.0, λ h. ((h, tt), tt))

pub in_is_some_equality : InIsSomeEquality
in_is_some_equality path vs d plain right =
    let one = in_as_some path vs d plain in
    let two = each_is path vs d plain right in
    (λ h. two.0 (one.0 h), λ h. one.1 (two.1 h))

same_boolean : (a b : Bool) → boolean a ≡ boolean b → b ≡ a
same_boolean a b h = cc

pub exists_tells : ExistsTells
exists_tells path d plain = rw (no_and path plain, no_or path plain) (λ h. same_boolean true (is_some (value_at_path path d)) h.0.0, λ h. ((ap boolean (sym h), tt), tt))

pub absence_tells : AbsenceTells
absence_tells path d plain = rw (no_and path plain, no_or path plain) (λ h. same_boolean false (is_some (value_at_path path d)) h.0.0, λ h. ((ap boolean (sym h), tt), tt))
