-- The keys of matching documents lie between the bounds.
use Rattle.std.proofs.Common.{◌≡◌, ◌≢◌, ℕ, pos, negsuc, Bool, true, false, List, [], Option, Some, None, inl, refl, sym, ap, ◌∙◌, subst}
use Rattle.std.specs.Prelude.{MatchBool, is_some, option_map, if◌then◌else◌}
use Rattle.std.specs.Str.{bytes_eq}
use Rattle.std.proofs.lemmas.Slice.Eq.{bytes_eq-Decides}
use Rattle.std.specs.declared.cmp.Ordering.TheVariants.{Equal, Greater}
use Rattle.std.specs.Ordering.{ordering_reverse}
use Rattle.mm_bson.specs.Tree.{Tree, min_key, null, int32, document, array, max_key, Elements, no_elements, element}
use Rattle.mm_bson.specs.Order.{compare}
use Rattle.mm_bson.specs.Path.{value_at_path}
use Rattle.mm_bson.proofs.Orders.{compare_total}
use Rattle.mm_keys.specs.Key.{or_null, keyed, key, IsArray, HasKey}
use Rattle.mm_keys.specs.KeyOrder.{by_sign, key_compare}
use Rattle.mm_query.specs.declared.side.Side.{Side}
use Rattle.mm_query.specs.declared.side.Side.TheVariants.{Low, High}
use Rattle.mm_query.specs.Form.{or, has_operators, is_and, is_or}
use Rattle.mm_query.specs.Match.{Equals, AllHold, MeetsAt, Matches, AllMatch, SomeMatch, Meets}
use Rattle.mm_query.specs.Bounds.{is_at, equal_to, from_side, extreme, limit_at, first_equal, value_bound, turned, extremes, key_from, bound, first_equality, Within, Bound}
use Rattle.mm_query.proofs.Outer.{equal_pair}
use Rattle.mm_query.proofs.ClassEnds.{then_within}
use Rattle.mm_query.proofs.Conditions.{equal_value, condition_holds}
use Rattle.mm_query.proofs.Asked.{fields}

-- ---- keys

step : (side : Side) (path : List ℕ) (sign t w : Tree) (spec b k : Elements) → by_sign sign (from_side side t w) ≢ Greater → Within side spec (Some b) k → Within side (element path sign spec) (Some (element [] t b)) (element [] w k)
step Low path sign t w spec b k first later = then_within (by_sign sign (compare t w)) (key_compare spec b k) first later
step High path sign t w spec b k first later = then_within (by_sign sign (compare w t)) (key_compare spec k b) first later

flipped : (side : Side) (t w : Tree) → from_side (turned (int32 (negsuc 0)) side) t w ≢ Greater → ordering_reverse (from_side side t w) ≢ Greater
flipped Low t w h e = h (compare_total.antisymm w t ∙ e)
flipped High t w h e = h (compare_total.antisymm t w ∙ e)

signed : (sign : Tree) (side : Side) (t w : Tree) → from_side (turned sign side) t w ≢ Greater → by_sign sign (from_side side t w) ≢ Greater
signed (int32 z) side t w h = (elim z as (λ y. from_side (turned (int32 y) side) t w ≢ Greater → by_sign (int32 y) (from_side side t w) ≢ Greater) [ pos n ↦ (λ k. k) | negsuc n ↦ flipped side t w ]) h
signed _ side t w h = h

least : (w : Tree) → compare min_key w ≢ Greater
least min_key e = cc
least _ e = cc

most : (w : Tree) → compare w max_key ≢ Greater
most max_key e = cc
most _ e = cc

extreme_within : (side : Side) (w : Tree) → from_side side (extreme side) w ≢ Greater
extreme_within Low w = least w
extreme_within High w = most w

extremes_within : (side : Side) (spec d : Elements) → Within side spec (Some (extremes side spec)) (key d spec)
extremes_within Low no_elements d = λ e. cc
extremes_within High no_elements d = λ e. cc
extremes_within side (element path sign spec) d =
    step side path sign (extreme (turned sign side)) (keyed path d) spec (extremes side spec) (key d spec)
    (signed sign side (extreme (turned sign side)) (keyed path d) (extreme_within (turned sign side) (keyed path d))) (extremes_within side spec d)

-- ---- equality

module _ (w : Tree) (flat : IsArray w → ⊥) where
  equal_within : (u t : Tree) (found : Bool) → MeetsAt u w found → equal_to u ≡ Some t → compare w t ≡ Equal
  equal_within (array vs) t found h is = absurd cc
  equal_within (document es) t found h is = by (has_operators es) h is
    where
      by : (b : Bool) → MatchBool b (AllHold es w found) (Equals (document es) w) → (if b then None else Some (document es)) ≡ Some t → compare w t ≡ Equal
      by true h is = absurd cc
      by false h is =
          let same : document es ≡ t = cc in
          sym (ap (compare w) same) ∙ equal_value w flat (document es) h
  equal_within u t found h is =
      let same : u ≡ t = cc in
      sym (ap (compare w) same) ∙ equal_value w flat u h

-- ---- fields of a filter

missing_null : (o : Option Tree) → is_some o ≡ false → or_null o ≡ null
missing_null None is = refl
missing_null (Some t) is = absurd cc

module _ (path : List ℕ) (d : Elements) (flat : IsArray (keyed path d) → ⊥) where
  field_equal : (name : List ℕ) (u t : Tree) → MatchBool (is_and name) (AllMatch u d) (MatchBool (is_or name) (SomeMatch u d) (Meets u (value_at_path name d)))
      → (if is_at path name then equal_to u else None) ≡ Some t → compare (keyed path d) t ≡ Equal
  field_equal name u t h is = by (is_and name) (is_or name) (bytes_eq name path) refl h is
    where
      by : (a o b : Bool) → bytes_eq name path ≡ b → MatchBool a (AllMatch u d) (MatchBool o (SomeMatch u d) (Meets u (value_at_path name d)))
          → (if (if a then false else (if o then false else b)) then equal_to u else None) ≡ Some t → compare (keyed path d) t ≡ Equal
      by true o b same h is = absurd cc
      by false true b same h is = absurd cc
      by false false false same h is = absurd cc
      by false false true same h is =
          let here : name ≡ path = (bytes_eq-Decides name path).0 same in
          equal_within (keyed path d) flat u t _ (subst (λ p. Meets u (value_at_path p d)) here h) is

  first_equal_holds : (filter : Elements) (t : Tree) → Matches filter d → first_equal path filter ≡ Some t → compare (keyed path d) t ≡ Equal
  first_equal_holds no_elements t h is = absurd cc
  first_equal_holds (element name u es) t h is = by (if is_at path name then equal_to u else None) refl is (λ later. first_equal_holds es t h.1 later)
    where
      by : (o : Option Tree) → (if is_at path name then equal_to u else None) ≡ o → or o (first_equal path es) ≡ Some t → (first_equal path es ≡ Some t → compare (keyed path d) t ≡ Equal) → compare (keyed path d) t ≡ Equal
      by None here is later = later is
      by (Some v) here is later =
          let same : v ≡ t = cc in
          field_equal name u t h.0 (here ∙ ap Some same)

value_within : (side : Side) (path : List ℕ) (filter d : Elements) (t : Tree) → (IsArray (keyed path d) → ⊥) → Matches filter d → value_bound side path filter ≡ Some t → from_side side t (keyed path d) ≢ Greater
value_within side path filter d t flat h is = by (first_equal path filter) refl is
  where
    by : (o : Option Tree) → first_equal path filter ≡ o → or o (limit_at side path filter) ≡ Some t → from_side side t (keyed path d) ≢ Greater
    by None here is = fields (λ v. from_side side v (keyed path d) ≢ Greater) side path d (λ u k. condition_holds (keyed path d) flat (is_some (value_at_path path d)) (missing_null (value_at_path path d)) side u k) filter h t is
    by (Some v) here is =
        let same : v ≡ t = cc in
        equal_pair side t (keyed path d) (first_equal_holds path d flat filter t h (here ∙ ap Some same))

-- ---- bounds

bound_within : (side : Side) (filter spec d : Elements) → Matches filter d → HasKey d spec → Within side spec (bound side filter spec) (key d spec)
bound_within side filter no_elements d h has = tt
bound_within side filter (element path sign spec) d h has = by (value_bound (turned sign side) path filter) refl
  where
    by : (o : Option Tree) → value_bound (turned sign side) path filter ≡ o → Within side (element path sign spec) (option_map (λ t. element [] t (extremes side spec)) o) (key d (element path sign spec))
    by None is = tt
    by (Some t) is =
        step side path sign t (keyed path d) spec (extremes side spec) (key d spec)
        (signed sign side t (keyed path d) (value_within (turned sign side) path filter d t (λ a. has.no_array (inl a)) h is)) (extremes_within side spec d)

pub all_within : (filter spec : Elements) (low high : Option Elements) → low ≡ bound Low filter spec → high ≡ bound High filter spec → Bound filter spec low high
all_within filter spec low high lower upper = λ d h has. (
  subst (λ b. Within Low spec b (key d spec)) (sym lower) (bound_within Low filter spec d h has),
  subst (λ b. Within High spec b (key d spec)) (sym upper) (bound_within High filter spec d h has),
)

-- an equality on the first path gives both bounds
pub equal_bound : (side : Side) (spec filter : Elements) (t : Tree) → first_equality spec filter ≡ Some t → bound side filter spec ≡ Some (key_from side t spec)
equal_bound side no_elements filter t is = absurd cc
equal_bound side (element path sign spec) filter t is = rw is refl
