-- How many records and bytes a namespace can have.
use Rattle.std.proofs.Common.{◌≡◌, ℕ, ◌*◌, ◌^◌, ◌<◌, ◌≤◌, ◌⊎◌, inl, inr, Bool, true, false, List, [], ◌∷◌, ◌++◌, length, Some, refl, sym, ◌∙◌, ap, arith}
use Rattle.std.specs.Prelude.{flat_map, sum_by, not, ◌&&◌, pos}
use Rattle.std.proofs.lemmas.Bool.{cases_Bool, false≢true}
use Rattle.std.proofs.lemmas.List.Sums.{sum_by-cons}
use Rattle.mm_ranges.specs.Overlay.{Image}
use Rattle.mm_frames.specs.declared.rec_header.RecHeader.{RecHeader}
use Rattle.mm_frames.specs.declared.details.Details.{Details}
use Rattle.mm_links.specs.Links.{Place, same, has, once}
use Rattle.mm_links.proofs.LinkLaws.{same_is, same_own, has_here, has_there, has_more, once_parts}
use Rattle.mm_extents.specs.Heap.{live}
use Rattle.mm_extents.proofs.FileLaws.{low_place, short_file}
use Rattle.mm_extents.proofs.Walks.{not_longer}
use Rattle.mm_records.specs.Shape.{Shape}
use Rattle.mm_records.specs.Stands.{IsRecord, walk, room_of}
use Rattle.mm_records.specs.InHand.{StandsWith}
use Rattle.mm_records.proofs.Lists.{has_before_rest}

has_either : (xs ys : List Place) (q : Place) → has (xs ++ ys) q ≡ true → (has xs q ≡ true) ⊎ (has ys q ≡ true)
has_either [] ys q h = inr h
has_either (x ∷ xs) ys q h = elim (cases_Bool (same x q)) [
  | inl y ↦ inl (has_here x xs q y)
  | inr n ↦ elim (has_either xs ys q (sym (has_there x (xs ++ ys) q n) ∙ h)) [ inl a ↦ inl (has_more x xs q a) | inr b ↦ inr b ]
]

has_behind : (xs ys : List Place) (q : Place) → has ys q ≡ true → has (xs ++ ys) q ≡ true
has_behind [] ys q h = h
has_behind (x ∷ xs) ys q h = has_more x (xs ++ ys) q (has_behind xs ys q h)

once_both : (xs ys : List Place) → once xs ≡ true → once ys ≡ true → ((q : Place) → has xs q ≡ true → has ys q ≡ false) → once (xs ++ ys) ≡ true
once_both [] ys a b n = b
once_both (x ∷ xs) ys a b n =
    let t = once_parts x xs a in
    let off : has (xs ++ ys) x ≡ false = elim (cases_Bool (has (xs ++ ys) x)) [
      | inl y ↦ elim (has_either xs ys x y) [ inl i ↦ absurd (false≢true (sym t.0 ∙ i)) | inr i ↦ absurd (false≢true (sym (n x (has_here x xs x (same_own x))) ∙ i)) ]
      | inr m ↦ m
    ] in
    ap (λ (z : Bool). not z && once (xs ++ ys)) off ∙ once_both xs ys t.1 b (λ q i. n q (has_more x xs q i))

pub record Owner (r : Place → List Place) (es : List Place) (q : Place) : Type 0 where
  pub e : Place
  pub on : has es e ≡ true
  pub has : has (r e) q ≡ true

pub has_flat : (r : Place → List Place) (es : List Place) (q : Place) → has (flat_map r es) q ≡ true → Owner r es q
has_flat r [] q h = absurd (false≢true h)
has_flat r (e ∷ es) q h = elim (has_either (r e) (flat_map r es) q h) [
  | inl i ↦ record { e = e; on = has_here e es e (same_own e); has = i }
  | inr i ↦ let o = has_flat r es q i in record { e = o.e; on = has_more e es o.e o.on; has = o.has }
]

pub flat_has : (r : Place → List Place) (es : List Place) (e q : Place) → has es e ≡ true → has (r e) q ≡ true → has (flat_map r es) q ≡ true
flat_has r [] e q h i = absurd (false≢true h)
flat_has r (x ∷ xs) e q h i = elim (cases_Bool (same x e)) [
  | inl y ↦ has_before_rest (r x) (flat_map r xs) q (ap (λ (z : Place). has (r z) q) (same_is x e y) ∙ i)
  | inr n ↦ has_behind (r x) (flat_map r xs) q (flat_has r xs e q (sym (has_there x xs e n) ∙ h) i)
]

once_flat : (r : Place → List Place) (es : List Place) → once es ≡ true → ((e : Place) → once (r e) ≡ true) → ((e f q : Place) → has (r e) q ≡ true → has (r f) q ≡ true → e ≡ f) → once (flat_map r es) ≡ true
once_flat r [] o each one = refl
once_flat r (e ∷ es) o each one =
    let t = once_parts e es o in
    once_both (r e) (flat_map r es) (each e) (once_flat r es t.1 each one) (λ q i. elim (cases_Bool (has (flat_map r es) q)) [
      | inl y ↦ let w = has_flat r es q y in absurd (false≢true (sym t.0 ∙ ap (λ (x : Place). has es x) (one e w.e q i w.has) ∙ w.on))
      | inr n ↦ n
    ])

sum_most : (w : Place → ℕ) (xs : List Place) → ((q : Place) → has xs q ≡ true → w q ≤ 67108864) → sum_by w xs ≤ length xs * 67108864
sum_most w [] b = let z : sum_by w [] ≡ 0 = refl in omega (arith, z)
sum_most w (x ∷ xs) b =
    let here = b x (has_here x xs x (same_own x)) in
    let rest = sum_most w xs (λ q i. b q (has_more x xs q i)) in
    let whole = sum_by-cons w x xs in
    omega (arith, here, rest, whole)

module _ (image : Image) (free : List ℕ) (s : Shape) (node : ℕ) (d : Details) (st : StandsWith image free s node d) (name : List ℕ) where
  one_extent : (f g q : Place) → has (s.records f) q ≡ true → has (s.records g) q ≡ true → f ≡ g
  one_extent f g q x y = by (st.records.on_chain f q x) (st.records.on_chain g q y)
    where
      by : IsRecord s.heap f q → IsRecord s.heap g q → f ≡ g
      by r t =
          let cells : Some (live r.h r.room) ≡ Some (live t.h t.room) = sym r.there ∙ t.there in
          let heads : r.h ≡ t.h = cc in
          let ofs : pos f.1 ≡ pos g.1 = sym r.of_extent ∙ ap (λ (z : RecHeader). z.extent_ofs) heads ∙ t.of_extent in
          let second : f.1 ≡ g.1 = cc in
          let first : f.0 ≡ g.0 = sym r.file ∙ t.file in
          λ i. (first i, second i)

  pub walk_once : once (walk s name) ≡ true
  walk_once = once_flat s.records (s.extents name) (st.extents.linked name).no_twice (λ e. (st.records.linked e).no_twice) one_extent

  record_of : (q : Place) → has (walk s name) q ≡ true → (h : RecHeader) × ((room : List ℕ) × (s.heap q ≡ Some (live h room)))
  record_of q i = let o = has_flat s.records (s.extents name) q i in let r = st.records.on_chain o.e q o.has in (r.h, (r.room, r.there))

  pub few_records : length (walk s name) ≤ 536870912
  few_records = not_longer (walk s name) (λ q i. let r = record_of q i in low_place image s.heap q (live r.0 r.1.0) st.files st.heap r.1.1) walk_once

  pub few_bytes : sum_by (λ q. room_of (s.heap q)) (walk s name) < 2 ^ 62
  few_bytes =
      let most = sum_most (λ q. room_of (s.heap q)) (walk s name) (λ q i.
      let r = record_of q i in
      let inside = st.heap.inside q (live r.0 r.1.0) r.1.1 in
      let short = short_file image st.files q.0 (st.heap.data_file q (live r.0 r.1.0) r.1.1) in
      let e = ap room_of r.1.1 in
      omega (arith, inside, short, e)) in
      let few = few_records in
      omega (arith, most, few)
