-- A place put behind the last of a chain.
use Rattle.std.proofs.Common.{◌≡◌, ◌⊎◌, inl, inr, Bool, true, false, List, [], ◌∷◌, Option, Some, None, refl, sym, ◌∙◌, ap}
use Rattle.std.specs.Prelude.{◌&&◌, not}
use Rattle.std.proofs.lemmas.Bool.{cases_Bool, false≢true}
use Rattle.mm_links.specs.Links.{Place, same, has, once, first_of, last_of, next_in, appended, IsLinked}
use Rattle.mm_links.proofs.LinkLaws.{same_is, same_own, same_of, same_not, not_same, next_here, next_there, has_here, has_there, has_more, has_first, has_next, has_before, once_parts, is_last, has_last}

pub has_appended : (xs : List Place) (p q : Place) → has (appended xs p) q ≡ true → (has xs q ≡ true) ⊎ (q ≡ p)
has_appended [] p q h = elim (cases_Bool (same p q)) [ inl y ↦ inr (sym (same_is p q y)) | inr n ↦ absurd (false≢true (sym (has_there p [] q n) ∙ h)) ]
has_appended (x ∷ xs) p q h = elim (cases_Bool (same x q)) [
  | inl y ↦ inl (has_here x xs q y)
  | inr n ↦ elim (has_appended xs p q (sym (has_there x (appended xs p) q n) ∙ h)) [ inl o ↦ inl (has_more x xs q o) | inr e ↦ inr e ]
]

pub has_stays : (xs : List Place) (p q : Place) → has xs q ≡ true → has (appended xs p) q ≡ true
has_stays [] p q h = absurd (false≢true h)
has_stays (x ∷ xs) p q h = elim (cases_Bool (same x q)) [ inl y ↦ has_here x (appended xs p) q y | inr n ↦ has_more x (appended xs p) q (has_stays xs p q (sym (has_there x xs q n) ∙ h)) ]

pub has_new : (xs : List Place) (p : Place) → has (appended xs p) p ≡ true
has_new [] p = has_here p [] p (same_own p)
has_new (x ∷ xs) p = has_more x (appended xs p) p (has_new xs p)

pub once_appended : (xs : List Place) (p : Place) → once xs ≡ true → has xs p ≡ false → once (appended xs p) ≡ true
once_appended [] p o h = refl
once_appended (x ∷ xs) p o h = let t = once_parts x xs o in elim (cases_Bool (same x p)) [
  | inl y ↦ absurd (false≢true (sym h ∙ has_here x xs p y))
  | inr n ↦ ap (λ (b : Bool). not b && once (appended xs p)) (absent x xs p t.0 n) ∙ once_appended xs p t.1 (sym (has_there x xs p n) ∙ h)
]
  where
    absent : (x : Place) (xs : List Place) (p : Place) → has xs x ≡ false → same x p ≡ false → has (appended xs p) x ≡ false
    absent x xs p g n = elim (cases_Bool (has (appended xs p) x)) [
      | inl y ↦ elim (has_appended xs p x y) [ inl o ↦ absurd (false≢true (sym g ∙ o)) | inr e ↦ absurd (not_same x p n e) ]
      | inr m ↦ m
    ]

-- what stands behind each
pub next_new : (xs : List Place) (p : Place) → has xs p ≡ false → next_in (appended xs p) p ≡ None
next_new [] p h = next_here p [] p (same_own p)
next_new (x ∷ xs) p h = elim (cases_Bool (same x p)) [
  | inl y ↦ absurd (false≢true (sym h ∙ has_here x xs p y))
  | inr n ↦ next_there x (appended xs p) p n ∙ next_new xs p (sym (has_there x xs p n) ∙ h)
]

pub next_last : (xs : List Place) (p q : Place) → once xs ≡ true → last_of xs ≡ Some q → next_in (appended xs p) q ≡ Some p
next_last [] p q o e = absurd cc
next_last (x ∷ []) p q o e = let f : x ≡ q = cc in next_here x (p ∷ []) q (same_of x q f)
next_last (x ∷ y ∷ ys) p q o e = let t = once_parts x (y ∷ ys) o in
    next_there x (appended (y ∷ ys) p) q (same_not x q (λ f. false≢true (sym t.0 ∙ ap (λ (r : Place). has (y ∷ ys) r) f ∙ has_last (y ∷ ys) q e))) ∙ next_last (y ∷ ys) p q t.1 e

pub next_stays : (xs : List Place) (p q r : Place) → next_in xs q ≡ Some r → next_in (appended xs p) q ≡ Some r
next_stays [] p q r e = absurd cc
next_stays (x ∷ xs) p q r e = elim (cases_Bool (same x q)) [
  | inl y ↦ next_here x (appended xs p) q y ∙ first xs (sym (next_here x xs q y) ∙ e)
  | inr n ↦ next_there x (appended xs p) q n ∙ next_stays xs p q r (sym (next_there x xs q n) ∙ e)
]
  where
    first : (ys : List Place) → first_of ys ≡ Some r → first_of (appended ys p) ≡ Some r
    first [] f = absurd cc
    first (y ∷ ys) f = f

pub last_new : (xs : List Place) (p : Place) → last_of (appended xs p) ≡ Some p
last_new [] p = refl
last_new (x ∷ []) p = refl
last_new (x ∷ y ∷ ys) p = last_new (y ∷ ys) p

pub first_new : (p : Place) (xs : List Place) → xs ≡ [] → first_of (appended xs p) ≡ Some p
first_new p xs e = ap (λ (ys : List Place). first_of (appended ys p)) e

-- A place is put behind the last: the last gets a link to it, and it a link back and none forward.
pub linked_on : {A : Type 0} (of : Option Place → A) (xs : List Place) (next prev next' prev' : Place → A) (p : Place) → IsLinked of xs next prev → has xs p ≡ false
    → next' p ≡ of None → prev' p ≡ of (last_of xs)
    → ((q : Place) → last_of xs ≡ Some q → next' q ≡ of (Some p)) → ((q r : Place) → next_in xs q ≡ Some r → next' q ≡ next q)
    → ((q : Place) → has xs q ≡ true → prev' q ≡ prev q) → IsLinked of (appended xs p) next' prev'
linked_on of xs next prev next' prev' p l h np pp nl ns ps = record {
  no_twice = once_appended xs p l.no_twice h;
  behind = λ q hq. elim (has_appended xs p q hq) [
    | inl old ↦ at q old (next_in xs q) refl
    | inr e ↦ ap next' e ∙ np ∙ ap of (sym (ap (next_in (appended xs p)) e ∙ next_new xs p h))
  ];
  before = λ q r e. back q r e;
  first = λ q e. front xs refl q e;
}
  where
    at : (q : Place) → has xs q ≡ true → (o : Option Place) → next_in xs q ≡ o → next' q ≡ of (next_in (appended xs p) q)
    at q hq None e = let last = is_last xs q hq e in nl q last ∙ ap of (sym (next_last xs p q l.no_twice last))
    at q hq (Some r) e = ns q r e ∙ l.behind q hq ∙ ap of (e ∙ sym (next_stays xs p q r e))

    back : (q r : Place) → next_in (appended xs p) q ≡ Some r → prev' r ≡ of (Some q)
    back q r e = elim (has_appended xs p q (has_before (appended xs p) q r e)) [
      | inl old ↦ by old (next_in xs q) refl
      | inr f ↦ absurd (let g : Some r ≡ None = sym e ∙ ap (next_in (appended xs p)) f ∙ next_new xs p h in cc)
    ]
      where
        by : has xs q ≡ true → (o : Option Place) → next_in xs q ≡ o → prev' r ≡ of (Some q)
        by old None f =
            let last = is_last xs q old f in
            let rp : Some r ≡ Some p = sym e ∙ next_last xs p q l.no_twice last in
            let same_r : r ≡ p = cc in
            ap prev' same_r ∙ pp ∙ ap of last
        by old (Some t) f =
            let rt : Some r ≡ Some t = sym e ∙ next_stays xs p q t f in
            let same_r : r ≡ t = cc in
            ap prev' same_r ∙ ps t (has_next xs q t f) ∙ l.before q t f

    front : (ys : List Place) → xs ≡ ys → (q : Place) → first_of (appended xs p) ≡ Some q → prev' q ≡ of None
    front [] i q e =
        let qp : Some p ≡ Some q = sym (first_new p xs i) ∙ e in
        let same_q : p ≡ q = cc in
        ap prev' (sym same_q) ∙ pp ∙ ap (λ (zs : List Place). of (last_of zs)) i
    front (y ∷ ys) i q e =
        let here : first_of xs ≡ Some q = ap first_of i ∙ sym (ap (λ (zs : List Place). first_of (appended zs p)) i) ∙ e in
        ps q (has_first xs q here) ∙ l.first q here
