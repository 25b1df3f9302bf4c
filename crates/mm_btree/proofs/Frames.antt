-- What stands in some buckets stands in others that are the same there.
use Rattle.std.proofs.lemmas.Bool.{or_left, or_right, or_cases, cases_Bool, false_from_ne_true}
use Rattle.mm_btree.proofs.Places.{place_eq-true, place_eq-is, place_differ}
use Rattle.std.proofs.Common.{◌≢◌, ◌⊎◌, inl, inr, ◌≡◌, ℕ, zero, suc, true, false, List, [], ◌∷◌, map, None, refl, sym, ap, ◌∙◌, subst}
use Rattle.mm_base.specs.declared.place.DiskLoc.{DiskLoc}
use Rattle.std.specs.List.{AllByRecursion}
use Rattle.mm_btree.specs.Nodes.{Item, place_eq, Buckets, with_parent}
use Rattle.mm_btree.specs.Changes.{adopted}
use Rattle.mm_btree.specs.Lists.{has, Distinct}
use Rattle.mm_btree.specs.Trees.{Sub, at_of, all_places, IsOver, Stands, Below}
use Rattle.mm_btree.proofs.ListLaws.{has-append, has-in_left, has-in_right, distinct-apart, distinct-left, distinct-right}

-- what holds of each one, as the same buckets are in its places
all_same : (P Q : Sub → Type 0) (ok : DiskLoc → Type 0) → ((c : Sub) → ((q : DiskLoc) → has q c.places ≡ true → ok q) → P c → Q c)
    → (cs : List Sub) → ((q : DiskLoc) → has q (all_places cs) ≡ true → ok q) → AllByRecursion P cs → AllByRecursion Q cs
all_same P Q ok f [] same h = tt
all_same P Q ok f (c ∷ cs) same h = (
  f c (λ q k. same q (has-in_left q c.places (all_places cs) k)) h.0,
  all_same P Q ok f cs (λ q k. same q (has-in_right q c.places (all_places cs) k)) h.1,
)

root_in : (q : DiskLoc) (xs ys : List DiskLoc) → xs ≡ q ∷ ys → has q xs ≡ true
root_in q xs ys e = rw e (or_left (place_eq q q) (has q ys) (place_eq-is q q refl))

pub stands : (m : Buckets) (up : DiskLoc) (least h : ℕ) (s : Sub) (ps : List Item) (cs : List Sub) → IsOver m up least s ps cs → Below m s.at h ps cs → Stands m up least h s
stands m up least zero s ps cs b t = (ps, cs, b, t)
stands m up least (suc h) s ps cs b t = (ps, cs, b, t)

-- a subtree's bucket, and what is below it
abbrev pub Opened : Buckets → DiskLoc → ℕ → ℕ → Sub → Type 0
Opened m up least h s = (ps : List Item) × (cs : List Sub) × IsOver m up least s ps cs × Below m s.at h ps cs

pub opened : (m : Buckets) (up : DiskLoc) (least h : ℕ) (s : Sub) → Stands m up least h s → Opened m up least h s
opened m up least zero s t = (t.0, t.1, t.2, t.3)
opened m up least (suc h) s t = (t.0, t.1, t.2, t.3)

bucket_same : (m n : Buckets) (up : DiskLoc) (least : ℕ) (s : Sub) (ps : List Item) (cs : List Sub) → ((q : DiskLoc) → has q s.places ≡ true → n q ≡ m q) → IsOver m up least s ps cs → IsOver n up least s ps cs
bucket_same m n up least s ps cs same b =
    record { bucket = same s.at (root_in s.at s.places (all_places cs) b.places) ∙ b.bucket; pairs = b.pairs; places = b.places; some = b.some }

pub below_in : (m : Buckets) (up : DiskLoc) (least : ℕ) (s : Sub) (ps : List Item) (cs : List Sub) → IsOver m up least s ps cs → (q : DiskLoc) → has q (all_places cs) ≡ true → has q s.places ≡ true
below_in m up least s ps cs b q k = subst (λ (xs : List DiskLoc). has q xs ≡ true) (sym b.places) (or_right (place_eq q s.at) (has q (all_places cs)) k)

pub stands_same : (m n : Buckets) (up : DiskLoc) (least h : ℕ) (s : Sub) → ((q : DiskLoc) → has q s.places ≡ true → n q ≡ m q) → Stands m up least h s → Stands n up least h s
stands_same m n up least zero s same t = (t.0, t.1, bucket_same m n up least s t.0 t.1 same t.2, t.3)
stands_same m n up least (suc h) s same t = (
  t.0,
  t.1,
  bucket_same m n up least s t.0 t.1 same t.2,
  (
    t.3.0,
    all_same (Stands m s.at 1 h) (Stands n s.at 1 h) (λ q. n q ≡ m q) (λ c k. stands_same m n s.at 1 h c k) t.1
        (λ q k. same q (below_in m up least s t.0 t.1 t.2 q k)) t.3.1,
  ),
)

pub all_stand_same : (m n : Buckets) (up : DiskLoc) (h : ℕ) (cs : List Sub) → ((q : DiskLoc) → has q (all_places cs) ≡ true → n q ≡ m q) → AllByRecursion (Stands m up 1 h) cs → AllByRecursion (Stands n up 1 h) cs
all_stand_same m n up h cs same t = all_same (Stands m up 1 h) (Stands n up 1 h) (λ q. n q ≡ m q) (λ c k. stands_same m n up 1 h c k) cs same t

pub below_same : (m n : Buckets) (at : DiskLoc) (h : ℕ) (ps : List Item) (cs : List Sub) → ((q : DiskLoc) → has q (all_places cs) ≡ true → n q ≡ m q) → Below m at h ps cs → Below n at h ps cs
below_same m n at zero ps cs same t = t
below_same m n at (suc h) ps cs same t = (t.0, all_stand_same m n at h cs same t.1)

-- the subtree that has the place
find_sub : (P : Sub → Type 0) (R : Type 0) (q : DiskLoc) (cs : List Sub) → has q (all_places cs) ≡ true → AllByRecursion P cs → ((c : Sub) → P c → has q c.places ≡ true → R) → R
find_sub P R q [] k h f = absurd cc
find_sub P R q (c ∷ cs) k h f = by (cases_Bool (has q c.places)) (λ e. find_sub P R q cs e h.1 f)
  where
    by : ((has q c.places ≡ true) ⊎ (has q c.places ≡ false)) → (has q (all_places cs) ≡ true → R) → R
    by (inl e) g = f c h.0 e
    by (inr e) g = g (sym (rw (has-append q c.places (all_places cs), e) refl) ∙ k)

bucket_some : (m : Buckets) (up : DiskLoc) (least : ℕ) (s : Sub) (ps : List Item) (cs : List Sub) (q : DiskLoc) → IsOver m up least s ps cs → place_eq q s.at ≡ true → m q ≢ None
bucket_some m up least s ps cs q b k e =
    let here : q ≡ s.at = place_eq-true q s.at k in
    let one = b.bucket in
    let two : m s.at ≡ None = subst (λ (z : DiskLoc). m z ≡ None) here e in
    cc

-- a bucket stands in each place
pub stands_some : (m : Buckets) (up : DiskLoc) (least h : ℕ) (s : Sub) → Stands m up least h s → (q : DiskLoc) → has q s.places ≡ true → m q ≢ None
stands_some m up least zero s t q k e = by (or_cases (place_eq q s.at) (has q (all_places t.1)) (subst (λ (xs : List DiskLoc). has q xs ≡ true) t.2.places k))
  where
    by : ((place_eq q s.at ≡ true) ⊎ (has q (all_places t.1) ≡ true)) → ⊥
    by (inl f) = bucket_some m up least s t.0 t.1 q t.2 f e
    by (inr f) = let none = t.3 in let g : has q (all_places []) ≡ true = subst (λ (cs : List Sub). has q (all_places cs) ≡ true) none f in cc
stands_some m up least (suc h) s t q k e = by (or_cases (place_eq q s.at) (has q (all_places t.1)) (subst (λ (xs : List DiskLoc). has q xs ≡ true) t.2.places k)) (λ f. find_sub (Stands m s.at 1 h) ⊥ q t.1 f t.3.1 (λ c d g. stands_some m s.at 1 h c d q g e))
  where
    by : ((place_eq q s.at ≡ true) ⊎ (has q (all_places t.1) ≡ true)) → (has q (all_places t.1) ≡ true → ⊥) → ⊥
    by (inl f) g = bucket_some m up least s t.0 t.1 q t.2 f e
    by (inr f) g = g f

pub all_some : (m : Buckets) (up : DiskLoc) (h : ℕ) (cs : List Sub) → AllByRecursion (Stands m up 1 h) cs → (q : DiskLoc) → has q (all_places cs) ≡ true → m q ≢ None
all_some m up h cs t q k e = find_sub (Stands m up 1 h) ⊥ q cs k t (λ c d g. stands_some m up 1 h c d q g e)

pub below_some : (m : Buckets) (at : DiskLoc) (h : ℕ) (ps : List Item) (cs : List Sub) → Below m at h ps cs → (q : DiskLoc) → has q (all_places cs) ≡ true → m q ≢ None
below_some m at zero ps cs t q k e = let g : has q (all_places []) ≡ true = subst (λ (xs : List Sub). has q (all_places xs) ≡ true) t k in cc
below_some m at (suc h) ps cs t q k e = all_some m at h cs t.1 q k e

-- ---- another parent

root_of : (m : Buckets) (up : DiskLoc) (least h : ℕ) (s : Sub) → Stands m up least h s → has s.at s.places ≡ true
root_of m up least h s t = let o = opened m up least h s t in root_in s.at s.places (all_places o.1) o.2.places

pub stands_adopted : (m n : Buckets) (up above : DiskLoc) (least h : ℕ) (s : Sub) → Distinct s.places → Stands m up least h s
    → n s.at ≡ with_parent above (m s.at) → ((q : DiskLoc) → has q s.places ≡ true → place_eq q s.at ≡ false → n q ≡ m q) → Stands n above least h s
stands_adopted m n up above least h s d t here others =
    let o = opened m up least h s t in
    let b = o.2 in
    let d2 = subst Distinct b.places d in
    stands n above least h s o.0 o.1
    (record { bucket = here ∙ ap (with_parent above) b.bucket; pairs = b.pairs; places = b.places; some = b.some })
    (below_same m n s.at h o.0 o.1 (λ q k. others q (below_in m up least s o.0 o.1 b q k) (not_root q (all_places o.1) d2.0 k)) o.3)
  where
    not_root : (q : DiskLoc) (xs : List DiskLoc) → has s.at xs ≡ false → has q xs ≡ true → place_eq q s.at ≡ false
    not_root q xs out within = place_differ q s.at (λ e. let two : has s.at xs ≡ true = subst (λ (z : DiskLoc). has z xs ≡ true) e within in cc)

pub roots_in : (m : Buckets) (up : DiskLoc) (h : ℕ) (cs : List Sub) → AllByRecursion (Stands m up 1 h) cs → (q : DiskLoc) → has q (map at_of cs) ≡ true → has q (all_places cs) ≡ true
roots_in m up h [] t q k = cc
roots_in m up h (c ∷ cs) t q k = by (or_cases (place_eq q c.at) (has q (map at_of cs)) k) (roots_in m up h cs t.1 q)
  where
    by : ((place_eq q c.at ≡ true) ⊎ (has q (map at_of cs) ≡ true)) → (has q (map at_of cs) ≡ true → has q (all_places cs) ≡ true) → has q (all_places (c ∷ cs)) ≡ true
    by (inl e) g = has-in_left q c.places (all_places cs) (subst (λ (z : DiskLoc). has z c.places ≡ true) (sym (place_eq-true q c.at e)) (root_of m up 1 h c t.0))
    by (inr e) g = has-in_right q c.places (all_places cs) (g e)

pub all_adopted : (m n : Buckets) (up above : DiskLoc) (h : ℕ) (cs : List Sub) → Distinct (all_places cs) → AllByRecursion (Stands m up 1 h) cs
    → ((q : DiskLoc) → has q (all_places cs) ≡ true → n q ≡ adopted m (map at_of cs) above q) → AllByRecursion (Stands n above 1 h) cs
all_adopted m n up above h [] d t same = tt
all_adopted m n up above h (c ∷ cs) d t same =
    let apart = distinct-apart c.places (all_places cs) d in (
      stands_adopted m n up above 1 h c (distinct-left c.places (all_places cs) d) t.0
          (same c.at (has-in_left c.at c.places (all_places cs) (root_of m up 1 h c t.0)) ∙ rw (place_eq-is c.at c.at refl) refl)
          (λ q k out. same q (has-in_left q c.places (all_places cs) k) ∙ rw (out, no_root q (apart q k)) refl),
      all_adopted m n up above h cs (distinct-right c.places (all_places cs) d) t.1
          (λ q k. same q (has-in_right q c.places (all_places cs) k) ∙ rw (other q (λ e. apart q e) k) refl),
    )
  where
    no_root : (q : DiskLoc) → has q (all_places cs) ≡ false → has q (map at_of cs) ≡ false
    no_root q out = false_from_ne_true (has q (map at_of cs)) (λ e. let two = roots_in m up h cs t.1 q e in cc)

    other : (q : DiskLoc) → (has q c.places ≡ true → has q (all_places cs) ≡ false) → has q (all_places cs) ≡ true → place_eq q c.at ≡ false
    other q apart k = place_differ q c.at (λ e. let two = apart (subst (λ (z : DiskLoc). has z c.places ≡ true) (sym e) (root_of m up 1 h c t.0)) in cc)
