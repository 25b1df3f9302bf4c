-- A root over two buckets, and a list in order with one more.
use Rattle.std.proofs.lemmas.Bool.{or_parts, or_right, or_cases, cases_Bool, false_from_ne_true}
use Rattle.mm_btree.proofs.Places.{place_eq-true, place_eq-is, place_differ}
use Rattle.std.proofs.lemmas.List.{length-map, append-nil}
use Rattle.std.proofs.Common.{◌≡◌, ◌⊎◌, inl, inr, ℕ, suc, Bool, true, false, List, [], ◌∷◌, length, Some, None, cond, refl, sym, ap, ◌∙◌, subst, arith}
use Rattle.mm_base.specs.declared.place.DiskLoc.{DiskLoc}
use Rattle.std.specs.List.{AllByRecursion}
use Rattle.mm_btree.specs.Nodes.{Item, place_eq, Buckets}
use Rattle.mm_btree.specs.Changes.{Up, StandsAt, rooted_map}
use Rattle.mm_base.specs.Places.{null}
use Rattle.mm_btree.specs.Lists.{has, Distinct, ins, Sorted, Chains, Told}
use Rattle.mm_btree.specs.Trees.{Sub, at_of, all_places, Stands, Moves, Became, sub}
use Rattle.mm_btree.proofs.Frames.{stands, all_adopted, all_some, roots_in}
use Rattle.mm_btree.proofs.Moved.{moves_then}

-- ---- order

-- what holds of x and of each holds of each with x among them
ins_all : {P : Type 0} (lt : P → P → Bool) (A : P → Type 0) (x : P) (xs : List P) → A x → AllByRecursion A xs → AllByRecursion A (ins lt x xs)
ins_all lt A x [] a h = (a, tt)
ins_all lt A x (y ∷ ys) a h = by (lt x y) (ins_all lt A x ys a h.1)
  where
    by : (b : Bool) → AllByRecursion A (ins lt x ys) → AllByRecursion A (cond b (x ∷ y ∷ ys) (y ∷ ins lt x ys))
    by true k = (a, h)
    by false k = (h.0, k)

all_greater : {P : Type 0} (lt : P → P → Bool) → Chains lt → (x y : P) (ys : List P) → lt x y ≡ true → AllByRecursion (λ z. lt y z ≡ true) ys → AllByRecursion (λ z. lt x z ≡ true) ys
all_greater lt ch x y [] e h = tt
all_greater lt ch x y (z ∷ ys) e h = (ch x y z e h.0, all_greater lt ch x y ys e h.1)

pub sorted_ins : {P : Type 0} (lt : P → P → Bool) → Chains lt → (x : P) (xs : List P) → AllByRecursion (Told lt x) xs → Sorted lt xs → Sorted lt (ins lt x xs)
sorted_ins lt ch x [] told s = (tt, tt)
sorted_ins lt ch x (y ∷ ys) told s = by (cases_Bool (lt x y)) (sorted_ins lt ch x ys told.1 s.1)
  where
    by : ((lt x y ≡ true) ⊎ (lt x y ≡ false)) → Sorted lt (ins lt x ys) → Sorted lt (cond (lt x y) (x ∷ y ∷ ys) (y ∷ ins lt x ys))
    by (inl e) k = rw e ((e, all_greater lt ch x y ys e s.0), s)
    by (inr e) k = rw e (ins_all lt (λ z. lt y z ≡ true) x ys (told.0 e) s.0, k)

-- ---- a new root

pub rooted : (lt : Item → Item → Bool) (m n n2 : Buckets) (h : ℕ) (root p : DiskLoc) (old : List DiskLoc) (list : List Item) (u : Up) (ds : List Sub) → Became m n null h old list (root ∷ u.right ∷ []) (u.mid ∷ []) ds → Sorted lt list → n p ≡ None
    → ((q : DiskLoc) → n2 q ≡ rooted_map n p root u q)
    → StandsAt lt n2 null (suc h) (sub p (u.mid ∷ []) ds) p × Moves m n2 old (p ∷ all_places ds)
rooted lt m n n2 h root p old list u ds g so free same =
    let A = all_places ds in
    let some = all_some n null h ds g.stand in
    let p_out : has p A ≡ false = false_from_ne_true (has p A) (λ e. some p e free) in
    let kids_in : (q : DiskLoc) → has q (root ∷ u.right ∷ []) ≡ true → has q A ≡ true = λ q e. roots_in n null h ds g.stand q (subst (λ (xs : List DiskLoc). has q xs ≡ true) (sym g.placed) e) in
    let not_kid : (q : DiskLoc) → has q A ≡ false → has q (root ∷ u.right ∷ []) ≡ false = λ q o. false_from_ne_true (has q (root ∷ u.right ∷ [])) (λ e. let two = kids_in q e in cc) in
    let not_p : (q : DiskLoc) → has q A ≡ true → place_eq q p ≡ false = λ q e. place_differ q p (λ f. some q e (subst (λ (z : DiskLoc). n z ≡ None) (sym f) free)) in
    let len : length ds ≡ 2 = sym (length-map ds at_of) ∙ ap length g.placed in (
      record {
        here = refl;
        stands = stands n2 null 1 (suc h) (sub p (u.mid ∷ []) ds) (u.mid ∷ []) ds
            (record { bucket = same p ∙ rw (not_kid p p_out, place_eq-is p p refl) (ap (λ (xs : List DiskLoc). Some (record { parent = null; pairs = u.mid ∷ []; kids = xs })) (sym g.placed)); pairs = refl; places = refl; some = omega arith })
            (len, all_adopted n n2 null p h ds g.apart g.stand (λ q e. same q ∙ rw (not_p q e, g.placed) refl));
        apart = (p_out, g.apart);
        order = subst (Sorted lt) (sym g.pairs) so;
      },
      moves_then m n n2 old A (p ∷ A) g.moved
          (λ q o. let a = or_parts (place_eq q p) (has q A) o in same q ∙ rw (not_kid q a.1, a.0) refl)
          (λ q e. or_right (place_eq q p) (has q A) e)
          (λ q o e. subst (λ (z : DiskLoc). n z ≡ None) (sym (place_eq-true q p (one q o e))) free),
    )
  where
    one : (q : DiskLoc) → has q (all_places ds) ≡ false → has q (p ∷ all_places ds) ≡ true → place_eq q p ≡ true
    one q o e = by (or_cases (place_eq q p) (has q (all_places ds)) e)
      where
        by : ((place_eq q p ≡ true) ⊎ (has q (all_places ds) ≡ true)) → place_eq q p ≡ true
        by (inl f) = f
        by (inr f) = absurd cc

-- ---- the tree as a whole

-- one subtree
pub single : (m n : Buckets) (up : DiskLoc) (h : ℕ) (root : DiskLoc) (old : List DiskLoc) (list : List Item) (ds : List Sub) → Became m n up h old list (root ∷ []) [] ds
    → (t : Sub) × (t.at ≡ root) × Stands n up 1 h t × (t.pairs ≡ list) × Distinct t.places × Moves m n old t.places
single m n up h root old list [] g = let e = g.placed in absurd cc
single m n up h root old list (t ∷ []) g =
    (t, ap first g.placed, g.stand.0, sym (append-nil t.pairs) ∙ g.pairs, subst Distinct (append-nil t.places) g.apart, subst (λ (xs : List DiskLoc). Moves m n old xs) (append-nil t.places) g.moved)
  where
    first : List DiskLoc → DiskLoc
    first [] = null
    first (x ∷ xs) = x
single m n up h root old list (t ∷ u ∷ ds) g = let e = ap length g.placed in absurd (omega (arith, e))
