-- A bucket that `Bucket::put` has parted, seen as two lists, once the pair between is taken out of the left part.
use Rattle.std.proofs.Common.{◌≡◌, ℕ, zero, suc, ◌+◌, ◌-◌, Bool, true, false, List, [], ◌∷◌, ◌++◌, length, map, take, drop, remove, get_or, refl, sym, ap, ◌∙◌, subst, inl, inr, arith, append_assoc}
use Rattle.std.specs.Prelude.{cond}
use Rattle.std.specs.List.{AllByRecursion}
use Rattle.std.proofs.lemmas.List.{map-append, length-map, length-append}
use Rattle.mm_base.specs.Places.{null}
use Rattle.mm_base.specs.declared.place.DiskLoc.{DiskLoc}
use Rattle.mm_bucket.specs.Pairs.{Pair, Contents, blank, pair_at, IsParted}
use Rattle.mm_bucket.specs.Rules.{left_of, children, IsNull, IsPlace, AreAlike}
use Rattle.mm_btree.specs.Nodes.{item_of, place_eq, node_of}
use Rattle.mm_btree.specs.Changes.{IsSplit}
use Rattle.mm_btree.proofs.Places.{place_eq-is, place_differ}
use Rattle.mm_btree.proofs.TwoLists.{children_parted}

all_left : (P : DiskLoc → Type 0) (xs ys : List DiskLoc) → AllByRecursion P (xs ++ ys) → AllByRecursion P xs
all_left P [] ys h = tt
all_left P (x ∷ xs) ys h = (h.0, all_left P xs ys h.1)

all_right : (P : DiskLoc → Type 0) (xs ys : List DiskLoc) → AllByRecursion P (xs ++ ys) → AllByRecursion P ys
all_right P [] ys h = h
all_right P (x ∷ xs) ys h = all_right P xs ys h.1

-- a bucket with children, and a leaf
inner : (b : Contents) → AllByRecursion IsPlace (children b) → (node_of b).kids ≡ children b
inner b h =
    let last : place_eq b.next null ≡ false = place_differ b.next null (all_right IsPlace (map left_of b.pairs) (b.next ∷ []) h).0 in
    ap (λ (t : Bool). cond t [] (children b)) last

leaf : (b : Contents) → AllByRecursion IsNull (children b) → (node_of b).kids ≡ []
leaf b h =
    let last : place_eq b.next null ≡ true = place_eq-is b.next null (all_right IsNull (map left_of b.pairs) (b.next ∷ []) h).0 in
    ap (λ (t : Bool). cond t [] (children b)) last

-- the last pair of some
last_of : (ps : List Pair) (i : ℕ) → i + 1 ≡ length ps → ps ≡ remove ps i ++ get_or ps i blank ∷ []
last_of [] i e = absurd (omega (arith, e))
last_of (p ∷ []) zero e = refl
last_of (p ∷ q ∷ ps) zero e = absurd (omega (arith, e))
last_of (p ∷ ps) (suc i) e = ap (λ xs. p ∷ xs) (last_of ps i (omega (arith, e)))

take_front : (xs ys : List DiskLoc) (n : ℕ) → length xs ≡ n → xs ≡ take n (xs ++ ys)
take_front [] ys zero e = refl
take_front [] ys (suc n) e = absurd (omega (arith, e))
take_front (x ∷ xs) ys zero e = absurd (omega (arith, e))
take_front (x ∷ xs) ys (suc n) e = ap (λ zs. x ∷ zs) (take_front xs ys n (omega (arith, e)))

drop_front : (xs ys : List DiskLoc) (n : ℕ) → length xs ≡ n → ys ≡ drop n (xs ++ ys)
drop_front [] ys zero e = refl
drop_front [] ys (suc n) e = absurd (omega (arith, e))
drop_front (x ∷ xs) ys zero e = absurd (omega (arith, e))
drop_front (x ∷ xs) ys (suc n) e = drop_front xs ys n (omega (arith, e))

none_taken : (n : ℕ) (xs : List DiskLoc) → xs ≡ [] → xs ≡ take n xs
none_taken n xs e = subst (λ (ys : List DiskLoc). ys ≡ take n ys) (sym e) (none n)
  where
    none : (n : ℕ) → ◌≡◌ {A = List DiskLoc} [] (take n [])
    none zero = refl
    none (suc n) = refl

none_left : (n : ℕ) (xs : List DiskLoc) → xs ≡ [] → xs ≡ drop n xs
none_left n xs e = subst (λ (ys : List DiskLoc). ys ≡ drop n ys) (sym e) (none n)
  where
    none : (n : ℕ) → ◌≡◌ {A = List DiskLoc} [] (drop n [])
    none zero = refl
    none (suc n) = refl

-- the left part without the pair between
abbrev pub without_last : Contents → ℕ → Contents
without_last l last = record l { pairs = remove l.pairs last }

-- the pairs and the children, in two
pub record Halves (w l r : Contents) (last : ℕ) : Type 0 where
  pub pairs : w.pairs ≡ (without_last l last).pairs ++ pair_at l.pairs last ∷ r.pairs
  pub kids : children w ≡ children (without_last l last) ++ children r
  pub count : length (children (without_last l last)) ≡ suc (length (map item_of (without_last l last).pairs))

halves : (w l r : Contents) (last : ℕ) → IsParted w l r → last + 1 ≡ length l.pairs → Halves w l r last
halves w l r last p e =
    let fs = remove l.pairs last in
    let mid = pair_at l.pairs last in
    let pairs : w.pairs ≡ fs ++ mid ∷ r.pairs = p.pairs ∙ (ap (λ (ps : List Pair). ps ++ r.pairs) (last_of l.pairs last e) ∙ append_assoc fs (mid ∷ []) r.pairs) in
    let at : length l.pairs - 1 ≡ last = omega (arith, e) in
    let next : mid.left ≡ l.next = sym (p.left_next ∙ ap (λ (k : ℕ). (get_or l.pairs k blank).left) at) in
    record {
      pairs = pairs;
      kids = ap (λ (ps : List Pair). map left_of ps ++ w.next ∷ []) pairs
          ∙ (children_parted w.parent fs r.pairs mid w.next
          ∙ (ap (λ (q : DiskLoc). (map left_of fs ++ q ∷ []) ++ (map left_of r.pairs ++ w.next ∷ [])) next
          ∙ ap (λ (q : DiskLoc). (map left_of fs ++ l.next ∷ []) ++ (map left_of r.pairs ++ q ∷ [])) (sym p.right_next)));
      count = length-append (map left_of fs) (l.next ∷ []) ∙ omega (arith, length-map fs left_of, length-map fs item_of);
    }

pub split_is : (w l r : Contents) (last : ℕ) → IsParted w l r → last + 1 ≡ length l.pairs → AreAlike (children w)
    → IsSplit (node_of w) (node_of (without_last l last)) (item_of (pair_at l.pairs last)) (node_of r)
split_is w l r last p e alike =
    let h = halves w l r last p e in
    let k = kids h alike in
    record {
      pairs = ap (map item_of) h.pairs ∙ map-append item_of (without_last l last).pairs (pair_at l.pairs last ∷ r.pairs);
      left = k.0;
      right = k.1;
      left_parent = p.left_parent;
      right_parent = p.right_parent;
      some = omega (arith, p.some, e, length-map (without_last l last).pairs item_of, ap length (last_of l.pairs last e), length-append (without_last l last).pairs (pair_at l.pairs last ∷ []));
      more = omega (arith, p.more, length-map r.pairs item_of);
    }
  where
    kids : Halves w l r last → AreAlike (children w)
        → ((node_of (without_last l last)).kids ≡ take (suc (length (map item_of (without_last l last).pairs))) (node_of w).kids)
        × ((node_of r).kids ≡ drop (suc (length (map item_of (without_last l last).pairs))) (node_of w).kids)
    kids h (inl null) =
        let both = subst (AllByRecursion IsNull) h.kids null in
        let m = suc (length (map item_of (without_last l last).pairs)) in
        let none = leaf w null in (
          leaf (without_last l last) (all_left IsNull (children (without_last l last)) (children r) both) ∙ (sym none ∙ none_taken m (node_of w).kids none),
          leaf r (all_right IsNull (children (without_last l last)) (children r) both) ∙ (sym none ∙ none_left m (node_of w).kids none),
        )
    kids h (inr place) =
        let both = subst (AllByRecursion IsPlace) h.kids place in
        let m = suc (length (map item_of (without_last l last).pairs)) in
        let all = sym (inner w place ∙ h.kids) in (
          inner (without_last l last) (all_left IsPlace (children (without_last l last)) (children r) both) ∙ (take_front (children (without_last l last)) (children r) m h.count ∙ ap (take m) all),
          inner r (all_right IsPlace (children (without_last l last)) (children r) both) ∙ (drop_front (children (without_last l last)) (children r) m h.count ∙ ap (drop m) all),
        )

-- both parts have children that are alike
pub split_alike : (w l r : Contents) (last : ℕ) → IsParted w l r → last + 1 ≡ length l.pairs → AreAlike (children w) → AreAlike (children (without_last l last)) × AreAlike (children r)
split_alike w l r last p e (inl null) =
    let both = subst (AllByRecursion IsNull) (halves w l r last p e).kids null in
    (inl (all_left IsNull (children (without_last l last)) (children r) both), inl (all_right IsNull (children (without_last l last)) (children r) both))
split_alike w l r last p e (inr place) =
    let both = subst (AllByRecursion IsPlace) (halves w l r last p e).kids place in
    (inr (all_left IsPlace (children (without_last l last)) (children r) both), inr (all_right IsPlace (children (without_last l last)) (children r) both))
