-- A bucket with another child, or of which a pair is gone or gives way to another, as the tree sees it.
use Rattle.std.proofs.Common.{◌≡◌, ℕ, zero, suc, ◌+◌, ◌<◌, ◌≤◌, Bool, true, false, cond, nat_eq, get_or, List, [], ◌∷◌, ◌++◌, length, map, take, drop, insert, remove, refl, sym, ap, ◌∙◌, subst, add-one, arith, inl, inr}
use Rattle.std.specs.List.{AllByRecursion}
use Rattle.std.proofs.lemmas.List.{length-map}
use Rattle.std.proofs.lemmas.Bool.{eqb-true, eqb-false}
use Rattle.std.proofs.lemmas.Option.{get_or_from_slice_get}
use Rattle.mm_base.specs.Places.{null}
use Rattle.mm_base.specs.declared.place.DiskLoc.{DiskLoc}
use Rattle.mm_bucket.specs.Pairs.{Pair, Contents, blank, child_at, with_child, with_left, with_pair}
use Rattle.mm_bucket.specs.Rules.{left_of, children, IsNull, IsPlace, AreAlike}
use Rattle.mm_btree.specs.Nodes.{Item, item_of, node_of, place_eq}
use Rattle.mm_btree.specs.Removal.{with_item, without_item}
use Rattle.mm_btree.proofs.ListLaws.{all-right}
use Rattle.mm_btree.proofs.TwoLists.{children_put, children_removed, items_put}
use Rattle.mm_btree.proofs.Edits.{same_node, kids_none, kids_all, child_is, children_len}

-- ---- another child at a place

at_end : (ps : List Pair) (last child : DiskLoc) → map left_of ps ++ child ∷ [] ≡ take (length ps) (map left_of ps ++ last ∷ []) ++ child ∷ drop (suc (length ps)) (map left_of ps ++ last ∷ [])
at_end [] last child = refl
at_end (p ∷ ps) last child = ap (λ xs. p.left ∷ xs) (at_end ps last child)

abbrev swapped : List Pair → ℕ → DiskLoc → List Pair
swapped ps i child = take i ps ++ record (get_or ps i blank) { left = child } ∷ drop (suc i) ps

swapped_is : (ps : List Pair) (i : ℕ) (child : DiskLoc) → with_left ps i child ≡ swapped ps i child
swapped_is ps i child = ap (λ (k : ℕ). take i ps ++ record (get_or ps i blank) { left = child } ∷ drop k ps) (add-one i)

in_front : (ps : List Pair) (i : ℕ) (last child : DiskLoc) → i < length ps → map left_of (swapped ps i child) ++ last ∷ [] ≡ take i (map left_of ps ++ last ∷ []) ++ child ∷ drop (suc i) (map left_of ps ++ last ∷ [])
in_front [] i last child lt = absurd (omega (arith, lt))
in_front (p ∷ ps) zero last child lt = refl
in_front (p ∷ ps) (suc i) last child lt = ap (λ xs. p.left ∷ xs) (in_front ps i last child (omega (arith, lt)))

items_same : (ps : List Pair) (i : ℕ) (child : DiskLoc) → i < length ps → map item_of (swapped ps i child) ≡ map item_of ps
items_same [] i child lt = absurd (omega (arith, lt))
items_same (p ∷ ps) zero child lt = refl
items_same (p ∷ ps) (suc i) child lt = ap (λ xs. item_of p ∷ xs) (items_same ps i child (omega (arith, lt)))

pub children_with : (b : Contents) (i : ℕ) (child : DiskLoc) → i ≤ length b.pairs → children (with_child b i child) ≡ take i (children b) ++ child ∷ drop (suc i) (children b)
children_with b i child le = by (nat_eq i (length b.pairs)) refl
  where
    by : (t : Bool) → nat_eq i (length b.pairs) ≡ t → children (cond t (record b { next = child }) (record b { pairs = with_left b.pairs i child })) ≡ take i (children b) ++ child ∷ drop (suc i) (children b)
    by true e = subst (λ (k : ℕ). map left_of b.pairs ++ child ∷ [] ≡ take k (children b) ++ child ∷ drop (suc k) (children b)) (sym (eqb-true i (length b.pairs) e)) (at_end b.pairs b.next child)
    by false e = ap (λ (ps : List Pair). map left_of ps ++ b.next ∷ []) (swapped_is b.pairs i child) ∙ in_front b.pairs i b.next child (omega (arith, le, eqb-false i (length b.pairs) e))

pub items_with : (b : Contents) (i : ℕ) (child : DiskLoc) → i ≤ length b.pairs → map item_of (with_child b i child).pairs ≡ map item_of b.pairs
items_with b i child le = by (nat_eq i (length b.pairs)) refl
  where
    by : (t : Bool) → nat_eq i (length b.pairs) ≡ t → map item_of (cond t (record b { next = child }) (record b { pairs = with_left b.pairs i child })).pairs ≡ map item_of b.pairs
    by true e = refl
    by false e = ap (map item_of) (swapped_is b.pairs i child) ∙ items_same b.pairs i child (omega (arith, le, eqb-false i (length b.pairs) e))

pub parent_with : (b : Contents) (i : ℕ) (child : DiskLoc) → (with_child b i child).parent ≡ b.parent
parent_with b i child = by (nat_eq i (length b.pairs))
  where
    by : (t : Bool) → (cond t (record b { next = child }) (record b { pairs = with_left b.pairs i child })).parent ≡ b.parent
    by true = refl
    by false = refl

pub pairs_with : (b : Contents) (i : ℕ) (child : DiskLoc) → i ≤ length b.pairs → length (with_child b i child).pairs ≡ length b.pairs
pairs_with b i child le = sym (length-map (with_child b i child).pairs item_of) ∙ (ap length (items_with b i child le) ∙ length-map b.pairs item_of)

pub items_removed : (ps : List Pair) (i : ℕ) → map item_of (remove ps i) ≡ remove (map item_of ps) i
items_removed [] zero = refl
items_removed [] (suc i) = refl
items_removed (p ∷ ps) zero = refl
items_removed (p ∷ ps) (suc i) = ap (λ xs. item_of p ∷ xs) (items_removed ps i)

pub removed_len : (ps : List Pair) (i : ℕ) → i < length ps → suc (length (remove ps i)) ≡ length ps
removed_len [] i lt = absurd (omega (arith, lt))
removed_len (p ∷ ps) zero lt = refl
removed_len (p ∷ ps) (suc i) lt = ap suc (removed_len ps i (omega (arith, lt)))

-- ---- children that are alike

pub null_children : (b : Contents) → AreAlike (children b) → b.next ≡ null → AllByRecursion IsNull (children b)
null_children b (inl h) e = h
null_children b (inr h) e = absurd ((all-right IsPlace (map left_of b.pairs) (b.next ∷ []) h).0 e)

pub place_children : (b : Contents) → AreAlike (children b) → (b.next ≡ null → ⊥) → AllByRecursion IsPlace (children b)
place_children b (inl h) f = absurd (f (all-right IsNull (map left_of b.pairs) (b.next ∷ []) h).0)
place_children b (inr h) f = h

pub last_of : (P : DiskLoc → Type 0) (b : Contents) → AllByRecursion P (children b) → P b.next
last_of P b h = (all-right P (map left_of b.pairs) (b.next ∷ []) h).0

pub all_take : (P : DiskLoc → Type 0) (xs : List DiskLoc) (i : ℕ) (x : DiskLoc) → P x → AllByRecursion P xs → AllByRecursion P (take i xs ++ x ∷ drop i xs)
all_take P xs zero x p h = (p, h)
all_take P [] (suc i) x p h = (p, tt)
all_take P (y ∷ ys) (suc i) x p h = (h.0, all_take P ys i x p h.1)

pub all_set : (P : DiskLoc → Type 0) (xs : List DiskLoc) (i : ℕ) (x : DiskLoc) → P x → AllByRecursion P xs → AllByRecursion P (take i xs ++ x ∷ drop (suc i) xs)
all_set P [] zero x p h = (p, tt)
all_set P [] (suc i) x p h = (p, tt)
all_set P (y ∷ ys) zero x p h = (p, h.1)
all_set P (y ∷ ys) (suc i) x p h = (h.0, all_set P ys i x p h.1)

all_remove : (P : DiskLoc → Type 0) (xs : List DiskLoc) (i : ℕ) → AllByRecursion P xs → AllByRecursion P (remove xs i)
all_remove P [] zero h = tt
all_remove P [] (suc i) h = tt
all_remove P (y ∷ ys) zero h = h.1
all_remove P (y ∷ ys) (suc i) h = (h.0, all_remove P ys i h.1)

all_get : (P : DiskLoc → Type 0) (xs : List DiskLoc) (i : ℕ) (d : DiskLoc) → i < length xs → AllByRecursion P xs → P (get_or xs i d)
all_get P [] i d lt h = absurd (omega (arith, lt))
all_get P (x ∷ xs) zero d lt h = h.0
all_get P (x ∷ xs) (suc i) d lt h = all_get P xs i d (omega (arith, lt)) h.1

pub child_get : (b : Contents) (i : ℕ) → i ≤ length b.pairs → get_or (children b) i null ≡ child_at b i
child_get b i le = get_or_from_slice_get (children b) i (child_at b i) null (child_is b i le)

pub all_child : (P : DiskLoc → Type 0) (b : Contents) (i : ℕ) → i ≤ length b.pairs → AllByRecursion P (children b) → P (child_at b i)
all_child P b i le h = subst P (child_get b i le) (all_get P (children b) i null (omega (arith, children_len b, le)) h)

-- ---- a pair is gone from a leaf

pub removed_alike : (b c : Contents) (i : ℕ) → i < length b.pairs → AreAlike (children b) → c ≡ record b { pairs = remove b.pairs i } → AreAlike (children c)
removed_alike b c i lt a e = subst (λ (z : Contents). AreAlike (children z)) (sym e) (subst AreAlike (sym (children_removed b i lt)) (by a))
  where
    by : AreAlike (children b) → AreAlike (remove (children b) i)
    by (inl h) = inl (all_remove IsNull (children b) i h)
    by (inr h) = inr (all_remove IsPlace (children b) i h)

pub removed_node : (b c : Contents) (i : ℕ) → b.next ≡ null → c ≡ record b { pairs = remove b.pairs i } → node_of c ≡ record { parent = b.parent; pairs = remove (map item_of b.pairs) i; kids = [] }
removed_node b c i e is = ap node_of is ∙ same_node (node_of (record b { pairs = remove b.pairs i })) (record { parent = b.parent; pairs = remove (map item_of b.pairs) i; kids = [] }) refl (items_removed b.pairs i) (kids_none (record b { pairs = remove b.pairs i }) e)

-- ---- a pair gives way to another

put_same : (xs : List DiskLoc) (i : ℕ) → suc i < length xs → insert (take i (remove xs i) ++ get_or xs i null ∷ drop (suc i) (remove xs i)) (suc i) (get_or xs (suc i) null) ≡ xs
put_same [] i lt = absurd (omega (arith, lt))
put_same (x ∷ []) i lt = absurd (omega (arith, lt))
put_same (x ∷ y ∷ xs) zero lt = refl
put_same (x ∷ y ∷ xs) (suc i) lt = ap (λ zs. x ∷ zs) (put_same (y ∷ xs) i (omega (arith, lt)))

-- the bucket that the pair is put into: it is gone, and the child before it is back
abbrev pub opened : Contents → ℕ → DiskLoc → Contents
opened b i left = with_child (record b { pairs = remove b.pairs i }) i left

pub opened_len : (b : Contents) (i : ℕ) (left : DiskLoc) → i < length b.pairs → i ≤ length (opened b i left).pairs
opened_len b i left lt = omega (arith, pairs_with (record b { pairs = remove b.pairs i }) i left (omega (arith, removed_len b.pairs i lt, lt)), removed_len b.pairs i lt, lt)

exchanged_children : (b : Contents) (i : ℕ) (key : List ℕ) (rec : DiskLoc) → i < length b.pairs → children (with_pair (opened b i (child_at b i)) i key rec (child_at b (i + 1))) ≡ children b
exchanged_children b i key rec lt =
    let w = record b { pairs = remove b.pairs i } in
    let inside : i ≤ length w.pairs = omega (arith, removed_len b.pairs i lt, lt) in
    let more : i + 1 ≡ suc i = omega arith in
    children_put (opened b i (child_at b i)) i key rec (child_at b (i + 1)) (opened_len b i (child_at b i) lt)
    ∙ (ap (λ (xs : List DiskLoc). insert xs (suc i) (child_at b (i + 1))) (children_with w i (child_at b i) inside)
    ∙ (ap (λ (xs : List DiskLoc). insert (take i xs ++ child_at b i ∷ drop (suc i) xs) (suc i) (child_at b (i + 1))) (children_removed b i lt)
    ∙ ((let one = sym (child_get b i (omega (arith, lt))) in
    let two = sym (child_get b (i + 1) (omega (arith, lt))) ∙ ap (λ (k : ℕ). get_or (children b) k null) more in
    λ j. insert (take i (remove (children b) i) ++ one j ∷ drop (suc i) (remove (children b) i)) (suc i) (two j))
    ∙ put_same (children b) i (omega (arith, children_len b, lt)))))

pub exchanged_alike : (b : Contents) (i : ℕ) (key : List ℕ) (rec : DiskLoc) → i < length b.pairs → AreAlike (children b) → AreAlike (children (with_pair (opened b i (child_at b i)) i key rec (child_at b (i + 1))))
exchanged_alike b i key rec lt a = subst AreAlike (sym (exchanged_children b i key rec lt)) a

next_same : (b c : Contents) → children b ≡ children c → b.next ≡ c.next
next_same b c e = sym (last b) ∙ (ap (λ (xs : List DiskLoc). end xs) e ∙ last c)
  where
    end : List DiskLoc → DiskLoc
    end [] = null
    end (x ∷ []) = x
    end (x ∷ y ∷ ys) = end (y ∷ ys)

    tail : (ps : List Pair) (q : DiskLoc) → end (map left_of ps ++ q ∷ []) ≡ q
    tail [] q = refl
    tail (p ∷ []) q = refl
    tail (p ∷ r ∷ ps) q = tail (r ∷ ps) q

    last : (d : Contents) → end (children d) ≡ d.next
    last d = tail d.pairs d.next

pub exchanged_node : (b : Contents) (i : ℕ) (key : List ℕ) (rec : DiskLoc) → i < length b.pairs → node_of (with_pair (opened b i (child_at b i)) i key rec (child_at b (i + 1))) ≡ with_item (node_of b) i (record { key = key; rec = rec })
exchanged_node b i key rec lt =
    let w = record b { pairs = remove b.pairs i } in
    let inside : i ≤ length w.pairs = omega (arith, removed_len b.pairs i lt, lt) in
    let v = opened b i (child_at b i) in
    let c = with_pair v i key rec (child_at b (i + 1)) in
    let same = exchanged_children b i key rec lt in
    same_node (node_of c) (with_item (node_of b) i (record { key = key; rec = rec }))
    (parent_with v i (child_at b (i + 1)) ∙ parent_with w i (child_at b i))
    (items_put v i key rec (child_at b (i + 1)) (opened_len b i (child_at b i) lt) ∙ ap (λ (xs : List Item). insert xs i (record { key = key; rec = rec })) (items_with w i (child_at b i) inside ∙ items_removed b.pairs i))
    ((let last = next_same c b same in λ j. cond (place_eq (last j) null) [] (same j)))

-- ---- a pair is gone, and the child behind it

set_removed : (xs : List DiskLoc) (i : ℕ) → suc i < length xs → remove (take (suc i) xs ++ get_or xs i null ∷ drop (suc (suc i)) xs) i ≡ take (suc i) xs ++ drop (suc (suc i)) xs
set_removed [] i lt = absurd (omega (arith, lt))
set_removed (x ∷ []) i lt = absurd (omega (arith, lt))
set_removed (x ∷ y ∷ xs) zero lt = refl
set_removed (x ∷ y ∷ xs) (suc i) lt = ap (λ zs. x ∷ zs) (set_removed (y ∷ xs) i (omega (arith, lt)))

abbrev pub closed : Contents → ℕ → Contents
closed b i = record (with_child b (i + 1) (child_at b i)) { pairs = remove (with_child b (i + 1) (child_at b i)).pairs i }

closed_children : (b : Contents) (i : ℕ) → i < length b.pairs → children (closed b i) ≡ take (suc i) (children b) ++ drop (suc (suc i)) (children b)
closed_children b i lt =
    let inside : i + 1 ≤ length b.pairs = omega (arith, lt) in
    let more : i + 1 ≡ suc i = omega arith in
    children_removed (with_child b (i + 1) (child_at b i)) i (omega (arith, pairs_with b (i + 1) (child_at b i) inside, lt))
    ∙ (ap (λ (xs : List DiskLoc). remove xs i) (children_with b (i + 1) (child_at b i) inside)
    ∙ ((let one = sym (child_get b i (omega (arith, lt))) in λ j. remove (take (more j) (children b) ++ one j ∷ drop (suc (more j)) (children b)) i)
    ∙ set_removed (children b) i (omega (arith, children_len b, lt))))

all_kept : (P : DiskLoc → Type 0) (xs : List DiskLoc) (i : ℕ) → AllByRecursion P xs → AllByRecursion P (take (suc i) xs ++ drop (suc (suc i)) xs)
all_kept P [] i h = tt
all_kept P (x ∷ []) zero h = (h.0, tt)
all_kept P (x ∷ []) (suc i) h = (h.0, tt)
all_kept P (x ∷ y ∷ xs) zero h = (h.0, h.1.1)
all_kept P (x ∷ y ∷ xs) (suc i) h = (h.0, all_kept P (y ∷ xs) i h.1)

closed_all : (P : DiskLoc → Type 0) (b : Contents) (i : ℕ) → i < length b.pairs → AllByRecursion P (children b) → AllByRecursion P (children (closed b i))
closed_all P b i lt h = subst (AllByRecursion P) (sym (closed_children b i lt)) (all_kept P (children b) i h)

pub closed_alike : (b : Contents) (i : ℕ) → i < length b.pairs → AreAlike (children b) → AreAlike (children (closed b i))
closed_alike b i lt (inl h) = inl (closed_all IsNull b i lt h)
closed_alike b i lt (inr h) = inr (closed_all IsPlace b i lt h)

pub closed_node : (b : Contents) (i : ℕ) → i < length b.pairs → AreAlike (children b) → (b.next ≡ null → ⊥) → node_of (closed b i) ≡ without_item (node_of b) i
closed_node b i lt a f =
    let inside : i + 1 ≤ length b.pairs = omega (arith, lt) in
    let next : (closed b i).next ≡ null → ⊥ = last_of IsPlace (closed b i) (closed_all IsPlace b i lt (place_children b a f)) in
    same_node (node_of (closed b i)) (without_item (node_of b) i)
    (parent_with b (i + 1) (child_at b i))
    (items_removed (with_child b (i + 1) (child_at b i)).pairs i ∙ ap (λ (xs : List Item). remove xs i) (items_with b (i + 1) (child_at b i) inside))
    (kids_all (closed b i) next ∙ (closed_children b i lt ∙ ap (λ (xs : List DiskLoc). take (suc i) xs ++ drop (suc (suc i)) xs) (sym (kids_all b f))))

-- ---- the calls

pub opened_inside : (b w : Contents) (i : ℕ) → i < length b.pairs → w ≡ record b { pairs = remove b.pairs i } → i ≤ length w.pairs
opened_inside b w i lt e = omega (arith, ap (λ (z : Contents). length z.pairs) e, removed_len b.pairs i lt, lt)

pub opened_is : (b w v : Contents) (i : ℕ) (left : DiskLoc) → w ≡ record b { pairs = remove b.pairs i } → v ≡ with_child w i left → left ≡ child_at b i → v ≡ opened b i (child_at b i)
opened_is b w v i left e f g = f ∙ (λ j. with_child (e j) i (g j))

pub put_is : (b w v : Contents) (i : ℕ) (left after : DiskLoc) (key : List ℕ) (rec : DiskLoc) → w ≡ record b { pairs = remove b.pairs i } → v ≡ with_child w i left → left ≡ child_at b i → after ≡ child_at b (i + 1)
    → with_pair v i key rec after ≡ with_pair (opened b i (child_at b i)) i key rec (child_at b (i + 1))
put_is b w v i left after key rec e f g h = let whole = opened_is b w v i left e f g in λ j. with_pair (whole j) i key rec (h j)

pub closed_is : (b w v : Contents) (i : ℕ) (left : DiskLoc) → w ≡ with_child b (i + 1) left → v ≡ record w { pairs = remove w.pairs i } → left ≡ child_at b i → v ≡ closed b i
closed_is b w v i left e f g = f ∙ ap (λ (z : Contents). record z { pairs = remove z.pairs i }) (e ∙ ap (with_child b (i + 1)) g)

pub closed_inside : (b w : Contents) (i : ℕ) (left : DiskLoc) → i < length b.pairs → w ≡ with_child b (i + 1) left → i < length w.pairs
closed_inside b w i left lt e = omega (arith, ap (λ (z : Contents). length z.pairs) e, pairs_with b (i + 1) left (omega (arith, lt)), lt)
