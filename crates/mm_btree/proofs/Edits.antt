-- A bucket with one pair more, and its children, as the tree sees them.
use Rattle.std.proofs.Common.{◌≡◌, ℕ, zero, suc, ◌<◌, ◌≤◌, Bool, true, false, cond, nat_eq, slice_get, List, [], ◌∷◌, ◌++◌, length, map, take, drop, insert, Some, refl, sym, ap, ◌∙◌, subst, arith, inl, inr}
use Rattle.std.specs.List.{AllByRecursion}
use Rattle.std.proofs.lemmas.List.{length-append}
use Rattle.std.proofs.lemmas.Bool.{eqb-true, eqb-false}
use Rattle.mm_base.specs.Places.{null}
use Rattle.mm_base.specs.declared.place.DiskLoc.{DiskLoc}
use Rattle.mm_bucket.specs.Pairs.{Pair, Contents, pair_at, child_at, with_left, with_pair}
use Rattle.mm_bucket.specs.Rules.{left_of, children, IsNull, IsPlace, AreAlike}
use Rattle.mm_btree.specs.Nodes.{Node, place_eq, node_of}
use Rattle.mm_btree.proofs.Places.{place_eq-true, place_eq-is, place_differ}
use Rattle.mm_btree.proofs.ListLaws.{all-right}
use Rattle.mm_btree.proofs.TwoLists.{children_put, items_put}

pub same_node : (a b : Node) → a.parent ≡ b.parent → a.pairs ≡ b.pairs → a.kids ≡ b.kids → a ≡ b
same_node a b e f g = λ i. record { parent = e i; pairs = f i; kids = g i }

pub kids_none : (b : Contents) → b.next ≡ null → (node_of b).kids ≡ []
kids_none b e = ap (λ (t : Bool). cond t [] (children b)) (place_eq-is b.next null e)

pub kids_all : (b : Contents) → (b.next ≡ null → ⊥) → (node_of b).kids ≡ children b
kids_all b f = ap (λ (t : Bool). cond t [] (children b)) (place_differ b.next null f)

pub leaf_next : (b : Contents) → (node_of b).kids ≡ [] → b.next ≡ null
leaf_next b e = by (place_eq b.next null) refl e
  where
    by : (t : Bool) → place_eq b.next null ≡ t → cond t [] (children b) ≡ [] → b.next ≡ null
    by true f g = place_eq-true b.next null f
    by false f g = absurd (omega (arith, ap length g, length-append (map left_of b.pairs) (b.next ∷ [])))

leaf_children : (b : Contents) → AreAlike (children b) → b.next ≡ null → AllByRecursion IsNull (children b)
leaf_children b (inl h) e = h
leaf_children b (inr h) e = absurd ((all-right IsPlace (map left_of b.pairs) (b.next ∷ []) h).0 e)

inner_children : (b : Contents) → AreAlike (children b) → (b.next ≡ null → ⊥) → AllByRecursion IsPlace (children b)
inner_children b (inl h) f = absurd (f (all-right IsNull (map left_of b.pairs) (b.next ∷ []) h).0)
inner_children b (inr h) f = h

all_insert : (P : DiskLoc → Type 0) (xs : List DiskLoc) (i : ℕ) (x : DiskLoc) → P x → AllByRecursion P xs → AllByRecursion P (take i xs ++ x ∷ drop i xs)
all_insert P xs zero x p h = (p, h)
all_insert P [] (suc i) x p h = (p, tt)
all_insert P (y ∷ ys) (suc i) x p h = (h.0, all_insert P ys i x p h.1)

last_of_all : (P : DiskLoc → Type 0) (b : Contents) → AllByRecursion P (children b) → P b.next
last_of_all P b h = (all-right P (map left_of b.pairs) (b.next ∷ []) h).0

same_parent : (b : Contents) (i : ℕ) (key : List ℕ) (rec after : DiskLoc) → (with_pair b i key rec after).parent ≡ b.parent
same_parent b i key rec after = by (nat_eq i (length b.pairs))
  where
    by : (t : Bool) → (cond t (record b { next = after }) (record b { pairs = with_left b.pairs i after })).parent ≡ b.parent
    by true = refl
    by false = refl

-- ---- a leaf

leaf_all : (b : Contents) (i : ℕ) (key : List ℕ) (rec : DiskLoc) → i ≤ length b.pairs → AreAlike (children b) → b.next ≡ null → AllByRecursion IsNull (children (with_pair b i key rec null))
leaf_all b i key rec le a e = subst (AllByRecursion IsNull) (sym (children_put b i key rec null le)) (all_insert IsNull (children b) (suc i) null refl (leaf_children b a e))

pub leaf_alike : (b : Contents) (i : ℕ) (key : List ℕ) (rec : DiskLoc) → i ≤ length b.pairs → AreAlike (children b) → b.next ≡ null → AreAlike (children (with_pair b i key rec null))
leaf_alike b i key rec le a e = inl (leaf_all b i key rec le a e)

pub leaf_kids : (b : Contents) (i : ℕ) (key : List ℕ) (rec : DiskLoc) → i ≤ length b.pairs → AreAlike (children b) → b.next ≡ null → (node_of (with_pair b i key rec null)).kids ≡ []
leaf_kids b i key rec le a e = kids_none (with_pair b i key rec null) (last_of_all IsNull (with_pair b i key rec null) (leaf_all b i key rec le a e))

pub leaf_put : (b : Contents) (i : ℕ) (key : List ℕ) (rec : DiskLoc) → i ≤ length b.pairs → AreAlike (children b) → b.next ≡ null
    → node_of (with_pair b i key rec null) ≡ record (node_of b) { pairs = insert (node_of b).pairs i (record { key = key; rec = rec }) }
leaf_put b i key rec le a e =
    same_node (node_of (with_pair b i key rec null)) (record (node_of b) { pairs = insert (node_of b).pairs i (record { key = key; rec = rec }) })
    (same_parent b i key rec null) (items_put b i key rec null le) (leaf_kids b i key rec le a e ∙ sym (kids_none b e))

-- ---- an inner bucket

inner_all : (b : Contents) (i : ℕ) (key : List ℕ) (rec after : DiskLoc) → i ≤ length b.pairs → AreAlike (children b) → (b.next ≡ null → ⊥) → (after ≡ null → ⊥) → AllByRecursion IsPlace (children (with_pair b i key rec after))
inner_all b i key rec after le a f g = subst (AllByRecursion IsPlace) (sym (children_put b i key rec after le)) (all_insert IsPlace (children b) (suc i) after g (inner_children b a f))

pub inner_alike : (b : Contents) (i : ℕ) (key : List ℕ) (rec after : DiskLoc) → i ≤ length b.pairs → AreAlike (children b) → (b.next ≡ null → ⊥) → (after ≡ null → ⊥) → AreAlike (children (with_pair b i key rec after))
inner_alike b i key rec after le a f g = inr (inner_all b i key rec after le a f g)

pub inner_kids : (b : Contents) (i : ℕ) (key : List ℕ) (rec after : DiskLoc) → i ≤ length b.pairs → AreAlike (children b) → (b.next ≡ null → ⊥) → (after ≡ null → ⊥)
    → (node_of (with_pair b i key rec after)).kids ≡ insert (node_of b).kids (suc i) after
inner_kids b i key rec after le a f g =
    kids_all (with_pair b i key rec after) (last_of_all IsPlace (with_pair b i key rec after) (inner_all b i key rec after le a f g))
    ∙ (children_put b i key rec after le ∙ ap (λ (xs : List DiskLoc). insert xs (suc i) after) (sym (kids_all b f)))

pub inner_put : (b : Contents) (i : ℕ) (key : List ℕ) (rec after : DiskLoc) → i ≤ length b.pairs → AreAlike (children b) → (b.next ≡ null → ⊥) → (after ≡ null → ⊥)
    → node_of (with_pair b i key rec after) ≡ record (node_of b) { pairs = insert (node_of b).pairs i (record { key = key; rec = rec }); kids = insert (node_of b).kids (suc i) after }
inner_put b i key rec after le a f g =
    same_node (node_of (with_pair b i key rec after)) (record (node_of b) { pairs = insert (node_of b).pairs i (record { key = key; rec = rec }); kids = insert (node_of b).kids (suc i) after })
    (same_parent b i key rec after) (items_put b i key rec after le) (inner_kids b i key rec after le a f g)

-- ---- the child at a place

at_last : (ps : List Pair) (last : DiskLoc) → slice_get (map left_of ps ++ last ∷ []) (length ps) ≡ Some last
at_last [] last = refl
at_last (p ∷ ps) last = at_last ps last

at_pair : (ps : List Pair) (last : DiskLoc) (i : ℕ) → i < length ps → slice_get (map left_of ps ++ last ∷ []) i ≡ Some (pair_at ps i).left
at_pair [] last i lt = absurd (omega (arith, lt))
at_pair (p ∷ ps) last zero lt = refl
at_pair (p ∷ ps) last (suc i) lt = at_pair ps last i (omega (arith, lt))

pub child_is : (b : Contents) (i : ℕ) → i ≤ length b.pairs → slice_get (children b) i ≡ Some (child_at b i)
child_is b i le = by (nat_eq i (length b.pairs)) refl
  where
    by : (t : Bool) → nat_eq i (length b.pairs) ≡ t → slice_get (children b) i ≡ Some (cond t b.next (pair_at b.pairs i).left)
    by true e = ap (slice_get (children b)) (eqb-true i (length b.pairs) e) ∙ at_last b.pairs b.next
    by false e = at_pair b.pairs b.next i (omega (arith, le, eqb-false i (length b.pairs) e))

pub children_len : (b : Contents) → length (children b) ≡ suc (length b.pairs)
children_len b = length-append (map left_of b.pairs) (b.next ∷ []) ∙ omega (arith, lens b.pairs)
  where
    lens : (ps : List Pair) → length (map left_of ps) ≡ length ps
    lens [] = refl
    lens (p ∷ ps) = ap suc (lens ps)
