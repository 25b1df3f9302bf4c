-- What taking a pair out of a tree does to its lists and to its buckets.
use Rattle.std.specs.Prelude.{◌≡◌, ℕ, suc, ◌<◌, ◌≤◌, true, false, not, get_or, List, [], ◌∷◌, ◌++◌, length, map, take, drop, filter, cond, remove, insert, Option, Some, None, option_map}
use Rattle.std.specs.declared.cmp.Ordering.TheVariants.{Equal}
use Rattle.std.specs.Ordering.{is_eq}
use Rattle.std.specs.List.{AllByRecursion}
use Rattle.mm_base.specs.Places.{null}
use Rattle.mm_base.specs.declared.place.DiskLoc.{DiskLoc}
use Rattle.mm_bson.specs.Tree.{Elements}
use Rattle.mm_btree.specs.Nodes.{Item, Node, Buckets, place_eq}
use Rattle.mm_btree.specs.Lists.{front, back, Distinct, Sorted}
use Rattle.mm_btree.specs.Order.{item_compare, item_lt, IsLacking}
use Rattle.mm_btree.specs.Trees.{Sub, at_of, pairs_of, IsOver, AreBelow, Stands, Became, Thinned}
use Rattle.mm_btree.specs.Changes.{Up, AreThere, IsSettled, StandsAt, IsChanged, freed, joined_node, roots_of, between_of}
use Rattle.mm_btree.specs.declared.outcome.Outcome.{Outcome}
use Rattle.mm_btree.specs.declared.outcome.Removed.{Removed}
use Rattle.mm_btree.specs.declared.outcome.Outcome.TheVariants.{Whole, Thin, Parted}

-- ---- lists

-- all pairs but one with an equal key and the same record
abbrev pub without : Elements → Item → List Item → List Item
without spec x ps = filter (λ p. not (is_eq (item_compare spec p x))) ps

-- that pair gives way to another
abbrev pub exchanged : Elements → Item → Item → List Item → List Item
exchanged spec x y ps = map (λ p. cond (is_eq (item_compare spec p x)) y p) ps

-- one pair is taken out: the one that is asked for, or, in its stead, the one before it
abbrev pub IsTakenOut : Elements → Item → List Item → Option Item → List Item → Type 0
IsTakenOut spec x xs None ys = (fs bs : List Item) × (z : Item) × (xs ≡ fs ++ z ∷ bs) × (ys ≡ fs ++ bs) × (item_compare spec z x ≡ Equal)
IsTakenOut spec x xs (Some y) ys = (fs bs : List Item) × (z : Item) × (xs ≡ fs ++ y ∷ z ∷ bs) × (ys ≡ fs ++ z ∷ bs) × (item_compare spec z x ≡ Equal)

-- ---- buckets

-- what goes up
abbrev pub ups : Outcome → Option Up
ups Whole = None
ups Thin = None
ups (Parted u) = Some u

-- the bucket is written, whole, without pairs, or as two
pub record IsWritten (m n : Buckets) (at : DiskLoc) (b : Node) (r : Outcome) : Type 0 where
  pub settled : IsSettled m n at b (ups r)
  pub thin : r ≡ Thin → b.pairs ≡ []
  pub whole : r ≡ Whole → 1 ≤ length b.pairs

-- a pair gives way to another; the children stay
abbrev pub with_item : Node → ℕ → Item → Node
with_item b i y = record b { pairs = insert (remove b.pairs i) i y }

-- a pair is gone, and the child behind it
abbrev pub without_item : Node → ℕ → Node
without_item b i = record b { pairs = remove b.pairs i; kids = take (suc i) b.kids ++ drop (suc (suc i)) b.kids }

-- two neighbours below one bucket, both leaves or none
pub record AreNeighbours (m : Buckets) (p q : DiskLoc) (b c : Node) : Type 0 where
  pub left : m p ≡ Some b
  pub right : m q ≡ Some c
  pub apart : place_eq p q ≡ false
  pub parent : c.parent ≡ b.parent
  pub leaf : c.kids ≡ [] → b.kids ≡ []
  pub inner : b.kids ≡ [] → c.kids ≡ []
  pub left_kids : AreThere m b.kids
  pub right_kids : AreThere m c.kids

-- the right place is where what goes up stands behind
abbrev pub up_at : DiskLoc → Option Item → Option Up
up_at right r = option_map (λ mid. record { mid = mid; right = right }) r

-- two neighbours and the pair between them are written as one bucket at the left place, the right one being free, or as two again
abbrev pub IsJoined : Buckets → Buckets → DiskLoc → DiskLoc → Node → Item → Node → Option Item → Type 0
IsJoined m n left right b mid c r = (o : Buckets) × ((q : DiskLoc) → o q ≡ freed m left right c.kids q) × IsSettled o n left (joined_node b mid c) (up_at right r)

-- ---- subtrees

-- the bucket there has no pairs
abbrev pub IsBare : Buckets → DiskLoc → Type 0
IsBare m at = (b : Node) → m at ≡ Some b → b.pairs ≡ []

-- what a subtree has become, which holds this list
abbrev pub IsLeft : Buckets → Buckets → DiskLoc → ℕ → Sub → List Item → Outcome → Type 0
IsLeft m n up h s list Thin = (t : Sub) × Thinned m n up h s t × (t.pairs ≡ list) × IsBare n t.at
IsLeft m n up h s list Whole = (ds : List Sub) × Became m n up h s.places list (s.at ∷ []) [] ds
IsLeft m n up h s list (Parted u) = (ds : List Sub) × Became m n up h s.places list (s.at ∷ u.right ∷ []) (u.mid ∷ []) ds

-- the pair is gone, or another stands in its stead
abbrev pub after_join : Node → ℕ → Option Item → Node
after_join b i None = without_item b i
after_join b i (Some y) = with_item b i y

-- A subtree below the root of its tree, which has a pair.
pub record IsBelowRoot (m : Buckets) (up : DiskLoc) (h : ℕ) (s : Sub) (at : DiskLoc) : Type 0 where
  pub here : s.at ≡ at
  pub stands : Stands m up 1 h s
  pub apart : Distinct s.places

-- What stood before a child of a bucket lost a pair: the buckets, the bucket's parent, how many levels down the leaves of its children are, its subtree,
-- pairs and children; and the list that the child is to have.
pub record Scene : Type 0 where
  pub m : Buckets
  pub up : DiskLoc
  pub h : ℕ
  pub s : Sub
  pub ps : List Item
  pub cs : List Sub
  pub mine : List Item

-- the bucket at a place stands as it stood, and its i-th child has become this
pub record IsAbove (w : Scene) (n : Buckets) (at : DiskLoc) (b : Node) (i : ℕ) (r : Outcome) : Type 0 where
  pub here : w.s.at ≡ at
  pub over : IsOver w.m w.up 1 w.s w.ps w.cs
  pub bucket : b ≡ record { parent = w.up; pairs = w.ps; kids = map at_of w.cs }
  pub below : AreBelow (Stands w.m w.s.at 1 w.h) w.ps w.cs
  pub apart : Distinct w.s.places
  pub inside : i ≤ length w.ps
  pub child : IsLeft w.m n w.s.at w.h (get_or w.cs i w.s) w.mine r

-- the list above, where a child's list is this
abbrev pub list_above : List Item → List Sub → ℕ → List Item → List Item
list_above ps cs i mine = front (map pairs_of (take i cs)) (take i ps) ++ (mine ++ back (map pairs_of (drop (suc i) cs)) (drop i ps))

-- what has become of the subtree of the bucket
abbrev pub IsMended : Scene → Buckets → ℕ → Outcome → Type 0
IsMended w n i r = IsLeft w.m n w.up (suc w.h) w.s (list_above w.ps w.cs i w.mine) r

-- the last pair of a subtree is taken out
abbrev pub IsLast : Buckets → Buckets → DiskLoc → ℕ → Item → Outcome → Type 0
IsLast m n at h y r = (up : DiskLoc) (s : Sub) → IsBelowRoot m up h s at → (list : List Item) × IsLeft m n up h s list r × (s.pairs ≡ list ++ y ∷ [])

-- a pair is taken out of a subtree, or the one before it
abbrev pub IsOut : Elements → Buckets → Buckets → DiskLoc → ℕ → Item → Option Item → Outcome → Type 0
IsOut spec m n at h x y r = (up : DiskLoc) (s : Sub) → StandsAt (item_lt spec) m up h s at → (list : List Item) × IsLeft m n up h s list r × IsTakenOut spec x s.pairs y list

-- a pair of a subtree has given way to another
abbrev pub IsExchanged : Elements → Buckets → Buckets → DiskLoc → ℕ → Item → Item → DiskLoc → Option Up → Type 0
IsExchanged spec m n at h x y up r = (s : Sub) → StandsAt (item_lt spec) m up h s at → (IsLacking spec x s.pairs → ⊥)
    → (ds : List Sub) × Became m n up h s.places (exchanged spec x y s.pairs) (roots_of at r) (between_of r) ds

-- where in a bucket a pair stands, and where one belongs that isn't there
pub record IsThere (spec : Elements) (ps : List Item) (x : Item) (i : ℕ) : Type 0 where
  pub inside : i < length ps
  pub parts : (z : Item) × (ps ≡ take i ps ++ z ∷ drop (suc i) ps) × (item_compare spec z x ≡ Equal)

pub record IsGap (spec : Elements) (ps : List Item) (x : Item) (i : ℕ) : Type 0 where
  pub inside : i ≤ length ps
  pub before : AllByRecursion (λ p. item_lt spec p x ≡ true) (take i ps)
  pub behind : AllByRecursion (λ p. item_lt spec x p ≡ true) (drop i ps)

-- what has become of the subtree at the root
pub record IsRootLeft (m n : Buckets) (h : ℕ) (s : Sub) (list : List Item) (root : DiskLoc) (r : Outcome) : Type 0 where
  pub here : s.at ≡ root
  pub left : IsLeft m n null h s list r

-- the answer of a removal below a place
abbrev pub IsGone : Elements → Buckets → Buckets → DiskLoc → ℕ → Item → Option Removed → Type 0
IsGone spec m n at h x None = (up : DiskLoc) (s : Sub) → StandsAt (item_lt spec) m up h s at → IsLacking spec x s.pairs
IsGone spec m n at h x (Some r) = IsOut spec m n at h x r.instead r.outcome

-- a tree out of which a pair was taken, or the one before it in its stead
pub record IsTurned (spec : Elements) (m n : Buckets) (root : DiskLoc) (h : ℕ) (x : Item) (y : Option Item) (s : Sub) (list : List Item) (t : Sub) : Type 0 where
  pub order : Sorted (item_lt spec) s.pairs
  pub out : IsTakenOut spec x s.pairs y list
  pub changed : IsChanged (item_lt spec) m n root h s list t
