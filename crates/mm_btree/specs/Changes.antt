-- What the steps of a tree do to buckets, and what a tree is.
use Rattle.std.specs.Prelude.{◌≡◌, ℕ, zero, suc, ◌≤◌, Bool, true, false, List, [], ◌∷◌, ◌++◌, length, take, drop, Option, Some, None, cond, IsSome}
use Rattle.std.specs.List.{AllByRecursion}
use Rattle.mm_base.specs.Places.{null}
use Rattle.mm_base.specs.declared.place.DiskLoc.{DiskLoc}
use Rattle.mm_btree.specs.Nodes.{Item, Node, Buckets, put, with_parent}
use Rattle.mm_btree.specs.Lists.{has, Distinct, ins, Sorted, BeginsAbove}
use Rattle.mm_btree.specs.Trees.{Sub, Stands, Moves, Became, sub}

-- the pair that goes up where a bucket is parted, and the place of the right part
pub record Up : Type 0 where
  pub mid : Item
  pub right : DiskLoc

-- some buckets get another parent
abbrev pub adopted : Buckets → List DiskLoc → DiskLoc → Buckets
adopted m kids up q = cond (has q kids) (with_parent up (m q)) (m q)

-- each of these places has a bucket
abbrev pub AreThere : Buckets → List DiskLoc → Type 0
AreThere m kids = (q : DiskLoc) → has q kids ≡ true → IsSome (m q)

-- a bucket's left part stays at its place, the right one is new, and its children have it as their parent
abbrev pub parts_map : Buckets → DiskLoc → DiskLoc → DiskLoc → List Item → List DiskLoc → List Item → List DiskLoc → Buckets
parts_map n up at r ps left qs right =
    adopted (put (put n r (Some (record { parent = up; pairs = qs; kids = right }))) at (Some (record { parent = up; pairs = ps; kids = left }))) right r

pub record IsParted (m n : Buckets) (at : DiskLoc) (b : Node) (u : Up) (ps qs : List Item) : Type 0 where
  pub pairs : b.pairs ≡ ps ++ u.mid ∷ qs
  pub some : 1 ≤ length ps
  pub more : 1 ≤ length qs
  pub free : m u.right ≡ None
  pub same : (q : DiskLoc) → n q ≡ parts_map m b.parent at u.right ps (take (suc (length ps)) b.kids) qs (drop (suc (length ps)) b.kids) q

-- the bucket is written whole, or as two
abbrev pub IsSettled : Buckets → Buckets → DiskLoc → Node → Option Up → Type 0
IsSettled m n at b None = (q : DiskLoc) → n q ≡ put m at (Some b) q
IsSettled m n at b (Some u) = (ps : List Item) × (qs : List Item) × IsParted m n at b u ps qs

-- a leaf that is the root may be empty; an inner bucket has a pair
abbrev pub least_at : ℕ → ℕ
least_at zero = 0
least_at (suc h) = 1

-- where a pair would go: those before aren't greater, the one there is
pub record IsPlace (lt : Item → Item → Bool) (ps : List Item) (x : Item) (i : ℕ) : Type 0 where
  pub inside : i ≤ length ps
  pub before : AllByRecursion (λ p. lt x p ≡ false) (take i ps)
  pub behind : BeginsAbove lt x (drop i ps)

-- the subtree at a place stands, with its pairs in order and no bucket twice
pub record StandsAt (lt : Item → Item → Bool) (m : Buckets) (up : DiskLoc) (h : ℕ) (s : Sub) (at : DiskLoc) : Type 0 where
  pub here : s.at ≡ at
  pub stands : Stands m up (least_at h) h s
  pub apart : Distinct s.places
  pub order : Sorted lt s.pairs

-- the roots that stand where one did, and the pair between them
abbrev pub roots_of : DiskLoc → Option Up → List DiskLoc
roots_of at None = at ∷ []
roots_of at (Some u) = at ∷ u.right ∷ []

abbrev pub between_of : Option Up → List Item
between_of None = []
between_of (Some u) = u.mid ∷ []

-- a bucket is parted in two, with a pair between
pub record IsSplit (b l : Node) (mid : Item) (r : Node) : Type 0 where
  pub pairs : b.pairs ≡ l.pairs ++ mid ∷ r.pairs
  pub left : l.kids ≡ take (suc (length l.pairs)) b.kids
  pub right : r.kids ≡ drop (suc (length l.pairs)) b.kids
  pub left_parent : l.parent ≡ b.parent
  pub right_parent : r.parent ≡ b.parent
  pub some : 1 ≤ length l.pairs
  pub more : 1 ≤ length r.pairs

-- the pair is in the subtree, or in the two that it has become
abbrev pub IsInserted : (Item → Item → Bool) → Buckets → Buckets → DiskLoc → ℕ → Item → DiskLoc → Option Up → Type 0
IsInserted lt m n at h x up r =
    (s : Sub) → StandsAt lt m up h s at → (ds : List Sub) × Became m n up h s.places (ins lt x s.pairs) (roots_of at r) (between_of r) ds

-- A tree: a root without a parent, this high.
abbrev pub IsTree : (Item → Item → Bool) → Buckets → DiskLoc → ℕ → Sub → Type 0
IsTree lt m root height s = StandsAt lt m null height s root

-- the root that a tree then has, and how high it is
abbrev pub root_after : DiskLoc → Option DiskLoc → DiskLoc
root_after root None = root
root_after root (Some r) = r

abbrev pub height_after : ℕ → Option DiskLoc → ℕ
height_after h None = h
height_after h (Some r) = suc h

-- one tree gave way to another, which holds this list; all else is as it was
pub record IsChanged (lt : Item → Item → Bool) (m n : Buckets) (root : DiskLoc) (height : ℕ) (old : Sub) (list : List Item) (new : Sub) : Type 0 where
  pub tree : IsTree lt n root height new
  pub holds : new.pairs ≡ list
  pub moved : Moves m n old.places new.places

-- a new root over two
abbrev pub rooted_map : Buckets → DiskLoc → DiskLoc → Up → Buckets
rooted_map n r root u = adopted (put n r (Some (record { parent = null; pairs = u.mid ∷ []; kids = root ∷ u.right ∷ [] }))) (root ∷ u.right ∷ []) r

-- the right one is free, and its children have the left one as their parent
abbrev pub freed : Buckets → DiskLoc → DiskLoc → List DiskLoc → Buckets
freed m left right kids = put (adopted m kids left) right None

-- two neighbours and the pair between them, as one bucket
abbrev pub joined_node : Node → Item → Node → Node
joined_node b mid c = record { parent = b.parent; pairs = b.pairs ++ mid ∷ c.pairs; kids = b.kids ++ c.kids }

pub record IsPartedAnew (m n : Buckets) (left right : DiskLoc) (b c : Node) (mid new : Item) (ps qs : List Item) : Type 0 where
  pub pairs : b.pairs ++ mid ∷ c.pairs ≡ ps ++ new ∷ qs
  pub some : 1 ≤ length ps
  pub more : 1 ≤ length qs
  pub same : (q : DiskLoc) → n q ≡ parts_map (freed m left right c.kids) b.parent left right ps (take (suc (length ps)) (b.kids ++ c.kids)) qs (drop (suc (length ps)) (b.kids ++ c.kids)) q

-- the two have become one, or two with another pair between them
abbrev pub IsRejoined : Buckets → Buckets → DiskLoc → DiskLoc → Node → Item → Node → Option Item → Type 0
IsRejoined m n left right b mid c None = (q : DiskLoc) → n q ≡ put (freed m left right c.kids) left (Some (joined_node b mid c)) q
IsRejoined m n left right b mid c (Some new) = (ps : List Item) × (qs : List Item) × IsPartedAnew m n left right b c mid new ps qs

-- the roots that stand where two neighbours did, and the pair between them
abbrev pub roots_joined : DiskLoc → DiskLoc → Option Item → List DiskLoc
roots_joined left right None = left ∷ []
roots_joined left right (Some new) = left ∷ right ∷ []

abbrev pub between_joined : Option Item → List Item
between_joined None = []
between_joined (Some new) = new ∷ []

-- a tree without pairs, of one bucket, at a place that was free
pub record IsMade (m n : Buckets) (root : DiskLoc) : Type 0 where
  pub tree : (lt : Item → Item → Bool) → IsTree lt n root 0 (sub root [] [])
  pub moved : Moves m n [] (root ∷ [])
