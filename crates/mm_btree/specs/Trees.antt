-- Which buckets are a tree, and what it holds.
use Rattle.std.specs.Prelude.{◌≡◌, ℕ, zero, suc, ◌≤◌, true, false, List, [], ◌∷◌, ◌++◌, length, map, Some, None}
use Rattle.std.specs.List.{flat_map, AllByRecursion}
use Rattle.mm_base.specs.declared.place.DiskLoc.{DiskLoc}
use Rattle.mm_btree.specs.Nodes.{Item, Buckets}
use Rattle.mm_btree.specs.Lists.{front, back, weave, has, Distinct}

-- A subtree: the place of its root, its pairs in order, and the places of its buckets.
pub record Sub : Type 0 where
  pub at : DiskLoc
  pub pairs : List Item
  pub places : List DiskLoc

abbrev pub at_of : Sub → DiskLoc
at_of s = s.at

abbrev pub pairs_of : Sub → List Item
pairs_of s = s.pairs

abbrev pub places_of : Sub → List DiskLoc
places_of s = s.places

-- all their places
abbrev pub all_places : List Sub → List DiskLoc
all_places = flat_map places_of

-- A bucket with these pairs, at least so many, over these subtrees.
pub record IsOver (m : Buckets) (up : DiskLoc) (least : ℕ) (s : Sub) (ps : List Item) (cs : List Sub) : Type 0 where
  pub bucket : m s.at ≡ Some (record { parent = up; pairs = ps; kids = map at_of cs })
  pub pairs : s.pairs ≡ weave (map pairs_of cs) ps
  pub places : s.places ≡ s.at ∷ all_places cs
  pub some : least ≤ length ps

-- Subtrees below a bucket with these pairs: none, or one more than there are pairs, each of this kind.
abbrev pub AreBelow : (Sub → Type 0) → List Item → List Sub → Type 0
AreBelow P ps cs = (length cs ≡ suc (length ps)) × AllByRecursion P cs

-- The subtree stands in these buckets: all leaves are h levels down, each child names its parent, each bucket below has a pair.
abbrev pub Stands : Buckets → DiskLoc → ℕ → ℕ → Sub → Type 0
Stands m up least zero s = (ps : List Item) × (cs : List Sub) × IsOver m up least s ps cs × (cs ≡ [])
Stands m up least (suc h) s = (ps : List Item) × (cs : List Sub) × IsOver m up least s ps cs × AreBelow (Stands m s.at 1 h) ps cs

-- what stands below a bucket
abbrev pub Below : Buckets → DiskLoc → ℕ → List Item → List Sub → Type 0
Below m at zero ps cs = cs ≡ []
Below m at (suc h) ps cs = AreBelow (Stands m at 1 h) ps cs

-- What is kept elsewhere where the buckets of some places give way to those of others: the new ones were free, and the old ones are.
pub record Moves (m n : Buckets) (old new : List DiskLoc) : Type 0 where
  pub others : (q : DiskLoc) → has q old ≡ false → has q new ≡ false → n q ≡ m q
  pub fresh : (q : DiskLoc) → has q old ≡ false → has q new ≡ true → m q ≡ None
  pub gone : (q : DiskLoc) → has q old ≡ true → has q new ≡ false → n q ≡ None

-- Buckets that a subtree stood in have become those of subtrees with these roots, under the same parent; with these pairs between them they hold this list.
pub record Became (m n : Buckets) (up : DiskLoc) (h : ℕ) (old : List DiskLoc) (list : List Item) (roots : List DiskLoc) (between : List Item) (ds : List Sub) : Type 0 where
  pub placed : map at_of ds ≡ roots
  pub stand : AllByRecursion (Stands n up 1 h) ds
  pub pairs : weave (map pairs_of ds) between ≡ list
  pub apart : Distinct (all_places ds)
  pub moved : Moves m n old (all_places ds)

-- The bucket at a place is to get these pairs and subtrees, which hold the list.
pub record Pending (m n : Buckets) (at : DiskLoc) (h : ℕ) (old : List DiskLoc) (list ps : List Item) (cs : List Sub) : Type 0 where
  pub below : Below n at h ps cs
  pub woven : weave (map pairs_of cs) ps ≡ list
  pub apart : Distinct (at ∷ all_places cs)
  pub moved : Moves m n old (at ∷ all_places cs)

-- the subtree whose root has these pairs over these subtrees
abbrev pub sub : DiskLoc → List Item → List Sub → Sub
sub at ps cs = record { at = at; pairs = weave (map pairs_of cs) ps; places = at ∷ all_places cs }

-- What a change of some neighbours leaves above them.
pub record Changed (m n : Buckets) (h : ℕ) (s : Sub) (ps rs qs : List Item) (ls es bs : List Sub) (mine between : List Item) (ds : List Sub) : Type 0 where
  pub was : s.pairs ≡ front (map pairs_of ls) ps ++ (weave (map pairs_of es) rs ++ back (map pairs_of bs) qs)
  pub pending : Pending m n s.at (suc h) s.places (front (map pairs_of ls) ps ++ (mine ++ back (map pairs_of bs) qs)) (ps ++ (between ++ qs)) (ls ++ (ds ++ bs))
  pub above : n s.at ≡ m s.at

-- A subtree has become another with the same root, which may be without pairs.
pub record Thinned (m n : Buckets) (up : DiskLoc) (h : ℕ) (c t : Sub) : Type 0 where
  pub at : t.at ≡ c.at
  pub stands : Stands n up 0 h t
  pub apart : Distinct t.places
  pub moved : Moves m n c.places t.places

-- The neighbour stands as it stood, and has no place of the other.
pub record Beside (m n : Buckets) (up : DiskLoc) (h : ℕ) (l c t : Sub) : Type 0 where
  pub stands : Stands n up 1 h l
  pub apart : Distinct (l.places ++ t.places)
  pub moved : Moves m n (l.places ++ c.places) (l.places ++ t.places)
