-- What a bucket may hold (MongoDB 2.6, MMAPv1: BtreeBucket), as far as one bucket shows it, the order of its pairs apart.
use Rattle.std.specs.Prelude.{◌≡◌, ◌⊎◌, Bool, true, false, List, [], ◌∷◌, ◌++◌, map}
use Rattle.std.specs.List.{AllByRecursion}
use Rattle.mm_base.specs.Places.{null}
use Rattle.mm_base.specs.declared.place.DiskLoc.{DiskLoc}
use Rattle.mm_bucket.specs.Pairs.{Pair, Contents}

abbrev pub left_of : Pair → DiskLoc
left_of p = p.left

-- the children in their order, the last one included
abbrev pub children : Contents → List DiskLoc
children b = map left_of b.pairs ++ b.next ∷ []

abbrev pub IsNull : DiskLoc → Type 0
IsNull place = place ≡ null

abbrev pub IsPlace : DiskLoc → Type 0
IsPlace place = place ≡ null → ⊥

-- all are null, as the children of a leaf, or none is, as those of an inner bucket
abbrev pub AreAlike : List DiskLoc → Type 0
AreAlike places = AllByRecursion IsNull places ⊎ AllByRecursion IsPlace places

-- Without a pair a bucket is the root, and a leaf.
pub record IsBucket (b : Contents) : Type 0 where
  pub alike : AreAlike (children b)
  pub keyless : b.pairs ≡ [] → (b.parent ≡ null) × (b.next ≡ null)

-- one child as the others are
abbrev pub Agrees : Bool → DiskLoc → Type 0
Agrees true place = IsNull place
Agrees false place = IsPlace place
