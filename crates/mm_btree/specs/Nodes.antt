-- A bucket as a tree sees it: its parent, its pairs in order, and its children: none in a leaf, else one more than there are pairs.
use Rattle.std.specs.Prelude.{ℕ, Bool, List, [], map, cond, Option, Some, None}
use Rattle.std.specs.Ordering.{is_eq}
use Rattle.mm_base.specs.declared.place.DiskLoc.{DiskLoc}
use Rattle.mm_bucket.specs.Pairs.{Pair, Contents}
use Rattle.mm_bucket.specs.Rules.{children}
use Rattle.mm_bucket.specs.Order.{place_compare}
use Rattle.mm_base.specs.Places.{null}

-- a pair without the child before it
pub record Item : Type 0 where
  pub key : List ℕ
  pub rec : DiskLoc

pub record Node : Type 0 where
  pub parent : DiskLoc
  pub pairs : List Item
  pub kids : List DiskLoc

-- two places are one
abbrev pub place_eq : DiskLoc → DiskLoc → Bool
place_eq p q = is_eq (place_compare p q)

abbrev pub item_of : Pair → Item
item_of p = record { key = p.key; rec = p.rec }

-- what a bucket holds, as two lists
abbrev pub node_of : Contents → Node
node_of b = record { parent = b.parent; pairs = map item_of b.pairs; kids = cond (place_eq b.next null) [] (children b) }

-- which bucket stands at each place
abbrev pub Buckets : Type 0
Buckets = DiskLoc → Option Node

-- the same but for this place
abbrev pub put : Buckets → DiskLoc → Option Node → Buckets
put m at b q = cond (place_eq q at) b (m q)

abbrev pub with_parent : DiskLoc → Option Node → Option Node
with_parent up None = None
with_parent up (Some b) = Some (record b { parent = up })
