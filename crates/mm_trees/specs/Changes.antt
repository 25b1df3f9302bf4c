-- What putting a pair into a tree and taking one out make of it, whatever its height.
use Rattle.std.specs.Prelude.{◌≡◌, ℕ, ◌↔◌, Bool, List, Option, None, IsTrue, IsSome}
use Rattle.mm_base.specs.declared.place.DiskLoc.{DiskLoc}
use Rattle.mm_bson.specs.Tree.{Elements}
use Rattle.mm_bson.specs.Walk.{document_in}
use Rattle.mm_btree.specs.Nodes.{Item, Buckets}
use Rattle.mm_btree.specs.Lists.{ins}
use Rattle.mm_btree.specs.Trees.{Sub}
use Rattle.mm_btree.specs.Order.{item_lt, IsLacking, first_with}
use Rattle.mm_btree.specs.Changes.{IsTree, IsChanged, root_after}
use Rattle.mm_btree.specs.Removal.{without}

-- this holds of the height of the tree at a root
abbrev pub OfHeight : Elements → Buckets → DiskLoc → (ℕ → Type 0) → Type 0
OfHeight spec m root P = (h : ℕ) (s : Sub) → IsTree (item_lt spec) m root h s → P h

-- a tree that hasn't the pair has it
abbrev pub IsPutIn : Elements → Buckets → Buckets → DiskLoc → Item → Option DiskLoc → Type 0
IsPutIn spec m n root x r = (h : ℕ) (s : Sub) → IsTree (item_lt spec) m root h s → IsLacking spec x s.pairs
    → (k : ℕ) × ((t : Sub) × IsChanged (item_lt spec) m n (root_after root r) k s (ins (item_lt spec) x s.pairs) t)

-- the index is unique and a pair of an equal key is there
abbrev pub IsTwice : Elements → Buckets → DiskLoc → List ℕ → Bool → Type 0
IsTwice spec m root key unique = (h : ℕ) (s : Sub) → IsTree (item_lt spec) m root h s → IsTrue unique × IsSome (first_with spec (document_in key) s.pairs)

abbrev pub IsntTwice : Elements → Buckets → DiskLoc → List ℕ → Bool → Type 0
IsntTwice spec m root key unique = (h : ℕ) (s : Sub) → IsTree (item_lt spec) m root h s → IsTrue unique → IsSome (first_with spec (document_in key) s.pairs) → ⊥

-- the pair is gone, and the tree has this root
abbrev pub IsTaken : Elements → Buckets → Buckets → DiskLoc → Item → DiskLoc → Type 0
IsTaken spec m n root x after = (h : ℕ) (s : Sub) → IsTree (item_lt spec) m root h s → (k : ℕ) × ((t : Sub) × IsChanged (item_lt spec) m n after k s (without spec x s.pairs) t)

-- a root is answered exactly where the pair was there
abbrev pub IsThere : Elements → Buckets → DiskLoc → Item → Option DiskLoc → Type 0
IsThere spec m root x r = (h : ℕ) (s : Sub) → IsTree (item_lt spec) m root h s → (r ≡ None) ↔ IsLacking spec x s.pairs
