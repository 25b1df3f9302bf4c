-- The order of a tree's pairs: that of their keys by the index's specification, and for equal keys that of their records by file and offset.
use Rattle.std.specs.Prelude.{◌≡◌, ℕ, ◌≤◌, Bool, List, [], ◌∷◌, length, take, drop, Option, Some, None, cond}
use Rattle.std.specs.declared.cmp.Ordering.{Ordering}
use Rattle.std.specs.declared.cmp.Ordering.TheVariants.{Less, Equal}
use Rattle.std.specs.Ordering.{ordering_then, is_lt, is_eq}
use Rattle.std.specs.List.{AllByRecursion}
use Rattle.mm_base.specs.declared.place.DiskLoc.{DiskLoc}
use Rattle.mm_bson.specs.Tree.{Elements}
use Rattle.mm_bson.specs.Walk.{document_in}
use Rattle.mm_keys.specs.KeyOrder.{key_compare}
use Rattle.mm_bucket.specs.Order.{place_compare}
use Rattle.mm_btree.specs.Nodes.{Item, Buckets}
use Rattle.mm_btree.specs.Trees.{Sub}
use Rattle.mm_btree.specs.Changes.{StandsAt}

abbrev pub item_compare : Elements → Item → Item → Ordering
item_compare spec p q = ordering_then (key_compare spec (document_in p.key) (document_in q.key)) (place_compare p.rec q.rec)

abbrev pub item_lt : Elements → Item → Item → Bool
item_lt spec p q = is_lt (item_compare spec p q)

-- no pair has an equal key and the same record
abbrev pub IsLacking : Elements → Item → List Item → Type 0
IsLacking spec x ps = AllByRecursion (λ y. item_compare spec y x ≡ Equal → ⊥) ps

-- the record of the first pair whose key is equal to this one
abbrev pub first_with : Elements → Elements → List Item → Option DiskLoc
first_with spec key [] = None
first_with spec key (p ∷ ps) = cond (is_eq (key_compare spec (document_in p.key) key)) (Some p.rec) (first_with spec key ps)

abbrev pub IsBelow : Elements → Elements → Item → Type 0
IsBelow spec key p = key_compare spec (document_in p.key) key ≡ Less

abbrev pub IsNotBelow : Elements → Elements → Item → Type 0
IsNotBelow spec key p = key_compare spec (document_in p.key) key ≡ Less → ⊥

-- before this place all keys are less than a key, and from it on none is
pub record IsKeyPlace (spec key : Elements) (ps : List Item) (i : ℕ) : Type 0 where
  pub inside : i ≤ length ps
  pub below : AllByRecursion (IsBelow spec key) (take i ps)
  pub above : AllByRecursion (IsNotBelow spec key) (drop i ps)

-- the answer of a search: of the first pair in the subtree whose key is equal to this one
abbrev pub IsFirst : Buckets → Elements → DiskLoc → ℕ → Elements → Option DiskLoc → Type 0
IsFirst m spec at h key r = (up : DiskLoc) (s : Sub) → StandsAt (item_lt spec) m up h s at → r ≡ first_with spec key s.pairs
