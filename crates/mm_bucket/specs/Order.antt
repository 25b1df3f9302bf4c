-- The order of a bucket's pairs: that of their keys by the index's specification, and for equal keys that of their records by file and offset.
use Rattle.std.specs.Prelude.{◌≡◌, ℕ, ◌<◌, ◌≤◌, List, length, IsSorted}
use Rattle.std.specs.declared.cmp.Ordering.{Ordering}
use Rattle.std.specs.declared.cmp.Ordering.TheVariants.{Less, Equal, Greater}
use Rattle.std.specs.Ordering.{ordering_then, int_cmp}
use Rattle.mm_base.specs.declared.place.DiskLoc.{DiskLoc}
use Rattle.mm_bson.specs.Tree.{Elements}
use Rattle.mm_bson.specs.Walk.{document_in}
use Rattle.mm_keys.specs.KeyOrder.{key_compare}
use Rattle.mm_bucket.specs.Pairs.{Pair, pair_at}

abbrev pub place_compare : DiskLoc → DiskLoc → Ordering
place_compare p q = ordering_then (int_cmp p.file q.file) (int_cmp p.ofs q.ofs)

-- a pair beside a key and a record
abbrev pub compare_pair : Elements → Pair → Elements → DiskLoc → Ordering
compare_pair spec p key rec = ordering_then (key_compare spec (document_in p.key) key) (place_compare p.rec rec)

abbrev pub pair_compare : Elements → Pair → Pair → Ordering
pair_compare spec p q = compare_pair spec p (document_in q.key) q.rec

-- no pair is less than the one before it
abbrev pub AreInOrder : Elements → List Pair → Type 0
AreInOrder spec ps = IsSorted (pair_compare spec) ps

-- where a key and a record that no pair has belong: behind the pairs that are less, and before those that are greater
pub record Belongs (spec : Elements) (ps : List Pair) (key : Elements) (rec : DiskLoc) (i : ℕ) : Type 0 where
  pub inside : i ≤ length ps
  pub below : (j : ℕ) → j < i → compare_pair spec (pair_at ps j) key rec ≡ Less
  pub above : (j : ℕ) → i ≤ j → j < length ps → compare_pair spec (pair_at ps j) key rec ≡ Greater

-- where they stand
pub record IsFoundAt (spec : Elements) (ps : List Pair) (key : Elements) (rec : DiskLoc) (i : ℕ) : Type 0 where
  pub inside : i < length ps
  pub equal : compare_pair spec (pair_at ps i) key rec ≡ Equal
