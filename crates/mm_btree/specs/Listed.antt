-- What a tree lists: its pairs in order, and the records of those whose keys lie between two bounds.
use Rattle.std.specs.Prelude.{◌≡◌, ℕ, zero, suc, ◌<◌, ◌≤◌, Bool, true, false, not, ◌&&◌, List, [], length, map, take, drop, filter, Option, Some, None}
use Rattle.std.specs.Ordering.{is_lt, is_gt}
use Rattle.std.specs.List.{AllByRecursion}
use Rattle.mm_base.specs.declared.place.DiskLoc.{DiskLoc}
use Rattle.mm_bson.specs.Tree.{Elements}
use Rattle.mm_bson.specs.Walk.{document_in}
use Rattle.mm_keys.specs.KeyOrder.{key_compare}
use Rattle.mm_bucket.specs.Pairs.{Pair, pair_at}
use Rattle.mm_btree.specs.Nodes.{Item, Node, Buckets, item_of}
use Rattle.mm_btree.specs.Lists.{weave}

abbrev pub pairs_in : Option Node → List Item
pairs_in None = []
pairs_in (Some b) = b.pairs

abbrev pub kids_in : Option Node → List DiskLoc
kids_in None = []
kids_in (Some b) = b.kids

-- the pairs below a place, whose leaves are so many levels down: each child's with the bucket's own between
abbrev pub listed : Buckets → ℕ → DiskLoc → List Item
listed m zero at = pairs_in (m at)
listed m (suc h) at = weave (map (listed m h) (kids_in (m at))) (pairs_in (m at))

abbrev pub rec_of : Item → DiskLoc
rec_of p = p.rec

-- a pair's key isn't less than a bound; without a bound none is
abbrev pub reaches : Elements → Option Elements → Item → Bool
reaches spec None p = true
reaches spec (Some low) p = not (is_lt (key_compare spec (document_in p.key) low))

-- nor greater
abbrev pub stays : Elements → Option Elements → Item → Bool
stays spec None p = true
stays spec (Some high) p = not (is_gt (key_compare spec (document_in p.key) high))

abbrev pub lies : Elements → Option Elements → Option Elements → Item → Bool
lies spec low high p = reaches spec low p && stays spec high p

-- the records of the pairs whose keys lie between two bounds, in the order of the pairs
abbrev pub between : Elements → Option Elements → Option Elements → List Item → List DiskLoc
between spec low high ps = map rec_of (filter (lies spec low high) ps)

-- where the pairs of a bucket begin whose keys aren't less than a bound
pub record IsStart (spec : Elements) (low : Option Elements) (ps : List Pair) (i : ℕ) : Type 0 where
  pub inside : i ≤ length ps
  pub before : AllByRecursion (λ p. reaches spec low p ≡ false) (take i (map item_of ps))
  pub behind : (j : ℕ) → i ≤ j → j < length ps → reaches spec low (item_of (pair_at ps j)) ≡ true

-- where those end, from a place on, whose keys aren't greater
pub record IsEnd (spec : Elements) (high : Option Elements) (ps : List Pair) (from i : ℕ) : Type 0 where
  pub order : from ≤ i
  pub inside : i ≤ length ps
  pub before : (j : ℕ) → from ≤ j → j < i → stays spec high (item_of (pair_at ps j)) ≡ true
  pub behind : AllByRecursion (λ p. stays spec high p ≡ false) (drop i (map item_of ps))
