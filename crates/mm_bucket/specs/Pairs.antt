-- What a bucket holds (MongoDB 2.6, MMAPv1: BtreeBucket): its pairs of a key and a record in their order, each with the child before it, and the
-- child behind all of them.
use Rattle.std.specs.Prelude.{◌≡◌, ℕ, ◌+◌, ◌-◌, ◌*◌, ◌≤◌, List, [], ◌∷◌, ◌++◌, length, take, drop, insert, cond, nat_eq, slice_index_or}
use Rattle.mm_base.specs.Places.{null}
use Rattle.mm_base.specs.declared.place.DiskLoc.{DiskLoc}
use Rattle.mm_bson.specs.Tree.{Elements}
use Rattle.mm_bson.specs.Spelling.{IsDocument, spelling}
use Rattle.mm_keys.specs.Key.{AreNameless}

pub record Pair : Type 0 where
  pub left : DiskLoc
  pub rec : DiskLoc
  pub key : List ℕ

pub record Contents : Type 0 where
  pub parent : DiskLoc
  pub pairs : List Pair
  pub next : DiskLoc

-- a document in which no element has a name
abbrev pub IsNameless : List ℕ → Type 0
IsNameless bytes = (es : Elements) × IsDocument es × (bytes ≡ spelling es) × AreNameless es

pub record IsKey (key : List ℕ) : Type 0 where
  pub document : IsNameless key
  pub short : length key ≤ 1024

abbrev pub HasKey : Pair → Type 0
HasKey p = IsKey p.key

-- how many bytes the keys have
abbrev pub key_len : List Pair → ℕ
key_len [] = 0
key_len (p ∷ ps) = length p.key + key_len ps

-- how many bytes of a body the pairs take: each a key node and its key
abbrev pub size : List Pair → ℕ
size ps = 18 * length ps + key_len ps

abbrev pub Fits : List Pair → Type 0
Fits ps = size ps ≤ 8152

-- another pair fits besides, whatever its key
abbrev pub HasRoom : List Pair → Type 0
HasRoom ps = size ps + 1042 ≤ 8152

abbrev pub blank : Pair
blank = record { left = null; rec = null; key = [] }

abbrev pub pair_at : List Pair → ℕ → Pair
pair_at ps i = slice_index_or ps i blank

-- one pair with another child before it
abbrev pub with_left : List Pair → ℕ → DiskLoc → List Pair
with_left ps i left = take i ps ++ record (pair_at ps i) { left = left } ∷ drop (i + 1) ps

-- the child before a pair, or the last one
abbrev pub child_at : Contents → ℕ → DiskLoc
child_at b i = cond (nat_eq i (length b.pairs)) b.next (pair_at b.pairs i).left

abbrev pub with_child : Contents → ℕ → DiskLoc → Contents
with_child b i child = cond (nat_eq i (length b.pairs)) (record b { next = child }) (record b { pairs = with_left b.pairs i child })

-- one pair more, between the child that was there and another behind the pair
abbrev pub with_pair : Contents → ℕ → List ℕ → DiskLoc → DiskLoc → Contents
with_pair b i key rec after =
    record (with_child b i after) { pairs = insert (with_child b i after).pairs i (record { left = child_at b i; rec = rec; key = key }) }

-- contents that are parted: the pairs go on in the right part, the last pair of the left one is the one between, and the child before it is the
-- last one of the left part already
pub record IsParted (whole left right : Contents) : Type 0 where
  pub pairs : whole.pairs ≡ left.pairs ++ right.pairs
  pub some : 2 ≤ length left.pairs
  pub more : 1 ≤ length right.pairs
  pub left_parent : left.parent ≡ whole.parent
  pub right_parent : right.parent ≡ whole.parent
  pub left_next : left.next ≡ (pair_at left.pairs (length left.pairs - 1)).left
  pub right_next : right.next ≡ whole.next
