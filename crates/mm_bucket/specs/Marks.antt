-- What is kept while a bucket is read: which bytes of its body are taken by the keys so far, and what is known of the first pairs.
use Rattle.std.specs.Prelude.{◌≡◌, ℕ, ◌+◌, ◌-◌, ◌*◌, ◌<◌, ◌≤◌, pos, Bool, false, ◌&&◌, ◌||◌, nat_le, nat_lt, List, [], ◌∷◌, length, slice_index_or}
use Rattle.std.specs.List.{AllByRecursion}
use Rattle.mm_base.specs.Bytes.{part}
use Rattle.mm_frames.specs.Numbers.{bucket_flags}
use Rattle.mm_frames.specs.declared.bucket_header.BucketHeader.{BucketHeader}
use Rattle.mm_bucket.specs.Pairs.{HasKey, IsKey}
use Rattle.mm_bucket.specs.Layout.{Slot, AreAt, slots, IsWithin, Apart, pairs_in}

abbrev pub mark : List Bool → ℕ → Bool
mark taken q = slice_index_or taken q false

-- no byte of these is taken
abbrev pub AreFree : List Bool → ℕ → ℕ → Type 0
AreFree taken from len = (q : ℕ) → from ≤ q → q < from + len → mark taken q ≡ false

abbrev pub is_in : ℕ → ℕ → ℕ → Bool
is_in from len q = nat_le from q && nat_lt q (from + len)

-- some slot has this byte
abbrev pub is_covered : List Slot → ℕ → Bool
is_covered [] q = false
is_covered (s ∷ ss) q = is_in s.0 s.1 q || is_covered ss q

-- the bytes that are taken are those of the slots
abbrev pub AreMarked : List Bool → List Slot → Type 0
AreMarked taken ss = (q : ℕ) → q < 8152 → mark taken q ≡ is_covered ss q

-- a key of the body stands here
pub record IsKeyAt (bytes : List ℕ) (ofs : ℕ) (key : List ℕ) : Type 0 where
  pub good : IsKey key
  pub here : part (40 + ofs) (length key) bytes ≡ key

-- the first n pairs, as far as they are laid out alone
pub record Front (bytes : List ℕ) (begin n : ℕ) : Type 0 where
  pub nodes : AreAt bytes 40 (pairs_in bytes 40 n)
  pub keys : AllByRecursion HasKey (pairs_in bytes 40 n)
  pub within : AllByRecursion (IsWithin begin 8152) (slots bytes 40 (pairs_in bytes 40 n))
  pub apart : Apart (slots bytes 40 (pairs_in bytes 40 n))

-- the numbers of a header belong to n pairs whose keys begin here
pub record IsCounted (h : BucketHeader) (n begin : ℕ) : Type 0 where
  pub was : h.was_size ≡ 0
  pub reserved : h.reserved_size ≡ 0
  pub flags : h.flags ≡ bucket_flags
  pub empty : h.empty_size ≡ pos (begin - 18 * n)
  pub top : h.top_size ≡ pos (8152 - begin)
  pub many : h.n ≡ pos n
  pub room : 18 * n ≤ begin
  pub inside : begin ≤ 8152
