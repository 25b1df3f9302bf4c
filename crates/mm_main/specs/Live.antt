-- The live records of a data file, by the links that stand in it (MongoDB 2.6, MMAPv1: extents, and the chain of records in each).
use Rattle.std.specs.Prelude.{◌≡◌, ℕ, ℤ, pos, negsuc, ◌+◌, ◌≤◌, List, [], ◌∷◌, length}
use Rattle.std.specs.List.{flat_map}
use Rattle.mm_base.specs.Bytes.{part}
use Rattle.mm_frames.specs.FileHeader.{file_header_of}
use Rattle.mm_frames.specs.ExtentHeader.{extent_header_of}
use Rattle.mm_frames.specs.RecHeader.{rec_header_of}

-- A record at an offset of an extent, behind another, whose room begins with these bytes.
pub record IsLive (file : List ℕ) (extent : ℕ) (prev : ℤ) (at : ℕ) (payload : List ℕ) : Type 0 where
  pub of_extent : (rec_header_of (part at 16 file)).extent_ofs ≡ pos extent
  pub behind : (rec_header_of (part at 16 file)).prev_ofs ≡ prev
  pub len : ℕ
  pub length_is : (rec_header_of (part at 16 file)).length_with_headers ≡ pos len
  pub room : length payload + 16 ≤ len
  pub begins : part (at + 16) (length payload) file ≡ payload

-- The chain of an extent from an offset on, each record linked to the next. The offset -1 ends it.
abbrev pub IsChain : List ℕ → ℕ → ℤ → ℤ → List (List ℕ) → Type 0
IsChain file extent prev ofs [] = ofs ≡ negsuc 0
IsChain file extent prev ofs (payload ∷ payloads) =
    (at : ℕ) × (ofs ≡ pos at) × IsLive file extent prev at payload × IsChain file extent (pos at) (rec_header_of (part at 16 file)).next_ofs payloads

-- The extents from an offset to an end, one behind the other, with the live records of each.
abbrev pub AreExtents : List ℕ → ℕ → ℕ → List (List (List ℕ)) → Type 0
AreExtents file at end [] = at ≡ end
AreExtents file at end (payloads ∷ others) =
    ((extent_header_of (part at 176 file)).magic ≡ 0x41424344)
    × IsChain file at (negsuc 0) (extent_header_of (part at 176 file)).first_record.ofs payloads
    × (len : ℕ) × ((extent_header_of (part at 176 file)).len ≡ pos len) × AreExtents file (at + len) end others

-- The file's extents, up to what no extent has, have these live records in order.
pub record HasLive (file : List ℕ) (payloads : List (List ℕ)) : Type 0 where
  pub end : ℕ
  pub unused : (file_header_of (part 0 8192 file)).unused.ofs ≡ pos end
  pub groups : List (List (List ℕ))
  pub extents : AreExtents file 8192 end groups
  pub all : flat_map (λ group. group) groups ≡ payloads
