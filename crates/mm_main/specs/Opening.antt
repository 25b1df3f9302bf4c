-- The fields of the headers of a file, of its extent, of a record and of a deleted block, one by one.
use Rattle.std.specs.Prelude.{◌≡◌, ℕ, ℤ, pos, ◌-◌, ◌≤ℤ◌}
use Rattle.mm_base.specs.Places.{null}
use Rattle.mm_frames.specs.declared.extent_header.ExtentHeader.{ExtentHeader}
use Rattle.mm_frames.specs.declared.file_header.FileHeader.{FileHeader}
use Rattle.mm_frames.specs.declared.rec_header.RecHeader.{RecHeader}
use Rattle.mm_frames.specs.declared.deleted_header.DeletedHeader.{DeletedHeader}
use Rattle.mm_main.specs.DataFile.{at_file_0}
use Rattle.mm_main.specs.Room.{file_len, extent_at, extent_len}

-- the fields of a file's header, where the bytes that no extent has begin at an offset
pub record HasNumbers (header : FileHeader) (unused : ℕ) : Type 0 where
  pub version : header.version ≡ 4
  pub version_minor : header.version_minor ≡ 5
  pub file_length : header.file_length ≡ file_len
  pub place : header.unused ≡ at_file_0 (pos unused)
  pub unused_length : header.unused_length ≡ file_len - unused

-- the fields of the extent's header that are the same in each data file
pub record HasConstants (header : ExtentHeader) : Type 0 where
  pub magic : header.magic ≡ 0x41424344
  pub my_loc : header.my_loc ≡ at_file_0 (pos extent_at)
  pub xnext : header.xnext ≡ null
  pub xprev : header.xprev ≡ null
  pub len : header.len ≡ pos extent_len

-- a record of the extent, behind another
pub record IsBehind (header : RecHeader) (prev : ℤ) : Type 0 where
  pub long : pos 32 ≤ℤ header.length_with_headers
  pub of_extent : header.extent_ofs ≡ pos extent_at
  pub behind : header.prev_ofs ≡ prev

-- the deleted block that takes the rest of the extent
pub record TakesRest (header : DeletedHeader) (at : ℕ) : Type 0 where
  pub len : header.length_with_headers ≡ pos (file_len - at)
  pub of_extent : header.extent_ofs ≡ pos extent_at
  pub next : header.next_deleted ≡ null
