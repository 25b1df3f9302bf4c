-- How extents tile the data files, and blocks the extents.
use Rattle.std.specs.Prelude.{◌≡◌, ◌≢◌, ℕ, ℤ, pos, ◌+◌, ◌%◌, ◌<◌, ◌≤◌, ◌⊎◌, List, length, Option, Some}
use Rattle.std.specs.Option.{option_map}
use Rattle.mm_base.specs.Bytes.{padded}
use Rattle.mm_base.specs.declared.place.DiskLoc.{DiskLoc}
use Rattle.mm_frames.specs.Texts.{text_in}
use Rattle.mm_links.specs.Links.{Place}
use Rattle.mm_extents.specs.Heap.{Cell, extent, live, deleted, Heap}
use Rattle.mm_extents.specs.Changes.{loc}

-- ---- the outline: what a file says of its tiling

-- An extent with its magic, its own place, its name and its length; a block with its extent, the length that its header names, and its length.
pub data Outline : Type 0 where
  an_extent : ℕ → DiskLoc → List ℕ → ℤ → Outline
  a_block : ℤ → ℤ → ℕ → Outline

abbrev pub outline : Cell → Outline
outline (extent h) = an_extent h.magic h.my_loc h.namespace h.len
outline (live h room) = a_block h.extent_ofs h.length_with_headers (16 + length room)
outline (deleted h rest) = a_block h.extent_ofs h.length_with_headers (16 + length rest)

abbrev pub ground : Heap → Place → Option Outline
ground heap p = option_map outline (heap p)

-- ---- tiling

-- An extent begins there, or the file's unused rest.
abbrev pub ExtentAt : (Place → Option Outline) → ℕ → ℕ → ℕ → Type 0
ExtentAt g unused file at = (at ≡ unused) ⊎ ((magic : ℕ) × (here : DiskLoc) × (name : List ℕ) × (len : ℤ) × (g (file, at) ≡ Some (an_extent magic here name len)))

-- A block of the extent begins there, or the extent's end.
abbrev pub BlockAt : (Place → Option Outline) → ℕ → ℕ → ℕ → ℕ → Type 0
BlockAt g end file ext at = (at ≡ end) ⊎ ((len : ℤ) × (n : ℕ) × (g (file, at) ≡ Some (a_block (pos ext) len n)))

-- what an extent's header says of its place, and that another extent begins where it ends
pub record IsExtent (g : Place → Option Outline) (unused file at magic : ℕ) (here : DiskLoc) (name : List ℕ) (len : ℤ) (n : ℕ) : Type 0 where
  pub magic_word : magic ≡ 0x41424344
  pub own_place : here ≡ loc (file, at)
  pub named : name ≡ padded 128 (text_in name)
  pub long : len ≡ pos n
  pub pages : n % 4096 ≡ 0
  pub some : 4096 ≤ n
  pub inside : at + n ≤ unused
  pub behind : ExtentAt g unused file (at + n)

-- the extent of a block, which isn't a free one
pub record IsHome (g : Place → Option Outline) (free : List ℕ) (file a m : ℕ) : Type 0 where
  pub magic : ℕ
  pub here : DiskLoc
  pub name : List ℕ
  pub is : g (file, a) ≡ Some (an_extent magic here name (pos m))
  pub isnt_free : text_in name ≢ free

-- what a block says of its extent, and that another block begins where it ends
pub record IsBlock (g : Place → Option Outline) (free : List ℕ) (file at : ℕ) (ext len : ℤ) (n a m : ℕ) : Type 0 where
  pub long : len ≡ pos n
  pub some : 32 ≤ n
  pub extent_place : ext ≡ pos a
  pub of_extent : IsHome g free file a m
  pub from : a + 176 ≤ at
  pub to : at + n ≤ a + m
  pub behind : BlockAt g (a + m) file a (at + n)

-- Extents tile each file without overlap, from 8192 to its unused rest, and blocks tile each extent but the free ones, which have none. `free` is the name of free extents.
pub record IsTiled (g : Place → Option Outline) (unused : ℕ → Option ℤ) (free : List ℕ) : Type 0 where
  pub begins : (file u : ℕ) → unused file ≡ Some (pos u) → ExtentAt g u file 8192
  pub extents : (file at magic : ℕ) (here : DiskLoc) (name : List ℕ) (len : ℤ) → g (file, at) ≡ Some (an_extent magic here name len)
      → (u : ℕ) × (unused file ≡ Some (pos u)) × ((n : ℕ) × IsExtent g u file at magic here name len n × (text_in name ≢ free → BlockAt g (at + n) file at (at + 176)))
  pub apart : (file a b magic magic' n : ℕ) (here here' : DiskLoc) (name name' : List ℕ) (len : ℤ) → g (file, a) ≡ Some (an_extent magic here name (pos n)) → g (file, b) ≡ Some (an_extent magic' here' name' len) → a < b → a + n ≤ b
  pub blocks : (file at n : ℕ) (ext len : ℤ) → g (file, at) ≡ Some (a_block ext len n) → (a : ℕ) × ((m : ℕ) × IsBlock g free file at ext len n a m)
