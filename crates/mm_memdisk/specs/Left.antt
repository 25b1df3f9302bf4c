-- What a crash leaves of the files of a disk in memory.
use Rattle.std.specs.Prelude.{◌≡◌, ◌≢◌, ℕ, string_bytes, if◌then◌else◌, List, Option, None, Some, ◌⊎◌, true}
use Rattle.std.specs.List.{list_any}
use Rattle.std.specs.Ordering.{eq_by_cmp}
use Rattle.std.specs.FinMap.{get}
use Rattle.mm_outside.specs.Image.{Image, name_cmp}
use Rattle.mm_outside.specs.Told.{MayLeaveFile, image_after, pending_after}
use Rattle.mm_memdisk.specs.Calls.{calls_of, change_of}
use Rattle.mm_memdisk.specs.Files.{Files, file_at, image_of_entries}
use Rattle.mm_memdisk.specs.Traced.{Traces, StepsBy}
use Rattle.mm_memdisk.specs.declared.call.Begun.{Begun}
use Rattle.mm_memdisk.specs.declared.crash.Asked.{Asked}
use Rattle.mm_memdisk.specs.declared.traced.Traced.{Traced}

abbrev pub start_of : Asked → Image
start_of disk = image_of_entries disk.start.now.entries

-- two lists of files read alike
abbrev pub IsSame : Files → Files → Type 0
IsSame a b = (name : List ℕ) → file_at a name ≡ file_at b name

-- A file of this name is put to the others, if there is one.
abbrev pub Puts : List ℕ → Option (List ℕ) → Files → Files → Type 0
Puts name None old new = (q : List ℕ) → file_at new q ≡ file_at old q
Puts name (Some bytes) old new = (q : List ℕ) → file_at new q ≡ (if eq_by_cmp name_cmp q name then Some bytes else file_at old q)

-- the trace is that of the file of this name
abbrev pub TracesFile : Image → List Begun → List ℕ → Traced → Type 0
TracesFile start calls name traced = Traces (get (image_after start (calls_of calls)) name) (pending_after start (calls_of calls) name) traced

-- The trace goes on by the call, if it is for this file.
abbrev pub FollowsCall : Begun → List ℕ → Traced → Traced → Type 0
FollowsCall begun name old new = ((string_bytes begun.name ≡ name) × StepsBy (change_of begun.change) begun.is_done old new) ⊎ ((string_bytes begun.name ≢ name) × (new ≡ old))

-- a crash after the calls may leave this of the file of this name
abbrev pub LeavesAt : Image → List Begun → List ℕ → Option (List ℕ) → Type 0
LeavesAt start calls name left = MayLeaveFile (get (image_after start (calls_of calls)) name) (pending_after start (calls_of calls) name) left

-- What a crash may leave of the file of this name is put to the others.
pub record LeavesFile (start : Image) (calls : List Begun) (name : List ℕ) (old new : Files) : Type 0 where
  pub left : Option (List ℕ)
  pub may : LeavesAt start calls name left
  pub puts : Puts name left old new

-- it may leave these files
abbrev pub LeavesAll : Image → List Begun → Files → Type 0
LeavesAll start calls files = (name : List ℕ) → LeavesAt start calls name (file_at files name)

-- It may leave these files, of which those are there that have one of the names; others may be missing.
pub record LeavesThese (start : Image) (calls : List Begun) (names : List (List ℕ)) (files : Files) : Type 0 where
  pub these : (q : List ℕ) → list_any (eq_by_cmp name_cmp q) names ≡ true → LeavesAt start calls q (file_at files q)
  pub others : (q : List ℕ) → LeavesAt start calls q (file_at files q) ⊎ (file_at files q ≡ None)
