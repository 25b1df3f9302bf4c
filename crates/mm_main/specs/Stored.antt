-- What a disk has once the documents of a script are stored.
use Rattle.std.specs.Prelude.{◌≡◌, ◌≢◌, ℕ, List, map, codes, Option, Some, None}
use Rattle.std.specs.FinMap.{get}
use Rattle.mm_outside.specs.Told.{Told, image_of}
use Rattle.mm_outside.specs.Ask.{Makes, MakesSome, new_file_asks}
use Rattle.mm_outside.specs.Place.{place_of, clean}
use Rattle.mm_bson.specs.Tree.{Elements}
use Rattle.mm_bson.specs.Spelling.{spelling}
use Rattle.mm_main.specs.Contents.{HoldsDocs}
use Rattle.mm_main.specs.Live.{HasLive}
use Rattle.mm_main.specs.Room.{stored}

-- the one data file
abbrev pub file_name : List ℕ
file_name = codes "test.0"

-- The disk has the one file and no other. The file holds the collection's documents that are stored, its live records are
-- those documents, and nothing of it is pending: a crash leaves it as it is.
pub record HasStored (collection : List ℕ) (docs : List Elements) (u : Told) : Type 0 where
  pub file : List ℕ
  pub holds : HoldsDocs collection (stored docs) file
  pub live : HasLive file (map spelling (stored docs))
  pub synced : place_of u file_name ≡ clean (Some file)
  pub alone : (name : List ℕ) → name ≢ file_name → get (image_of u) name ≡ None

-- the calls that store this file are made
pub record Stores (collection : List ℕ) (docs : List Elements) (old new : Option Told) : Type 0 where
  pub file : List ℕ
  pub holds : HoldsDocs collection (stored docs) file
  pub live : HasLive file (map spelling (stored docs))
  pub made : Makes (new_file_asks file_name file) old new

-- Of the calls that store a file, those up to any of them were made, the last perhaps not to its end; or none was, and the disk is as it was.
pub record MayHaveBegun (old new : Option Told) : Type 0 where
  pub file : List ℕ
  pub some : MakesSome (new_file_asks file_name file) old new
