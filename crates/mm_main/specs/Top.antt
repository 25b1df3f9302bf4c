-- What the top call promises: of `play`, of `dump`, and of other words.
use Rattle.std.specs.Prelude.{◌≡◌, ℕ, ◌+◌, List, [], ◌∷◌, ◌++◌, ◌⊎◌, take, Option, Some}
use Rattle.std.specs.FinMap.{keys}
use Rattle.mm_outside.specs.Told.{Told, IfTold, image_of}
use Rattle.mm_outside.specs.Crash.{Runs}
use Rattle.mm_model.specs.declared.action.Action.{Action}
use Rattle.mm_script.specs.declared.fault.LineWhat.{LineWhat}
use Rattle.mm_script.specs.Script.{most_bytes}
use Rattle.mm_main.specs.declared.status.Status.{Status}
use Rattle.mm_main.specs.declared.status.Status.TheVariants.{Done, Usage, ScriptRefused, DiskFault, SourceFault, SinkFault, NoMemory, FilesRefused}
use Rattle.mm_main.specs.Answers.{reply_lines}
use Rattle.mm_main.specs.Ends.{IfComing}
use Rattle.mm_main.specs.Contents.{full_name, doc_lines}
use Rattle.mm_main.specs.Dumps.{IsTheDump}
use Rattle.mm_main.specs.FirstFile.{IsFirstFile}
use Rattle.mm_main.specs.Inserts.{collection_in, docs_of}
use Rattle.mm_main.specs.Room.{replies_of, stored_by}
use Rattle.mm_main.specs.Script.{IsPlayed, IsAnyPlayed, Refuses}
use Rattle.mm_main.specs.Stored.{HasStored, MayHaveBegun}
use Rattle.mm_main.specs.Streams.{Says}
use Rattle.mm_main.specs.Texts.{usage_text, disk_fault_text, source_fault_text, no_memory_text, refusal_text, present_text}

-- the status is one of these
abbrev pub IsAmong : Status → List Status → Type 0
IsAmong status [] = ⊥
IsAmong status (one ∷ others) = (status ≡ one) ⊎ IsAmong status others

-- the sink took some bytes, if any, behind those that it had
abbrev pub OnlyAdds : Option (List ℕ) → Option (List ℕ) → Type 0
OnlyAdds before after = (taken : List ℕ) → before ≡ Some taken → (more : List ℕ) × (after ≡ Some (taken ++ more))

-- what is said where the disk or the source failed, or memory ran out
abbrev pub SaysFault : Status → Option (List ℕ) → Option (List ℕ) → Type 0
SaysFault DiskFault before after = Says disk_fault_text before after
SaysFault SourceFault before after = Says source_fault_text before after
SaysFault NoMemory before after = Says no_memory_text before after
SaysFault _ before after = Unit {0}

-- ---- `play`

-- A script was played: the disk, which had no file, has what the script stores, a dump of it has just the documents that are
-- stored, in order, and the sink took the replies to the script's lines.
pub record HasPlayed (coming : Option (List ℕ)) (old new : Option Told) (before after : Option (List ℕ)) : Type 0 where
  pub actions : List Action
  pub script : IfComing coming (IsPlayed actions)
  pub empty : IfTold old (λ t. keys (image_of t) ≡ [])
  pub stored : Runs old new (λ t u. HasStored (collection_in actions) (docs_of actions) u)
  pub dumps : Runs old new (λ t u. IsTheDump (image_of u) Done (doc_lines (full_name (collection_in actions)) (stored_by (replies_of (docs_of actions)) (docs_of actions))))
  pub said : Says (reply_lines actions (replies_of (docs_of actions))) before after

-- What `play` comes to, by the bytes to come of the source, by what the disk tells before it and after it, and by what the sink took.
pub record Plays (status : Status) (coming : Option (List ℕ)) (old new : Option Told) (before after : Option (List ℕ)) : Type 0 where
  pub among : IsAmong status (Done ∷ ScriptRefused ∷ DiskFault ∷ SourceFault ∷ SinkFault ∷ NoMemory ∷ FilesRefused ∷ [])
  -- status 0: the disk has the one file, its live records are the documents answered `ok 1`, and the replies are printed
  pub played : status ≡ Done → HasPlayed coming old new before after
  -- Status 3, with the first line that is refused and what of it isn't there, exactly where the bytes are no script that is played, unless
  -- the source or the sink fails or memory runs out.
  pub refused : status ≡ ScriptRefused → (line : ℕ) × (what : LineWhat) × IfComing coming (Refuses line what) × Says (refusal_text line what) before after
  pub refused_exactly : (bytes : List ℕ) → coming ≡ Some bytes → (IsAnyPlayed (take (most_bytes + 1) bytes) → ⊥)
      → IsAmong status (ScriptRefused ∷ SourceFault ∷ SinkFault ∷ NoMemory ∷ [])
  -- Status 8, with the name of the first, where a file is there, unless something outside fails or memory runs out.
  pub present : status ≡ FilesRefused → IfComing coming IsAnyPlayed
      × (name : List ℕ) × IfTold old (λ t. IsFirstFile (Some name) (keys (image_of t))) × Says (present_text name) before after
  pub present_exactly : (bytes : List ℕ) (t : Told) (name : List ℕ) → coming ≡ Some bytes → IsAnyPlayed (take (most_bytes + 1) bytes)
      → old ≡ Some t → IsFirstFile (Some name) (keys (image_of t))
      → IsAmong status (FilesRefused ∷ DiskFault ∷ SourceFault ∷ SinkFault ∷ NoMemory ∷ [])
  -- A script on a disk without files is played, unless something outside fails or memory runs out.
  pub complete : (bytes : List ℕ) (t : Told) → coming ≡ Some bytes → IsAnyPlayed (take (most_bytes + 1) bytes)
      → old ≡ Some t → keys (image_of t) ≡ []
      → IsAmong status (Done ∷ DiskFault ∷ SourceFault ∷ SinkFault ∷ NoMemory ∷ [])
  pub fault : SaysFault status before after
  -- A refusal leaves the disk as it was. Nothing else is ever asked of it than to make the one file.
  pub kept : IsAmong status (ScriptRefused ∷ SourceFault ∷ FilesRefused ∷ []) → new ≡ old
  pub begun : MayHaveBegun old new

-- ---- `dump`

-- What `dump` comes to: with status 0 or 8 the status and the text are the one dump of the disk's files.
pub record Dumps (status : Status) (told : Option Told) (before after : Option (List ℕ)) : Type 0 where
  pub among : IsAmong status (Done ∷ DiskFault ∷ SinkFault ∷ NoMemory ∷ FilesRefused ∷ [])
  pub said : IsAmong status (Done ∷ FilesRefused ∷ []) → IfTold told (λ t. (text : List ℕ) × IsTheDump (image_of t) status text × Says text before after)
  pub fault : SaysFault status before after

-- ---- other words

-- What other words come to: status 2 with the usage, unless the sink fails.
pub record SaysUsage (status : Status) (before after : Option (List ℕ)) : Type 0 where
  pub among : IsAmong status (Usage ∷ SinkFault ∷ [])
  pub said : status ≡ Usage → Says usage_text before after
