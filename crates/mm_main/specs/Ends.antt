-- What playing came to, before it is printed.
use Rattle.std.specs.Prelude.{◌≡◌, ℕ, ◌+◌, List, [], take, Option, Some, string_bytes}
use Rattle.std.specs.FinMap.{keys}
use Rattle.mm_outside.specs.Told.{Told, IfTold, image_of}
use Rattle.mm_model.specs.declared.action.Action.{Action}
use Rattle.mm_script.specs.declared.fault.LineWhat.{LineWhat}
use Rattle.mm_script.specs.Script.{most_bytes}
use Rattle.mm_main.specs.declared.status.Status.{Status}
use Rattle.mm_main.specs.declared.status.Status.TheVariants as status
use Rattle.mm_main.specs.declared.play.End.{End}
use Rattle.mm_main.specs.declared.play.End.TheVariants.{Refused, Present, Played, SourceFailed, DiskFailed, NoMemory}
use Rattle.mm_main.specs.Answers.{reply_lines}
use Rattle.mm_main.specs.FirstFile.{IsFirstFile}
use Rattle.mm_main.specs.Inserts.{collection_in, docs_of}
use Rattle.mm_main.specs.Room.{replies_of}
use Rattle.mm_main.specs.Script.{IsPlayed, Refuses}
use Rattle.mm_main.specs.Stored.{Stores, MayHaveBegun}
use Rattle.mm_main.specs.Texts.{disk_fault_text, source_fault_text, no_memory_text, refusal_text, present_text}

-- what it says
abbrev pub end_text : End → List ℕ
end_text (Refused line what text) = string_bytes text
end_text (Present name text) = string_bytes text
end_text (Played text) = string_bytes text
end_text SourceFailed = source_fault_text
end_text DiskFailed = disk_fault_text
end_text NoMemory = no_memory_text

abbrev pub end_status : End → Status
end_status (Refused line what text) = status.ScriptRefused
end_status (Present name text) = status.FilesRefused
end_status (Played text) = status.Done
end_status SourceFailed = status.SourceFault
end_status DiskFailed = status.DiskFault
end_status NoMemory = status.NoMemory

-- of what is read of a source that tells: all that was to come, or one byte more than a script has
abbrev pub IfComing : Option (List ℕ) → (List ℕ → Type 0) → Type 0
IfComing coming P = (bytes : List ℕ) → coming ≡ Some bytes → P (take (most_bytes + 1) bytes)

-- what playing a script comes to
abbrev pub ScriptEnds : List Action → Option Told → Option Told → End → Type 0
ScriptEnds actions old new (Played text) =
    (string_bytes text ≡ reply_lines actions (replies_of (docs_of actions))) × IfTold old (λ t. keys (image_of t) ≡ []) × Stores (collection_in actions) (docs_of actions) old new
ScriptEnds actions old new (Present name text) = (string_bytes text ≡ present_text (string_bytes name)) × (new ≡ old) × IfTold old (λ t. IsFirstFile (Some (string_bytes name)) (keys (image_of t)))
ScriptEnds actions old new DiskFailed = MayHaveBegun old new
ScriptEnds actions old new NoMemory = MayHaveBegun old new
ScriptEnds actions old new _ = ⊥

-- what `play` comes to, by what was to come and by what the disk told before and after it
abbrev pub PlayEnds : Option (List ℕ) → Option Told → Option Told → End → Type 0
PlayEnds coming old new SourceFailed = new ≡ old
PlayEnds coming old new (Refused line what text) = (string_bytes text ≡ refusal_text line what) × (new ≡ old) × IfComing coming (Refuses line what)
PlayEnds coming old new (Present name text) = (actions : List Action) × IfComing coming (IsPlayed actions) × ScriptEnds actions old new (Present name text)
PlayEnds coming old new (Played text) = (actions : List Action) × IfComing coming (IsPlayed actions) × ScriptEnds actions old new (Played text)
PlayEnds coming old new DiskFailed = (actions : List Action) × IfComing coming (IsPlayed actions) × MayHaveBegun old new
PlayEnds coming old new NoMemory = MayHaveBegun old new

-- Where no script was read, the disk is the very one that it was: it has had no call.
abbrev pub IsUnasked : {D : Type 0} → End → D → D → Type 0
IsUnasked (Refused line what text) old new = new ≡ old
IsUnasked SourceFailed old new = new ≡ old
IsUnasked (Present name text) old new = Unit {0}
IsUnasked (Played text) old new = Unit {0}
IsUnasked DiskFailed old new = Unit {0}
IsUnasked NoMemory old new = Unit {0}

-- the line is refused, or memory ran out
abbrev pub IsRefusal : ℕ → LineWhat → End → Type 0
IsRefusal line what (Refused n w text) = (n ≡ line) × (w ≡ what) × (string_bytes text ≡ refusal_text line what)
IsRefusal line what NoMemory = Unit {0}
IsRefusal line what _ = ⊥
