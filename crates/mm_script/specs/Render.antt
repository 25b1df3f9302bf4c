-- The text of a run: how each line of the script ended, then the groups, the probes, and what ended the run.
use Rattle.std.specs.Prelude.{◌≡◌, ℕ, ◌+◌, ◌<◌, ◌^◌, ◌==◌, ◌||◌, Bool, true, false, not, List, [], ◌∷◌, ◌++◌, Option, Some, None, length, map, codes, if◌then◌else◌}
use Rattle.std.specs.List.{list_all}
use Rattle.std.specs.Fmt.{decimal}
use Rattle.mm_bson.specs.Tree.{Elements, depth}
use Rattle.mm_bson.specs.Spelling.{AreElements}
use Rattle.mm_notation.specs.Written.{AllHoldBytes}
use Rattle.mm_model.specs.declared.reply.Reply.{Reply}
use Rattle.mm_model.specs.declared.command.Command.{Command}
use Rattle.mm_model.specs.declared.action.Entry.{Entry}
use Rattle.mm_model.specs.History.{Group}
use Rattle.mm_script.specs.declared.groups.Fate.{Fate}
use Rattle.mm_model.specs.declared.action.Action.{Action}
use Rattle.mm_model.specs.declared.reply.Reply.TheVariants.{Done, Found, DocTooLarge, ArrayKey, KeyTooLong, Duplicate, OpTooLarge}
use Rattle.mm_model.specs.declared.command.Command.TheVariants.{Find}
use Rattle.mm_model.specs.declared.action.Action.TheVariants as action
use Rattle.mm_script.specs.declared.groups.Fate.TheVariants.{Synced, NotSynced, NotClosed}
use Rattle.mm_model.specs.WellFormed.{is_word}
use Rattle.mm_script.specs.Replies.{reply_text}
use Rattle.mm_script.specs.Groups.{group_text}

-- ---- how lines end

-- what ends a run early: the disk's fault, or want of memory
pub data Stopped : Type 0 where
  disk_fault : Stopped
  out_of_memory : Stopped

-- a section, and the moment at which its sync had answered
pub record Receipt : Type 0 where
  pub section : ℕ
  pub moment : ℕ

pub data LineEnd : Type 0 where
  -- a command's reply, and of a command with `j` the receipt of its section, or none where that wasn't synced
  replied : Reply → Option (Option Receipt) → LineEnd
  -- a command that found no memory
  unreplied : LineEnd
  -- a step that was done, and one that wasn't
  stepped : LineEnd
  unstepped : Stopped → LineEnd
  -- a line that the run didn't come to
  not_run : LineEnd

-- What a run came to: how each line ended; the groups with what became of each, the first with the section of this number; what the probe of
-- each database shows, where it has one; and what ended the run early.
pub record Run : Type 0 where
  pub lines : List LineEnd
  pub next : ℕ
  pub groups : List Group
  pub fates : List Fate
  pub probes : List (Option (List ℕ))
  pub stopped : Option Stopped

-- ---- the text

abbrev pub stopped_text : Stopped → List ℕ
stopped_text disk_fault = codes "disk fault"
stopped_text out_of_memory = codes "no memory"

abbrev pub receipt_text : Option (Option Receipt) → List ℕ
receipt_text None = []
receipt_text (Some None) = codes " j none"
receipt_text (Some (Some r)) = codes " j " ++ (decimal r.section ++ (codes " " ++ decimal r.moment))

abbrev pub end_text : LineEnd → List ℕ
end_text (replied reply receipt) = reply_text reply ++ receipt_text receipt
end_text unreplied = codes "no memory"
end_text stepped = codes "ok"
end_text (unstepped stop) = stopped_text stop
end_text not_run = codes "not run"

-- the line on which an action stands
abbrev pub line_of : Action → ℕ
line_of (action.Run line session db command j) = line
line_of (action.Close line) = line
line_of (action.Log line) = line
line_of (action.Apply line) = line
line_of (action.Remap line) = line
line_of (action.Commit line) = line
line_of (action.Flush line db) = line
line_of (action.Sync line) = line
line_of (action.Lsn line) = line
line_of (action.Trim line) = line

-- a line for each line of the script that isn't skipped: its number, and how it ended
abbrev pub end_lines : List Action → List LineEnd → List ℕ
end_lines [] ends = []
end_lines (a ∷ actions) [] = []
end_lines (a ∷ actions) (e ∷ ends) = decimal (line_of a) ++ (codes " " ++ (end_text e ++ (codes "\n" ++ end_lines actions ends)))

abbrev pub entry_line : Entry → ℕ
entry_line e = e.line

-- each database with the lines of its entries in a group
abbrev pub lines_in : List (List ℕ) → Group → List (List ℕ × List ℕ)
lines_in [] g = []
lines_in (name ∷ names) [] = (name, []) ∷ lines_in names []
lines_in (name ∷ names) (es ∷ g) = (name, map entry_line es) ∷ lines_in names g

-- a line for each group
abbrev pub group_lines : List (List ℕ) → ℕ → List Group → List Fate → List ℕ
group_lines names number [] fates = []
group_lines names number (g ∷ groups) [] = []
group_lines names number (g ∷ groups) (fate ∷ fates) = group_text number fate (lines_in names g) ++ group_lines names (number + 1) groups fates

-- a line for each database that has a probe
abbrev pub probe_line : List ℕ → Option (List ℕ) → List ℕ
probe_line name None = []
probe_line name (Some shown) = codes "probe " ++ (name ++ (codes " " ++ (shown ++ codes "\n")))

abbrev pub probe_lines : List (List ℕ) → List (Option (List ℕ)) → List ℕ
probe_lines [] probes = []
probe_lines (name ∷ names) [] = []
probe_lines (name ∷ names) (p ∷ probes) = probe_line name p ++ probe_lines names probes

abbrev pub last_line : Option Stopped → List ℕ
last_line None = []
last_line (Some stop) = stopped_text stop ++ codes "\n"

-- the text of a run of the script over databases of these names
unfoldable pub render : List (List ℕ) → List Action → Run → List ℕ
render names script run = end_lines script run.lines ++ (group_lines names run.next run.groups run.fates ++ (probe_lines names run.probes ++ last_line run.stopped))

-- ---- which runs a script has

-- neither a space nor the end of a line
abbrev pub is_inside : ℕ → Bool
is_inside b = not (b == 0x20 || b == 0x0a)

abbrev pub IsOneWord : List ℕ → Type 0
IsOneWord name = list_all is_inside name ≡ true

abbrev pub IsU64 : ℕ → Type 0
IsU64 n = n < 2 ^ 64

-- a document as databases hold them
pub record IsShown (d : Elements) : Type 0 where
  pub elements : AreElements d
  pub bytes : AllHoldBytes d
  pub levels : depth d < 100

abbrev pub AreShown : List Elements → Type 0
AreShown [] = Unit {0}
AreShown (d ∷ ds) = IsShown d × AreShown ds

-- numbers, indexes and documents as replies have them
abbrev pub IsReply : Reply → Type 0
IsReply (Done n) = IsU64 n
IsReply (Found ds) = IsU64 (length ds) × AreShown ds
IsReply (DocTooLarge len) = IsU64 len
IsReply (ArrayKey index) = IsOneWord index
IsReply (KeyTooLong index len) = IsOneWord index × IsU64 len
IsReply (Duplicate index key) = IsOneWord index × IsShown key
IsReply (OpTooLarge weight) = IsU64 weight
IsReply _ = Unit {0}

abbrev pub finds : Command → Bool
finds (Find coll filter index) = true
finds _ = false

-- a find that is carried out gives documents, and every other command a number
abbrev pub Suits : Bool → Reply → Type 0
Suits find (Done n) = find ≡ false
Suits find (Found ds) = find ≡ true
Suits find _ = Unit {0}

-- a reply of the command's kind
pub record IsReplyTo (c : Command) (r : Reply) : Type 0 where
  pub reply : IsReply r
  pub kind : Suits (finds c) r

-- a command has a receipt, or none, exactly where it has `j`
abbrev pub IsReceipt : Bool → Option (Option Receipt) → Type 0
IsReceipt false None = Unit {0}
IsReceipt false (Some r) = ⊥
IsReceipt true None = ⊥
IsReceipt true (Some None) = Unit {0}
IsReceipt true (Some (Some r)) = IsU64 r.section × IsU64 r.moment

abbrev pub IsCommandEnd : Command → Bool → LineEnd → Type 0
IsCommandEnd c j (replied reply receipt) = IsReplyTo c reply × IsReceipt j receipt
IsCommandEnd c j unreplied = Unit {0}
IsCommandEnd c j stepped = ⊥
IsCommandEnd c j (unstepped stop) = ⊥
IsCommandEnd c j not_run = Unit {0}

abbrev pub IsStepEnd : LineEnd → Type 0
IsStepEnd (replied reply receipt) = ⊥
IsStepEnd unreplied = ⊥
IsStepEnd stepped = Unit {0}
IsStepEnd (unstepped stop) = Unit {0}
IsStepEnd not_run = Unit {0}

-- an action may end so
abbrev pub IsEndOf : Action → LineEnd → Type 0
IsEndOf (action.Run line session db command j) e = IsCommandEnd command j e
IsEndOf _ e = IsStepEnd e

-- an end for each action
abbrev pub AreEndsOf : List Action → List LineEnd → Type 0
AreEndsOf [] [] = Unit {0}
AreEndsOf [] (e ∷ ends) = ⊥
AreEndsOf (a ∷ actions) [] = ⊥
AreEndsOf (a ∷ actions) (e ∷ ends) = IsEndOf a e × AreEndsOf actions ends

-- what stands on a line of the script, and how it ended
abbrev pub at_line : ℕ → List Action → List LineEnd → Option (Action × LineEnd)
at_line n [] ends = None
at_line n (a ∷ actions) [] = None
at_line n (a ∷ actions) (e ∷ ends) = if line_of a == n then Some (a, e) else at_line n actions ends

-- an entry of a database has the session, the database and the command of its line, and the reply of its line's end
pub record IsEntryOf (script : List Action) (ends : List LineEnd) (db : ℕ) (e : Entry) : Type 0 where
  pub j : Bool
  pub receipt : Option (Option Receipt)
  pub line : at_line e.line script ends ≡ Some (action.Run e.line (record { 0 = e.session }) (record { 0 = db }) e.command j, replied e.reply receipt)
  pub number : IsU64 e.line

abbrev pub AreEntriesOf : List Action → List LineEnd → ℕ → List Entry → Type 0
AreEntriesOf script ends db [] = Unit {0}
AreEntriesOf script ends db (e ∷ es) = IsEntryOf script ends db e × AreEntriesOf script ends db es

-- a group has entries for each database, from this number on, of this many
abbrev pub IsGroupOf : List Action → List LineEnd → ℕ → List (List ℕ) → Group → Type 0
IsGroupOf script ends db [] [] = Unit {0}
IsGroupOf script ends db [] (es ∷ g) = ⊥
IsGroupOf script ends db (name ∷ names) [] = ⊥
IsGroupOf script ends db (name ∷ names) (es ∷ g) = AreEntriesOf script ends db es × IsGroupOf script ends (db + 1) names g

abbrev pub IsFate : Fate → Type 0
IsFate (Synced moment) = IsU64 moment
IsFate NotSynced = Unit {0}
IsFate NotClosed = Unit {0}

-- groups, the first of this number, with a fate for each
abbrev pub AreGroupsOf : List Action → List LineEnd → List (List ℕ) → ℕ → List Group → List Fate → Type 0
AreGroupsOf script ends names number [] [] = Unit {0}
AreGroupsOf script ends names number [] (f ∷ fates) = ⊥
AreGroupsOf script ends names number (g ∷ groups) [] = ⊥
AreGroupsOf script ends names number (g ∷ groups) (f ∷ fates) = IsU64 number × IsFate f × IsGroupOf script ends 0 names g × AreGroupsOf script ends names (number + 1) groups fates

pub record IsRunOf (names : List (List ℕ)) (script : List Action) (run : Run) : Type 0 where
  pub ends : AreEndsOf script run.lines
  pub groups : AreGroupsOf script run.lines names run.next run.groups run.fates

-- letters, digits and underscores
abbrev pub AreWords : List (List ℕ) → Type 0
AreWords [] = Unit {0}
AreWords (name ∷ names) = (list_all is_word name ≡ true) × AreWords names

-- ---- laws

-- A reply is known by its text and its command.
abbrev pub RepliesAreKnown : Type 0
RepliesAreKnown = (c : Command) (r s : Reply) → IsReplyTo c r → IsReplyTo c s → reply_text r ≡ reply_text s → r ≡ s

-- Of two runs of one script with one text, the lines ended the same, and the histories are the same, with what became of each group. So two
-- different histories of a script have different texts.
abbrev pub TextsTell : Type 0
TextsTell = (names : List (List ℕ)) (script : List Action) (one other : Run) → AreWords names → IsRunOf names script one → IsRunOf names script other
    → render names script one ≡ render names script other → (one.lines ≡ other.lines) × (one.groups ≡ other.groups) × (one.fates ≡ other.fates)
