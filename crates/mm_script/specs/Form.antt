-- What may stand on a line from a place on: a form says which part is due there and, for each value that the part may have, what may follow it.
-- So the grammar of a line is one form, and what a line means and where it first fails are said of any form.
use Rattle.std.specs.Prelude.{◌≡◌, ℕ, ◌⊎◌, Bool, true, false, List}
use Rattle.mm_bson.specs.Tree.{Elements}
use Rattle.mm_model.specs.declared.action.Action.{Action}
use Rattle.mm_script.specs.declared.fault.LineWhat.{LineWhat}
use Rattle.mm_script.specs.declared.fault.LineWhat.TheVariants.{Document, Specification, Word}
use Rattle.mm_script.specs.Words.{IsBlank, NextWord}
use Rattle.mm_script.specs.Documents.{NextDocument, NextNotation, IsShortSpecification}

pub data Form : Type 0 where
  -- the line ends, and is this action
  ends : Action → Form
  -- a word that passes a test is due, and a line without it is this fault
  word : LineWhat → (List ℕ → Bool) → (List ℕ → Form) → Form
  -- this word may stand here
  flag : List ℕ → (Bool → Form) → Form
  -- a document is due
  document : (Elements → Form) → Form
  -- a specification of keys is due
  specification : (Elements → Form) → Form
  -- the part before this place can't stand on a line
  wrong : LineWhat → Form

-- the text, from a place on, is one of the form and stands for the action
abbrev pub Means : Form → List ℕ → Action → Type 0
Means (ends a) text b = IsBlank text × (b ≡ a)
Means (word what test next) text b = (w : List ℕ) × (rest : List ℕ) × NextWord w text rest × (test w ≡ true) × Means (next w) rest b
Means (flag w next) text b =
    ((rest : List ℕ) × NextWord w text rest × Means (next true) rest b) ⊎ (((rest : List ℕ) → NextWord w text rest → ⊥) × Means (next false) text b)
Means (document next) text b = (d : Elements) × (rest : List ℕ) × NextDocument d text rest × Means (next d) rest b
Means (specification next) text b = (d : Elements) × (rest : List ℕ) × NextNotation d text rest × IsShortSpecification d × Means (next d) rest b
Means (wrong what) text b = ⊥

-- The first part of the text that no text of the form can have there, from the left, and what it isn't.
abbrev pub FirstFault : Form → List ℕ → LineWhat → Type 0
FirstFault (ends a) text v = (IsBlank text → ⊥) × (v ≡ Word)
FirstFault (word what test next) text v =
    ((w : List ℕ) × (rest : List ℕ) × NextWord w text rest × (test w ≡ true) × FirstFault (next w) rest v)
    ⊎ (((w rest : List ℕ) → NextWord w text rest → test w ≡ true → ⊥) × (v ≡ what))
FirstFault (flag w next) text v =
    ((rest : List ℕ) × NextWord w text rest × FirstFault (next true) rest v) ⊎ (((rest : List ℕ) → NextWord w text rest → ⊥) × FirstFault (next false) text v)
FirstFault (document next) text v =
    ((d : Elements) × (rest : List ℕ) × NextDocument d text rest × FirstFault (next d) rest v) ⊎ (((d : Elements) (rest : List ℕ) → NextDocument d text rest → ⊥) × (v ≡ Document))
FirstFault (specification next) text v =
    ((d : Elements) × (rest : List ℕ) × NextNotation d text rest × IsShortSpecification d × FirstFault (next d) rest v)
    ⊎ ((d : Elements) × (rest : List ℕ) × NextNotation d text rest × (IsShortSpecification d → ⊥) × (v ≡ Specification))
    ⊎ (((d : Elements) (rest : List ℕ) → NextNotation d text rest → ⊥) × (v ≡ Document))
FirstFault (wrong what) text v = v ≡ what
