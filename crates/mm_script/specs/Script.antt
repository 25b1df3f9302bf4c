-- A script: the actions of its lines. And the first line that no script can have.
use Rattle.std.specs.Prelude.{◌≡◌, ℕ, ◌+◌, ◌<◌, ◌≤◌, ◌⊎◌, true, false, List, [], ◌∷◌, ◌++◌, length, Result, Ok, Err}
use Rattle.std.specs.Str.{is_utf8}
use Rattle.mm_model.specs.declared.action.Action.{Action}
use Rattle.mm_script.specs.declared.fault.LineWhat.{LineWhat}
use Rattle.mm_script.specs.declared.fault.LineWhat.TheVariants.{Utf8, TooManyLines, TooLong}
use Rattle.mm_script.specs.declared.fault.ScriptFault.{ScriptFault}
use Rattle.mm_script.specs.declared.fault.ScriptFault.TheVariants.{Line, NoMemory}
use Rattle.mm_script.specs.Form.{Means, FirstFault}
use Rattle.mm_script.specs.Grammar.{Setting, line_form}
use Rattle.mm_script.specs.Lines.{lines, is_skipped, bytes_of}

abbrev pub most_lines : ℕ
most_lines = 100_000

abbrev pub most_bytes : ℕ
most_bytes = 67_108_864

-- the line of this number stands for the action
pub record IsLine (s : Setting) (n : ℕ) (line : List ℕ) (a : Action) : Type 0 where
  pub counts : is_skipped line ≡ false
  pub utf8 : is_utf8 line ≡ true
  pub means : Means (line_form s n) (0x20 ∷ line) a

-- The lines, from this number on, stand for the actions. All lines are counted; those that are skipped stand for none.
abbrev pub AreActions : Setting → ℕ → List (List ℕ) → List Action → Type 0
AreActions s n [] actions = actions ≡ []
AreActions s n (line ∷ lines) actions =
    ((is_skipped line ≡ true) × AreActions s (n + 1) lines actions)
    ⊎ ((a : Action) × (others : List Action) × (actions ≡ a ∷ others) × IsLine s n line a × AreActions s (n + 1) lines others)

-- the bytes are those of a script that asks for these actions
pub record IsScript (s : Setting) (bytes : List ℕ) (asked : List Action) : Type 0 where
  pub few : length (lines bytes) ≤ most_lines
  pub short : length bytes ≤ most_bytes
  pub actions : AreActions s 1 (lines bytes) asked

-- behind so many bytes of so many in all, the line holds the byte past the most, its end counted
abbrev pub HoldsTooMuch : ℕ → ℕ → List ℕ → Type 0
HoldsTooMuch total at line = (most_bytes < total) × (most_bytes < at + length line + 1)

-- what is wrong with a line that isn't skipped
abbrev pub IsWrong : Setting → ℕ → List ℕ → LineWhat → Type 0
IsWrong s n line v = ((is_utf8 line ≡ false) × (v ≡ Utf8)) ⊎ ((is_utf8 line ≡ true) × FirstFault (line_form s n) (0x20 ∷ line) v)

-- why a script can't have this line there: it is past the most lines, or else it holds the byte past the most, or else it is wrong
abbrev pub IsRefused : Setting → ℕ → ℕ → ℕ → List ℕ → LineWhat → Type 0
IsRefused s total at n line v =
    ((most_lines < n) × (v ≡ TooManyLines))
    ⊎ ((n ≤ most_lines) × HoldsTooMuch total at line × (v ≡ TooLong))
    ⊎ ((n ≤ most_lines) × (HoldsTooMuch total at line → ⊥) × (is_skipped line ≡ false) × IsWrong s n line v)

-- Line n is the first that a script can't have there. The lines before it are a script's.
pub record IsFirstRefused (s : Setting) (bytes : List ℕ) (n : ℕ) (v : LineWhat) : Type 0 where
  pub before : List (List ℕ)
  pub line : List ℕ
  pub behind : List (List ℕ)
  pub lines_are : lines bytes ≡ before ++ line ∷ behind
  pub number : n ≡ length before + 1
  pub few : length before ≤ most_lines
  pub short : (bytes_of before ≤ most_bytes) ⊎ (length bytes ≤ most_bytes)
  pub actions : List Action
  pub good : AreActions s 1 before actions
  pub refused : IsRefused s (length bytes) (bytes_of before) n line v

abbrev pub IfLine : {X : Type 0} → Result X ScriptFault → (ℕ → LineWhat → Type 0) → Type 0
IfLine (Ok x) P = Unit {0}
IfLine (Err (Line number what)) P = P number what
IfLine (Err NoMemory) P = Unit {0}
