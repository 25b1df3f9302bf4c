-- What is true of every script's actions: they stand on rising lines, for a session from 1 to 8 and a database that there is, and each command
-- has the names that engines ask for.
use Rattle.std.specs.Prelude.{ℕ, ◌+◌, ◌≤◌, ◌<◌, List, [], ◌∷◌, length}
use Rattle.mm_model.specs.declared.action.Action.{Action}
use Rattle.mm_model.specs.declared.action.Action.TheVariants as action
use Rattle.mm_model.specs.WellFormed.{IsWellFormed}
use Rattle.mm_script.specs.Grammar.{Setting}
use Rattle.mm_script.specs.Render.{line_of}
use Rattle.mm_script.specs.Script.{IsScript}

-- an action over so many databases
abbrev pub IsWellRead : ℕ → Action → Type 0
IsWellRead count (action.Run line session db command j) = (1 ≤ session.0) × (session.0 ≤ 8) × (db.0 < count) × IsWellFormed command
IsWellRead count (action.Flush line db) = db.0 < count
IsWellRead count _ = Unit {0}

-- actions over so many databases, on rising lines from this number on
abbrev pub AreWellRead : ℕ → ℕ → List Action → Type 0
AreWellRead count n [] = Unit {0}
AreWellRead count n (a ∷ actions) = (n ≤ line_of a) × IsWellRead count a × AreWellRead count (line_of a + 1) actions

abbrev pub ScriptsAreWellRead : Type 0
ScriptsAreWellRead = (s : Setting) (bytes : List ℕ) (actions : List Action) → IsScript s bytes actions → AreWellRead (length s.names) 1 actions
