-- Bytes are a script, or they are refused at one line and for one cause.
use Rattle.std.specs.Prelude.{◌≡◌, ◌⊎◌, ℕ, List}
use Rattle.mm_model.specs.declared.action.Action.{Action}
use Rattle.mm_script.specs.declared.fault.LineWhat.{LineWhat}
use Rattle.mm_script.specs.Grammar.{Setting}
use Rattle.mm_script.specs.Script.{IsScript, IsFirstRefused}

-- whatever the bytes are, they are a script or refused
abbrev pub EachIsJudged : Type 0
EachIsJudged = (s : Setting) (bytes : List ℕ) → ((asked : List Action) × IsScript s bytes asked) ⊎ ((n : ℕ) × (v : LineWhat) × IsFirstRefused s bytes n v)

-- no script is refused
abbrev pub NoneIsBoth : Type 0
NoneIsBoth = (s : Setting) (bytes : List ℕ) (asked : List Action) (n : ℕ) (v : LineWhat) → IsScript s bytes asked → IsFirstRefused s bytes n v → ⊥

-- a script asks for one list of actions
abbrev pub ScriptsAreOne : Type 0
ScriptsAreOne = (s : Setting) (bytes : List ℕ) (asked others : List Action) → IsScript s bytes asked → IsScript s bytes others → asked ≡ others

-- bytes are refused at one line, and for one cause
abbrev pub RefusalsAreOne : Type 0
RefusalsAreOne = (s : Setting) (bytes : List ℕ) (n m : ℕ) (v w : LineWhat) → IsFirstRefused s bytes n v → IsFirstRefused s bytes m w → (n ≡ m) × (v ≡ w)
