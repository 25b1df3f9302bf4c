-- Which words are sessions, databases and steps, and the verbs.
use Rattle.std.specs.Prelude.{ℕ, ◌-◌, ◌&&◌, ◌==◌, Bool, false, not, nat_le, List, [], ◌∷◌, Option, Some, None, codes, if◌then◌else◌, position}
use Rattle.std.specs.Str.{bytes_eq}
use Rattle.mm_script.specs.declared.verbs.Verb.{Verb}
use Rattle.mm_script.specs.declared.verbs.Verb.TheVariants as verb
use Rattle.mm_script.specs.declared.verbs.Step.{Step}
use Rattle.mm_script.specs.declared.verbs.Step.TheVariants as step
use Rattle.mm_model.specs.WellFormed.{is_index_name}

-- a digit from 1 to 8
abbrev pub session_of : List ℕ → Option ℕ
session_of [] = None
session_of (b ∷ []) = if nat_le 49 b && nat_le b 56 then Some (b - 48) else None
session_of (b ∷ c ∷ word) = None

-- the place of the name among those of the databases, from 0 on
abbrev pub database_of : List (List ℕ) → List ℕ → Option ℕ
database_of names word = position (λ name. bytes_eq name word) names

-- an index that can be made: not the one that each collection has
abbrev pub is_new_index : List ℕ → Bool
is_new_index name = is_index_name name && not (bytes_eq name (codes "_id_"))

abbrev pub verb_of : List ℕ → Option Verb
verb_of word =
    if bytes_eq word (codes "insert") then Some verb.Insert
    else (if bytes_eq word (codes "find") then Some verb.Find
    else (if bytes_eq word (codes "update") then Some verb.Update
    else (if bytes_eq word (codes "remove") then Some verb.Remove
    else (if bytes_eq word (codes "create") then Some verb.Create
    else (if bytes_eq word (codes "drop") then Some verb.Drop
    else (if bytes_eq word (codes "ensureIndex") then Some verb.EnsureIndex
    else (if bytes_eq word (codes "dropIndex") then Some verb.DropIndex else None)))))))

-- a step's word begins with `!`
abbrev pub is_step : List ℕ → Bool
is_step [] = false
is_step (b ∷ word) = b == 33

abbrev pub step_of : List ℕ → Option Step
step_of word =
    if bytes_eq word (codes "!close") then Some step.Close
    else (if bytes_eq word (codes "!log") then Some step.Log
    else (if bytes_eq word (codes "!apply") then Some step.Apply
    else (if bytes_eq word (codes "!remap") then Some step.Remap
    else (if bytes_eq word (codes "!commit") then Some step.Commit
    else (if bytes_eq word (codes "!flush") then Some step.Flush
    else (if bytes_eq word (codes "!sync") then Some step.Sync
    else (if bytes_eq word (codes "!lsn") then Some step.Lsn
    else (if bytes_eq word (codes "!trim") then Some step.Trim else None))))))))
