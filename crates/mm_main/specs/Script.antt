-- A script that is played, and where one is refused.
use Rattle.std.specs.Prelude.{ℕ, ◌⊎◌, false, List, [], ◌∷◌, codes}
use Rattle.mm_model.specs.declared.action.Action.{Action}
use Rattle.mm_script.specs.declared.fault.LineWhat.{LineWhat}
use Rattle.mm_script.specs.Grammar.{Setting, setting}
use Rattle.mm_script.specs.Script.{IsScript, IsFirstRefused}
use Rattle.mm_main.specs.Inserts.{AreInserts, collection_in, IsFirstUnplayed}

-- with what a script is read: the one database, the stamp of made _ids, and no steps
abbrev pub playing : Setting
playing = setting (codes "test" ∷ []) 1_400_000_000 false

-- the bytes are a script of these actions, which all insert into one collection
pub record IsPlayed (actions : List Action) (bytes : List ℕ) : Type 0 where
  pub script : IsScript playing bytes actions
  pub inserts : AreInserts (collection_in actions) actions

abbrev pub IsAnyPlayed : List ℕ → Type 0
IsAnyPlayed bytes = (actions : List Action) × IsPlayed actions bytes

-- Line n is the first that no script can have there, or in a script the first that isn't played.
abbrev pub IsRefusedAt : ℕ → LineWhat → List ℕ → Type 0
IsRefusedAt n what bytes =
    IsFirstRefused playing bytes n what ⊎ ((actions : List Action) × IsScript playing bytes actions × IsFirstUnplayed (collection_in actions) n what actions)

-- the bytes are no script that is played, and this line of them is refused
pub record Refuses (n : ℕ) (what : LineWhat) (bytes : List ℕ) : Type 0 where
  pub first : IsRefusedAt n what bytes
  pub none : IsAnyPlayed bytes → ⊥
