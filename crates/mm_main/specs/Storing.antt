-- Documents that are stored in the views, line by line.
use Rattle.std.specs.Prelude.{◌≡◌, ℕ, ◌-◌, ◌<◌, ◌≤◌, List, [], ◌∷◌, ◌++◌, length}
use Rattle.mm_main.specs.declared.answers.Reply.{Reply}
use Rattle.mm_main.specs.declared.answers.Reply.TheVariants.{Done, NoSpace}
use Rattle.mm_main.specs.declared.store.Store.{Store}
use Rattle.mm_main.specs.Drafted.{private_file, end_from, HoldsUpTo}
use Rattle.mm_main.specs.Room.{file_len, first_at, request}

-- the private image has the data file with these payloads, and no part is closed
pub record IsStore (collection : List ℕ) (payloads : List (List ℕ)) (store : Store) : Type 0 where
  pub stands : HoldsUpTo collection payloads (private_file store.views) store.chain.end store.chain.last
  pub none_closed : store.views.closed ≡ []

-- a payload is answered: it had room behind these and is stored, or it had none and nothing changed
abbrev pub IsAnswered : List ℕ → List (List ℕ) → List ℕ → Store → Reply → Type 0
IsAnswered collection payloads payload store Done = (request (length payload) ≤ file_len - end_from first_at payloads) × IsStore collection (payloads ++ payload ∷ []) store
IsAnswered collection payloads payload store NoSpace = (file_len - end_from first_at payloads < request (length payload)) × IsStore collection payloads store
