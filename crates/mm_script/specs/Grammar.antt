-- The script language: the lines `SESSION DB VERB ..` of commands, and the lines of steps.
use Rattle.std.specs.Prelude.{ℕ, Bool, true, false, List, Option, Some, None, codes, if◌then◌else◌}
use Rattle.mm_bson.specs.Tree.{Elements}
use Rattle.mm_model.specs.declared.action.Action.{Action}
use Rattle.mm_model.specs.declared.action.Action.TheVariants as action
use Rattle.mm_model.specs.declared.command.Command.{Command}
use Rattle.mm_model.specs.declared.command.Command.TheVariants as command
use Rattle.mm_model.specs.WellFormed.{is_collection_name, is_index_name}
use Rattle.mm_script.specs.declared.fault.LineWhat.TheVariants as what
use Rattle.mm_script.specs.declared.commands.Place.{Place}
use Rattle.mm_script.specs.declared.verbs.Verb.{Verb}
use Rattle.mm_script.specs.declared.verbs.Verb.TheVariants as verb
use Rattle.mm_script.specs.declared.verbs.Step.{Step}
use Rattle.mm_script.specs.declared.verbs.Step.TheVariants as step
use Rattle.mm_script.specs.Names.{session_of, database_of, is_new_index, verb_of, is_step, step_of}
use Rattle.mm_script.specs.Documents.{made_id, with_id}
use Rattle.mm_script.specs.Form.{Form, ends, word, flag, document, specification, wrong}

-- what a script is read with: the databases' names, the stamp of made _ids, and whether steps are allowed
pub record Setting : Type 0 where
  pub names : List (List ℕ)
  pub stamp : ℕ
  pub steps : Bool

abbrev pub setting : List (List ℕ) → ℕ → Bool → Setting
setting names stamp steps = record { names = names; stamp = stamp; steps = steps }

-- a command that stands at a place: its line, its session and its database
abbrev pub run_at : Place → Command → Bool → Action
run_at p c j = action.Run p.line (record { 0 = p.session }) (record { 0 = p.db }) c j

-- `[j]` ends every command
unfoldable pub closing : Place → Command → Form
closing p c = flag (codes "j") (λ j. ends (run_at p c j))

-- ---- the commands, behind their verb

-- insert C DOC
unfoldable pub insert_form : ℕ → Place → Form
insert_form stamp p = word what.Collection is_collection_name λ c. document λ d. closing p (command.Insert c (with_id (made_id stamp p.session p.line) d))

-- find C FILTER [index I]
abbrev pub index_form : Place → List ℕ → Elements → Bool → Form
index_form p c f true = word what.Index is_index_name λ i. closing p (command.Find c f (Some i))
index_form p c f false = closing p (command.Find c f None)

unfoldable pub find_form : Place → Form
find_form p = word what.Collection is_collection_name λ c. document λ f. flag (codes "index") (index_form p c f)

-- update C FILTER CHANGE [multi]
unfoldable pub update_form : Place → Form
update_form p = word what.Collection is_collection_name λ c. document λ f. document λ change. flag (codes "multi") λ multi. closing p (command.Update c f change multi)

-- remove C FILTER [one]
unfoldable pub remove_form : Place → Form
remove_form p = word what.Collection is_collection_name λ c. document λ f. flag (codes "one") λ one. closing p (command.Remove c f one)

-- create C
unfoldable pub create_form : Place → Form
create_form p = word what.Collection is_collection_name λ c. closing p (command.Create c)

-- drop C
unfoldable pub drop_form : Place → Form
drop_form p = word what.Collection is_collection_name λ c. closing p (command.Drop c)

-- ensureIndex C I SPEC [unique]
unfoldable pub ensure_index_form : Place → Form
ensure_index_form p = word what.Collection is_collection_name λ c. word what.Index is_new_index λ i. specification λ spec. flag (codes "unique") λ unique. closing p (command.EnsureIndex c i spec unique)

-- dropIndex C I
unfoldable pub drop_index_form : Place → Form
drop_index_form p = word what.Collection is_collection_name λ c. word what.Index is_index_name λ i. closing p (command.DropIndex c i)

abbrev pub of_verb : ℕ → Place → Option Verb → Form
of_verb stamp p None = wrong what.Verb
of_verb stamp p (Some verb.Insert) = insert_form stamp p
of_verb stamp p (Some verb.Find) = find_form p
of_verb stamp p (Some verb.Update) = update_form p
of_verb stamp p (Some verb.Remove) = remove_form p
of_verb stamp p (Some verb.Create) = create_form p
of_verb stamp p (Some verb.Drop) = drop_form p
of_verb stamp p (Some verb.EnsureIndex) = ensure_index_form p
of_verb stamp p (Some verb.DropIndex) = drop_index_form p

-- ---- lines

abbrev pub any : List ℕ → Bool
any w = true

-- VERB ..
unfoldable pub verb_form : ℕ → Place → Form
verb_form stamp p = word what.Verb any λ w. of_verb stamp p (verb_of w)

abbrev pub in_database : ℕ → ℕ → ℕ → Option ℕ → Form
in_database stamp line session None = wrong what.Database
in_database stamp line session (Some db) = verb_form stamp (record { line = line; session = session; db = db })

-- DB VERB ..
unfoldable pub database_form : Setting → ℕ → ℕ → Form
database_form s line session = word what.Database any λ w. in_database s.stamp line session (database_of s.names w)

abbrev pub in_session : Setting → ℕ → Option ℕ → Form
in_session s line None = wrong what.Session
in_session s line (Some session) = database_form s line session

abbrev pub flush_of : ℕ → Option ℕ → Form
flush_of line None = wrong what.Database
flush_of line (Some db) = ends (action.Flush line (record { 0 = db }))

-- a step, and of a flush the database
abbrev pub of_step : List (List ℕ) → ℕ → Option Step → Form
of_step names line None = wrong what.Step
of_step names line (Some step.Close) = ends (action.Close line)
of_step names line (Some step.Log) = ends (action.Log line)
of_step names line (Some step.Apply) = ends (action.Apply line)
of_step names line (Some step.Remap) = ends (action.Remap line)
of_step names line (Some step.Commit) = ends (action.Commit line)
of_step names line (Some step.Flush) = word what.Database any λ w. flush_of line (database_of names w)
of_step names line (Some step.Sync) = ends (action.Sync line)
of_step names line (Some step.Lsn) = ends (action.Lsn line)
of_step names line (Some step.Trim) = ends (action.Trim line)

unfoldable pub step_form : Setting → ℕ → List ℕ → Form
step_form s line w = if s.steps then of_step s.names line (step_of w) else wrong what.Step

abbrev pub first_form : Setting → ℕ → List ℕ → Form
first_form s line w = if is_step w then step_form s line w else in_session s line (session_of w)

-- a line of this number: a step, or SESSION DB VERB ..
unfoldable pub line_form : Setting → ℕ → Form
line_form s line = word what.Session any (first_form s line)
