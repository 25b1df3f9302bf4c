-- Worked examples of the text of a run.
use Rattle.std.specs.Prelude.{◌≡◌, ℕ, true, false, List, [], ◌∷◌, Some, None, codes, pos}
use Rattle.mm_bson.specs.Tree.{int32, no_elements, element}
use Rattle.mm_model.specs.declared.action.Action.{Action}
use Rattle.mm_model.specs.declared.action.Action.TheVariants as action
use Rattle.mm_model.specs.declared.action.Entry.{Entry}
use Rattle.mm_model.specs.declared.command.Command.{Command}
use Rattle.mm_model.specs.declared.command.Command.TheVariants.{Insert, Create}
use Rattle.mm_model.specs.declared.reply.Reply.TheVariants.{Done}
use Rattle.mm_script.specs.declared.groups.Fate.TheVariants.{Synced, NotClosed}
use Rattle.mm_script.specs.Render.{out_of_memory, replied, unreplied, stepped, not_run, Run, render}

abbrev pub databases : List (List ℕ)
databases = codes "test" ∷ codes "other" ∷ []

abbrev pub insert_one : Command
insert_one = Insert (codes "c") (element (codes "_id") (int32 (pos 1)) no_elements)

-- 1 test insert c {"_id": 1} j, and behind a comment 2 other create d, !commit
abbrev pub three_lines : List Action
three_lines =
    action.Run 1 (record { 0 = 1 }) (record { 0 = 0 }) insert_one true
    ∷ action.Run 3 (record { 0 = 2 }) (record { 0 = 1 }) (Create (codes "d")) false
    ∷ action.Commit 4 ∷ []

abbrev pub inserted : Entry
inserted = record { session = 1; line = 1; command = insert_one; reply = Done 1 }

abbrev pub created : Entry
created = record { session = 2; line = 3; command = Create (codes "d"); reply = Done 1 }

-- all went well, and the second database has a probe
abbrev pub whole_run : Run
whole_run = record {
  lines = replied (Done 1) (Some (Some (record { section = 1; moment = 7 }))) ∷ replied (Done 1) None ∷ stepped ∷ [];
  next = 1;
  groups = ((inserted ∷ []) ∷ [] ∷ []) ∷ ([] ∷ (created ∷ []) ∷ []) ∷ [];
  fates = Synced 7 ∷ Synced 9 ∷ [];
  probes = None ∷ Some (codes "one") ∷ [];
  stopped = None;
}

-- memory ran out at the second line, before the first one's group was closed
abbrev pub stopped_run : Run
stopped_run = record {
  lines = replied (Done 1) (Some None) ∷ unreplied ∷ not_run ∷ [];
  next = 5;
  groups = ((inserted ∷ []) ∷ [] ∷ []) ∷ [];
  fates = NotClosed ∷ [];
  probes = [];
  stopped = Some out_of_memory;
}

abbrev pub WholeRun : Type 0
WholeRun = render databases three_lines whole_run
    ≡ codes "1 ok 1 j 1 7\n3 ok 1\n4 ok\nsection 1 at 7 test: 1 other:\nsection 2 at 9 test: other: 3\nprobe other one\n"

abbrev pub StoppedRun : Type 0
StoppedRun = render databases three_lines stopped_run ≡ codes "1 ok 1 j none\n3 no memory\n4 not run\ngroup 5 not closed test: 1 other:\nno memory\n"
