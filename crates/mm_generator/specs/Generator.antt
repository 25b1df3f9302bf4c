-- The actions of a generated script. Numbers are drawn from a state of 64 bits by a linear congruence (Knuth's MMIX multiplier and increment).
use Rattle.std.specs.Prelude.{ℕ, zero, suc, ◌+◌, ◌-◌, ◌*◌, ◌/◌, ◌%◌, ◌^◌, ◌==◌, Bool, true, false, List, [], ◌∷◌, ◌++◌, Some, codes, pos, nat_le, map, if◌then◌else◌}
use Rattle.std.specs.List.{range_with_len}
use Rattle.std.specs.Fmt.{decimal}
use Rattle.mm_bson.specs.Tree.{int32, string, document, Elements, no_elements, element}
use Rattle.mm_model.specs.declared.action.Action.{Action}
use Rattle.mm_model.specs.declared.action.Action.TheVariants as action
use Rattle.mm_model.specs.declared.command.Command.{Command}
use Rattle.mm_model.specs.declared.command.Command.TheVariants as command

-- ---- draws

-- the state after a draw, and what is drawn: its upper 31 bits
unfoldable pub drawn : ℕ → ℕ
drawn x = (x * 6364136223846793005 + 1442695040888963407) % 2 ^ 64

unfoldable pub draw : ℕ → ℕ
draw x = drawn x / 2 ^ 33

-- ---- documents

abbrev pub number : List ℕ → ℕ → Elements → Elements
number name n es = element name (int32 (pos n)) es

-- {"k": K}
abbrev pub by_k : ℕ → Elements
by_k k = number (codes "k") k no_elements

-- {"_id": i, "k": K, "s": "vS"}
abbrev pub bulk_document : ℕ → ℕ → ℕ → Elements
bulk_document i k s = number (codes "_id") i (number (codes "k") k (element (codes "s") (string (codes "v" ++ decimal s)) no_elements))

-- {"$inc": {"c": 1}}
abbrev pub one_more : Elements
one_more = element (codes "$inc") (document (number (codes "c") 1 no_elements)) no_elements

-- ---- lines

abbrev pub bulk : List ℕ
bulk = codes "bulk"

-- the name of the index on each database
abbrev pub k_index : List ℕ
k_index = codes "k_1"

-- what line i does, whether it has `j`, and the state behind its draws
pub record Drawn : Type 0 where
  pub command : Command
  pub j : Bool
  pub state : ℕ

abbrev pub without_j : Command → ℕ → Drawn
without_j c x = record { command = c; j = false; state = x }

-- x is the state behind the draw of the kind
abbrev pub insert_at : ℕ → ℕ → Drawn
insert_at i x = record { command = command.Insert bulk (bulk_document i (draw x % 1000) (draw (drawn x) % 100000)); j = i % 50 == 0; state = drawn (drawn x) }

abbrev pub update_at : ℕ → Drawn
update_at x = without_j (command.Update bulk (by_k (draw x % 1000)) one_more true) (drawn x)

abbrev pub find_at : ℕ → Drawn
find_at x = without_j (command.Find bulk (by_k (draw x % 1000)) (Some k_index)) (drawn x)

abbrev pub remove_at : ℕ → Drawn
remove_at x = without_j (command.Remove bulk (by_k (draw x % 1000)) false) (drawn x)

-- the kinds from 0 to 9
abbrev pub of_kind : ℕ → ℕ → ℕ → Drawn
of_kind i x kind = if nat_le kind 5 then insert_at i x else (if nat_le kind 7 then update_at x else (if nat_le kind 8 then find_at x else remove_at x))

-- a line in which a command is drawn
abbrev pub drawn_line : ℕ → ℕ → Drawn
drawn_line i x = of_kind i (drawn x) (draw x % 10)

abbrev pub run_at : ℕ → ℕ → ℕ → Command → Bool → Action
run_at i session db c j = action.Run i (record { 0 = session }) (record { 0 = db }) c j

-- the line of an index
abbrev pub index_line : ℕ → Action
index_line i = run_at i 1 (i - 1) (command.EnsureIndex bulk k_index (by_k 1) false) false

-- Line i with d databases, and the state behind its draws: an index for each database first. Then a database is drawn, and a command.
unfoldable pub bulk_line : ℕ → ℕ → ℕ → Action × ℕ
bulk_line d i x = if nat_le i d then (index_line i, x) else (let c = drawn_line i (drawn x) in (run_at i (1 + i % 4) (draw x % d) c.command c.j, c.state))

abbrev pub flushes : ℕ → ℕ → ℕ → List Action
flushes i from n = map (λ db. action.Flush i (record { 0 = db })) (range_with_len from n)

-- behind each line whose number is a multiple of 200: commit, flush of each database, sync, lsn and trim
unfoldable pub pause : ℕ → ℕ → List Action
pause d i = if i % 200 == 0 then action.Commit i ∷ (flushes i 0 d ++ action.Sync i ∷ action.Lsn i ∷ action.Trim i ∷ []) else []

-- so many lines from line i on
unfoldable pub bulk_lines : ℕ → ℕ → ℕ → ℕ → List Action
bulk_lines d i x zero = []
bulk_lines d i x (suc more) = let l = bulk_line d i x in (l.0 ∷ pause d i) ++ bulk_lines d (i + 1) l.1 more

-- the actions of so many lines
abbrev pub generated : ℕ → ℕ → ℕ → List Action
generated seed count d = bulk_lines d 1 seed count
