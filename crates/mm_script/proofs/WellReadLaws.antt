-- Every action that the grammar gives is well formed, and stands on its own line.
use Rattle.std.proofs.Common.{◌≡◌, ℕ, ◌+◌, ◌-◌, ◌≤◌, ◌<◌, inl, inr, Bool, true, false, cond, not, List, [], ◌∷◌, length, Option, Some, None, refl, sym, subst, arith}
use Rattle.std.specs.Prelude.{◌&&◌, nat_le, nat_lt, codes}
use Rattle.std.specs.List.{position_or_len}
use Rattle.std.specs.Str.{bytes_eq}
use Rattle.std.proofs.lemmas.Bool.{and_from, and_parts, leb-true, ltb-true, le-leb}
use Rattle.mm_bson.specs.Tree.{Tree, Elements}
use Rattle.mm_bson.specs.Path.{find}
use Rattle.mm_bson.specs.Spelling.{spelling}
use Rattle.mm_model.specs.Database.{id_name}
use Rattle.mm_model.specs.WellFormed.{is_collection_name, is_index_name, begins_with_id, IsWellFormed}
use Rattle.mm_model.specs.declared.action.Action.{Action}
use Rattle.mm_model.specs.declared.command.Command.{Command}
use Rattle.mm_model.specs.declared.command.Command.TheVariants as command
use Rattle.mm_script.specs.declared.fault.LineWhat.TheVariants.{Step as NoStep}
use Rattle.mm_script.specs.declared.commands.Place.{Place}
use Rattle.mm_script.specs.declared.verbs.Verb.{Verb}
use Rattle.mm_script.specs.declared.verbs.Verb.TheVariants as verb
use Rattle.mm_script.specs.declared.verbs.Step.{Step}
use Rattle.mm_script.specs.declared.verbs.Step.TheVariants as step
use Rattle.mm_script.specs.Names.{session_of, database_of, verb_of, is_step, step_of}
use Rattle.mm_script.specs.Documents.{IsShortSpecification, made_id, id_in_front, with_id}
use Rattle.mm_script.specs.Form.{Form, ends, word, flag, document, specification, wrong, Means}
use Rattle.mm_script.specs.Grammar.{Setting, closing, insert_form, index_form, find_form, update_form, remove_form, create_form, drop_form, ensure_index_form, drop_index_form, of_verb, verb_form, in_database, database_form, in_session, flush_of, of_step, step_form, first_form, line_form}
use Rattle.mm_script.specs.Lines.{lines}
use Rattle.mm_script.specs.Render.{line_of}
use Rattle.mm_script.specs.Script.{AreActions}
use Rattle.mm_script.specs.WellRead.{IsWellRead, AreWellRead, ScriptsAreWellRead}

-- every action in which a text of the form can end has the property
abbrev AllEnd : (Action → Type 0) → Form → Type 0
AllEnd P (ends a) = P a
AllEnd P (word what test next) = (w : List ℕ) → test w ≡ true → AllEnd P (next w)
AllEnd P (flag w next) = (b : Bool) → AllEnd P (next b)
AllEnd P (document next) = (d : Elements) → AllEnd P (next d)
AllEnd P (specification next) = (d : Elements) → IsShortSpecification d → AllEnd P (next d)
AllEnd P (wrong what) = Unit {0}

meant : (P : Action → Type 0) (f : Form) (text : List ℕ) (a : Action) → AllEnd P f → Means f text a → P a
meant P (ends b) text a all m = subst P (sym m.1) all
meant P (word what test next) text a all m = meant P (next m.0) m.1 a (all m.0 m.3) m.4
meant P (flag w next) text a all (inl m) = meant P (next true) m.0 a (all true) m.2
meant P (flag w next) text a all (inr m) = meant P (next false) text a (all false) m.1
meant P (document next) text a all m = meant P (next m.0) m.1 a (all m.0) m.3
meant P (specification next) text a all m = meant P (next m.0) m.1 a (all m.0 m.3) m.4
meant P (wrong what) text a all m = absurd m

-- ---- the actions of a line

-- on this line, over so many databases
Good : ℕ → ℕ → Action → Type 0
Good count n a = (line_of a ≡ n) × IsWellRead count a

-- a place over so many databases
record IsPlace (count : ℕ) (n : ℕ) (p : Place) : Type 0 where
  pub line : p.line ≡ n
  pub least : 1 ≤ p.session
  pub most : p.session ≤ 8
  pub there : p.db < count

closes : (count n : ℕ) (p : Place) (c : Command) → IsPlace count n p → IsWellFormed c → AllEnd (Good count n) (closing p c)
unfolding Good closing
closes count n p c place good j = (place.line, (place.least, place.most, place.there, good))

begins : (made : List ℕ) (d : Elements) → begins_with_id (with_id made d) ≡ true
begins made d = by (find id_name d)
  where
    by : (o : Option Tree) → begins_with_id (id_in_front made d o) ≡ true
    by None = refl
    by (Some id) = refl

insert_good : (count n stamp : ℕ) (p : Place) → IsPlace count n p → AllEnd (Good count n) (insert_form stamp p)
unfolding insert_form
insert_good count n stamp p place c is d =
    let made = made_id stamp p.session p.line in
    closes count n p (command.Insert c (with_id made d)) place (and_from (is_collection_name c) (begins_with_id (with_id made d)) is (begins made d))

find_good : (count n : ℕ) (p : Place) → IsPlace count n p → AllEnd (Good count n) (find_form p)
unfolding find_form
find_good count n p place c is f = by
  where
    by : (indexed : Bool) → AllEnd (Good count n) (index_form p c f indexed)
    by true = λ i index. closes count n p (command.Find c f (Some i)) place (and_from (is_collection_name c) (is_index_name i) is index)
    by false = closes count n p (command.Find c f None) place (and_from (is_collection_name c) true is refl)

update_good : (count n : ℕ) (p : Place) → IsPlace count n p → AllEnd (Good count n) (update_form p)
unfolding update_form
update_good count n p place c is f change multi = closes count n p (command.Update c f change multi) place is

remove_good : (count n : ℕ) (p : Place) → IsPlace count n p → AllEnd (Good count n) (remove_form p)
unfolding remove_form
remove_good count n p place c is f one = closes count n p (command.Remove c f one) place is

create_good : (count n : ℕ) (p : Place) → IsPlace count n p → AllEnd (Good count n) (create_form p)
unfolding create_form
create_good count n p place c is = closes count n p (command.Create c) place is

drop_good : (count n : ℕ) (p : Place) → IsPlace count n p → AllEnd (Good count n) (drop_form p)
unfolding drop_form
drop_good count n p place c is = closes count n p (command.Drop c) place is

ensure_index_good : (count n : ℕ) (p : Place) → IsPlace count n p → AllEnd (Good count n) (ensure_index_form p)
unfolding ensure_index_form
ensure_index_good count n p place c is i index spec short unique =
    let parts = and_parts (is_index_name i) (not (bytes_eq i (codes "_id_"))) index in
    let named = and_from (is_collection_name c && is_index_name i) (not (bytes_eq i (codes "_id_"))) (and_from (is_collection_name c) (is_index_name i) is parts.0) parts.1 in
    closes count n p (command.EnsureIndex c i spec unique) place
    (and_from (is_collection_name c && is_index_name i && not (bytes_eq i (codes "_id_"))) (nat_le (length (spelling spec)) 65536) named (le-leb (length (spelling spec)) 65536 short.short))

drop_index_good : (count n : ℕ) (p : Place) → IsPlace count n p → AllEnd (Good count n) (drop_index_form p)
unfolding drop_index_form
drop_index_good count n p place c is i index = closes count n p (command.DropIndex c i) place (and_from (is_collection_name c) (is_index_name i) is index)

verb_good : (count n stamp : ℕ) (p : Place) → IsPlace count n p → (o : Option Verb) → AllEnd (Good count n) (of_verb stamp p o)
verb_good count n stamp p place None = tt
verb_good count n stamp p place (Some verb.Insert) = insert_good count n stamp p place
verb_good count n stamp p place (Some verb.Find) = find_good count n p place
verb_good count n stamp p place (Some verb.Update) = update_good count n p place
verb_good count n stamp p place (Some verb.Remove) = remove_good count n p place
verb_good count n stamp p place (Some verb.Create) = create_good count n p place
verb_good count n stamp p place (Some verb.Drop) = drop_good count n p place
verb_good count n stamp p place (Some verb.EnsureIndex) = ensure_index_good count n p place
verb_good count n stamp p place (Some verb.DropIndex) = drop_index_good count n p place

command_good : (count n stamp : ℕ) (p : Place) → IsPlace count n p → AllEnd (Good count n) (verb_form stamp p)
unfolding verb_form
command_good count n stamp p place w is = verb_good count n stamp p place (verb_of w)

-- ---- sessions and databases

session_bounds : (w : List ℕ) (k : ℕ) → session_of w ≡ Some k → (1 ≤ k) × (k ≤ 8)
session_bounds [] k e = absurd (cc)
session_bounds (b ∷ []) k e = by (nat_le 49 b && nat_le b 56) refl e
  where
    by : (s : Bool) → (nat_le 49 b && nat_le b 56) ≡ s → cond s (Some (b - 48)) None ≡ Some k → (1 ≤ k) × (k ≤ 8)
    by true is f =
        let parts = and_parts (nat_le 49 b) (nat_le b 56) is in
        let least = leb-true 49 b parts.0 in
        let most = leb-true b 56 parts.1 in
        let same : b - 48 ≡ k = cc in
        (omega (arith, least, same), omega (arith, most, same))
    by false is f = absurd (cc)
session_bounds (b ∷ c ∷ w) k e = absurd (cc)

database_there : (names : List (List ℕ)) (w : List ℕ) (d : ℕ) → database_of names w ≡ Some d → d < length names
database_there names w d e = by (nat_lt (position_or_len (λ name. bytes_eq name w) names) (length names)) refl e
  where
    by : (s : Bool) → nat_lt (position_or_len (λ name. bytes_eq name w) names) (length names) ≡ s → cond s (Some (position_or_len (λ name. bytes_eq name w) names)) None ≡ Some d → d < length names
    by true is f =
        let same : position_or_len (λ name. bytes_eq name w) names ≡ d = cc in
        subst (λ (x : ℕ). x < length names) same (ltb-true (position_or_len (λ name. bytes_eq name w) names) (length names) is)
    by false is f = absurd (cc)

in_database_good : (s : Setting) (n k : ℕ) (w : List ℕ) → 1 ≤ k → k ≤ 8 → (o : Option ℕ) → database_of s.names w ≡ o → AllEnd (Good (length s.names) n) (in_database s.stamp n k o)
in_database_good s n k w least most None is = tt
in_database_good s n k w least most (Some d) is =
    command_good (length s.names) n s.stamp (record { line = n; session = k; db = d }) (record { line = refl; least = least; most = most; there = database_there s.names w d is })

database_good : (s : Setting) (n k : ℕ) → 1 ≤ k → k ≤ 8 → AllEnd (Good (length s.names) n) (database_form s n k)
unfolding database_form
database_good s n k least most w is = in_database_good s n k w least most (database_of s.names w) refl

in_session_good : (s : Setting) (n : ℕ) (w : List ℕ) (o : Option ℕ) → session_of w ≡ o → AllEnd (Good (length s.names) n) (in_session s n o)
in_session_good s n w None is = tt
in_session_good s n w (Some k) is = let bounds = session_bounds w k is in database_good s n k bounds.0 bounds.1

-- ---- steps

flush_good : (names : List (List ℕ)) (n : ℕ) (w : List ℕ) (o : Option ℕ) → database_of names w ≡ o → AllEnd (Good (length names) n) (flush_of n o)
unfolding Good
flush_good names n w None is = tt
flush_good names n w (Some d) is = (refl, database_there names w d is)

of_step_good : (names : List (List ℕ)) (n : ℕ) (o : Option Step) → AllEnd (Good (length names) n) (of_step names n o)
unfolding Good
of_step_good names n None = tt
of_step_good names n (Some step.Close) = (refl, tt)
of_step_good names n (Some step.Log) = (refl, tt)
of_step_good names n (Some step.Apply) = (refl, tt)
of_step_good names n (Some step.Remap) = (refl, tt)
of_step_good names n (Some step.Commit) = (refl, tt)
of_step_good names n (Some step.Flush) = λ w is. flush_good names n w (database_of names w) refl
of_step_good names n (Some step.Sync) = (refl, tt)
of_step_good names n (Some step.Lsn) = (refl, tt)
of_step_good names n (Some step.Trim) = (refl, tt)

step_good : (s : Setting) (n : ℕ) (w : List ℕ) → AllEnd (Good (length s.names) n) (step_form s n w)
unfolding step_form
step_good s n w = by s.steps
  where
    by : (b : Bool) → AllEnd (Good (length s.names) n) (cond b (of_step s.names n (step_of w)) (wrong NoStep))
    by true = of_step_good s.names n (step_of w)
    by false = tt

first_good : (s : Setting) (n : ℕ) (w : List ℕ) → AllEnd (Good (length s.names) n) (first_form s n w)
first_good s n w = by (is_step w)
  where
    by : (b : Bool) → AllEnd (Good (length s.names) n) (cond b (step_form s n w) (in_session s n (session_of w)))
    by true = step_good s n w
    by false = in_session_good s n w (session_of w) refl

line_good : (s : Setting) (n : ℕ) → AllEnd (Good (length s.names) n) (line_form s n)
unfolding line_form
line_good s n w is = first_good s n w

-- ---- scripts

from_before : (count n : ℕ) (actions : List Action) → AreWellRead count (n + 1) actions → AreWellRead count n actions
from_before count n [] w = tt
from_before count n (a ∷ actions) w = (omega (arith, w.0), w.1, w.2)

lines_good : (s : Setting) (n : ℕ) (ls : List (List ℕ)) (actions : List Action) → AreActions s n ls actions → AreWellRead (length s.names) n actions
unfolding Good
lines_good s n [] actions is = subst (AreWellRead (length s.names) n) (sym is) tt
lines_good s n (l ∷ ls) actions (inl x) = from_before (length s.names) n actions (lines_good s (n + 1) ls actions x.1)
lines_good s n (l ∷ ls) actions (inr x) =
    let good = meant (Good (length s.names) n) (line_form s n) (0x20 ∷ l) x.0 (line_good s n) x.3.means in
    let behind = lines_good s (n + 1) ls x.1 x.4 in
    subst (AreWellRead (length s.names) n) (sym x.2)
    (omega (arith, good.0), good.1, subst (λ (m : ℕ). AreWellRead (length s.names) (m + 1) x.1) (sym good.0) behind)

pub scripts_are_well_read : ScriptsAreWellRead
scripts_are_well_read s bytes actions is = lines_good s 1 (lines bytes) actions is.actions
