-- Which actions are played, and the first that isn't.
use Rattle.std.proofs.Common.{◌≡◌, ℕ, ◌+◌, ◌<◌, Bool, true, false, cond, inl, inr, List, [], ◌∷◌, length, get_or, drop, Some, None, refl, sym, ap, ◌∙◌, subst, arith, suc, drop-cons}
use Rattle.std.specs.Str.{bytes_eq}
use Rattle.std.proofs.lemmas.Bool.{and_parts}
use Rattle.std.proofs.lemmas.Slice.Eq.{bytes_eq-Decides}
use Rattle.mm_model.specs.WellFormed.{is_collection_name, begins_with_id}
use Rattle.mm_model.specs.declared.action.Action.{Action}
use Rattle.mm_model.specs.declared.action.Action.TheVariants as action
use Rattle.mm_model.specs.declared.command.Command.TheVariants as command
use Rattle.mm_script.specs.declared.fault.LineWhat.{LineWhat}
use Rattle.mm_script.specs.declared.fault.LineWhat.TheVariants.{Verb, Word}
use Rattle.mm_script.specs.Render.{line_of}
use Rattle.mm_script.specs.Script.{IsScript, IsFirstRefused}
use Rattle.mm_script.specs.WellRead.{AreWellRead}
use Rattle.mm_script.proofs.WellReadLaws.{scripts_are_well_read}
use Rattle.mm_main.specs.Collections.{IsCollection}
use Rattle.mm_main.specs.Inserts.{IsInsert, AreInserts, ArePlayed, IsFirstUnplayed, unplayed, collection_in}
use Rattle.mm_main.specs.Script.{playing, IsPlayed, Refuses}

-- ---- one action

played_by : (e j : Bool) → e ≡ true → j ≡ false → cond e (cond j (Some Word) None) (Some Verb) ≡ None
played_by e j same not_j = ap (λ (b : Bool). cond b (cond j (Some Word) None) (Some Verb)) same ∙ ap (λ (b : Bool). cond b (Some Word) None) not_j

played_parts : (e j : Bool) → cond e (cond j (Some Word) None) (Some Verb) ≡ None → (e ≡ true) × (j ≡ false)
played_parts true true is = absurd cc
played_parts true false is = (refl, refl)
played_parts false true is = absurd cc
played_parts false false is = absurd cc

-- what is inserted is played
pub insert_played : (collection : List ℕ) (a : Action) → IsInsert collection a → unplayed collection a ≡ None
insert_played collection (action.Run line session db (command.Insert coll doc) j) is = played_by (bytes_eq coll collection) j ((bytes_eq-Decides coll collection).1 is.0) is.1
insert_played collection (action.Run line session db (command.Find coll filter index) j) is = absurd is
insert_played collection (action.Run line session db (command.Update coll filter change multi) j) is = absurd is
insert_played collection (action.Run line session db (command.Remove coll filter one) j) is = absurd is
insert_played collection (action.Run line session db (command.Create coll) j) is = absurd is
insert_played collection (action.Run line session db (command.Drop coll) j) is = absurd is
insert_played collection (action.Run line session db (command.EnsureIndex coll name spec unique) j) is = absurd is
insert_played collection (action.Run line session db (command.DropIndex coll name) j) is = absurd is
insert_played collection (action.Close line) is = absurd is
insert_played collection (action.Log line) is = absurd is
insert_played collection (action.Apply line) is = absurd is
insert_played collection (action.Remap line) is = absurd is
insert_played collection (action.Commit line) is = absurd is
insert_played collection (action.Flush line db) is = absurd is
insert_played collection (action.Sync line) is = absurd is
insert_played collection (action.Lsn line) is = absurd is
insert_played collection (action.Trim line) is = absurd is

-- what is played is inserted
pub played_insert : (collection : List ℕ) (a : Action) → unplayed collection a ≡ None → IsInsert collection a
played_insert collection (action.Run line session db (command.Insert coll doc) j) is =
    let parts = played_parts (bytes_eq coll collection) j is in
    ((bytes_eq-Decides coll collection).0 parts.0, parts.1)
played_insert collection (action.Run line session db (command.Find coll filter index) j) is = absurd cc
played_insert collection (action.Run line session db (command.Update coll filter change multi) j) is = absurd cc
played_insert collection (action.Run line session db (command.Remove coll filter one) j) is = absurd cc
played_insert collection (action.Run line session db (command.Create coll) j) is = absurd cc
played_insert collection (action.Run line session db (command.Drop coll) j) is = absurd cc
played_insert collection (action.Run line session db (command.EnsureIndex coll name spec unique) j) is = absurd cc
played_insert collection (action.Run line session db (command.DropIndex coll name) j) is = absurd cc
played_insert collection (action.Close line) is = absurd cc
played_insert collection (action.Log line) is = absurd cc
played_insert collection (action.Apply line) is = absurd cc
played_insert collection (action.Remap line) is = absurd cc
played_insert collection (action.Commit line) is = absurd cc
played_insert collection (action.Flush line db) is = absurd cc
played_insert collection (action.Sync line) is = absurd cc
played_insert collection (action.Lsn line) is = absurd cc
played_insert collection (action.Trim line) is = absurd cc

-- ---- some actions, one after the other

pub cut : {X : Type 0} (xs : List X) (i : ℕ) (x : X) → i < length xs → x ≡ get_or xs i x → drop i xs ≡ x ∷ drop (i + 1) xs
cut xs i x inside is =
    let next : suc i ≡ i + 1 = omega arith in
    drop-cons xs i x inside ∙ ap (λ y. y ∷ drop (suc i) xs) (sym is) ∙ ap (λ (n : ℕ). x ∷ drop n xs) next

-- what holds of the rest holds of all, since those before it are played
pub record Passed (collection : List ℕ) (all rest : List Action) : Type 0 where
  pub found : (n : ℕ) (what : LineWhat) → IsFirstUnplayed collection n what rest → IsFirstUnplayed collection n what all
  pub none : AreInserts collection rest → AreInserts collection all

pub passed_first : (collection : List ℕ) (all : List Action) → Passed collection all all
passed_first collection all = record { found = λ n what first. first; none = λ inserts. inserts }

pub passed_more : (collection : List ℕ) (all : List Action) (i : ℕ) (a : Action) → i < length all → a ≡ get_or all i a → unplayed collection a ≡ None → Passed collection all (drop i all) → Passed collection all (drop (i + 1) all)
passed_more collection all i a inside is played p =
    let here = cut all i a inside is in
    record {
      found = λ n what first. p.found n what (subst (IsFirstUnplayed collection n what) (sym here) (inr (played, first)));
      none = λ inserts. p.none (subst (AreInserts collection) (sym here) (played_insert collection a played, inserts));
    }

pub passed_found : (collection : List ℕ) (all : List Action) (i n : ℕ) (a : Action) (what : LineWhat) → i < length all → a ≡ get_or all i a → unplayed collection a ≡ Some what → n ≡ line_of a → Passed collection all (drop i all) → IsFirstUnplayed collection n what all
passed_found collection all i n a what inside is unplayed_is line p = p.found n what (subst (IsFirstUnplayed collection n what) (sym (cut all i a inside is)) (inl (unplayed_is, line)))

-- inserts have no first action that isn't played
inserts_or_unplayed : (collection : List ℕ) (n : ℕ) (what : LineWhat) (actions : List Action) → AreInserts collection actions → IsFirstUnplayed collection n what actions → ⊥
inserts_or_unplayed collection n what [] inserts first = first
inserts_or_unplayed collection n what (a ∷ actions) inserts (inl here) = cc (sym (insert_played collection a inserts.0) ∙ here.0)
inserts_or_unplayed collection n what (a ∷ actions) inserts (inr later) = inserts_or_unplayed collection n what actions inserts.1 later.1

-- ---- scripts

-- A script that is read, and isn't played.
pub refused_here : (bytes : List ℕ) (script : List Action) (n : ℕ) (what : LineWhat) → IsScript playing bytes script → ((asked : List Action) → IsScript playing bytes asked → asked ≡ script)
    → IsFirstUnplayed (collection_in script) n what script → Refuses n what bytes
refused_here bytes script n what is only first = record {
  first = inr (script, is, first);
  none = λ any.
      let same = only any.0 any.1.script in
      inserts_or_unplayed (collection_in script) n what script (subst (λ (actions : List Action). AreInserts (collection_in actions) actions) same any.1.inserts) first;
}

-- bytes that are no script
pub refused_there : (bytes : List ℕ) (n : ℕ) (what : LineWhat) → IsFirstRefused playing bytes n what → ((asked : List Action) → IsScript playing bytes asked → ⊥) → Refuses n what bytes
refused_there bytes n what first none = record { first = inl first; none = λ any. none any.0 any.1.script }

first_named : (count n : ℕ) (actions : List Action) → AreWellRead count n actions → AreInserts (collection_in actions) actions → 0 < length actions → IsCollection (collection_in actions)
first_named count n [] read inserts some = absurd (omega (arith, some))
first_named count n (action.Run line session db (command.Insert coll doc) j ∷ actions) read inserts some = (and_parts (is_collection_name coll) (begins_with_id doc) read.1.3).0
first_named count n (action.Run line session db (command.Find coll filter index) j ∷ actions) read inserts some = absurd inserts.0
first_named count n (action.Run line session db (command.Update coll filter change multi) j ∷ actions) read inserts some = absurd inserts.0
first_named count n (action.Run line session db (command.Remove coll filter one) j ∷ actions) read inserts some = absurd inserts.0
first_named count n (action.Run line session db (command.Create coll) j ∷ actions) read inserts some = absurd inserts.0
first_named count n (action.Run line session db (command.Drop coll) j ∷ actions) read inserts some = absurd inserts.0
first_named count n (action.Run line session db (command.EnsureIndex coll name spec unique) j ∷ actions) read inserts some = absurd inserts.0
first_named count n (action.Run line session db (command.DropIndex coll name) j ∷ actions) read inserts some = absurd inserts.0
first_named count n (action.Close line ∷ actions) read inserts some = absurd inserts.0
first_named count n (action.Log line ∷ actions) read inserts some = absurd inserts.0
first_named count n (action.Apply line ∷ actions) read inserts some = absurd inserts.0
first_named count n (action.Remap line ∷ actions) read inserts some = absurd inserts.0
first_named count n (action.Commit line ∷ actions) read inserts some = absurd inserts.0
first_named count n (action.Flush line db ∷ actions) read inserts some = absurd inserts.0
first_named count n (action.Sync line ∷ actions) read inserts some = absurd inserts.0
first_named count n (action.Lsn line ∷ actions) read inserts some = absurd inserts.0
first_named count n (action.Trim line ∷ actions) read inserts some = absurd inserts.0

-- the actions of a script that is played
pub played_actions : (actions : List Action) (bytes : List ℕ) → IsPlayed actions bytes → ArePlayed actions
played_actions actions bytes played = record {
  inserts = played.inserts;
  name = first_named 1 1 actions (scripts_are_well_read playing bytes actions played.script) played.inserts;
}
