-- What becomes of the database where a command's outcome is known.
use Rattle.std.proofs.Common.{◌≡◌, ◌≢◌, ℕ, Bool, true, false, cond, List, Option, Some, None, refl, sym, ap, ◌∙◌}
use Rattle.std.specs.Prelude.{nat_lt}
use Rattle.std.specs.declared.cmp.Ordering.{Ordering}
use Rattle.std.specs.declared.cmp.Ordering.TheVariants.{Less, Equal, Greater}
use Rattle.std.specs.Ordering.{nat_cmp, is_eq, eq_by_cmp}
use Rattle.std.specs.Cmp.Lexicographic.{slice_cmp, nat_list_cmp_total}
use Rattle.std.specs.FinMap.{get, get-insert, get-remove, nat_cmp-IsAntisymmetric, slice_cmp-IsAntisymmetric}
use Rattle.mm_model.specs.declared.reply.Reply.{Reply}
use Rattle.mm_model.specs.Database.{Collection, Database, nodes_in}
use Rattle.mm_model.specs.Commands.{Outcome, refused, answered, done}
use Rattle.mm_model.specs.After.{unless_full, with_collection, settled}
use Rattle.mm_model.specs.Laws.{is_ok, documents_in, documents_at}

abbrev name_cmp : List ℕ → List ℕ → Ordering
name_cmp = slice_cmp nat_cmp

tied : (q k : List ℕ) (o : Ordering) → name_cmp q k ≡ o → is_eq o ≡ true → q ≡ k
tied q k Equal e h = slice_cmp-IsAntisymmetric nat_cmp-IsAntisymmetric q k e
tied q k Less e h = absurd cc
tied q k Greater e h = absurd cc

-- names that compare alike are one
pub one_name : (q k : List ℕ) → eq_by_cmp name_cmp q k ≡ true → q ≡ k
one_name q k = tied q k (name_cmp q k) refl

apart_by : (q k : List ℕ) (b : Bool) → eq_by_cmp name_cmp q k ≡ b → q ≢ k → b ≡ false
apart_by q k true e ne = absurd (ne (one_name q k e))
apart_by q k false e ne = refl

pub other_name : (q k : List ℕ) → q ≢ k → eq_by_cmp name_cmp q k ≡ false
other_name q k ne = apart_by q k (eq_by_cmp name_cmp q k) refl ne

-- what stands under a name then
pub get-with : (coll : List ℕ) (x : Option Collection) (db : Database) (q : List ℕ) → get (with_collection coll x db) q ≡ cond (eq_by_cmp name_cmp q coll) x (get db q)
get-with coll None db q = get-remove nat_list_cmp_total db coll q
get-with coll (Some c) db q = get-insert nat_list_cmp_total db coll c q

-- ---- a fact of each outcome that changes something

abbrev pub DoneHas : (Reply → Option Collection → Type 0) → Outcome → Type 0
DoneHas P (refused r) = Unit {0}
DoneHas P (answered r) = Unit {0}
DoneHas P (done r x) = P r x

-- ---- refusals

kept_if : (b : Bool) (r : Reply) (old new : Database) → is_ok r ≡ true → is_ok (unless_full b old r new).0 ≡ false → (unless_full b old r new).1 ≡ old
kept_if true r old new ok e = refl
kept_if false r old new ok e = absurd cc

pub refused_keeps : (nodes : ℕ) (coll : List ℕ) (db : Database) (o : Outcome) → DoneHas (λ r x. is_ok r ≡ true) o → is_ok (settled nodes coll db o).0 ≡ false → (settled nodes coll db o).1 ≡ db
refused_keeps nodes coll db (refused r) h e = refl
refused_keeps nodes coll db (answered r) h e = refl
refused_keeps nodes coll db (done r x) h e = kept_if (nat_lt nodes (nodes_in (with_collection coll x db))) r db (with_collection coll x db) h e

-- ---- other collections

same_if : (b : Bool) (r : Reply) (old new : Database) (q : List ℕ) → get new q ≡ get old q → get (unless_full b old r new).1 q ≡ get old q
same_if true r old new q same = refl
same_if false r old new q same = same

pub others_stay : (nodes : ℕ) (coll : List ℕ) (db : Database) (o : Outcome) (q : List ℕ) → q ≢ coll → get (settled nodes coll db o).1 q ≡ get db q
others_stay nodes coll db (refused r) q ne = refl
others_stay nodes coll db (answered r) q ne = refl
others_stay nodes coll db (done r x) q ne =
    same_if (nat_lt nodes (nodes_in (with_collection coll x db))) r db (with_collection coll x db) q
    (get-with coll x db q ∙ ap (λ b. cond b x (get db q)) (other_name q coll ne))

-- ---- documents

documents_if : (b : Bool) (r : Reply) (old new : Database) (q : List ℕ) → documents_at new q ≡ documents_at old q → documents_at (unless_full b old r new).1 q ≡ documents_at old q
documents_if true r old new q same = refl
documents_if false r old new q same = same

chosen : (q coll : List ℕ) (x : Option Collection) (db : Database) (b : Bool) → eq_by_cmp name_cmp q coll ≡ b → documents_in x ≡ documents_in (get db coll) → documents_in (cond b x (get db q)) ≡ documents_in (get db q)
chosen q coll x db true e same = same ∙ ap (λ n. documents_in (get db n)) (sym (one_name q coll e))
chosen q coll x db false e same = refl

pub documents_stay : (nodes : ℕ) (coll : List ℕ) (db : Database) (o : Outcome) → DoneHas (λ r x. documents_in x ≡ documents_in (get db coll)) o
    → (q : List ℕ) → documents_at (settled nodes coll db o).1 q ≡ documents_at db q
documents_stay nodes coll db (refused r) h q = refl
documents_stay nodes coll db (answered r) h q = refl
documents_stay nodes coll db (done r x) h q =
    documents_if (nat_lt nodes (nodes_in (with_collection coll x db))) r db (with_collection coll x db) q
    (ap documents_in (get-with coll x db q) ∙ chosen q coll x db (eq_by_cmp name_cmp q coll) refl h)
