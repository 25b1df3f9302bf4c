-- Changes of the records of one collection, or of one of its indexes, leave all else; so do such changes in a row.
use Rattle.std.proofs.Common.{◌≡◌, ◌≢◌, ℕ, ◌<◌, inl, inr, true, List, length, Some, sym, ◌∙◌, ap}
use Rattle.std.specs.FinMap.{get}
use Rattle.mm_ranges.specs.Overlay.{Image}
use Rattle.mm_nstable.specs.Nodes.{SameNames, node_at, details_in, is_used}
use Rattle.mm_records.specs.Constants.{constants_of}
use Rattle.mm_records.specs.Shape.{Shape}
use Rattle.mm_records.specs.Stands.{ns_in}
use Rattle.mm_records.specs.Map.{name_at}
use Rattle.mm_trees.specs.Indexes.{LeavesOthers}
use Rattle.mm_model.specs.Database.{Collection, Database}
use Rattle.mm_model.specs.Keyed.{namespace, full_name}
use Rattle.mm_check.specs.NodeQuestions.{indexes_name}
use Rattle.mm_standing.specs.Database.{HasDatabase, index_at}
use Rattle.mm_standing.specs.Staying.{SameRecords, LeavesAllBut}
use Rattle.mm_standing.proofs.Given.{beside_leaves}
use Rattle.mm_standing.proofs.PlainNames.{isnt_list, index_isnt_list}

-- the records of the collection alone change
pub records_leave : (d : List ℕ) (first : Image) (db : Database) → HasDatabase d first db → (coll : List ℕ) (c : Collection) → get db coll ≡ Some c
    → (old new : Image) (s t : Shape) → ((m : List ℕ) → namespace d coll ≢ m → SameRecords s t m)
    → ((k : ℕ) → is_used (ns_in old) k ≡ true → constants_of (details_in (node_at (ns_in new) k)) ≡ constants_of (details_in (node_at (ns_in old) k)))
    → LeavesAllBut d old new s t coll c
records_leave d first db h coll c e old new s t others constants = record {
  records = λ name isnt. others name (λ f. isnt (inl (sym f)));
  listed = others (indexes_name d) (isnt_list d first db h coll c e);
  constants = λ k u ne. constants k u;
}

-- those of an index of it
pub index_leaves : (d coll : List ℕ) (c : Collection) (old new : Image) (s t : Shape) (node owner position places i : ℕ) → i < length c.indexes
    → name_at old node ≡ full_name (namespace d coll) (index_at c i) → name_at old owner ≡ namespace d coll → LeavesOthers old new s t node owner position places
    → LeavesAllBut d old new s t coll c
index_leaves d coll c old new s t node owner position places i lt named owned x = record {
  records = λ name isnt. beside_leaves old new s t node owner position places x name (λ f. isnt (inr (i, lt, sym f ∙ named)));
  listed = beside_leaves old new s t node owner position places x (indexes_name d) (λ f. index_isnt_list d coll (index_at c i) (sym named ∙ f));
  constants = λ k u ne. x.constants k u (λ f. ne (ap (name_at old) f ∙ owned));
}

-- one after another
pub leaves_on : (d coll : List ℕ) (c : Collection) (old mid new : Image) (s t u : Shape) → SameNames (ns_in old) (ns_in mid)
    → LeavesAllBut d old mid s t coll c → LeavesAllBut d mid new t u coll c → LeavesAllBut d old new s u coll c
leaves_on d coll c old mid new s t u names x y = record {
  records = λ name isnt p. y.records name isnt p ∙ x.records name isnt p;
  listed = λ p. y.listed p ∙ x.listed p;
  constants = λ k used ne. y.constants k (names.used k ∙ used) (λ f. ne (sym (names.names k used) ∙ f)) ∙ x.constants k used ne;
}

pub names_on : (old mid new : List ℕ) → SameNames old mid → SameNames mid new → SameNames old new
names_on old mid new x y = record { used = λ k. y.used k ∙ x.used k; names = λ k u. y.names k (x.used k ∙ u) ∙ x.names k u }
