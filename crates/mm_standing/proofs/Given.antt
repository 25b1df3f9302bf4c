-- What the calls of records and of trees give: the records of other namespaces stay, and what else of details does.
use Rattle.std.proofs.Common.{◌≡◌, ◌≢◌, ℕ, inl, inr, true, false, List, Some, refl, sym, ◌∙◌, ap, subst}
use Rattle.std.specs.Option.{option_map}
use Rattle.std.proofs.lemmas.Bool.{cases_Bool, false_from_ne_true}
use Rattle.std.proofs.lemmas.List.{get_or-set_other}
use Rattle.mm_bson.specs.Tree.{Elements}
use Rattle.mm_ranges.specs.Overlay.{Image}
use Rattle.mm_frames.specs.declared.details.Details.{Details}
use Rattle.mm_frames.specs.declared.index_pair.IndexPair.{IndexPair}
use Rattle.mm_links.specs.Links.{Place, same}
use Rattle.mm_links.proofs.LinkLaws.{same_is}
use Rattle.mm_nstable.specs.Nodes.{SameNames, IsTable, node_at, name_in, details_in, is_used}
use Rattle.mm_nstable.proofs.Tables.{table_at}
use Rattle.mm_records.specs.Constants.{SameConstants, is_name, constants_of, no_pair}
use Rattle.mm_records.specs.Shape.{Shape}
use Rattle.mm_records.specs.Stands.{Stands, ns_in}
use Rattle.mm_records.specs.Map.{IsFreed, IsRewritten, live_at, name_at}
use Rattle.mm_records.specs.Allocating.{IsAllocated}
use Rattle.mm_records.proofs.Freed.{name_is}
use Rattle.mm_btree.specs.Nodes.{Item}
use Rattle.mm_trees.specs.Roots.{pair_of}
use Rattle.mm_trees.specs.Buckets.{Holds}
use Rattle.mm_trees.specs.Indexes.{HasIndex, LeavesOthers, GoesBeside}
use Rattle.mm_trees.proofs.Showing.{one_owner}
use Rattle.mm_check.specs.NodeQuestions.{NamesNode, free_name, has_form}
use Rattle.mm_check.specs.Standing.{HasShape}
use Rattle.mm_standing.specs.Staying.{SameRecords, SamePair}
use Rattle.mm_standing.proofs.IndexStays.{holds_in, owner_in}

name_not : (q m : List ℕ) → q ≢ m → is_name q m ≡ false
name_not q m ne = false_from_ne_true (is_name q m) (λ y. ne (name_is q m y))

-- ---- records

-- all stays but at one place, and the place is none of another namespace's
but_one : (s t : Shape) (m : List ℕ) (p : Place) → live_at t m p ≡ live_at s m p → ((q : Place) → same p q ≡ false → live_at t m q ≡ live_at s m q) → SameRecords s t m
but_one s t m p here others q = elim (cases_Bool (same p q)) [
  | inl y ↦ subst (λ (x : Place). live_at t m x ≡ live_at s m x) (same_is p q y) here
  | inr n ↦ others q n
]

pub allocated_leaves : (image : Image) (s t : Shape) (free name : List ℕ) (p : Place) (r : ℕ) (payload : List ℕ) → IsAllocated image s t free name p r payload
    → (m : List ℕ) → name ≢ m → SameRecords s t m
allocated_leaves image s t free name p r payload a m ne = but_one s t m p (one_owner t name m p a.room a.here (name_not name m ne) ∙ sym (a.fresh m)) (a.others m)

pub freed_leaves : (s t : Shape) (name : List ℕ) (p : Place) (len : ℕ) → IsFreed s t name p len → (room : List ℕ) → live_at s name p ≡ Some room → (m : List ℕ) → name ≢ m → SameRecords s t m
freed_leaves s t name p len f room e m ne = but_one s t m p (f.map.gone m ∙ sym (one_owner s name m p room e (name_not name m ne))) (f.map.others m)

pub rewritten_leaves : (s t : Shape) (name : List ℕ) (p : Place) (room was : List ℕ) → IsRewritten s t p room → live_at s name p ≡ Some was → (m : List ℕ) → name ≢ m → SameRecords s t m
rewritten_leaves s t name p room was w e m ne =
    let none = one_owner s name m p was e (name_not name m ne) in
    but_one s t m p (w.here m ∙ ap (option_map (λ _. room)) none ∙ sym none) (w.others m)

-- ---- an index

pub beside_leaves : (old new : Image) (s t : Shape) (node owner position places : ℕ) → LeavesOthers old new s t node owner position places → (m : List ℕ) → name_at old node ≢ m → SameRecords s t m
beside_leaves old new s t node owner position places x m ne q = x.others m q (name_not (name_at old node) m ne)

-- the shape that comes of the one in which the files stand
pub beside_of : (old new : Image) (node owner position places : ℕ) (spec : Elements) (pairs : List Item) → GoesBeside old new node owner position places → HasIndex old node owner position spec pairs
    → (free : List ℕ) (s : Shape) → Stands old free s → (t : Shape) × (Holds new free t node × LeavesOthers old new s t node owner position places)
beside_of old new node owner position places spec pairs g x free s st =
    g free s (holds_in old free s st node owner position spec pairs x) (owner_in old free s st node owner position spec pairs x) x.counted

-- the pairs of the collection's other indexes
pub beside_pair : (old new : Image) (s t : Shape) (node owner position places : ℕ) → LeavesOthers old new s t node owner position places → (i : ℕ) → i ≢ position → SamePair old new owner i
beside_pair old new s t node owner position places x i ne =
    let d = details_in (node_at (ns_in old) owner) in
    let o = x.owner_constants in
    let put : IndexPair = record (pair_of d position) { head = o.0 } in
    record {
      pair = ap (λ (e : Details). pair_of e i) o.1 ∙ get_or-set_other d.indexes position i put no_pair ne;
      number = ap (λ (e : Details). e.n_indexes) o.1;
    }

-- ---- details

-- what the tables say of names is so of nodes
pub nodes_keep : (old new : Image) → IsTable (ns_in old) → IsTable (ns_in new) → SameNames (ns_in old) (ns_in new) → SameConstants (ns_in old) (ns_in new)
    → (k : ℕ) → is_used (ns_in old) k ≡ true → constants_of (details_in (node_at (ns_in new) k)) ≡ constants_of (details_in (node_at (ns_in old) k))
nodes_keep old new was is names same k u =
    let a = table_at (ns_in old) k (name_at old k) was u refl in
    let b = table_at (ns_in new) k (name_at old k) is (names.used k ∙ u) (names.names k u) in
    sym (same.details (name_at old k) _ _ a b)

pub same_names : (old new : Image) → ns_in new ≡ ns_in old → SameNames (ns_in old) (ns_in new)
same_names old new e = record { used = λ k. ap (λ (b : List ℕ). is_used b k) e; names = λ k u. ap (λ (b : List ℕ). name_in (node_at b k)) e }

-- ---- the shape of a database

named_stays : (old new name : List ℕ) → SameNames old new → NamesNode old name → NamesNode new name
named_stays old new name s n = record { node = n.node; used = s.used n.node ∙ n.used; named = s.names n.node n.used ∙ n.named }

pub shape_stays : (d : List ℕ) (old new : Image) (s t : Shape) → HasShape d old s → SameNames (ns_in old) (ns_in new) → Stands new (free_name d) t → HasShape d new t
shape_stays d old new s t h names st = record {
  nodes = record {
    table = st.table;
    forms = λ k u. let v = sym (names.used k) ∙ u in ap (has_form d) (names.names k v) ∙ h.nodes.forms k v;
    free = named_stays (ns_in old) (ns_in new) _ names h.nodes.free;
    indexes = named_stays (ns_in old) (ns_in new) _ names h.nodes.indexes;
  };
  stands = st;
}
