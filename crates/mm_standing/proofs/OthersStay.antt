-- A change of one collection leaves the others.
use Rattle.std.proofs.Common.{◌≡◌, ◌≢◌, ℕ, inl, inr, List, Some, sym, ◌∙◌, ap}
use Rattle.std.specs.FinMap.{get}
use Rattle.mm_ranges.specs.Overlay.{Image}
use Rattle.mm_frames.specs.declared.details.Details.{Details}
use Rattle.mm_nstable.specs.Nodes.{SameNames, node_at, details_in}
use Rattle.mm_records.specs.Constants.{constants_of}
use Rattle.mm_records.specs.Shape.{Shape}
use Rattle.mm_records.specs.Stands.{ns_in}
use Rattle.mm_trees.specs.Roots.{pair_of}
use Rattle.mm_model.specs.Database.{Collection, Database}
use Rattle.mm_model.specs.Keyed.{namespace, full_name}
use Rattle.mm_check.specs.NodeQuestions.{free_name}
use Rattle.mm_check.specs.Standing.{HasShape}
use Rattle.mm_standing.specs.Database.{HasCollection, HasDatabase, index_at}
use Rattle.mm_standing.specs.Staying.{BothStand, SamePair, SameCollection, IsOf, LeavesAllBut}
use Rattle.mm_standing.specs.Laws.{OthersStay}
use Rattle.mm_standing.proofs.CollectionStays.{collection_stays}
use Rattle.mm_standing.proofs.PlainNames.{plain, one_coll, coll_or_index, one_owner}

-- details that differ in what records, extents and deleted lists change alone
pub pair_stays : (old new : Image) (node : ℕ) → constants_of (details_in (node_at (ns_in new) node)) ≡ constants_of (details_in (node_at (ns_in old) node)) → (position : ℕ) → SamePair old new node position
pair_stays old new node e position = record { pair = ap (λ (x : Details). pair_of x position) e; number = ap (λ (x : Details). x.n_indexes) e }

module _ (d : List ℕ) (old : Image) (db : Database) (h : HasDatabase d old db) (coll : List ℕ) (one : Collection) (there : get db coll ≡ Some one)
    (other : List ℕ) (c : Collection) (is : get db other ≡ Some c) (ne : other ≢ coll) where
  isnt_of : IsOf d coll one (namespace d other) → ⊥
  isnt_of (inl e) = ne (one_coll d other coll e)
  isnt_of (inr x) = coll_or_index d other coll (index_at one x.0) (plain d old db h other c is) x.2

  index_isnt_of : (i : ℕ) → IsOf d coll one (full_name (namespace d other) (index_at c i)) → ⊥
  index_isnt_of i (inl e) = coll_or_index d coll other (index_at c i) (plain d old db h coll one there) (sym e)
  index_isnt_of i (inr x) = ne (one_owner d other coll (index_at c i) (index_at one x.0) (plain d old db h other c is) (plain d old db h coll one there) x.2)

  pub other_stays : (new : Image) (t : Shape) → HasShape d new t → SameNames (ns_in old) (ns_in new) → LeavesAllBut d old new h.shape t coll one → HasCollection d new t other c
  other_stays new t stands names left =
      let x = h.collections other c is in
      let b : BothStand old new (free_name d) h.shape t = record { before = h.points.stands; after = stands.stands; names = names } in
      let same : SameCollection d h.shape t other c = record {
        documents = left.records (namespace d other) isnt_of;
        indexes = λ i lt. left.records (full_name (namespace d other) (index_at c i)) (index_isnt_of i);
        listed = left.listed;
      } in
      let k = left.constants x.node x.is_node.used (λ e. ne (one_coll d other coll (sym x.is_node.named ∙ e))) in
      collection_stays old new (free_name d) h.shape t b d other c x same (pair_stays old new x.node k)

pub others_stay : OthersStay
others_stay d old new db h t stands names coll one there left other c is ne = other_stays d old db h coll one there other c is ne new t stands names left
