-- A collection stays where its records stay, those of its indexes, and the record and the pair of each.
use Rattle.std.proofs.Common.{ℕ, List, [], ◌∷◌, sym, ◌∙◌, ap, subst}
use Rattle.std.specs.List.{AllByRecursion}
use Rattle.mm_frames.specs.declared.index_pair.IndexPair.{IndexPair}
use Rattle.mm_ranges.specs.Overlay.{Image}
use Rattle.mm_records.specs.Shape.{Shape}
use Rattle.mm_model.specs.Database.{Index, Collection}
use Rattle.mm_model.specs.Keyed.{namespace, full_name}
use Rattle.mm_check.specs.NodeQuestions.{indexes_name}
use Rattle.mm_standing.specs.Documents.{Laid, IsLaid, Holds}
use Rattle.mm_standing.specs.Indexes.{IsNodeOf, HasIndexAt, items}
use Rattle.mm_standing.specs.Database.{HasCollection, index_at}
use Rattle.mm_standing.specs.Staying.{SameRecords, BothStand, SamePair, SameCollection}
use Rattle.mm_standing.proofs.IndexStays.{index_stays}

-- ---- the documents

module _ (s t : Shape) (name : List ℕ) (same : SameRecords s t name) where
  pub laid_stays : (l : Laid) → IsLaid s name l → IsLaid t name l
  laid_stays l x = record { room = x.room; live = same l.at ∙ x.live; begins = x.begins }

  all_stay : (ls : List Laid) → AllByRecursion (IsLaid s name) ls → AllByRecursion (IsLaid t name) ls
  all_stay [] x = x
  all_stay (l ∷ ls) x = (laid_stays l x.0, all_stay ls x.1)

  pub holds_stays : (ls : List Laid) → Holds s name ls → Holds t name ls
  holds_stays ls h = record { laid = all_stay ls h.laid; apart = h.apart; all = λ p room e. h.all p room (sym (same p) ∙ e) }

-- ---- the nodes and the indexes

module _ (old new : Image) (free : List ℕ) (s t : Shape) (b : BothStand old new free s t) where
  pub node_named : (node : ℕ) (name : List ℕ) → IsNodeOf old node name → IsNodeOf new node name
  node_named node name n = record { used = b.names.used node ∙ n.used; named = b.names.names node n.used ∙ n.named }

  pub index_at_stays : (indexes ns : List ℕ) (owner position : ℕ) (index : Index) (ls : List Laid) → SameRecords s t indexes → SameRecords s t (full_name ns index)
      → SamePair old new owner position → HasIndexAt old s indexes ns owner position index ls → HasIndexAt new t indexes ns owner position index ls
  index_at_stays indexes ns owner position index ls listed same k x = record {
    specified = x.specified;
    node = x.node;
    is_node = node_named x.node (full_name ns index) x.is_node;
    at = x.at;
    recorded = laid_stays s t indexes listed _ x.recorded;
    info = ap (λ (q : IndexPair). q.info) k.pair ∙ x.info;
    lists = index_stays old new free s t b x.node owner position index.spec (items index.spec ls) x.lists (subst (SameRecords s t) (sym x.is_node.named) same) k;
  }

  pub collection_stays : (d coll : List ℕ) (c : Collection) (h : HasCollection d old s coll c) → SameCollection d s t coll c → ((i : ℕ) → SamePair old new h.node i) → HasCollection d new t coll c
  collection_stays d coll c h same k = record {
    node = h.node;
    is_node = node_named h.node (namespace d coll) h.is_node;
    laid = h.laid;
    holds = holds_stays s t (namespace d coll) same.documents h.laid h.holds;
    documents = h.documents;
    id_first = h.id_first;
    count = (k 0).number ∙ h.count;
    indexes = λ i lt. index_at_stays (indexes_name d) (namespace d coll) h.node i (index_at c i) h.laid same.listed (same.indexes i lt) (k i) (h.indexes i lt);
  }
