-- An index stays where the records of its node stay, and the pair that names its root.
use Rattle.std.proofs.Common.{◌≡◌, ℕ, ℤ, pos, ◌<ℤ◌, List, Option, sym, ◌∙◌, ap, subst}
use Rattle.mm_base.specs.declared.place.DiskLoc.{DiskLoc}
use Rattle.mm_frames.specs.declared.index_pair.IndexPair.{IndexPair}
use Rattle.mm_bson.specs.Tree.{Elements}
use Rattle.mm_ranges.specs.Overlay.{Image}
use Rattle.mm_links.specs.Links.{Place}
use Rattle.mm_records.specs.Shape.{Shape}
use Rattle.mm_records.specs.Stands.{Stands, IsNode}
use Rattle.mm_records.specs.Map.{live_at, name_at}
use Rattle.mm_btree.specs.Nodes.{Item, Buckets}
use Rattle.mm_btree.specs.Order.{item_lt}
use Rattle.mm_btree.specs.Changes.{IsTree}
use Rattle.mm_trees.specs.Walked.{spot_in}
use Rattle.mm_trees.specs.Roots.{root_in}
use Rattle.mm_trees.specs.Buckets.{Holds, bucket_in, shown_there}
use Rattle.mm_trees.specs.Indexes.{HasIndex}
use Rattle.mm_trees.proofs.Showing.{bucket_is}
use Rattle.mm_standing.specs.Staying.{SameRecords, BothStand, SamePair}
use Rattle.mm_standing.proofs.OneRoom.{one_free, one_room}

-- a node that isn't of the free chain isn't so afterwards
pub node_stays : (old new : Image) (free : List ℕ) (s t : Shape) → BothStand old new free s t → (node : ℕ) → IsNode old free node → IsNode new free node
node_stays old new free s t b node n = record { used = b.names.used node ∙ n.used; isnt_free = λ e. n.isnt_free (sym (b.names.names node n.used) ∙ e) }

-- Where files stand in a shape, the node of an index holds buckets in it, and the node of its collection isn't of the free chain.
module _ (image : Image) (free : List ℕ) (s : Shape) (st : Stands image free s) (node owner position : ℕ) (spec : Elements) (pairs : List Item) (x : HasIndex image node owner position spec pairs) where
  is_free : x.free ≡ free
  is_free = one_free image free x.free s x.shape st x.holds.stands

  held : Holds image free x.shape node
  held = subst (λ (f : List ℕ). Holds image f x.shape node) is_free x.holds

  pub holds_in : Holds image free s node
  holds_in = record {
    stands = st;
    is_node = held.is_node;
    rooms = λ p room e. held.rooms p room (sym (one_room image free s x.shape st held.stands node held.is_node p) ∙ e);
  }

  pub owner_in : IsNode image free owner
  owner_in = subst (λ (f : List ℕ). IsNode image f owner) is_free x.owner_is

module _ (old new : Image) (free : List ℕ) (s t : Shape) (b : BothStand old new free s t) (node owner position : ℕ) (spec : Elements) (pairs : List Item)
    (x : HasIndex old node owner position spec pairs) (same : SameRecords s t (name_at old node)) (k : SamePair old new owner position) where
  holds_old : Holds old free s node
  holds_old = holds_in old free s b.before node owner position spec pairs x

  same_name : name_at new node ≡ name_at old node
  same_name = b.names.names node holds_old.is_node.used

  same_rooms : (p : Place) → live_at t (name_at new node) p ≡ live_at s (name_at old node) p
  same_rooms p = ap (λ (m : List ℕ). live_at t m p) same_name ∙ same p

  holds_new : Holds new free t node
  holds_new = record {
    stands = b.after;
    is_node = node_stays old new free s t b node holds_old.is_node;
    rooms = λ p room e. holds_old.rooms p room (sym (same_rooms p) ∙ e);
  }

  buckets_stay : (at : DiskLoc) → bucket_in new node at ≡ bucket_in old node at
  buckets_stay at =
      bucket_is new free t node holds_new at ∙ ap (λ (rooms : Place → Option (List ℕ)). shown_there rooms (spot_in at)) (λ i p. same_rooms p i)
      ∙ sym (bucket_is old free s node holds_old at)

  same_root : root_in new owner position ≡ root_in old owner position
  same_root = ap (λ (q : IndexPair). q.head) k.pair

  tree_stays : IsTree (item_lt spec) (bucket_in new node) (root_in new owner position) x.height x.s
  tree_stays = subst (λ (m : Buckets). IsTree (item_lt spec) m (root_in new owner position) x.height x.s) (λ i at. sym (buckets_stay at) i)
      (subst (λ (r : DiskLoc). IsTree (item_lt spec) (bucket_in old node) r x.height x.s) (sym same_root) x.tree)

  pub index_stays : HasIndex new node owner position spec pairs
  index_stays = record {
    free = free;
    shape = t;
    holds = holds_new;
    owner_is = node_stays old new free s t b owner (owner_in old free s b.before node owner position spec pairs x);
    inside = x.inside;
    counted = subst (λ (n : ℤ). pos position <ℤ n) (sym k.number) x.counted;
    height = x.height;
    s = x.s;
    tree = tree_stays;
    listed = x.listed;
    whole = λ at out. buckets_stay at ∙ x.whole at out;
  }
