-- What a store has done, seen on the draft that was lent to it.
use Rattle.std.proofs.Common.{◌≡◌, ℕ, zero, suc, ◌+◌, ◌*◌, ◌≤◌, Bool, false, List, Option, None, IsSome, cond, refl, sym, ap, subst, arith}
use Rattle.std.specs.Prelude.{Result, IfOk, OnOk}
use Rattle.std.proofs.lemmas.Result.{IfOk-weaker}
use Rattle.mm_base.specs.Places.{null}
use Rattle.mm_base.specs.declared.place.DiskLoc.{DiskLoc}
use Rattle.mm_bson.specs.Tree.{Elements}
use Rattle.mm_views.specs.State.{Drafting}
use Rattle.mm_extents.specs.Changes.{DeclaresAtMost}
use Rattle.mm_records.specs.Shape.{Shape}
use Rattle.mm_records.specs.Map.{name_at}
use Rattle.mm_records.proofs.Serving.{shorter}
use Rattle.mm_btree.specs.Nodes.{Item, Buckets}
use Rattle.mm_btree.specs.Trees.{Sub, Stands}
use Rattle.mm_btree.specs.Lists.{ins}
use Rattle.mm_btree.specs.Order.{item_lt, IsLacking}
use Rattle.mm_btree.specs.Changes.{IsTree, IsChanged, root_after}
use Rattle.mm_btree.specs.Removal.{without}
use Rattle.mm_trees.specs.Buckets.{Holds, Goes, IsFull, IsScarce, bucket_in}
use Rattle.mm_trees.specs.Costs.{most_places}
use Rattle.mm_trees.specs.Kept.{Kept, IsKept, bucket_of, is_full_of, asked_of, weight_of, start_of}
use Rattle.mm_trees.specs.Changes.{OfHeight, IsPutIn, IsTaken}
use Rattle.mm_trees.proofs.Steps.{goes_more}
use Rattle.mm_trees.proofs.Finding.{rooted}
use Rattle.mm_trees.proofs.Levels.{low_trees}
use Rattle.mm_trees.proofs.Keeping.{is_whole}

-- what follows of an answer
pub on_of : {A E : Type 0} (r : Result A E) (P : A → Type 0) (Q : Type 0) → ((a : A) → P a → Q) → IfOk r P → OnOk r Q
on_of r P Q f h = IfOk-weaker r P (λ _. Q) f h

tree_there : (m : Buckets) (up : DiskLoc) (least h : ℕ) (s : Sub) → Stands m up least h s → IsSome (m s.at)
tree_there m up least zero s t = subst IsSome (sym t.2.bucket) refl
tree_there m up least (suc h) s t = subst IsSome (sym t.2.bucket) refl

-- a store with a tree is whole
pub whole_of : (lt : Item → Item → Bool) (k : Kept) (root : DiskLoc) (h : ℕ) (s : Sub) → IsTree lt (bucket_of k) root h s → k.broken ≡ false
whole_of lt k root h s t = is_whole k s.at (tree_there (bucket_of k) null _ h s t.stands)

-- the buckets of the draft
pub buckets_are : (k : Kept) (node : ℕ) → k.broken ≡ false → k.node ≡ node → bucket_of k ≡ bucket_in k.draft.image node
buckets_are k node e f = λ i q. cond (e i) None (bucket_in k.draft.image (f i) q)

module _ (d : Drafting) (node : ℕ) (k : Kept) (b : Bool) (stays : start_of k ≡ start_of (record { draft = d; node = node; broken = b; start = d; asked = 0 })) where
  pub same_node : k.node ≡ node
  same_node = ap (λ (x : Drafting × ℕ). x.1) stays

  same_start : k.start ≡ d
  same_start = ap (λ (x : Drafting × ℕ). x.0) stays

  pub goes_from : IsKept k → k.broken ≡ false → Goes d.image k.draft.image node k.asked
  goes_from i e =
      subst (λ (x : Drafting × ℕ). Goes x.0.image k.draft.image x.1 k.asked) stays (i e).goes

  pub full_from : is_full_of k → IsFull d.image k.draft.image node
  full_from f = subst (λ (x : Drafting × ℕ). IsFull x.0.image k.draft.image x.1) stays f.0

  pub scarce_from : is_full_of k → IsScarce d.image node k.asked
  scarce_from f = subst (λ (x : Drafting × ℕ). IsScarce x.0.image x.1 k.asked) stays f.1

  -- a pair was put in
  pub put_seen : (spec : Elements) (root : DiskLoc) (x : Item) (r : Option DiskLoc) → IsPutIn spec (bucket_in d.image node) (bucket_of k) root x r → IsPutIn spec (bucket_in d.image node) (bucket_in k.draft.image node) root x r
  put_seen spec root x r f h s t l =
      let y = f h s t l in
      let e = whole_of (item_lt spec) k (root_after root r) y.0 y.1.0 y.1.1.tree in
      (y.0, (y.1.0, subst (λ (m : Buckets). IsChanged (item_lt spec) (bucket_in d.image node) m (root_after root r) y.0 s (ins (item_lt spec) x s.pairs) y.1.0) (buckets_are k node e same_node) y.1.1))

  pub put_whole : (spec : Elements) (root : DiskLoc) (x : Item) (r : Option DiskLoc) (h : ℕ) (s : Sub) → IsTree (item_lt spec) (bucket_in d.image node) root h s → IsLacking spec x s.pairs
      → IsPutIn spec (bucket_in d.image node) (bucket_of k) root x r → k.broken ≡ false
  put_whole spec root x r h s t l f = let y = f h s t l in whole_of (item_lt spec) k (root_after root r) y.0 y.1.0 y.1.1.tree

  -- a pair was taken out
  pub taken_seen : (spec : Elements) (root after : DiskLoc) (x : Item) → IsTaken spec (bucket_in d.image node) (bucket_of k) root x after → IsTaken spec (bucket_in d.image node) (bucket_in k.draft.image node) root x after
  taken_seen spec root after x f h s t =
      let y = f h s t in
      let e = whole_of (item_lt spec) k after y.0 y.1.0 y.1.1.tree in
      (y.0, (y.1.0, subst (λ (m : Buckets). IsChanged (item_lt spec) (bucket_in d.image node) m after y.0 s (without spec x s.pairs) y.1.0) (buckets_are k node e same_node) y.1.1))

  pub taken_whole : (spec : Elements) (root after : DiskLoc) (x : Item) (h : ℕ) (s : Sub) → IsTree (item_lt spec) (bucket_in d.image node) root h s → IsTaken spec (bucket_in d.image node) (bucket_of k) root x after → k.broken ≡ false
  taken_whole spec root after x h s t f = let y = f h s t in whole_of (item_lt spec) k after y.0 y.1.0 y.1.1.tree

  -- so many places were asked for, and so much was declared, by the height of the tree
  module _ (spec : Elements) (root : DiskLoc) (made : Kept) (e : made ≡ record { draft = d; node = node; broken = false; start = d; asked = 0 }) where
    pub few_asked : (most : ℕ → ℕ) → OfHeight spec (bucket_of made) root (λ h. asked_of k ≤ asked_of made + most h) → (free : List ℕ) (s : Shape) → Holds d.image free s node
        → (h : ℕ) (u : Sub) → IsTree (item_lt spec) (bucket_in d.image node) root h u → ((n : ℕ) → n ≤ 14 → most n ≤ most_places) → k.asked ≤ most_places
    few_asked most f free s holds h u t le =
        let few = subst (λ (x : Kept). OfHeight spec (bucket_of x) root (λ n. asked_of k ≤ asked_of x + most n)) e f h u t in
        let low = le h (low_trees d.image free s node holds root h u (rooted spec (bucket_in d.image node) root h u t)) in
        omega (arith, few, low)

    pub weight_by : (most : ℕ → ℕ) → OfHeight spec (bucket_of made) root (λ h. weight_of k ≤ weight_of made + most h)
        → (n : Drafting) → n ≡ k.draft → OfHeight spec (bucket_in d.image node) root (λ h. DeclaresAtMost (most h) d n)
    weight_by most f n i h u t =
        subst (λ (x : Drafting). DeclaresAtMost (most h) d x) (sym i) (subst (λ (x : Kept). OfHeight spec (bucket_of x) root (λ n. weight_of k ≤ weight_of x + most n)) e f h u t)

  pub goes_few : IsKept k → k.broken ≡ false → k.asked ≤ most_places → Goes d.image k.draft.image node most_places
  goes_few i w le = goes_more d.image k.draft.image node k.asked most_places le (goes_from i w)

  pub scarce_few : is_full_of k → k.asked ≤ most_places → IsScarce d.image node most_places
  scarce_few f le free s h b = scarce_from f free s h (shorter s (name_at d.image node) (8208 * most_places) (8208 * k.asked) (omega (arith, le)) b)
