-- An index as a view of its draft has it.
use Rattle.std.proofs.Common.{◌≡◌, ℕ, List, sym, subst}
use Rattle.mm_base.specs.declared.place.DiskLoc.{DiskLoc}
use Rattle.mm_bson.specs.Tree.{Elements}
use Rattle.mm_views.specs.State.{Drafting}
use Rattle.mm_btree.specs.Nodes.{Item, Buckets}
use Rattle.mm_btree.specs.Trees.{Sub}
use Rattle.mm_btree.specs.Order.{item_lt}
use Rattle.mm_btree.specs.Changes.{IsTree}
use Rattle.mm_trees.specs.Buckets.{bucket_in}
use Rattle.mm_trees.specs.Roots.{root_in}
use Rattle.mm_trees.specs.Indexes.{HasIndex, IsRooted}

pub rooted : (spec : Elements) (m : Buckets) (root : DiskLoc) (h : ℕ) (s : Sub) → IsTree (item_lt spec) m root h s → IsRooted m root h s
rooted spec m root h s t = record { here = t.here; stands = t.stands; apart = t.apart }

-- a tree at the height that was found
pub at_height : (spec : Elements) (m : Buckets) (root : DiskLoc) (n h : ℕ) (s : Sub) → ((h : ℕ) (s : Sub) → IsRooted m root h s → n ≡ h) → IsTree (item_lt spec) m root h s → IsTree (item_lt spec) m root n s
at_height spec m root n h s is t = subst (λ (k : ℕ). IsTree (item_lt spec) m root k s) (sym (is h s (rooted spec m root h s t))) t

module _ (d : Drafting) (v : Drafting × (ℕ × ℕ)) (node owner position : ℕ) (spec : Elements) (root : DiskLoc) (e : v ≡ (d, (node, 0))) (f : root ≡ root_in d.image owner position) where
  -- the tree, as the view shows it
  pub seen_tree : (pairs : List Item) (x : HasIndex d.image node owner position spec pairs) → IsTree (item_lt spec) (bucket_in v.0.image v.1.0) root x.height x.s
  seen_tree pairs x =
      subst (λ (r : DiskLoc). IsTree (item_lt spec) (bucket_in v.0.image v.1.0) r x.height x.s) (sym f)
      (subst (λ (w : Drafting × (ℕ × ℕ)). IsTree (item_lt spec) (bucket_in w.0.image w.1.0) (root_in d.image owner position) x.height x.s) (sym e) x.tree)

  pub seen_root : (pairs : List Item) → HasIndex d.image node owner position spec pairs → (h : ℕ) × ((s : Sub) × IsRooted (bucket_in v.0.image v.1.0) root h s)
  seen_root pairs x = (x.height, (x.s, rooted spec (bucket_in v.0.image v.1.0) root x.height x.s (seen_tree pairs x)))

  -- at the height that was found
  module _ (n : ℕ) (is : (h : ℕ) (s : Sub) → IsRooted (bucket_in v.0.image v.1.0) root h s → n ≡ h) where
    pub seen_high : (pairs : List Item) (x : HasIndex d.image node owner position spec pairs) → IsTree (item_lt spec) (bucket_in v.0.image v.1.0) root n x.s
    seen_high pairs x = at_height spec (bucket_in v.0.image v.1.0) root n x.height x.s is (seen_tree pairs x)
