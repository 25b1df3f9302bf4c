-- What is owed where the two parts of a bucket are written, and what is left.
use Rattle.std.proofs.Common.{◌≡◌, ℕ, suc, ◌+◌, List, length, remove, Some, None, sym, ◌∙◌, subst}
use Rattle.mm_base.specs.declared.place.DiskLoc.{DiskLoc}
use Rattle.mm_bucket.specs.Pairs.{Contents, pair_at, IsParted}
use Rattle.mm_bucket.specs.Rules.{children, AreAlike}
use Rattle.mm_btree.specs.Nodes.{Buckets, item_of, node_of, put}
use Rattle.mm_btree.specs.Changes.{Up, adopted, AreThere, IsSettled, IsSplit}
use Rattle.mm_btree.proofs.Parting.{split_is, split_alike}
use Rattle.mm_btree.proofs.Steps.{ready, settled_parts}

is_split : (w l k c : Contents) (last : ℕ) → IsParted w l c → last + 1 ≡ length l.pairs → AreAlike (children w) → k ≡ record l { pairs = remove l.pairs last } → IsSplit (node_of w) (node_of k) (item_of (pair_at l.pairs last)) (node_of c)
is_split w l k c last p q a e = subst (λ (x : Contents). IsSplit (node_of w) (node_of x) (item_of (pair_at l.pairs last)) (node_of c)) (sym e) (split_is w l c last p q a)

pub left_alike : (w l k c : Contents) (last : ℕ) → IsParted w l c → last + 1 ≡ length l.pairs → AreAlike (children w) → k ≡ record l { pairs = remove l.pairs last } → AreAlike (children k)
left_alike w l k c last p q a e = subst (λ (x : Contents). AreAlike (children x)) (sym e) (split_alike w l c last p q a).0

pub right_alike : (w l c : Contents) (last : ℕ) → IsParted w l c → last + 1 ≡ length l.pairs → AreAlike (children w) → AreAlike (children c)
right_alike w l c last p q a = (split_alike w l c last p q a).1

pub right_ready : (m n o : Buckets) (at r : DiskLoc) (w l k c : Contents) (last : ℕ) → IsParted w l c → last + 1 ≡ length l.pairs → AreAlike (children w) → AreThere m (node_of w).kids → k ≡ record l { pairs = remove l.pairs last }
    → ((q : DiskLoc) → n q ≡ put m r (Some (node_of c)) q) → ((q : DiskLoc) → o q ≡ put n at (Some (node_of k)) q) → AreThere o (node_of c).kids
right_ready m n o at r w l k c last p q a there e one two =
    let s = is_split w l k c last p q a e in
    ready m n o (node_of w).kids (node_of c).kids (suc (length (node_of k).pairs)) at r (node_of c) (node_of k) there s.right one two

pub part_done : (m n o z : Buckets) (at r : DiskLoc) (w l k c : Contents) (last : ℕ) (u : Up) (key : List ℕ) (rec : DiskLoc) → IsParted w l c → last + 1 ≡ length l.pairs → AreAlike (children w) → k ≡ record l { pairs = remove l.pairs last }
    → m r ≡ None → ((q : DiskLoc) → n q ≡ put m r (Some (node_of c)) q) → ((q : DiskLoc) → o q ≡ put n at (Some (node_of k)) q) → ((q : DiskLoc) → z q ≡ adopted o (node_of c).kids r q)
    → u ≡ record { mid = record { key = key; rec = rec }; right = r } → key ≡ (pair_at l.pairs last).key → rec ≡ (pair_at l.pairs last).rec → IsSettled m z at (node_of w) (Some u)
part_done m n o z at r w l k c last u key rec p q a e free one two three is ke re =
    let same : u ≡ record { mid = item_of (pair_at l.pairs last); right = r } = is ∙ (λ i. record { mid = record { key = ke i; rec = re i }; right = r }) in
    subst (λ (v : Up). IsSettled m z at (node_of w) (Some v)) (sym same)
    (settled_parts m n o z at r (node_of w) (node_of k) (node_of c) (item_of (pair_at l.pairs last)) (is_split w l k c last p q a e) free one two three)
