-- What is owed where a new root is put over two buckets, and what is left.
use Rattle.std.proofs.Common.{◌≡◌, ℕ, ◌+◌, ◌≤◌, List, [], ◌∷◌, insert, Option, Some, None, IsSome, Bool, true, false, ◌||◌, cond, inr, refl, sym, ap, ◌∙◌, subst, arith}
use Rattle.std.proofs.lemmas.Bool.{or_parts}
use Rattle.mm_base.specs.Places.{null}
use Rattle.mm_base.specs.declared.place.DiskLoc.{DiskLoc}
use Rattle.mm_bucket.specs.Pairs.{Pair, Contents, size}
use Rattle.mm_bucket.specs.Rules.{children, AreAlike}
use Rattle.mm_btree.specs.Nodes.{Item, Node, Buckets, place_eq, node_of, put, with_parent}
use Rattle.mm_btree.specs.Lists.{has}
use Rattle.mm_btree.specs.Changes.{Up, adopted, AreThere, rooted_map, IsMade}
use Rattle.mm_btree.proofs.Places.{place_eq-true, place_eq-is}
use Rattle.mm_btree.proofs.Edits.{same_node, kids_none, kids_all}
use Rattle.mm_btree.proofs.Steps.{put_there}

pub root_ready : (m n : Buckets) (root r : DiskLoc) (u : Up) (b : Node) → b ≡ record { parent = null; pairs = u.mid ∷ []; kids = root ∷ u.right ∷ [] } → AreThere m (root ∷ u.right ∷ [])
    → ((q : DiskLoc) → n q ≡ put m r (Some b) q) → AreThere n b.kids
root_ready m n root r u b is there same q h =
    subst IsSome (sym (same q)) (put_there m r q b (there q (subst (λ (c : Node). has q c.kids ≡ true) is h)))

pub root_done : (m n o : Buckets) (root r : DiskLoc) (u : Up) (b : Node) → b ≡ record { parent = null; pairs = u.mid ∷ []; kids = root ∷ u.right ∷ [] }
    → ((q : DiskLoc) → n q ≡ put m r (Some b) q) → ((q : DiskLoc) → o q ≡ adopted n b.kids r q) → (q : DiskLoc) → o q ≡ rooted_map m r root u q
root_done m n o root r u b is same next q =
    next q
    ∙ (ap (λ (z : Option Node). cond (has q b.kids) (with_parent r z) z) (same q)
    ∙ ap (λ (c : Node). adopted (put m r (Some c)) c.kids r q) is)

-- ---- the bucket that is to be the root

abbrev pub root : DiskLoc → Item → DiskLoc → Contents
root left mid right = record { parent = null; pairs = record { left = left; rec = mid.rec; key = mid.key } ∷ []; next = right }

pub over_is : (a b c : Contents) (left r rec : DiskLoc) (key : List ℕ) (u : Up) → a ≡ record { parent = null; pairs = []; next = null } → b ≡ record a { next = r }
    → c ≡ record b { pairs = insert b.pairs 0 (record { left = left; rec = rec; key = key }) } → key ≡ u.mid.key → rec ≡ u.mid.rec → r ≡ u.right → c ≡ root left u.mid u.right
over_is a b c left r rec key u is next more ke re ri =
    more
    ∙ (ap (λ (z : Contents). record z { pairs = insert z.pairs 0 (record { left = left; rec = rec; key = key }) }) (next ∙ ap (λ (z : Contents). record z { next = r }) is)
    ∙ (λ i. record { parent = null; pairs = record { left = left; rec = re i; key = ke i } ∷ []; next = ri i }))

pub over_node : (c : Contents) (left : DiskLoc) (u : Up) → c ≡ root left u.mid u.right → (u.right ≡ null → ⊥) → node_of c ≡ record { parent = null; pairs = u.mid ∷ []; kids = left ∷ u.right ∷ [] }
over_node c left u is f =
    ap node_of is
    ∙ same_node (node_of (root left u.mid u.right)) (record { parent = null; pairs = u.mid ∷ []; kids = left ∷ u.right ∷ [] }) refl refl (kids_all (root left u.mid u.right) f)

pub over_alike : (c : Contents) (left : DiskLoc) (u : Up) → c ≡ root left u.mid u.right → (left ≡ null → ⊥) → (u.right ≡ null → ⊥) → AreAlike (children c)
over_alike c left u is f g = subst (λ (z : Contents). AreAlike (children z)) (sym is) (inr (f, (g, tt)))

pub over_fits : (a b : Contents) (r : DiskLoc) (n : ℕ) → a ≡ record { parent = null; pairs = []; next = null } → b ≡ record a { next = r } → n ≤ 1024 → size b.pairs + (18 + n) ≤ 8152
over_fits a b r n is next short =
    let none : b.pairs ≡ [] = ap (λ (z : Contents). z.pairs) next ∙ ap (λ (z : Contents). z.pairs) is in
    subst (λ (ps : List Pair). size ps + (18 + n) ≤ 8152) (sym none) (omega (arith, short))

-- ---- a tree without pairs

pub made : (m n : Buckets) (at : DiskLoc) (b : Contents) → b ≡ record { parent = null; pairs = []; next = null } → m at ≡ None → ((q : DiskLoc) → n q ≡ put m at (Some (node_of b)) q) → IsMade m n at
made m n at b is free same = record {
  tree = λ lt. record {
    here = refl;
    stands = ([], [], record { bucket = same at ∙ rw (place_eq-is at at refl) (ap (λ (c : Node). Some c) node); pairs = refl; places = refl; some = omega arith }, refl);
    apart = (refl, tt);
    order = tt;
  };
  moved = record {
    others = λ q o w. same q ∙ rw (or_parts (place_eq q at) false w).0 refl;
    fresh = λ q o w. subst (λ (z : DiskLoc). m z ≡ None) (sym (place_eq-true q at (one (place_eq q at) w))) free;
    gone = λ q o w. absurd cc;
  };
}
  where
    node : node_of b ≡ record { parent = null; pairs = []; kids = [] }
    node = ap node_of is ∙ same_node (node_of (record { parent = null; pairs = []; next = null })) (record { parent = null; pairs = []; kids = [] }) refl refl (kids_none (record { parent = null; pairs = []; next = null }) refl)

    one : (t : Bool) → (t || false) ≡ true → t ≡ true
    one true e = refl
    one false e = e
