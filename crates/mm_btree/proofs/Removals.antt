-- A bucket that has lost a pair is written; a child that has no pairs is joined with a neighbour.
use Rattle.std.proofs.Common.{◌≡◌, ◌≢◌, ℕ, zero, suc, ◌<◌, ◌≤◌, Bool, true, false, ◌||◌, List, [], ◌∷◌, ◌++◌, length, map, take, drop, get_or, insert, remove, Option, Some, None, IsSome, refl, sym, ap, ◌∙◌, subst, arith, append_assoc}
use Rattle.std.proofs.lemmas.Bool.{or_parts, false_from_ne_true}
use Rattle.std.proofs.lemmas.List.{length-map, length-append, map-append, append-nil, take-append-drop, length-take-le, length-drop}
use Rattle.std.proofs.Math.Seq.{drop-cons}
use Rattle.std.specs.List.{AllByRecursion}
use Rattle.mm_base.specs.declared.place.DiskLoc.{DiskLoc}
use Rattle.mm_btree.specs.Nodes.{Item, Node, Buckets, place_eq, put}
use Rattle.mm_btree.specs.Lists.{front, back, has, Distinct}
use Rattle.mm_btree.specs.Trees.{Sub, at_of, pairs_of, all_places, IsOver, Stands, Below, Moves, Became, Pending, sub, Thinned}
use Rattle.mm_btree.specs.Changes.{Up, AreThere, IsSettled, freed, joined_node, roots_of, between_of}
use Rattle.mm_btree.specs.Removal.{ups, IsWritten, IsLeft, AreNeighbours, up_at, IsJoined, with_item, after_join, Scene, IsAbove, list_above, IsMended}
use Rattle.mm_btree.specs.declared.outcome.Outcome.{Outcome}
use Rattle.mm_btree.specs.declared.outcome.Outcome.TheVariants.{Whole, Thin, Parted}
use Rattle.mm_btree.proofs.Places.{place_eq-is, place_differ}
use Rattle.mm_btree.proofs.ListLaws.{has-append, has-append-right, distinct-apart, distinct-left, distinct-right, distinct-join}
use Rattle.mm_btree.proofs.Frames.{stands, opened, below_same, below_some, stands_same, stands_some}
use Rattle.mm_btree.proofs.Moved.{moves_then, moves_with, moves_trans, places_at}
use Rattle.mm_btree.proofs.Settling.{settled_one}
use Rattle.mm_btree.proofs.Segments.{settled, changed_segment, changed_below, stays_above, kids_more, all_get, cut}
use Rattle.mm_btree.proofs.Joined.{joined, kids_within}

-- ---- a bucket that may be without pairs

pub weaker : (m : Buckets) (up : DiskLoc) (h : ℕ) (s : Sub) → Stands m up 1 h s → Stands m up 0 h s
weaker m up h s t =
    let o = opened m up 1 h s t in
    stands m up 0 h s o.0 o.1 (record { bucket = o.2.bucket; pairs = o.2.pairs; places = o.2.places; some = omega arith }) o.3

written_bare : (m n n2 : Buckets) (up : DiskLoc) (h : ℕ) (s : Sub) (list ps : List Item) (cs : List Sub) → Pending m n s.at h s.places list ps cs → ps ≡ []
    → ((q : DiskLoc) → n2 q ≡ put n s.at (Some (record { parent = up; pairs = ps; kids = map at_of cs })) q) → IsLeft m n2 up h s list Thin
written_bare m n n2 up h s list ps cs p none same =
    let here : n2 s.at ≡ Some (record { parent = up; pairs = ps; kids = map at_of cs }) = same s.at ∙ rw (place_eq-is s.at s.at refl) refl in (
      sub s.at ps cs,
      record {
        at = refl;
        stands =
            stands n2 up 0 h (sub s.at ps cs) ps cs (record { bucket = here; pairs = refl; places = refl; some = omega arith })
            (below_same n n2 s.at h ps cs (λ q k. same q ∙ rw (away q k) refl) p.below);
        apart = p.apart;
        moved = moves_then m n n2 s.places (s.at ∷ all_places cs) (s.at ∷ all_places cs) p.moved (λ q k. same q ∙ rw (or_parts (place_eq q s.at) (has q (all_places cs)) k).0 refl) (λ q k. k) (λ q k l. absurd cc);
      },
      p.woven,
      λ b e. let two = here in let three : b ≡ record { parent = up; pairs = ps; kids = map at_of cs } = cc in ap (λ (c : Node). c.pairs) three ∙ none,
    )
  where
    away : (q : DiskLoc) → has q (all_places cs) ≡ true → place_eq q s.at ≡ false
    away q k = place_differ q s.at (λ e. let two : has s.at (all_places cs) ≡ true = subst (λ (z : DiskLoc). has z (all_places cs) ≡ true) e k in let three = p.apart.0 in cc)

-- a bucket that waited is written: what has become of its subtree
pub written : (m n n2 : Buckets) (up : DiskLoc) (h : ℕ) (s : Sub) (list ps : List Item) (cs : List Sub) → Pending m n s.at h s.places list ps cs → n s.at ≢ None → (r : Outcome)
    → IsWritten n n2 s.at (record { parent = up; pairs = ps; kids = map at_of cs }) r → IsLeft m n2 up h s list r
written m n n2 up h s list ps cs p some Whole w = (sub s.at ps cs ∷ [], settled_one m n n2 up s.at h s.places list ps cs (w.whole refl) p w.settled)
written m n n2 up h s list ps cs p some Thin w = written_bare m n n2 up h s list ps cs p (w.thin refl) w.settled
written m n n2 up h s list ps cs p some (Parted u) w =
    let v = w.settled in
    let long : 1 ≤ length ps = omega (arith, ap length v.2.pairs, length-append v.0 (u.mid ∷ v.1)) in
    settled m n n2 up s.at h s.places list ps cs long p some (Some u) v

-- ---- two neighbours, of which one has no pairs

-- two subtrees have become these two, each at its place
pub record AreTwo (m n : Buckets) (at : DiskLoc) (h : ℕ) (l c l2 c2 : Sub) : Type 0 where
  pub left : Stands n at 0 h l2
  pub right : Stands n at 0 h c2
  pub apart : Distinct (l2.places ++ c2.places)
  pub moved : Moves m n (all_places (l ∷ c ∷ [])) (l2.places ++ c2.places)
  pub left_at : l2.at ≡ l.at
  pub right_at : c2.at ≡ c.at

pair_places : (l c : Sub) → all_places (l ∷ c ∷ []) ≡ l.places ++ c.places
pair_places l c = ap (λ xs. l.places ++ xs) (append-nil c.places)

pub thin_behind : (m n : Buckets) (at : DiskLoc) (h : ℕ) (l c t : Sub) → Stands m at 1 h l → Distinct (l.places ++ c.places) → Thinned m n at h c t → AreTwo m n at h l c l t
thin_behind m n at h l c t s d k =
    let lc = distinct-apart l.places c.places d in
    let lt : (q : DiskLoc) → has q l.places ≡ true → has q t.places ≡ false = λ q e. false_from_ne_true (has q t.places) (λ f. stands_some m at 1 h l s q e (k.moved.fresh q (lc q e) f)) in
    record {
      left = weaker n at h l (stands_same m n at 1 h l (λ q e. k.moved.others q (lc q e) (lt q e)) s);
      right = k.stands;
      apart = distinct-join l.places t.places (distinct-left l.places c.places d) k.apart lt;
      moved = subst (λ (xs : List DiskLoc). Moves m n xs (l.places ++ t.places)) (sym (pair_places l c))
          (moves_with m n c.places t.places (l.places ++ c.places) (l.places ++ t.places) (λ q. has q l.places)
          (λ q. has-append q l.places c.places) (λ q. has-append q l.places t.places) k.moved);
      left_at = refl;
      right_at = k.at;
    }

or_turned : (a b c : Bool) → c ≡ (a || b) → c ≡ (b || a)
or_turned true true c e = e
or_turned true false c e = e
or_turned false true c e = e
or_turned false false c e = e

pub thin_before : (m n : Buckets) (at : DiskLoc) (h : ℕ) (c r t : Sub) → Stands m at 1 h r → Distinct (c.places ++ r.places) → Thinned m n at h c t → AreTwo m n at h c r t r
thin_before m n at h c r t s d k =
    let cr = distinct-apart c.places r.places d in
    let rc : (q : DiskLoc) → has q r.places ≡ true → has q c.places ≡ false = λ q e. false_from_ne_true (has q c.places) (λ f. let two = cr q f in cc) in
    let rt : (q : DiskLoc) → has q r.places ≡ true → has q t.places ≡ false = λ q e. false_from_ne_true (has q t.places) (λ f. stands_some m at 1 h r s q e (k.moved.fresh q (rc q e) f)) in
    let tr : (q : DiskLoc) → has q t.places ≡ true → has q r.places ≡ false = λ q e. false_from_ne_true (has q r.places) (λ f. let two = rt q f in cc) in
    record {
      left = k.stands;
      right = weaker n at h r (stands_same m n at 1 h r (λ q e. k.moved.others q (rc q e) (rt q e)) s);
      apart = distinct-join t.places r.places k.apart (distinct-right c.places r.places d) tr;
      moved = subst (λ (xs : List DiskLoc). Moves m n xs (t.places ++ r.places)) (sym (pair_places c r))
          (moves_with m n c.places t.places (c.places ++ r.places) (t.places ++ r.places) (λ q. has q r.places)
          (λ q. or_turned (has q c.places) (has q r.places) (has q (c.places ++ r.places)) (has-append q c.places r.places))
          (λ q. or_turned (has q t.places) (has q r.places) (has q (t.places ++ r.places)) (has-append q t.places r.places)) k.moved);
      left_at = k.at;
      right_at = refl;
    }

-- the buckets of the two
pub some_there : (n : Buckets) (at : DiskLoc) (h : ℕ) (ps : List Item) (cs : List Sub) → Below n at h ps cs → AreThere n (map at_of cs)
some_there n at h ps cs t q e = by (n q) (below_some n at h ps cs t q (kids_within n at h ps cs t q e))
  where
    by : (o : Option Node) → o ≢ None → IsSome o
    by None f = absurd (f refl)
    by (Some b) f = refl

leaf_both : (n : Buckets) (a b : DiskLoc) (h : ℕ) (ps qs : List Item) (cs ds : List Sub) → Below n a h ps cs → Below n b h qs ds → map at_of cs ≡ [] → map at_of ds ≡ []
leaf_both n a b zero ps qs cs ds t u e = ap (map at_of) u
leaf_both n a b (suc h) ps qs cs ds t u e = absurd (omega (arith, ap length e, length-map cs at_of, t.0))

two_apart : (l c : Sub) (xs ys : List DiskLoc) → Distinct (l.places ++ c.places) → l.places ≡ l.at ∷ xs → c.places ≡ c.at ∷ ys → place_eq l.at c.at ≡ false
two_apart l c xs ys d e f =
    let d2 : Distinct ((l.at ∷ xs) ++ (c.at ∷ ys)) = subst (λ (zs : List DiskLoc). Distinct ((l.at ∷ xs) ++ zs)) f (subst (λ (zs : List DiskLoc). Distinct (zs ++ c.places)) e d) in
    (or_parts (place_eq l.at c.at) (has l.at ys) (has-append-right l.at xs (c.at ∷ ys) d2.0)).0

pub neighbours : (m n : Buckets) (at : DiskLoc) (h : ℕ) (l c l2 c2 : Sub) → AreTwo m n at h l c l2 c2 → (b d : Node) × AreNeighbours n l2.at c2.at b d
neighbours m n at h l c l2 c2 w =
    let a = opened n at 0 h l2 w.left in
    let z = opened n at 0 h c2 w.right in (
      record { parent = at; pairs = a.0; kids = map at_of a.1 },
      record { parent = at; pairs = z.0; kids = map at_of z.1 },
      record {
        left = a.2.bucket;
        right = z.2.bucket;
        apart = two_apart l2 c2 (all_places a.1) (all_places z.1) w.apart a.2.places z.2.places;
        parent = refl;
        leaf = λ e. leaf_both n c2.at l2.at h z.0 a.0 z.1 a.1 z.3 a.3 e;
        inner = λ e. leaf_both n l2.at c2.at h a.0 z.0 a.1 z.1 a.3 z.3 e;
        left_kids = some_there n l2.at h a.0 a.1 a.3;
        right_kids = some_there n c2.at h z.0 z.1 z.3;
      },
    )

-- they were joined: what has become of the two as they stood at first
pub two_joined : (m n o : Buckets) (at : DiskLoc) (h : ℕ) (l c l2 c2 : Sub) (mid : Item) (b d : Node) (r : Option Item) → AreTwo m n at h l c l2 c2 → AreNeighbours n l2.at c2.at b d → IsJoined n o l2.at c2.at b mid d r
    → (ds : List Sub) × Became m o at h (all_places (l ∷ c ∷ [])) (l2.pairs ++ mid ∷ c2.pairs) (roots_of l2.at (up_at c2.at r)) (between_of (up_at c2.at r)) ds
two_joined m n o at h l c l2 c2 mid b d r w k j =
    let a = opened n at 0 h l2 w.left in
    let z = opened n at 0 h c2 w.right in
    let is_b : b ≡ record { parent = at; pairs = a.0; kids = map at_of a.1 } = let one = a.2.bucket in let two = k.left in cc in
    let is_d : d ≡ record { parent = at; pairs = z.0; kids = map at_of z.1 } = let one = z.2.bucket in let two = k.right in cc in
    let n1 = j.0 in
    let free : (q : DiskLoc) → n1 q ≡ freed n l2.at c2.at (map at_of z.1) q = λ q. j.1 q ∙ ap (λ (x : Node). freed n l2.at c2.at x.kids q) is_d in
    let p = joined n n1 at h mid 0 0 l2 c2 a.0 z.0 a.1 z.1 a.2 a.3 z.2 z.3 w.apart free in
    let whole : joined_node b mid d ≡ record { parent = at; pairs = a.0 ++ mid ∷ z.0; kids = map at_of (a.1 ++ z.1) } =
    ap (λ (x : Node). joined_node x mid d) is_b ∙ (ap (λ (y : Node). joined_node (record { parent = at; pairs = a.0; kids = map at_of a.1 }) mid y) is_d
    ∙ ap (λ (xs : List DiskLoc). record { parent = at; pairs = a.0 ++ mid ∷ z.0; kids = xs }) (sym (map-append at_of a.1 z.1))) in
    let there : n1 l2.at ≢ None = λ f. let same : n1 l2.at ≡ Some (record { parent = at; pairs = a.0; kids = map at_of a.1 }) = free l2.at ∙ rw (k.apart, no_kid a z) a.2.bucket in cc in
    let g = settled n n1 o at l2.at h (l2.places ++ c2.places) (l2.pairs ++ mid ∷ c2.pairs) (a.0 ++ mid ∷ z.0) (a.1 ++ z.1) (omega (arith, length-append a.0 (mid ∷ z.0))) p there (up_at c2.at r)
    (subst (λ (x : Node). IsSettled n1 o l2.at x (up_at c2.at r)) whole j.2) in
    (g.0, record { placed = g.1.placed; stand = g.1.stand; pairs = g.1.pairs; apart = g.1.apart; moved = moves_trans m n o (all_places (l ∷ c ∷ [])) (l2.places ++ c2.places) (all_places g.0) w.moved g.1.moved })
  where
    no_kid : (a : (ps : List Item) × (cs : List Sub) × IsOver n at 0 l2 ps cs × Below n l2.at h ps cs) (z : (ps : List Item) × (cs : List Sub) × IsOver n at 0 c2 ps cs × Below n c2.at h ps cs) → has l2.at (map at_of z.1) ≡ false
    no_kid a z =
        let B = all_places z.1 in
        let d2 : Distinct ((l2.at ∷ all_places a.1) ++ (c2.at ∷ B)) = subst (λ (zs : List DiskLoc). Distinct ((l2.at ∷ all_places a.1) ++ zs)) z.2.places (subst (λ (zs : List DiskLoc). Distinct (zs ++ c2.places)) a.2.places w.apart) in
        let out : has l2.at B ≡ false = (or_parts (place_eq l2.at c2.at) (has l2.at B) (has-append-right l2.at (all_places a.1) (c2.at ∷ B) d2.0)).1 in
        false_from_ne_true (has l2.at (map at_of z.1)) (λ e. let two = kids_within n c2.at h z.0 z.1 z.3 l2.at e in cc)

-- ---- the bucket above the two

-- where it is parted: two children in the middle, and the pair between them
pub record AreBetween (ps : List Item) (cs : List Sub) (j : ℕ) (l c : Sub) (mid : Item) : Type 0 where
  pub kids : cs ≡ take j cs ++ ((l ∷ c ∷ []) ++ drop (suc (suc j)) cs)
  pub pairs : ps ≡ take j ps ++ ((mid ∷ []) ++ drop (suc j) ps)
  pub long : length (take j cs) ≡ length (take j ps)
  pub short : length (drop (suc (suc j)) cs) ≡ length (drop (suc j) ps)

pub between_at : (ps : List Item) (cs : List Sub) (j : ℕ) (s : Sub) (x : Item) → length cs ≡ suc (length ps) → j < length ps → AreBetween ps cs j (get_or cs j s) (get_or cs (suc j) s) (get_or ps j x)
between_at ps cs j s x count lt =
    record {
      kids = sym (take-append-drop j cs) ∙ ap (λ ys. take j cs ++ ys) (drop-cons cs j s (omega (arith, count, lt)) ∙ ap (λ ys. get_or cs j s ∷ ys) (drop-cons cs (suc j) s (omega (arith, count, lt))));
      pairs = sym (take-append-drop j ps) ∙ ap (λ ys. take j ps ++ ys) (drop-cons ps j x lt);
      long = length-take-le j cs (omega (arith, count, lt)) ∙ sym (length-take-le j ps (omega (arith, lt)));
      short = omega (arith, length-drop (suc (suc j)) cs, length-drop (suc j) ps, count, lt);
    }

front_one : (cs : List Sub) (ps : List Item) (j : ℕ) (s : Sub) (x : Item) → j < length cs → j < length ps
    → front (map pairs_of (take (suc j) cs)) (take (suc j) ps) ≡ front (map pairs_of (take j cs)) (take j ps) ++ ((get_or cs j s).pairs ++ get_or ps j x ∷ [])
front_one [] ps j s x lt up = absurd (omega (arith, lt))
front_one (c ∷ cs) [] j s x lt up = absurd (omega (arith, up))
front_one (c ∷ cs) (p ∷ ps) zero s x lt up = refl
front_one (c ∷ cs) (p ∷ ps) (suc j) s x lt up =
    ap (λ zs. c.pairs ++ p ∷ zs) (front_one cs ps j s x (omega (arith, lt)) (omega (arith, up)))
    ∙ sym (append_assoc c.pairs (p ∷ front (map pairs_of (take j cs)) (take j ps)) ((get_or cs j s).pairs ++ get_or ps j x ∷ []))

-- the list above, where the second of the two has lost a pair
pub list_behind : (ps : List Item) (cs : List Sub) (j : ℕ) (s : Sub) (x : Item) (mine : List Item) → j < length cs → j < length ps
    → front (map pairs_of (take j cs)) (take j ps) ++ (((get_or cs j s).pairs ++ get_or ps j x ∷ mine) ++ back (map pairs_of (drop (suc (suc j)) cs)) (drop (suc j) ps)) ≡ list_above ps cs (suc j) mine
list_behind ps cs j s x mine lt up =
    let F = front (map pairs_of (take j cs)) (take j ps) in
    let B = back (map pairs_of (drop (suc (suc j)) cs)) (drop (suc j) ps) in
    let l = (get_or cs j s).pairs in
    let p = get_or ps j x in
    ap (λ zs. F ++ zs) (append_assoc l (p ∷ mine) B ∙ sym (append_assoc l (p ∷ []) (mine ++ B)))
    ∙ (sym (append_assoc F (l ++ p ∷ []) (mine ++ B)) ∙ ap (λ zs. zs ++ (mine ++ B)) (sym (front_one cs ps j s x lt up)))

-- where the first child of the bucket has
pub list_first : (ps : List Item) (cs : List Sub) (s : Sub) (x : Item) (mine : List Item) → 1 < length cs → 0 < length ps
    → front (map pairs_of (take 0 cs)) (take 0 ps) ++ ((mine ++ get_or ps 0 x ∷ (get_or cs 1 s).pairs) ++ back (map pairs_of (drop 2 cs)) (drop 1 ps)) ≡ list_above ps cs 0 mine
list_first ps [] s x mine lt up = absurd (omega (arith, lt))
list_first ps (c ∷ []) s x mine lt up = absurd (omega (arith, lt))
list_first [] (c ∷ d ∷ cs) s x mine lt up = absurd (omega (arith, up))
list_first (p ∷ ps) (c ∷ d ∷ cs) s x mine lt up = append_assoc mine (p ∷ d.pairs) (back (map pairs_of cs) ps)

-- a pair is taken out and another put there
pub put_back : (ps : List Item) (j : ℕ) (y : Item) → j < length ps → insert (remove ps j) j y ≡ take j ps ++ y ∷ drop (suc j) ps
put_back [] j y lt = absurd (omega (arith, lt))
put_back (p ∷ ps) zero y lt = refl
put_back (p ∷ ps) (suc j) y lt = ap (λ zs. p ∷ zs) (put_back ps j y (omega (arith, lt)))

kids_cut : (cs : List Sub) (j : ℕ) (s : Sub) → suc j < length cs → take (suc j) (map at_of cs) ++ drop (suc (suc j)) (map at_of cs) ≡ map at_of (take j cs) ++ ((get_or cs j s).at ∷ map at_of (drop (suc (suc j)) cs))
kids_cut [] j s lt = absurd (omega (arith, lt))
kids_cut (c ∷ []) j s lt = absurd (omega (arith, lt))
kids_cut (c ∷ d ∷ cs) zero s lt = refl
kids_cut (c ∷ d ∷ cs) (suc j) s lt = ap (λ zs. c.at ∷ zs) (kids_cut (d ∷ cs) j s (omega (arith, lt)))

kids_kept : (cs : List Sub) (j : ℕ) (s : Sub) → suc j < length cs → map at_of cs ≡ map at_of (take j cs) ++ ((get_or cs j s).at ∷ (get_or cs (suc j) s).at ∷ map at_of (drop (suc (suc j)) cs))
kids_kept [] j s lt = absurd (omega (arith, lt))
kids_kept (c ∷ []) j s lt = absurd (omega (arith, lt))
kids_kept (c ∷ d ∷ cs) zero s lt = refl
kids_kept (c ∷ d ∷ cs) (suc j) s lt = ap (λ zs. c.at ∷ zs) (kids_kept (d ∷ cs) j s (omega (arith, lt)))

node_after : (up : DiskLoc) (ps : List Item) (cs : List Sub) (j : ℕ) (s : Sub) (a z : DiskLoc) (r : Option Item) (ds : List Sub) → suc j < length cs → j < length ps → a ≡ (get_or cs j s).at → z ≡ (get_or cs (suc j) s).at
    → map at_of ds ≡ roots_of a (up_at z r)
    → after_join (record { parent = up; pairs = ps; kids = map at_of cs }) j r ≡ record { parent = up; pairs = take j ps ++ (between_of (up_at z r) ++ drop (suc j) ps); kids = map at_of (take j cs ++ (ds ++ drop (suc (suc j)) cs)) }
node_after up ps cs j s a z None ds lc lp ea ez placed =
    let B = drop (suc (suc j)) cs in
    let kids : take (suc j) (map at_of cs) ++ drop (suc (suc j)) (map at_of cs) ≡ map at_of (take j cs ++ (ds ++ B)) =
    kids_cut cs j s lc ∙ (ap (λ (q : DiskLoc). map at_of (take j cs) ++ (q ∷ map at_of B)) (sym ea)
    ∙ (ap (λ (xs : List DiskLoc). map at_of (take j cs) ++ (xs ++ map at_of B)) (sym placed)
    ∙ sym (map-append at_of (take j cs) (ds ++ B) ∙ ap (λ xs. map at_of (take j cs) ++ xs) (map-append at_of ds B)))) in
    ap (λ (xs : List DiskLoc). record { parent = up; pairs = take j ps ++ drop (suc j) ps; kids = xs }) kids
node_after up ps cs j s a z (Some y) ds lc lp ea ez placed =
    let B = drop (suc (suc j)) cs in
    let kids : map at_of cs ≡ map at_of (take j cs ++ (ds ++ B)) =
    kids_kept cs j s lc ∙ ((let a1 = sym ea in let z1 = sym ez in λ i. map at_of (take j cs) ++ (a1 i ∷ z1 i ∷ map at_of B))
    ∙ (ap (λ (xs : List DiskLoc). map at_of (take j cs) ++ (xs ++ map at_of B)) (sym placed)
    ∙ sym (map-append at_of (take j cs) (ds ++ B) ∙ ap (λ xs. map at_of (take j cs) ++ xs) (map-append at_of ds B)))) in
    (λ i. record { parent = up; pairs = put_back ps j y lp i; kids = kids i })

count_of : (a z : DiskLoc) (r : Option Item) → length (roots_of a (up_at z r)) ≡ suc (length (between_of (up_at z r)))
count_of a z None = refl
count_of a z (Some y) = refl

-- ---- what the bucket above is to be

pub record Waits (w : Scene) (o : Buckets) (b : Node) (j : ℕ) (r : Option Item) (list ps2 : List Item) (cs2 : List Sub) : Type 0 where
  pub pending : Pending w.m o w.s.at (suc w.h) w.s.places list ps2 cs2
  pub node : after_join b j r ≡ record { parent = w.up; pairs = ps2; kids = map at_of cs2 }
  pub above : o w.s.at ≡ w.m w.s.at

abbrev pub AreWaiting : Scene → Buckets → Node → ℕ → Option Item → List Item → Type 0
AreWaiting w o b j r list = (ps2 : List Item) × (cs2 : List Sub) × Waits w o b j r list ps2 cs2

waits_two : (w : Scene) (n o : Buckets) (at : DiskLoc) (b : Node) (i : ℕ) (j : ℕ) (x : Item) (l2 c2 : Sub) (bb dd : Node) (r : Option Item) → IsAbove w n at b i Thin → j < length w.ps
    → AreTwo w.m n w.s.at w.h (get_or w.cs j w.s) (get_or w.cs (suc j) w.s) l2 c2 → AreNeighbours n l2.at c2.at bb dd → IsJoined n o l2.at c2.at bb (get_or w.ps j x) dd r
    → AreWaiting w o b j r (front (map pairs_of (take j w.cs)) (take j w.ps) ++ ((l2.pairs ++ get_or w.ps j x ∷ c2.pairs) ++ back (map pairs_of (drop (suc (suc j)) w.cs)) (drop (suc j) w.ps)))
waits_two w n o at b i j x l2 c2 bb dd r v lt two k joins =
    let ps = w.ps in
    let cs = w.cs in
    let s = w.s in
    let l = get_or cs j s in
    let c = get_or cs (suc j) s in
    let mid = get_or ps j x in
    let t = between_at ps cs j s x v.below.0 lt in
    let g = two_joined w.m n o s.at w.h l c l2 c2 mid bb dd r two k joins in
    let over2 : IsOver w.m w.up 1 s (take j ps ++ ((mid ∷ []) ++ drop (suc j) ps)) (take j cs ++ ((l ∷ c ∷ []) ++ drop (suc (suc j)) cs)) =
    subst (λ (xs : List Item). IsOver w.m w.up 1 s xs (take j cs ++ ((l ∷ c ∷ []) ++ drop (suc (suc j)) cs))) t.pairs (subst (λ (ys : List Sub). IsOver w.m w.up 1 s ps ys) t.kids v.over) in
    let count : length g.0 ≡ suc (length (between_of (up_at c2.at r))) = sym (length-map g.0 at_of) ∙ (ap length g.1.placed ∙ count_of l2.at c2.at r) in
    let ch = changed_segment w.m o w.up 1 w.h s (take j ps) (mid ∷ []) (drop (suc j) ps) (take j cs) (l ∷ c ∷ []) (drop (suc (suc j)) cs) (l2.pairs ++ mid ∷ c2.pairs) (roots_of l2.at (up_at c2.at r)) (between_of (up_at c2.at r)) g.0
    over2 (subst (AllByRecursion (Stands w.m s.at 1 w.h)) t.kids v.below.1) t.long refl t.short v.apart g.1 count in (
      take j ps ++ (between_of (up_at c2.at r) ++ drop (suc j) ps),
      take j cs ++ (g.0 ++ drop (suc (suc j)) cs),
      record {
        pending = ch.pending;
        node = ap (λ (z : Node). after_join z j r) v.bucket ∙ node_after w.up ps cs j s l2.at c2.at r g.0 (omega (arith, v.below.0, lt)) lt two.left_at two.right_at g.1.placed;
        above = ch.above;
      },
    )

two_places : (w : Scene) (n : Buckets) (at : DiskLoc) (b : Node) (i : ℕ) (j : ℕ) (x : Item) → IsAbove w n at b i Thin → j < length w.ps → Distinct ((get_or w.cs j w.s).places ++ (get_or w.cs (suc j) w.s).places)
two_places w n at b i j x v lt =
    let l = get_or w.cs j w.s in
    let c = get_or w.cs (suc j) w.s in
    let t = between_at w.ps w.cs j w.s x v.below.0 lt in
    let B = drop (suc (suc j)) w.cs in
    let d1 : Distinct (all_places w.cs) = (subst Distinct v.over.places v.apart).1 in
    let d2 : Distinct (all_places (take j w.cs) ++ (all_places (l ∷ c ∷ []) ++ all_places B)) = subst Distinct (ap all_places t.kids ∙ places_at (take j w.cs) (l ∷ c ∷ []) B) d1 in
    subst Distinct (pair_places l c) (distinct-left (all_places (l ∷ c ∷ [])) (all_places B) (distinct-right (all_places (take j w.cs)) (all_places (l ∷ c ∷ []) ++ all_places B) d2))

-- the second of two is bare
pub two_behind : (w : Scene) (n : Buckets) (at : DiskLoc) (b : Node) (j : ℕ) (x : Item) → (v : IsAbove w n at b (suc j) Thin) → AreTwo w.m n w.s.at w.h (get_or w.cs j w.s) (get_or w.cs (suc j) w.s) (get_or w.cs j w.s) v.child.0
two_behind w n at b j x v =
    let lt : j < length w.ps = omega (arith, v.inside) in
    thin_behind w.m n w.s.at w.h (get_or w.cs j w.s) (get_or w.cs (suc j) w.s) v.child.0 (all_get (Stands w.m w.s.at 1 w.h) w.cs j w.s (omega (arith, v.below.0, lt)) v.below.1) (two_places w n at b (suc j) j x v lt) v.child.1

pub waits_behind : (w : Scene) (n o : Buckets) (at : DiskLoc) (b : Node) (j : ℕ) (x : Item) (bb dd : Node) (r : Option Item) → (v : IsAbove w n at b (suc j) Thin) → AreNeighbours n (get_or w.cs j w.s).at v.child.0.at bb dd
    → IsJoined n o (get_or w.cs j w.s).at v.child.0.at bb (get_or w.ps j x) dd r → AreWaiting w o b j r (list_above w.ps w.cs (suc j) w.mine)
waits_behind w n o at b j x bb dd r v k joins =
    let lt : j < length w.ps = omega (arith, v.inside) in
    subst (AreWaiting w o b j r)
    (ap (λ (xs : List Item). front (map pairs_of (take j w.cs)) (take j w.ps) ++ (((get_or w.cs j w.s).pairs ++ get_or w.ps j x ∷ xs) ++ back (map pairs_of (drop (suc (suc j)) w.cs)) (drop (suc j) w.ps))) v.child.2
    ∙ list_behind w.ps w.cs j w.s x w.mine (omega (arith, v.below.0, lt)) lt)
    (waits_two w n o at b (suc j) j x (get_or w.cs j w.s) v.child.0 bb dd r v lt (two_behind w n at b j x v) k joins)

-- the first of all is
pub two_first : (w : Scene) (n : Buckets) (at : DiskLoc) (b : Node) (x : Item) → (v : IsAbove w n at b 0 Thin) → AreTwo w.m n w.s.at w.h (get_or w.cs 0 w.s) (get_or w.cs 1 w.s) v.child.0 (get_or w.cs 1 w.s)
two_first w n at b x v =
    thin_before w.m n w.s.at w.h (get_or w.cs 0 w.s) (get_or w.cs 1 w.s) v.child.0 (all_get (Stands w.m w.s.at 1 w.h) w.cs 1 w.s (omega (arith, v.below.0, v.over.some)) v.below.1) (two_places w n at b 0 0 x v v.over.some) v.child.1

pub waits_first : (w : Scene) (n o : Buckets) (at : DiskLoc) (b : Node) (x : Item) (bb dd : Node) (r : Option Item) → (v : IsAbove w n at b 0 Thin) → AreNeighbours n v.child.0.at (get_or w.cs 1 w.s).at bb dd
    → IsJoined n o v.child.0.at (get_or w.cs 1 w.s).at bb (get_or w.ps 0 x) dd r → AreWaiting w o b 0 r (list_above w.ps w.cs 0 w.mine)
waits_first w n o at b x bb dd r v k joins =
    subst (AreWaiting w o b 0 r)
    (ap (λ (xs : List Item). front (map pairs_of (take 0 w.cs)) (take 0 w.ps) ++ ((xs ++ get_or w.ps 0 x ∷ (get_or w.cs 1 w.s).pairs) ++ back (map pairs_of (drop 2 w.cs)) (drop 1 w.ps))) v.child.2
    ∙ list_first w.ps w.cs w.s x w.mine (omega (arith, v.below.0, v.over.some)) v.over.some)
    (waits_two w n o at b 0 0 x v.child.0 (get_or w.cs 1 w.s) bb dd r v v.over.some (two_first w n at b x v) k joins)

-- then it is written
pub mended : (w : Scene) (o o2 : Buckets) (b : Node) (i j : ℕ) (r : Option Item) (out : Outcome) → AreWaiting w o b j r (list_above w.ps w.cs i w.mine) → w.m w.s.at ≢ None
    → IsWritten o o2 w.s.at (after_join b j r) out → IsMended w o2 i out
mended w o o2 b i j r out k some y =
    written w.m o o2 w.up (suc w.h) w.s (list_above w.ps w.cs i w.mine) k.0 k.1 k.2.pending (λ e. some (sym k.2.above ∙ e)) out
    (subst (λ (z : Node). IsWritten o o2 w.s.at z out) k.2.node y)

pub scene_some : (w : Scene) (n : Buckets) (at : DiskLoc) (b : Node) (i : ℕ) (r : Outcome) → IsAbove w n at b i r → w.m w.s.at ≢ None
scene_some w n at b i r v e = let there = v.over.bucket in cc

-- the bucket is still there, and its children where it keeps them
pub waits_there : (w : Scene) (n o : Buckets) (at : DiskLoc) (b : Node) (i j : ℕ) (r : Option Item) (out : Outcome) (list : List Item) → IsAbove w n at b i out → AreWaiting w o b j r list → IsSome (o at)
waits_there w n o at b i j r out list v k = subst (λ (q : DiskLoc). IsSome (o q)) v.here (subst IsSome (sym (k.2.above ∙ v.over.bucket)) refl)

pub waits_kids : (w : Scene) (o : Buckets) (b : Node) (j : ℕ) (r : Option Item) (y : Item) (list : List Item) → r ≡ Some y → AreWaiting w o b j r list → AreThere o b.kids
waits_kids w o b j r y list e k =
    subst (AreThere o) (sym (ap (λ (z : Option Item). (after_join b j z).kids) (sym e) ∙ ap (λ (z : Node). z.kids) k.2.node))
    (some_there o w.s.at (suc w.h) k.0 k.1 k.2.pending.below)

-- ---- a child that is whole, or two

pub whole_above : (w : Scene) (n : Buckets) (at : DiskLoc) (b : Node) (i : ℕ) → IsAbove w n at b i Whole → IsMended w n i Whole
whole_above w n at b i v =
    let s = w.s in
    let k = cut s w.ps w.cs i v.below.0 v.inside v.over.pairs in
    let g = v.child in
    let roots = g.1.placed in
    let c = get_or w.cs i s in
    let ch = changed_below w.m n w.up 1 w.h i s w.ps w.cs w.mine (c.at ∷ []) [] g.0 v.over v.below k v.apart g.1 (omega (arith, length-map g.0 at_of, ap length roots)) in
    stays_above w.m n w.up 1 w.h i s w.ps w.cs w.mine (list_above w.ps w.cs i w.mine) g.0 v.over v.over.some k roots ch.0 ch.1

pub record Parts (w : Scene) (n : Buckets) (i : ℕ) (u : Up) (cs2 : List Sub) : Type 0 where
  pub pending : Pending w.m n w.s.at (suc w.h) w.s.places (list_above w.ps w.cs i w.mine) (insert w.ps i u.mid) cs2
  pub kids : map at_of cs2 ≡ insert (map at_of w.cs) (suc i) u.right
  pub above : n w.s.at ≡ w.m w.s.at

pub parts_above : (w : Scene) (n : Buckets) (at : DiskLoc) (b : Node) (i : ℕ) (u : Up) → IsAbove w n at b i (Parted u) → (cs2 : List Sub) × Parts w n i u cs2
parts_above w n at b i u v =
    let s = w.s in
    let k = cut s w.ps w.cs i v.below.0 v.inside v.over.pairs in
    let g = v.child in
    let roots = g.1.placed in
    let c = get_or w.cs i s in
    let ch = changed_below w.m n w.up 1 w.h i s w.ps w.cs w.mine (c.at ∷ u.right ∷ []) (u.mid ∷ []) g.0 v.over v.below k v.apart g.1 (omega (arith, length-map g.0 at_of, ap length roots)) in (
      take i w.cs ++ (g.0 ++ drop (suc i) w.cs),
      record { pending = ch.0; kids = kids_more w.cs g.0 i u.right s k.inside roots; above = ch.1 },
    )

pub parts_there : (w : Scene) (n : Buckets) (at : DiskLoc) (b : Node) (i : ℕ) (u : Up) → IsAbove w n at b i (Parted u) → IsSome (n at) × AreThere n (insert b.kids (suc i) u.right)
parts_there w n at b i u v =
    let p = parts_above w n at b i u v in (
      subst (λ (q : DiskLoc). IsSome (n q)) v.here (subst IsSome (sym (p.1.above ∙ v.over.bucket)) refl),
      subst (AreThere n) (p.1.kids ∙ ap (λ (z : Node). insert z.kids (suc i) u.right) (sym v.bucket)) (some_there n w.s.at (suc w.h) (insert w.ps i u.mid) p.0 p.1.pending.below),
    )

pub parts_mended : (w : Scene) (n o : Buckets) (at : DiskLoc) (b : Node) (i : ℕ) (u : Up) (out : Outcome) → IsAbove w n at b i (Parted u) → IsWritten n o at (record b { pairs = insert b.pairs i u.mid; kids = insert b.kids (suc i) u.right }) out → IsMended w o i out
parts_mended w n o at b i u out v y =
    let p = parts_above w n at b i u v in
    let node : record b { pairs = insert b.pairs i u.mid; kids = insert b.kids (suc i) u.right } ≡ record { parent = w.up; pairs = insert w.ps i u.mid; kids = map at_of p.0 } =
    ap (λ (z : Node). record z { pairs = insert z.pairs i u.mid; kids = insert z.kids (suc i) u.right }) v.bucket
    ∙ ap (λ (xs : List DiskLoc). record { parent = w.up; pairs = insert w.ps i u.mid; kids = xs }) (sym p.1.kids) in
    written w.m n o w.up (suc w.h) w.s (list_above w.ps w.cs i w.mine) (insert w.ps i u.mid) p.0 p.1.pending (λ e. scene_some w n at b i (Parted u) v (sym p.1.above ∙ e)) out
    (subst (λ (z : Node). IsWritten n o w.s.at z out) node (subst (λ (q : DiskLoc). IsWritten n o q (record b { pairs = insert b.pairs i u.mid; kids = insert b.kids (suc i) u.right }) out) (sym v.here) y))

pub written_of : (n o : Buckets) (at : DiskLoc) (b : Node) (up : Option Up) (r : Outcome) → ups r ≡ up → (r ≡ Thin → ⊥) → 1 ≤ length b.pairs → IsSettled n o at b up → IsWritten n o at b r
written_of n o at b up r e f some s = record {
  settled = subst (IsSettled n o at b) (sym e) s;
  thin = λ g. absurd (f g);
  whole = λ g. some;
}

pub with_item_some : (b : Node) (i : ℕ) (y : Item) → i < length b.pairs → 1 ≤ length (with_item b i y).pairs
with_item_some b i y lt = omega (arith, ap length (put_back b.pairs i y lt), length-append (take i b.pairs) (y ∷ drop (suc i) b.pairs))
