-- What has become of the root is made a tree again.
use Rattle.std.proofs.Common.{◌≡◌, ◌≢◌, ℕ, suc, ◌-◌, ◌<◌, Bool, true, false, ◌||◌, List, [], ◌∷◌, length, map, Option, Some, None, IsSome, refl, sym, ap, ◌∙◌, subst, arith}
use Rattle.std.proofs.lemmas.Bool.{or_parts}
use Rattle.std.proofs.lemmas.List.{append-nil}
use Rattle.mm_base.specs.Places.{null}
use Rattle.mm_base.specs.declared.place.DiskLoc.{DiskLoc}
use Rattle.mm_btree.specs.Nodes.{Item, Node, Buckets, place_eq, put, with_parent}
use Rattle.mm_btree.specs.Lists.{has, Distinct, Sorted, weave}
use Rattle.mm_btree.specs.Trees.{Sub, at_of, IsOver, AreBelow, Stands, Moves, Became, sub}
use Rattle.mm_btree.specs.Changes.{Up, AreThere, least_at, IsChanged, rooted_map}
use Rattle.mm_btree.specs.Removal.{IsRootLeft}
use Rattle.mm_btree.specs.declared.outcome.Outcome.TheVariants.{Whole, Thin, Parted}
use Rattle.mm_btree.proofs.Places.{place_eq-is, place_differ}
use Rattle.mm_btree.proofs.Frames.{all_some, roots_in, stands_adopted, stands_some}
use Rattle.mm_btree.proofs.Moved.{moves_trans}
use Rattle.mm_btree.proofs.InsertCalls.{deeper}
use Rattle.mm_btree.proofs.Inserting.{less_least}
use Rattle.mm_btree.proofs.Rooting.{rooted, single}

pub root_whole : (lt : Item → Item → Bool) (m n : Buckets) (root : DiskLoc) (h : ℕ) (s : Sub) (list : List Item) → IsRootLeft m n h s list root Whole → Sorted lt list → (t : Sub) × IsChanged lt m n root h s list t
root_whole lt m n root h s list v so =
    let g = v.left in
    let k = single m n null h s.at s.places list g.0 g.1 in
    (k.0, record { tree = record { here = k.1 ∙ v.here; stands = less_least n null h k.0 k.2; apart = k.4; order = subst (Sorted lt) (sym k.3) so }; holds = k.3; moved = k.5 })

pub root_there : (m n : Buckets) (root : DiskLoc) (h : ℕ) (s : Sub) (list : List Item) (u : Up) → IsRootLeft m n h s list root (Parted u) → AreThere n (root ∷ u.right ∷ [])
root_there m n root h s list u v q e =
    let g = v.left in
    by (n q) (all_some n null h g.0 g.1.stand q (roots_in n null h g.0 g.1.stand q (subst (λ (xs : List DiskLoc). has q xs ≡ true) (sym (g.1.placed ∙ ap (λ (z : DiskLoc). z ∷ u.right ∷ []) v.here)) e)))
  where
    by : (o : Option Node) → o ≢ None → IsSome o
    by None f = absurd (f refl)
    by (Some b) f = refl

pub root_parted : (lt : Item → Item → Bool) (m n o : Buckets) (root p : DiskLoc) (h : ℕ) (s : Sub) (list : List Item) (u : Up) → IsRootLeft m n h s list root (Parted u) → Sorted lt list → n p ≡ None → ((q : DiskLoc) → o q ≡ rooted_map n p root u q)
    → (t : Sub) × IsChanged lt m o p (suc h) s list t
root_parted lt m n o root p h s list u v so free same =
    let g = v.left in
    let g2 : Became m n null h s.places list (root ∷ u.right ∷ []) (u.mid ∷ []) g.0 = subst (λ (z : DiskLoc). Became m n null h s.places list (z ∷ u.right ∷ []) (u.mid ∷ []) g.0) v.here g.1 in
    let r = rooted lt m n o h root p s.places list u g.0 g2 so free same in
    (sub p (u.mid ∷ []) g.0, record { tree = r.0; holds = g.1.pairs; moved = r.1 })

pub root_empty : (lt : Item → Item → Bool) (m n : Buckets) (root : DiskLoc) (h : ℕ) (s : Sub) (list : List Item) → h ≡ 0 → IsRootLeft m n h s list root Thin → Sorted lt list → (t : Sub) × IsChanged lt m n root h s list t
root_empty lt m n root h s list low v so =
    let g = v.left in
    let t = g.0 in
    let k = g.1 in
    let st : Stands n null (least_at h) h t = subst (λ (z : ℕ). Stands n null (least_at z) z t) (sym low) (subst (λ (z : ℕ). Stands n null 0 z t) low k.stands) in
    (t, record { tree = record { here = k.at ∙ v.here; stands = st; apart = k.apart; order = subst (Sorted lt) (sym g.2) so }; holds = g.2; moved = k.moved })

-- ---- the one child of a root without pairs

pub record IsLone (n : Buckets) (root : DiskLoc) (h : ℕ) (b : Node) (t c : Sub) : Type 0 where
  pub kid : b.kids ≡ c.at ∷ []
  pub stands : Stands n t.at 1 h c
  pub apart : Distinct c.places
  pub out : has root c.places ≡ false
  pub places : t.places ≡ root ∷ c.places
  pub pairs : t.pairs ≡ c.pairs
  pub some : n c.at ≢ None
  pub root_in : has c.at c.places ≡ true

lone_from : (n : Buckets) (root : DiskLoc) (h : ℕ) (b : Node) (t : Sub) (ps : List Item) (cs : List Sub) → t.at ≡ root → n root ≡ Some b → b.pairs ≡ [] → IsOver n null 0 t ps cs → AreBelow (Stands n t.at 1 h) ps cs → Distinct t.places → (c : Sub) × IsLone n root h b t c
lone_from n root h b t ps [] here e none o below d = absurd (omega (arith, below.0))
lone_from n root h b t ps (c ∷ d2 ∷ cs) here e none o below d =
    let is : b ≡ record { parent = null; pairs = ps; kids = c.at ∷ d2.at ∷ map at_of cs } = let one = o.bucket in let two = ap n here in cc in
    absurd (omega (arith, below.0, ap (λ (z : Node). length z.pairs) is, ap length none))
lone_from n root h b t ps (c ∷ []) here e none o below d =
    let is : b ≡ record { parent = null; pairs = ps; kids = c.at ∷ [] } = let one = o.bucket in let two = ap n here in cc in
    let nil : ps ≡ [] = sym (ap (λ (z : Node). z.pairs) is) ∙ none in
    let places : t.places ≡ root ∷ c.places = o.places ∙ (λ i. here i ∷ append-nil c.places i) in
    let d3 : Distinct (root ∷ c.places) = subst Distinct places d in (
      c,
      record {
        kid = ap (λ (z : Node). z.kids) is;
        stands = below.1.0;
        apart = d3.1;
        out = d3.0;
        places = places;
        pairs = o.pairs ∙ (ap (λ (xs : List Item). weave (c.pairs ∷ []) xs) nil ∙ append-nil c.pairs);
        some = stands_some n t.at 1 h c below.1.0 c.at (roots_in_one n t.at h c below.1.0);
        root_in = roots_in_one n t.at h c below.1.0;
      },
    )
  where
    roots_in_one : (n : Buckets) (up : DiskLoc) (h : ℕ) (c : Sub) → Stands n up 1 h c → has c.at c.places ≡ true
    roots_in_one n up h c s = subst (λ (xs : List DiskLoc). has c.at xs ≡ true) (append-nil c.places) (roots_in n up h (c ∷ []) (s, tt) c.at (rw (place_eq-is c.at c.at refl) refl))

pub lone : (m n : Buckets) (root : DiskLoc) (height : ℕ) (s : Sub) (list : List Item) (b : Node) → 0 < height → (v : IsRootLeft m n height s list root Thin) → n root ≡ Some b → (c : Sub) × IsLone n root (height - 1) b v.left.0 c
lone m n root height s list b l v e =
    let g = v.left in
    let t = g.0 in
    let k = g.1 in
    let at : t.at ≡ root = k.at ∙ v.here in
    let st : Stands n null 0 (suc (height - 1)) t = subst (λ (z : ℕ). Stands n null 0 z t) (deeper height l) k.stands in
    lone_from n root (height - 1) b t st.0 st.1 at e (g.3 b (ap n at ∙ e)) st.2 st.3 k.apart

pub lowered : (lt : Item → Item → Bool) (m n n1 o : Buckets) (root kid : DiskLoc) (height : ℕ) (s : Sub) (list : List Item) (b : Node) → 0 < height → IsRootLeft m n height s list root Thin → Sorted lt list → n root ≡ Some b → b.kids ≡ kid ∷ []
    → ((q : DiskLoc) → n1 q ≡ put n root None q) → ((q : DiskLoc) → o q ≡ put n1 kid (with_parent null (n1 kid)) q) → (t : Sub) × IsChanged lt m o kid (height - 1) s list t
lowered lt m n n1 o root kid height s list b l v so e only one two =
    let g = v.left in
    let k = g.1 in
    let z = lone m n root height s list b l v e in
    let c = z.0 in
    let w = z.1 in
    let same : c.at ≡ kid = heads (sym w.kid ∙ only) in
    let apart : (q : DiskLoc) → has q c.places ≡ true → place_eq q root ≡ false = λ q f. place_differ q root (λ p. let two : has root c.places ≡ true = subst (λ (y : DiskLoc). has y c.places ≡ true) p f in let three = w.out in cc) in
    let root_in : has c.at c.places ≡ true = w.root_in in
    let kid_apart : place_eq kid root ≡ false = subst (λ (q : DiskLoc). place_eq q root ≡ false) same (apart c.at root_in) in
    let here : o c.at ≡ with_parent null (n c.at) = subst (λ (q : DiskLoc). o q ≡ with_parent null (n q)) (sym same) (two kid ∙ rw (place_eq-is kid kid refl) (ap (with_parent null) (one kid ∙ rw kid_apart refl))) in
    let others : (q : DiskLoc) → has q c.places ≡ true → place_eq q c.at ≡ false → o q ≡ n q = λ q f d. two q ∙ rw (subst (λ (y : DiskLoc). place_eq q y ≡ false) same d) (one q ∙ rw (apart q f) refl) in
    let st = stands_adopted n o g.0.at null 1 (height - 1) c w.apart w.stands here others in
    let moved : Moves n o g.0.places c.places = subst (λ (xs : List DiskLoc). Moves n o xs c.places) (sym w.places) (record {
      others = λ q a d. two q ∙ rw (not_kid q c.places kid same root_in d) (one q ∙ rw (or_parts (place_eq q root) (has q c.places) a).0 refl);
      fresh = λ q a d. let f = (or_parts (place_eq q root) (has q c.places) a).1 in absurd cc;
      gone = λ q a d. two q ∙ rw (not_kid q c.places kid same root_in d) (one q ∙ rw (first q (place_eq q root) (has q c.places) a d) refl);
    }) in (
      c,
      record {
        tree = record { here = same; stands = less_least o null (height - 1) c st; apart = w.apart; order = subst (Sorted lt) (sym (sym w.pairs ∙ g.2)) so };
        holds = sym w.pairs ∙ g.2;
        moved = moves_trans m n o s.places g.0.places c.places k.moved moved;
      },
    )
  where
    head : List DiskLoc → DiskLoc
    head [] = null
    head (x ∷ xs) = x

    heads : {x y : DiskLoc} → x ∷ [] ≡ y ∷ [] → x ≡ y
    heads e = ap head e

    not_kid : {c : DiskLoc} (q : DiskLoc) (xs : List DiskLoc) (kid : DiskLoc) → c ≡ kid → has c xs ≡ true → has q xs ≡ false → place_eq q kid ≡ false
    not_kid {c} q xs kid same f d = place_differ q kid (λ p. let two : has q xs ≡ true = subst (λ (y : DiskLoc). has y xs ≡ true) (same ∙ sym p) f in cc)

    first : (q : DiskLoc) (a b : Bool) → (a || b) ≡ true → b ≡ false → a ≡ true
    first q true b e f = refl
    first q false b e f = absurd (let two = e in cc)
