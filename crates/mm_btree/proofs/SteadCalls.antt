-- A pair of a subtree gives way to another: where it stands, and above.
use Rattle.std.proofs.Common.{◌≡◌, ◌≢◌, ℕ, zero, suc, ◌-◌, ◌<◌, ◌≤◌, List, [], ◌∷◌, ◌++◌, length, map, take, drop, get_or, insert, remove, Option, Some, None, IsSome, refl, sym, ap, ◌∙◌, subst, arith, append_assoc}
use Rattle.std.proofs.lemmas.List.{length-map, length-append}
use Rattle.std.specs.declared.cmp.Ordering.TheVariants.{Equal}
use Rattle.mm_base.specs.declared.place.DiskLoc.{DiskLoc}
use Rattle.mm_bson.specs.Tree.{Elements}
use Rattle.mm_bucket.specs.Pairs.{Contents, child_at}
use Rattle.mm_btree.specs.Nodes.{Item, Node, Buckets, item_of, node_of}
use Rattle.mm_btree.specs.Lists.{front, back, weave, Distinct, Sorted}
use Rattle.mm_btree.specs.Trees.{Sub, at_of, pairs_of, IsOver, Below, Moves, Became, Pending}
use Rattle.mm_btree.specs.Order.{item_compare, item_lt, IsLacking}
use Rattle.mm_btree.specs.Changes.{Up, AreThere, IsSettled, StandsAt, least_at, roots_of, between_of}
use Rattle.mm_btree.specs.Removal.{ups, exchanged, with_item, IsLeft, IsAbove, list_above, IsExchanged, IsThere, IsGap}
use Rattle.mm_btree.specs.declared.outcome.Outcome.{Outcome}
use Rattle.mm_btree.specs.declared.outcome.Outcome.TheVariants.{Whole, Thin, Parted}
use Rattle.mm_btree.proofs.InsertCalls.{deeper, bucket_is}
use Rattle.mm_btree.proofs.Inserting.{moves_same}
use Rattle.mm_btree.proofs.ListLaws.{all-both}
use Rattle.mm_btree.proofs.Frames.{opened}
use Rattle.mm_btree.proofs.Segments.{settled}
use Rattle.mm_btree.proofs.Takings.{exchanged_lacking, exchanged_parts, exchanged_mid}
use Rattle.mm_btree.proofs.Removals.{whole_above, parts_above, parts_there, put_back, some_there}
use Rattle.mm_btree.proofs.RemoveCalls.{Opens, open_at, open_pairs, open_cut, kid_stands, scene_of, above_of, around_lack, missing_in_leaf}

-- ---- a pair in a woven list

-- what stands before a pair and behind it
abbrev AroundIn : (List Item → List Item) → List Item → ℕ → Type 0
AroundIn f ps i = (A G : List Item) × ((y : Item) → f (take i ps ++ y ∷ drop (suc i) ps) ≡ A ++ y ∷ G)

in_back : (ls : List (List Item)) (ps : List Item) (i : ℕ) → i < length ps → length ls ≡ length ps → AroundIn (back ls) ps i
in_back ls [] i lt e = absurd (omega (arith, lt))
in_back [] (p ∷ ps) i lt e = absurd (omega (arith, e))
in_back (l ∷ ls) (p ∷ ps) zero lt e = ([], l ++ back ls ps, λ y. refl)
in_back (l ∷ ls) (p ∷ ps) (suc i) lt e =
    let r = in_back ls ps i (omega (arith, lt)) (omega (arith, e)) in
    (p ∷ (l ++ r.0), r.1, λ y. ap (λ xs. p ∷ (l ++ xs)) (r.2 y) ∙ ap (λ xs. p ∷ xs) (sym (append_assoc l r.0 (y ∷ r.1))))

in_weave : (ls : List (List Item)) (ps : List Item) (i : ℕ) → i < length ps → length ls ≡ suc (length ps) → AroundIn (weave ls) ps i
in_weave [] ps i lt e = absurd (omega (arith, e))
in_weave (l ∷ ls) ps i lt e =
    let r = in_back ls ps i lt (omega (arith, e)) in
    (l ++ r.0, r.1, λ y. ap (λ xs. l ++ xs) (r.2 y) ∙ sym (append_assoc l r.0 (y ∷ r.1)))

in_tree : (m : Buckets) (at : DiskLoc) (h : ℕ) (ps : List Item) (cs : List Sub) (i : ℕ) → Below m at h ps cs → i < length ps → AroundIn (weave (map pairs_of cs)) ps i
in_tree m at zero ps cs i t lt = subst (λ (xs : List Sub). AroundIn (weave (map pairs_of xs)) ps i) (sym t) (take i ps, drop (suc i) ps, λ y. refl)
in_tree m at (suc h) ps cs i t lt = in_weave (map pairs_of cs) ps i lt (length-map cs pairs_of ∙ t.0)

below_put : (m : Buckets) (at : DiskLoc) (h : ℕ) (ps qs : List Item) (cs : List Sub) → length qs ≡ length ps → Below m at h ps cs → Below m at h qs cs
below_put m at zero ps qs cs e t = t
below_put m at (suc h) ps qs cs e t = (t.0 ∙ ap suc (sym e), t.1)

put_len : (ps : List Item) (i : ℕ) (y : Item) → i < length ps → length (take i ps ++ y ∷ drop (suc i) ps) ≡ length ps
put_len [] i y lt = absurd (omega (arith, lt))
put_len (p ∷ ps) zero y lt = refl
put_len (p ∷ ps) (suc i) y lt = ap suc (put_len ps i y (omega (arith, lt)))

-- ---- where it stands

stead_waits : (spec : Elements) (m : Buckets) (up : DiskLoc) (least h : ℕ) (s : Sub) (ps : List Item) (cs : List Sub) (i : ℕ) (x y : Item) → IsOver m up least s ps cs → Below m s.at h ps cs → Distinct s.places → Sorted (item_lt spec) s.pairs → IsThere spec ps x i
    → Pending m m s.at h s.places (exchanged spec x y s.pairs) (insert (remove ps i) i y) cs
stead_waits spec m up least h s ps cs i x y b t d so k =
    let z = k.parts.0 in
    let w = in_tree m s.at h ps cs i t k.inside in
    let A = w.0 in
    let G = w.1 in
    let was : s.pairs ≡ A ++ z ∷ G = b.pairs ∙ (ap (weave (map pairs_of cs)) k.parts.1 ∙ w.2 z) in
    let new : insert (remove ps i) i y ≡ take i ps ++ y ∷ drop (suc i) ps = put_back ps i y k.inside in
    record {
      below = below_put m s.at h ps (insert (remove ps i) i y) cs (ap length new ∙ put_len ps i y k.inside) t;
      woven = ap (weave (map pairs_of cs)) new ∙ (w.2 y ∙ sym (ap (exchanged spec x y) was ∙ exchanged_mid spec x y z A G (subst (Sorted (item_lt spec)) was so) k.parts.2));
      apart = subst Distinct b.places d;
      moved = subst (Moves m m s.places) b.places (moves_same m s.places);
    }

pub stead_here : (spec : Elements) (m n : Buckets) (at : DiskLoc) (height : ℕ) (b : Contents) (i : ℕ) (x y : Item) (r : Option Up) (up : DiskLoc) → m at ≡ Some (node_of b) → IsThere spec (map item_of b.pairs) x i → IsSettled m n at (with_item (node_of b) i y) r
    → IsExchanged spec m n at height x y up r
stead_here spec m n at height b i x y r up e t w s k there =
    let o = opened m up (least_at height) height s k.stands in
    let is = bucket_is m at up s (node_of b) o.0 o.1 (least_at height) k.here o.2 e in
    let t2 : IsThere spec o.0 x i = subst (λ (c : Node). IsThere spec c.pairs x i) is t in
    let p = stead_waits spec m up (least_at height) height s o.0 o.1 i x y o.2 o.3 k.apart k.order t2 in
    let long : 1 ≤ length (insert (remove o.0 i) i y) = omega (arith, ap length (put_back o.0 i y t2.inside), put_len o.0 i y t2.inside, t2.inside) in
    let w2 = subst (λ (c : Node). IsSettled m n at (with_item c i y) r) is w in
    let w3 = subst (λ (q : DiskLoc). IsSettled m n q (record { parent = up; pairs = insert (remove o.0 i) i y; kids = map at_of o.1 }) r) (sym k.here) w2 in
    subst (λ (q : DiskLoc). (ds : List Sub) × Became m n up height s.places (exchanged spec x y s.pairs) (roots_of q r) (between_of r) ds) k.here
    (settled m m n up s.at height s.places (exchanged spec x y s.pairs) (insert (remove o.0 i) i y) o.1 long p (λ f. let there = o.2.bucket in cc) r w3)

-- the children of a bucket that was read
pub read_kids : (spec : Elements) (m : Buckets) (at : DiskLoc) (height : ℕ) (b : Node) → ((up : DiskLoc) × (s : Sub) × StandsAt (item_lt spec) m up height s at) → m at ≡ Some b → AreThere m b.kids
read_kids spec m at height b t e =
    let o = opened m t.0 (least_at height) height t.1 t.2.stands in
    let is = bucket_is m at t.0 t.1 b o.0 o.1 (least_at height) t.2.here o.2 e in
    subst (λ (c : Node). AreThere m c.kids) (sym is) (some_there m t.1.at height o.0 o.1 o.3)

-- ---- above

list_in : (spec : Elements) (s : Sub) (ps : List Item) (cs : List Sub) (x y : Item) (F mine B : List Item) → s.pairs ≡ F ++ (mine ++ B) → IsLacking spec x F → IsLacking spec x B → F ++ (exchanged spec x y mine ++ B) ≡ exchanged spec x y s.pairs
list_in spec s ps cs x y F mine B e f b =
    sym (ap (exchanged spec x y) e
    ∙ (exchanged_parts spec x y F (mine ++ B)
    ∙ ((let one = exchanged_lacking spec x y F f in let two = exchanged_parts spec x y mine B ∙ ap (λ xs. exchanged spec x y mine ++ xs) (exchanged_lacking spec x y B b) in λ j. one j ++ two j))))

-- the pair isn't in a leaf with a gap for it
pub stead_missing : (spec : Elements) (m : Buckets) (at : DiskLoc) (height : ℕ) (b : Contents) (i : ℕ) (x y : Item) (up : DiskLoc) → height ≡ 0 → m at ≡ Some (node_of b) → IsGap spec (map item_of b.pairs) x i → IsExchanged spec m m at height x y up None
stead_missing spec m at height b i x y up low e g s k there = absurd (there (missing_in_leaf spec m at height b i x low e g up s k))

kid_has : (spec : Elements) (m : Buckets) (at up : DiskLoc) (height : ℕ) (s : Sub) (b : Contents) (i : ℕ) (x : Item) → StandsAt (item_lt spec) m up height s at → (o : Opens m at (height - 1) (node_of b) up s) → IsGap spec (map item_of b.pairs) x i → i ≤ length b.pairs → (IsLacking spec x s.pairs → ⊥)
    → IsLacking spec x (get_or o.1 i s).pairs → ⊥
kid_has spec m at up height s b i x k o g le there lacks =
    let c = open_cut m at up (height - 1) s b i o le in
    let g2 : IsGap spec o.0 x i = subst (λ (ps : List Item). IsGap spec ps x i) (open_pairs m at up (height - 1) s b o) g in
    let a = around_lack spec s o.0 o.1 x i c k.order g2 in
    let F = front (map pairs_of (take i o.1)) (take i o.0) in
    let B = back (map pairs_of (drop (suc i) o.1)) (drop i o.0) in
    let mine = (get_or o.1 i s).pairs in
    let A : Item → Type 0 = λ y. item_compare spec y x ≡ Equal → ⊥ in
    there (subst (IsLacking spec x) (sym c.woven) (all-both A F (mine ++ B) a.0 (all-both A mine B lacks a.1)))

-- the child that is to be looked into
pub stead_kid : (spec : Elements) (m : Buckets) (at kid : DiskLoc) (height : ℕ) (b : Contents) (i : ℕ) (x : Item) → ((up : DiskLoc) × (s : Sub) × StandsAt (item_lt spec) m up height s at × (IsLacking spec x s.pairs → ⊥)) → 0 < height → m at ≡ Some (node_of b) → IsGap spec (map item_of b.pairs) x i → kid ≡ child_at b i
    → (up : DiskLoc) × (s : Sub) × StandsAt (item_lt spec) m up (height - 1) s kid × (IsLacking spec x s.pairs → ⊥)
stead_kid spec m at kid height b i x t l e g is =
    let o = open_at spec m at t.0 height t.1 (node_of b) t.2 l e in
    let le : i ≤ length b.pairs = omega (arith, g.inside, length-map b.pairs item_of) in
    (t.1.at, get_or o.1 i t.1, kid_stands spec m at t.0 height t.1 b i kid t.2 o le is, kid_has spec m at t.0 height t.1 b i x t.2 o g le t.3)

-- what the child has become, to the bucket above
pub stead_left : (m n : Buckets) (up at kid : DiskLoc) (h : ℕ) (c : Sub) (list : List Item) (u : Option Up) (r : Outcome) → c.at ≡ kid → u ≡ ups r → (r ≡ Thin → ⊥) → ((ds : List Sub) × Became m n up h c.places list (roots_of kid u) (between_of u) ds) → IsLeft m n up h c list r
stead_left m n up at kid h c list u Thin here e f g = absurd (f refl)
stead_left m n up at kid h c list u Whole here e f g =
    subst (λ (q : DiskLoc). (ds : List Sub) × Became m n up h c.places list (q ∷ []) [] ds) (sym here) (subst (λ (v : Option Up). (ds : List Sub) × Became m n up h c.places list (roots_of kid v) (between_of v) ds) e g)
stead_left m n up at kid h c list u (Parted w) here e f g =
    subst (λ (q : DiskLoc). (ds : List Sub) × Became m n up h c.places list (q ∷ w.right ∷ []) (w.mid ∷ []) ds) (sym here) (subst (λ (v : Option Up). (ds : List Sub) × Became m n up h c.places list (roots_of kid v) (between_of v) ds) e g)

stead_above : (spec : Elements) (m n : Buckets) (at kid up : DiskLoc) (height : ℕ) (s : Sub) (b : Contents) (i : ℕ) (x y : Item) (u : Option Up) (r : Outcome) → StandsAt (item_lt spec) m up height s at → (IsLacking spec x s.pairs → ⊥) → (o : Opens m at (height - 1) (node_of b) up s)
    → IsGap spec (map item_of b.pairs) x i → kid ≡ child_at b i → u ≡ ups r → (r ≡ Thin → ⊥) → ((up : DiskLoc) → IsExchanged spec m n kid (height - 1) x y up u)
    → IsAbove (scene_of m up (height - 1) s o.0 o.1 (exchanged spec x y (get_or o.1 i s).pairs)) n at (node_of b) i r
stead_above spec m n at kid up height s b i x y u r k there o g is e f w =
    let le : i ≤ length b.pairs = omega (arith, g.inside, length-map b.pairs item_of) in
    let ks = kid_stands spec m at up height s b i kid k o le is in
    above_of m n at up (height - 1) s b i (exchanged spec x y (get_or o.1 i s).pairs) r o le
    (stead_left m n s.at at kid (height - 1) (get_or o.1 i s) (exchanged spec x y (get_or o.1 i s).pairs) u r ks.here e f (w s.at (get_or o.1 i s) ks (kid_has spec m at up height s b i x k o g le there)))

stead_list : (spec : Elements) (m : Buckets) (at up : DiskLoc) (height : ℕ) (s : Sub) (b : Contents) (i : ℕ) (x y : Item) → StandsAt (item_lt spec) m up height s at → (o : Opens m at (height - 1) (node_of b) up s) → IsGap spec (map item_of b.pairs) x i
    → list_above o.0 o.1 i (exchanged spec x y (get_or o.1 i s).pairs) ≡ exchanged spec x y s.pairs
stead_list spec m at up height s b i x y k o g =
    let le : i ≤ length b.pairs = omega (arith, g.inside, length-map b.pairs item_of) in
    let c = open_cut m at up (height - 1) s b i o le in
    let g2 : IsGap spec o.0 x i = subst (λ (ps : List Item). IsGap spec ps x i) (open_pairs m at up (height - 1) s b o) g in
    let a = around_lack spec s o.0 o.1 x i c k.order g2 in
    list_in spec s o.0 o.1 x y (front (map pairs_of (take i o.1)) (take i o.0)) (get_or o.1 i s).pairs (back (map pairs_of (drop (suc i) o.1)) (drop i o.0)) c.woven a.0 a.1

pub stead_none : (spec : Elements) (m n : Buckets) (at kid : DiskLoc) (height : ℕ) (b : Contents) (i : ℕ) (x y : Item) → 0 < height → m at ≡ Some (node_of b) → IsGap spec (map item_of b.pairs) x i → kid ≡ child_at b i
    → ((up : DiskLoc) → IsExchanged spec m n kid (height - 1) x y up None) → (up : DiskLoc) → IsExchanged spec m n at height x y up None
stead_none spec m n at kid height b i x y l e g is w up s k there =
    let o = open_at spec m at up height s (node_of b) k l e in
    let v = stead_above spec m n at kid up height s b i x y None Whole k there o g is refl (λ f. absurd cc) w in
    let r = whole_above (scene_of m up (height - 1) s o.0 o.1 (exchanged spec x y (get_or o.1 i s).pairs)) n at (node_of b) i v in
    subst (λ (q : DiskLoc). (ds : List Sub) × Became m n up height s.places (exchanged spec x y s.pairs) (q ∷ []) [] ds) k.here
    (subst (λ (z : ℕ). (ds : List Sub) × Became m n up z s.places (exchanged spec x y s.pairs) (s.at ∷ []) [] ds) (sym (deeper height l))
    (subst (λ (xs : List Item). (ds : List Sub) × Became m n up (suc (height - 1)) s.places xs (s.at ∷ []) [] ds) (stead_list spec m at up height s b i x y k o g) r))

-- the bucket above is there, and its children with the new one
pub stead_there : (spec : Elements) (m n : Buckets) (at kid : DiskLoc) (height : ℕ) (b : Contents) (i : ℕ) (x y : Item) (u : Up) → ((up : DiskLoc) × (s : Sub) × StandsAt (item_lt spec) m up height s at × (IsLacking spec x s.pairs → ⊥)) → 0 < height → m at ≡ Some (node_of b) → IsGap spec (map item_of b.pairs) x i → kid ≡ child_at b i
    → ((up : DiskLoc) → IsExchanged spec m n kid (height - 1) x y up (Some u)) → IsSome (n at) × AreThere n (insert (node_of b).kids (suc i) u.right)
stead_there spec m n at kid height b i x y u t l e g is w =
    let o = open_at spec m at t.0 height t.1 (node_of b) t.2 l e in
    let v = stead_above spec m n at kid t.0 height t.1 b i x y (Some u) (Parted u) t.2 t.3 o g is refl (λ f. absurd cc) w in
    parts_there (scene_of m t.0 (height - 1) t.1 o.0 o.1 (exchanged spec x y (get_or o.1 i t.1).pairs)) n at (node_of b) i u v

pub stead_some : (spec : Elements) (m n n2 : Buckets) (at kid : DiskLoc) (height : ℕ) (b : Contents) (i : ℕ) (x y : Item) (u : Up) (r : Option Up) → 0 < height → m at ≡ Some (node_of b) → IsGap spec (map item_of b.pairs) x i → kid ≡ child_at b i
    → ((up : DiskLoc) → IsExchanged spec m n kid (height - 1) x y up (Some u)) → IsSettled n n2 at (record (node_of b) { pairs = insert (node_of b).pairs i u.mid; kids = insert (node_of b).kids (suc i) u.right }) r → (up : DiskLoc) → IsExchanged spec m n2 at height x y up r
stead_some spec m n n2 at kid height b i x y u r l e g is w st up s k there =
    let o = open_at spec m at up height s (node_of b) k l e in
    let v = stead_above spec m n at kid up height s b i x y (Some u) (Parted u) k there o g is refl (λ f. absurd cc) w in
    let sc = scene_of m up (height - 1) s o.0 o.1 (exchanged spec x y (get_or o.1 i s).pairs) in
    let p = parts_above sc n at (node_of b) i u v in
    let st2 = subst (λ (c : Node). IsSettled n n2 at (record c { pairs = insert c.pairs i u.mid; kids = insert c.kids (suc i) u.right }) r) v.bucket st in
    let st3 = subst (λ (xs : List DiskLoc). IsSettled n n2 at (record { parent = up; pairs = insert o.0 i u.mid; kids = xs }) r) (sym p.1.kids) st2 in
    let st4 = subst (λ (q : DiskLoc). IsSettled n n2 q (record { parent = up; pairs = insert o.0 i u.mid; kids = map at_of p.0 }) r) (sym k.here) st3 in
    let there2 : n s.at ≢ None = λ f. let same = p.1.above in let had = v.over.bucket in cc in
    let done = settled m n n2 up s.at (suc (height - 1)) s.places (list_above o.0 o.1 i (exchanged spec x y (get_or o.1 i s).pairs)) (insert o.0 i u.mid) p.0 (omega (arith, length-append (take i o.0) (u.mid ∷ drop i o.0))) p.1.pending there2 r st4 in
    subst (λ (q : DiskLoc). (ds : List Sub) × Became m n2 up height s.places (exchanged spec x y s.pairs) (roots_of q r) (between_of r) ds) k.here
    (subst (λ (z : ℕ). (ds : List Sub) × Became m n2 up z s.places (exchanged spec x y s.pairs) (roots_of s.at r) (between_of r) ds) (sym (deeper height l))
    (subst (λ (xs : List Item). (ds : List Sub) × Became m n2 up (suc (height - 1)) s.places xs (roots_of s.at r) (between_of r) ds) (stead_list spec m at up height s b i x y k o g) done))
