-- What is owed where a bucket is mended, and what is left, in the words of the bucket in memory.
use Rattle.std.proofs.Common.{◌≡◌, ℕ, suc, ◌-◌, ◌<◌, ◌≤◌, get_or, List, [], ◌∷◌, length, map, Option, refl, sym, ap, ◌∙◌, subst, arith}
use Rattle.std.proofs.lemmas.List.{length-map, get_or-map}
use Rattle.mm_base.specs.Places.{null}
use Rattle.mm_base.specs.declared.place.DiskLoc.{DiskLoc}
use Rattle.mm_bucket.specs.Pairs.{Pair, Contents, blank, pair_at, child_at}
use Rattle.mm_btree.specs.Nodes.{Item, Node, Buckets, item_of, node_of}
use Rattle.mm_btree.specs.Trees.{at_of}
use Rattle.mm_btree.specs.Removal.{IsWritten, after_join, AreNeighbours, IsJoined, Scene, IsAbove, list_above, IsMended}
use Rattle.mm_btree.specs.declared.outcome.Outcome.{Outcome}
use Rattle.mm_btree.specs.declared.outcome.Outcome.TheVariants.{Thin}
use Rattle.mm_btree.proofs.Edits.{kids_none, kids_all}
use Rattle.mm_btree.proofs.Exchanges.{child_get}
use Rattle.mm_btree.proofs.Removals.{neighbours, two_behind, two_first, waits_behind, waits_first, AreWaiting, mended, scene_some}

-- ---- the bucket in memory is that of the scene

pub above_inside : (w : Scene) (n : Buckets) (at : DiskLoc) (b : Contents) (i : ℕ) (r : Outcome) → IsAbove w n at (node_of b) i r → i ≤ length b.pairs
above_inside w n at b i r v = omega (arith, v.inside, ap (λ (z : Node). length z.pairs) v.bucket, length-map b.pairs item_of)

pub above_some : (w : Scene) (n : Buckets) (at : DiskLoc) (b : Contents) (i : ℕ) (r : Outcome) → IsAbove w n at (node_of b) i r → 1 ≤ length b.pairs
above_some w n at b i r v = omega (arith, v.over.some, ap (λ (z : Node). length z.pairs) v.bucket, length-map b.pairs item_of)

pub above_next : (w : Scene) (n : Buckets) (at : DiskLoc) (b : Contents) (i : ℕ) (r : Outcome) → IsAbove w n at (node_of b) i r → b.next ≡ null → ⊥
above_next w n at b i r v f =
    let none : ◌≡◌ {A = List DiskLoc} [] (map at_of w.cs) = sym (kids_none b f) ∙ ap (λ (z : Node). z.kids) v.bucket in
    omega (arith, ap length none, length-map w.cs at_of, v.below.0)

kid_at : (w : Scene) (n : Buckets) (at : DiskLoc) (b : Contents) (i : ℕ) (r : Outcome) → IsAbove w n at (node_of b) i r → (j : ℕ) → j ≤ length b.pairs → (get_or w.cs j w.s).at ≡ child_at b j
kid_at w n at b i r v j le =
    let long : length w.ps ≡ length b.pairs = sym (ap (λ (z : Node). length z.pairs) v.bucket) ∙ length-map b.pairs item_of in
    sym (get_or-map at_of w.cs j w.s null (omega (arith, v.below.0, long, le)))
    ∙ (ap (λ (z : Node). get_or z.kids j null) (sym v.bucket)
    ∙ (ap (λ (xs : List DiskLoc). get_or xs j null) (kids_all b (above_next w n at b i r v)) ∙ child_get b j le))

mid_at : (w : Scene) (n : Buckets) (at : DiskLoc) (b : Contents) (i : ℕ) (r : Outcome) → IsAbove w n at (node_of b) i r → (j : ℕ) → j < length b.pairs → get_or w.ps j (item_of blank) ≡ item_of (pair_at b.pairs j)
mid_at w n at b i r v j lt = ap (λ (z : Node). get_or z.pairs j (item_of blank)) (sym v.bucket) ∙ get_or-map item_of b.pairs j blank (item_of blank) lt

-- ---- a child behind another

behind : (w : Scene) (n : Buckets) (at : DiskLoc) (b : Contents) (i : ℕ) → 1 ≤ i → IsAbove w n at (node_of b) i Thin → IsAbove w n at (node_of b) (suc (i - 1)) Thin
behind w n at b i some v = let same : i ≡ suc (i - 1) = omega (arith, some) in subst (λ (k : ℕ). IsAbove w n at (node_of b) k Thin) same v

pub behind_two : (w : Scene) (n : Buckets) (at : DiskLoc) (b : Contents) (i : ℕ) (left right : DiskLoc) → 1 ≤ i → IsAbove w n at (node_of b) i Thin → left ≡ child_at b (i - 1) → right ≡ child_at b i
    → (c d : Node) × AreNeighbours n left right c d × (d.pairs ≡ [])
behind_two w n at b i left right some v el er =
    let j = i - 1 in
    let u = behind w n at b i some v in
    let le = above_inside w n at b i Thin v in
    let same : suc j ≡ i = omega (arith, some) in
    let k = neighbours w.m n w.s.at w.h (get_or w.cs j w.s) (get_or w.cs (suc j) w.s) (get_or w.cs j w.s) u.child.0 (two_behind w n at (node_of b) j (item_of blank) u) in
    let one : (get_or w.cs j w.s).at ≡ left = kid_at w n at b i Thin v j (omega (arith, le)) ∙ sym el in
    let two : u.child.0.at ≡ right = u.child.1.at ∙ (kid_at w n at b i Thin v (suc j) (omega (arith, le, some)) ∙ (ap (child_at b) same ∙ sym er)) in
    (k.0, k.1, subst (λ (q : DiskLoc). AreNeighbours n left q k.0 k.1) two (subst (λ (q : DiskLoc). AreNeighbours n q u.child.0.at k.0 k.1) one k.2), u.child.3 k.1 k.2.right)

pub behind_waits : (w : Scene) (n o : Buckets) (at : DiskLoc) (b : Contents) (i : ℕ) (left right : DiskLoc) (y : Item) (r : Option Item) → 1 ≤ i → IsAbove w n at (node_of b) i Thin → left ≡ child_at b (i - 1) → right ≡ child_at b i → y ≡ item_of (pair_at b.pairs (i - 1))
    → ((c d : Node) → AreNeighbours n left right c d → d.pairs ≡ [] → IsJoined n o left right c y d r) → AreWaiting w o (node_of b) (i - 1) r (list_above w.ps w.cs i w.mine)
behind_waits w n o at b i left right y r some v el er ey f =
    let j = i - 1 in
    let u = behind w n at b i some v in
    let le = above_inside w n at b i Thin v in
    let same : suc j ≡ i = omega (arith, some) in
    let k = neighbours w.m n w.s.at w.h (get_or w.cs j w.s) (get_or w.cs (suc j) w.s) (get_or w.cs j w.s) u.child.0 (two_behind w n at (node_of b) j (item_of blank) u) in
    let one : (get_or w.cs j w.s).at ≡ left = kid_at w n at b i Thin v j (omega (arith, le)) ∙ sym el in
    let two : u.child.0.at ≡ right = u.child.1.at ∙ (kid_at w n at b i Thin v (suc j) (omega (arith, le, some)) ∙ (ap (child_at b) same ∙ sym er)) in
    let here = subst (λ (q : DiskLoc). AreNeighbours n left q k.0 k.1) two (subst (λ (q : DiskLoc). AreNeighbours n q u.child.0.at k.0 k.1) one k.2) in
    let mid : y ≡ get_or w.ps j (item_of blank) = ey ∙ sym (mid_at w n at b i Thin v j (omega (arith, le, some))) in
    let g = f k.0 k.1 here (u.child.3 k.1 k.2.right) in
    let g2 = subst (λ (q : DiskLoc). IsJoined n o q right k.0 y k.1 r) (sym one) g in
    let g3 = subst (λ (q : DiskLoc). IsJoined n o (get_or w.cs j w.s).at q k.0 y k.1 r) (sym two) g2 in
    subst (λ (z : ℕ). AreWaiting w o (node_of b) j r (list_above w.ps w.cs z w.mine)) same
    (waits_behind w n o at (node_of b) j (item_of blank) k.0 k.1 r u k.2 (subst (λ (z : Item). IsJoined n o (get_or w.cs j w.s).at u.child.0.at k.0 z k.1 r) mid g3))

-- ---- the first child

pub first_two : (w : Scene) (n : Buckets) (at : DiskLoc) (b : Contents) (left right : DiskLoc) → IsAbove w n at (node_of b) 0 Thin → left ≡ child_at b 0 → right ≡ child_at b 1
    → (c d : Node) × AreNeighbours n left right c d × (c.pairs ≡ [])
first_two w n at b left right v el er =
    let some = above_some w n at b 0 Thin v in
    let k = neighbours w.m n w.s.at w.h (get_or w.cs 0 w.s) (get_or w.cs 1 w.s) v.child.0 (get_or w.cs 1 w.s) (two_first w n at (node_of b) (item_of blank) v) in
    let one : v.child.0.at ≡ left = v.child.1.at ∙ (kid_at w n at b 0 Thin v 0 (omega arith) ∙ sym el) in
    let two : (get_or w.cs 1 w.s).at ≡ right = kid_at w n at b 0 Thin v 1 (omega (arith, some)) ∙ sym er in
    (k.0, k.1, subst (λ (q : DiskLoc). AreNeighbours n left q k.0 k.1) two (subst (λ (q : DiskLoc). AreNeighbours n q (get_or w.cs 1 w.s).at k.0 k.1) one k.2), v.child.3 k.0 k.2.left)

pub first_waits : (w : Scene) (n o : Buckets) (at : DiskLoc) (b : Contents) (left right : DiskLoc) (y : Item) (r : Option Item) → IsAbove w n at (node_of b) 0 Thin → left ≡ child_at b 0 → right ≡ child_at b 1 → y ≡ item_of (pair_at b.pairs 0)
    → ((c d : Node) → AreNeighbours n left right c d → c.pairs ≡ [] → IsJoined n o left right c y d r) → AreWaiting w o (node_of b) 0 r (list_above w.ps w.cs 0 w.mine)
first_waits w n o at b left right y r v el er ey f =
    let some = above_some w n at b 0 Thin v in
    let k = neighbours w.m n w.s.at w.h (get_or w.cs 0 w.s) (get_or w.cs 1 w.s) v.child.0 (get_or w.cs 1 w.s) (two_first w n at (node_of b) (item_of blank) v) in
    let one : v.child.0.at ≡ left = v.child.1.at ∙ (kid_at w n at b 0 Thin v 0 (omega arith) ∙ sym el) in
    let two : (get_or w.cs 1 w.s).at ≡ right = kid_at w n at b 0 Thin v 1 (omega (arith, some)) ∙ sym er in
    let here = subst (λ (q : DiskLoc). AreNeighbours n left q k.0 k.1) two (subst (λ (q : DiskLoc). AreNeighbours n q (get_or w.cs 1 w.s).at k.0 k.1) one k.2) in
    let mid : y ≡ get_or w.ps 0 (item_of blank) = ey ∙ sym (mid_at w n at b 0 Thin v 0 some) in
    let g = f k.0 k.1 here (v.child.3 k.0 k.2.left) in
    let g2 = subst (λ (q : DiskLoc). IsJoined n o q right k.0 y k.1 r) (sym one) g in
    let g3 = subst (λ (q : DiskLoc). IsJoined n o v.child.0.at q k.0 y k.1 r) (sym two) g2 in
    waits_first w n o at (node_of b) (item_of blank) k.0 k.1 r v k.2 (subst (λ (z : Item). IsJoined n o v.child.0.at (get_or w.cs 1 w.s).at k.0 z k.1 r) mid g3)

-- ---- what the whole call leaves

pub mended_at : (w : Scene) (n o o2 : Buckets) (at : DiskLoc) (b : Contents) (i j : ℕ) (r : Option Item) (out : Outcome) → IsAbove w n at (node_of b) i Thin → AreWaiting w o (node_of b) j r (list_above w.ps w.cs i w.mine)
    → IsWritten o o2 at (after_join (node_of b) j r) out → IsMended w o2 i out
mended_at w n o o2 at b i j r out v k y =
    mended w o o2 (node_of b) i j r out k (scene_some w n at (node_of b) i Thin v) (subst (λ (q : DiskLoc). IsWritten o o2 q (after_join (node_of b) j r) out) (sym v.here) y)

pub no_items : (ps : List Pair) → length ps ≡ 0 → map item_of ps ≡ []
no_items [] e = refl
no_items (p ∷ ps) e = absurd (omega (arith, e))
