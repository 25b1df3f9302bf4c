-- Two neighbours, of which one has no pairs, as one bucket into which the pair between is put.
use Rattle.std.proofs.Common.{◌≡◌, ◌⊎◌, inl, inr, ℕ, zero, suc, ◌<◌, ◌≤◌, Bool, true, false, cond, get_or, List, [], ◌∷◌, ◌++◌, length, map, take, drop, insert, Option, Some, None, IsSome, refl, sym, ap, ◌∙◌, subst, arith}
use Rattle.std.specs.List.{AllByRecursion}
use Rattle.std.proofs.lemmas.List.{length-map}
use Rattle.std.proofs.lemmas.Bool.{cases_Bool}
use Rattle.mm_base.specs.Places.{null}
use Rattle.mm_base.specs.declared.place.DiskLoc.{DiskLoc}
use Rattle.mm_bucket.specs.Pairs.{Pair, Contents, child_at, with_child, with_pair}
use Rattle.mm_bucket.specs.Rules.{left_of, children, IsNull, IsPlace, AreAlike}
use Rattle.mm_btree.specs.Nodes.{Item, Node, Buckets, item_of, node_of, place_eq, put, with_parent}
use Rattle.mm_btree.specs.Lists.{has}
use Rattle.mm_btree.specs.Changes.{adopted, AreThere, IsSettled, joined_node}
use Rattle.mm_btree.specs.Removal.{AreNeighbours, up_at, IsJoined}
use Rattle.mm_btree.proofs.Places.{place_eq-true, place_eq-is}
use Rattle.mm_btree.proofs.ListLaws.{has-append}
use Rattle.mm_btree.proofs.TwoLists.{children_put, items_put}
use Rattle.mm_btree.proofs.Edits.{same_node, kids_none, kids_all, leaf_alike, leaf_put, inner_alike, inner_put, children_len}
use Rattle.mm_btree.proofs.Exchanges.{children_with, items_with, parent_with, null_children, place_children, last_of, child_get}

insert_end : {P : Type 0} (xs : List P) (n : ℕ) (x : P) → n ≡ length xs → take n xs ++ x ∷ drop n xs ≡ xs ++ x ∷ []
insert_end [] zero x e = refl
insert_end [] (suc n) x e = absurd (omega (arith, e))
insert_end (y ∷ ys) zero x e = absurd (omega (arith, e))
insert_end (y ∷ ys) (suc n) x e = ap (λ zs. y ∷ zs) (insert_end ys n x (omega (arith, e)))

is_null : (q : DiskLoc) → (q ≡ null) ⊎ (q ≡ null → ⊥)
is_null q = by (place_eq q null) refl
  where
    by : (t : Bool) → place_eq q null ≡ t → (q ≡ null) ⊎ (q ≡ null → ⊥)
    by true e = inl (place_eq-true q null e)
    by false e = inr (λ f. let two = place_eq-is q null f in cc)

no_pairs : (t : Contents) → map item_of t.pairs ≡ [] → t.pairs ≡ []
no_pairs t e = by t.pairs e
  where
    by : (ps : List Pair) → map item_of ps ≡ [] → ps ≡ []
    by [] e = refl
    by (p ∷ ps) e = absurd (omega (arith, ap length e))

one_child : (t : Contents) → t.pairs ≡ [] → children t ≡ t.next ∷ []
one_child t e = ap (λ (ps : List Pair). map left_of ps ++ t.next ∷ []) e

pub record IsOne (c b : Contents) (y : Item) (t : Contents) : Type 0 where
  pub node : node_of c ≡ joined_node (node_of b) y (node_of t)
  pub alike : AreAlike (children c)

-- the right one has no pairs
pub one_behind : (w t : Contents) (n : ℕ) (key : List ℕ) (rec : DiskLoc) → n ≡ length w.pairs → map item_of t.pairs ≡ [] → AreAlike (children w) → ((node_of t).kids ≡ [] → (node_of w).kids ≡ []) → ((node_of w).kids ≡ [] → (node_of t).kids ≡ [])
    → IsOne (with_pair w n key rec t.next) w (record { key = key; rec = rec }) t
one_behind w t n key rec e none a leaf inner = by (is_null t.next) (is_null w.next)
  where
    y : Item
    y = record { key = key; rec = rec }

    le : n ≤ length w.pairs
    le = omega (arith, e)

    items : insert (map item_of w.pairs) n y ≡ map item_of w.pairs ++ y ∷ map item_of t.pairs
    items = insert_end (map item_of w.pairs) n y (e ∙ sym (length-map w.pairs item_of)) ∙ ap (λ xs. map item_of w.pairs ++ y ∷ xs) (sym none)

    many : (xs : List DiskLoc) → xs ≡ [] → xs ≡ children w → ⊥
    many xs f g = omega (arith, ap length f, ap length g, children_len w)

    single : (xs : List DiskLoc) → xs ≡ [] → xs ≡ children t → ⊥
    single xs f g = omega (arith, ap length f, ap length g, children_len t)

    by : ((t.next ≡ null) ⊎ (t.next ≡ null → ⊥)) → ((w.next ≡ null) ⊎ (w.next ≡ null → ⊥)) → IsOne (with_pair w n key rec t.next) w y t
    by (inl f) (inl g) =
        subst (λ (q : DiskLoc). IsOne (with_pair w n key rec q) w y t) (sym f)
        (record {
          node = leaf_put w n key rec le a g
              ∙ same_node (record (node_of w) { pairs = insert (node_of w).pairs n y }) (joined_node (node_of w) y (node_of t)) refl items
              (kids_none w g ∙ sym ((let one = kids_none w g in let two = kids_none t f in λ j. one j ++ two j)));
          alike = leaf_alike w n key rec le a g;
        })
    by (inl f) (inr g) = absurd (many (node_of w).kids (leaf (kids_none t f)) (kids_all w g))
    by (inr f) (inl g) = absurd (single (node_of t).kids (inner (kids_none w g)) (kids_all t f))
    by (inr f) (inr g) = record {
      node = inner_put w n key rec t.next le a g f
          ∙ same_node (record (node_of w) { pairs = insert (node_of w).pairs n y; kids = insert (node_of w).kids (suc n) t.next }) (joined_node (node_of w) y (node_of t)) refl items
          (insert_end (node_of w).kids (suc n) t.next (omega (arith, e, children_len w, ap length (kids_all w g)))
          ∙ ap (λ xs. (node_of w).kids ++ xs) (sym (kids_all t f ∙ one_child t (no_pairs t none))));
      alike = inner_alike w n key rec t.next le a g f;
    }

head_tail : (xs : List DiskLoc) → 0 < length xs → get_or xs 0 null ∷ drop 1 xs ≡ xs
head_tail [] lt = absurd (omega (arith, lt))
head_tail (x ∷ xs) lt = refl

-- the left one has none
abbrev pub turned : Contents → DiskLoc → List ℕ → DiskLoc → Contents
turned w last key rec = with_pair (with_child w 0 last) 0 key rec (child_at w 0)

turned_children : (w : Contents) (last : DiskLoc) (key : List ℕ) (rec : DiskLoc) → children (turned w last key rec) ≡ last ∷ children w
turned_children w last key rec =
    children_put (with_child w 0 last) 0 key rec (child_at w 0) (omega arith)
    ∙ (ap (λ (xs : List DiskLoc). insert xs 1 (child_at w 0)) (children_with w 0 last (omega arith))
    ∙ (ap (λ (q : DiskLoc). last ∷ q ∷ drop 1 (children w)) (sym (child_get w 0 (omega arith)))
    ∙ ap (λ xs. last ∷ xs) (head_tail (children w) (omega (arith, children_len w)))))

pub one_before : (w t : Contents) (key : List ℕ) (rec : DiskLoc) → w.parent ≡ t.parent → map item_of t.pairs ≡ [] → AreAlike (children w) → ((node_of t).kids ≡ [] → (node_of w).kids ≡ []) → ((node_of w).kids ≡ [] → (node_of t).kids ≡ [])
    → IsOne (turned w t.next key rec) t (record { key = key; rec = rec }) w
one_before w t key rec up none a leaf inner = by (is_null t.next) (is_null w.next)
  where
    y : Item
    y = record { key = key; rec = rec }

    c : Contents
    c = turned w t.next key rec

    parents : c.parent ≡ t.parent
    parents = parent_with (with_child w 0 t.next) 0 (child_at w 0) ∙ (parent_with w 0 t.next ∙ up)

    items : map item_of c.pairs ≡ map item_of t.pairs ++ y ∷ map item_of w.pairs
    items = items_put (with_child w 0 t.next) 0 key rec (child_at w 0) (omega arith)
        ∙ (ap (λ xs. y ∷ xs) (items_with w 0 t.next (omega arith)) ∙ ap (λ xs. xs ++ y ∷ map item_of w.pairs) (sym none))

    many : (xs : List DiskLoc) → xs ≡ [] → xs ≡ children w → ⊥
    many xs f g = omega (arith, ap length f, ap length g, children_len w)

    single : (xs : List DiskLoc) → xs ≡ [] → xs ≡ children t → ⊥
    single xs f g = omega (arith, ap length f, ap length g, children_len t)

    by : ((t.next ≡ null) ⊎ (t.next ≡ null → ⊥)) → ((w.next ≡ null) ⊎ (w.next ≡ null → ⊥)) → IsOne c t y w
    by (inl f) (inl g) =
        let all : AllByRecursion IsNull (children c) = subst (AllByRecursion IsNull) (sym (turned_children w t.next key rec)) (f, null_children w a g) in
        record {
          node = same_node (node_of c) (joined_node (node_of t) y (node_of w)) parents items
              (kids_none c (last_of IsNull c all) ∙ sym ((let one = kids_none t f in let two = kids_none w g in λ j. one j ++ two j)));
          alike = inl all;
        }
    by (inl f) (inr g) = absurd (many (node_of w).kids (leaf (kids_none t f)) (kids_all w g))
    by (inr f) (inl g) = absurd (single (node_of t).kids (inner (kids_none w g)) (kids_all t f))
    by (inr f) (inr g) =
        let all : AllByRecursion IsPlace (children c) = subst (AllByRecursion IsPlace) (sym (turned_children w t.next key rec)) (f, place_children w a g) in
        record {
          node = same_node (node_of c) (joined_node (node_of t) y (node_of w)) parents items
              (kids_all c (last_of IsPlace c all) ∙ (turned_children w t.next key rec
              ∙ sym ((let one = kids_all t f ∙ one_child t (no_pairs t none) in let two = kids_all w g in λ j. one j ++ two j))));
          alike = inr all;
        }

-- ---- the buckets while this goes on

pub adopted_some : (m n : Buckets) (kids : List DiskLoc) (up q : DiskLoc) → ((z : DiskLoc) → n z ≡ adopted m kids up z) → IsSome (m q) → IsSome (n q)
adopted_some m n kids up q same h = subst IsSome (sym (same q)) (by (m q) (has q kids) h)
  where
    by : (b : Option Node) (t : Bool) → IsSome b → IsSome (cond t (with_parent up b) b)
    by None t h = absurd cc
    by (Some b) true h = h
    by (Some b) false h = h

pub seen_some : (m : Buckets) (q : DiskLoc) (b : Node) → m q ≡ Some b → IsSome (m q)
seen_some m q b e = subst IsSome (sym e) refl

-- the children of both are there
pub joined_kids : (m n : Buckets) (left right : DiskLoc) (b d x : Node) (y : Item) → AreNeighbours m left right b d → ((z : DiskLoc) → n z ≡ adopted m d.kids left z) → x ≡ joined_node b y d → AreThere n x.kids
joined_kids m n left right b d x y k same is q h =
    adopted_some m n d.kids left q same (by (cases_Bool (has q b.kids)) (subst (λ (xs : List DiskLoc). has q xs ≡ true) (ap (λ (z : Node). z.kids) is) h))
  where
    by : ((has q b.kids ≡ true) ⊎ (has q b.kids ≡ false)) → has q (b.kids ++ d.kids) ≡ true → IsSome (m q)
    by (inl e) f = k.left_kids q e
    by (inr e) f = k.right_kids q (sym (rw (has-append q b.kids d.kids, e) refl) ∙ f)

pub joins : (m n o : Buckets) (left right : DiskLoc) (b d x : Node) (y : Item) (r : Option Item) → ((z : DiskLoc) → n z ≡ adopted m d.kids left z) → x ≡ joined_node b y d → IsSettled (put n right None) o left x (up_at right r) → IsJoined m o left right b y d r
joins m n o left right b d x y r same is s =
    (put n right None, λ q. ap (λ (z : Option Node). cond (place_eq q right) None z) (same q), subst (λ (z : Node). IsSettled (put n right None) o left z (up_at right r)) is s)

pub same_bucket : (m : Buckets) (q : DiskLoc) (b c : Node) → m q ≡ Some b → m q ≡ Some c → b ≡ c
same_bucket m q b c e f = let three : Some b ≡ Some c = sym e ∙ f in cc

pub put_over : (m : Buckets) (r q : DiskLoc) (b : Option Node) → put m r b q ≡ put (put m r None) r b q
put_over m r q b = by (place_eq q r)
  where
    by : (t : Bool) → cond t b (m q) ≡ cond t b (cond t None (m q))
    by true = refl
    by false = refl

-- the two as they were read
seen : (m : Buckets) (left right : DiskLoc) (b d bb dd : Node) → AreNeighbours m left right b d → m left ≡ Some bb → m right ≡ Some dd → AreNeighbours m left right bb dd
seen m left right b d bb dd k e f =
    subst (λ (x : Node). AreNeighbours m left right x dd) (same_bucket m left b bb k.left e) (subst (λ (x : Node). AreNeighbours m left right b x) (same_bucket m right d dd k.right f) k)

pub behind_one : (m : Buckets) (left right : DiskLoc) (b d : Node) (w t : Contents) (n : ℕ) (key : List ℕ) (rec after : DiskLoc) → AreNeighbours m left right b d → d.pairs ≡ [] → m left ≡ Some (node_of w) → m right ≡ Some (node_of t) → AreAlike (children w) → n ≡ length w.pairs → after ≡ t.next
    → IsOne (with_pair w n key rec after) w (record { key = key; rec = rec }) t
behind_one m left right b d w t n key rec after k none e f a len is =
    let v = seen m left right b d (node_of w) (node_of t) k e f in
    let bare : map item_of t.pairs ≡ [] = ap (λ (x : Node). x.pairs) (same_bucket m right (node_of t) d f k.right) ∙ none in
    subst (λ (q : DiskLoc). IsOne (with_pair w n key rec q) w (record { key = key; rec = rec }) t) (sym is) (one_behind w t n key rec len bare a v.leaf v.inner)

pub before_one : (m : Buckets) (left right : DiskLoc) (b d : Node) (w t x : Contents) (key : List ℕ) (rec after last : DiskLoc) → AreNeighbours m left right b d → b.pairs ≡ [] → m left ≡ Some (node_of t) → m right ≡ Some (node_of w) → AreAlike (children w) → x ≡ with_child w 0 last → last ≡ t.next → after ≡ child_at w 0
    → IsOne (with_pair x 0 key rec after) t (record { key = key; rec = rec }) w
before_one m left right b d w t x key rec after last k none e f a is il ia =
    let v = seen m left right b d (node_of t) (node_of w) k e f in
    let bare : map item_of t.pairs ≡ [] = ap (λ (z : Node). z.pairs) (same_bucket m left (node_of t) b e k.left) ∙ none in
    let same : with_pair x 0 key rec after ≡ turned w t.next key rec = (let whole = is ∙ ap (with_child w 0) il in λ j. with_pair (whole j) 0 key rec (ia j)) in
    subst (λ (z : Contents). IsOne z t (record { key = key; rec = rec }) w) (sym same) (one_before w t key rec v.parent bare a v.inner v.leaf)

-- the children of both are there once those of the right one have the left one as their parent
pub one_kids : (m n : Buckets) (left right : DiskLoc) (b d : Node) (w t c : Contents) (y : Item) → AreNeighbours m left right b d → m left ≡ Some (node_of w) → m right ≡ Some (node_of t) → ((z : DiskLoc) → n z ≡ adopted m (node_of t).kids left z) → IsOne c w y t → AreThere n (node_of c).kids
one_kids m n left right b d w t c y k e f same one = joined_kids m n left right (node_of w) (node_of t) (node_of c) y (seen m left right b d (node_of w) (node_of t) k e f) same one.node

pub right_kids_there : (m : Buckets) (left right : DiskLoc) (b d : Node) (t : Contents) → AreNeighbours m left right b d → m right ≡ Some (node_of t) → AreThere m (node_of t).kids
right_kids_there m left right b d t k f = subst (λ (x : Node). AreThere m x.kids) (same_bucket m right d (node_of t) k.right f) k.right_kids

-- what both calls leave
pub one_joined : (m n o : Buckets) (left right : DiskLoc) (b d : Node) (w t c : Contents) (y : Item) (r : Option Item) → AreNeighbours m left right b d → m left ≡ Some (node_of w) → m right ≡ Some (node_of t) → ((z : DiskLoc) → n z ≡ adopted m (node_of t).kids left z) → IsOne c w y t
    → IsSettled (put n right None) o left (node_of c) (up_at right r) → IsJoined m o left right b y d r
one_joined m n o left right b d w t c y r k e f same one s =
    subst (λ (x : Node). IsJoined m o left right x y d r) (same_bucket m left (node_of w) b e k.left)
    (subst (λ (x : Node). IsJoined m o left right (node_of w) y x r) (same_bucket m right (node_of t) d f k.right)
    (joins m n o left right (node_of w) (node_of t) (node_of c) y r same one.node s))
