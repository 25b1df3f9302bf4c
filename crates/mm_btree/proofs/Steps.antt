-- Steps of the loop that gives children another parent, and what the writing of two parts does to buckets.
use Rattle.std.proofs.lemmas.Bool.{or_right, cases_Bool}
use Rattle.std.proofs.Common.{◌≡◌, ◌⊎◌, inl, inr, ℕ, zero, suc, ◌≤◌, Bool, true, false, List, [], ◌∷◌, ◌++◌, length, take, drop, slice_get, Option, Some, None, IsSome, cond, refl, sym, ap, ◌∙◌, subst, arith}
use Rattle.mm_base.specs.declared.place.DiskLoc.{DiskLoc}
use Rattle.mm_btree.specs.Nodes.{Item, Node, Buckets, place_eq, with_parent, put}
use Rattle.mm_btree.specs.Lists.{has}
use Rattle.mm_btree.specs.Changes.{adopted, AreThere, IsParted, IsSettled, IsSplit}
use Rattle.mm_btree.proofs.Places.{place_eq-true, place_eq-is}
use Rattle.mm_btree.proofs.ListLaws.{has-append}
use Rattle.mm_btree.proofs.Edits.{same_node}

twice : (up : DiskLoc) (b : Option Node) → with_parent up (with_parent up b) ≡ with_parent up b
twice up None = refl
twice up (Some b) = refl

pub adopted_more : (m n n2 : Buckets) (kids : List DiskLoc) (up kid : DiskLoc) → ((q : DiskLoc) → n q ≡ adopted m kids up q) → ((q : DiskLoc) → n2 q ≡ put n kid (with_parent up (n kid)) q)
    → (q : DiskLoc) → n2 q ≡ adopted m (kids ++ kid ∷ []) up q
adopted_more m n n2 kids up kid same next q = next q ∙ by (cases_Bool (place_eq q kid)) (cases_Bool (has q kids)) (cases_Bool (has kid kids))
  where
    at_kid : ((has kid kids ≡ true) ⊎ (has kid kids ≡ false)) → put n kid (with_parent up (n kid)) kid ≡ adopted m (kids ++ kid ∷ []) up kid
    at_kid (inl f) = rw (has-append kid kids (kid ∷ []), place_eq-is kid kid refl, same kid, f) (twice up (m kid))
    at_kid (inr f) = rw (has-append kid kids (kid ∷ []), place_eq-is kid kid refl, same kid, f) refl

    by : ((place_eq q kid ≡ true) ⊎ (place_eq q kid ≡ false)) → ((has q kids ≡ true) ⊎ (has q kids ≡ false)) → ((has kid kids ≡ true) ⊎ (has kid kids ≡ false))
        → put n kid (with_parent up (n kid)) q ≡ adopted m (kids ++ kid ∷ []) up q
    by (inl e) k f = subst (λ (z : DiskLoc). put n kid (with_parent up (n kid)) z ≡ adopted m (kids ++ kid ∷ []) up z) (sym (place_eq-true q kid e)) (at_kid f)
    by (inr e) (inl f) k = rw (has-append q kids (kid ∷ []), e, f, same q, f) refl
    by (inr e) (inr f) k = rw (has-append q kids (kid ∷ []), e, f, same q, f) refl

pub still_there : (m n : Buckets) (kids done : List DiskLoc) (up q : DiskLoc) → AreThere m kids → n q ≡ adopted m done up q → has q kids ≡ true → IsSome (n q)
still_there m n kids done up q there same k = subst IsSome (sym same) (by (m q) (has q done) (there q k))
  where
    by : (b : Option Node) (t : Bool) → IsSome b → IsSome (cond t (with_parent up b) b)
    by None t h = absurd cc
    by (Some b) true h = h
    by (Some b) false h = h

abbrev value : DiskLoc → Option DiskLoc → DiskLoc
value d None = d
value d (Some x) = x

pub has_at : (xs : List DiskLoc) (i : ℕ) (x : DiskLoc) → slice_get xs i ≡ Some x → has x xs ≡ true
has_at [] zero x e = absurd cc
has_at [] (suc i) x e = absurd cc
has_at (y ∷ xs) zero x e = rw (place_eq-is x y (sym (ap (value x) e))) refl
has_at (y ∷ xs) (suc i) x e = or_right (place_eq x y) (has x xs) (has_at xs i x e)

pub take_more : (xs : List DiskLoc) (i : ℕ) (x : DiskLoc) → slice_get xs i ≡ Some x → take (suc i) xs ≡ take i xs ++ x ∷ []
take_more [] zero x e = absurd cc
take_more [] (suc i) x e = absurd cc
take_more (y ∷ xs) zero x e = ap (λ (z : DiskLoc). z ∷ []) (ap (value x) e)
take_more (y ∷ xs) (suc i) x e = ap (λ zs. y ∷ zs) (take_more xs i x e)

pub take_whole : (xs : List DiskLoc) (n : ℕ) → length xs ≤ n → take n xs ≡ xs
take_whole [] zero le = refl
take_whole [] (suc n) le = refl
take_whole (x ∷ xs) zero le = absurd (omega (arith, le))
take_whole (x ∷ xs) (suc n) le = ap (λ zs. x ∷ zs) (take_whole xs n (omega (arith, le)))

-- no child: nothing changes
pub adopted_none : (m : Buckets) (kids : List DiskLoc) (up : DiskLoc) → kids ≡ [] → (q : DiskLoc) → m q ≡ adopted m kids up q
adopted_none m kids up e q = ap (λ (xs : List DiskLoc). adopted m xs up q) (sym e)

-- ---- two parts

has-drop : (q : DiskLoc) (k : ℕ) (xs : List DiskLoc) → has q (drop k xs) ≡ true → has q xs ≡ true
has-drop q zero xs e = e
has-drop q (suc k) [] e = e
has-drop q (suc k) (x ∷ xs) e = or_right (place_eq q x) (has q xs) (has-drop q k xs e)

pub put_there : (m : Buckets) (at q : DiskLoc) (b : Node) → IsSome (m q) → IsSome (put m at (Some b) q)
put_there m at q b h = by (place_eq q at)
  where
    by : (t : Bool) → IsSome (cond t (Some b) (m q))
    by true = refl
    by false = h

pub ready : (m n n2 : Buckets) (kids xs : List DiskLoc) (k : ℕ) (at place : DiskLoc) (a b : Node) → AreThere m kids → xs ≡ drop k kids → ((q : DiskLoc) → n q ≡ put m place (Some a) q) → ((q : DiskLoc) → n2 q ≡ put n at (Some b) q) → AreThere n2 xs
ready m n n2 kids xs k at place a b there e one two q h =
    subst IsSome (sym (two q)) (put_there n at q b (subst IsSome (sym (one q)) (put_there m place q a (there q (has-drop q k kids (subst (λ (ys : List DiskLoc). has q ys ≡ true) e h))))))

pub parted : (m n n2 n3 : Buckets) (at r : DiskLoc) (b l c : Node) (mid : Item) → IsSplit b l mid c → m r ≡ None → ((q : DiskLoc) → n q ≡ put m r (Some c) q) → ((q : DiskLoc) → n2 q ≡ put n at (Some l) q)
    → ((q : DiskLoc) → n3 q ≡ adopted n2 c.kids r q) → IsParted m n3 at b (record { mid = mid; right = r }) l.pairs c.pairs
parted m n n2 n3 at r b l c mid s free one two three = record {
  pairs = s.pairs;
  some = s.some;
  more = s.more;
  free = free;
  same = λ q. three q
      ∙ (ap (λ (z : Option Node). cond (has q c.kids) (with_parent r z) z) (two q ∙ ap (λ (z : Option Node). cond (place_eq q at) (Some l) z) (one q))
      ∙ (ap (λ (x : Node). adopted (put (put m r (Some c)) at (Some x)) c.kids r q) left
      ∙ ap (λ (y : Node). adopted (put (put m r (Some y)) at (Some (record { parent = b.parent; pairs = l.pairs; kids = take (suc (length l.pairs)) b.kids }))) y.kids r q) right));
}
  where
    left : l ≡ record { parent = b.parent; pairs = l.pairs; kids = take (suc (length l.pairs)) b.kids }
    left = same_node l (record { parent = b.parent; pairs = l.pairs; kids = take (suc (length l.pairs)) b.kids }) s.left_parent refl s.left

    right : c ≡ record { parent = b.parent; pairs = c.pairs; kids = drop (suc (length l.pairs)) b.kids }
    right = same_node c (record { parent = b.parent; pairs = c.pairs; kids = drop (suc (length l.pairs)) b.kids }) s.right_parent refl s.right

pub settled_parts : (m n n2 n3 : Buckets) (at r : DiskLoc) (b l c : Node) (mid : Item) → IsSplit b l mid c → m r ≡ None → ((q : DiskLoc) → n q ≡ put m r (Some c) q) → ((q : DiskLoc) → n2 q ≡ put n at (Some l) q)
    → ((q : DiskLoc) → n3 q ≡ adopted n2 c.kids r q) → IsSettled m n3 at b (Some (record { mid = mid; right = r }))
settled_parts m n n2 n3 at r b l c mid s free one two three = (l.pairs, c.pairs, parted m n n2 n3 at r b l c mid s free one two three)
