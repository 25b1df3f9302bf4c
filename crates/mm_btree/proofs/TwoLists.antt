-- A bucket's children under the edits of its pairs: one is put in or taken out with its pair, and they are parted and joined with the pairs.
use Rattle.std.proofs.Common.{◌≡◌, ℕ, zero, suc, Bool, true, false, cond, nat_eq, get_or, subst, add-one, ◌<◌, ◌≤◌, List, [], ◌∷◌, ◌++◌, length, map, take, drop, insert, remove, refl, sym, ap, ◌∙◌, arith, append_assoc}
use Rattle.std.proofs.lemmas.Bool.{eqb-true, eqb-false}
use Rattle.std.proofs.lemmas.List.{map-append}
use Rattle.mm_base.specs.declared.place.DiskLoc.{DiskLoc}
use Rattle.mm_bucket.specs.Pairs.{Pair, Contents, blank, pair_at, with_left, with_pair}
use Rattle.mm_bucket.specs.Rules.{left_of, children}
use Rattle.mm_btree.specs.Nodes.{Item, item_of}

put_in : (ps : List Pair) (i : ℕ) (p : Pair) (last : DiskLoc) → i ≤ length ps
    → map left_of (take i ps ++ p ∷ drop i ps) ++ last ∷ [] ≡ take i (map left_of ps ++ last ∷ []) ++ p.left ∷ drop i (map left_of ps ++ last ∷ [])
put_in [] zero p last le = refl
put_in [] (suc i) p last le = absurd (omega (arith, le))
put_in (q ∷ ps) zero p last le = refl
put_in (q ∷ ps) (suc i) p last le = ap (λ xs. q.left ∷ xs) (put_in ps i p last (omega (arith, le)))

pub children_inserted : (b : Contents) (i : ℕ) (p : Pair) → i ≤ length b.pairs → children (record b { pairs = insert b.pairs i p }) ≡ insert (children b) i p.left
children_inserted b i p le = put_in b.pairs i p b.next le

take_out : (ps : List Pair) (i : ℕ) (last : DiskLoc) → i < length ps
    → map left_of (take i ps ++ drop (suc i) ps) ++ last ∷ [] ≡ take i (map left_of ps ++ last ∷ []) ++ drop (suc i) (map left_of ps ++ last ∷ [])
take_out [] i last lt = absurd (omega (arith, lt))
take_out (q ∷ ps) zero last lt = refl
take_out (q ∷ ps) (suc i) last lt = ap (λ xs. q.left ∷ xs) (take_out ps i last (omega (arith, lt)))

pub children_removed : (b : Contents) (i : ℕ) → i < length b.pairs → children (record b { pairs = remove b.pairs i }) ≡ remove (children b) i
children_removed b i lt = take_out b.pairs i b.next lt

-- the pair between two buckets has the last child of the left one before it
pub children_parted : (up : DiskLoc) (ps qs : List Pair) (mid : Pair) (last : DiskLoc)
    → children (record { parent = up; pairs = ps ++ mid ∷ qs; next = last }) ≡ children (record { parent = up; pairs = ps; next = mid.left }) ++ children (record { parent = up; pairs = qs; next = last })
children_parted up ps qs mid last =
    ap (λ xs. xs ++ last ∷ []) (map-append left_of ps (mid ∷ qs))
    ∙ (append_assoc (map left_of ps) (mid.left ∷ map left_of qs) (last ∷ [])
    ∙ sym (append_assoc (map left_of ps) (mid.left ∷ []) (map left_of qs ++ last ∷ [])))

-- ---- a pair with the child behind it

put_last : (ps : List Pair) (p : Pair) (last after : DiskLoc) → p.left ≡ last
    → map left_of (take (length ps) ps ++ p ∷ drop (length ps) ps) ++ after ∷ [] ≡ take (suc (length ps)) (map left_of ps ++ last ∷ []) ++ after ∷ drop (suc (length ps)) (map left_of ps ++ last ∷ [])
put_last [] p last after e = ap (λ (q : DiskLoc). q ∷ after ∷ []) e
put_last (q ∷ ps) p last after e = ap (λ xs. q.left ∷ xs) (put_last ps p last after e)

-- another child before the i-th pair
abbrev swapped : List Pair → ℕ → DiskLoc → List Pair
swapped ps i after = take i ps ++ record (get_or ps i blank) { left = after } ∷ drop (suc i) ps

put_before : (ps : List Pair) (i : ℕ) (p : Pair) (last after : DiskLoc) → i < length ps → p.left ≡ (get_or ps i blank).left
    → map left_of (take i (swapped ps i after) ++ p ∷ drop i (swapped ps i after)) ++ last ∷ [] ≡ take (suc i) (map left_of ps ++ last ∷ []) ++ after ∷ drop (suc i) (map left_of ps ++ last ∷ [])
put_before [] i p last after lt e = absurd (omega (arith, lt))
put_before (q ∷ ps) zero p last after lt e = ap (λ (x : DiskLoc). x ∷ after ∷ (map left_of ps ++ last ∷ [])) e
put_before (q ∷ ps) (suc i) p last after lt e = ap (λ xs. q.left ∷ xs) (put_before ps i p last after (omega (arith, lt)) e)

with_left-is : (ps : List Pair) (i : ℕ) (after : DiskLoc) → with_left ps i after ≡ swapped ps i after
with_left-is ps i after = ap (λ (k : ℕ). take i ps ++ record (get_or ps i blank) { left = after } ∷ drop k ps) (add-one i)

pub children_put : (b : Contents) (i : ℕ) (key : List ℕ) (rec after : DiskLoc) → i ≤ length b.pairs → children (with_pair b i key rec after) ≡ insert (children b) (suc i) after
children_put b i key rec after le = by (nat_eq i (length b.pairs)) refl
  where
    by : (t : Bool) → nat_eq i (length b.pairs) ≡ t → children (record (cond t (record b { next = after }) (record b { pairs = with_left b.pairs i after })) { pairs = insert (cond t (record b { next = after }) (record b { pairs = with_left b.pairs i after })).pairs i (record { left = cond t b.next (pair_at b.pairs i).left; rec = rec; key = key }) }) ≡ insert (children b) (suc i) after
    by true e =
        let p : Pair = record { left = b.next; rec = rec; key = key } in
        let same = eqb-true i (length b.pairs) e in
        subst (λ (k : ℕ). map left_of (take k b.pairs ++ p ∷ drop k b.pairs) ++ after ∷ [] ≡ take (suc k) (children b) ++ after ∷ drop (suc k) (children b)) (sym same) (put_last b.pairs p b.next after refl)
    by false e =
        let p : Pair = record { left = (pair_at b.pairs i).left; rec = rec; key = key } in
        ap (λ (ps : List Pair). map left_of (take i ps ++ p ∷ drop i ps) ++ b.next ∷ []) (with_left-is b.pairs i after)
        ∙ put_before b.pairs i p b.next after (omega (arith, le, eqb-false i (length b.pairs) e)) refl

items_put_in : (ps : List Pair) (i : ℕ) (p : Pair) → map item_of (take i ps ++ p ∷ drop i ps) ≡ take i (map item_of ps) ++ item_of p ∷ drop i (map item_of ps)
items_put_in ps zero p = refl
items_put_in [] (suc i) p = refl
items_put_in (q ∷ ps) (suc i) p = ap (λ xs. item_of q ∷ xs) (items_put_in ps i p)

items_swapped : (ps : List Pair) (i : ℕ) (after : DiskLoc) → i < length ps → map item_of (swapped ps i after) ≡ map item_of ps
items_swapped [] i after lt = absurd (omega (arith, lt))
items_swapped (q ∷ ps) zero after lt = refl
items_swapped (q ∷ ps) (suc i) after lt = ap (λ xs. item_of q ∷ xs) (items_swapped ps i after (omega (arith, lt)))

pub items_put : (b : Contents) (i : ℕ) (key : List ℕ) (rec after : DiskLoc) → i ≤ length b.pairs → map item_of (with_pair b i key rec after).pairs ≡ insert (map item_of b.pairs) i (record { key = key; rec = rec })
items_put b i key rec after le = by (nat_eq i (length b.pairs)) refl
  where
    by : (t : Bool) → nat_eq i (length b.pairs) ≡ t → map item_of (insert (cond t (record b { next = after }) (record b { pairs = with_left b.pairs i after })).pairs i (record { left = cond t b.next (pair_at b.pairs i).left; rec = rec; key = key })) ≡ insert (map item_of b.pairs) i (record { key = key; rec = rec })
    by true e = items_put_in b.pairs i (record { left = b.next; rec = rec; key = key })
    by false e =
        items_put_in (with_left b.pairs i after) i (record { left = (pair_at b.pairs i).left; rec = rec; key = key })
        ∙ ap (λ (xs : List Item). take i xs ++ record { key = key; rec = rec } ∷ drop i xs)
        (ap (map item_of) (with_left-is b.pairs i after) ∙ items_swapped b.pairs i after (omega (arith, le, eqb-false i (length b.pairs) e)))
