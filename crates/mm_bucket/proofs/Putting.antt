-- A pair that is put into one of two parts.
use Rattle.std.proofs.Common.{◌≡◌, ℕ, zero, suc, Bool, true, false, cond, nat_eq, ◌+◌, ◌-◌, ◌*◌, ◌<◌, ◌≤◌, List, [], ◌∷◌, ◌++◌, length, take, drop, insert, get_or, refl, sym, ap, ◌∙◌, subst, arith}
use Rattle.std.proofs.lemmas.Bool.{eqb-false}
use Rattle.std.proofs.lemmas.List.{length-append, take-append-drop, length-take-le, length-drop}
use Rattle.std.specs.List.{AllByRecursion}
use Rattle.mm_base.specs.declared.place.DiskLoc.{DiskLoc}
use Rattle.mm_bucket.specs.Pairs.{Pair, Contents, HasKey, size, pair_at, blank, with_left, with_child, IsParted}

size_short : (ps : List Pair) → AllByRecursion HasKey ps → size ps ≤ 1042 * length ps
size_short [] h = omega arith
size_short (p ∷ ps) h = omega (arith, h.0.short, size_short ps h.1)

-- a bucket without room for a key has some pairs
pub many : (ps : List Pair) (n : ℕ) → AllByRecursion HasKey ps → n ≤ 1024 → (size ps + (18 + n) ≤ 8152 → ⊥) → 3 ≤ length ps
many ps n h short full = omega (arith, size_short ps h, short, full)

insert_left : (xs ys : List Pair) (i : ℕ) (p : Pair) → i ≤ length xs → take i (xs ++ ys) ++ p ∷ drop i (xs ++ ys) ≡ (take i xs ++ p ∷ drop i xs) ++ ys
insert_left [] ys zero p le = refl
insert_left [] ys (suc i) p le = absurd (omega (arith, le))
insert_left (x ∷ xs) ys zero p le = refl
insert_left (x ∷ xs) ys (suc i) p le = ap (λ zs. x ∷ zs) (insert_left xs ys i p (omega (arith, le)))

insert_right : (xs ys : List Pair) (i : ℕ) (p : Pair) → length xs ≤ i → take i (xs ++ ys) ++ p ∷ drop i (xs ++ ys) ≡ xs ++ (take (i - length xs) ys ++ p ∷ drop (i - length xs) ys)
insert_right [] ys i p le = ap (λ (k : ℕ). take k ys ++ p ∷ drop k ys) (let e : i ≡ i - 0 = omega arith in e)
insert_right (x ∷ xs) ys zero p le = absurd (omega (arith, le))
insert_right (x ∷ xs) ys (suc i) p le =
    let e : i - length xs ≡ suc i - suc (length xs) = omega arith in
    ap (λ zs. x ∷ zs) (insert_right xs ys i p (omega (arith, le)) ∙ ap (λ (k : ℕ). xs ++ (take k ys ++ p ∷ drop k ys)) e)

at_left : (xs ys : List Pair) (i : ℕ) → i < length xs → get_or (xs ++ ys) i blank ≡ get_or xs i blank
at_left [] ys i lt = absurd (omega (arith, lt))
at_left (x ∷ xs) ys zero lt = refl
at_left (x ∷ xs) ys (suc i) lt = at_left xs ys i (omega (arith, lt))

at_behind : (xs : List Pair) (i k : ℕ) (p : Pair) → i ≤ k → k < length xs → get_or (take i xs ++ p ∷ drop i xs) (suc k) blank ≡ get_or xs k blank
at_behind [] i k p le lt = absurd (omega (arith, lt))
at_behind (x ∷ xs) zero k p le lt = refl
at_behind (x ∷ xs) (suc i) zero p le lt = absurd (omega (arith, le))
at_behind (x ∷ xs) (suc i) (suc k) p le lt = at_behind xs i k p (omega (arith, le)) (omega (arith, lt))

length_inserted : (xs : List Pair) (i : ℕ) (p : Pair) → length (take i xs ++ p ∷ drop i xs) ≡ length xs + 1
length_inserted xs i p = omega (arith, length-append (take i xs) (p ∷ drop i xs), length-append (take i xs) (drop i xs), ap length (take-append-drop i xs))

-- what a split left of some contents
pub record Split (old left right : Contents) (last : ℕ) : Type 0 where
  pub joined : old.pairs ≡ left.pairs ++ right.pairs
  pub last_is : last + 1 ≡ length left.pairs
  pub some : 1 ≤ last
  pub more : 1 ≤ length right.pairs
  pub next : left.next ≡ (pair_at old.pairs last).left
  pub right_next : right.next ≡ old.next
  pub parent : left.parent ≡ old.parent
  pub right_parent : right.parent ≡ old.parent

-- the pair before which the last child of the left part stood
next_at : (old left right : Contents) (last : ℕ) → Split old left right last → left.next ≡ (get_or left.pairs last blank).left
next_at old left right last s =
    s.next ∙ ap (λ (p : Pair). p.left) (ap (λ (ps : List Pair). get_or ps last blank) s.joined ∙ at_left left.pairs right.pairs last (omega (arith, s.last_is)))

pub put_left : (old left right new : Contents) (i last : ℕ) (p : Pair) → Split old left right last → i ≤ last → new ≡ record left { pairs = insert left.pairs i p } → IsParted (record old { pairs = insert old.pairs i p }) new right
put_left old left right new i last p s le is =
    let ps = insert left.pairs i p in
    let len : length ps ≡ length left.pairs + 1 = length_inserted left.pairs i p in
    let at : length ps - 1 ≡ suc last = omega (arith, len, s.last_is) in
    subst (λ (z : Contents). IsParted (record old { pairs = insert old.pairs i p }) z right) (sym is)
    (record {
      pairs = ap (λ (xs : List Pair). insert xs i p) s.joined ∙ insert_left left.pairs right.pairs i p (omega (arith, le, s.last_is));
      some = omega (arith, len, s.last_is, s.some);
      more = s.more;
      left_parent = s.parent;
      right_parent = s.right_parent;
      left_next = next_at old left right last s ∙ ap (λ (q : Pair). q.left) (sym (ap (λ (k : ℕ). get_or ps k blank) at ∙ at_behind left.pairs i last p le (omega (arith, s.last_is))));
      right_next = s.right_next;
    })

pub put_right : (old left right new : Contents) (i k last : ℕ) (p : Pair) → Split old left right last → last < i → k ≡ i - last - 1 → new ≡ record right { pairs = insert right.pairs k p } → IsParted (record old { pairs = insert old.pairs i p }) left new
put_right old left right new i k last p s lt at is =
    let e : i - length left.pairs ≡ k = omega (arith, at, s.last_is, lt) in
    let here : length left.pairs - 1 ≡ last = omega (arith, s.last_is) in
    subst (λ (z : Contents). IsParted (record old { pairs = insert old.pairs i p }) left z) (sym is)
    (record {
      pairs = ap (λ (xs : List Pair). insert xs i p) s.joined
          ∙ (insert_right left.pairs right.pairs i p (omega (arith, s.last_is, lt)) ∙ ap (λ (j : ℕ). left.pairs ++ insert right.pairs j p) e);
      some = omega (arith, s.last_is, s.some);
      more = omega (arith, length_inserted right.pairs k p);
      left_parent = s.parent;
      right_parent = s.right_parent;
      left_next = next_at old left right last s ∙ ap (λ (j : ℕ). (get_or left.pairs j blank).left) (sym here);
      right_next = s.right_next;
    })

pub length_child : (b : Contents) (i : ℕ) (child : DiskLoc) → i ≤ length b.pairs → length (with_child b i child).pairs ≡ length b.pairs
length_child b i child le = by (nat_eq i (length b.pairs)) refl
  where
    swapped : (ps : List Pair) (i : ℕ) → i < length ps → length (with_left ps i child) ≡ length ps
    swapped ps i lt = omega (arith, lt, length-append (take i ps) (record (pair_at ps i) { left = child } ∷ drop (i + 1) ps), length-take-le i ps (omega (arith, lt)), length-drop (i + 1) ps)

    by : (t : Bool) → nat_eq i (length b.pairs) ≡ t → length (cond t (record b { next = child }) (record b { pairs = with_left b.pairs i child })).pairs ≡ length b.pairs
    by true e = refl
    by false e = swapped b.pairs i (omega (arith, le, eqb-false i (length b.pairs) e))
