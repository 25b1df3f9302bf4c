-- The first of some pairs in their bytes.
use Rattle.std.proofs.Common.{◌≡◌, ℕ, zero, suc, ◌+◌, ◌-◌, ◌*◌, ◌≤◌, List, [], ◌∷◌, ◌++◌, length, refl, ap, ◌∙◌, subst, arith}
use Rattle.std.specs.List.{AllByRecursion}
use Rattle.mm_bucket.specs.Pairs.{Pair, HasKey, key_len}
use Rattle.mm_bucket.specs.Layout.{IsAt, AreAt, Slot, slots, IsWithin, AreApart, Apart, Laid, pair_of, pairs_in}
use Rattle.mm_bucket.specs.Marks.{Front}
use Rattle.mm_bucket.proofs.Laying.{node_at}
use Rattle.mm_bucket.proofs.Fitting.{key_len-append}

pub all_front : {X : Type 0} (P : X → Type 0) (xs ys : List X) → AllByRecursion P (xs ++ ys) → AllByRecursion P xs
all_front P [] ys h = tt
all_front P (x ∷ xs) ys h = (h.0, all_front P xs ys h.1)

pub all_last : {X : Type 0} (P : X → Type 0) (xs : List X) (y : X) → AllByRecursion P (xs ++ y ∷ []) → P y
all_last P [] y h = h.0
all_last P (x ∷ xs) y h = all_last P xs y h.1

pub apart_front : (ss ts : List Slot) → Apart (ss ++ ts) → Apart ss
apart_front [] ts h = tt
apart_front (s ∷ ss) ts h = (all_front (AreApart s) ss ts h.0, apart_front ss ts h.1)

-- the last is apart from all before it
pub apart_last : (ss : List Slot) (t : Slot) → Apart (ss ++ t ∷ []) → AllByRecursion (λ s. AreApart s t) ss
apart_last [] t h = tt
apart_last (s ∷ ss) t h = (all_last (AreApart s) ss t h.0, apart_last ss t h.1)

pub laid_front : (bytes : List ℕ) (at : ℕ) (ps qs : List Pair) → AreAt bytes at (ps ++ qs) → AreAt bytes at ps
laid_front bytes at [] qs h = tt
laid_front bytes at (p ∷ ps) qs h = (h.0, laid_front bytes (at + 18) ps qs h.1)

behind_first : (at n : ℕ) → at + 18 + 18 * n ≡ at + 18 * suc n
behind_first at n = omega arith

pub laid_last : (bytes : List ℕ) (at : ℕ) (ps : List Pair) (q : Pair) → AreAt bytes at (ps ++ q ∷ []) → IsAt bytes (node_at bytes (at + 18 * length ps)) q
laid_last bytes at [] q h = subst (λ (z : ℕ). IsAt bytes (node_at bytes z) q) (let e : at ≡ at + 18 * 0 = omega arith in e) h.0
laid_last bytes at (p ∷ ps) q h = subst (λ (z : ℕ). IsAt bytes (node_at bytes z) q) (behind_first at (length ps)) (laid_last bytes (at + 18) ps q h.1)

pub slots_front : (bytes : List ℕ) (at : ℕ) (ps qs : List Pair) → (ss : List Slot) × (slots bytes at (ps ++ qs) ≡ slots bytes at ps ++ ss)
slots_front bytes at [] qs = (slots bytes at qs, refl)
slots_front bytes at (p ∷ ps) qs =
    let r = slots_front bytes (at + 18) ps qs in
    (r.0, ap (λ (ss : List Slot). ((node_at bytes at).key_ofs, length p.key) ∷ ss) r.1)

pub pairs_parts : (bytes : List ℕ) (at i k : ℕ) → pairs_in bytes at (i + k) ≡ pairs_in bytes at i ++ pairs_in bytes (at + 18 * i) k
pairs_parts bytes at zero k =
    let n : 0 + k ≡ k = omega arith in
    let e : at ≡ at + 18 * 0 = omega arith in
    ap (pairs_in bytes at) n ∙ ap (λ (z : ℕ). pairs_in bytes z k) e
pairs_parts bytes at (suc i) k =
    let n : suc i + k ≡ suc (i + k) = omega arith in
    ap (pairs_in bytes at) n
    ∙ ap (λ (ps : List Pair). pair_of bytes (node_at bytes at) ∷ ps) (pairs_parts bytes (at + 18) i k ∙ ap (λ (z : ℕ). pairs_in bytes (at + 18) i ++ pairs_in bytes z k) (behind_first at i))

pub pairs_more : (bytes : List ℕ) (at i : ℕ) → pairs_in bytes at (i + 1) ≡ pairs_in bytes at i ++ pair_of bytes (node_at bytes (at + 18 * i)) ∷ []
pairs_more bytes at i = pairs_parts bytes at i 1

-- what is laid out begins with what its front is
pub front_of : (bytes : List ℕ) (begin i k : ℕ) → Laid bytes begin (pairs_in bytes 40 (i + k)) → Front bytes begin i
front_of bytes begin i k l =
    let ps = pairs_in bytes 40 i in
    let qs = pairs_in bytes (40 + 18 * i) k in
    let e = pairs_parts bytes 40 i k in
    let r = slots_front bytes 40 ps qs in
    let s : slots bytes 40 (pairs_in bytes 40 (i + k)) ≡ slots bytes 40 ps ++ r.0 = ap (slots bytes 40) e ∙ r.1 in
    record {
      nodes = laid_front bytes 40 ps qs (subst (AreAt bytes 40) e l.nodes);
      keys = all_front HasKey ps qs (subst (AllByRecursion HasKey) e l.keys);
      within = all_front (IsWithin begin 8152) (slots bytes 40 ps) r.0 (subst (AllByRecursion (IsWithin begin 8152)) s l.within);
      apart = apart_front (slots bytes 40 ps) r.0 (subst Apart s l.apart);
    }

pub front_at : (bytes : List ℕ) (begin i n : ℕ) → i ≤ n → Laid bytes begin (pairs_in bytes 40 n) → Front bytes begin i
front_at bytes begin i n le l =
    let e : n ≡ i + (n - i) = omega arith in
    front_of bytes begin i (n - i) (subst (λ (z : ℕ). Laid bytes begin (pairs_in bytes 40 z)) e l)

-- its keys are no longer than all
pub key_len-front : (bytes : List ℕ) (i n : ℕ) → i ≤ n → key_len (pairs_in bytes 40 i) ≤ key_len (pairs_in bytes 40 n)
key_len-front bytes i n le =
    let e : n ≡ i + (n - i) = omega arith in
    let all : key_len (pairs_in bytes 40 n) ≡ key_len (pairs_in bytes 40 i) + key_len (pairs_in bytes (40 + 18 * i) (n - i)) =
    ap (λ (z : ℕ). key_len (pairs_in bytes 40 z)) e ∙ (ap key_len (pairs_parts bytes 40 i (n - i)) ∙ key_len-append (pairs_in bytes 40 i) (pairs_in bytes (40 + 18 * i) (n - i))) in
    omega (arith, all)
