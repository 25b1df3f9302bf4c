-- Bytes of a body that keys take: a key's bytes are free where no other key overlaps it.
use Rattle.std.proofs.Common.{◌≡◌, ℕ, ◌+◌, ◌<◌, ◌≤◌, Bool, true, false, ◌&&◌, ◌||◌, List, [], ◌∷◌, ◌++◌, refl, sym, ap, ◌∙◌, inl, inr, arith}
use Rattle.std.specs.Prelude.{nat_le, nat_lt}
use Rattle.std.specs.List.{AllByRecursion}
use Rattle.std.proofs.lemmas.Bool.{leb-true, leb-false, ltb-true, ltb-false, le-leb, lt-ltb}
use Rattle.mm_bucket.specs.Pairs.{Pair, HasKey}
use Rattle.mm_bucket.specs.Layout.{Slot, slots, AreApart}
use Rattle.mm_bucket.specs.Marks.{mark, AreFree, is_in, is_covered, AreMarked}
use Rattle.mm_bucket.proofs.Keys.{key_some}

either : (a b n m : Bool) → (a ≡ true → b ≡ true → n ≡ true) → (a ≡ false → n ≡ m) → (b ≡ false → n ≡ m) → n ≡ ((a && b) || m)
either true true n m f g h = f refl refl
either true false n m f g h = h refl
either false b n m f g h = g refl

-- marks inside, and none that changed outside
pub marked : (from len q : ℕ) (new old : Bool) → (from ≤ q → q < from + len → new ≡ true) → (q < from → new ≡ old) → (from + len ≤ q → new ≡ old) → new ≡ (is_in from len q || old)
marked from len q new old f g h = either (nat_le from q) (nat_lt q (from + len)) new old (λ a b. f (leb-true from q a) (ltb-true q (from + len) b)) (λ a. g (leb-false from q a)) (λ b. h (ltb-false q (from + len) b))

both : (a b : Bool) → a ≡ true → b ≡ true → (a && b) ≡ true
both a b e f = rw (e, f) refl

pub inside_is : (from len q : ℕ) → from ≤ q → q < from + len → is_in from len q ≡ true
inside_is from len q a b = both (nat_le from q) (nat_lt q (from + len)) (le-leb from q a) (lt-ltb q (from + len) b)

parts : (a b : Bool) → (a && b) ≡ true → (a ≡ true) × (b ≡ true)
parts true b e = (refl, e)
parts false b e = absurd cc

pub inside_of : (from len q : ℕ) → is_in from len q ≡ true → (from ≤ q) × (q < from + len)
inside_of from len q e =
    let p = parts (nat_le from q) (nat_lt q (from + len)) e in
    (leb-true from q p.0, ltb-true q (from + len) p.1)

neither : (a b : Bool) → (a || b) ≡ false → (a ≡ false) × (b ≡ false)
neither true b e = absurd cc
neither false b e = (refl, e)

none : (a b : Bool) → (a ≡ true → ⊥) → b ≡ false → (a || b) ≡ false
none true b f e = absurd (f refl)
none false b f e = e

-- one slot against another, by whether a byte of the second is in the first
abbrev pub Misses : Slot → Slot → Type 0
Misses t s = (q : ℕ) → s.0 ≤ q → q < s.0 + s.1 → is_in t.0 t.1 q ≡ false

differ : (b : Bool) → b ≡ true → b ≡ false → ⊥
differ b e f = cc

apart_if : (t s : Slot) → 0 < t.1 → 0 < s.1 → Misses t s → AreApart t s
apart_if t s pt ps m = first (nat_le (t.0 + t.1) s.0) (nat_le (s.0 + s.1) t.0) refl refl
  where
    common : (a : Bool) → nat_le s.0 t.0 ≡ a → s.0 < t.0 + t.1 → t.0 < s.0 + s.1 → ⊥
    common true e below above = differ (is_in t.0 t.1 t.0) (inside_is t.0 t.1 t.0 (omega arith) (omega (arith, pt))) (m t.0 (leb-true s.0 t.0 e) above)
    common false e below above = differ (is_in t.0 t.1 s.0) (inside_is t.0 t.1 s.0 (omega (arith, leb-false s.0 t.0 e)) below) (m s.0 (omega arith) (omega (arith, ps)))

    first : (a b : Bool) → nat_le (t.0 + t.1) s.0 ≡ a → nat_le (s.0 + s.1) t.0 ≡ b → AreApart t s
    first true b e f = inl (leb-true (t.0 + t.1) s.0 e)
    first false true e f = inr (leb-true (s.0 + s.1) t.0 f)
    first false false e f = absurd (common (nat_le s.0 t.0) refl (leb-false (t.0 + t.1) s.0 e) (leb-false (s.0 + s.1) t.0 f))

misses_if : (t s : Slot) → AreApart t s → Misses t s
misses_if t s (inl le) q a b = not_in (is_in t.0 t.1 q) refl
  where
    not_in : (x : Bool) → is_in t.0 t.1 q ≡ x → is_in t.0 t.1 q ≡ false
    not_in true e = absurd (let i = inside_of t.0 t.1 q e in omega (arith, i.1, le, a))
    not_in false e = e
misses_if t s (inr le) q a b = not_in (is_in t.0 t.1 q) refl
  where
    not_in : (x : Bool) → is_in t.0 t.1 q ≡ x → is_in t.0 t.1 q ≡ false
    not_in true e = absurd (let i = inside_of t.0 t.1 q e in omega (arith, i.0, le, b))
    not_in false e = e

abbrev pub IsLong : Slot → Type 0
IsLong s = 0 < s.1

uncovered : (ss : List Slot) (s : Slot) → IsLong s → AllByRecursion IsLong ss → ((q : ℕ) → s.0 ≤ q → q < s.0 + s.1 → is_covered ss q ≡ false) → AllByRecursion (λ t. AreApart t s) ss
uncovered [] s p ps f = tt
uncovered (t ∷ ts) s p ps f = (
  apart_if t s ps.0 p (λ q a b. (neither (is_in t.0 t.1 q) (is_covered ts q) (f q a b)).0),
  uncovered ts s p ps.1 (λ q a b. (neither (is_in t.0 t.1 q) (is_covered ts q) (f q a b)).1),
)

pub covers_none : (ss : List Slot) (s : Slot) → AllByRecursion (λ t. AreApart t s) ss → (q : ℕ) → s.0 ≤ q → q < s.0 + s.1 → is_covered ss q ≡ false
covers_none [] s h q a b = refl
covers_none (t ∷ ts) s h q a b = none (is_in t.0 t.1 q) (is_covered ts q) (λ e. differ (is_in t.0 t.1 q) e (misses_if t s h.0 q a b)) (covers_none ts s h.1 q a b)

-- the bytes are free exactly where the slot is apart from all before
pub apart_from : (taken : List Bool) (ss : List Slot) (s : Slot) → IsLong s → AllByRecursion IsLong ss → s.0 + s.1 ≤ 8152 → AreMarked taken ss → AreFree taken s.0 s.1 → AllByRecursion (λ t. AreApart t s) ss
apart_from taken ss s p ps le m f = uncovered ss s p ps (λ q a b. sym (m q (omega (arith, le, b))) ∙ f q a b)

pub free_from : (taken : List Bool) (ss : List Slot) (s : Slot) → s.0 + s.1 ≤ 8152 → AreMarked taken ss → AllByRecursion (λ t. AreApart t s) ss → AreFree taken s.0 s.1
free_from taken ss s le m h = λ q a b. m q (omega (arith, le, b)) ∙ covers_none ss s h q a b

-- one slot more
covered_more : (ss : List Slot) (s : Slot) (q : ℕ) → is_covered (ss ++ s ∷ []) q ≡ (is_in s.0 s.1 q || is_covered ss q)
covered_more [] s q = refl
covered_more (t ∷ ts) s q = ap (λ (b : Bool). is_in t.0 t.1 q || b) (covered_more ts s q) ∙ turned (is_in t.0 t.1 q) (is_in s.0 s.1 q) (is_covered ts q)
  where
    turned : (a b c : Bool) → (a || (b || c)) ≡ (b || (a || c))
    turned true true c = refl
    turned true false c = refl
    turned false b c = refl

pub marked_more : (old new : List Bool) (ss : List Slot) (s : Slot) → AreMarked old ss → ((q : ℕ) → mark new q ≡ (is_in s.0 s.1 q || mark old q)) → AreMarked new (ss ++ s ∷ [])
marked_more old new ss s m f = λ q lt. f q ∙ (ap (λ (b : Bool). is_in s.0 s.1 q || b) (m q lt) ∙ sym (covered_more ss s q))

-- keys are no empty slots
pub slots_long : (bytes : List ℕ) (at : ℕ) (ps : List Pair) → AllByRecursion HasKey ps → AllByRecursion IsLong (slots bytes at ps)
slots_long bytes at [] h = tt
slots_long bytes at (p ∷ ps) h = (omega (arith, key_some p.key h.0), slots_long bytes (at + 18) ps h.1)
