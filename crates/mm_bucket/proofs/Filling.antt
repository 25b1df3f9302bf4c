-- Slots that don't overlap, in as many bytes as they have, leave no gap.
use Rattle.std.proofs.Common.{◌≡◌, ℕ, zero, suc, ◌+◌, ◌-◌, ◌<◌, ◌≤◌, Bool, true, false, ◌||◌, List, [], ◌∷◌, length, refl, sym, ap, ◌∙◌, inl, inr, arith}
use Rattle.std.specs.Prelude.{◌⊎◌, nat_lt, IsTrue}
use Rattle.std.specs.List.{AllByRecursion}
use Rattle.std.proofs.lemmas.Bool.{ltb-true, ltb-false}
use Rattle.mm_bucket.specs.Pairs.{Pair, Contents, key_len}
use Rattle.mm_bucket.specs.Layout.{Slot, slots, IsWithin, AreApart, Apart, Spells}
use Rattle.mm_bucket.specs.Marks.{is_in, is_covered}
use Rattle.mm_bucket.proofs.Laying.{all_map}
use Rattle.mm_bucket.proofs.Marking.{inside_is, inside_of, covers_none}

abbrev one : Bool → ℕ
one true = 1
one false = 0

-- how many numbers below n pass a test
abbrev count : (ℕ → Bool) → ℕ → ℕ
count f zero = 0
count f (suc n) = one (f n) + count f n

one_few : (b : Bool) → one b ≤ 1
one_few true = omega arith
one_few false = omega arith

differ : (b : Bool) → b ≡ true → b ≡ false → ⊥
differ b e f = cc

outside_is : (from len q : ℕ) → (q < from) ⊎ (from + len ≤ q) → is_in from len q ≡ false
outside_is from len q h = other (is_in from len q) refl h
  where
    other : (b : Bool) → is_in from len q ≡ b → (q < from) ⊎ (from + len ≤ q) → is_in from len q ≡ false
    other true e (inl lt) = absurd (omega (arith, (inside_of from len q e).0, lt))
    other true e (inr le) = absurd (omega (arith, (inside_of from len q e).1, le))
    other false e h = e

inside_or : (from len q : ℕ) → is_in from len q ≡ false → (q < from) ⊎ (from + len ≤ q)
inside_or from len q e = first (nat_lt q from) (nat_lt q (from + len)) refl refl
  where
    first : (a b : Bool) → nat_lt q from ≡ a → nat_lt q (from + len) ≡ b → (q < from) ⊎ (from + len ≤ q)
    first true b f g = inl (ltb-true q from f)
    first false false f g = inr (ltb-false q (from + len) g)
    first false true f g = absurd (differ (is_in from len q) (inside_is from len q (ltb-false q from f) (ltb-true q (from + len) g)) e)

-- those of one slot
count_in : (from len n : ℕ) → count (is_in from len) n ≡ (n - from) - (n - (from + len))
count_in from len zero = omega arith
count_in from len (suc n) = step (is_in from len n) refl (count_in from len n)
  where
    none : (c : ℕ) → (n < from) ⊎ (from + len ≤ n) → c ≡ (n - from) - (n - (from + len)) → c ≡ (suc n - from) - (suc n - (from + len))
    none c (inl lt) e = omega (arith, lt, e)
    none c (inr le) e = omega (arith, le, e)

    step : (b : Bool) → is_in from len n ≡ b → count (is_in from len) n ≡ (n - from) - (n - (from + len)) → one (is_in from len n) + count (is_in from len) n ≡ (suc n - from) - (suc n - (from + len))
    step true e h =
        let i = inside_of from len n e in
        let z : one (is_in from len n) ≡ 1 = ap one e in
        omega (arith, z, i.0, i.1, h)
    step false e h = let z : one (is_in from len n) ≡ 0 = ap one e in omega (arith, z, none (count (is_in from len) n) (inside_or from len n e) h)

one_or : (a b : Bool) → (a ≡ true → b ≡ false) → one (a || b) ≡ one a + one b
one_or true true h = absurd (differ true refl (h refl))
one_or true false h = refl
one_or false b h = omega arith

-- those of two tests that none passes both
count_or : (f g : ℕ → Bool) (n : ℕ) → ((q : ℕ) → f q ≡ true → g q ≡ false) → count (λ q. f q || g q) n ≡ count f n + count g n
count_or f g zero h = refl
count_or f g (suc n) h = omega (arith, one_or (f n) (g n) (h n), count_or f g n h)

count_none : (n : ℕ) → count (is_covered []) n ≡ 0
count_none zero = refl
count_none (suc n) = omega (arith, count_none n)

abbrev lens : List Slot → ℕ
lens [] = 0
lens (s ∷ ss) = s.1 + lens ss

turn : (s t : Slot) → AreApart s t → AreApart t s
turn s t (inl le) = inr le
turn s t (inr le) = inl le

-- slots that don't overlap have as many bytes as their lengths say
total : (begin n : ℕ) (ss : List Slot) → AllByRecursion (IsWithin begin n) ss → Apart ss → count (is_covered ss) n ≡ lens ss
total begin n [] w a = count_none n
total begin n (s ∷ ss) w a =
    let apart = all_map (AreApart s) (λ t. AreApart t s) ss (turn s) a.0 in
    let both = count_or (is_in s.0 s.1) (is_covered ss) n (λ q e. let i = inside_of s.0 s.1 q e in covers_none ss s apart q i.0 i.1) in
    both ∙ omega (arith, count_in s.0 s.1 n, w.0.1, total begin n ss w.1 a.1)

before : (begin n : ℕ) (ss : List Slot) → AllByRecursion (IsWithin begin n) ss → (q : ℕ) → q < begin → is_covered ss q ≡ false
before begin n [] w q lt = refl
before begin n (s ∷ ss) w q lt = ap (λ (b : Bool). b || is_covered ss q) (outside_is s.0 s.1 q (inl (omega (arith, lt, w.0.0)))) ∙ before begin n ss w.1 q lt

-- where none below begin passes, n - begin pass at most
few : (f : ℕ → Bool) (begin n : ℕ) → ((q : ℕ) → q < begin → f q ≡ false) → count f n ≤ n - begin
few f begin zero h = omega arith
few f begin (suc n) h = few_more f begin n h (few f begin n h) (nat_lt n begin) refl
  where
    few_more : (f : ℕ → Bool) (begin n : ℕ) → ((q : ℕ) → q < begin → f q ≡ false) → count f n ≤ n - begin → (b : Bool) → nat_lt n begin ≡ b → one (f n) + count f n ≤ suc n - begin
    few_more f begin n h le true e = let z : one (f n) ≡ 0 = ap one (h n (ltb-true n begin e)) in omega (arith, z, le)
    few_more f begin n h le false e = omega (arith, le, one_few (f n), ltb-false n begin e)

-- and one less where one of those from begin on doesn't
fewer : (f : ℕ → Bool) (begin q n : ℕ) → ((q : ℕ) → q < begin → f q ≡ false) → begin ≤ q → q < n → f q ≡ false → count f n + 1 ≤ n - begin
fewer f begin q zero h le lt e = absurd (omega (arith, lt))
fewer f begin q (suc n) h le lt e = step f begin q n h le lt e (nat_lt q n) refl (λ l. fewer f begin q n h le l e)
  where
    step : (f : ℕ → Bool) (begin q n : ℕ) → ((q : ℕ) → q < begin → f q ≡ false) → begin ≤ q → q < suc n → f q ≡ false → (b : Bool) → nat_lt q n ≡ b → (q < n → count f n + 1 ≤ n - begin) → one (f n) + count f n + 1 ≤ suc n - begin
    step f begin q n h le lt e true g more = omega (arith, more (ltb-true q n g), one_few (f n), le, ltb-true q n g)
    step f begin q n h le lt e false g more =
        let same : q ≡ n = omega (arith, lt, ltb-false q n g) in
        let z : one (f n) ≡ 0 = ap (λ (k : ℕ). one (f k)) (sym same) ∙ ap one e in
        omega (arith, z, few f begin n h, le, same)

lens_slots : (bytes : List ℕ) (at : ℕ) (ps : List Pair) → lens (slots bytes at ps) ≡ key_len ps
lens_slots bytes at [] = refl
lens_slots bytes at (p ∷ ps) = ap (λ (n : ℕ). length p.key + n) (lens_slots bytes (at + 18) ps)

full : (begin n : ℕ) (ss : List Slot) (q : ℕ) → AllByRecursion (IsWithin begin n) ss → Apart ss → begin + lens ss ≡ n → begin ≤ q → q < n → is_covered ss q ≡ true
full begin n ss q w a e le lt = sure (is_covered ss q) refl
  where
    crowded : (c k : ℕ) → c + 1 ≤ n - begin → c ≡ k → begin + k ≡ n → ⊥
    crowded c k less same e = omega (arith, less, same, e)

    sure : (x : Bool) → is_covered ss q ≡ x → is_covered ss q ≡ true
    sure true f = f
    sure false f = absurd (crowded (count (is_covered ss) n) (lens ss) (fewer (is_covered ss) begin q n (before begin n ss w) le lt f) (total begin n ss w a) e)

pub no_gap : (bytes : List ℕ) (b : Contents) (q : ℕ) → Spells bytes b → 8152 - key_len b.pairs ≤ q → q < 8152 → IsTrue (is_covered (slots bytes 40 b.pairs) q)
no_gap bytes b q s le lt =
    let l = s.laid in
    full (8152 - key_len b.pairs) 8152 (slots bytes 40 b.pairs) q l.within l.apart (ap (λ (n : ℕ). 8152 - key_len b.pairs + n) (lens_slots bytes 40 b.pairs) ∙ l.begins) le lt
