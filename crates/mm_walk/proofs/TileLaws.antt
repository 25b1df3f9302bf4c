-- Blocks have no gap exactly where they tile.
use Rattle.std.proofs.Common.{◌≡◌, ℕ, ◌+◌, ◌<◌, ◌≤◌, ◌⊎◌, inl, inr, Bool, true, false, eqb, List, [], ◌∷◌, Option, Some, None, refl, sym, ◌∙◌, ap, subst, arith}
use Rattle.std.specs.Prelude.{◌==◌, if◌then◌else◌}
use Rattle.std.proofs.lemmas.Bool.{cases_Bool, false≢true, eqb-true, ne_eqb}
use Rattle.mm_walk.specs.Tiles.{Block, In, IsRising, first_gap, BeginsAt, AreTiling}

abbrev pub AllLong : List Block → Type 0
AllLong bs = (b : Block) → In b bs → 0 < b.1

if_yes : {A : Type 0} (b : Bool) (x y : A) → b ≡ true → (if b then x else y) ≡ x
if_yes true x y e = refl
if_yes false x y e = absurd (false≢true e)

if_no : {A : Type 0} (b : Bool) (x y : A) → b ≡ false → (if b then x else y) ≡ y
if_no true x y e = absurd (false≢true (sym e))
if_no false x y e = refl

differ : (m n : ℕ) → (m == n) ≡ false → m ≡ n → ⊥
differ m n e f = grind arith

pub not_eq : (m n : ℕ) → m < n → (m == n) ≡ false
not_eq m n lt = ne_eqb m n (λ e. omega (arith, lt, e))

-- no gap, one block after the other
pub step : (from : ℕ) (b : Block) (bs : List Block) (end : ℕ) → first_gap from (b ∷ bs) end ≡ None → (from ≡ b.0) × (first_gap (b.0 + b.1) bs end ≡ None)
step from b bs end e = elim (cases_Bool (from == b.0)) [
  | inl y ↦ (eqb-true from b.0 y, sym (if_yes (from == b.0) (first_gap (b.0 + b.1) bs end) (Some b.0) y) ∙ e)
  | inr n ↦ absurd (let f : Some b.0 ≡ None = sym (if_no (from == b.0) (first_gap (b.0 + b.1) bs end) (Some b.0) n) ∙ e in cc)
]

pub ends : (from end : ℕ) → first_gap from [] end ≡ None → from ≡ end
ends from end e = elim (cases_Bool (from == end)) [
  | inl y ↦ eqb-true from end y
  | inr n ↦ absurd (let f : Some end ≡ None = sym (if_no (from == end) None (Some end) n) ∙ e in cc)
]

below_end : (from : ℕ) (bs : List Block) (end : ℕ) → first_gap from bs end ≡ None → from ≤ end
below_end from [] end e = let f = ends from end e in omega (arith, f)
below_end from (b ∷ bs) end e = let s = step from b bs end e in let f = s.0 in let g = below_end (b.0 + b.1) bs end s.1 in omega (arith, f, g)

inside_all : (from : ℕ) (bs : List Block) (end : ℕ) → first_gap from bs end ≡ None → (b : Block) → In b bs → (from ≤ b.0) × (b.0 + b.1 ≤ end)
inside_all from [] end e b i = absurd i
inside_all from (x ∷ bs) end e b (inl i) = let s = step from x bs end e in let f = s.0 in let g = below_end (x.0 + x.1) bs end s.1 in
    subst (λ (c : Block). (from ≤ c.0) × (c.0 + c.1 ≤ end)) (sym i) (omega (arith, f), g)
inside_all from (x ∷ bs) end e b (inr i) = let s = step from x bs end e in let f = s.0 in let t = inside_all (x.0 + x.1) bs end s.1 b i in let g = t.0 in (omega (arith, f, g), t.1)

begins_first : (from : ℕ) (bs : List Block) (end : ℕ) → first_gap from bs end ≡ None → BeginsAt bs end from
begins_first from [] end e = inl (ends from end e)
begins_first from (b ∷ bs) end e = inr (b, inl refl, sym (step from b bs end e).0)

begins_more : (x : Block) (bs : List Block) (end at : ℕ) → BeginsAt bs end at → BeginsAt (x ∷ bs) end at
begins_more x bs end at (inl e) = inl e
begins_more x bs end at (inr t) = inr (t.0, inr t.1, t.2)

behind_all : (from : ℕ) (bs : List Block) (end : ℕ) → first_gap from bs end ≡ None → (b : Block) → In b bs → BeginsAt bs end (b.0 + b.1)
behind_all from [] end e b i = absurd i
behind_all from (x ∷ bs) end e b (inl i) = begins_more x bs end (b.0 + b.1) (subst (λ (c : Block). BeginsAt bs end (c.0 + c.1)) (sym i) (begins_first (x.0 + x.1) bs end (step from x bs end e).1))
behind_all from (x ∷ bs) end e b (inr i) = begins_more x bs end (b.0 + b.1) (behind_all (x.0 + x.1) bs end (step from x bs end e).1 b i)

apart_all : (from : ℕ) (bs : List Block) (end : ℕ) → first_gap from bs end ≡ None → (b c : Block) → In b bs → In c bs → b.0 < c.0 → b.0 + b.1 ≤ c.0
apart_all from [] end e b c i j lt = absurd i
apart_all from (x ∷ bs) end e b c (inl i) (inl j) lt = absurd (let f = ap (λ (d : Block). d.0) i in let g = ap (λ (d : Block). d.0) j in omega (arith, f, g, lt))
apart_all from (x ∷ bs) end e b c (inl i) (inr j) lt =
    let t = (inside_all (x.0 + x.1) bs end (step from x bs end e).1 c j).0 in let f = ap (λ (d : Block). d.0) i in let g = ap (λ (d : Block). d.1) i in omega (arith, t, f, g)
apart_all from (x ∷ bs) end e b c (inr i) (inl j) lt =
    absurd (let t = (inside_all (x.0 + x.1) bs end (step from x bs end e).1 b i).0 in let f = ap (λ (d : Block). d.0) j in omega (arith, t, f, lt))
apart_all from (x ∷ bs) end e b c (inr i) (inr j) lt = apart_all (x.0 + x.1) bs end (step from x bs end e).1 b c i j lt

pub tiling_of_no_gap : (from : ℕ) (bs : List Block) (end : ℕ) → first_gap from bs end ≡ None → AreTiling from bs end
tiling_of_no_gap from bs end e = record { begins = begins_first from bs end e; inside = inside_all from bs end e; behind = behind_all from bs end e; apart = apart_all from bs end e }

-- ---- and the other way

yes_eq : (m n : ℕ) → m ≡ n → (m == n) ≡ true
yes_eq m n e = grind arith

no_block : (from end : ℕ) → BeginsAt [] end from → from ≡ end
no_block from end (inl e) = e
no_block from end (inr t) = absurd t.1

first_is : (from : ℕ) (b : Block) (bs : List Block) (end : ℕ) → 0 < b.1 → IsRising (b ∷ bs) → from ≤ b.0 → b.0 + b.1 ≤ end → BeginsAt (b ∷ bs) end from → from ≡ b.0
first_is from b bs end long up low high (inl e) = absurd (omega (arith, long, low, high, e))
first_is from b bs end long up low high (inr (c, inl i, e)) = let f = ap (λ (d : Block). d.0) i in sym e ∙ f
first_is from b bs end long up low high (inr (c, inr i, e)) = let f = up.0 c i in absurd (omega (arith, f, e, low))

begins_rest : (b : Block) (bs : List Block) (end at : ℕ) → b.0 < at → BeginsAt (b ∷ bs) end at → BeginsAt bs end at
begins_rest b bs end at lt (inl e) = inl e
begins_rest b bs end at lt (inr (c, inl i, e)) = let f = ap (λ (d : Block). d.0) i in absurd (omega (arith, f, e, lt))
begins_rest b bs end at lt (inr (c, inr i, e)) = inr (c, i, e)

pub no_gap_of_tiling : (from : ℕ) (bs : List Block) (end : ℕ) → AllLong bs → IsRising bs → AreTiling from bs end → first_gap from bs end ≡ None
no_gap_of_tiling from [] end long up t = if_yes (from == end) None (Some end) (yes_eq from end (no_block from end t.begins))
no_gap_of_tiling from (b ∷ bs) end long up t =
    let own = t.inside b (inl refl) in
    let lb = long b (inl refl) in
    let e = first_is from b bs end lb up own.0 own.1 t.begins in
    if_yes (from == b.0) (first_gap (b.0 + b.1) bs end) (Some b.0) (yes_eq from b.0 e) ∙ no_gap_of_tiling (b.0 + b.1) bs end (λ c i. long c (inr i)) up.1 (record {
      begins = begins_rest b bs end (b.0 + b.1) (omega (arith, lb)) (t.behind b (inl refl));
      inside = λ c i. (t.apart b c (inl refl) (inr i) (up.0 c i), (t.inside c (inr i)).1);
      behind = λ c i. begins_rest b bs end (c.0 + c.1) (let f = up.0 c i in omega (arith, f)) (t.behind c (inr i));
      apart = λ c d i j lt. t.apart c d (inr i) (inr j) lt;
    })
