-- The rules of one bucket, from its children one by one.
use Rattle.std.proofs.Common.{◌≡◌, ℕ, zero, suc, ◌<◌, Bool, true, false, List, [], ◌∷◌, ◌++◌, length, map, get_or, refl, ap, inl, inr, arith}
use Rattle.std.specs.Prelude.{IsTrue}
use Rattle.std.specs.List.{AllByRecursion}
use Rattle.mm_base.specs.Places.{null}
use Rattle.mm_base.specs.declared.place.DiskLoc.{DiskLoc}
use Rattle.mm_bucket.specs.Pairs.{Pair, Contents, blank}
use Rattle.mm_bucket.specs.Rules.{left_of, children, IsNull, IsPlace, AreAlike, IsBucket, Agrees}
use Rattle.mm_bucket.proofs.Laying.{all_more}
use Rattle.mm_bucket.proofs.Prefix.{all_front, all_last}

pub agrees_of : (leaf : Bool) (p : DiskLoc) → (IsTrue leaf → p ≡ null) × (p ≡ null → IsTrue leaf) → Agrees leaf p
agrees_of true p h = h.0 refl
agrees_of false p h = λ e. absurd (let t = h.1 e in cc)

lefts_from : (leaf : Bool) (ps : List Pair) → ((i : ℕ) → i < length ps → Agrees leaf (get_or ps i blank).left) → AllByRecursion (Agrees leaf) (map left_of ps)
lefts_from leaf [] h = tt
lefts_from leaf (p ∷ ps) h = (h 0 (omega arith), lefts_from leaf ps (λ i lt. h (suc i) (omega (arith, lt))))

left_at : (P : DiskLoc → Type 0) (ps : List Pair) (i : ℕ) → i < length ps → AllByRecursion P (map left_of ps) → P (get_or ps i blank).left
left_at P [] i lt h = absurd (omega (arith, lt))
left_at P (p ∷ ps) zero lt h = h.0
left_at P (p ∷ ps) (suc i) lt h = left_at P ps i (omega (arith, lt)) h.1

alike_if : (leaf : Bool) (places : List DiskLoc) → AllByRecursion (Agrees leaf) places → AreAlike places
alike_if true places h = inl h
alike_if false places h = inr h

-- where each child is as the last one, all are alike
pub alike_from : (b : Contents) (leaf : Bool) → Agrees leaf b.next → ((i : ℕ) → i < length b.pairs → Agrees leaf (get_or b.pairs i blank).left) → AreAlike (children b)
alike_from b leaf last h = alike_if leaf (children b) (all_more (Agrees leaf) (map left_of b.pairs) b.next (lefts_from leaf b.pairs h) last)

-- and where all are alike, each is as the last one
pub child_alike : (b : Contents) (leaf : Bool) (i : ℕ) → i < length b.pairs → Agrees leaf b.next → AreAlike (children b) → Agrees leaf (get_or b.pairs i blank).left
child_alike b true i lt last (inl h) = left_at IsNull b.pairs i lt (all_front IsNull (map left_of b.pairs) (b.next ∷ []) h)
child_alike b true i lt last (inr h) = absurd (all_last IsPlace (map left_of b.pairs) b.next h last)
child_alike b false i lt last (inl h) = absurd (last (all_last IsNull (map left_of b.pairs) b.next h))
child_alike b false i lt last (inr h) = left_at IsPlace b.pairs i lt (all_front IsPlace (map left_of b.pairs) (b.next ∷ []) h)

-- a bucket without pairs
pub rules_keyless : (b : Contents) → length b.pairs ≡ 0 → b.parent ≡ null → b.next ≡ null → IsBucket b
rules_keyless b e up last = record { alike = none b.pairs e; keyless = λ f. (up, last) }
  where
    none : (ps : List Pair) → length ps ≡ 0 → AreAlike (map left_of ps ++ b.next ∷ [])
    none [] e = inl (last, tt)
    none (p ∷ ps) e = absurd (omega (arith, e))

pub rules_keyed : (b : Contents) → (length b.pairs ≡ 0 → ⊥) → AreAlike (children b) → IsBucket b
rules_keyed b some h = record { alike = h; keyless = λ e. absurd (some (ap length e)) }

pub no_pairs : (ps : List Pair) → length ps ≡ 0 → ps ≡ []
no_pairs [] e = refl
no_pairs (p ∷ ps) e = absurd (omega (arith, e))
