-- Where the reading of all the bytes stops.
use Rattle.std.proofs.Common.{◌≡◌, ◌≢◌, ℕ, ◌+◌, ◌-◌, ◌^◌, ◌<◌, ◌≤◌, Bool, true, false, cond, ltb, ◌||◌, List, ◌++◌, length, take, drop, None, Result, Ok, Err, refl, sym, ap, subst, ◌∙◌, ◌⊎◌, inl, inr, arith}
use Rattle.std.specs.Int.{w32, from_le_bytes, to_le_bytes}
use Rattle.std.proofs.lemmas.Bool.{ltb-true, ltb-false}
use Rattle.mm_bson.specs.declared.fault.BsonFault.{BsonFault}
use Rattle.mm_bson.specs.declared.fault.BsonFault.TheVariants.{BadLength, TooLong}
use Rattle.mm_bson.specs.Tree.{Elements}
use Rattle.mm_bson.specs.Reading.{◌>>=◌, number_at, nested_at, IsFramed, whole}
use Rattle.mm_bson.specs.Faults.{Stands}
use Rattle.mm_bson.specs.Walk.{EndsAt}
use Rattle.mm_bson.proofs.Bytes.{IsBytes, number_takes, wide32}
use Rattle.mm_bson.proofs.Takes.{or_false, number_ok}
use Rattle.mm_bson.proofs.Ends.{whole_ends}
use Rattle.mm_laws.specs.Fields.{Field, fault_of, end_of, IsFaulty, AgreeTo, no_length, wrong_whole, too_long, FirstBytesDecide}
use Rattle.mm_laws.proofs.Alike.{Alike, alike_less, front_stands, failed, same_fault, bind_err}
use Rattle.mm_laws.proofs.Leaves.{number_same}
use Rattle.mm_laws.proofs.Elements.{nested_stops}

-- a fault, its field, and that the first bytes decide
abbrev Decided : List ℕ → BsonFault → Type 0
Decided bytes e = (f : Field) × (fault_of f ≡ e) × IsFaulty bytes f × ((others : List ℕ) → AgreeTo (end_of f) bytes others → whole others ≡ Err e)

-- what comes behind the outermost length
abbrev after_whole : List ℕ → ℕ × List ℕ → Result Elements BsonFault
after_whole bytes n = cond (ltb n.0 5 || (ltb n.0 (length bytes) || ltb (length bytes) n.0)) (Err (BadLength 0)) (cond (ltb 0x100_0000 n.0) (Err TooLong) (nested_at 100 None 0 bytes))

module _ (bytes : List ℕ) (fits : IsBytes bytes) where
  none : (e : BsonFault) → number_at w32 (length bytes) bytes ≡ Err e → Decided bytes e
  unfolding whole
  none e h = by (ltb (length bytes) 4) refl h
    where
      by : (b : Bool) → ltb (length bytes) 4 ≡ b → cond {A = Result (ℕ × List ℕ) BsonFault} b (Err (BadLength (length bytes - length bytes))) (Ok (from_le_bytes w32 (take 4 bytes), drop 4 bytes)) ≡ Err e → Decided bytes e
      by false t p = absurd cc
      by true t p =
          let first : BadLength 0 ≡ e = ap (λ (i : ℕ). BadLength i) (omega arith) ∙ same_fault (ℕ × List ℕ) (BadLength (length bytes - length bytes)) e p in
          (no_length, first, ltb-true _ _ t, λ others g. ap (λ (q : Result (ℕ × List ℕ) BsonFault). q >>= after_whole others) (short others g.0 ∙ ap (failed (ℕ × List ℕ)) first))
        where
          short : (others : List ℕ) → length others ≡ length bytes → number_at w32 (length others) others ≡ failed (ℕ × List ℕ) (BadLength 0)
          short others long = rw (long, t) (ap (λ (i : ℕ). failed (ℕ × List ℕ) (BadLength i)) (omega arith))

  module _ (n : ℕ) (rest : List ℕ) (num : number_at w32 (length bytes) bytes ≡ Ok (n, rest)) where
    parts : bytes ≡ to_le_bytes w32 n ++ rest
    parts = (number_takes w32 (2 ^ 32) wide32 (length bytes) bytes n rest fits num).0.parts

    stands : Stands 0 (to_le_bytes w32 n) bytes
    stands =
        let zero_is : length bytes - length bytes ≡ 0 = omega arith in
        subst (λ (at : ℕ). Stands at (to_le_bytes w32 n) bytes) zero_is (front_stands (length bytes) (to_le_bytes w32 n) rest bytes bytes (whole_ends bytes) parts)

    -- the other has the same length in front
    same : (others : List ℕ) → Alike 4 bytes others → whole others ≡ after_whole others (n, drop 4 others)
    unfolding whole
    same others g =
        let there = (number_same (length bytes) 0 bytes others n rest fits num g).0 in
        ap (λ (q : Result (ℕ × List ℕ) BsonFault). q >>= after_whole others) (ap (λ (end : ℕ). number_at w32 end others) g.long ∙ there)

    wrong : (e : BsonFault) → (ltb n 5 || (ltb n (length bytes) || ltb (length bytes) n)) ≡ true → failed Elements (BadLength 0) ≡ Err e → Decided bytes e
    wrong e t p = (wrong_whole n, same_fault Elements (BadLength 0) e p, (stands, why (ltb n 5) (ltb n (length bytes)) (ltb (length bytes) n) refl refl refl t), λ others g. same others (record { long = g.0; front = g.1 }) ∙ again (length others) (nested_at 100 None 0 others) g.0 ∙ p)
      where
        why : (a b c : Bool) → ltb n 5 ≡ a → ltb n (length bytes) ≡ b → ltb (length bytes) n ≡ c → (a || (b || c)) ≡ true → ((n < 5) ⊎ (n ≢ length bytes))
        why true b c ta tb tc u = inl (ltb-true _ _ ta)
        why false true c ta tb tc u = inr (λ is. absurd (omega (arith, is, ltb-true _ _ tb)))
        why false false true ta tb tc u = inr (λ is. absurd (omega (arith, is, ltb-true _ _ tc)))
        why false false false ta tb tc u = absurd cc

        again : (l : ℕ) (r : Result Elements BsonFault) → l ≡ length bytes → cond {A = Result Elements BsonFault} (ltb n 5 || (ltb n l || ltb l n)) (Err (BadLength 0)) (cond (ltb 0x100_0000 n) (Err TooLong) r) ≡ failed Elements (BadLength 0)
        again l r is = rw (is, t) refl

    module _ (counted : n ≡ length bytes) (right : (ltb n 5 || (ltb n (length bytes) || ltb (length bytes) n)) ≡ false) where
      -- the length of the other is right too
      passes : (others : List ℕ) → Alike 4 bytes others → whole others ≡ cond {A = Result Elements BsonFault} (ltb 0x100_0000 n) (Err TooLong) (nested_at 100 None 0 others)
      passes others g = same others g ∙ again (length others) (nested_at 100 None 0 others) g.long
        where
          again : (l : ℕ) (r : Result Elements BsonFault) → l ≡ length bytes → cond {A = Result Elements BsonFault} (ltb n 5 || (ltb n l || ltb l n)) (Err (BadLength 0)) (cond (ltb 0x100_0000 n) (Err TooLong) r) ≡ cond {A = Result Elements BsonFault} (ltb 0x100_0000 n) (Err TooLong) r
          again l r is = rw (is, right) refl

      much : (e : BsonFault) → ltb 0x100_0000 n ≡ true → failed Elements TooLong ≡ Err e → Decided bytes e
      much e t p = (too_long n, same_fault Elements TooLong e p, (stands, counted, ltb-true _ _ t), λ others g. passes others (record { long = g.0; front = g.1 }) ∙ rw t p)

      within : (e : BsonFault) → 5 ≤ n → ltb 0x100_0000 n ≡ false → nested_at 100 None 0 bytes ≡ Err e → Decided bytes e
      within e some t h =
          let framed : IsFramed bytes = record { long = omega (arith, some, counted); counted = (number_ok (length bytes) bytes n rest num).1 ∙ counted } in
          let here : 0 + length bytes ≡ length bytes = omega arith in
          let few : n ≤ 0x100_0000 = ltb-false _ _ t in
          let s = (nested_stops 100 bytes).stops None 0 bytes e fits framed tt (subst (λ (i : ℕ). EndsAt i bytes bytes) (sym here) (whole_ends bytes)) (omega (arith, few, counted)) h in
          let place : end_of s.0.found ≡ s.0.seen = s.0.place ∙ omega arith in (
            s.0.found,
            s.0.names,
            s.0.faulty,
            λ others g.
                let alike : Alike s.0.seen bytes others = record { long = g.0; front = subst (λ (k : ℕ). take k others ≡ take k bytes) place g.1 } in
                passes others (alike_less 4 s.0.seen bytes others s.1 alike) ∙ rw t (s.0.again others alike),
          )

  by_length : (e : BsonFault) (n : ℕ) (rest : List ℕ) → number_at w32 (length bytes) bytes ≡ Ok (n, rest) → after_whole bytes (n, rest) ≡ Err e → Decided bytes e
  by_length e n rest num h = by (ltb n 5 || (ltb n (length bytes) || ltb (length bytes) n)) (ltb 0x100_0000 n) refl refl h
    where
      counted : (ltb n 5 || (ltb n (length bytes) || ltb (length bytes) n)) ≡ false → (5 ≤ n) × (n ≡ length bytes)
      counted t =
          let tests = or_false (ltb n 5) (ltb n (length bytes) || ltb (length bytes) n) t in
          let sizes = or_false (ltb n (length bytes)) (ltb (length bytes) n) tests.1 in
          (ltb-false _ _ tests.0, omega (arith, ltb-false _ _ sizes.0, ltb-false _ _ sizes.1))

      by : (t u : Bool) → (ltb n 5 || (ltb n (length bytes) || ltb (length bytes) n)) ≡ t → ltb 0x100_0000 n ≡ u
          → cond {A = Result Elements BsonFault} t (Err (BadLength 0)) (cond {A = Result Elements BsonFault} u (Err TooLong) (nested_at 100 None 0 bytes)) ≡ Err e → Decided bytes e
      by true u tt-is tu p = wrong n rest num e tt-is p
      by false true tf tu p = much n rest num (counted tf).1 tf e tu p
      by false false tf tu p = within n rest num (counted tf).1 tf e (counted tf).0 tu p

pub first_bytes_decide : FirstBytesDecide
unfolding whole
first_bytes_decide bytes e fits h = elim (bind_err (ℕ × List ℕ) Elements (number_at w32 (length bytes) bytes) (after_whole bytes) e h) [
  | inl p ↦ none bytes fits e p
  | inr q ↦ by_length bytes fits e q.0.0 q.0.1 q.1 q.2
]
