-- Which bytes, and which length, a write leaves of a file.
use Rattle.std.proofs.Common.{◌≡◌, inl, inr, ℕ, zero, suc, ◌+◌, ◌-◌, ◌<◌, ◌≤◌, max, false, List, [], ◌++◌, length, get_or, take, drop, refl, sym, ◌∙◌, ap, arith}
use Rattle.std.proofs.lemmas.Grind.{common_steps}
use Rattle.std.proofs.lemmas.Bool.{cases_lt, cases_Bool}
use Rattle.std.proofs.lemmas.Bool.Decides.{nat_tests}
use Rattle.std.proofs.Math.Seq.{drop-nil}
use Rattle.std.proofs.lemmas.List.{append-nil, get_or-take, get_or-drop, get_or_past, get_or-append_right, get_or_append_left, length-take, length-append, length-drop, ext_get_or, append_assoc, drop_at, take_at}
use Rattle.std.specs.Prelude.{replicate, nat_le, nat_lt, ◌&&◌}
use Rattle.mm_bytes.specs.Files.{resized, overwritten, read_from}

get_or-replicate_zero : (n i : ℕ) → get_or {A = ℕ} (replicate n 0) i 0 ≡ 0
get_or-replicate_zero zero i = refl
get_or-replicate_zero (suc n) zero = refl
get_or-replicate_zero (suc n) (suc i) = get_or-replicate_zero n i

pub get_or-resized : (len : ℕ) (old : List ℕ) (i : ℕ) → i < len → get_or (resized len old) i 0 ≡ get_or old i 0
get_or-resized len old i lt = elim (cases_lt i (length old)) [
  | inl inside ↦
      let shown : i < length (take len old) = omega (arith, length-take len old) in
      get_or_append_left (take len old) (replicate (len - length old) 0) 0 i shown ∙ get_or-take len old i 0 lt
  | inr past ↦
      get_or-append_right (take len old) (replicate (len - length old) 0) (length old) i 0 (length-take len old ∙ omega arith) past
      ∙ get_or-replicate_zero (len - length old) (i - length old) ∙ sym (get_or_past old i 0 past)
]

pub length-resized : (len : ℕ) (old : List ℕ) → length (resized len old) ≡ len
length-resized len old = grind (arith, common_steps)

-- outside of what is written a file stays
pub get_or-overwritten : (at : ℕ) (bytes old : List ℕ) (i : ℕ) → (nat_le at i && nat_lt i (at + length bytes)) ≡ false → get_or (overwritten at bytes old) i 0 ≡ get_or old i 0
get_or-overwritten at bytes old i out = elim (cases_lt i at) [
  | inl before ↦
      let size = length-resized at old in
      let front : get_or (overwritten at bytes old) i 0 ≡ get_or (resized at old ++ bytes) i 0 =
      get_or_append_left (resized at old ++ bytes) (drop (at + length bytes) old) 0 i (omega (arith, size, length-append (resized at old) bytes)) in
      front ∙ get_or_append_left (resized at old) bytes 0 i (omega (arith, size)) ∙ get_or-resized at old i before
  | inr from ↦
      let after : at + length bytes ≤ i = grind (arith, nat_tests, out) in
      let size = length-resized at old in
      let back : get_or (overwritten at bytes old) i 0 ≡ get_or (drop (at + length bytes) old) (i - (at + length bytes)) 0 =
      get_or-append_right (resized at old ++ bytes) (drop (at + length bytes) old) (at + length bytes) i 0 (length-append (resized at old) bytes ∙ ap (λ n. n + length bytes) size) after in
      back ∙ get_or-drop (at + length bytes) old (i - (at + length bytes)) 0 ∙ ap (λ n. get_or old n 0) (omega arith)
]

-- what is written stands there
pub get_or-overwritten_in : (at : ℕ) (bytes old : List ℕ) (i : ℕ) → at ≤ i → i < at + length bytes → get_or (overwritten at bytes old) i 0 ≡ get_or bytes (i - at) 0
get_or-overwritten_in at bytes old i from to =
    let size = length-resized at old in
    get_or_append_left (resized at old ++ bytes) (drop (at + length bytes) old) 0 i (omega (arith, size, length-append (resized at old) bytes))
    ∙ get_or-append_right (resized at old) bytes at i 0 size from

pub length-overwritten : (at : ℕ) (bytes old : List ℕ) → length (overwritten at bytes old) ≡ max (length old) (at + length bytes)
length-overwritten at bytes old =
    length-append (resized at old ++ bytes) (drop (at + length bytes) old) ∙ omega (arith, length-append (resized at old) bytes, length-resized at old, length-drop (at + length bytes) old)

-- a file's own bytes, written over it, change nothing
pub overwritten_own : (at len : ℕ) (old : List ℕ) → at + len ≤ length old → overwritten at (read_from at len old) old ≡ old
overwritten_own at len old inside =
    let count : length (read_from at len old) ≡ len = length-take len (drop at old) ∙ omega (arith, length-drop at old) in
    ext_get_or 0 _ _ (length-overwritten at (read_from at len old) old ∙ omega arith) (λ i lt. elim (cases_Bool (nat_le at i && nat_lt i (at + length (read_from at len old)))) [
      | inl within ↦
          let from : at ≤ i = grind (arith, nat_tests, within) in
          let to : i < at + length (read_from at len old) = grind (arith, nat_tests, within) in
          get_or-overwritten_in at (read_from at len old) old i from to
          ∙ get_or-take len (drop at old) (i - at) 0 (omega arith) ∙ get_or-drop at old (i - at) 0 ∙ ap (λ n. get_or old n 0) (omega arith)
      | inr out ↦ get_or-overwritten at (read_from at len old) old i out
    ])

-- what was written is read
pub read_from-overwritten : (at : ℕ) (bytes old : List ℕ) → read_from at (length bytes) (overwritten at bytes old) ≡ bytes
read_from-overwritten at bytes old =
    ap (λ (xs : List ℕ). take (length bytes) (drop at xs)) (append_assoc (resized at old) bytes (drop (at + length bytes) old))
    ∙ ap (take (length bytes)) (drop_at (resized at old) (bytes ++ drop (at + length bytes) old) at (length-resized at old))
    ∙ take_at bytes (drop (at + length bytes) old) (length bytes) refl

-- bytes that are written to an empty file are the file
pub overwritten_nothing : (bytes : List ℕ) → overwritten 0 bytes [] ≡ bytes
overwritten_nothing bytes = ap (λ (rest : List ℕ). [] ++ bytes ++ rest) (drop-nil (0 + length bytes)) ∙ append-nil bytes
