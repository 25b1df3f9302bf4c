-- Bytes that are put into a file made long enough for them are those of the definition.
use Rattle.std.proofs.Common.{◌≡◌, inl, inr, ℕ, ◌+◌, ◌-◌, ◌≤◌, max, List, ◌++◌, length, take, drop, sym, ◌∙◌, ap, arith}
use Rattle.std.specs.Prelude.{replicate}
use Rattle.std.proofs.Math.Seq.{take-append-add, drop-append-add}
use Rattle.std.proofs.lemmas.Bool.{cases_lt}
use Rattle.std.proofs.lemmas.List.{append-nil, drop_all, take_all, take-append-le, drop-append-le, take-replicate, drop-replicate}
use Rattle.mm_bytes.specs.Files.{resized, overwritten}

resized-longer : (n : ℕ) (old : List ℕ) → length old ≤ n → resized n old ≡ old ++ replicate (n - length old) 0
resized-longer n old fits = ap (λ (l : List ℕ). l ++ replicate (n - length old) 0) (take_all n old fits)

take-longer : (at more : ℕ) (old : List ℕ) → at ≤ length old + more → take at (old ++ replicate more 0) ≡ resized at old
take-longer at more old le = elim (cases_lt at (length old)) [
  | inl inside ↦
      let none : at - length old ≡ 0 = omega arith in
      take-append-le at old (replicate more 0) (omega arith) ∙ sym (append-nil (take at old)) ∙ ap (λ (k : ℕ). take at old ++ replicate k 0) (sym none)
  | inr past ↦
      let sum : at ≡ length old + (at - length old) = omega arith in
      let cut : take (at - length old) (replicate more 0) ≡ replicate (at - length old) 0 = take-replicate (at - length old) more 0 (omega arith) in
      ap (λ (k : ℕ). take k (old ++ replicate more 0)) sum ∙ take-append-add old (replicate more 0) (at - length old) ∙ ap (λ (l : List ℕ). old ++ l) cut ∙ sym (resized-longer at old past)
]

drop-longer : (end more : ℕ) (old : List ℕ) → more ≡ end - length old → drop end (old ++ replicate more 0) ≡ drop end old
drop-longer end more old is = elim (cases_lt (length old) end) [
  | inl past ↦
      let sum : end ≡ length old + (end - length old) = omega arith in
      let none : more - (end - length old) ≡ 0 = omega arith in
      ap (λ (k : ℕ). drop k (old ++ replicate more 0)) sum ∙ drop-append-add old (replicate more 0) (end - length old) ∙ drop-replicate (end - length old) more 0
      ∙ ap (λ (k : ℕ). replicate k 0) none ∙ sym (drop_all end old (omega arith))
  | inr inside ↦
      let none : more ≡ 0 = omega arith in
      drop-append-le end old (replicate more 0) inside ∙ ap (λ (k : ℕ). drop end old ++ replicate k 0) none ∙ append-nil (drop end old)
]

pub put_over : (at : ℕ) (bytes old : List ℕ) (n : ℕ) → n ≡ max (length old) (at + length bytes) → take at (resized n old) ++ bytes ++ drop (at + length bytes) (resized n old) ≡ overwritten at bytes old
put_over at bytes old n is =
    let long : resized n old ≡ old ++ replicate (n - length old) 0 = resized-longer n old (omega arith) in
    let front : take at (resized n old) ≡ resized at old = ap (take at) long ∙ take-longer at (n - length old) old (omega arith) in
    let back : drop (at + length bytes) (resized n old) ≡ drop (at + length bytes) old = ap (drop (at + length bytes)) long ∙ drop-longer (at + length bytes) (n - length old) old (omega arith) in
    ap (λ (l : List ℕ). l ++ bytes ++ drop (at + length bytes) (resized n old)) front ∙ ap (λ (l : List ℕ). resized at old ++ bytes ++ l) back
