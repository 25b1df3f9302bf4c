-- The words for files and those for parts are one where nothing reaches past the end.
use Rattle.std.proofs.Common.{◌≡◌, ℕ, ◌+◌, ◌-◌, ◌≤◌, List, ◌++◌, length, take, drop, refl, sym, ◌∙◌, ap, append_assoc, arith}
use Rattle.std.proofs.lemmas.List.{drop-drop, append-nil}
use Rattle.std.specs.Prelude.{replicate}
use Rattle.mm_bytes.specs.Files.{resized, read_from}
use Rattle.mm_bytes.specs.Files as files
use Rattle.mm_bytes.specs.Parts.{part, overwritten}

-- what a read gives is a part
pub read_part : (at n : ℕ) (bytes : List ℕ) → read_from at n bytes ≡ part at n bytes
unfolding part
read_part at n bytes = refl

-- Bytes that are written inside a file, or right behind its end, leave no gap.
pub same_overwritten : (at : ℕ) (bytes old : List ℕ) → at ≤ length old → files.overwritten at bytes old ≡ overwritten at bytes old
unfolding overwritten
same_overwritten at bytes old le =
    let none : at - length old ≡ 0 = omega arith in
    let front : resized at old ≡ take at old = ap (λ (n : ℕ). take at old ++ replicate n 0) none ∙ append-nil (take at old) in
    ap (λ (xs : List ℕ). xs ++ bytes ++ drop (at + length bytes) old) front ∙ append_assoc (take at old) bytes (drop (at + length bytes) old)
    ∙ ap (λ (xs : List ℕ). take at old ++ (bytes ++ xs)) (sym (drop-drop (length bytes) at old))
