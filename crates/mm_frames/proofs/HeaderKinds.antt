-- What is told of the front of a journal's file.
use Rattle.std.proofs.Common.{◌≡◌, ℕ, Bool, true, false, ◌<◌, ◌^◌, List, ◌++◌, length, take, drop, refl, sym, ap, ◌∙◌, arith, length-append}
use Rattle.std.specs.Prelude.{nat_le, nat_eq, ◌&&◌, if◌then◌else◌}
use Rattle.std.specs.Cmp.Lexicographic.{pointwise, same_text}
use Rattle.std.proofs.lemmas.Cmp.{nat_list_eq_equiv}
use Rattle.std.proofs.lemmas.List.{take-append-drop}
use Rattle.mm_base.specs.Bytes.{part}
use Rattle.mm_base.proofs.Parts.{part_first}
use Rattle.mm_frames.specs.JournalHeader.{journal_header_bytes, header_kind, is_ours, is_foreign}
use Rattle.mm_frames.specs.declared.journal_header.HeaderKind.TheVariants.{Ours, Foreign, Broken}
use Rattle.mm_frames.proofs.JournalFrames.{length-journal_header_bytes}

-- a file that is shorter than a header has a broken one
pub short_is_broken : (id : ℕ) (bytes : List ℕ) → length bytes < 8192 → header_kind id bytes ≡ Broken
unfolding header_kind
short_is_broken id bytes short = let no : nat_le 8192 (length bytes) ≡ false = grind arith in rw no refl

-- a file that begins with the header is ours
pub begins_ours : (id : ℕ) (rest : List ℕ) → id < 2 ^ 64 → header_kind id (journal_header_bytes id ++ rest) ≡ Ours
unfolding header_kind
begins_ours id rest fits =
    let len = length-journal_header_bytes id fits in
    let long : nat_le 8192 (length (journal_header_bytes id ++ rest)) ≡ true = grind (arith, length-append (journal_header_bytes id) rest, len) in
    let front : part 0 8192 (journal_header_bytes id ++ rest) ≡ journal_header_bytes id = part_first 8192 (journal_header_bytes id) rest len in
    let same : pointwise nat_eq (part 0 8192 (journal_header_bytes id ++ rest)) (journal_header_bytes id) ≡ true =
    ap (λ (l : List ℕ). pointwise nat_eq l (journal_header_bytes id)) front ∙ nat_list_eq_equiv.refl (journal_header_bytes id) in
    rw (long, same) refl

kind_case : (a b : Bool) → (if a then Ours else if b then Foreign else Broken) ≡ Ours → a ≡ true
kind_case true b is = refl
kind_case false true is = absurd cc
kind_case false false is = absurd cc

both : (a b : Bool) → (a && b) ≡ true → (a ≡ true) × (b ≡ true)
both true b h = (refl, h)
both false b h = absurd cc

-- and no other is
pub ours_begins : (id : ℕ) (bytes : List ℕ) → header_kind id bytes ≡ Ours → bytes ≡ journal_header_bytes id ++ drop 8192 bytes
unfolding header_kind part
ours_begins id bytes is =
    let ours = both (nat_le 8192 (length bytes)) (pointwise nat_eq (take 8192 bytes) (journal_header_bytes id)) (kind_case (is_ours id bytes) (is_foreign bytes) is) in
    sym (take-append-drop 8192 bytes) ∙ ap (λ (l : List ℕ). l ++ drop 8192 bytes) (same_text (take 8192 bytes) (journal_header_bytes id) (sym ours.1))
