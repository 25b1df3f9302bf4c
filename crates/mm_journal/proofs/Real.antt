-- The journal's own spelling has the laws that the theory of crashes asks for.
use Rattle.std.proofs.Common.{◌≡◌, inl, inr, ℕ, zero, suc, Bool, true, false, cond, ◌+◌, ◌-◌, ◌^◌, ◌<◌, ◌≤◌, List, [], ◌∷◌, ◌++◌, length, get_or, replicate, refl, sym, ◌∙◌, ap, arith, length-append}
use Rattle.std.specs.Prelude.{◌&&◌, nat_lt, nat_le, nat_eq}
use Rattle.std.specs.List.{list_all}
use Rattle.std.specs.Cmp.Lexicographic.{pointwise}
use Rattle.std.specs.Prelude.{codes}
use Rattle.std.specs.Fmt.{decimal}
use Rattle.std.proofs.lemmas.Fmt.{decimal_injective}
use Rattle.std.proofs.lemmas.Bool.{cases_lt}
use Rattle.std.proofs.lemmas.List.{length-replicate}
use Rattle.std.proofs.lemmas.Cmp.{nat_list_eq_equiv}
use Rattle.std.proofs.lemmas.Bool.Decides.{nat_tests}
use Rattle.mm_base.specs.Bytes.{part, zeros}
use Rattle.mm_base.specs.Fields.{u16_bytes, u64_bytes}
use Rattle.mm_base.specs.Tables.{joined}
use Rattle.mm_base.proofs.Numbers.{length-u16_bytes, length-u64_bytes, length-zeros}
use Rattle.mm_base.proofs.Parts.{part_first}
use Rattle.mm_frames.specs.Lsn.{lsn_bytes}
use Rattle.mm_frames.specs.JournalHeader.{journal_header_bytes, header_kind}
use Rattle.mm_frames.specs.declared.journal_header.HeaderKind.TheVariants.{Ours}
use Rattle.mm_frames.proofs.JournalFrames.{length-lsn_bytes, one_lsn}
use Rattle.mm_frames.proofs.HeaderKinds.{short_is_broken}
use Rattle.mm_ranges.specs.declared.part.Part.{Part}
use Rattle.mm_section.specs.declared.section.Section.{Section}
use Rattle.mm_section.specs.Spells.{IsSpellable, AreParts, parts_bytes, sealed_len, are_rising, section_bytes}
use Rattle.mm_section.specs.Reading.{is_part}
use Rattle.mm_section.proofs.Limits.{both, part_if}
use Rattle.mm_section.proofs.Apart.{section_apart, some_section, same_parts}
use Rattle.mm_jfiles.specs.Names.{journal_name, lsn_name}
use Rattle.mm_jfiles.specs.Marks.{mark_asks}
use Rattle.mm_crash.specs.Journal.{Format}
use Rattle.mm_crash.specs.Recovered.{Names}
use Rattle.mm_crash.specs.Asks as theory
use Rattle.mm_journal.specs.Tracks.{Speaks}
use Rattle.mm_journal.specs.Real.{can_spell, is_broken, is_broken_kind, number_bytes, file_name, disk_name}

parts_if : (ps : List Part) → list_all is_part ps ≡ true → AreParts ps
parts_if [] all = tt
parts_if (p ∷ ps) all = let x = both (is_part p) (list_all is_part ps) all in (part_if p x.0, parts_if ps x.1)

-- the test of a section says that it is spelled
pub can_is : (s : Section) → can_spell s ≡ true → IsSpellable s
can_is s is =
    let a = both (nat_lt s.number (2 ^ 64 - 1)) (list_all is_part s.parts && (are_rising s.parts && nat_lt (sealed_len (parts_bytes s.parts)) (2 ^ 32))) is in
    let b = both (list_all is_part s.parts) (are_rising s.parts && nat_lt (sealed_len (parts_bytes s.parts)) (2 ^ 32)) a.1 in
    let c = both (are_rising s.parts) (nat_lt (sealed_len (parts_bytes s.parts)) (2 ^ 32)) b.1 in
    record { number = grind (arith, nat_tests); parts = parts_if s.parts b.0; rising = c.0; short = grind (arith, nat_tests) }

-- a header is 8192 bytes long, whatever its id
pub length-header : (id : ℕ) → length (journal_header_bytes id) ≡ 8192
unfolding journal_header_bytes joined
length-header id =
    let j = (0x0a ∷ 0x0a ∷ []) ++ [] in
    let i = zeros 8026 ++ j in
    let h = u64_bytes id ++ i in
    let g = (0x0a ∷ 0x0a ∷ []) ++ h in
    let f = zeros 128 ++ g in
    let e = (0x0a ∷ []) ++ f in
    let d = replicate 20 0x20 ++ e in
    let c = (0x0a ∷ []) ++ d in
    let b = u16_bytes 0x4d01 ++ c in
    let lf : length f ≡ 8166 = omega (arith, length-append (zeros 128) g, length-append (u64_bytes id) i, length-append (zeros 8026) j, length-zeros 128, length-zeros 8026, length-u64_bytes id) in
    omega (arith, lf, length-append (u16_bytes 0x4d01) c, length-append (replicate 20 0x20) e, length-u16_bytes 0x4d01)

pub begins : (id : ℕ) (rest : List ℕ) → header_kind id (journal_header_bytes id ++ rest) ≡ Ours
unfolding header_kind
begins id rest =
    let len = length-header id in
    let long : nat_le 8192 (length (journal_header_bytes id ++ rest)) ≡ true = grind (arith, length-append (journal_header_bytes id) rest, len) in
    let front : part 0 8192 (journal_header_bytes id ++ rest) ≡ journal_header_bytes id = part_first 8192 (journal_header_bytes id) rest len in
    let same : pointwise nat_eq (part 0 8192 (journal_header_bytes id ++ rest)) (journal_header_bytes id) ≡ true =
    ap (λ (l : List ℕ). pointwise nat_eq l (journal_header_bytes id)) front ∙ nat_list_eq_equiv.refl (journal_header_bytes id) in
    rw (long, same) refl

-- a number of 64 bits, and one past them
pub small : (n : ℕ) → n < 2 ^ 64 → number_bytes n ≡ lsn_bytes n
small n lt = let yes : nat_lt n (2 ^ 64) ≡ true = grind (arith, nat_tests) in ap (λ (b : Bool). cond b (lsn_bytes n) (n ∷ replicate 87 0)) yes

pub great : (n : ℕ) → 2 ^ 64 ≤ n → number_bytes n ≡ n ∷ replicate 87 0
great n le = let past : nat_lt n (2 ^ 64) ≡ false = grind (arith, nat_tests) in ap (λ (b : Bool). cond b (lsn_bytes n) (n ∷ replicate 87 0)) past

pub length-number : (n : ℕ) → length (number_bytes n) ≡ 88
length-number n = elim (cases_lt n (2 ^ 64)) [
  | inl lt ↦ ap length (small n lt) ∙ length-lsn_bytes n lt
  | inr le ↦ ap length (great n le)
]

unfoldable pub the_format : Format
the_format = record {
  can = can_spell;
  section = λ n s. section_bytes (n + 1) s;
  some = λ n s. some_section (n + 1) s;
  apart = λ n s t x y cs ct is. section_apart (n + 1) s t x y (can_is s cs) (can_is t ct) is;
  header = λ n. journal_header_bytes (n + 1);
  some_header = λ n. omega (arith, length-header (n + 1));
  is_broken = is_broken;
  short_broken = λ n bytes lt. ap is_broken_kind (short_is_broken (n + 1) bytes (omega (arith, lt, length-header (n + 1))));
  ours_whole = λ n rest. ap is_broken_kind (begins (n + 1) rest);
  number = number_bytes;
  one = λ m n lt gt is. one_lsn m n lt gt (sym (small m lt) ∙ is ∙ small n gt);
  size = 88;
  sized = length-number;
}

-- ---- names

-- the first byte of a list, or 0
abbrev first_byte : List ℕ → ℕ
first_byte bytes = get_or bytes 0 0

named_by : (n : ℕ) → first_byte (journal_name n) ≡ 0x6a
unfolding journal_name
named_by n = refl

lsn_by : first_byte lsn_name ≡ 0x6a
unfolding lsn_name
lsn_by = refl

-- the ninth byte of a journal's file is a j, that of the lsn file an l
ninth : (n : ℕ) → get_or (journal_name n) 8 0 ≡ 0x6a
unfolding journal_name
ninth n = refl

lsn_ninth : get_or lsn_name 8 0 ≡ 0x6c
unfolding lsn_name
lsn_ninth = refl

one_name : (m n : ℕ) → m < 2 ^ 64 → n < 2 ^ 64 → journal_name m ≡ journal_name n → m ≡ n
unfolding journal_name
one_name m n lt gt is = decimal_injective m n lt gt (same_parts (codes "journal/j._") (codes "journal/j._") (decimal m) (decimal n) refl is).1

zero_first : (n : ℕ) → first_byte (replicate n 0) ≡ 0
zero_first zero = refl
zero_first (suc n) = refl

file_case : (n : ℕ) → n < 2 ^ 32 → file_name n ≡ journal_name n
file_case n lt = let yes : nat_lt n (2 ^ 32) ≡ true = grind (arith, nat_tests) in ap (λ (b : Bool). cond b (journal_name n) (replicate n 0)) yes

past_case : (n : ℕ) → 2 ^ 32 ≤ n → file_name n ≡ replicate n 0
past_case n le = let past : nat_lt n (2 ^ 32) ≡ false = grind (arith, nat_tests) in ap (λ (b : Bool). cond b (journal_name n) (replicate n 0)) past

pub one_file : (m n : ℕ) → file_name m ≡ file_name n → m ≡ n
one_file m n is = elim (cases_lt m (2 ^ 32)) [
  | inl small_m ↦ elim (cases_lt n (2 ^ 32)) [
    | inl small_n ↦ one_name m n (omega (arith, small_m)) (omega (arith, small_n)) (sym (file_case m small_m) ∙ is ∙ file_case n small_n)
    | inr past_n ↦ absurd (omega (arith, named_by m, zero_first n, ap first_byte (sym (file_case m small_m) ∙ is ∙ past_case n past_n)))
  ]
  | inr past_m ↦ elim (cases_lt n (2 ^ 32)) [
    | inl small_n ↦ absurd (omega (arith, named_by n, zero_first m, ap first_byte (sym (past_case m past_m) ∙ is ∙ file_case n small_n)))
    | inr past_n ↦ omega (arith, length-replicate {A = ℕ} m 0, length-replicate {A = ℕ} n 0, ap length (sym (past_case m past_m) ∙ is ∙ past_case n past_n))
  ]
]

pub not_lsn : (n : ℕ) → file_name n ≡ lsn_name → ⊥
not_lsn n is = elim (cases_lt n (2 ^ 32)) [
  | inl low ↦ omega (arith, ninth n, lsn_ninth, ap (λ (l : List ℕ). get_or l 8 0) (sym (file_case n low) ∙ is))
  | inr past ↦ omega (arith, zero_first n, lsn_by, ap first_byte (sym (past_case n past) ∙ is))
]

unfoldable pub the_names : Names
the_names = record { journal = file_name; one = one_file; count = 2 ^ 32; lsn = lsn_name; apart = not_lsn; disk_name = disk_name }

-- the code's names and headers are these
pub speaks : Speaks the_format the_names
unfolding the_format the_names
speaks = record { header = λ n. refl; long = λ n. length-header (n + 1); journal = file_case; count = refl }

-- the mark's calls are those of the theory
pub marks_so : (lsn : ℕ) → lsn < 2 ^ 64 → mark_asks lsn ≡ theory.mark_asks the_names.lsn the_format.size (the_format.number lsn)
unfolding the_format the_names
marks_so lsn lt = ap (theory.mark_asks lsn_name 88) (sym (small lsn lt))
