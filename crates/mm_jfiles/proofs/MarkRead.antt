-- What the lsn file's bytes say, as far as they were read.
use Rattle.std.proofs.Common.{◌≡◌, ◌≢◌, ℕ, ◌+◌, ◌-◌, ◌^◌, ◌<◌, ◌≤◌, min, inl, inr, List, [], ◌++◌, length, get_or, take, drop, Option, Some, None, refl, sym, ap, ◌∙◌, arith, length-append}
use Rattle.std.specs.Prelude.{IfSome, IfNone}
use Rattle.std.proofs.lemmas.List.{take_at, take_all, length-take-le, get_or-take, get_or_past}
use Rattle.std.proofs.lemmas.Bool.{cases_lt}
use Rattle.mm_base.specs.Bytes.{zeros}
use Rattle.mm_base.specs.Fields.{u32_bytes, u64_bytes}
use Rattle.mm_base.specs.Tables.{joined}
use Rattle.mm_base.proofs.Numbers.{length-u32_bytes, length-u64_bytes, length-zeros}
use Rattle.mm_bytes.specs.Files.{read_from}
use Rattle.mm_frames.specs.Lsn.{lsn_bytes}
use Rattle.mm_jfiles.specs.Marks.{HasMark}

length-lsn : (n : ℕ) → length (lsn_bytes n) ≡ 88
unfolding lsn_bytes joined
length-lsn n =
    let z = zeros 64 ++ [] in
    let d = u64_bytes (2 ^ 64 - 1 - n) ++ z in
    let c = u64_bytes n ++ d in
    let b = u32_bytes 0 ++ c in
    omega (
      arith,
      length-append (u32_bytes 1) b,
      length-append (u32_bytes 0) c,
      length-append (u64_bytes n) d,
      length-append (u64_bytes (2 ^ 64 - 1 - n)) z,
      length-append (zeros 64) [],
      length-u32_bytes 1,
      length-u32_bytes 0,
      length-u64_bytes n,
      length-u64_bytes (2 ^ 64 - 1 - n),
      length-zeros 64,
    )

-- what was read is the front of the file
front_read : (file out old : List ℕ) (n : ℕ) → n ≤ length file → out ≡ read_from 0 n file ++ drop n old → take n out ≡ take n file
front_read file out old n few is = ap (take n) is ∙ take_at (take n file) (drop n old) n (length-take-le n file few)

-- a file of which 88 bytes were read, of 89 that were asked for, has no more
pub mark_read : (file out old : List ℕ) (n : ℕ) (mark : Option ℕ) → n ≡ min 89 (length file - 0) → out ≡ read_from 0 n file ++ drop n old → IfSome mark (λ lsn. take n out ≡ lsn_bytes lsn)
    → IfNone mark ((lsn : ℕ) → lsn < 2 ^ 64 → take n out ≢ lsn_bytes lsn) → HasMark file mark
mark_read file out old n (Some lsn) count is some none =
    let few : n ≤ length file = omega (arith, count) in
    let read : take n file ≡ lsn_bytes lsn = sym (front_read file out old n few is) ∙ some in
    let all : length file ≤ n = omega (arith, count, ap length read, length-lsn lsn, length-take-le n file few) in
    sym (take_all n file all) ∙ read
mark_read file out old n None count is some none = λ lsn fits spelled.
    let few : n ≤ length file = omega (arith, count) in
    let all : length file ≤ n = omega (arith, count, ap length spelled, length-lsn lsn) in
    none lsn fits (front_read file out old n few is ∙ take_all n file all ∙ spelled)

-- what was read of a file are bytes
pub bytes_read : (file out old : List ℕ) (n : ℕ) → n ≡ min 89 (length file - 0) → out ≡ read_from 0 n file ++ drop n old → ((k : ℕ) → get_or (take n out) k 0 < 256) → (i : ℕ) → i < 89 → get_or file i 0 < 256
bytes_read file out old n count is are i lt = elim (cases_lt i n) [
  | inl inside ↦
      let front : take n out ≡ take n file = front_read file out old n (omega (arith, count)) is in
      omega (arith, get_or-take n file i 0 inside, ap (λ (l : List ℕ). get_or l i 0) front, are i)
  | inr past ↦ omega (arith, get_or_past file i 0 (omega (arith, count, past, lt)))
]
