-- Bytes that are the spelling of what they are read as.
use Rattle.std.proofs.Common.{◌≡◌, ℕ, ℤ, pos, negsuc, zero, suc, Bool, true, false, ◌+◌, ◌<◌, ◌≤◌, ◌^◌, ◌⊎◌, inl, inr, List, [], ◌∷◌, ◌++◌, length, get_or, take, drop, refl, sym, ap, lit<, ◌∙◌, arith}
use Rattle.std.specs.Int.{w32, w64}
use Rattle.std.specs.Prelude.{FitsSigned, ◌&&◌, ◌==◌}
use Rattle.std.specs.List.{list_all}
use Rattle.std.proofs.Math.Facts.{sfits_to_z}
use Rattle.std.proofs.lemmas.Bool.{cases_lt, eqb-true}
use Rattle.std.proofs.lemmas.Int.{of_z-to_z}
use Rattle.std.proofs.lemmas.List.{get_or-take, get_or-drop, get_or_past, length-take}
use Rattle.std.proofs.lemmas.Nat.{le_bytes_2, le_bytes_4, le_bytes_8}
use Rattle.mm_base.specs.Bytes.{part, zeros}
use Rattle.mm_base.specs.Fields.{u16_of, u32_of, u64_of, i32_of, i64_of, u16_bytes, u32_bytes, u64_bytes, i32_bytes, i64_bytes}
use Rattle.mm_base.specs.Places.{null, place_bytes, place_of, place_made}
use Rattle.mm_base.specs.declared.place.DiskLoc.{DiskLoc}
use Rattle.mm_base.proofs.Numbers.{i32_again, length-i32_bytes}
use Rattle.mm_base.proofs.Parts.{length-part, part_second, part_whole, joined_parts}
use Rattle.mm_base.proofs.PlaceLaws.{null_is, not_null_is}

-- each is a byte
abbrev pub AreBytes : List ℕ → Type 0
AreBytes bytes = (i : ℕ) → get_or bytes i 0 < 256

at_taken : (n i : ℕ) (bytes : List ℕ) → AreBytes bytes → (i < n) ⊎ (n ≤ i) → get_or (take n bytes) i 0 < 256
at_taken n i bytes are (inl below) = omega (arith, get_or-take n bytes i 0 below, are i)
at_taken n i bytes are (inr past) = omega (arith, get_or_past (take n bytes) i 0 (omega (arith, length-take n bytes)))

pub bytes_of_part : (at n : ℕ) (bytes : List ℕ) → AreBytes bytes → AreBytes (part at n bytes)
unfolding part
bytes_of_part at n bytes are i = at_taken n i (drop at bytes) (λ k. omega (arith, get_or-drop at bytes k 0, are (at + k))) (cases_lt i n)

pub u16_spelled : (bytes : List ℕ) → length bytes ≡ 2 → AreBytes bytes → u16_bytes (u16_of bytes) ≡ bytes
unfolding u16_of u16_bytes
u16_spelled bytes len are = le_bytes_2 bytes _ len are refl

pub u32_spelled : (bytes : List ℕ) → length bytes ≡ 4 → AreBytes bytes → u32_bytes (u32_of bytes) ≡ bytes
unfolding u32_of u32_bytes
u32_spelled bytes len are = le_bytes_4 bytes _ len are refl

pub u64_spelled : (bytes : List ℕ) → length bytes ≡ 8 → AreBytes bytes → u64_bytes (u64_of bytes) ≡ bytes
unfolding u64_of u64_bytes
u64_spelled bytes len are = le_bytes_8 bytes _ len are refl

pub u32_below : (bytes : List ℕ) → AreBytes bytes → u32_of bytes < 2 ^ 32
unfolding u32_of
u32_below bytes are = omega (arith, are 0, are 1, are 2, are 3)

u64_below : (bytes : List ℕ) → AreBytes bytes → u64_of bytes < 2 ^ 64
unfolding u64_of
u64_below bytes are = omega (arith, are 0, are 1, are 2, are 3, are 4, are 5, are 6, are 7)

pub i32_spelled : (bytes : List ℕ) → length bytes ≡ 4 → AreBytes bytes → i32_bytes (i32_of bytes) ≡ bytes
unfolding i32_of i32_bytes
i32_spelled bytes len are = ap u32_bytes (of_z-to_z w32 (u32_of bytes) (u32_below bytes are)) ∙ u32_spelled bytes len are

pub i64_spelled : (bytes : List ℕ) → length bytes ≡ 8 → AreBytes bytes → i64_bytes (i64_of bytes) ≡ bytes
unfolding i64_of i64_bytes
i64_spelled bytes len are = ap u64_bytes (of_z-to_z w64 (u64_of bytes) (u64_below bytes are)) ∙ u64_spelled bytes len are

pub i32_fits : (bytes : List ℕ) → AreBytes bytes → FitsSigned w32 (i32_of bytes)
unfolding i32_of
i32_fits bytes are = sfits_to_z (record { fits = u32_below bytes are })

-- eight bytes by the two numbers that they spell
place_numbers : (bytes : List ℕ) → length bytes ≡ 8 → AreBytes bytes → i32_bytes (i32_of (part 0 4 bytes)) ++ i32_bytes (i32_of (part 4 4 bytes)) ≡ bytes
place_numbers bytes len are =
    let front = i32_spelled (part 0 4 bytes) (length-part 0 4 bytes (omega (arith, len))) (bytes_of_part 0 4 bytes are) in
    let back = i32_spelled (part 4 4 bytes) (length-part 4 4 bytes (omega (arith, len))) (bytes_of_part 4 4 bytes are) in
    rw (front, back) (joined_parts 4 4 bytes (omega (arith, len)))

other_spelled : (bytes : List ℕ) → length bytes ≡ 8 → AreBytes bytes → (i32_of (part 0 4 bytes) ≡ negsuc 0 → ⊥) → bytes ≡ place_bytes (place_of bytes)
unfolding place_bytes place_of
other_spelled bytes len are other =
    let is = not_null_is (i32_of (part 0 4 bytes)) (i32_of (part 4 4 bytes)) other (i32_fits (part 0 4 bytes) (bytes_of_part 0 4 bytes are)) (i32_fits (part 4 4 bytes) (bytes_of_part 4 4 bytes are)) in
    sym (ap (λ (z : ℤ). i32_bytes z ++ i32_bytes (place_of bytes).ofs) is.0 ∙ ap (λ (z : ℤ). i32_bytes (i32_of (part 0 4 bytes)) ++ i32_bytes z) is.1 ∙ place_numbers bytes len are)

null_file : (file ofs : ℤ) → FitsSigned w32 file → FitsSigned w32 ofs → place_made file ofs ≡ null → file ≡ negsuc 0
null_file (pos n) ofs f g is = absurd (let same : pos n ≡ negsuc 0 = sym (not_null_is (pos n) ofs (λ e. cc) f g).0 ∙ ap (λ (p : DiskLoc). p.file) is in cc)
null_file (negsuc zero) ofs f g is = refl
null_file (negsuc (suc n)) ofs f g is = absurd (let same : negsuc (suc n) ≡ negsuc 0 = sym (not_null_is (negsuc (suc n)) ofs (λ e. cc) f g).0 ∙ ap (λ (p : DiskLoc). p.file) is in cc)

file_of_null : (bytes : List ℕ) → AreBytes bytes → place_of bytes ≡ null → i32_of (part 0 4 bytes) ≡ negsuc 0
unfolding place_of
file_of_null bytes are is = null_file (i32_of (part 0 4 bytes)) (i32_of (part 4 4 bytes)) (i32_fits (part 0 4 bytes) (bytes_of_part 0 4 bytes are)) (i32_fits (part 4 4 bytes) (bytes_of_part 4 4 bytes are)) is

-- all places but the null one are spelled in one way
pub place_spelled : (bytes : List ℕ) → length bytes ≡ 8 → AreBytes bytes → (place_of bytes ≡ null → ⊥) → bytes ≡ place_bytes (place_of bytes)
place_spelled bytes len are other = other_spelled bytes len are (λ file. other (sym (null_is bytes null refl (sym file))))

null_bytes : (bytes : List ℕ) → length bytes ≡ 8 → AreBytes bytes → i32_of (part 0 4 bytes) ≡ negsuc 0 → i32_of (part 4 4 bytes) ≡ pos 0 → bytes ≡ place_bytes null
unfolding place_bytes
null_bytes bytes len are file ofs = rw (file, ofs) at (sym (place_numbers bytes len are))

null_again : i32_of (part 4 4 (place_bytes null)) ≡ pos 0
unfolding place_bytes
null_again =
    ap i32_of (part_second 0 4 4 (i32_bytes (negsuc 0)) (i32_bytes (pos 0)) (length-i32_bytes (negsuc 0)) ∙ part_whole 4 (i32_bytes (pos 0)) (length-i32_bytes (pos 0)))
    ∙ i32_again (pos 0) (record { sfits = lit< tt })

-- a null place is spelled with offset 0
pub null_spelled : (bytes : List ℕ) → length bytes ≡ 8 → AreBytes bytes → place_of bytes ≡ null → i32_of (part 4 4 bytes) ≡ pos 0 → bytes ≡ place_bytes (place_of bytes)
null_spelled bytes len are is ofs = null_bytes bytes len are (file_of_null bytes are is) ofs ∙ ap place_bytes (sym is)

pub null_ofs : (bytes : List ℕ) → place_of bytes ≡ null → bytes ≡ place_bytes (place_of bytes) → i32_of (part 4 4 bytes) ≡ pos 0
null_ofs bytes is spelled = ap (λ (b : List ℕ). i32_of (part 4 4 b)) (spelled ∙ ap place_bytes is) ∙ null_again

both : (a b : Bool) → (a && b) ≡ true → (a ≡ true) × (b ≡ true)
both true b h = (refl, h)
both false b h = absurd cc

pub zeros_if : (xs : List ℕ) → list_all (λ b. b == 0) xs ≡ true → xs ≡ zeros (length xs)
unfolding zeros
zeros_if [] all = refl
zeros_if (x ∷ xs) all = let p = both (x == 0) (list_all (λ b. b == 0) xs) all in
    ap (λ (y : ℕ). y ∷ xs) (eqb-true x 0 p.0) ∙ ap (λ (ys : List ℕ). 0 ∷ ys) (zeros_if xs p.1)

pub all_zeros : (n : ℕ) → list_all (λ b. b == 0) (zeros n) ≡ true
unfolding zeros
all_zeros zero = refl
all_zeros (suc n) = all_zeros n
