-- Which pairs of a file's number and an offset are places: both fit 32 bits, and file -1 has no offset but 0.
use Rattle.std.specs.Prelude.{zero, suc, ℤ, pos, negsuc, Bool, true, false, ◌&&◌, nat_lt, ◌^◌}

abbrev pub is_zero : ℤ → Bool
is_zero (pos zero) = true
is_zero (pos (suc n)) = false
is_zero (negsuc n) = false

abbrev pub fits_i32 : ℤ → Bool
fits_i32 (pos n) = nat_lt n (2 ^ 31)
fits_i32 (negsuc n) = nat_lt n (2 ^ 31)

abbrev pub is_one_null : ℤ → ℤ → Bool
is_one_null (pos n) ofs = true
is_one_null (negsuc zero) ofs = is_zero ofs
is_one_null (negsuc (suc n)) ofs = true

abbrev pub is_place : ℤ → ℤ → Bool
is_place file ofs = is_one_null file ofs && (fits_i32 file && fits_i32 ofs)
