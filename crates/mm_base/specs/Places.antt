-- A place as eight bytes, and back (MongoDB 2.6, MMAPv1: DiskLoc).
use Rattle.std.specs.Prelude.{◌≡◌, ℕ, ℤ, pos, negsuc, Bool, true, false, List, ◌++◌, refl}
use Rattle.mm_base.specs.Bytes.{part}
use Rattle.mm_base.specs.Fields.{i32_of, i32_bytes}
use Rattle.mm_base.specs.Nulls.{is_place}
use Rattle.mm_base.specs.declared.place.DiskLoc.{DiskLoc}

unfoldable pub place_bytes : DiskLoc → List ℕ
place_bytes p = i32_bytes p.file ++ i32_bytes p.ofs

abbrev pub null : DiskLoc
null = record { file = negsuc 0; ofs = pos 0; known = refl }

abbrev pub place_if : (file ofs : ℤ) (b : Bool) → is_place file ofs ≡ b → DiskLoc
place_if file ofs true e = record { file = file; ofs = ofs; known = e }
place_if file ofs false e = null

-- The place with these two numbers. Where they are no place, as file -1 with another offset than 0, the null place.
unfoldable pub place_made : ℤ → ℤ → DiskLoc
place_made file ofs = place_if file ofs (is_place file ofs) refl

unfoldable pub place_of : List ℕ → DiskLoc
place_of bytes = place_made (i32_of (part 0 4 bytes)) (i32_of (part 4 4 bytes))
