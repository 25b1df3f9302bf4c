-- The headers of a file and of its extent, by their fields.
use Rattle.std.proofs.Common.{◌≡◌, ℕ, zero, suc, ℤ, pos, ◌^◌, ◌<◌, ◌≤◌, List, [], ◌∷◌, length, codes, refl, sym, ap, ◌∙◌, arith, get_or, inl, inr, ◌⊎◌}
use Rattle.std.specs.Int.{w32, cast_signed}
use Rattle.std.specs.Int.{cast_unsigned as of_z}
use Rattle.std.specs.Prelude.{FitsSigned, Contains}
use Rattle.std.specs.List.{AllByRecursion}
use Rattle.std.proofs.lemmas.Int.{ints, to_z_pos, to_z-of_z}
use Rattle.std.proofs.lemmas.Bool.{and_parts, leb-true}
use Rattle.std.proofs.lemmas.List.Elements.{Contains-append_cases}
use Rattle.mm_base.specs.Bytes.{part, padded, zeros}
use Rattle.mm_base.specs.Names.{IsName}
use Rattle.mm_base.specs.Tables.{HasAll}
use Rattle.mm_base.specs.declared.place.DiskLoc.{DiskLoc}
use Rattle.mm_base.proofs.NameLaws.{length_found, front_is}
use Rattle.mm_base.proofs.Parts.{part-part}
use Rattle.mm_base.proofs.PlaceLaws.{not_null_is}
use Rattle.mm_frames.specs.ExtentHeader.{extent_header_of, extent_header_table}
use Rattle.mm_frames.specs.FileHeader.{file_header_of}
use Rattle.mm_frames.specs.declared.extent_header.ExtentHeader.{ExtentHeader}
use Rattle.mm_frames.specs.declared.file_header.FileHeader.{FileHeader}
use Rattle.mm_frames.proofs.Again.{file_header_is, extent_header_is}
use Rattle.mm_script.proofs.NameSteps.{collection_is_name}
use Rattle.mm_main.specs.Contents.{full_name}
use Rattle.mm_main.specs.DataFile.{at_file_0, header_with, namespace_of, HasFileHeader}
use Rattle.mm_main.specs.Findings.{extent_linking}
use Rattle.mm_main.specs.Collections.{IsCollection}
use Rattle.mm_main.specs.Opening.{HasConstants, HasNumbers}
use Rattle.mm_main.specs.Room.{file_len, extent_at}

-- ---- places of the file

-- the numbers of an offset of the file
pub at_numbers : (ofs : ℕ) → ofs < 2 ^ 31 → ((at_file_0 (pos ofs)).file ≡ pos 0) × ((at_file_0 (pos ofs)).ofs ≡ pos ofs)
at_numbers ofs small = not_null_is (pos 0) (pos ofs) (λ e. cc) (record { sfits = omega arith }) (record { sfits = omega arith })

-- a number of 32 bits by its bits
pub number_of_bits : (z : ℤ) (n : ℕ) → FitsSigned w32 z → n < 2 ^ 31 → of_z w32 z ≡ n → z ≡ pos n
number_of_bits z n fits small is = sym (to_z-of_z w32 z fits) ∙ ap (cast_signed w32) is ∙ to_z_pos w32 n (omega arith)

pub bits_of_number : (z : ℤ) (n : ℕ) → n < 2 ^ 31 → z ≡ pos n → of_z w32 z ≡ n
bits_of_number z n small is = ap (of_z w32) is ∙ omega (arith, ints)

-- ---- the file's header

pub has_file_header : (file : List ℕ) (unused : ℕ) (h : FileHeader) → h ≡ file_header_of (part 0 8192 file) → HasNumbers h unused → part 24 8168 file ≡ zeros 8168 → HasFileHeader file unused
unfolding file_header_of
has_file_header file unused h is n z = (
  sym (ap (λ (x : FileHeader). x.version) is) ∙ n.version,
  (
    sym (ap (λ (x : FileHeader). x.version_minor) is) ∙ n.version_minor,
    (
      sym (ap (λ (x : FileHeader). x.file_length) is) ∙ n.file_length,
      (
        sym (ap (λ (x : FileHeader). x.unused) is) ∙ n.place,
        (sym (ap (λ (x : FileHeader). x.unused_length) is) ∙ n.unused_length, (part-part 24 8168 0 8192 file (omega arith) ∙ z, tt)),
      ),
    ),
  ),
)

pub numbers_of : (file : List ℕ) (unused : ℕ) (h : FileHeader) → h ≡ file_header_of (part 0 8192 file) → HasFileHeader file unused → HasNumbers h unused
numbers_of file unused h is has =
    let all : h ≡ header_with unused = is ∙ file_header_is (header_with unused) (part 0 8192 file) has in
    record {
      version = ap (λ (x : FileHeader). x.version) all;
      version_minor = ap (λ (x : FileHeader). x.version_minor) all;
      file_length = ap (λ (x : FileHeader). x.file_length) all;
      place = ap (λ (x : FileHeader). x.unused) all;
      unused_length = ap (λ (x : FileHeader). x.unused_length) all;
    }

pub file_header_zeros : (file : List ℕ) (unused : ℕ) → HasFileHeader file unused → part 24 8168 file ≡ zeros 8168
file_header_zeros file unused has = sym (part-part 24 8168 0 8192 file (omega arith)) ∙ has.1.1.1.1.1.0

-- a file has one of the two headers
pub one_header : (file : List ℕ) → HasFileHeader file extent_at → HasFileHeader file file_len → ⊥
one_header file first second = absurd (omega (arith, first.1.1.1.1.0, second.1.1.1.1.0))

-- ---- the extent's header

pub has_extent_header : (file collection : List ℕ) (h : ExtentHeader) → h ≡ extent_header_of (part extent_at 176 file) → HasConstants h → h.namespace ≡ namespace_of collection
    → HasAll (part extent_at 176 file) (extent_header_table (extent_linking collection h.first_record h.last_record))
unfolding extent_header_of
has_extent_header file collection h is k name = (
  sym (ap (λ (x : ExtentHeader). x.magic) is) ∙ k.magic,
  (
    sym (ap (λ (x : ExtentHeader). x.my_loc) is) ∙ k.my_loc,
    (
      sym (ap (λ (x : ExtentHeader). x.xnext) is) ∙ k.xnext,
      (
        sym (ap (λ (x : ExtentHeader). x.xprev) is) ∙ k.xprev,
        (
          sym (ap (λ (x : ExtentHeader). x.namespace) is) ∙ name,
          (
            sym (ap (λ (x : ExtentHeader). x.len) is) ∙ k.len,
            (sym (ap (λ (x : ExtentHeader). x.first_record) is), (sym (ap (λ (x : ExtentHeader). x.last_record) is), tt)),
          ),
        ),
      ),
    ),
  ),
)

pub extent_header_fields : (file collection : List ℕ) (first last : DiskLoc) (h : ExtentHeader) → h ≡ extent_header_of (part extent_at 176 file)
    → HasAll (part extent_at 176 file) (extent_header_table (extent_linking collection first last)) → h ≡ extent_linking collection first last
extent_header_fields file collection first last h is has = is ∙ extent_header_is (extent_linking collection first last) (part extent_at 176 file) has

pub constants_of : (collection : List ℕ) (first last : DiskLoc) (h : ExtentHeader) → h ≡ extent_linking collection first last → HasConstants h
constants_of collection first last h is = record {
  magic = ap (λ (x : ExtentHeader). x.magic) is;
  my_loc = ap (λ (x : ExtentHeader). x.my_loc) is;
  xnext = ap (λ (x : ExtentHeader). x.xnext) is;
  xprev = ap (λ (x : ExtentHeader). x.xprev) is;
  len = ap (λ (x : ExtentHeader). x.len) is;
}

-- ---- names

none_at : (bytes : List ℕ) → AllByRecursion (λ b. b ≡ 0 → ⊥) bytes → (k : ℕ) → k < length bytes → get_or bytes k 0 ≡ 0 → ⊥
none_at [] all k small is = omega arith
none_at (b ∷ bytes) all zero small is = all.0 is
none_at (b ∷ bytes) all (suc k) small is = none_at bytes all.1 k (omega arith) is

front_has_no_zero : Contains (codes "test.") 0 → ⊥
front_has_no_zero inside = none_at (codes "test.") ((λ e. cc), ((λ e. cc), ((λ e. cc), ((λ e. cc), ((λ e. cc), tt))))) inside.0 inside.1 inside.2

no_zero_in : (collection : List ℕ) → IsName collection → Contains (codes "test.") 0 ⊎ Contains collection 0 → ⊥
no_zero_in collection is (inl front) = front_has_no_zero front
no_zero_in collection is (inr back) = is.no_zero back

short_name : (collection : List ℕ) → IsCollection collection → length collection ≤ 60
short_name collection is = leb-true (length collection) 60 (and_parts _ _ (and_parts _ _ (and_parts _ _ is).0).0).1

-- the full name of a collection is a name
pub name_of_collection : (collection : List ℕ) → IsCollection collection → IsName (full_name collection)
name_of_collection collection is = record {
  some = omega arith;
  short = omega (arith, short_name collection is);
  no_zero = λ inside. no_zero_in collection (collection_is_name collection is) (Contains-append_cases (codes "test.") collection 0 inside);
}

-- a padded field holds one name
pub one_name : (field a b : List ℕ) → IsName a → IsName b → field ≡ padded (length field) a → field ≡ padded (length field) b → a ≡ b
one_name field a b is_a is_b first second =
    let same : length a ≡ length b = sym (length_found field a is_a first) ∙ length_found field b is_b second in
    sym (front_is field a (length a) refl first) ∙ front_is field b (length a) same second

pub one_collection : (a b : List ℕ) → full_name a ≡ full_name b → a ≡ b
one_collection a b same = cc
