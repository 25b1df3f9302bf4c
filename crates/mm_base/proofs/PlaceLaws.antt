-- A place that was written is read.
use Rattle.std.proofs.Common.{Bool, false, ◌^◌, ◌*◌, get_or, ◌≡◌, ℕ, ℤ, pos, negsuc, ◌++◌, List, length, refl, ap, sym, ◌∙◌, arith, length-append, zero, suc, true}
use Rattle.std.proofs.Math.Bool.{Bool-set}
use mathlib.Core.HLevel.{is_prop→PathP}
use Rattle.std.specs.Int.{w32}
use Rattle.std.specs.Prelude.{FitsSigned, IsTrue, ◌&&◌}
use Rattle.std.proofs.lemmas.Bool.{ltb-true, lt-ltb}
use Rattle.mm_base.specs.Bytes.{part}
use Rattle.mm_base.specs.Fields.{i32_of, i32_bytes}
use Rattle.mm_base.specs.Nulls.{is_zero, fits_i32, is_one_null, is_place}
use Rattle.mm_base.specs.Lists.{list_of, list_bytes}
use Rattle.mm_base.proofs.ListLaws.{list_again, length-list_bytes}
use Rattle.mm_base.specs.Places.{null, place_bytes, place_of, place_if, place_made}
use Rattle.mm_base.specs.declared.place.DiskLoc.{DiskLoc}
use Rattle.mm_base.proofs.Parts.{part_first, part_second, part_whole}
use Rattle.mm_base.proofs.Numbers.{i32_again, length-i32_bytes}

-- a place is its file and its offset
pub place_same : (p q : DiskLoc) → p.file ≡ q.file → p.ofs ≡ q.ofs → p ≡ q
place_same p q e f = λ i. record { file = e i; ofs = f i; known = is_prop→PathP (λ j. IsTrue (is_place (e j) (f j))) (λ j. Bool-set (is_place (e j) (f j)) true) p.known q.known i }

both : (a b : Bool) → IsTrue (a && b) → IsTrue a × IsTrue b
both true b h = (refl, h)
both false b h = absurd cc

fits_test : (z : ℤ) → IsTrue (fits_i32 z) → FitsSigned w32 z
fits_test (pos n) h = record { sfits = ltb-true n (2 ^ 31) h }
fits_test (negsuc n) h = record { sfits = omega (arith, ltb-true n (2 ^ 31) h) }

pub file_fits : (p : DiskLoc) → FitsSigned w32 p.file
file_fits p = fits_test p.file (both (fits_i32 p.file) (fits_i32 p.ofs) (both (is_one_null p.file p.ofs) (fits_i32 p.file && fits_i32 p.ofs) p.known).1).0

pub ofs_fits : (p : DiskLoc) → FitsSigned w32 p.ofs
ofs_fits p = fits_test p.ofs (both (fits_i32 p.file) (fits_i32 p.ofs) (both (is_one_null p.file p.ofs) (fits_i32 p.file && fits_i32 p.ofs) p.known).1).1

if_file : (file ofs : ℤ) (b : Bool) (e : is_place file ofs ≡ b) → b ≡ true → (place_if file ofs b e).file ≡ file
if_file file ofs true e h = refl
if_file file ofs false e h = absurd cc

if_ofs : (file ofs : ℤ) (b : Bool) (e : is_place file ofs ≡ b) → b ≡ true → (place_if file ofs b e).ofs ≡ ofs
if_ofs file ofs true e h = refl
if_ofs file ofs false e h = absurd cc

if_null : (file ofs : ℤ) (b : Bool) (e : is_place file ofs ≡ b) → file ≡ negsuc 0 → (place_if file ofs b e).file ≡ negsuc 0
if_null file ofs true e h = h
if_null file ofs false e h = refl

zero_is : (z : ℤ) → IsTrue (is_zero z) → z ≡ pos 0
zero_is (pos zero) h = refl
zero_is (pos (suc n)) h = absurd cc
zero_is (negsuc n) h = absurd cc

null_ofs : (file ofs : ℤ) → file ≡ negsuc 0 → IsTrue (is_one_null file ofs) → ofs ≡ pos 0
null_ofs (pos n) ofs e h = absurd cc
null_ofs (negsuc zero) ofs e h = zero_is ofs h
null_ofs (negsuc (suc n)) ofs e h = absurd cc

pub made_again : (p : DiskLoc) → place_made p.file p.ofs ≡ p
unfolding place_made
made_again p = place_same _ _ (if_file p.file p.ofs (is_place p.file p.ofs) refl p.known) (if_ofs p.file p.ofs (is_place p.file p.ofs) refl p.known)

-- the place that eight bytes spell, by its two numbers; of the null place the file alone
pub place_is : (bytes : List ℕ) (p : DiskLoc) → p.file ≡ i32_of (part 0 4 bytes) → p.ofs ≡ i32_of (part 4 4 bytes) → p ≡ place_of bytes
unfolding place_of
place_is bytes p e f = sym (made_again p) ∙ ap (λ (z : ℤ). place_made z p.ofs) e ∙ ap (place_made (i32_of (part 0 4 bytes))) f

nulls_same : (p q : DiskLoc) → p.file ≡ negsuc 0 → q.file ≡ negsuc 0 → p ≡ q
nulls_same p q e f = place_same p q (e ∙ sym f) (null_ofs p.file p.ofs e (both (is_one_null p.file p.ofs) (fits_i32 p.file && fits_i32 p.ofs) p.known).0 ∙ sym (null_ofs q.file q.ofs f (both (is_one_null q.file q.ofs) (fits_i32 q.file && fits_i32 q.ofs) q.known).0))

made_null : (file ofs : ℤ) → file ≡ negsuc 0 → (place_made file ofs).file ≡ negsuc 0
unfolding place_made
made_null file ofs e = if_null file ofs (is_place file ofs) refl e

pub null_is : (bytes : List ℕ) (p : DiskLoc) → p.file ≡ negsuc 0 → p.file ≡ i32_of (part 0 4 bytes) → p ≡ place_of bytes
unfolding place_of
null_is bytes p e f = nulls_same p _ e (made_null _ _ (sym f ∙ e))

test_fits : (z : ℤ) → FitsSigned w32 z → fits_i32 z ≡ true
test_fits (pos n) h = lt-ltb n (2 ^ 31) h.sfits
test_fits (negsuc n) h = lt-ltb n (2 ^ 31) (omega arith)

not_null : (file ofs : ℤ) → (file ≡ negsuc 0 → ⊥) → is_one_null file ofs ≡ true
not_null (pos n) ofs h = refl
not_null (negsuc zero) ofs h = absurd (h refl)
not_null (negsuc (suc n)) ofs h = refl

-- two numbers that are a place
pub known_is : (file ofs : ℤ) → (file ≡ negsuc 0 → ⊥) → FitsSigned w32 file → FitsSigned w32 ofs → is_place file ofs ≡ true
known_is file ofs other f g = rw (not_null file ofs other, test_fits file f, test_fits ofs g) refl

-- the numbers of a place that isn't null are those that it was made of
pub not_null_is : (file ofs : ℤ) → (file ≡ negsuc 0 → ⊥) → FitsSigned w32 file → FitsSigned w32 ofs → ((place_made file ofs).file ≡ file) × ((place_made file ofs).ofs ≡ ofs)
unfolding place_made
not_null_is file ofs other f g =
    let known = known_is file ofs other f g in
    (if_file file ofs (is_place file ofs) refl known, if_ofs file ofs (is_place file ofs) refl known)

pub place_again : (p : DiskLoc) → place_of (place_bytes p) ≡ p
unfolding place_bytes
place_again p =
    let front : part 0 4 (i32_bytes p.file ++ i32_bytes p.ofs) ≡ i32_bytes p.file = part_first 4 (i32_bytes p.file) (i32_bytes p.ofs) (length-i32_bytes p.file) in
    let back : part 4 4 (i32_bytes p.file ++ i32_bytes p.ofs) ≡ i32_bytes p.ofs = part_second 0 4 4 (i32_bytes p.file) (i32_bytes p.ofs) (length-i32_bytes p.file) ∙ part_whole 4 (i32_bytes p.ofs) (length-i32_bytes p.ofs) in
    sym (place_is (i32_bytes p.file ++ i32_bytes p.ofs) p (sym (ap i32_of front ∙ i32_again p.file (file_fits p))) (sym (ap i32_of back ∙ i32_again p.ofs (ofs_fits p))))

pub length-place_bytes : (p : DiskLoc) → length (place_bytes p) ≡ 8
unfolding place_bytes
length-place_bytes p = omega (arith, length-append (i32_bytes p.file) (i32_bytes p.ofs), length-i32_bytes p.file, length-i32_bytes p.ofs)

pub places_again : (n : ℕ) (ps : List DiskLoc) → length ps ≡ n → list_of 8 place_of n (list_bytes place_bytes ps) ≡ ps
places_again n ps len = list_again 8 n place_bytes place_of ps null length-place_bytes len (λ k lt. place_again (get_or ps k null))

pub length-places_bytes : (ps : List DiskLoc) → length (list_bytes place_bytes ps) ≡ 8 * length ps
length-places_bytes ps = length-list_bytes 8 place_bytes ps length-place_bytes
