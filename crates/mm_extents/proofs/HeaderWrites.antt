-- The fields of a data file's header are written over one whose zeros are there.
use Rattle.std.proofs.Common.{◌≡◌, ℕ, ◌+◌, ◌≤◌, List, ◌++◌, length, take, drop, refl, sym, ◌∙◌, ap, arith, length-take-le, length-drop}
use Rattle.std.proofs.lemmas.List.{take-append-drop, take_all}
use Rattle.mm_base.specs.Bytes.{part, overwritten, zeros}
use Rattle.mm_base.proofs.Parts.{length-part, part-part, part_around}
use Rattle.mm_base.proofs.TableLaws.{spelled_all, length-joined}
use Rattle.mm_ranges.specs.Overlay.{Image, bytes_at, laid}
use Rattle.mm_frames.specs.FileHeader.{file_header_bytes, file_header_table}
use Rattle.mm_extents.specs.Files.{header_with}
use Rattle.mm_extents.proofs.Writes.{laid_here}
use Rattle.mm_extents.proofs.Headers.{header_ranges}

pub header_long : (k u : ℕ) → length (file_header_bytes (header_with k u)) ≡ 8192
unfolding file_header_bytes
header_long k u = length-joined 8192 (file_header_table (header_with k u)) refl (header_ranges k u)

-- its bytes behind the fields are zeros
pub header_zeros : (k u : ℕ) → part 24 8168 (file_header_bytes (header_with k u)) ≡ zeros 8168
unfolding file_header_bytes
header_zeros k u = (spelled_all 8192 (file_header_table (header_with k u)) refl (header_ranges k u)).1.1.1.1.1.0

drop_part : (n m : ℕ) (xs : List ℕ) → length xs ≡ n + m → drop n xs ≡ part n m xs
unfolding part
drop_part n m xs long = sym (take_all m (drop n xs) (let d = length-drop n xs in omega (arith, long, d)))

over_front : (new xs : List ℕ) → overwritten 0 new xs ≡ new ++ drop (length new) xs
unfolding overwritten
over_front new xs = refl

-- the fields over a header with zeros
pub fields_over : (k u : ℕ) (xs : List ℕ) → length xs ≡ 8192 → part 24 8168 xs ≡ zeros 8168 → overwritten 0 (take 24 (file_header_bytes (header_with k u))) xs ≡ file_header_bytes (header_with k u)
fields_over k u xs long none =
    let h = file_header_bytes (header_with k u) in
    let hl = header_long k u in
    let tl = length-take-le 24 h (omega (arith, hl)) in
    over_front (take 24 h) xs ∙ ap (λ (n : ℕ). take 24 h ++ drop n xs) tl
    ∙ ap (λ (ys : List ℕ). take 24 h ++ ys) (drop_part 24 8168 xs long ∙ none ∙ sym (header_zeros k u) ∙ sym (drop_part 24 8168 h hl)) ∙ take-append-drop 24 h

pub header_put : (image : Image) (file k u : ℕ) → 8192 ≤ length (bytes_at image file) → part 24 8168 (bytes_at image file) ≡ zeros 8168
    → part 0 8192 (bytes_at (laid file 0 (take 24 (file_header_bytes (header_with k u))) image) file) ≡ file_header_bytes (header_with k u)
header_put image file k u le none =
    let h = file_header_bytes (header_with k u) in
    let hl = header_long k u in
    let tl = length-take-le 24 h (omega (arith, hl)) in
    ap (part 0 8192) (laid_here image file 0 (take 24 h) (omega arith)) ∙ part_around 0 8192 0 (take 24 h) (bytes_at image file) (omega (arith, tl)) le
    ∙ fields_over k u (part 0 8192 (bytes_at image file)) (length-part 0 8192 (bytes_at image file) le) (part-part 24 8168 0 8192 (bytes_at image file) (omega arith) ∙ none)

-- where the header is spelled the zeros are there
pub zeros_there : (k u : ℕ) (xs : List ℕ) → part 0 8192 xs ≡ file_header_bytes (header_with k u) → part 24 8168 xs ≡ zeros 8168
zeros_there k u xs e = sym (part-part 24 8168 0 8192 xs (omega arith)) ∙ ap (part 24 8168) e ∙ header_zeros k u
