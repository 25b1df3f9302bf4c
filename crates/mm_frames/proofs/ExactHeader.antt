-- When a data file's header is exactly the bytes of some header.
use Rattle.std.proofs.Common.{◌≡◌, ℕ, List, length, refl, ap, ◌∙◌}
use Rattle.mm_base.specs.Bytes.{part, zeros}
use Rattle.mm_base.specs.Places.{place_of, place_bytes}
use Rattle.mm_base.specs.Tables.{AllInRange}
use Rattle.mm_base.proofs.Spelled.{AreBytes, bytes_of_part, u32_below}
use Rattle.mm_base.proofs.TableLaws.{spelled_all}
use Rattle.mm_base.proofs.ExactLaws.{joined_has}
use Rattle.mm_frames.specs.FileHeader.{file_header_of, file_header_table, file_header_bytes}

pub exact_if : (frame : List ℕ) → length frame ≡ 8192 → AreBytes frame → part 12 8 frame ≡ place_bytes (place_of (part 12 8 frame)) → part 24 8168 frame ≡ zeros 8168
    → frame ≡ file_header_bytes (file_header_of frame)
unfolding file_header_of file_header_bytes
exact_if frame len are unused rest =
    joined_has 8192 frame (file_header_table (file_header_of frame)) refl len are (refl, (refl, (refl, (refl, (refl, (rest, tt)))))) (tt, (tt, (tt, (unused, (tt, (tt, tt))))))

in_range : (frame : List ℕ) → length frame ≡ 8192 → AreBytes frame → AllInRange (file_header_table (file_header_of frame))
unfolding file_header_of
in_range frame len are =
    let below = λ (k : ℕ). u32_below (part k 4 frame) (bytes_of_part k 4 frame are) in
    (below 0, (below 4, (below 8, (tt, (below 20, (tt, tt))))))

-- the part of the unused place, and the zeros
pub exact_only : (frame : List ℕ) → length frame ≡ 8192 → AreBytes frame → frame ≡ file_header_bytes (file_header_of frame)
    → (part 12 8 frame ≡ place_bytes (place_of (part 12 8 frame))) × (part 24 8168 frame ≡ zeros 8168)
unfolding file_header_bytes file_header_of
exact_only frame len are is =
    let spelled = spelled_all 8192 (file_header_table (file_header_of frame)) refl (in_range frame len are) in
    (ap (part 12 8) is ∙ spelled.1.1.1.0, ap (part 24 8168) is ∙ spelled.1.1.1.1.1.0)
