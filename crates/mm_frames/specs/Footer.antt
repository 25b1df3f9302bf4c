-- The end of a journal's section as 32 bytes, and back (MongoDB 2.6's journal: JSectFooter).
use Rattle.std.specs.Prelude.{ℕ, List, [], ◌∷◌}
use Rattle.mm_base.specs.Bytes.{part}
use Rattle.mm_base.specs.Tables.{Cell, u32, cell, reserved, joined}
use Rattle.mm_frames.specs.declared.footer.Footer.{Footer}

abbrev pub footer_table : Footer → List Cell
footer_table f =
    u32 0 0xffffffff
    ∷ cell 4 16 f.hash
    ∷ reserved 20 8
    ∷ cell 28 4 (0x0a ∷ 0x0a ∷ 0x0a ∷ 0x0a ∷ [])
    ∷ []

unfoldable pub footer_bytes : Footer → List ℕ
footer_bytes f = joined (footer_table f)

unfoldable pub footer_of : List ℕ → Footer
footer_of bytes = record { hash = part 4 16 bytes }
