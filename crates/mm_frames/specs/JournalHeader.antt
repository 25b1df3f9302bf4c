-- The header of a journal's file as 8192 bytes (MongoDB 2.6's journal: JHeader), and what stands at the front of a file.
use Rattle.std.specs.Prelude.{ℕ, Bool, ◌&&◌, not, nat_le, nat_eq, if◌then◌else◌, ◌==◌, List, [], ◌∷◌, length, replicate, slice_index}
use Rattle.std.specs.Cmp.Lexicographic.{pointwise}
use Rattle.mm_base.specs.Bytes.{part}
use Rattle.mm_base.specs.Fields.{u16_of, u64_of}
use Rattle.mm_base.specs.Tables.{Cell, u16, u64, cell, reserved, joined}
use Rattle.mm_frames.specs.declared.journal_header.HeaderKind.{HeaderKind}
use Rattle.mm_frames.specs.declared.journal_header.HeaderKind.TheVariants.{Ours, Foreign, Broken}

-- The mark, the version, the time (spaces), the path (zeros) and the file's id. Lines end within it, as in a text.
abbrev pub journal_header_table : ℕ → List Cell
journal_header_table id =
    cell 0 2 (0x6a ∷ 0x0a ∷ [])
    ∷ u16 2 0x4d01
    ∷ cell 4 1 (0x0a ∷ [])
    ∷ cell 5 20 (replicate 20 0x20)
    ∷ cell 25 1 (0x0a ∷ [])
    ∷ reserved 26 128
    ∷ cell 154 2 (0x0a ∷ 0x0a ∷ [])
    ∷ u64 156 id
    ∷ reserved 164 8026
    ∷ cell 8190 2 (0x0a ∷ 0x0a ∷ [])
    ∷ []

unfoldable pub journal_header_bytes : ℕ → List ℕ
journal_header_bytes id = joined (journal_header_table id)

unfoldable pub journal_id_of : List ℕ → ℕ
journal_id_of bytes = u64_of (part 156 8 bytes)

-- the header with this id stands at the front
abbrev pub is_ours : ℕ → List ℕ → Bool
is_ours id bytes = nat_le 8192 (length bytes) && pointwise nat_eq (part 0 8192 bytes) (journal_header_bytes id)

-- the bytes by which every version's header is known
abbrev pub is_marked : List ℕ → Bool
is_marked bytes =
    (slice_index bytes 0 == 0x6a)
    && ((slice_index bytes 1 == 0x0a)
    && ((slice_index bytes 4 == 0x0a)
    && ((slice_index bytes 25 == 0x0a)
    && ((slice_index bytes 154 == 0x0a)
    && ((slice_index bytes 155 == 0x0a)
    && ((slice_index bytes 8190 == 0x0a)
    && (slice_index bytes 8191 == 0x0a)))))))

-- another version's header stands at the front
abbrev pub is_foreign : List ℕ → Bool
is_foreign bytes = nat_le 8192 (length bytes) && (is_marked bytes && not (u16_of (part 2 2 bytes) == 0x4d01))

-- what stands at the front of a file that is to have this id
unfoldable pub header_kind : ℕ → List ℕ → HeaderKind
header_kind id bytes = if is_ours id bytes then Ours else if is_foreign bytes then Foreign else Broken
