-- The front of a range and a made file in a journal's section, each as 12 bytes, and back (MongoDB 2.6's journal: JEntry).
use Rattle.std.specs.Prelude.{ℕ, List, [], ◌∷◌}
use Rattle.mm_base.specs.Bytes.{part}
use Rattle.mm_base.specs.Fields.{u32_of}
use Rattle.mm_base.specs.Tables.{Cell, u32, joined}
use Rattle.mm_frames.specs.declared.entry_head.EntryHead.{EntryHead}
use Rattle.mm_frames.specs.declared.entry_head.MadeEntry.{MadeEntry}

abbrev pub entry_head_table : EntryHead → List Cell
entry_head_table h =
    u32 0 h.len
    ∷ u32 4 h.ofs
    ∷ u32 8 h.file
    ∷ []

unfoldable pub entry_head_bytes : EntryHead → List ℕ
entry_head_bytes h = joined (entry_head_table h)

unfoldable pub entry_head_of : List ℕ → EntryHead
entry_head_of bytes = record {
  len = u32_of (part 0 4 bytes);
  ofs = u32_of (part 4 4 bytes);
  file = u32_of (part 8 4 bytes);
}

abbrev pub made_entry_table : MadeEntry → List Cell
made_entry_table m =
    u32 0 0xfffffffd
    ∷ u32 4 m.file
    ∷ u32 8 m.len
    ∷ []

unfoldable pub made_entry_bytes : MadeEntry → List ℕ
made_entry_bytes m = joined (made_entry_table m)

unfoldable pub made_entry_of : List ℕ → MadeEntry
made_entry_of bytes = record {
  file = u32_of (part 4 4 bytes);
  len = u32_of (part 8 4 bytes);
}
