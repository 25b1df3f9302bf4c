-- The lsn file's 88 bytes, and back (MongoDB 2.6's journal: LSNFile).
use Rattle.std.specs.Prelude.{ℕ, ◌-◌, ◌^◌, List, [], ◌∷◌}
use Rattle.mm_base.specs.Bytes.{part}
use Rattle.mm_base.specs.Fields.{u64_of}
use Rattle.mm_base.specs.Tables.{Cell, u32, u64, reserved, joined}

-- the version, the number, and the number with each bit turned
abbrev pub lsn_table : ℕ → List Cell
lsn_table lsn =
    u32 0 1
    ∷ u32 4 0
    ∷ u64 8 lsn
    ∷ u64 16 (2 ^ 64 - 1 - lsn)
    ∷ reserved 24 64
    ∷ []

unfoldable pub lsn_bytes : ℕ → List ℕ
lsn_bytes lsn = joined (lsn_table lsn)

unfoldable pub lsn_of : List ℕ → ℕ
lsn_of bytes = u64_of (part 8 8 bytes)
