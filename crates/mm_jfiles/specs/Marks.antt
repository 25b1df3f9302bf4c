-- The mark of the last section that all data files hold: the lsn file.
use Rattle.std.specs.Prelude.{◌≡◌, ◌≢◌, ℕ, ◌^◌, ◌<◌, List, [], ◌∷◌, Option, None, Some}
use Rattle.mm_frames.specs.Lsn.{lsn_bytes}
use Rattle.mm_outside.specs.Told.{Creates, Resizes, Writes, Syncs}
use Rattle.mm_outside.specs.Ask.{Ask}
use Rattle.mm_jfiles.specs.Names.{lsn_name}

-- the number that the lsn file's bytes spell, or None where they spell none
abbrev pub HasMark : List ℕ → Option ℕ → Type 0
HasMark bytes None = (n : ℕ) → n < 2 ^ 64 → bytes ≢ lsn_bytes n
HasMark bytes (Some n) = bytes ≡ lsn_bytes n

-- the lsn file is made of these bytes alone, and synced
abbrev pub mark_asks : ℕ → List Ask
mark_asks lsn =
    record { name = lsn_name; change = Creates }
    ∷ record { name = lsn_name; change = Resizes 88 }
    ∷ record { name = lsn_name; change = Writes 0 (lsn_bytes lsn) }
    ∷ record { name = lsn_name; change = Syncs }
    ∷ []
