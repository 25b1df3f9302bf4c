-- The calls at the end of a recovery.
use Rattle.std.specs.Prelude.{ℕ, ◌<◌, ◌^◌, List, [], ◌∷◌, ◌++◌}
use Rattle.mm_outside.specs.Ask.{Ask}
use Rattle.mm_crash.specs.Asks.{sync_asks, mark_asks, remove_asks}
use Rattle.mm_journal.proofs.Real.{the_format, the_names}

-- each is the number of a file of the journal
abbrev pub AreNumbersOfFiles : List ℕ → Type 0
AreNumbersOfFiles [] = Unit {0}
AreNumbersOfFiles (n ∷ numbers) = (n < 2 ^ 32) × AreNumbersOfFiles numbers

-- these files are synced, the number is written and synced, and then these files of the journal are removed
abbrev pub close_asks : List (List ℕ) → ℕ → List ℕ → List Ask
close_asks names lsn numbers = sync_asks names ++ (mark_asks the_names.lsn the_format.size (the_format.number lsn) ++ remove_asks the_names numbers)
