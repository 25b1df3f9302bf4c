-- A block lies inside the file, and the file's header stays while other parts are written.
use Rattle.std.proofs.Common.{ℕ, ◌+◌, ◌-◌, ◌≤◌, List, sym, arith, subst}
use Rattle.std.proofs.lemmas.Bool.{cond_both}
use Rattle.mm_base.specs.Tables.{HasAll}
use Rattle.mm_frames.specs.FileHeader.{file_header_table}
use Rattle.mm_main.specs.Room.{file_len, extent_at, request, block_len}
use Rattle.mm_main.specs.DataFile.{HasFileHeader, header_with}
use Rattle.mm_main.specs.Written.{SameBefore}

pub block_inside : (at n : ℕ) → at ≤ file_len → request n ≤ file_len - at → at + block_len at n ≤ file_len
unfolding block_len
block_inside at n inside fits = cond_both _ (file_len - at) (request n) (λ len. at + len ≤ file_len) (λ _. omega arith) (λ _. omega arith)

pub header_stays_before : (file later : List ℕ) (unused : ℕ) → SameBefore extent_at file later → HasFileHeader file unused → HasFileHeader later unused
header_stays_before file later unused same has = subst (λ (bytes : List ℕ). HasAll bytes (file_header_table (header_with unused))) (sym (same 0 8192 (omega arith))) has
