-- The lines of a script. The byte 0A ends a line; what stands after the last 0A is a line too where it isn't empty.
use Rattle.std.specs.Prelude.{ℕ, ◌+◌, Bool, true, if◌then◌else◌, ◌==◌, List, [], ◌∷◌, length}
use Rattle.std.specs.List.{onto_first}
use Rattle.mm_script.specs.Words.{is_space}

abbrev pub is_line_end : ℕ → Bool
is_line_end byte = byte == 10

unfoldable pub lines : List ℕ → List (List ℕ)
lines [] = []
lines (byte ∷ bytes) = if is_line_end byte then [] ∷ lines bytes else onto_first byte (lines bytes)

-- nothing but spaces, or a `#` as the first other byte
unfoldable pub is_skipped : List ℕ → Bool
is_skipped [] = true
is_skipped (b ∷ line) = if is_space b then is_skipped line else b == 0x23

-- how many bytes the lines have with their ends
abbrev pub bytes_of : List (List ℕ) → ℕ
bytes_of [] = 0
bytes_of (line ∷ lines) = length line + 1 + bytes_of lines
