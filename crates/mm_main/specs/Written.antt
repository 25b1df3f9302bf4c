-- What a write leaves as it was.
use Rattle.std.specs.Prelude.{◌≡◌, ℕ, ◌+◌, ◌≤◌, List}
use Rattle.mm_base.specs.Bytes.{part}

-- each part that lies before an offset is the same
abbrev pub SameBefore : ℕ → List ℕ → List ℕ → Type 0
SameBefore at old new = (q m : ℕ) → q + m ≤ at → part q m new ≡ part q m old

-- each part that lies behind an offset is the same
abbrev pub SameBehind : ℕ → List ℕ → List ℕ → Type 0
SameBehind at old new = (q m : ℕ) → at ≤ q → part q m new ≡ part q m old
