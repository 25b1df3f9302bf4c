-- What a writer changes of some bytes, and zeros behind a name.
use Rattle.std.specs.Prelude.{◌≡◌, ℕ, ◌+◌, ◌-◌, ◌≤◌, List, ◌++◌, length, replicate}
unfoldable pub use Rattle.mm_bytes.specs.Parts.{part, overwritten}

-- each part that lies before these n bytes, or behind them, is the same
pub record SameOutside (at n : ℕ) (old new : List ℕ) : Type 0 where
  pub before : (q m : ℕ) → q + m ≤ at → part q m new ≡ part q m old
  pub behind : (q m : ℕ) → at + n ≤ q → part q m new ≡ part q m old

-- A writer of a frame of n bytes: the value's bytes, n of them, stand from at on, the reader's function gives the value back, and nothing else changes.
pub record Puts {X : Type 0} (n : ℕ) (bytes_of : X → List ℕ) (of : List ℕ → X) (at : ℕ) (x : X) (old new : List ℕ) : Type 0 where
  pub long : length (bytes_of x) ≡ n
  pub spelled : new ≡ overwritten at (bytes_of x) old
  pub again : of (part at n new) ≡ x
  pub elsewhere : SameOutside at n old new

-- A writer of one field of a frame of n bytes: the field's bytes stand from the frame's offset k on, the reader's function then gives x, and nothing else changes.
pub record PutsField {X : Type 0} (n k : ℕ) (field : List ℕ) (of : List ℕ → X) (at : ℕ) (x : X) (old new : List ℕ) : Type 0 where
  pub spelled : new ≡ overwritten (at + k) field old
  pub again : of (part at n new) ≡ x
  pub elsewhere : SameOutside (at + k) (length field) old new

-- n zeros; opaque, since n may be large
unfoldable pub zeros : ℕ → List ℕ
zeros n = replicate n 0

-- these bytes, and zeros behind them up to n
unfoldable pub padded : ℕ → List ℕ → List ℕ
padded n bytes = bytes ++ zeros (n - length bytes)
