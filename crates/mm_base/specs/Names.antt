-- A name: 1 to 120 bytes, and none of them is zero (MongoDB 2.6's limit of a namespace).
use Rattle.std.specs.Prelude.{◌≡◌, ℕ, ◌<◌, ◌≤◌, List, length, take, Contains}
use Rattle.mm_base.specs.Bytes.{padded}

pub record IsName (bytes : List ℕ) : Type 0 where
  pub some : 0 < length bytes
  pub short : length bytes ≤ 120
  pub no_zero : ¬ Contains bytes 0

-- a name's bytes, and zeros behind them
pub record HoldsName (len : ℕ) (held : List ℕ) : Type 0 where
  pub inside : len ≤ 120
  pub room : length held ≡ 120
  pub name : IsName (take len held)
  pub rest : held ≡ padded 120 (take len held)
