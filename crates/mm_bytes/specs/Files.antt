-- Bytes written over those of a file, which grows where they reach past its end.
use Rattle.std.specs.Prelude.{ℕ, ◌+◌, ◌-◌, ◌++◌, List, length, take, drop, replicate}

-- the same bytes at another length: cut off, or zeros behind them
abbrev pub resized : ℕ → List ℕ → List ℕ
resized len bytes = take len bytes ++ replicate (len - length bytes) 0

-- these bytes at this offset, and zeros in a gap before them
abbrev pub overwritten : ℕ → List ℕ → List ℕ → List ℕ
overwritten at bytes old = resized at old ++ bytes ++ drop (at + length bytes) old

-- the bytes that a read of n bytes at an offset gives
abbrev pub read_from : ℕ → ℕ → List ℕ → List ℕ
read_from at n bytes = take n (drop at bytes)
