-- A part of some bytes, and the bytes with a part written over.
use Rattle.std.specs.Prelude.{ℕ, List, ◌++◌, length, take, drop}

-- the n bytes from this offset on
unfoldable pub part : ℕ → ℕ → List ℕ → List ℕ
part at n bytes = take n (drop at bytes)

-- the same bytes with others from this offset on
unfoldable pub overwritten : ℕ → List ℕ → List ℕ → List ℕ
overwritten at new bytes = take at bytes ++ (new ++ drop (length new) (drop at bytes))
