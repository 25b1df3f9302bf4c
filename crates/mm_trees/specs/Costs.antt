-- What a call on an index asks of its files at most.
use Rattle.std.specs.Prelude.{ℕ}

-- So many places for buckets, as one key may ask. Eight files hold 65,528 buckets at the most, so a tree of them has at most 15 levels.
abbrev pub most_places : ℕ
most_places = 32

-- the details of a collection, of 496 bytes, where another root is named
abbrev pub naming_weighs : ℕ
naming_weighs = 508
