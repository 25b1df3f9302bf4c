-- What a fault says of the bytes, in other words than those of Reading.
use Rattle.std.specs.Prelude.{◌≡◌, ℕ, zero, suc, ◌+◌, ◌<◌, ◌≤◌, List, [], ◌∷◌, length, take, drop, false}
use Rattle.std.specs.Int.{w32, to_le_bytes}
use Rattle.std.specs.Str.{is_utf8}
use Rattle.mm_bson.specs.declared.fault.BsonFault.{BsonFault}
use Rattle.mm_bson.specs.declared.fault.BsonFault.TheVariants.{BadLength, BadType, BadUtf8, BadName, TooDeep, TooLong, NoMemory}
use Rattle.mm_bson.specs.Reading.{IsFramed}

-- A fault inside a document that begins at lo, and whose last byte lies at hi: there, and never TooLong.
abbrev pub LiesIn : ℕ → ℕ → BsonFault → Type 0
LiesIn lo hi (BadLength at) = (lo ≤ at) × (at ≤ hi)
LiesIn lo hi (BadType at byte) = (lo ≤ at) × (at ≤ hi)
LiesIn lo hi (BadUtf8 at) = (lo ≤ at) × (at ≤ hi)
LiesIn lo hi (BadName at) = (lo ≤ at) × (at ≤ hi)
LiesIn lo hi (TooDeep at) = (lo ≤ at) × (at ≤ hi)
LiesIn lo hi TooLong = ⊥
LiesIn lo hi NoMemory = ⊥

-- Each fault lies in the bytes. TooLong comes where they begin with their length and are more than 16,777,216, and nowhere else.
abbrev pub IsExplained : List ℕ → BsonFault → Type 0
IsExplained bytes TooLong = IsFramed bytes × (0x100_0000 < length bytes)
IsExplained bytes NoMemory = Unit {0}
IsExplained bytes e = LiesIn 0 (length bytes) e

-- this text stands at this place
abbrev pub Stands : ℕ → List ℕ → List ℕ → Type 0
Stands at text all = take (length text) (drop at all) ≡ text

-- one document or array begins inside another: behind its length, and before its last byte
pub record IsInside (outer at : ℕ) (all : List ℕ) : Type 0 where
  pub len : ℕ
  pub stands : Stands outer (to_le_bytes w32 len) all
  pub behind : outer + 4 < at
  pub before : at + 4 < outer + len

-- one begins there that lies inside so many others, of which the outermost begins at 0
unfoldable pub IsDown : ℕ → ℕ → List ℕ → Type 0
IsDown zero at all = at ≡ 0
IsDown (suc levels) at all = (outer : ℕ) × IsDown levels outer all × IsInside outer at all

-- What stands where a fault is: the byte that it names, a text that isn't UTF-8, the length of one that lies inside 100 others.
abbrev pub IsShown : List ℕ → BsonFault → Type 0
IsShown all (BadType at byte) = Stands at (byte ∷ []) all
IsShown all (BadUtf8 at) = (text : List ℕ) × Stands at text all × (is_utf8 text ≡ false)
IsShown all (TooDeep at) = IsDown 100 at all × ((len : ℕ) × Stands at (to_le_bytes w32 len) all)
IsShown all e = Unit {0}
