-- Files that are made, and bytes that are laid over files, the last of them on top.
use Rattle.std.specs.Prelude.{◌≡◌, ℕ, ◌+◌, ◌<◌, ◌≤◌, Bool, true, false, ◌&&◌, ◌||◌, if◌then◌else◌, nat_le, nat_lt, List, [], ◌∷◌, length, slice_index, replicate, Option, Some, unwrap_or, is_some}
use Rattle.std.specs.Ordering.{eq_by_cmp}
use Rattle.mm_bytes.specs.Files.{overwritten}
use Rattle.mm_outside.specs.Image.{name_cmp}

-- a file is made of so many zeros, or has bytes put into it
pub data Act : Type 0 where
  Makes : (len : ℕ) → Act
  Puts : (at : ℕ) (bytes : List ℕ) → Act

pub record Entry : Type 0 where
  pub file : List ℕ
  pub act : Act

abbrev pub is_own : List ℕ → Entry → Bool
is_own file e = eq_by_cmp name_cmp file e.file

-- A made file is zeros of exactly its length. Bytes past the end lengthen the file, and an absent file is made.
abbrev pub put : Act → Option (List ℕ) → Option (List ℕ)
put (Makes len) content = Some (replicate len 0)
put (Puts at bytes) content = Some (overwritten at bytes (unwrap_or content []))

-- a file with these entries laid over it
abbrev pub over : List Entry → List ℕ → Option (List ℕ) → Option (List ℕ)
over [] file content = content
over (e ∷ entries) file content = over entries file (if is_own file e then put e.act content else content)

abbrev pub makes : Act → Bool
makes (Makes len) = true
makes (Puts at bytes) = false

abbrev pub covers : Act → ℕ → Bool
covers (Makes len) i = true
covers (Puts at bytes) i = nat_le at i && nat_lt i (at + length bytes)

-- the file is made by one of these
abbrev pub is_made : List ℕ → List Entry → Bool
is_made file [] = false
is_made file (e ∷ entries) = (is_own file e && makes e.act) || is_made file entries

-- a byte of the file lies in one of these
abbrev pub is_covered : List ℕ → ℕ → List Entry → Bool
is_covered file i [] = false
is_covered file i (e ∷ entries) = (is_own file e && covers e.act i) || is_covered file i entries

abbrev pub size : Option (List ℕ) → ℕ
size content = length (unwrap_or content [])

abbrev pub byte : Option (List ℕ) → ℕ → ℕ
byte content i = slice_index (unwrap_or content []) i

-- Two contents of a file differ nowhere but in the entries. Where these make the file, anything may differ.
pub record DiffersWithin (entries : List Entry) (file : List ℕ) (old new : Option (List ℕ)) : Type 0 where
  pub there : is_made file entries ≡ false → is_some new ≡ is_some old
  pub sized : is_made file entries ≡ false → size new ≡ size old
  pub same : (i : ℕ) → is_covered file i entries ≡ false → byte new i ≡ byte old i

-- the bytes lie within the length that the file has by then
abbrev pub LiesIn : Act → ℕ → Type 0
LiesIn (Makes len) n = Unit {0}
LiesIn (Puts at bytes) n = (0 < length bytes) × (at + length bytes ≤ n)

abbrev pub size_after : Act → ℕ → ℕ
size_after (Makes len) n = len
size_after (Puts at bytes) n = n

-- the entries of this file lie within it, n bytes long at first
abbrev pub Fits : List ℕ → ℕ → List Entry → Type 0
Fits file n [] = Unit {0}
Fits file n (e ∷ entries) = (is_own file e ≡ true → LiesIn e.act n) × Fits file (if is_own file e then size_after e.act n else n) entries

-- no entry of the file stands before one that makes it
abbrev pub IsMadeOnce : List ℕ → List Entry → Type 0
IsMadeOnce file [] = Unit {0}
IsMadeOnce file (e ∷ entries) = (is_own file e ≡ true → is_made file entries ≡ false) × IsMadeOnce file entries
