-- What holds of the kind of each type byte holds of whatever kind a byte has.
use Rattle.std.proofs.Common.{◌≡◌, ℕ, Bool, true, false, cond, eqb, [], Option, Some, None, subst}
use Rattle.std.specs.Int.{w32, cast_signed}
use Rattle.mm_bson.specs.Tree.{min_key, null, int32, int64, string, document, array, binary, object_id, boolean, date, timestamp, max_key, no_elements, no_values}
use Rattle.mm_bson.specs.Reading.{kind_of}
use Rattle.mm_bson.proofs.Again.{kind_for}

-- mm_bson doesn't export the type, but its definitions speak of it
abbrev type_of : {A : Type 0} → A → Type 0
type_of {A} a = A

abbrev pub Kind : Type 0
Kind = type_of (kind_for null)

abbrev some_kind : Kind → Option Kind
some_kind k = Some k

some_is : (j k : Kind) → some_kind j ≡ Some k → j ≡ k
some_is j k h = cc

-- one test of the type byte
pick : (P : Kind → Type 0) (t : Bool) (j k : Kind) (others : Option Kind) → P j → (others ≡ Some k → P k) → cond t (Some j) others ≡ Some k → P k
pick P true j k others p q h = subst P (some_is j k h) p
pick P false j k others p q h = q h

-- what is to hold of each
pub record OfEach (P : Kind → Type 0) : Type 0 where
  pub strings : P (kind_for (string []))
  pub documents : P (kind_for (document no_elements))
  pub arrays : P (kind_for (array no_values))
  pub binaries : P (kind_for (binary 0 []))
  pub ids : P (kind_for (object_id []))
  pub booleans : P (kind_for (boolean false))
  pub dates : P (kind_for (date (cast_signed w32 0)))
  pub nulls : P (kind_for null)
  pub ints : P (kind_for (int32 (cast_signed w32 0)))
  pub timestamps : P (kind_for (timestamp 0 0))
  pub longs : P (kind_for (int64 (cast_signed w32 0)))
  pub lasts : P (kind_for max_key)
  pub firsts : P (kind_for min_key)

pub of_kind : (P : Kind → Type 0) (b : ℕ) (k : Kind) → kind_of b ≡ Some k → OfEach P → P k
of_kind P b k is h =
    pick P (eqb b 0x02) (kind_for (string [])) k _ h.strings (pick P (eqb b 0x03) (kind_for (document no_elements)) k _ h.documents (pick P (eqb b 0x04) (kind_for (array no_values)) k _ h.arrays
    (pick P (eqb b 0x05) (kind_for (binary 0 [])) k _ h.binaries (pick P (eqb b 0x07) (kind_for (object_id [])) k _ h.ids (pick P (eqb b 0x08) (kind_for (boolean false)) k _ h.booleans
    (pick P (eqb b 0x09) (kind_for (date (cast_signed w32 0))) k _ h.dates (pick P (eqb b 0x0a) (kind_for null) k _ h.nulls (pick P (eqb b 0x10) (kind_for (int32 (cast_signed w32 0))) k _ h.ints
    (pick P (eqb b 0x11) (kind_for (timestamp 0 0)) k _ h.timestamps (pick P (eqb b 0x12) (kind_for (int64 (cast_signed w32 0))) k _ h.longs (pick P (eqb b 0x7f) (kind_for max_key) k _ h.lasts
    (pick P (eqb b 0xff) (kind_for min_key) k None h.firsts (λ no. absurd cc))))))))))))) is
