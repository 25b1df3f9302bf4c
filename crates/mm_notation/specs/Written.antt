-- The written form of documents: one space behind `:` and `,`, and no other.
use Rattle.std.specs.Prelude.{◌≡◌, ℕ, ◌==◌, ◌||◌, ℤ, pos, negsuc, Bool, List, [], ◌∷◌, ◌++◌, codes, nat_lt, flat_map, if◌then◌else◌}
use Rattle.std.specs.Fmt.{decimal, signed_decimal}
use Rattle.hex.specs.Hex.{encode_lower, IsBytes}
use Rattle.mm_bson.specs.Tree.{Tree, min_key, null, int32, int64, string, document, array, binary, object_id, boolean, date, timestamp, max_key, Elements, no_elements, element, Values, no_values, item}

-- a byte inside quotes: `"` and `\` behind `\`, those below 0x20 as `\u00xx`, all others as they are
abbrev pub written_byte : ℕ → List ℕ
written_byte b =
    if b == 0x22 || b == 0x5c then 0x5c ∷ b ∷ []
    else (if nat_lt b 0x20 then codes "\\u00" ++ encode_lower (b ∷ []) else b ∷ [])

abbrev pub written_string : List ℕ → List ℕ
written_string s = (0x22 ∷ flat_map written_byte s) ++ 0x22 ∷ []

abbrev pub written_hex : List ℕ → List ℕ
written_hex bytes = (0x22 ∷ encode_lower bytes) ++ 0x22 ∷ []

-- whether a number is in the range of int32
abbrev pub is_small : ℤ → Bool
is_small (pos n) = nat_lt n 0x8000_0000
is_small (negsuc n) = nat_lt n 0x8000_0000

abbrev mutual
  pub written_value : Tree → List ℕ
  written_value min_key = codes "MinKey"
  written_value max_key = codes "MaxKey"
  written_value null = codes "null"
  written_value (boolean b) = if b then codes "true" else codes "false"
  written_value (int32 z) = signed_decimal z
  written_value (int64 z) = if is_small z then codes "NumberLong(" ++ (signed_decimal z ++ codes ")") else signed_decimal z
  written_value (date z) = codes "Date(" ++ (signed_decimal z ++ codes ")")
  written_value (timestamp s i) = codes "Timestamp(" ++ (decimal s ++ (codes ", " ++ (decimal i ++ codes ")")))
  written_value (object_id bytes) = codes "ObjectId(" ++ (written_hex bytes ++ codes ")")
  written_value (binary k bytes) = codes "HexData(" ++ (decimal k ++ (codes ", " ++ (written_hex bytes ++ codes ")")))
  written_value (string s) = written_string s
  written_value (array vs) = written_array vs
  written_value (document es) = written es

  pub written_array : Values → List ℕ
  written_array no_values = codes "[]"
  written_array (item t vs) = codes "[" ++ (written_value t ++ more_values vs)

  pub more_values : Values → List ℕ
  more_values no_values = codes "]"
  more_values (item t vs) = codes ", " ++ (written_value t ++ more_values vs)

  pub written : Elements → List ℕ
  written no_elements = codes "{}"
  written (element name t es) = codes "{" ++ (written_string name ++ (codes ": " ++ (written_value t ++ more_members es)))

  pub more_members : Elements → List ℕ
  more_members no_elements = codes "}"
  more_members (element name t es) = codes ", " ++ (written_string name ++ (codes ": " ++ (written_value t ++ more_members es)))

-- new is old with more behind it
abbrev pub Grows : List ℕ → List ℕ → Type 0
Grows old new = (more : List ℕ) × (new ≡ old ++ more)

-- what ObjectIds and binaries hold are bytes
abbrev mutual
  pub HoldsBytes : Tree → Type 0
  HoldsBytes (object_id bytes) = IsBytes bytes
  HoldsBytes (binary k bytes) = IsBytes bytes
  HoldsBytes (array vs) = EachHoldsBytes vs
  HoldsBytes (document es) = AllHoldBytes es
  HoldsBytes _ = Unit {0}

  pub EachHoldsBytes : Values → Type 0
  EachHoldsBytes no_values = Unit {0}
  EachHoldsBytes (item t vs) = HoldsBytes t × EachHoldsBytes vs

  pub AllHoldBytes : Elements → Type 0
  AllHoldBytes no_elements = Unit {0}
  AllHoldBytes (element name t es) = HoldsBytes t × AllHoldBytes es
