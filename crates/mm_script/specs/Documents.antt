-- Documents as parts of a line, and the document that an insert puts in.
use Rattle.std.specs.Prelude.{◌≡◌, ℕ, ◌≤◌, ◌⊎◌, List, [], ◌∷◌, ◌++◌, Option, Some, None, Ok, length, codes, drop, if◌then◌else◌}
use Rattle.std.specs.Int.{w32, to_be_bytes}
use Rattle.std.specs.Str.{bytes_eq}
use Rattle.hex.specs.Hex.{decode_of}
use Rattle.mm_bson.specs.Tree.{Tree, object_id, Elements, no_elements, element}
use Rattle.mm_bson.specs.Path.{find}
use Rattle.mm_bson.specs.Spelling.{IsDocument, spelling}
use Rattle.mm_keys.specs.Specification.{IsSpecification}
use Rattle.mm_notation.specs.Grammar.{IsDocumentText}
use Rattle.mm_model.specs.Database.{id_name}
use Rattle.mm_script.specs.Words.{Next, Ends}

-- `hex:` and the digits of the document's bytes, in either case
abbrev pub IsHexText : Elements → List ℕ → Type 0
IsHexText d part = (digits : List ℕ) × (part ≡ codes "hex:" ++ digits) × (decode_of digits ≡ Ok (spelling d)) × IsDocument d

-- the next part is the document's text in notation
abbrev pub NextNotation : Elements → List ℕ → List ℕ → Type 0
NextNotation d text rest = Next (IsDocumentText d) text rest

-- the next part is the document, in notation or as a word in hex
abbrev pub NextDocument : Elements → List ℕ → List ℕ → Type 0
NextDocument d text rest = NextNotation d text rest ⊎ (Next (IsHexText d) text rest × Ends rest)

-- a specification of keys of at most 65,536 bytes
pub record IsShortSpecification (d : Elements) : Type 0 where
  pub specification : IsSpecification d
  pub short : length (spelling d) ≤ 65536

-- the ObjectId that is made for a document without _id: 4 bytes of the stamp, 3 of zero, 2 of the session, 3 of the line, each big-endian
abbrev pub made_id : ℕ → ℕ → ℕ → List ℕ
made_id stamp session line = to_be_bytes w32 stamp ++ (0 ∷ 0 ∷ 0 ∷ []) ++ drop 2 (to_be_bytes w32 session) ++ drop 1 (to_be_bytes w32 line)

-- all fields but the first of the name _id
abbrev pub without_first_id : Elements → Elements
without_first_id no_elements = no_elements
without_first_id (element name t es) = if bytes_eq name id_name then es else element name t (without_first_id es)

abbrev pub id_in_front : List ℕ → Elements → Option Tree → Elements
id_in_front made d None = element id_name (object_id made) d
id_in_front made d (Some id) = element id_name id (without_first_id d)

-- the document with its first _id in front, or with the made one where it has none
abbrev pub with_id : List ℕ → Elements → Elements
with_id made d = id_in_front made d (find id_name d)
