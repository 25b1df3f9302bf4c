-- The key of a document: for each path of a specification its value, under the empty name (MongoDB 2.6, keys of indexes).
use Rattle.std.specs.Prelude.{◌≡◌, ℕ, ◌≤◌, ◌<◌, ◌⊎◌, List, [], Option, Some, None, length}
use Rattle.mm_bson.specs.Tree.{Tree, null, array, Values, Elements, no_elements, element}
use Rattle.mm_bson.specs.Path.{value_at_path}
use Rattle.mm_bson.specs.Spelling.{spelling}

-- a missing value counts as null
abbrev pub or_null : Option Tree → Tree
or_null None = null
or_null (Some t) = t

-- the value that a path gives to a document's key
abbrev pub keyed : List ℕ → Elements → Tree
keyed path d = or_null (value_at_path path d)

abbrev pub key : Elements → Elements → Elements
key d no_elements = no_elements
key d (element path t spec) = element [] (keyed path d) (key d spec)

abbrev pub IsArray : Tree → Type 0
IsArray t = (vs : Values) × (t ≡ array vs)

-- some path leads to an array
abbrev pub HasArray : Elements → Elements → Type 0
HasArray d no_elements = ⊥
HasArray d (element path t spec) = IsArray (keyed path d) ⊎ HasArray d spec

-- how many bytes a key has
abbrev pub key_len : Elements → Elements → ℕ
key_len d spec = length (spelling (key d spec))

-- a document that has a key: no path leads to an array, and the key has at most 1024 bytes
pub record HasKey (d spec : Elements) : Type 0 where
  pub no_array : HasArray d spec → ⊥
  pub short : key_len d spec ≤ 1024

-- one whose key is too long, where no path leads to an array
pub record HasLongKey (d spec : Elements) (len : ℕ) : Type 0 where
  pub no_array : HasArray d spec → ⊥
  pub long : 1024 < len
  pub counted : len ≡ key_len d spec

-- no element has a name, as in each key
abbrev pub AreNameless : Elements → Type 0
AreNameless no_elements = Unit {0}
AreNameless (element name t es) = (name ≡ []) × AreNameless es
