-- A specification of keys is a document of 1 to 31 paths in order, each with the int32 1 or -1: by 1 the values of its field rise, by -1 they fall
-- (MongoDB 2.6, key patterns of indexes). No two paths are the same text. A path may be empty and may begin with a dollar sign.
use Rattle.std.specs.Prelude.{◌≡◌, ℕ, suc, pos, negsuc, ◌≤◌, ◌⊎◌, None}
use Rattle.mm_bson.specs.Tree.{Tree, int32, Elements, no_elements, element}
use Rattle.mm_bson.specs.Path.{find}

abbrev pub IsSign : Tree → Type 0
IsSign t = (t ≡ int32 (pos 1)) ⊎ (t ≡ int32 (negsuc 0))

-- how many elements a document has
abbrev pub fields : Elements → ℕ
fields no_elements = 0
fields (element name t es) = suc (fields es)

abbrev pub AreSigned : Elements → Type 0
AreSigned no_elements = Unit {0}
AreSigned (element path t es) = IsSign t × AreSigned es

-- no name stands again behind itself
abbrev pub AreDifferent : Elements → Type 0
AreDifferent no_elements = Unit {0}
AreDifferent (element path t es) = (find path es ≡ None) × AreDifferent es

pub record IsSpecification (es : Elements) : Type 0 where
  pub some : 1 ≤ fields es
  pub few : fields es ≤ 31
  pub signed : AreSigned es
  pub different : AreDifferent es
