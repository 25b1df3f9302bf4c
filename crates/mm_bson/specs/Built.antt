-- What is known of each document and array in memory. A built document may be longer than one that is stored, but its length fits its i32.
use Rattle.std.specs.Prelude.{◌≡◌, ℕ, ◌<◌, ◌^◌, List, length}
use Rattle.mm_bson.specs.Tree.{Elements, depth, Values, values_depth}
use Rattle.mm_bson.specs.Spelling.{spelling, array_spelling, AreElements, AreValues}

pub record IsBuilt (es : Elements) : Type 0 where
  pub elements : AreElements es
  pub levels : depth es < 100
  pub fits : length (spelling es) < 2 ^ 31

pub record IsBuiltArray (vs : Values) : Type 0 where
  pub values : AreValues vs
  pub levels : values_depth vs < 100
  pub fits : length (array_spelling vs) < 2 ^ 31

-- the fields of a document: its bytes, and how many levels lie inside
pub record HoldsDocument (bytes : List ℕ) (inner : ℕ) (es : Elements) : Type 0 where
  pub spelled : bytes ≡ spelling es
  pub deep : inner ≡ depth es
  pub built : IsBuilt es

pub record HoldsArray (bytes : List ℕ) (inner : ℕ) (vs : Values) : Type 0 where
  pub spelled : bytes ≡ array_spelling vs
  pub deep : inner ≡ values_depth vs
  pub built : IsBuiltArray vs
