-- Documents in place: the tree that bytes stand for, where they are known to spell one.
use Rattle.std.specs.Prelude.{◌≡◌, ℕ, suc, ◌<◌, ◌^◌, List, length, None, Result, Ok, Err, ◌++◌, ◌≤◌, take}
use Rattle.mm_bson.specs.declared.fault.BsonFault.{BsonFault}
use Rattle.mm_bson.specs.Tree.{Tree, document, array, tree_depth, Elements, no_elements, element, depth, Values, no_values, item}
use Rattle.mm_bson.specs.Named.{AreNumbered}
use Rattle.mm_bson.specs.Spelling.{spelling, elements_spelling, value_spelling, AreElements, IsValue}
use Rattle.mm_bson.specs.Reading.{elements_at, nested_at, body}

-- what reading gives, or nothing
abbrev pub or_nothing : Result Elements BsonFault → Elements
or_nothing (Ok es) = es
or_nothing (Err e) = no_elements

-- the elements that bytes spell
unfoldable pub elements_in : List ℕ → Elements
elements_in bytes = or_nothing (elements_at (nested_at 99) None 0 0 (length bytes) bytes)

-- the document that bytes spell
unfoldable pub document_in : List ℕ → Elements
document_in bytes = elements_in (body bytes)

-- the bytes are those of elements in a document in memory
pub record Spells (bytes : List ℕ) (es : Elements) : Type 0 where
  pub spelled : bytes ≡ elements_spelling es
  pub elements : AreElements es
  pub levels : depth es < 100
  pub fits : length bytes < 2 ^ 31

-- the bytes are those of a document in memory
pub record SpellsDocument (bytes : List ℕ) (es : Elements) : Type 0 where
  pub spelled : bytes ≡ spelling es
  pub elements : AreElements es
  pub levels : depth es < 100
  pub fits : length bytes < 2 ^ 31

-- the bytes are those of an array in memory, as the document of its values
pub record SpellsArray (bytes : List ℕ) (es : Elements) : Type 0 where
  pub document : SpellsDocument bytes es
  pub numbered : AreNumbered 0 es

abbrev pub size : Elements → ℕ
size no_elements = 0
size (element name t es) = suc (size es)

abbrev pub values_size : Values → ℕ
values_size no_values = 0
values_size (item t vs) = suc (values_size vs)

-- a value inside a document in memory
pub record IsHeld (t : Tree) : Type 0 where
  pub value : IsValue t
  pub levels : tree_depth t < 100
  pub fits : length (value_spelling t) < 2 ^ 31

-- a value that holds no other
abbrev pub IsPlain : Tree → Type 0
IsPlain (document es) = ⊥
IsPlain (array vs) = ⊥
IsPlain t = Unit {0}

-- these bytes end at a place of others
pub record EndsAt (end : ℕ) (bytes all : List ℕ) : Type 0 where
  pub front : List ℕ
  pub parts : take end all ≡ front ++ bytes
  pub within : end ≤ length all
