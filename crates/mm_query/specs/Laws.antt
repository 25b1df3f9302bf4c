-- What operators say of each other, over whole filters.
use Rattle.std.specs.Prelude.{◌≡◌, ◌↔◌, ℕ, Bool, false, List, codes}
use Rattle.mm_bson.specs.Tree.{Tree, document, array, Elements, no_elements, element, Values}
use Rattle.mm_query.specs.Form.{has_dollar, has_operators}
use Rattle.mm_query.specs.Match.{Matches}

-- the filter of one operator at a path
abbrev pub asks : List ℕ → List ℕ → Tree → Elements
asks path operator u = element path (document (element operator u no_elements)) no_elements

-- a value to which a condition is equality
abbrev pub is_plain : Tree → Bool → Type 0
is_plain (document es) b = has_operators es ≡ b
is_plain u b = Unit {0}

-- exactly the documents that don't match $in match $nin
abbrev pub NinIsContrary : Type 0
NinIsContrary = (path : List ℕ) (vs : Values) (d : Elements) → has_dollar path ≡ false → Matches (asks path (codes "$nin") (array vs)) d ↔ (Matches (asks path (codes "$in") (array vs)) d → ⊥)

-- exactly those that haven't the value match $ne
abbrev pub NeIsContrary : Type 0
NeIsContrary = (path : List ℕ) (u : Tree) (d : Elements) → has_dollar path ≡ false → is_plain u false → Matches (asks path (codes "$ne") u) d ↔ (Matches (element path u no_elements) d → ⊥)
