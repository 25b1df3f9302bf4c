-- An array stands for the document of its values under the names "0", "1", .. in order (BSON 1.0, type 04).
use Rattle.std.specs.Prelude.{◌≡◌, ℕ, ◌+◌}
use Rattle.std.specs.Fmt.{decimal}
use Rattle.mm_bson.specs.Tree.{Elements, no_elements, element, Values, no_values, item}

-- the document, where the first name is that of the number i
abbrev pub named : ℕ → Values → Elements
named i no_values = no_elements
named i (item t vs) = element (decimal i) t (named (i + 1) vs)

-- its values again
abbrev pub unnamed : Elements → Values
unnamed no_elements = no_values
unnamed (element name t es) = item t (unnamed es)

-- the names are those of i and the numbers after it
abbrev pub AreNumbered : ℕ → Elements → Type 0
AreNumbered i no_elements = Unit {0}
AreNumbered i (element name t es) = (name ≡ decimal i) × AreNumbered (i + 1) es
