-- What conditions say together, and what two operators say, over whole filters.
use Rattle.std.specs.Prelude.{◌≡◌, ◌↔◌, ℕ, true, false, List, is_some, codes}
use Rattle.mm_bson.specs.Tree.{array, boolean, Elements, no_elements, element, Values, no_values, item, append}
use Rattle.mm_bson.specs.Path.{value_at_path}
use Rattle.mm_query.specs.Form.{has_dollar}
use Rattle.mm_query.specs.Match.{Matches, SomeOf}
use Rattle.mm_query.specs.Laws.{asks, is_plain}

-- one filter's fields behind another's: both have to match, so their order says nothing
abbrev pub FieldsJoin : Type 0
FieldsJoin = (es fs d : Elements) → Matches (append es fs) d ↔ (Matches es d × Matches fs d)

-- to none of these values a condition is operators
abbrev pub ArePlain : Values → Type 0
ArePlain no_values = Unit {0}
ArePlain (item u vs) = is_plain u false × ArePlain vs

-- $in is equality to some of its values
abbrev pub InIsSomeEquality : Type 0
InIsSomeEquality = (path : List ℕ) (vs : Values) (d : Elements) → has_dollar path ≡ false → ArePlain vs → Matches (asks path (codes "$in") (array vs)) d ↔ SomeOf (λ u. Matches (element path u no_elements) d) vs

-- {"$exists": true} is that the path leads to a value, {"$exists": false} that it doesn't
abbrev pub ExistsTells : Type 0
ExistsTells = (path : List ℕ) (d : Elements) → has_dollar path ≡ false → Matches (asks path (codes "$exists") (boolean true)) d ↔ is_some (value_at_path path d) ≡ true

abbrev pub AbsenceTells : Type 0
AbsenceTells = (path : List ℕ) (d : Elements) → has_dollar path ≡ false → Matches (asks path (codes "$exists") (boolean false)) d ↔ is_some (value_at_path path d) ≡ false
