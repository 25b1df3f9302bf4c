-- The order of values: by class, and then inside the class (MongoDB 2.6, comparison order of BSON types).
use Rattle.std.specs.Prelude.{ℕ, ℤ, pos, Bool, false, true, List, [], length}
use Rattle.std.specs.declared.cmp.Ordering.{Ordering}
use Rattle.std.specs.declared.cmp.Ordering.TheVariants.{Less, Equal, Greater}
use Rattle.std.specs.Ordering.{nat_cmp, int_cmp, ordering_then}
use Rattle.std.specs.Cmp.Lexicographic.{slice_cmp}
use Rattle.mm_bson.specs.Tree.{Tree, min_key, null, int32, int64, string, document, array, binary, object_id, boolean, date, timestamp, max_key, Elements, no_elements, element, Values, no_values, item}

abbrev pub bit : Bool → ℕ
bit false = 0
bit true = 1

abbrev pub class : Tree → ℕ
class min_key = 0
class null = 1
class (int32 z) = 2
class (int64 z) = 2
class (string s) = 3
class (document es) = 4
class (array vs) = 5
class (binary k bytes) = 6
class (object_id bytes) = 7
class (boolean b) = 8
class (date z) = 9
class (timestamp s i) = 10
class max_key = 11

-- what a value of the class holds
abbrev pub number : Tree → ℤ
number (int32 z) = z
number (int64 z) = z
number (date z) = z
number _ = pos 0

abbrev pub text : Tree → List ℕ
text (string s) = s
text (object_id bytes) = bytes
text (binary k bytes) = bytes
text _ = []

abbrev pub inner : Tree → Elements
inner (document es) = es
inner _ = no_elements

abbrev pub inner_values : Tree → Values
inner_values (array vs) = vs
inner_values _ = no_values

abbrev pub small : Tree → ℕ
small (binary k bytes) = k
small (boolean b) = bit b
small (timestamp s i) = s
small _ = 0

abbrev pub increment : Tree → ℕ
increment (timestamp s i) = i
increment _ = 0

abbrev pub text_cmp : List ℕ → List ℕ → Ordering
text_cmp = slice_cmp nat_cmp

-- inside is for two values of one class
abbrev mutual
  pub inside : Tree → Tree → Ordering
  inside (int32 z) u = int_cmp z (number u)
  inside (int64 z) u = int_cmp z (number u)
  inside (string s) u = text_cmp s (text u)
  inside (document es) u = compare_elements es (inner u)
  inside (array vs) u = compare_values vs (inner_values u)
  inside (binary k bytes) u = ordering_then (nat_cmp (length bytes) (length (text u))) (ordering_then (nat_cmp k (small u)) (text_cmp bytes (text u)))
  inside (object_id bytes) u = text_cmp bytes (text u)
  inside (boolean b) u = nat_cmp (bit b) (small u)
  inside (date z) u = int_cmp z (number u)
  inside (timestamp s i) u = ordering_then (nat_cmp s (small u)) (nat_cmp i (increment u))
  inside _ u = Equal

  -- one element after the other, by class, name and value
  pub compare_elements : Elements → Elements → Ordering
  compare_elements no_elements no_elements = Equal
  compare_elements no_elements (element m u fs) = Less
  compare_elements (element n t es) no_elements = Greater
  compare_elements (element n t es) (element m u fs) =
      ordering_then (nat_cmp (class t) (class u)) (ordering_then (text_cmp n m) (ordering_then (inside t u) (compare_elements es fs)))

  -- one value after the other, by class and value
  pub compare_values : Values → Values → Ordering
  compare_values no_values no_values = Equal
  compare_values no_values (item u ws) = Less
  compare_values (item t vs) no_values = Greater
  compare_values (item t vs) (item u ws) = ordering_then (nat_cmp (class t) (class u)) (ordering_then (inside t u) (compare_values vs ws))

abbrev pub compare : Tree → Tree → Ordering
compare t u = ordering_then (nat_cmp (class t) (class u)) (inside t u)
