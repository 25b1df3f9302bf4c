-- The order of keys by a specification (MongoDB 2.6, ordering of index keys): field by field by the order of values, turned round where the
-- specification has -1. A field past its end counts as one with 1. A key that another begins with is the lesser of the two.
use Rattle.std.specs.Prelude.{◌≡◌, ◌≢◌, ℕ, zero, suc, negsuc, Option, Some, None}
use Rattle.std.specs.declared.cmp.Ordering.{Ordering}
use Rattle.std.specs.declared.cmp.Ordering.TheVariants.{Less, Equal, Greater}
use Rattle.std.specs.Ordering.{ordering_then, ordering_reverse}
use Rattle.mm_bson.specs.Tree.{Tree, int32, Elements, no_elements, element}
use Rattle.mm_bson.specs.Order.{compare}

-- the order of two values by a field's sign
abbrev pub by_sign : Tree → Ordering → Ordering
by_sign (int32 (negsuc z)) o = ordering_reverse o
by_sign t o = o

abbrev pub first_sign : Elements → Ordering → Ordering
first_sign no_elements o = o
first_sign (element path t spec) o = by_sign t o

abbrev pub after_first : Elements → Elements
after_first no_elements = no_elements
after_first (element path t spec) = spec

abbrev pub key_compare : Elements → Elements → Elements → Ordering
key_compare spec no_elements no_elements = Equal
key_compare spec no_elements (element m u fs) = Less
key_compare spec (element n t es) no_elements = Greater
key_compare spec (element n t es) (element m u fs) = ordering_then (first_sign spec (compare t u)) (key_compare (after_first spec) es fs)

-- the value of a key's field
abbrev pub field : ℕ → Elements → Option Tree
field i no_elements = None
field zero (element n t es) = Some t
field (suc i) (element n t es) = field i es

-- the sign of a field: that of the specification there, 1 past its end
abbrev pub sign_at : ℕ → Elements → Ordering → Ordering
sign_at i no_elements o = o
sign_at zero (element path t spec) o = by_sign t o
sign_at (suc i) (element path t spec) o = sign_at i spec o

-- two keys have equal values, by the order, in each field before this one
abbrev pub AgreeBefore : ℕ → Elements → Elements → Type 0
AgreeBefore zero a b = Unit {0}
AgreeBefore (suc i) (element n t es) (element m u fs) = (compare t u ≡ Equal) × AgreeBefore i es fs
AgreeBefore (suc i) _ _ = ⊥

-- the first field that differs decides, by its sign
abbrev pub FirstDifferenceDecides : Type 0
FirstDifferenceDecides = (spec a b : Elements) (i : ℕ) (t u : Tree) → AgreeBefore i a b → field i a ≡ Some t → field i b ≡ Some u → compare t u ≢ Equal
    → key_compare spec a b ≡ sign_at i spec (compare t u)

-- where all fields of one key equal the first ones of a longer key, the shorter is less
abbrev pub ShorterIsLess : Type 0
ShorterIsLess = (spec a b : Elements) (i : ℕ) (u : Tree) → AgreeBefore i a b → field i a ≡ None → field i b ≡ Some u → key_compare spec a b ≡ Less

-- equal keys have as many fields, with equal values
abbrev pub EqualKeysAgree : Type 0
EqualKeysAgree = (spec a b : Elements) (i : ℕ) → AgreeBefore i a b → field i a ≡ None → field i b ≡ None → key_compare spec a b ≡ Equal
