-- No value of a class is beyond the class's ends.
use Rattle.std.proofs.Common.{◌≡◌, ◌≢◌, ℕ, [], ◌∷◌, List, true, false, refl, sym, ap, ◌∙◌, arith, length}
use Rattle.std.specs.declared.cmp.Ordering.{Ordering}
use Rattle.std.specs.declared.cmp.Ordering.TheVariants.{Less, Equal, Greater}
use Rattle.std.specs.Ordering.{nat_cmp, ordering_then}
use Rattle.std.proofs.lemmas.Cmp.{ranked}
use Rattle.mm_bson.specs.Tree.{Tree, min_key, null, int32, int64, string, document, array, binary, object_id, boolean, date, timestamp, max_key, no_elements, element, no_values, item}
use Rattle.mm_bson.specs.Order.{class, inside, compare, text_cmp}
use Rattle.mm_query.specs.declared.side.Side.{Side}
use Rattle.mm_query.specs.declared.side.Side.TheVariants.{Low, High}
use Rattle.mm_query.specs.Bounds.{from_side, least, greatest, class_end, no_id}

pub then_within : (o p : Ordering) → o ≢ Greater → p ≢ Greater → ordering_then o p ≢ Greater
then_within Less p h k e = cc
then_within Equal p h k e = k e
then_within Greater p h k e = h refl

-- values of two classes
less_before : (o p : Ordering) → o ≡ Less → ordering_then o p ≢ Greater
less_before Less p is e = cc
less_before _ p is e = cc

before : (t w : Tree) (c : ℕ) → class w ≡ c → nat_cmp (class t) c ≡ Less → compare t w ≢ Greater
before t w c is less = less_before (nat_cmp (class t) (class w)) (inside t w) (ap (nat_cmp (class t)) is ∙ less)

behind : (t w : Tree) (c : ℕ) → class w ≡ c → nat_cmp c (class t) ≡ Less → compare w t ≢ Greater
behind t w c is less = less_before (nat_cmp (class w) (class t)) (inside w t) (ap (λ (n : ℕ). nat_cmp n (class t)) is ∙ less)

-- values of one class
zero_least : (n : ℕ) → nat_cmp 0 n ≢ Greater
zero_least n e =
    let less = ranked 0 n Greater (sym e) in
    absurd (omega (arith, less))

no_text_least : (s : List ℕ) → text_cmp [] s ≢ Greater
no_text_least [] e = cc
no_text_least (b ∷ s) e = cc

only_min : (w : Tree) → class w ≡ 0 → (compare min_key w ≢ Greater) × (compare w min_key ≢ Greater)
only_min min_key is = (λ e. cc, λ e. cc)
only_min _ is = absurd cc

only_null : (w : Tree) → class w ≡ 1 → (compare null w ≢ Greater) × (compare w null ≢ Greater)
only_null null is = (λ e. cc, λ e. cc)
only_null _ is = absurd cc

only_max : (w : Tree) → class w ≡ 11 → (compare max_key w ≢ Greater) × (compare w max_key ≢ Greater)
only_max max_key is = (λ e. cc, λ e. cc)
only_max _ is = absurd cc

least_string : (w : Tree) → class w ≡ 3 → compare (string []) w ≢ Greater
least_string (string s) is = no_text_least s
least_string _ is = absurd cc

least_document : (w : Tree) → class w ≡ 4 → compare (document no_elements) w ≢ Greater
least_document (document no_elements) is = λ e. cc
least_document (document (element n t es)) is = λ e. cc
least_document _ is = absurd cc

least_array : (w : Tree) → class w ≡ 5 → compare (array no_values) w ≢ Greater
least_array (array no_values) is = λ e. cc
least_array (array (item t vs)) is = λ e. cc
least_array _ is = absurd cc

least_binary : (w : Tree) → class w ≡ 6 → compare (binary 0 []) w ≢ Greater
least_binary (binary k bytes) is = then_within (nat_cmp 0 (length bytes)) _ (zero_least (length bytes)) (then_within (nat_cmp 0 k) (text_cmp [] bytes) (zero_least k) (no_text_least bytes))
least_binary _ is = absurd cc

booleans : (w : Tree) → class w ≡ 8 → (compare (boolean false) w ≢ Greater) × (compare w (boolean true) ≢ Greater)
booleans (boolean true) is = (λ e. cc, λ e. cc)
booleans (boolean false) is = (λ e. cc, λ e. cc)
booleans _ is = absurd cc

least_timestamp : (w : Tree) → class w ≡ 10 → compare (timestamp 0 0) w ≢ Greater
least_timestamp (timestamp s i) is = then_within (nat_cmp 0 s) (nat_cmp 0 i) (zero_least s) (zero_least i)
least_timestamp _ is = absurd cc

-- ---- both ends

least_within : (u w : Tree) → class w ≡ class u → compare (least u) w ≢ Greater
least_within min_key w is = (only_min w is).0
least_within null w is = (only_null w is).0
least_within (int32 z) w is = before null w 2 is refl
least_within (int64 z) w is = before null w 2 is refl
least_within (string s) w is = least_string w is
least_within (document es) w is = least_document w is
least_within (array vs) w is = least_array w is
least_within (binary k bytes) w is = least_binary w is
least_within (object_id bytes) w is = before (binary 0 []) w 7 is refl
least_within (boolean b) w is = (booleans w is).0
least_within (date z) w is = before (boolean true) w 9 is refl
least_within (timestamp s i) w is = least_timestamp w is
least_within max_key w is = (only_max w is).0

greatest_within : (u w : Tree) → class w ≡ class u → compare w (greatest u) ≢ Greater
greatest_within min_key w is = (only_min w is).1
greatest_within null w is = (only_null w is).1
greatest_within (int32 z) w is = behind (string []) w 2 is refl
greatest_within (int64 z) w is = behind (string []) w 2 is refl
greatest_within (string s) w is = behind (document no_elements) w 3 is refl
greatest_within (document es) w is = behind (array no_values) w 4 is refl
greatest_within (array vs) w is = behind (binary 0 []) w 5 is refl
greatest_within (binary k bytes) w is = behind (object_id no_id) w 6 is refl
greatest_within (object_id bytes) w is = behind (boolean false) w 7 is refl
greatest_within (boolean b) w is = (booleans w is).1
greatest_within (date z) w is = behind (timestamp 0 0) w 9 is refl
greatest_within (timestamp s i) w is = behind max_key w 10 is refl
greatest_within max_key w is = (only_max w is).1

pub end_within : (side : Side) (u w : Tree) → class w ≡ class u → from_side side (class_end side u) w ≢ Greater
end_within Low u w is = least_within u w is
end_within High u w is = greatest_within u w is
