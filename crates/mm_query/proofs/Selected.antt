-- The test by which documents are selected is the relation of matching.
use Rattle.std.proofs.Common.{◌≡◌, Bool, true, false, Option, Some, None, refl, ◌&&◌, ◌==◌}
use Rattle.std.specs.Prelude.{if◌then◌else◌, is_some, MatchBool}
use Rattle.std.specs.Bool.{Decides}
use Rattle.std.specs.Ordering.{is_eq}
use Rattle.std.specs.declared.cmp.Ordering.TheVariants.{Equal}
use Rattle.std.specs.Cmp.{Equal-is}
use Rattle.std.proofs.lemmas.Bool.Decides.{Decides-eqb, Decides-not, Decides-and, Decides-or}
use Rattle.mm_bson.specs.Tree.{Tree, min_key, null, int32, int64, string, document, array, binary, object_id, boolean, date, timestamp, max_key, Elements, no_elements, element, Values, no_values, item}
use Rattle.mm_bson.specs.Path.{value_at_path}
use Rattle.mm_bson.specs.Order.{class, compare}
use Rattle.mm_keys.specs.Key.{or_null}
use Rattle.mm_query.specs.declared.operator.Operator.{Operator}
use Rattle.mm_query.specs.declared.operator.Operator.TheVariants.{Gt, Gte, Lt, Lte, Ne, In, Nin, Exists}
use Rattle.mm_query.specs.Form.{operator_of, has_operators, is_and, is_or}
use Rattle.mm_query.specs.Match.{SomeOf, SomeItem, ItOrItem, Equals, is_so, Stands, EqualsSome, HoldsAt, HoldsBy, AllHold, MeetsAt, Meets, Matches, AllMatch, EachMatches, SomeMatch, OneMatches}
use Rattle.mm_query.specs.Selection.{some_of, some_item, it_or_item, equals, stands, equals_some, is_bool, holds_at, holds_by, all_hold, meets_at, meets, selects, all_select, each_selects, some_select, one_selects}

always : Decides true (Unit {0})
always = (λ e. tt, λ h. refl)

never : Decides false ⊥
never = (λ e. absurd cc, λ h. absurd h)

either : (b x y : Bool) (P Q : Type 0) → Decides x P → Decides y Q → Decides (if b then x else y) (MatchBool b P Q)
either true x y P Q p q = p
either false x y P Q p q = q

some_of-decides : (p : Tree → Bool) (P : Tree → Type 0) → ((t : Tree) → Decides (p t) (P t)) → (vs : Values) → Decides (some_of p vs) (SomeOf P vs)
some_of-decides p P each no_values = never
some_of-decides p P each (item t vs) = Decides-or (p t) (some_of p vs) (each t) (some_of-decides p P each vs)

some_item-decides : (p : Tree → Bool) (P : Tree → Type 0) → ((t : Tree) → Decides (p t) (P t)) → (t : Tree) → Decides (some_item p t) (SomeItem P t)
some_item-decides p P each (array vs) = some_of-decides p P each vs
some_item-decides p P each _ = never

it_or_item-decides : (p : Tree → Bool) (P : Tree → Type 0) → ((t : Tree) → Decides (p t) (P t)) → (t : Tree) → Decides (it_or_item p t) (ItOrItem P t)
it_or_item-decides p P each t = Decides-or (p t) (some_item p t) (each t) (some_item-decides p P each t)

equals-decides : (u t : Tree) → Decides (equals u t) (Equals u t)
equals-decides u t = it_or_item-decides (λ v. is_eq (compare v u)) (λ v. compare v u ≡ Equal) (λ v. Equal-is (compare v u)) t

stands-decides : (operator : Operator) (u t : Tree) → Decides (stands operator u t) (Stands operator u t)
stands-decides operator u t =
    it_or_item-decides (λ v. class v == class u && is_so operator (compare v u)) (λ v. (class v ≡ class u) × (is_so operator (compare v u) ≡ true))
    (λ v. Decides-and (class v == class u) (is_so operator (compare v u)) (Decides-eqb (class v) (class u)) ((λ e. e), (λ e. e))) t

equals_some-decides : (u t : Tree) → Decides (equals_some u t) (EqualsSome u t)
equals_some-decides u t = some_item-decides (λ v. equals v t) (λ v. Equals v t) (λ v. equals-decides v t) u

is_bool-decides : (u : Tree) (b : Bool) → Decides (is_bool u b) (u ≡ boolean b)
is_bool-decides (boolean true) true = (λ e. refl, λ e. refl)
is_bool-decides (boolean true) false = (λ e. absurd cc, λ e. absurd cc)
is_bool-decides (boolean false) true = (λ e. absurd cc, λ e. absurd cc)
is_bool-decides (boolean false) false = (λ e. refl, λ e. refl)
is_bool-decides _ b = (λ e. absurd cc, λ e. absurd cc)

holds_at-decides : (operator : Operator) (u t : Tree) (found : Bool) → Decides (holds_at operator u t found) (HoldsAt operator u t found)
holds_at-decides Ne u t found = Decides-not (equals u t) (equals-decides u t)
holds_at-decides In u t found = equals_some-decides u t
holds_at-decides Nin u t found = Decides-not (equals_some u t) (equals_some-decides u t)
holds_at-decides Exists u t found = is_bool-decides u found
holds_at-decides Gt u t found = stands-decides Gt u t
holds_at-decides Gte u t found = stands-decides Gte u t
holds_at-decides Lt u t found = stands-decides Lt u t
holds_at-decides Lte u t found = stands-decides Lte u t

holds_by-decides : (o : Option Operator) (u t : Tree) (found : Bool) → Decides (holds_by o u t found) (HoldsBy o u t found)
holds_by-decides None u t found = never
holds_by-decides (Some operator) u t found = holds_at-decides operator u t found

all_hold-decides : (es : Elements) (t : Tree) (found : Bool) → Decides (all_hold es t found) (AllHold es t found)
all_hold-decides no_elements t found = always
all_hold-decides (element name u es) t found =
    Decides-and (holds_by (operator_of name) u t found) (all_hold es t found) (holds_by-decides (operator_of name) u t found) (all_hold-decides es t found)

meets_at-decides : (u t : Tree) (found : Bool) → Decides (meets_at u t found) (MeetsAt u t found)
meets_at-decides (document es) t found =
    either (has_operators es) (all_hold es t found) (equals (document es) t) (AllHold es t found) (Equals (document es) t) (all_hold-decides es t found) (equals-decides (document es) t)
meets_at-decides min_key t found = equals-decides min_key t
meets_at-decides null t found = equals-decides null t
meets_at-decides (int32 z) t found = equals-decides (int32 z) t
meets_at-decides (int64 z) t found = equals-decides (int64 z) t
meets_at-decides (string s) t found = equals-decides (string s) t
meets_at-decides (array vs) t found = equals-decides (array vs) t
meets_at-decides (binary k bytes) t found = equals-decides (binary k bytes) t
meets_at-decides (object_id bytes) t found = equals-decides (object_id bytes) t
meets_at-decides (boolean b) t found = equals-decides (boolean b) t
meets_at-decides (date z) t found = equals-decides (date z) t
meets_at-decides (timestamp s i) t found = equals-decides (timestamp s i) t
meets_at-decides max_key t found = equals-decides max_key t

meets-decides : (u : Tree) (o : Option Tree) → Decides (meets u o) (Meets u o)
meets-decides u o = meets_at-decides u (or_null o) (is_some o)

mutual
  pub selects-decides : (f d : Elements) → Decides (selects f d) (Matches f d)
  selects-decides no_elements d = always
  selects-decides (element name t es) d =
      Decides-and (if is_and name then all_select t d else (if is_or name then some_select t d else meets t (value_at_path name d))) (selects es d)
      (either (is_and name) _ _ _ _ (all_select-decides t d) (either (is_or name) _ _ _ _ (some_select-decides t d) (meets-decides t (value_at_path name d))))
      (selects-decides es d)

  all_select-decides : (t : Tree) (d : Elements) → Decides (all_select t d) (AllMatch t d)
  all_select-decides (document es) d = selects-decides es d
  all_select-decides (array vs) d = each_selects-decides vs d
  all_select-decides _ d = never

  each_selects-decides : (vs : Values) (d : Elements) → Decides (each_selects vs d) (EachMatches vs d)
  each_selects-decides no_values d = always
  each_selects-decides (item t vs) d = Decides-and (all_select t d) (each_selects vs d) (all_select-decides t d) (each_selects-decides vs d)

  some_select-decides : (t : Tree) (d : Elements) → Decides (some_select t d) (SomeMatch t d)
  some_select-decides (document es) d = selects-decides es d
  some_select-decides (array vs) d = one_selects-decides vs d
  some_select-decides _ d = never

  one_selects-decides : (vs : Values) (d : Elements) → Decides (one_selects vs d) (OneMatches vs d)
  one_selects-decides no_values d = never
  one_selects-decides (item t vs) d = Decides-or (some_select t d) (one_selects vs d) (some_select-decides t d) (one_selects-decides vs d)
