-- Conditions that are made of a filter's fields, one after the other, and hold one after the other.
use Rattle.std.proofs.Common.{◌≡◌, ℕ, Bool, true, false, cond, List, [], ◌∷◌, ◌++◌, Option, Some, None, refl, sym, ap, ◌∙◌}
use Rattle.std.specs.Prelude.{if◌then◌else◌, codes}
use Rattle.std.specs.Str.{bytes_eq}
use Rattle.std.proofs.lemmas.Slice.Eq.{bytes_eq-Decides}
use Rattle.mm_bson.specs.Tree.{Tree, document, Elements, no_elements, element, append, Values, no_values, item, append_values}
use Rattle.mm_bson.specs.View.{tree}
use Rattle.mm_bson.proofs.Loop.{append_assoc}
use Rattle.mm_query.specs.declared.fault.FilterFault.{FilterFault}
use Rattle.mm_query.specs.declared.fault.FilterFault.TheVariants.{BadOperator, NoMemory}
use Rattle.mm_query.specs.declared.operator.Operator.{Operator}
use Rattle.mm_query.specs.declared.operator.Operator.TheVariants.{Gt, Gte, Lt, Lte, Ne, In, Nin, Exists}
use Rattle.mm_query.specs.declared.kept.Test.{Test}
use Rattle.mm_query.specs.declared.kept.Condition.{Condition}
use Rattle.mm_query.specs.declared.kept.Condition.TheVariants.{At, AllOf, AnyOf}
use Rattle.mm_query.specs.Form.{or, order_operator, other_operator, operator_of, are_documents}
use Rattle.mm_query.specs.Kept.{name_of, tests_of, filters_of, condition_on, conditions_of, IsCondition, AreConditions, Refuses}

-- ---- names of operators

pub operator_is : (operator : Operator) → operator_of (name_of operator) ≡ Some operator
operator_is Gt = refl
operator_is Gte = refl
operator_is Lt = refl
operator_is Lte = refl
operator_is Ne = refl
operator_is In = refl
operator_is Nin = refl
operator_is Exists = refl

module _ (name : List ℕ) (operator : Operator) where
  one_named : (word : List ℕ) (this : Operator) (later : Option Operator) → name_of this ≡ word → (later ≡ Some operator → name_of operator ≡ name)
      → (if bytes_eq name word then Some this else later) ≡ Some operator → name_of operator ≡ name
  one_named word this later named further is = by (bytes_eq name word) refl is
    where
      by : (b : Bool) → bytes_eq name word ≡ b → cond b (Some this) later ≡ Some operator → name_of operator ≡ name
      by true same is =
          let found : operator ≡ this = cc in
          ap name_of found ∙ named ∙ sym ((bytes_eq-Decides name word).0 same)
      by false same is = further is

  order_named : order_operator name ≡ Some operator → name_of operator ≡ name
  order_named = one_named (codes "$gt") Gt _ refl (one_named (codes "$gte") Gte _ refl (one_named (codes "$lt") Lt _ refl (one_named (codes "$lte") Lte _ refl (λ is. absurd cc))))

  other_named : other_operator name ≡ Some operator → name_of operator ≡ name
  other_named = one_named (codes "$ne") Ne _ refl (one_named (codes "$in") In _ refl (one_named (codes "$nin") Nin _ refl (one_named (codes "$exists") Exists _ refl (λ is. absurd cc))))

  pub operator_named : operator_of name ≡ Some operator → name_of operator ≡ name
  operator_named is = by (order_operator name) refl is
    where
      by : (o : Option Operator) → order_operator name ≡ o → or o (other_operator name) ≡ Some operator → name_of operator ≡ name
      by None e is = other_named is
      by (Some x) e is = order_named (e ∙ is)

-- ---- values that are documents

pub first_document : (t : Tree) (vs : Values) → are_documents (item t vs) ≡ true → are_documents (item t no_values) ≡ true
first_document (document es) vs h = refl
first_document _ vs h = absurd cc

pub later_documents : (t : Tree) (vs : Values) → are_documents (item t vs) ≡ true → are_documents vs ≡ true
later_documents (document es) vs h = h
later_documents _ vs h = absurd cc

-- ---- the first wrong operator, one field after the other

pub refused_here : (f : FilterFault) (here later whole : Option (List ℕ)) → Refuses f here → or here later ≡ whole → Refuses f whole
refused_here (BadOperator name) here later whole is told =
    let found : or here later ≡ Some name = ap (λ (o : Option (List ℕ)). or o later) is in
    sym told ∙ found
refused_here NoMemory here later whole is told = tt

pub passed_here : (here later whole : Option (List ℕ)) → here ≡ None → or here later ≡ whole → later ≡ whole
passed_here here later whole is told = sym (ap (λ (o : Option (List ℕ)). or o later) is) ∙ told

-- ---- one more behind others

tests_of-push : (xs : List Test) (x : Test) → tests_of (xs ++ x ∷ []) ≡ append (tests_of xs) (element (name_of x.operator) (tree x.operand) no_elements)
tests_of-push [] x = refl
tests_of-push (y ∷ xs) x = ap (element (name_of y.operator) (tree y.operand)) (tests_of-push xs x)

pub test_on : (xs more : List Test) (x : Test) (name : List ℕ) (t : Tree) (rest whole : Elements) → more ≡ xs ++ x ∷ [] → name_of x.operator ≡ name → tree x.operand ≡ t
    → append (tests_of xs) (element name t rest) ≡ whole → append (tests_of more) rest ≡ whole
test_on xs more x name t rest whole grown named is told =
    let one : element (name_of x.operator) (tree x.operand) no_elements ≡ element name t no_elements = ap (λ (n : List ℕ). element n (tree x.operand) no_elements) named ∙ ap (λ (u : Tree). element name u no_elements) is in
    ap (λ (ys : List Test). append (tests_of ys) rest) grown
    ∙ ap (λ (es : Elements). append es rest) (tests_of-push xs x ∙ ap (append (tests_of xs)) one)
    ∙ append_assoc (tests_of xs) (element name t no_elements) rest
    ∙ told

condition_on-append : (c : Condition) (es fs : Elements) → condition_on c (append es fs) ≡ append (condition_on c es) fs
condition_on-append (At path demand) es fs = refl
condition_on-append (AllOf x) es fs = refl
condition_on-append (AnyOf x) es fs = refl

conditions_of-push : (cs : List Condition) (c : Condition) → conditions_of (cs ++ c ∷ []) ≡ append (conditions_of cs) (condition_on c no_elements)
conditions_of-push [] c = refl
conditions_of-push (x ∷ cs) c = ap (condition_on x) (conditions_of-push cs c) ∙ condition_on-append x (conditions_of cs) (condition_on c no_elements)

pub condition_added : (cs more : List Condition) (c : Condition) (name : List ℕ) (t : Tree) (rest whole : Elements) → more ≡ cs ++ c ∷ [] → condition_on c no_elements ≡ element name t no_elements
    → append (conditions_of cs) (element name t rest) ≡ whole → append (conditions_of more) rest ≡ whole
condition_added cs more c name t rest whole grown is told =
    ap (λ (ys : List Condition). append (conditions_of ys) rest) grown
    ∙ ap (λ (es : Elements). append es rest) (conditions_of-push cs c ∙ ap (append (conditions_of cs)) is)
    ∙ append_assoc (conditions_of cs) (element name t no_elements) rest
    ∙ told

AreConditions-push : (cs : List Condition) (c : Condition) → AreConditions cs → IsCondition c → AreConditions (cs ++ c ∷ [])
AreConditions-push [] c h k = (k, tt)
AreConditions-push (x ∷ cs) c h k = (h.0, AreConditions-push cs c h.1 k)

pub kept_added : (cs more : List Condition) (c : Condition) → more ≡ cs ++ c ∷ [] → AreConditions cs → IsCondition c → AreConditions more
kept_added cs more c grown h k = rw grown (AreConditions-push cs c h k)

filters_of-push : (fs : List Elements) (f : Elements) → filters_of (fs ++ f ∷ []) ≡ append_values (filters_of fs) (item (document f) no_values)
filters_of-push [] f = refl
filters_of-push (x ∷ fs) f = ap (item (document x)) (filters_of-push fs f)

append_values-one : (vs ws : Values) (t : Tree) → append_values (append_values vs (item t no_values)) ws ≡ append_values vs (item t ws)
append_values-one no_values ws t = refl
append_values-one (item u vs) ws t = ap (item u) (append_values-one vs ws t)

pub append_values-none : (vs : Values) → append_values vs no_values ≡ vs
append_values-none no_values = refl
append_values-none (item u vs) = ap (item u) (append_values-none vs)

pub filter_on : (fs more : List Elements) (f : Elements) (t : Tree) (rest whole : Values) → more ≡ fs ++ f ∷ [] → document f ≡ t
    → append_values (filters_of fs) (item t rest) ≡ whole → append_values (filters_of more) rest ≡ whole
filter_on fs more f t rest whole grown is told =
    ap (λ (ys : List Elements). append_values (filters_of ys) rest) grown
    ∙ ap (λ (vs : Values). append_values vs rest) (filters_of-push fs f ∙ ap (λ (u : Tree). append_values (filters_of fs) (item u no_values)) is)
    ∙ append_values-one (filters_of fs) rest t
    ∙ told
