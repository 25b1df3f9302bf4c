-- The first wrong operator is the first place that isn't right.
use Rattle.std.proofs.Common.{◌≡◌, ℕ, Bool, true, false, cond, List, [], ◌∷◌, ◌++◌, Option, Some, None, refl, sym, ap, ◌∙◌}
use Rattle.std.specs.Prelude.{◌||◌, if◌then◌else◌}
use Rattle.mm_query.specs.declared.operator.Operator.{Operator}
use Rattle.mm_bson.specs.Tree.{Tree, document, array, Elements, no_elements, element, Values, no_values, item}
use Rattle.mm_query.specs.Form.{or, has_dollar, is_and, is_or, operator_of, suits, has_operators, has_filters, wrong, wrong_operators, wrong_condition, wrong_filter, wrong_inside, wrong_filters}
use Rattle.mm_query.specs.Marks.{Mark, suits_by, operators, in_condition, in_field, marks, marks_inside, marks_each, AreRight, IsFirstWrong, WrongComesFirst, RightIsFilter}

abbrev first : List Mark → Option (List ℕ)
first [] = None
first (m ∷ ms) = if m.right then first ms else Some m.name

first-append : (ms ns : List Mark) → first (ms ++ ns) ≡ or (first ms) (first ns)
first-append [] ns = refl
first-append (m ∷ ms) ns = by m.right (first-append ms ns)
  where
    by : (b : Bool) → first (ms ++ ns) ≡ or (first ms) (first ns) → cond b (first (ms ++ ns)) (Some m.name) ≡ or (cond b (first ms) (Some m.name)) (first ns)
    by true later = later
    by false later = refl

wrong_one : (name : List ℕ) (t : Tree) (o : Option Operator) (later : Option (List ℕ)) → or (wrong name t o) later ≡ cond (suits_by o t) later (Some name)
wrong_one name t None later = refl
wrong_one name t (Some operator) later = by (suits operator t)
  where
    by : (b : Bool) → or (cond b None (Some name)) later ≡ cond b later (Some name)
    by true = refl
    by false = refl

at_operators : (es : Elements) → wrong_operators es ≡ first (operators es)
at_operators no_elements = refl
at_operators (element name t es) = wrong_one name t (operator_of name) (wrong_operators es) ∙ ap (λ (o : Option (List ℕ)). cond (suits_by (operator_of name) t) o (Some name)) (at_operators es)

at_condition : (t : Tree) → wrong_condition t ≡ first (in_condition t)
at_condition (document es) = by (has_operators es)
  where
    by : (b : Bool) → cond b (wrong_operators es) None ≡ first (cond b (operators es) [])
    by true = at_operators es
    by false = refl
at_condition _ = refl

at_field : (name : List ℕ) (t : Tree) (inside : List Mark) (w : Option (List ℕ)) → w ≡ first inside
    → (if is_and name || is_or name then (if has_filters t then w else Some name) else (if has_dollar name then Some name else wrong_condition t)) ≡ first (in_field name t inside)
at_field name t inside w same = by (is_and name || is_or name) (has_filters t) (has_dollar name)
  where
    by : (logic filters dollar : Bool) → cond logic (cond filters w (Some name)) (cond dollar (Some name) (wrong_condition t))
        ≡ first (cond logic ((record { name = name; right = filters }) ∷ inside) (cond dollar ((record { name = name; right = false }) ∷ []) (in_condition t)))
    by true true dollar = same
    by true false dollar = refl
    by false filters true = refl
    by false filters false = at_condition t

mutual
  at_filter : (es : Elements) → wrong_filter es ≡ first (marks es)
  at_filter no_elements = refl
  at_filter (element name t es) =
      ap (λ (o : Option (List ℕ)). or o (wrong_filter es)) (at_field name t (marks_inside t) (wrong_inside t) (at_inside t))
      ∙ ap (or (first (in_field name t (marks_inside t)))) (at_filter es)
      ∙ sym (first-append (in_field name t (marks_inside t)) (marks es))

  at_inside : (t : Tree) → wrong_inside t ≡ first (marks_inside t)
  at_inside (document es) = at_filter es
  at_inside (array vs) = at_filters vs
  at_inside _ = refl

  at_filters : (vs : Values) → wrong_filters vs ≡ first (marks_each vs)
  at_filters no_values = refl
  at_filters (item t vs) =
      ap (λ (o : Option (List ℕ)). or o (wrong_filters vs)) (at_inside t)
      ∙ ap (or (first (marks_inside t))) (at_filters vs)
      ∙ sym (first-append (marks_inside t) (marks_each vs))

-- ---- the first of marks

none_wrong : (ms : List Mark) → first ms ≡ None → AreRight ms
none_wrong [] none = tt
none_wrong (m ∷ ms) none = by m.right refl none (none_wrong ms)
  where
    by : (b : Bool) → m.right ≡ b → cond b (first ms) (Some m.name) ≡ None → (first ms ≡ None → AreRight ms) → AreRight (m ∷ ms)
    by true is none later = (is, later none)
    by false is none later = absurd cc

all_right : (ms : List Mark) → AreRight ms → first ms ≡ None
all_right [] h = refl
all_right (m ∷ ms) h = rw h.0 (all_right ms h.1)

first_wrong : (ms : List Mark) (name : List ℕ) → first ms ≡ Some name → IsFirstWrong ms name
first_wrong [] name found = absurd cc
first_wrong (m ∷ ms) name found = by m.right refl found (first_wrong ms name)
  where
    by : (b : Bool) → m.right ≡ b → cond b (first ms) (Some m.name) ≡ Some name → (first ms ≡ Some name → IsFirstWrong ms name) → IsFirstWrong (m ∷ ms) name
    by true is found later =
        let inner = later found in
        record { before = m ∷ inner.before; behind = inner.behind; parts = ap (λ (ns : List Mark). m ∷ ns) inner.parts; right = (is, inner.right) }
    by false is found later =
        let named : m.name ≡ name = cc in
        record { before = []; behind = ms; parts = λ i. (record { name = named i; right = is i }) ∷ ms; right = tt }

wrong_first : (before behind : List Mark) (name : List ℕ) → AreRight before → first (before ++ (record { name = name; right = false }) ∷ behind) ≡ Some name
wrong_first [] behind name h = refl
wrong_first (m ∷ ms) behind name h = rw h.0 (wrong_first ms behind name h.1)

pub wrong_comes_first : WrongComesFirst
wrong_comes_first es name = (λ found. first_wrong (marks es) name (sym (at_filter es) ∙ found), λ w. at_filter es ∙ ap first w.parts ∙ wrong_first w.before w.behind name w.right)

pub right_is_filter : RightIsFilter
right_is_filter es = (λ none. none_wrong (marks es) (sym (at_filter es) ∙ none), λ h. at_filter es ∙ all_right (marks es) h)
