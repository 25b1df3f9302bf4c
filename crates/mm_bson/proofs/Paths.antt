-- The names of a path, one after the other.
use Rattle.std.proofs.Common.{◌≡◌, ℕ, suc, ◌+◌, ◌<◌, ◌≤◌, ◌==◌, eqb, ltb, Bool, true, false, cond, not, List, [], ◌∷◌, length, take, drop, Option, Some, None, max, refl, sym, ap, ◌∙◌, arith}
use Rattle.std.specs.Prelude.{position, option_and_then, option_map, IfSome}
use Rattle.std.specs.Borrow.{Bor}
use Rattle.mm_bson.specs.declared.doc.Value.{Value}
use Rattle.mm_bson.specs.declared.place.ValueRef.{ValueRef}
use Rattle.mm_bson.specs.View.{tree, tree_in}
use Rattle.std.specs.List.{prefix_len}
use Rattle.std.proofs.lemmas.Bool.{ltb-true, ltb-false}
use Rattle.std.specs.Str.{bytes_eq}
use Rattle.mm_bson.specs.Tree.{Tree, document, Elements, no_elements, element, tree_depth, depth}
use Rattle.mm_bson.specs.Path.{with_first, names, find, members, onward, value_at}

abbrev not_dot : ℕ → Bool
not_dot b = not (eqb b 46)

dot_split : (path : List ℕ) → prefix_len not_dot path < length path → names path ≡ take (prefix_len not_dot path) path ∷ names (drop (prefix_len not_dot path + 1) path)
dot_split [] lt = absurd (omega arith)
dot_split (b ∷ path) lt = by (eqb b 46) refl (λ shorter. dot_split path shorter)
  where
    by : (d : Bool) → eqb b 46 ≡ d → (prefix_len not_dot path < length path → names path ≡ take (prefix_len not_dot path) path ∷ names (drop (prefix_len not_dot path + 1) path))
        → names (b ∷ path) ≡ take (prefix_len not_dot (b ∷ path)) (b ∷ path) ∷ names (drop (prefix_len not_dot (b ∷ path) + 1) (b ∷ path))
    by true e later = rw e refl
    by false e later =
        let n : ℕ = prefix_len not_dot path in
        let one : prefix_len not_dot (b ∷ path) ≡ suc n = rw e (omega arith) in
        let two : suc n + 1 ≡ suc (n + 1) = omega arith in
        rw (one, two, e) (ap (with_first b) (later (omega (arith, one))))

dot_none : (path : List ℕ) → length path ≤ prefix_len not_dot path → names path ≡ path ∷ []
dot_none [] le = refl
dot_none (b ∷ path) le = by (eqb b 46) refl (λ longer. dot_none path longer)
  where
    by : (d : Bool) → eqb b 46 ≡ d → (length path ≤ prefix_len not_dot path → names path ≡ path ∷ []) → names (b ∷ path) ≡ (b ∷ path) ∷ []
    by true e later =
        let none : prefix_len not_dot (b ∷ path) ≡ 0 = rw e refl in
        absurd (omega (arith, none))
    by false e later =
        let one : prefix_len not_dot (b ∷ path) ≡ suc (prefix_len not_dot path) = rw e (omega arith) in
        rw e (ap (with_first b) (later (omega (arith, one))))

-- where a name ends
pub first_name : (path : List ℕ) (n : ℕ) → position (λ b. b == 46) path ≡ Some n → names path ≡ take n path ∷ names (drop (n + 1) path)
first_name path n at = by (ltb (prefix_len not_dot path) (length path)) refl at
  where
    by : (d : Bool) → ltb (prefix_len not_dot path) (length path) ≡ d → cond d (Some (prefix_len not_dot path)) None ≡ Some n → names path ≡ take n path ∷ names (drop (n + 1) path)
    by true e same =
        let here : prefix_len not_dot path ≡ n = cc in
        rw (← here) (dot_split path (ltb-true _ _ e))
    by false e same = absurd cc

abbrev no_number : Option ℕ
no_number = None

pub only_name : (path : List ℕ) → position (λ b. b == 46) path ≡ None → names path ≡ path ∷ []
only_name path at = by (ltb (prefix_len not_dot path) (length path)) refl at
  where
    by : (d : Bool) → ltb (prefix_len not_dot path) (length path) ≡ d → cond d (Some (prefix_len not_dot path)) None ≡ no_number → names path ≡ path ∷ []
    by true e same = absurd cc
    by false e same = dot_none path (ltb-false _ _ e)

-- a path has a name
some_name : (path : List ℕ) → (first : List ℕ) × (others : List (List ℕ)) × (names path ≡ first ∷ others)
some_name [] = ([], [], refl)
some_name (b ∷ path) = by (eqb b 46) refl (some_name path)
  where
    by : (d : Bool) → eqb b 46 ≡ d → ((first : List ℕ) × (others : List (List ℕ)) × (names path ≡ first ∷ others)) → (first : List ℕ) × (others : List (List ℕ)) × (names (b ∷ path) ≡ first ∷ others)
    by true e later = ([], names path, rw e refl)
    by false e later = (b ∷ later.0, later.1, rw (e, later.2) refl)

-- a name before the last leads to a document
step : (name path : List ℕ) (es : Elements) → value_at (name ∷ names path) es ≡ option_and_then (value_at (names path)) (option_and_then members (find name es))
step name path es = by (find name es)
  where
    by : (found : Option Tree) → option_and_then (onward (names path) (value_at (names path))) found ≡ option_and_then (value_at (names path)) (option_and_then members found)
    by None = refl
    by (Some t) = let some = some_name path in rw some.2 refl

module _ (path : List ℕ) (n : ℕ) (es : Elements) (total : Option Tree) (at : position (λ b. b == 46) path ≡ Some n) (so_far : value_at (names path) es ≡ total) where
  pub goes_on : (inner : Elements) → option_and_then members (find (take n path) es) ≡ Some inner → value_at (names (drop (n + 1) path)) inner ≡ total
  goes_on inner found = sym (ap (λ (ns : List (List ℕ)). value_at ns es) (first_name path n at) ∙ step (take n path) (drop (n + 1) path) es ∙ ap (option_and_then (value_at (names (drop (n + 1) path)))) found) ∙ so_far

  pub is_missing : option_and_then members (find (take n path) es) ≡ None → total ≡ None
  is_missing found = sym so_far ∙ ap (λ (ns : List (List ℕ)). value_at ns es) (first_name path n at) ∙ step (take n path) (drop (n + 1) path) es ∙ ap (option_and_then (value_at (names (drop (n + 1) path)))) found

pub ends : (path : List ℕ) (es : Elements) → position (λ b. b == 46) path ≡ None → value_at (names path) es ≡ find path es
ends path es at = ap (λ (ns : List (List ℕ)). value_at ns es) (only_name path at) ∙ last (find path es)
  where
    last : (found : Option Tree) → option_and_then (onward [] (value_at [])) found ≡ found
    last None = refl
    last (Some t) = refl

-- ---- levels

pub find-shallow : (name : List ℕ) (es : Elements) (t : Tree) → find name es ≡ Some t → tree_depth t ≤ depth es
find-shallow name no_elements t found = absurd cc
find-shallow name (element n u es) t found = by (bytes_eq n name) found (λ later. find-shallow name es t later)
  where
    by : (b : Bool) → cond b (Some u) (find name es) ≡ Some t → (find name es ≡ Some t → tree_depth t ≤ depth es) → tree_depth t ≤ max (tree_depth u) (depth es)
    by true here later =
        let same : u ≡ t = cc in
        omega (arith, ap tree_depth same)
    by false there later = omega (arith, later there)

abbrev IsShallow : ℕ → Option Tree → Type 0
IsShallow most None = Unit {0}
IsShallow most (Some t) = tree_depth t ≤ most

-- what stands at a path is no deeper than its document
pub value_at-shallow : (ns : List (List ℕ)) (es : Elements) (t : Tree) → value_at ns es ≡ Some t → tree_depth t ≤ depth es
value_at-shallow [] es t found = absurd cc
value_at-shallow (name ∷ others) es t found = by others (find name es) refl found (λ inner later. value_at-shallow others inner t later)
  where
    by : (ns : List (List ℕ)) (o : Option Tree) → find name es ≡ o → option_and_then (onward ns (value_at others)) o ≡ Some t → ((inner : Elements) → value_at others inner ≡ Some t → tree_depth t ≤ depth inner) → tree_depth t ≤ depth es
    by ns None is wrong later = absurd cc
    by [] (Some u) is here later =
        let same : u ≡ t = cc in
        omega (arith, ap tree_depth same, find-shallow name es u is)
    by (next ∷ ns) (Some (document inner)) is there later = omega (arith, later inner there, find-shallow name es (document inner) is)
    by (next ∷ ns) (Some _) is wrong later = absurd cc

pub found-shallow : (found : Option (Bor Value)) (value : Option Tree) (es : Elements) → option_map (λ v. tree v.now) found ≡ value → depth es < 100 → ((t : Tree) → value ≡ Some t → tree_depth t ≤ depth es) → IfSome found (λ v. tree_depth (tree v.now) < 100)
found-shallow None value es is levels below = tt
found-shallow (Some v) value es is levels below = omega (arith, below (tree v.now) (sym is))

pub found_in-shallow : (found : Option ValueRef) (value : Option Tree) (es : Elements) → option_map tree_in found ≡ value → depth es < 100 → ((t : Tree) → value ≡ Some t → tree_depth t ≤ depth es) → IfSome found (λ v. tree_depth (tree_in v) < 100)
found_in-shallow None value es is levels below = tt
found_in-shallow (Some v) value es is levels below = omega (arith, below (tree_in v) (sym is))
