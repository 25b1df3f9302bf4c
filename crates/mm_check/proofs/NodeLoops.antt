-- The nodes one by one, and what the code sees of their names.
use Rattle.std.proofs.Common.{◌≡◌, ℕ, zero, suc, ◌+◌, ◌<◌, ◌≤◌, inl, inr, Bool, true, false, List, [], ◌∷◌, ◌++◌, length, drop, Option, Some, None, MatchOption, refl, sym, ◌∙◌, ap, subst, arith, length-append}
use Rattle.std.specs.Prelude.{◌&&◌, ◌||◌, ◌==◌, nat_lt, nat_le, if◌then◌else◌, is_some}
use Rattle.std.proofs.lemmas.Bool.{cases_Bool, cases_lt, false≢true, eqb-true}
use Rattle.std.proofs.lemmas.Bool.Decides.{nat_tests}
use Rattle.mm_base.specs.Names.{IsName}
use Rattle.mm_ranges.specs.declared.limits.TheConstants.{NS_FILE}
use Rattle.mm_links.specs.Links.{Place}
use Rattle.mm_nstable.specs.Nodes.{count_of}
use Rattle.mm_records.specs.Constants.{is_name}
use Rattle.mm_walk.specs.Questions.{Question, first_failing}
use Rattle.mm_check.specs.ExtentChain.{asked}
use Rattle.mm_check.specs.NodeQuestions.{free_name, indexes_name, has_name, node_right, node_place, used_questions, node_questions, begins, has_form, is_own, is_coll, is_coll_index}
use Rattle.mm_check.specs.NodeForms.{HasFront}
use Rattle.mm_check.specs.SeenNames.{NamesAll}
use Rattle.mm_check.proofs.RecordLaws.{if_yes, if_no, eq_of}
use Rattle.mm_check.proofs.NodeLaws.{has_name_true, node_of_test}

-- the first wrong node, where those below are right
wrong_from : (d bytes : List ℕ) (rest : List (Question Place)) (k n t : ℕ) → k ≤ t → t < k + n → ((j : ℕ) → j < t → node_right d bytes j ≡ true) → node_right d bytes t ≡ false → first_failing (used_questions d bytes k n ++ rest) ≡ Some (node_place t)
wrong_from d bytes rest k zero t lo hi f w = absurd (omega (arith, lo, hi))
wrong_from d bytes rest k (suc n) t lo hi f w = elim (cases_Bool (k == t)) [
  | inl y ↦
      let s : k ≡ t = eqb-true k t y in
      if_no (node_right d bytes k) (first_failing (used_questions d bytes (suc k) n ++ rest)) (Some (node_place k)) (ap (node_right d bytes) s ∙ w) ∙ ap (λ (j : ℕ). Some (node_place j)) s
  | inr m ↦
      let lt : k < t = less k t lo m in
      if_yes (node_right d bytes k) (first_failing (used_questions d bytes (suc k) n ++ rest)) (Some (node_place k)) (f k lt) ∙ wrong_from d bytes rest (suc k) n t lt (omega (arith, hi)) f w
]
  where
    less : (k t : ℕ) → k ≤ t → (k == t) ≡ false → k < t
    less k t le n = elim (cases_lt k t) [ inl y ↦ y | inr ge ↦ absurd (false≢true (sym n ∙ eq_of k t (omega (arith, le, ge)))) ]

pub node_wrong : (d bytes : List ℕ) (t : ℕ) → t < count_of bytes → ((j : ℕ) → j < t → node_right d bytes j ≡ true) → node_right d bytes t ≡ false → first_failing (node_questions d bytes) ≡ Some (node_place t)
node_wrong d bytes t lt f w = wrong_from d bytes (asked (NS_FILE, 0) (has_name bytes (count_of bytes) (free_name d)) ∷ asked (NS_FILE, 0) (has_name bytes (count_of bytes) (indexes_name d)) ∷ []) 0 (count_of bytes) t (omega arith) (omega (arith, lt)) f w

right_from : (d bytes : List ℕ) (rest : List (Question Place)) (k n : ℕ) → ((j : ℕ) → j < k + n → node_right d bytes j ≡ true) → first_failing (used_questions d bytes k n ++ rest) ≡ first_failing rest
right_from d bytes rest k zero f = refl
right_from d bytes rest k (suc n) f =
    if_yes (node_right d bytes k) (first_failing (used_questions d bytes (suc k) n ++ rest)) (Some (node_place k)) (f k (omega arith)) ∙ right_from d bytes rest (suc k) n (λ j lt. f j (omega (arith, lt)))

-- where all nodes are right, the two of the database decide
pub nodes_right : (d bytes : List ℕ) → ((j : ℕ) → j < count_of bytes → node_right d bytes j ≡ true)
    → first_failing (node_questions d bytes) ≡ (if has_name bytes (count_of bytes) (free_name d) then (if has_name bytes (count_of bytes) (indexes_name d) then None else Some (NS_FILE, 0)) else Some (NS_FILE, 0))
nodes_right d bytes f = right_from d bytes (asked (NS_FILE, 0) (has_name bytes (count_of bytes) (free_name d)) ∷ asked (NS_FILE, 0) (has_name bytes (count_of bytes) (indexes_name d)) ∷ []) 0 (count_of bytes) (λ j lt. f j (omega (arith, lt)))

-- and each of them has a name
pub names_all : (d bytes : List ℕ) → ((j : ℕ) → j < count_of bytes → node_right d bytes j ≡ true) → NamesAll bytes
names_all d bytes f name h =
    let x = has_name_true bytes (count_of bytes) name h in
    subst IsName x.named (node_of_test d bytes x.j (f x.j x.below) x.used).0.name

-- where the first of the two isn't there, and where the second isn't
pub free_missing : (d bytes : List ℕ) → ((j : ℕ) → j < count_of bytes → node_right d bytes j ≡ true) → has_name bytes (count_of bytes) (free_name d) ≡ false → first_failing (node_questions d bytes) ≡ Some (NS_FILE, 0)
free_missing d bytes f m = nodes_right d bytes f ∙ if_no (has_name bytes (count_of bytes) (free_name d)) (if has_name bytes (count_of bytes) (indexes_name d) then None else Some (NS_FILE, 0)) (Some (NS_FILE, 0)) m

pub indexes_missing : (d bytes : List ℕ) → ((j : ℕ) → j < count_of bytes → node_right d bytes j ≡ true) → has_name bytes (count_of bytes) (free_name d) ≡ true → has_name bytes (count_of bytes) (indexes_name d) ≡ false → first_failing (node_questions d bytes) ≡ Some (NS_FILE, 0)
indexes_missing d bytes f y m =
    nodes_right d bytes f ∙ if_yes (has_name bytes (count_of bytes) (free_name d)) (if has_name bytes (count_of bytes) (indexes_name d) then None else Some (NS_FILE, 0)) (Some (NS_FILE, 0)) y
    ∙ if_no (has_name bytes (count_of bytes) (indexes_name d)) None (Some (NS_FILE, 0)) m

pub none_missing : (d bytes : List ℕ) → ((j : ℕ) → j < count_of bytes → node_right d bytes j ≡ true) → has_name bytes (count_of bytes) (free_name d) ≡ true → has_name bytes (count_of bytes) (indexes_name d) ≡ true → first_failing (node_questions d bytes) ≡ None
none_missing d bytes f y z =
    nodes_right d bytes f ∙ if_yes (has_name bytes (count_of bytes) (free_name d)) (if has_name bytes (count_of bytes) (indexes_name d) then None else Some (NS_FILE, 0)) (Some (NS_FILE, 0)) y
    ∙ if_yes (has_name bytes (count_of bytes) (indexes_name d)) None (Some (NS_FILE, 0)) z

-- the nodes below the next one
pub right_next : (d bytes : List ℕ) (t : ℕ) → ((j : ℕ) → j < t → node_right d bytes j ≡ true) → node_right d bytes t ≡ true → (j : ℕ) → j < t + 1 → node_right d bytes j ≡ true
right_next d bytes t f r j lt = elim (cases_lt j t) [ inl y ↦ f j y | inr ge ↦ let e : j ≡ t = omega (arith, lt, ge) in ap (node_right d bytes) e ∙ r ]

-- what is seen of a text, where that is the name
pub seen_name : (bytes text name : List ℕ) (b c : Bool) → text ≡ name → b ≡ has_name bytes (count_of bytes) text → b ≡ c → has_name bytes (count_of bytes) name ≡ c
seen_name bytes text name b c e h f = ap (has_name bytes (count_of bytes)) (sym e) ∙ sym h ∙ f

-- ---- fronts of texts

pub match_mapped : {X : Type 0} (o : Option X) (P P' : Type 0) (Q Q' : X → Type 0) → (P → P') → ((x : X) → Q x → Q' x) → MatchOption o P Q → MatchOption o P' Q'
match_mapped None P P' Q Q' f g h = f h
match_mapped (Some x) P P' Q Q' f g h = g x h

pub some_begins : {X : Type 0} (o : Option X) (b : Bool) (Q : X → Type 0) → ((x : X) → Q x → b ≡ true) → MatchOption o (b ≡ false) Q → is_some o ≡ b
some_begins None b Q f h = sym h
some_begins (Some x) b Q f h = sym (f x h)

-- ---- forms

and_false : (b : Bool) → (b && false) ≡ false
and_false true = refl
and_false false = refl

not_below : (m n : ℕ) → n ≤ m → nat_lt m n ≡ false
not_below m n le = grind (arith, nat_tests)

not_within : (m n : ℕ) → n < m → nat_le m n ≡ false
not_within m n lt = grind (arith, nat_tests)

below_of : (m n : ℕ) → m < n → nat_lt m n ≡ true
below_of m n lt = grind (arith, nat_tests)

within_of : (m n : ℕ) → m ≤ n → nat_le m n ≡ true
within_of m n le = grind (arith, nat_tests)

pub form_empty : (d name : List ℕ) → length name ≤ 0 → has_form d name ≡ false
unfolding has_form
form_empty d name h = ap (λ (b : Bool). b && (nat_le (length name) 120 && (is_name name (free_name d) || (is_name name (indexes_name d) || is_own d name)))) (not_below 0 (length name) h)

pub form_long : (d name : List ℕ) → 120 < length name → has_form d name ≡ false
unfolding has_form
form_long d name h =
    ap (λ (b : Bool). nat_lt 0 (length name) && (b && (is_name name (free_name d) || (is_name name (indexes_name d) || is_own d name)))) (not_within (length name) 120 h) ∙ and_false (nat_lt 0 (length name))

-- the three forms, of a text that is short enough
pub form_is : (d name : List ℕ) → 0 < length name → length name ≤ 120 → has_form d name ≡ (is_name name (free_name d) || (is_name name (indexes_name d) || is_own d name))
unfolding has_form
form_is d name some short =
    (λ i. below_of 0 (length name) some i && (within_of (length name) 120 short i && (is_name name (free_name d) || (is_name name (indexes_name d) || is_own d name))))

or_true : (b : Bool) → (b || true) ≡ true
or_true true = refl
or_true false = refl

pub form_free : (d name : List ℕ) → 0 < length name → length name ≤ 120 → is_name name (free_name d) ≡ true → has_form d name ≡ true
form_free d name some short h = form_is d name some short ∙ ap (λ (b : Bool). b || (is_name name (indexes_name d) || is_own d name)) h

pub form_indexes : (d name : List ℕ) → 0 < length name → length name ≤ 120 → is_name name (indexes_name d) ≡ true → has_form d name ≡ true
form_indexes d name some short h = form_is d name some short ∙ ap (λ (b : Bool). is_name name (free_name d) || (b || is_own d name)) h ∙ or_true (is_name name (free_name d))

pub form_own : (d name : List ℕ) → 0 < length name → length name ≤ 120 → is_name name (free_name d) ≡ false → is_name name (indexes_name d) ≡ false → has_form d name ≡ is_own d name
form_own d name some short g h = form_is d name some short ∙ (λ i. g i || (h i || is_own d name))

pub some_bytes : (n : ℕ) → (n == 0) ≡ false → 0 < n
some_bytes n e = grind (arith, nat_tests)

pub no_bytes : (n : ℕ) → (n == 0) ≡ true → n ≤ 0
no_bytes n e = let f : n ≡ 0 = eqb-true n 0 e in omega (arith, f)

pub own_none : (d front name : List ℕ) → front ≡ d ++ 46 ∷ [] → begins front name ≡ false → is_own d name ≡ false
unfolding is_own
own_none d front name e n =
    ap (λ (b : Bool). b && (is_coll (drop (suc (length d)) name) || is_coll_index (drop (suc (length d)) name))) (ap (λ (xs : List ℕ). begins xs name) (sym e) ∙ n)

pub own_some : (d front name back : List ℕ) → front ≡ d ++ 46 ∷ [] → HasFront front name back → is_own d name ≡ (is_coll back || is_coll_index back)
unfolding is_own
own_some d front name back e h =
    let long : length front ≡ suc (length d) = ap length e ∙ length-append d (46 ∷ []) ∙ omega arith in
    let rest : back ≡ drop (suc (length d)) name = h.is ∙ ap (λ (n : ℕ). drop n name) long in
    ap (λ (b : Bool). b && (is_coll (drop (suc (length d)) name) || is_coll_index (drop (suc (length d)) name))) (ap (λ (xs : List ℕ). begins xs name) (sym e) ∙ h.begun)
    ∙ ap (λ (xs : List ℕ). is_coll xs || is_coll_index xs) (sym rest)

-- ---- a node's test

pub named_wrong : (form hash seen : Bool) (named : Bool) → named ≡ (form && hash) → named ≡ false → (form && (hash && seen)) ≡ false
named_wrong true true seen named e f = absurd (false≢true (sym f ∙ e))
named_wrong true false seen named e f = refl
named_wrong false hash seen named e f = refl

pub named_right : (form hash seen : Bool) (named : Bool) → named ≡ (form && hash) → named ≡ true → (form && (hash && seen)) ≡ seen
named_right true true seen named e f = refl
named_right true false seen named e f = absurd (false≢true (sym e ∙ f))
named_right false hash seen named e f = absurd (false≢true (sym e ∙ f))

pub no_true : (b : Bool) → (b ≡ true → ⊥) → b ≡ false
no_true true f = absurd (f refl)
no_true false f = refl
