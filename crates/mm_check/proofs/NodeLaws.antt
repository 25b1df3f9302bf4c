-- Phase 2 finds nothing exactly where the nodes stand.
use Rattle.std.proofs.Common.{◌≡◌, ℕ, zero, suc, ◌+◌, ◌<◌, ◌≤◌, ◌⊎◌, inl, inr, Bool, true, false, List, [], ◌∷◌, ◌++◌, length, take, None, refl, sym, ◌∙◌, subst, arith}
use Rattle.std.specs.Prelude.{◌&&◌, ◌||◌, ◌==◌, not, nat_lt, Contains}
use Rattle.std.specs.List.{prefix_len}
use Rattle.std.proofs.lemmas.Bool.{cases_Bool, cases_lt, false≢true, eqb-true}
use Rattle.std.proofs.lemmas.Bool.Decides.{nat_tests}
use Rattle.mm_base.specs.Names.{IsName}
use Rattle.mm_ranges.specs.declared.limits.TheConstants.{NS_FILE}
use Rattle.mm_frames.specs.Texts.{text_in}
use Rattle.mm_nstable.specs.Nodes.{node_at, head_in, name_in, is_free, count_of, IsNamed}
use Rattle.mm_nstable.proofs.Tables.{Used, used_parts, used_from}
use Rattle.mm_links.specs.Links.{Place}
use Rattle.mm_links.proofs.LinkLaws.{both, either}
use Rattle.mm_records.specs.Constants.{is_name}
use Rattle.mm_records.proofs.Freed.{name_own, name_is}
use Rattle.mm_walk.specs.Questions.{Question, first_failing}
use Rattle.mm_check.specs.ExtentChain.{asked}
use Rattle.mm_check.specs.NodeQuestions.{free_name, indexes_name, has_form, has_name, node_right, node_place, used_questions, node_questions, NamesNode, NodesStand}
use Rattle.mm_check.proofs.RecordLaws.{if_yes, if_no, nat_le_true, eq_of, and_of}
use Rattle.mm_check.proofs.FileQuestionLaws.{failing_cons, cons_failing}

-- ---- a name among the first nodes

pub not_of : (b : Bool) → b ≡ false → not b ≡ true
not_of true e = absurd (false≢true (sym e))
not_of false e = refl

of_not : (b : Bool) → not b ≡ true → b ≡ false
of_not true e = absurd (false≢true e)
of_not false e = refl

or_left : (a b : Bool) → a ≡ true → (a || b) ≡ true
or_left true b e = refl
or_left false b e = absurd (false≢true e)

or_right : (a b : Bool) → b ≡ true → (a || b) ≡ true
or_right true b e = refl
or_right false b e = e

no_true : (b : Bool) → (b ≡ true → ⊥) → b ≡ false
no_true true f = absurd (f refl)
no_true false f = refl

-- one of the first k nodes is used and has the name
pub record HasIt (bytes : List ℕ) (k : ℕ) (name : List ℕ) : Type 0 where
  pub j : ℕ
  pub below : j < k
  pub used : is_free (node_at bytes j) ≡ false
  pub named : name_in (node_at bytes j) ≡ name

pub has_name_true : (bytes : List ℕ) (k : ℕ) (name : List ℕ) → has_name bytes k name ≡ true → HasIt bytes k name
unfolding has_name
has_name_true bytes zero name e = absurd (false≢true e)
has_name_true bytes (suc k) name e = elim (either (not (is_free (node_at bytes k)) && is_name (name_in (node_at bytes k)) name) (has_name bytes k name) e) [
  | inl y ↦ let t = both _ _ y in record { j = k; below = omega arith; used = of_not _ t.0; named = name_is _ name t.1 }
  | inr n ↦ let x = has_name_true bytes k name n in let lt = x.below in record { j = x.j; below = omega (arith, lt); used = x.used; named = x.named }
]

pub has_name_of : (bytes : List ℕ) (k j : ℕ) (name : List ℕ) → j < k → is_free (node_at bytes j) ≡ false → name_in (node_at bytes j) ≡ name → has_name bytes k name ≡ true
unfolding has_name
has_name_of bytes zero j name lt u e = absurd (omega (arith, lt))
has_name_of bytes (suc k) j name lt u e = elim (cases_Bool (j == k)) [
  | inl y ↦
      let s : j ≡ k = eqb-true j k y in
      or_left _ (has_name bytes k name) (subst (λ (i : ℕ). (not (is_free (node_at bytes i)) && is_name (name_in (node_at bytes i)) name) ≡ true) s (and_of _ _ (not_of _ u) (name_own _ name e)))
  | inr n ↦ or_right _ _ (has_name_of bytes k j name (less j k lt n) u e)
]
  where
    less : (j k : ℕ) → j < suc k → (j == k) ≡ false → j < k
    less j k lt n = elim (cases_lt j k) [ inl y ↦ y | inr ge ↦ absurd (false≢true (sym n ∙ eq_of j k (omega (arith, lt, ge)))) ]

-- ---- a text has no zero

text_no_zero : (xs : List ℕ) → Contains (take (prefix_len (λ b. not (b == 0)) xs) xs) 0 → ⊥
text_no_zero [] h = let lt = h.1 in omega (arith, lt)
text_no_zero (x ∷ xs) h = elim (cases_Bool (not (x == 0))) [
  | inl y ↦
      let n = prefix_len (λ b. not (b == 0)) xs in
      let e : prefix_len (λ b. not (b == 0)) (x ∷ xs) ≡ suc n = if_yes (not (x == 0)) (1 + n) 0 y ∙ omega arith in
      by (λ j. text_no_zero xs j) y (subst (λ (m : ℕ). Contains (take m (x ∷ xs)) 0) e h)
  | inr m ↦
      let e : prefix_len (λ b. not (b == 0)) (x ∷ xs) ≡ 0 = if_no (not (x == 0)) (1 + prefix_len (λ b. not (b == 0)) xs) 0 m in
      let h' = subst (λ (m : ℕ). Contains (take m (x ∷ xs)) 0) e h in
      let lt = h'.1 in
      omega (arith, lt)
]
  where
    by : (Contains (take (prefix_len (λ b. not (b == 0)) xs) xs) 0 → ⊥) → not (x == 0) ≡ true → Contains (x ∷ take (prefix_len (λ b. not (b == 0)) xs) xs) 0 → ⊥
    by f y (zero, lt, e) = false≢true (sym (of_not (x == 0) y) ∙ eq_of x 0 e)
    by f y (suc k, lt, e) = f (k, omega (arith, lt), e)

pub text_name : (field : List ℕ) → 0 < length (text_in field) → length (text_in field) ≤ 120 → IsName (text_in field)
unfolding text_in
text_name field some short = record { some = some; short = short; no_zero = text_no_zero field }

-- ---- node by node

pub node_of_test : (d bytes : List ℕ) (k : ℕ) → node_right d bytes k ≡ true → is_free (node_at bytes k) ≡ false
    → IsNamed (node_at bytes k) × (has_form d (name_in (node_at bytes k)) ≡ true) × (has_name bytes k (name_in (node_at bytes k)) ≡ false)
unfolding has_form
node_of_test d bytes k h u = elim (either (is_free (node_at bytes k)) _ h) [
  | inl y ↦ absurd (false≢true (sym u ∙ y))
  | inr n ↦
      let a = both _ _ n in let b = both _ _ a.1 in let c = both _ _ b.1 in
      let f = both _ _ b.0 in let g = both _ _ f.1 in (
        record {
          name = text_name (head_in (node_at bytes k)).name (nat_lt_true _ _ f.0) (nat_le_true _ _ g.0);
          field = name_is _ _ a.0;
          hash = eqb-true _ _ c.0;
        },
        b.0,
        of_not _ c.1,
      )
]
  where
    nat_lt_true : (m n : ℕ) → nat_lt m n ≡ true → m < n
    nat_lt_true m n e = grind (arith, nat_tests)

test_of_node : (d bytes : List ℕ) (k : ℕ) → IsNamed (node_at bytes k) → has_form d (name_in (node_at bytes k)) ≡ true → has_name bytes k (name_in (node_at bytes k)) ≡ false → node_right d bytes k ≡ true
test_of_node d bytes k x f n = or_right _ _ (and_of _ _ (name_own _ _ x.field) (and_of _ _ f (and_of _ _ (eq_of _ _ x.hash) (not_of _ n))))

used_right : (d bytes : List ℕ) (k n j : ℕ) → first_failing (used_questions d bytes k n) ≡ None → k ≤ j → j < k + n → node_right d bytes j ≡ true
used_right d bytes k zero j e lo hi = absurd (omega (arith, lo, hi))
used_right d bytes k (suc n) j e lo hi =
    let t = failing_cons (asked (node_place k) (node_right d bytes k)) (used_questions d bytes (suc k) n) e in
    elim (cases_Bool (j == k)) [
      | inl y ↦ subst (λ (m : ℕ). node_right d bytes m ≡ true) (sym (eqb-true j k y)) t.0
      | inr m ↦ used_right d bytes (suc k) n j t.1 (more k j lo m) (omega (arith, hi))
    ]
  where
    more : (k j : ℕ) → k ≤ j → (j == k) ≡ false → suc k ≤ j
    more k j le ne = elim (cases_lt k j) [ inl lt ↦ lt | inr ge ↦ absurd (false≢true (sym ne ∙ eq_of j k (omega (arith, le, ge)))) ]

right_used : (d bytes : List ℕ) (k n : ℕ) → ((j : ℕ) → k ≤ j → j < k + n → node_right d bytes j ≡ true) → first_failing (used_questions d bytes k n) ≡ None
right_used d bytes k zero f = refl
right_used d bytes k (suc n) f =
    cons_failing (asked (node_place k) (node_right d bytes k)) (used_questions d bytes (suc k) n) (f k (omega arith) (omega arith))
    (right_used d bytes (suc k) n (λ j lo hi. f j (omega (arith, lo)) (omega (arith, hi))))

-- ---- questions in a row

first_part : {P : Type 0} (qs rs : List (Question P)) → first_failing (qs ++ rs) ≡ None → first_failing qs ≡ None
first_part [] rs e = refl
first_part (q ∷ qs) rs e = let t = failing_cons q (qs ++ rs) e in cons_failing q qs t.0 (first_part qs rs t.1)

rest_part : {P : Type 0} (qs rs : List (Question P)) → first_failing (qs ++ rs) ≡ None → first_failing rs ≡ None
rest_part [] rs e = e
rest_part (q ∷ qs) rs e = rest_part qs rs (failing_cons q (qs ++ rs) e).1

in_row : {P : Type 0} (qs rs : List (Question P)) → first_failing qs ≡ None → first_failing rs ≡ None → first_failing (qs ++ rs) ≡ None
in_row [] rs e f = f
in_row (q ∷ qs) rs e f = let t = failing_cons q qs e in cons_failing q (qs ++ rs) t.0 (in_row qs rs t.1 f)

module _ (d bytes : List ℕ) where
  abbrev setup : List (Question Place)
  setup = asked (NS_FILE, 0) (has_name bytes (count_of bytes) (free_name d)) ∷ asked (NS_FILE, 0) (has_name bytes (count_of bytes) (indexes_name d)) ∷ []

  names_node : (name : List ℕ) → has_name bytes (count_of bytes) name ≡ true → NamesNode bytes name
  names_node name e = let x = has_name_true bytes (count_of bytes) name e in record { node = x.j; used = used_from bytes x.j x.below x.used; named = x.named }

  node_names : (name : List ℕ) → NamesNode bytes name → has_name bytes (count_of bytes) name ≡ true
  node_names name x = let u = used_parts bytes x.node x.used in has_name_of bytes (count_of bytes) x.node name u.there u.used x.named

  module _ (e : first_failing (node_questions d bytes) ≡ None) where
    right_at : (k : ℕ) (u : Used bytes k) → IsNamed (node_at bytes k) × (has_form d (name_in (node_at bytes k)) ≡ true) × (has_name bytes k (name_in (node_at bytes k)) ≡ false)
    right_at k u = let lt = u.there in node_of_test d bytes k (used_right d bytes 0 (count_of bytes) k (first_part (used_questions d bytes 0 (count_of bytes)) setup e) (omega arith) (omega (arith, lt))) u.used

    -- of two nodes with one name neither is below the other
    not_below : (j k : ℕ) → Used bytes j → Used bytes k → name_in (node_at bytes j) ≡ name_in (node_at bytes k) → j < k → ⊥
    not_below j k a b n lt = false≢true (sym (right_at k b).2 ∙ has_name_of bytes k j (name_in (node_at bytes k)) lt a.used n)

    pub nodes_stand : NodesStand d bytes
    nodes_stand =
        let r = rest_part (used_questions d bytes 0 (count_of bytes)) setup e in
        let a = failing_cons (asked (NS_FILE, 0) (has_name bytes (count_of bytes) (free_name d))) (asked (NS_FILE, 0) (has_name bytes (count_of bytes) (indexes_name d)) ∷ []) r in
        let b = failing_cons (asked (NS_FILE, 0) (has_name bytes (count_of bytes) (indexes_name d))) [] a.1 in
        record {
          table = record {
            named = λ k h. (right_at k (used_parts bytes k h)).0;
            apart = λ j k g h n.
                let a = used_parts bytes j g in let b = used_parts bytes k h in
                elim (cases_lt j k) [
                  | inl lt ↦ absurd (not_below j k a b n lt)
                  | inr ge ↦ elim (cases_lt k j) [ inl gt ↦ absurd (not_below k j b a (sym n) gt) | inr le ↦ omega (arith, ge, le) ]
                ];
          };
          forms = λ k h. (right_at k (used_parts bytes k h)).1;
          free = names_node (free_name d) a.0;
          indexes = names_node (indexes_name d) b.0;
        }

  pub no_node_finding : NodesStand d bytes → first_failing (node_questions d bytes) ≡ None
  no_node_finding s =
      in_row (used_questions d bytes 0 (count_of bytes)) setup
      (right_used d bytes 0 (count_of bytes) (λ j lo hi. right j (omega (arith, hi)) (cases_Bool (is_free (node_at bytes j)))))
      (cons_failing (asked (NS_FILE, 0) (has_name bytes (count_of bytes) (free_name d))) (asked (NS_FILE, 0) (has_name bytes (count_of bytes) (indexes_name d)) ∷ []) (node_names (free_name d) s.free)
      (cons_failing (asked (NS_FILE, 0) (has_name bytes (count_of bytes) (indexes_name d))) [] (node_names (indexes_name d) s.indexes) refl))
    where
      right : (k : ℕ) → k < count_of bytes → (is_free (node_at bytes k) ≡ true) ⊎ (is_free (node_at bytes k) ≡ false) → node_right d bytes k ≡ true
      right k lt (inl y) = or_left _ _ y
      right k lt (inr u) =
          let used = used_from bytes k lt u in
          test_of_node d bytes k (s.table.named k used) (s.forms k used)
          (no_true _ (λ h. let x = has_name_true bytes k (name_in (node_at bytes k)) h in let b = x.below in
          let same : x.j ≡ k = s.table.apart x.j k (used_from bytes x.j (omega (arith, b, lt)) x.used) used x.named in omega (arith, b, same)))
