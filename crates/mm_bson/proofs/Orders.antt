-- The order of values is total: it is that of lists of numbers.
use Rattle.std.proofs.Common.{◌≡◌, ℕ, ℤ, pos, Bool, List, [], ◌∷◌, length, refl, sym, ap, ◌∙◌, arith}
use Rattle.std.specs.declared.cmp.Ordering.{Ordering}
use Rattle.std.specs.declared.cmp.Ordering.TheVariants.{Less, Equal, Greater}
use Rattle.std.specs.Ordering.{nat_cmp, int_cmp, ordering_then, ordering_reverse}
use Rattle.std.specs.Cmp.{IsTotalOrder, int_cmp_total}
use Rattle.std.specs.Cmp.Lexicographic.{slice_cmp, lists_total}
use Rattle.std.proofs.lemmas.Bool.Decides.{nat_tests}
use Rattle.mm_bson.specs.Tree.{Tree, min_key, null, int32, int64, string, document, array, binary, object_id, boolean, date, timestamp, max_key, Elements, no_elements, element, Values, no_values, item}
use Rattle.mm_bson.specs.Order.{bit, class, text_cmp, inside, compare_elements, compare_values, compare}

abbrev lex : List ℤ → List ℤ → Ordering
lex = slice_cmp int_cmp

-- a key begins with what decides first, and goes on with x
abbrev text_key : List ℕ → List ℤ → List ℤ
text_key [] x = pos 0 ∷ x
text_key (b ∷ bytes) x = pos 1 ∷ (pos b ∷ text_key bytes x)

abbrev mutual
  inside_key : Tree → List ℤ → List ℤ
  inside_key (int32 z) x = z ∷ x
  inside_key (int64 z) x = z ∷ x
  inside_key (string s) x = text_key s x
  inside_key (document es) x = elements_key es x
  inside_key (array vs) x = values_key vs x
  inside_key (binary k bytes) x = pos (length bytes) ∷ (pos k ∷ text_key bytes x)
  inside_key (object_id bytes) x = text_key bytes x
  inside_key (boolean b) x = pos (bit b) ∷ x
  inside_key (date z) x = z ∷ x
  inside_key (timestamp s i) x = pos s ∷ (pos i ∷ x)
  inside_key _ x = x

  elements_key : Elements → List ℤ → List ℤ
  elements_key no_elements x = pos 0 ∷ x
  elements_key (element n t es) x = pos 1 ∷ (pos (class t) ∷ text_key n (inside_key t (elements_key es x)))

  values_key : Values → List ℤ → List ℤ
  values_key no_values x = pos 0 ∷ x
  values_key (item t vs) x = pos 1 ∷ (pos (class t) ∷ inside_key t (values_key vs x))

abbrev key : Tree → List ℤ
key t = pos (class t) ∷ inside_key t []

then_assoc : (a b c : Ordering) → ordering_then (ordering_then a b) c ≡ ordering_then a (ordering_then b c)
then_assoc Less b c = refl
then_assoc Equal b c = refl
then_assoc Greater b c = refl

then_equal : (a : Ordering) → ordering_then a Equal ≡ a
then_equal Less = refl
then_equal Equal = refl
then_equal Greater = refl

pos_cmp : (m n : ℕ) → int_cmp (pos m) (pos n) ≡ nat_cmp m n
pos_cmp m n = grind (arith, nat_tests)

cmp_self : (n : ℕ) → nat_cmp n n ≡ Equal
cmp_self n = grind (arith, nat_tests)

cmp_equal : (m n : ℕ) → nat_cmp m n ≡ Equal → m ≡ n
cmp_equal m n e = grind (arith, nat_tests)

texts_are : (s t : List ℕ) (x y : List ℤ) → lex (text_key s x) (text_key t y) ≡ ordering_then (text_cmp s t) (lex x y)
texts_are [] [] x y = refl
texts_are [] (c ∷ t) x y = refl
texts_are (b ∷ s) [] x y = refl
texts_are (b ∷ s) (c ∷ t) x y = rw (pos_cmp b c, texts_are s t x y) (sym (then_assoc (nat_cmp b c) (text_cmp s t) (lex x y)))

-- two elements and the ones after them, where the class decides or is one
by_class : (n m : List ℕ) (t u : Tree) (es fs : Elements) (x y : List ℤ)
    → (class t ≡ class u → lex (inside_key t (elements_key es x)) (inside_key u (elements_key fs y)) ≡ ordering_then (inside t u) (lex (elements_key es x) (elements_key fs y)))
    → lex (elements_key es x) (elements_key fs y) ≡ ordering_then (compare_elements es fs) (lex x y)
    → (o : Ordering) → nat_cmp (class t) (class u) ≡ o
    → ordering_then o (lex (text_key n (inside_key t (elements_key es x))) (text_key m (inside_key u (elements_key fs y)))) ≡ ordering_then (ordering_then o (ordering_then (text_cmp n m) (ordering_then (inside t u) (compare_elements es fs)))) (lex x y)
by_class n m t u es fs x y values others Less c = refl
by_class n m t u es fs x y values others Greater c = refl
by_class n m t u es fs x y values others Equal c =
    texts_are n m (inside_key t (elements_key es x)) (inside_key u (elements_key fs y))
    ∙ ap (ordering_then (text_cmp n m)) (values (cmp_equal (class t) (class u) c) ∙ ap (ordering_then (inside t u)) others)
    ∙ ap (ordering_then (text_cmp n m)) (sym (then_assoc (inside t u) (compare_elements es fs) (lex x y)))
    ∙ sym (then_assoc (text_cmp n m) (ordering_then (inside t u) (compare_elements es fs)) (lex x y))

-- two values of arrays and the ones after them
values_by_class : (t u : Tree) (vs ws : Values) (x y : List ℤ)
    → (class t ≡ class u → lex (inside_key t (values_key vs x)) (inside_key u (values_key ws y)) ≡ ordering_then (inside t u) (lex (values_key vs x) (values_key ws y)))
    → lex (values_key vs x) (values_key ws y) ≡ ordering_then (compare_values vs ws) (lex x y)
    → (o : Ordering) → nat_cmp (class t) (class u) ≡ o
    → ordering_then o (lex (inside_key t (values_key vs x)) (inside_key u (values_key ws y))) ≡ ordering_then (ordering_then o (ordering_then (inside t u) (compare_values vs ws))) (lex x y)
values_by_class t u vs ws x y values others Less c = refl
values_by_class t u vs ws x y values others Greater c = refl
values_by_class t u vs ws x y values others Equal c =
    values (cmp_equal (class t) (class u) c) ∙ ap (ordering_then (inside t u)) others ∙ sym (then_assoc (inside t u) (compare_values vs ws) (lex x y))

binary_is : (k : ℕ) (bytes : List ℕ) (l : ℕ) (more : List ℕ) (x y : List ℤ)
    → lex (inside_key (binary k bytes) x) (inside_key (binary l more) y) ≡ ordering_then (inside (binary k bytes) (binary l more)) (lex x y)
binary_is k bytes l more x y =
    rw (pos_cmp (length bytes) (length more), pos_cmp k l, texts_are bytes more x y)
    (ap (ordering_then (nat_cmp (length bytes) (length more))) (sym (then_assoc (nat_cmp k l) (text_cmp bytes more) (lex x y)))
    ∙ sym (then_assoc (nat_cmp (length bytes) (length more)) (ordering_then (nat_cmp k l) (text_cmp bytes more)) (lex x y)))

timestamp_is : (s i t j : ℕ) (x y : List ℤ) → lex (inside_key (timestamp s i) x) (inside_key (timestamp t j) y) ≡ ordering_then (inside (timestamp s i) (timestamp t j)) (lex x y)
timestamp_is s i t j x y = rw (pos_cmp s t, pos_cmp i j) (sym (then_assoc (nat_cmp s t) (nat_cmp i j) (lex x y)))

boolean_is : (a b : Bool) (x y : List ℤ) → lex (inside_key (boolean a) x) (inside_key (boolean b) y) ≡ ordering_then (inside (boolean a) (boolean b)) (lex x y)
boolean_is a b x y = rw (pos_cmp (bit a) (bit b)) refl

mutual
  inside_is : (t u : Tree) → class t ≡ class u → (x y : List ℤ) → lex (inside_key t x) (inside_key u y) ≡ ordering_then (inside t u) (lex x y)
  inside_is (int32 z) (int32 w) e x y = refl
  inside_is (int32 z) (int64 w) e x y = refl
  inside_is (int64 z) (int32 w) e x y = refl
  inside_is (int64 z) (int64 w) e x y = refl
  inside_is (string s) (string t) e x y = texts_are s t x y
  inside_is (document es) (document fs) e x y = elements_are es fs x y
  inside_is (array vs) (array ws) e x y = values_are vs ws x y
  inside_is (binary k bytes) (binary l more) e x y = binary_is k bytes l more x y
  inside_is (object_id bytes) (object_id more) e x y = texts_are bytes more x y
  inside_is (boolean a) (boolean b) e x y = boolean_is a b x y
  inside_is (date z) (date w) e x y = refl
  inside_is (timestamp s i) (timestamp t j) e x y = timestamp_is s i t j x y
  inside_is min_key min_key e x y = refl
  inside_is null null e x y = refl
  inside_is max_key max_key e x y = refl
  inside_is _ _ e x y = absurd (omega arith)

  elements_are : (es fs : Elements) (x y : List ℤ) → lex (elements_key es x) (elements_key fs y) ≡ ordering_then (compare_elements es fs) (lex x y)
  elements_are no_elements no_elements x y = refl
  elements_are no_elements (element m u fs) x y = refl
  elements_are (element n t es) no_elements x y = refl
  elements_are (element n t es) (element m u fs) x y =
      rw (pos_cmp (class t) (class u)) (by_class n m t u es fs x y
      (λ same. inside_is t u same (elements_key es x) (elements_key fs y))
      (elements_are es fs x y)
      (nat_cmp (class t) (class u)) refl)

  values_are : (vs ws : Values) (x y : List ℤ) → lex (values_key vs x) (values_key ws y) ≡ ordering_then (compare_values vs ws) (lex x y)
  values_are no_values no_values x y = refl
  values_are no_values (item u ws) x y = refl
  values_are (item t vs) no_values x y = refl
  values_are (item t vs) (item u ws) x y =
      rw (pos_cmp (class t) (class u)) (values_by_class t u vs ws x y
      (λ same. inside_is t u same (values_key vs x) (values_key ws y))
      (values_are vs ws x y)
      (nat_cmp (class t) (class u)) refl)

pub compare_is : (t u : Tree) → compare t u ≡ lex (key t) (key u)
compare_is t u = sym (rw (pos_cmp (class t) (class u)) (by_class (nat_cmp (class t) (class u)) refl))
  where
    by_class : (o : Ordering) → nat_cmp (class t) (class u) ≡ o → ordering_then o (lex (inside_key t []) (inside_key u [])) ≡ ordering_then o (inside t u)
    by_class Less c = refl
    by_class Greater c = refl
    by_class Equal c = inside_is t u (cmp_equal (class t) (class u) c) [] [] ∙ then_equal (inside t u)

pub compare_total : IsTotalOrder compare
compare_total =
    let lists : IsTotalOrder lex = lists_total int_cmp_total in
    record {
      antisymm = λ t u. compare_is t u ∙ lists.antisymm (key t) (key u) ∙ ap ordering_reverse (sym (compare_is u t));
      trans = λ t u v p q. compare_is t v ∙ lists.trans (key t) (key u) (key v) (sym (compare_is t u) ∙ p) (sym (compare_is u v) ∙ q);
      congr = λ t u v p. compare_is t v ∙ lists.congr (key t) (key u) (key v) (sym (compare_is t u) ∙ p) ∙ sym (compare_is u v);
    }
