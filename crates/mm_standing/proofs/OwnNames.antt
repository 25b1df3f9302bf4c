-- The names of a database's collections and their indexes are different.
use Rattle.std.proofs.Common.{◌≡◌, ℕ, ◌+◌, inl, inr, Bool, true, false, List, [], ◌∷◌, ◌++◌, length, map, Some, None, refl, sym, ◌∙◌, ap, subst, arith, ◌⊎◌}
use Rattle.std.specs.Prelude.{◌==◌, not, if◌then◌else◌, sum_by}
use Rattle.std.specs.List.{list_all}
use Rattle.std.specs.Str.{bytes_eq}
use Rattle.std.proofs.lemmas.Bool.{false≢true}
use Rattle.std.proofs.lemmas.List.{length-append, length-map, append_assoc}
use Rattle.std.proofs.lemmas.List.Sums.{sum_by-cons}
use Rattle.std.specs.Cmp.Lexicographic.{bytes_decides}
use Rattle.mm_links.proofs.LinkLaws.{both}
use Rattle.mm_nstable.specs.FreeChain.{free_list}
use Rattle.mm_records.specs.Constants.{system_indexes}
use Rattle.mm_check.specs.NodeQuestions.{free_name, indexes_name}
use Rattle.mm_check.proofs.RecordLaws.{eq_of}
use Rattle.mm_model.specs.Database.{Index, Collection}
use Rattle.mm_model.specs.Keyed.{namespace, full_name}
use Rattle.mm_model.specs.Commands.{index_named}
use Rattle.mm_model.specs.Laws.{AreNamed}
use Rattle.mm_standing.proofs.NameLists.{In, Differ, in_append, in_left, in_right, differ_append, in_map}

abbrev pub Entry : Type 0
Entry = List ℕ × Collection

abbrev pub names_for : List ℕ → List ℕ → Collection → List (List ℕ)
names_for d coll c = namespace d coll ∷ map (full_name (namespace d coll)) c.indexes

abbrev pub own_names : List ℕ → List Entry → List (List ℕ)
own_names d [] = []
own_names d (e ∷ es) = names_for d e.0 e.1 ++ own_names d es

abbrev pub all_names : List ℕ → List Entry → List (List ℕ)
all_names d es = free_name d ∷ indexes_name d ∷ own_names d es

pub own_count : (d : List ℕ) (es : List Entry) → length (own_names d es) ≡ sum_by (λ c. 1 + length c.indexes) (map (λ (e : Entry). e.1) es)
own_count d [] = refl
own_count d (e ∷ es) =
    let joined = length-append (names_for d e.0 e.1) (own_names d es) in
    let each = length-map e.1.indexes (full_name (namespace d e.0)) in
    let rest = own_count d es in
    let sum = sum_by-cons (λ (c : Collection). 1 + length c.indexes) e.1 (map (λ (x : Entry). x.1) es) in
    omega (arith, joined, each, rest, sum)

pub own_in : (d : List ℕ) (es : List Entry) (m : List ℕ) → In m (own_names d es) → (e : Entry) × In e es × In m (names_for d e.0 e.1)
own_in d [] m i = absurd i
own_in d (e ∷ es) m i = elim (in_append m (names_for d e.0 e.1) (own_names d es) i) [
  | inl l ↦ (e, inl refl, l)
  | inr r ↦ let t = own_in d es m r in (t.0, inr t.1, t.2)
]

pub in_own : (d : List ℕ) (es : List Entry) (m : List ℕ) (e : Entry) → In e es → In m (names_for d e.0 e.1) → In m (own_names d es)
in_own d [] m e i j = absurd i
in_own d (x ∷ es) m e (inl s) j = in_left m (names_for d x.0 x.1) (own_names d es) (subst (λ (y : Entry). In m (names_for d y.0 y.1)) s j)
in_own d (x ∷ es) m e (inr i) j = in_right m (names_for d x.0 x.1) (own_names d es) (in_own d es m e i j)

-- ---- names without `$`

abbrev pub NoDollar : List ℕ → Type 0
NoDollar [] = Unit {0}
NoDollar (x ∷ xs) = (x ≡ 36 → ⊥) × NoDollar xs

pub heads : (x y : ℕ) (xs ys : List ℕ) → x ∷ xs ≡ y ∷ ys → (x ≡ y) × (xs ≡ ys)
heads x y xs ys e = (cc, cc)

pub cancel : (d xs ys : List ℕ) → d ++ xs ≡ d ++ ys → xs ≡ ys
cancel [] xs ys e = e
cancel (x ∷ d) xs ys e = cancel d xs ys (heads x x (d ++ xs) (d ++ ys) e).1

-- a name of an index without its namespace: what stands before its first `$` decides
split : (a b x y : List ℕ) → NoDollar a → NoDollar b → a ++ 46 ∷ 36 ∷ x ≡ b ++ 46 ∷ 36 ∷ y → (a ≡ b) × (x ≡ y)
split [] [] x y n m e = (refl, (heads 36 36 x y (heads 46 46 (36 ∷ x) (36 ∷ y) e).1).1)
split [] (b ∷ []) x y n m e = absurd (let h = (heads 36 46 x (36 ∷ y) (heads 46 b (36 ∷ x) (46 ∷ 36 ∷ y) e).1).0 in omega (arith, h))
split [] (b ∷ c ∷ bs) x y n m e = absurd (m.1.0 (sym (heads 36 c x (bs ++ 46 ∷ 36 ∷ y) (heads 46 b (36 ∷ x) (c ∷ (bs ++ 46 ∷ 36 ∷ y)) e).1).0))
split (a ∷ []) [] x y n m e = absurd (let h = (heads 46 36 (36 ∷ x) y (heads a 46 (46 ∷ 36 ∷ x) (36 ∷ y) e).1).0 in omega (arith, h))
split (a ∷ c ∷ ks) [] x y n m e = absurd (n.1.0 (heads c 36 (ks ++ 46 ∷ 36 ∷ x) y (heads a 46 (c ∷ (ks ++ 46 ∷ 36 ∷ x)) (36 ∷ y) e).1).0)
split (a ∷ ks) (b ∷ bs) x y n m e =
    let h = heads a b (ks ++ 46 ∷ 36 ∷ x) (bs ++ 46 ∷ 36 ∷ y) e in
    let t = split ks bs x y n.1 m.1 h.1 in
    ((λ i. h.0 i ∷ t.0 i), t.1)

has_dollar : (a x : List ℕ) → NoDollar (a ++ 46 ∷ 36 ∷ x) → ⊥
has_dollar [] x n = n.1.0 refl
has_dollar (b ∷ a) x n = has_dollar a x n.1

-- ---- two names of collections or indexes

abbrev pub behind_dot : List ℕ → Index → List ℕ
behind_dot coll index = coll ++ 46 ∷ 36 ∷ index.name

pub namespace_is : (d coll : List ℕ) → namespace d coll ≡ d ++ 46 ∷ coll
namespace_is d coll = append_assoc d (46 ∷ []) coll

full_name_is : (ns : List ℕ) (index : Index) → full_name ns index ≡ ns ++ 46 ∷ 36 ∷ index.name
full_name_is ns index = append_assoc ns (46 ∷ 36 ∷ []) index.name

pub full_is : (d coll : List ℕ) (index : Index) → full_name (namespace d coll) index ≡ d ++ 46 ∷ behind_dot coll index
full_is d coll index = full_name_is (namespace d coll) index ∙ ap (λ (n : List ℕ). n ++ 46 ∷ 36 ∷ index.name) (namespace_is d coll) ∙ append_assoc d (46 ∷ coll) (46 ∷ 36 ∷ index.name)

-- what stands behind the database's name and its dot
abbrev IsBehind : List ℕ → Collection → List ℕ → Type 0
IsBehind coll c rest = (rest ≡ coll) ⊎ ((index : Index) × In index c.indexes × (rest ≡ behind_dot coll index))

behind : (d coll : List ℕ) (c : Collection) (rest : List ℕ) → In (d ++ 46 ∷ rest) (names_for d coll c) → IsBehind coll c rest
behind d coll c rest (inl e) = inl (heads 46 46 rest coll (cancel d (46 ∷ rest) (46 ∷ coll) (e ∙ namespace_is d coll))).1
behind d coll c rest (inr i) =
    let t = in_map (full_name (namespace d coll)) c.indexes (d ++ 46 ∷ rest) i in
    inr (t.0, t.1, (heads 46 46 rest (behind_dot coll t.0) (cancel d (46 ∷ rest) (46 ∷ behind_dot coll t.0) (t.2 ∙ full_is d coll t.0))).1)

-- each name of a collection is of this form
form_of : (d coll : List ℕ) (c : Collection) (m : List ℕ) → In m (names_for d coll c) → (rest : List ℕ) × (m ≡ d ++ 46 ∷ rest)
form_of d coll c m (inl e) = (coll, e ∙ namespace_is d coll)
form_of d coll c m (inr i) = let t = in_map (full_name (namespace d coll)) c.indexes m i in (behind_dot coll t.0, t.2 ∙ full_is d coll t.0)

one_coll : (a b : List ℕ) (c e : Collection) (rest : List ℕ) → NoDollar a → NoDollar b → IsBehind a c rest → IsBehind b e rest → a ≡ b
one_coll a b c e rest n m (inl s) (inl t) = sym s ∙ t
one_coll a b c e rest n m (inl s) (inr t) = absurd (has_dollar b t.0.name (subst NoDollar (sym s ∙ t.2) n))
one_coll a b c e rest n m (inr s) (inl t) = absurd (has_dollar a s.0.name (subst NoDollar (sym t ∙ s.2) m))
one_coll a b c e rest n m (inr s) (inr t) = (split a b s.0.name t.0.name n m (sym s.2 ∙ t.2)).0

pub same_coll : (d a b : List ℕ) (c e : Collection) (q : List ℕ) → NoDollar a → NoDollar b → In q (names_for d a c) → In q (names_for d b e) → a ≡ b
same_coll d a b c e q n m i j =
    let t = form_of d a c q i in
    one_coll a b c e t.0 n m (behind d a c t.0 (subst (λ (x : List ℕ). In x (names_for d a c)) t.1 i)) (behind d b e t.0 (subst (λ (x : List ℕ). In x (names_for d b e)) t.1 j))

-- ---- the names of one collection

named_there : (name : List ℕ) (is : List Index) (index : Index) → In index is → name ≡ index.name → index_named name is ≡ None → ⊥
named_there name [] index i s none = i
named_there name (x ∷ xs) index (inl e) s none =
    let yes = (bytes_decides x.name name).1 (ap (λ (y : Index). y.name) (sym e) ∙ sym s) in
    let f : Some x ≡ None = sym (ap (λ (b : Bool). if b then Some x else index_named name xs) yes) ∙ none in
    cc
named_there name (x ∷ xs) index (inr i) s none = by (bytes_eq x.name name) (named_there name xs index i s) none
  where
    by : (b : Bool) → (index_named name xs ≡ None → ⊥) → (if b then Some x else index_named name xs) ≡ None → ⊥
    by true g f = cc
    by false g f = g f

indexes_differ : (ns : List ℕ) (is : List Index) → AreNamed is → Differ (map (full_name ns) is)
indexes_differ ns [] n = tt
indexes_differ ns (i ∷ is) n = (
  λ m. (let t = in_map (full_name ns) is (full_name ns i) m in
      let e = cancel ns (46 ∷ 36 ∷ i.name) (46 ∷ 36 ∷ t.0.name) (sym (full_name_is ns i) ∙ t.2 ∙ full_name_is ns t.0) in
      named_there i.name is t.0 t.1 (heads 36 36 i.name t.0.name (heads 46 46 (36 ∷ i.name) (36 ∷ t.0.name) e).1).1 n.0),
  indexes_differ ns is n.1,
)

one_differs : (d coll : List ℕ) (c : Collection) → AreNamed c.indexes → Differ (names_for d coll c)
one_differs d coll c n = (
  λ m. (let t = in_map (full_name (namespace d coll)) c.indexes (namespace d coll) m in
      let long = length-append (namespace d coll) (46 ∷ 36 ∷ t.0.name) in
      let same = ap (λ (x : List ℕ). length x) (t.2 ∙ full_name_is (namespace d coll) t.0) in
      omega (arith, long, same)),
  indexes_differ (namespace d coll) c.indexes n,
)

-- ---- the names of a database

-- the name of a collection has no `$` and isn't that of the list of indexes, and its indexes have different names
pub record IsWell (e : Entry) : Type 0 where
  pub no_dollar : NoDollar e.0
  pub not_system : e.0 ≡ system_indexes → ⊥
  pub named : AreNamed e.1.indexes

abbrev pub Apart : List Entry → Type 0
Apart [] = Unit {0}
Apart (e ∷ es) = ((c : Collection) → In (e.0, c) es → ⊥) × Apart es

abbrev pub AllWell : List Entry → Type 0
AllWell es = (e : Entry) → In e es → IsWell e

pub own_differ : (d : List ℕ) (es : List Entry) → Apart es → AllWell es → Differ (own_names d es)
own_differ d [] a w = tt
own_differ d (e ∷ es) a w =
    differ_append (names_for d e.0 e.1) (own_names d es) (one_differs d e.0 e.1 (w e (inl refl)).named) (own_differ d es a.1 (λ x i. w x (inr i)))
    (λ q i j.
    let t = own_in d es q j in
    let same : e.0 ≡ t.0.0 = same_coll d e.0 t.0.0 e.1 t.0.1 q (w e (inl refl)).no_dollar (w t.0 (inr t.1)).no_dollar i t.2 in
    a.0 t.0.1 (subst (λ (k : List ℕ). In (k, t.0.1) es) (sym same) t.1))

no_dollar_of : (xs : List ℕ) → list_all (λ b. not (b == 36)) xs ≡ true → NoDollar xs
no_dollar_of [] e = tt
no_dollar_of (x ∷ xs) e = let t = both (not (x == 36)) (list_all (λ b. not (b == 36)) xs) e in ((λ s. isnt (x == 36) (eq_of x 36 s) t.0), no_dollar_of xs t.1)
  where
    isnt : (b : Bool) → b ≡ true → not b ≡ true → ⊥
    isnt true y n = false≢true n
    isnt false y n = false≢true y

-- a name that begins with `$` isn't behind the database's name
not_dollar : (coll : List ℕ) (c : Collection) (w : List ℕ) → NoDollar coll → IsBehind coll c (36 ∷ w) → ⊥
not_dollar [] c w n (inl e) = cc
not_dollar (x ∷ xs) c w n (inl e) = n.0 (sym (heads 36 x w xs e).0)
not_dollar [] c w n (inr t) = (let h = (heads 36 46 w (36 ∷ t.0.name) t.2).0 in omega (arith, h))
not_dollar (x ∷ xs) c w n (inr t) = n.0 (sym (heads 36 x w (xs ++ 46 ∷ 36 ∷ t.0.name) t.2).0)

not_indexes : (e : Entry) → IsWell e → IsBehind e.0 e.1 system_indexes → ⊥
not_indexes e w (inl s) = w.not_system (sym s)
not_indexes e w (inr t) = has_dollar e.0 t.0.name (subst NoDollar t.2 (no_dollar_of system_indexes refl))

-- the bytes of `$freelist`
abbrev pub free_word : List ℕ
free_word = 36 ∷ 102 ∷ 114 ∷ 101 ∷ 101 ∷ 108 ∷ 105 ∷ 115 ∷ 116 ∷ []

pub all_differ : (d : List ℕ) (es : List Entry) → Apart es → AllWell es → Differ (all_names d es)
all_differ d es a w = (
  λ i. elim i [
    | inl e ↦ (let s = cancel d free_list (46 ∷ system_indexes) e in let h = (heads 36 115 _ _ (heads 46 46 free_word system_indexes s).1).0 in omega (arith, h))
    | inr j ↦ (let t = own_in d es (free_name d) j in not_dollar t.0.0 t.0.1 _ (w t.0 t.1).no_dollar (behind d t.0.0 t.0.1 free_word t.2))
  ],
  (λ j. (let t = own_in d es (indexes_name d) j in not_indexes t.0 (w t.0 t.1) (behind d t.0.0 t.0.1 system_indexes t.2)), own_differ d es a w),
)
