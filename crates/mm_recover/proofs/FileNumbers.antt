-- The numbers of the journal's files, of their names.
use Rattle.std.proofs.Common.{◌≡◌, ◌⊎◌, inl, inr, ℕ, Bool, true, false, cond, ◌+◌, ◌<◌, ◌≤◌, ◌^◌, List, [], ◌∷◌, ◌++◌, length, get_or, take, map, Option, Some, None, String, string_bytes, refl, sym, ◌∙◌, ap, arith}
use mathlib.Core.Bool.{true≢false}
use Rattle.std.specs.declared.alloc.Global.{Global}
use Rattle.std.specs.declared.cmp.Ordering.TheVariants.{Less, Equal, Greater}
use Rattle.std.specs.Prelude.{◌||◌, ◌&&◌, nat_lt, ◌==◌, is_some, IsSome}
use Rattle.std.specs.List.{list_any, AllByRecursion}
use Rattle.std.specs.List.Sorted.{IsStrictlySortedBy}
use Rattle.std.specs.Ordering.{nat_cmp, is_eq, eq_by_cmp}
use Rattle.std.specs.BTreeMap.{is_at}
use Rattle.std.specs.FinMap.{get, keys, contains_key-keys}
use Rattle.std.proofs.lemmas.Bool.{cases_eq, cases_lt}
use Rattle.std.proofs.lemmas.Bool.Decides.{nat_tests}
use Rattle.std.proofs.lemmas.List.{take_more, take_all, map-append}
use Rattle.std.proofs.lemmas.List.Folds.{list_any-append}
use Rattle.mm_outside.specs.Image.{Image, name_cmp}
use Rattle.mm_outside.proofs.Places.{same_name, different}
use Rattle.mm_jfiles.specs.Names.{journal_name}
use Rattle.mm_crash.specs.Recovered.{journal_of}
use Rattle.mm_journal.proofs.Real.{the_names, speaks}
use Rattle.mm_recover.specs.Closing.{AreNumbersOfFiles}
use Rattle.mm_recover.specs.Reading.{AreNumbers, is_number_of, has_number}

-- ---- equal numbers

same_yes : (k n : ℕ) → k ≡ n → is_eq (nat_cmp k n) ≡ true
same_yes k n e =
    let no_less : nat_lt k n ≡ false = grind (arith, nat_tests) in
    let yes : (k == n) ≡ true = grind (arith, nat_tests) in
    ap (λ (b : Bool). is_eq (cond b Less (cond (k == n) Equal Greater))) no_less ∙ ap (λ (b : Bool). is_eq (cond b Equal Greater)) yes

same_no : (k n : ℕ) → (k ≡ n → ⊥) → is_eq (nat_cmp k n) ≡ false
same_no k n ne = by (nat_lt k n) (k == n) (grind (arith, nat_tests))
  where
    by : (a b : Bool) → b ≡ false → is_eq (cond a Less (cond b Equal Greater)) ≡ false
    by true b e = refl
    by false true e = absurd (true≢false e)
    by false false e = refl

-- ---- one name

one_number : (m n : ℕ) → m < 2 ^ 32 → n < 2 ^ 32 → journal_name m ≡ journal_name n → m ≡ n
one_number m n lt gt e = the_names.one m n (speaks.journal m lt ∙ e ∙ sym (speaks.journal n gt))

pub below : (n : ℕ) → n < 2 ^ 32 → nat_lt n (2 ^ 32) ≡ true
below n lt = grind (arith, nat_tests)

pub past : (n : ℕ) → 2 ^ 32 ≤ n → nat_lt n (2 ^ 32) ≡ false
past n le = grind (arith, nat_tests)

-- the number of this name, and no other
number_same : (name : List ℕ) (k n : ℕ) → k < 2 ^ 32 → name ≡ journal_name k → is_number_of name n ≡ is_eq (nat_cmp k n)
number_same name k n lt is = elim (cases_eq k n) [
  | inl e ↦
      let small : n < 2 ^ 32 = omega (arith, e, lt) in
      let same : eq_by_cmp name_cmp (journal_name n) name ≡ true = ap (λ (l : List ℕ). eq_by_cmp name_cmp (journal_name n) l) (is ∙ ap journal_name e) ∙ same_name (journal_name n) in
      ap (λ (b : Bool). b && eq_by_cmp name_cmp (journal_name n) name) (below n small) ∙ same ∙ sym (same_yes k n e)
  | inr ne ↦ elim (cases_lt n (2 ^ 32)) [
    | inl small ↦
        let other : eq_by_cmp name_cmp (journal_name n) name ≡ false = different (journal_name n) name (λ e. ne (one_number k n lt small (sym is ∙ sym e))) in
        ap (λ (b : Bool). b && eq_by_cmp name_cmp (journal_name n) name) (below n small) ∙ other ∙ sym (same_no k n ne)
    | inr great ↦ ap (λ (b : Bool). b && eq_by_cmp name_cmp (journal_name n) name) (past n great) ∙ sym (same_no k n ne)
  ]
]

pub number_added : (name : List ℕ) (k n : ℕ) (new old : Bool) → k < 2 ^ 32 → name ≡ journal_name k → new ≡ cond (is_eq (nat_cmp k n)) true old → new ≡ (is_number_of name n || old)
number_added name k n new old lt is e = e ∙ by (is_eq (nat_cmp k n)) ∙ ap (λ (b : Bool). b || old) (sym (number_same name k n lt is))
  where
    by : (b : Bool) → cond b true old ≡ (b || old)
    by true = refl
    by false = refl

pub none_added : (name : List ℕ) (n : ℕ) (old : Bool) → ((m : ℕ) → m < 2 ^ 32 → name ≡ journal_name m → ⊥) → old ≡ (is_number_of name n || old)
none_added name n old none = elim (cases_lt n (2 ^ 32)) [
  | inl small ↦
      let other : eq_by_cmp name_cmp (journal_name n) name ≡ false = different (journal_name n) name (λ e. none n small (sym e)) in
      sym (ap (λ (b : Bool). (b && eq_by_cmp name_cmp (journal_name n) name) || old) (below n small) ∙ ap (λ (b : Bool). b || old) other)
  | inr great ↦ sym (ap (λ (b : Bool). (b && eq_by_cmp name_cmp (journal_name n) name) || old) (past n great))
]

-- ---- all names

turned : (a b : Bool) → (a || (b || false)) ≡ (b || a)
turned true true = refl
turned true false = refl
turned false true = refl
turned false false = refl

pub has_next : (names : List (String Global)) (i : ℕ) (item : String Global) (n : ℕ) (new old : Bool) → i < length names → item ≡ get_or names i item → new ≡ (is_number_of (string_bytes item) n || old) → old ≡ has_number (map string_bytes (take i names)) n → new ≡ has_number (map string_bytes (take (i + 1) names)) n
has_next names i item n new old lt is added was =
    let more : take (i + 1) names ≡ take i names ++ item ∷ [] = take_more names i item lt ∙ ap (λ (x : String Global). take i names ++ x ∷ []) (sym is) in
    let all : has_number (map string_bytes (take (i + 1) names)) n ≡ (has_number (map string_bytes (take i names)) n || (is_number_of (string_bytes item) n || false)) =
    ap (λ (l : List (String Global)). has_number (map string_bytes l) n) more ∙ ap (λ (l : List (List ℕ)). has_number l n) (map-append string_bytes (take i names) (item ∷ [])) ∙ list_any-append (λ name. is_number_of name n) (map string_bytes (take i names)) (string_bytes item ∷ []) in
    added ∙ ap (λ (b : Bool). is_number_of (string_bytes item) n || b) was ∙ sym (all ∙ turned (has_number (map string_bytes (take i names)) n) (is_number_of (string_bytes item) n))

pub has_all : (names : List (String Global)) (i n : ℕ) (b : Bool) → length names ≤ i → b ≡ has_number (map string_bytes (take i names)) n → b ≡ has_number (map string_bytes names) n
has_all names i n b le is = is ∙ ap (λ (l : List (String Global)). has_number (map string_bytes l) n) (take_all i names le)

-- ---- numbers in order

abbrev has : List ℕ → ℕ → Bool
has ks n = list_any (is_at (nat_cmp n)) ks

either : (a b : Bool) → (a || b) ≡ true → (a ≡ true) ⊎ (b ≡ true)
either true b e = inl refl
either false b e = inr e

later : (a b : Bool) → b ≡ true → (a || b) ≡ true
later true b e = refl
later false b e = e

neither : (a b : Bool) → a ≡ false → b ≡ false → (a || b) ≡ false
neither true b e f = absurd (true≢false e)
neither false b e f = f

has_first : (k : ℕ) (ks : List ℕ) → has (k ∷ ks) k ≡ true
has_first k ks = ap (λ (b : Bool). b || has ks k) (same_yes k k refl)

-- a number of 32 bits each
pub are_small : (ks : List ℕ) → ((n : ℕ) → has ks n ≡ true → n < 2 ^ 32) → AreNumbersOfFiles ks
are_small [] small = tt
are_small (k ∷ ks) small = (small k (has_first k ks), are_small ks (λ n is. small n (later (is_eq (nat_cmp n k)) (has ks n) is)))

pub has_small : (names : List (List ℕ)) (n : ℕ) → has_number names n ≡ true → n < 2 ^ 32
has_small [] n is = absurd (true≢false (sym is))
has_small (name ∷ names) n is = elim (either (is_number_of name n) (has_number names n) is) [
  | inl own ↦ elim (cases_lt n (2 ^ 32)) [
    | inl lt ↦ lt
    | inr le ↦ absurd (true≢false (sym own ∙ ap (λ (b : Bool). b && eq_by_cmp name_cmp (journal_name n) name) (past n le)))
  ]
  | inr more ↦ has_small names n more
]

is_below : (k x : ℕ) → nat_cmp k x ≡ Less → k < x
is_below k x e = elim (cases_lt k x) [ inl lt ↦ lt | inr le ↦ absurd (by (nat_lt k x) (k == x) (grind (arith, nat_tests)) e) ]
  where
    by : (a b : Bool) → a ≡ false → cond a Less (cond b Equal Greater) ≡ Less → ⊥
    by true b f is = absurd (true≢false f)
    by false true f is = absurd cc
    by false false f is = absurd cc

-- a number up to the first isn't among those behind it
not_behind : (k n : ℕ) (ks : List ℕ) → n ≤ k → AllByRecursion (λ y. nat_cmp k y ≡ Less) ks → has ks n ≡ false
not_behind k n [] le all = refl
not_behind k n (x ∷ ks) le all = neither (is_eq (nat_cmp n x)) (has ks n) (same_no n x (λ e. absurd (omega (arith, le, is_below k x all.0, e)))) (not_behind k n ks le all.1)

pub numbers_from : (left : ℕ → Option (List ℕ)) (n : ℕ) (ks : List ℕ) → IsStrictlySortedBy nat_cmp ks → ((m : ℕ) → has ks m ≡ true → (n ≤ m) × IsSome (left m)) → ((m : ℕ) → n ≤ m → has ks m ≡ false → left m ≡ None) → AreNumbers left n ks
unfolding IsStrictlySortedBy
numbers_from left n [] sorted there away = λ m le. away m le refl
numbers_from left n (k ∷ ks) sorted there away =
    let first = there k (has_first k ks) in (
      first.0,
      (
        (λ m le lt. away m le (neither (is_eq (nat_cmp m k)) (has ks m) (same_no m k (λ e. absurd (omega (arith, lt, e)))) (not_behind k m ks (omega (arith, lt)) sorted.0))),
        (
          first.1,
          numbers_from left (k + 1) ks sorted.1
              (λ m is. (
                elim (cases_lt k m) [ inl lt ↦ omega (arith, lt) | inr le ↦ absurd (true≢false (sym is ∙ not_behind k m ks le sorted.0)) ],
                (there m (later (is_eq (nat_cmp m k)) (has ks m) is)).1,
              ))
              (λ m le out. away m (omega (arith, le, first.0)) (neither (is_eq (nat_cmp m k)) (has ks m) (same_no m k (λ e. absurd (omega (arith, le, e)))) out)),
        ),
      ),
    )

-- ---- the files of an image

any_none : (names : List (List ℕ)) (n : ℕ) → nat_lt n (2 ^ 32) ≡ false → has_number names n ≡ false
any_none [] n e = refl
any_none (name ∷ names) n e = neither (is_number_of name n) (has_number names n) (ap (λ (b : Bool). b && eq_by_cmp name_cmp (journal_name n) name) e) (any_none names n e)

any_some : (names : List (List ℕ)) (n : ℕ) → nat_lt n (2 ^ 32) ≡ true → has_number names n ≡ list_any (eq_by_cmp name_cmp (journal_name n)) names
any_some [] n e = refl
any_some (name ∷ names) n e =
    let one : is_number_of name n ≡ eq_by_cmp name_cmp (journal_name n) name = ap (λ (b : Bool). b && eq_by_cmp name_cmp (journal_name n) name) e in
    ap (λ (b : Bool). b || has_number names n) one ∙ ap (λ (b : Bool). eq_by_cmp name_cmp (journal_name n) name || b) (any_some names n e)

pub journal_past : (image : Image) (n : ℕ) → nat_lt n (2 ^ 32) ≡ false → journal_of the_names image n ≡ None
unfolding the_names
journal_past image n e = ap (λ (b : Bool). cond b (get image (the_names.journal n)) None) e

pub journal_below : (image : Image) (n : ℕ) → nat_lt n (2 ^ 32) ≡ true → journal_of the_names image n ≡ get image (the_names.journal n)
unfolding the_names
journal_below image n e = ap (λ (b : Bool). cond b (get image (the_names.journal n)) None) e

pub there_number : (image : Image) (names : List (List ℕ)) (n : ℕ) → names ≡ keys image → has_number names n ≡ is_some (journal_of the_names image n)
there_number image names n are = elim (cases_lt n (2 ^ 32)) [
  | inl lt ↦
      let yes = below n lt in
      any_some names n yes ∙ ap (list_any (eq_by_cmp name_cmp (journal_name n))) are ∙ sym (contains_key-keys image (journal_name n)) ∙ ap (λ (l : List ℕ). is_some (get image l)) (sym (speaks.journal n lt)) ∙ ap is_some (sym (journal_below image n yes))
  | inr le ↦ any_none names n (past n le) ∙ ap is_some (sym (journal_past image n (past n le)))
]

none_there : (o : Option (List ℕ)) → is_some o ≡ false → o ≡ None
none_there (Some x) e = absurd (true≢false e)
none_there None e = refl

-- the numbers in order are those of the image's files
pub image_numbers : (image : Image) (names : List (List ℕ)) (ks : List ℕ) → IsStrictlySortedBy nat_cmp ks → ((n : ℕ) → has ks n ≡ has_number names n) → names ≡ keys image → AreNumbers (journal_of the_names image) 0 ks
image_numbers image names ks sorted same are = numbers_from (journal_of the_names image) 0 ks sorted
    (λ m is. (omega arith, sym (there_number image names m are) ∙ sym (same m) ∙ is))
    (λ m le out. none_there (journal_of the_names image m) (sym (there_number image names m are) ∙ sym (same m) ∙ out))

pub small_numbers : (names : List (List ℕ)) (ks : List ℕ) → ((n : ℕ) → has ks n ≡ has_number names n) → AreNumbersOfFiles ks
small_numbers names ks same = are_small ks (λ n is. has_small names n (sym (same n) ∙ is))
