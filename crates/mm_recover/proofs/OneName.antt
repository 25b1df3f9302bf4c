-- A database's file has a name of its own.
use Rattle.std.proofs.Common.{◌≡◌, inl, inr, ℕ, Bool, true, false, cond, ◌<◌, ◌^◌, List, [], ◌∷◌, ◌++◌, get_or, drop, refl, sym, ◌∙◌, ap, subst, arith, append_assoc}
use mathlib.Core.Bool.{true≢false}
use Rattle.std.specs.Prelude.{◌==◌, codes, IsTrue}
use Rattle.std.specs.Fmt.{decimal}
use Rattle.std.specs.List.{list_all}
use Rattle.std.specs.Ordering.{eq_by_cmp}
use Rattle.std.specs.Str.Parse.{AllDigits}
use Rattle.std.proofs.lemmas.Bool.{cases_Bool, eqb-true}
use Rattle.std.proofs.lemmas.Fmt.{decimal_injective, decimal_is_IsNumeral}
use Rattle.std.proofs.lemmas.Str.Parse.{digit_from_value}
use Rattle.mm_outside.specs.Image.{name_cmp}
use Rattle.mm_outside.proofs.Places.{one_name, same_name, different, apart}
use Rattle.mm_ranges.specs.Limits.{ns_file}
use Rattle.mm_section.specs.Spells.{is_db_name, is_letter}
use Rattle.mm_section.proofs.Limits.{both}
use Rattle.mm_journal.specs.Real.{disk_name}
use Rattle.mm_recover.proofs.Cleared.{NoneIs, letters_of}

letters_no_dot : (bytes : List ℕ) → list_all is_letter bytes ≡ true → NoneIs 46 bytes
letters_no_dot [] all = tt
letters_no_dot (b ∷ bytes) all =
    let here = both (is_letter b) (list_all is_letter bytes) all in
    ((λ e. true≢false (sym here.0 ∙ ap is_letter e)), letters_no_dot bytes here.1)

-- both are parted at the first dot
parted : (a b r s : List ℕ) → NoneIs 46 a → NoneIs 46 b → a ++ (46 ∷ r) ≡ b ++ (46 ∷ s) → (a ≡ b) × (r ≡ s)
parted [] [] r s x y e = (refl, ap (drop 1) e)
parted [] (d ∷ b) r s x y e = absurd (y.0 (sym (ap (λ (l : List ℕ). get_or l 0 0) e)))
parted (c ∷ a) [] r s x y e = absurd (x.0 (ap (λ (l : List ℕ). get_or l 0 0) e))
parted (c ∷ a) (d ∷ b) r s x y e =
    let rest = parted a b r s x.1 y.1 (ap (drop 1) e) in
    (ap (λ (n : ℕ). n ∷ a) (ap (λ (l : List ℕ). get_or l 0 0) e) ∙ ap (λ (l : List ℕ). d ∷ l) rest.0, rest.1)

-- what stands behind the dot
abbrev ending : ℕ → List ℕ
ending file = cond (file == ns_file) (codes "ns") (decimal file)

ends_so : (name : List ℕ) (file : ℕ) → disk_name name file ≡ name ++ (46 ∷ ending file)
ends_so name file = by (file == ns_file)
  where
    by : (b : Bool) → cond b (name ++ codes ".ns") (name ++ codes "." ++ decimal file) ≡ name ++ (46 ∷ cond b (codes "ns") (decimal file))
    by true = refl
    by false = append_assoc name (codes ".") (decimal file)

no_number : (n : ℕ) → n < 2 ^ 64 → decimal n ≡ codes "ns" → ⊥
no_number n lt e = omega (arith, digit_from_value 110 (subst (AllDigits 10) e (decimal_is_IsNumeral n lt).0.1).0)

one_ending : (m n : ℕ) → m < 2 ^ 64 → n < 2 ^ 64 → ending m ≡ ending n → m ≡ n
one_ending m n x y = by (m == ns_file) (n == ns_file) refl refl
  where
    by : (p q : Bool) → (m == ns_file) ≡ p → (n == ns_file) ≡ q → cond p (codes "ns") (decimal m) ≡ cond q (codes "ns") (decimal n) → m ≡ n
    by true true e f same = eqb-true m ns_file e ∙ sym (eqb-true n ns_file f)
    by true false e f same = absurd (no_number n y (sym same))
    by false true e f same = absurd (no_number m x same)
    by false false e f same = decimal_injective m n x y same

pub one_disk_name : (a b : List ℕ) (m n : ℕ) → IsTrue (is_db_name a) → IsTrue (is_db_name b) → m < 2 ^ 64 → n < 2 ^ 64 → disk_name a m ≡ disk_name b n → (a ≡ b) × (m ≡ n)
one_disk_name a b m n p q x y e =
    let parts = parted a b (ending m) (ending n) (letters_no_dot a (letters_of a p)) (letters_no_dot b (letters_of b q)) (sym (ends_so a m) ∙ e ∙ ends_so b n) in
    (parts.0, one_ending m n x y parts.1)

pub same_disk_name : (a b : List ℕ) (n : ℕ) → IsTrue (is_db_name a) → IsTrue (is_db_name b) → n < 2 ^ 64 → eq_by_cmp name_cmp a b ≡ eq_by_cmp name_cmp (disk_name a n) (disk_name b n)
same_disk_name a b n p q x = elim (cases_Bool (eq_by_cmp name_cmp a b)) [
  | inl same ↦ same ∙ sym (ap (λ (l : List ℕ). eq_by_cmp name_cmp (disk_name a n) (disk_name l n)) (sym (one_name a b same)) ∙ same_name (disk_name a n))
  | inr other ↦ other ∙ sym (different (disk_name a n) (disk_name b n) (λ e. apart a b other (one_disk_name a b n n p q x x e).0))
]

pub other_disk_name : (a b : List ℕ) (m n : ℕ) → IsTrue (is_db_name a) → IsTrue (is_db_name b) → m < 2 ^ 64 → n < 2 ^ 64 → (n ≡ m → ⊥) → false ≡ eq_by_cmp name_cmp (disk_name a m) (disk_name b n)
other_disk_name a b m n p q x y isnt = sym (different (disk_name a m) (disk_name b n) (λ e. isnt (sym (one_disk_name a b m n p q x y e).1)))
