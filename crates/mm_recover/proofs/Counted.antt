-- How many sections are above a number.
use Rattle.std.proofs.Common.{◌≡◌, ℕ, Bool, true, false, cond, ◌+◌, ◌<◌, ◌≤◌, List, [], ◌∷◌, ◌++◌, length, get_or, take, refl, sym, ◌∙◌, ap, arith, length-append}
use Rattle.std.specs.Prelude.{nat_lt}
use Rattle.std.proofs.lemmas.Bool.Decides.{nat_tests}
use Rattle.std.proofs.lemmas.List.{take_more, take_all}
use Rattle.mm_section.specs.declared.section.Section.{Section}
use Rattle.mm_crash.specs.Journal.{above}

turn : (b : Bool) (x : Section) (l m n : List Section) → l ≡ m ++ n → cond b (x ∷ l) l ≡ cond b (x ∷ m) m ++ n
turn true x l m n e = ap (λ (k : List Section). x ∷ k) e
turn false x l m n e = e

above-append : (lsn : ℕ) (xs ys : List Section) → above lsn (xs ++ ys) ≡ above lsn xs ++ above lsn ys
above-append lsn [] ys = refl
above-append lsn (x ∷ xs) ys = turn (nat_lt lsn x.number) x (above lsn (xs ++ ys)) (above lsn xs) (above lsn ys) (above-append lsn xs ys)

next : (lsn : ℕ) (xs : List Section) (i : ℕ) (x : Section) → i < length xs → x ≡ get_or xs i x → above lsn (take (i + 1) xs) ≡ above lsn (take i xs) ++ above lsn (x ∷ [])
next lsn xs i x lt is = ap (above lsn) (take_more xs i x lt ∙ ap (λ (y : Section). take i xs ++ y ∷ []) (sym is)) ∙ above-append lsn (take i xs) (x ∷ [])

pub one_newer : (lsn : ℕ) (x : Section) → lsn < x.number → 1 ≡ length (above lsn (x ∷ []))
one_newer lsn x newer = let yes : nat_lt lsn x.number ≡ true = grind (arith, nat_tests) in sym (ap (λ (b : Bool). length (cond b (x ∷ []) [])) yes)

pub none_newer : (lsn : ℕ) (x : Section) → x.number ≤ lsn → 0 ≡ length (above lsn (x ∷ []))
none_newer lsn x old = let isnt : nat_lt lsn x.number ≡ false = grind (arith, nat_tests) in sym (ap (λ (b : Bool). length (cond b (x ∷ []) [])) isnt)

pub count_next : (lsn : ℕ) (xs : List Section) (i n k : ℕ) (x : Section) → i < length xs → x ≡ get_or xs i x → k ≡ length (above lsn (x ∷ [])) → n ≡ length (above lsn (take i xs)) → n + k ≡ length (above lsn (take (i + 1) xs))
count_next lsn xs i n k x lt is one e = omega (arith, e, one, ap length (next lsn xs i x lt is), length-append (above lsn (take i xs)) (above lsn (x ∷ [])))

pub count_all : (lsn : ℕ) (xs : List Section) (i n : ℕ) → length xs ≤ i → n ≡ length (above lsn (take i xs)) → n ≡ length (above lsn xs)
count_all lsn xs i n le e = e ∙ ap (λ (l : List Section). length (above lsn l)) (take_all i xs le)
