-- The log, cut into groups.
use Rattle.std.proofs.Common.{◌≡◌, ℕ, ◌+◌, ◌-◌, ◌≤◌, zero, suc, List, [], ◌∷◌, ◌++◌, length, map, take, drop, refl, ◌∙◌, ap, arith}
use Rattle.std.proofs.lemmas.List.{length-take-le}
use Rattle.mm_model.specs.declared.action.Entry.{Entry}
use Rattle.mm_held.specs.Log.{sum, closed_groups, open_group, joined, AreOfSessions}

pub sum_push : (counts : List ℕ) (n : ℕ) → sum (counts ++ n ∷ []) ≡ sum counts + n
sum_push [] n = omega arith
sum_push (m ∷ counts) n = let rest = sum_push counts n in omega (arith, rest)

pub drop_push : {X : Type 0} → (n : ℕ) (log : List X) (e : X) → n ≤ length log → drop n (log ++ e ∷ []) ≡ drop n log ++ e ∷ []
drop_push zero log e within = refl
drop_push (suc n) [] e within = absurd (omega (arith, within))
drop_push (suc n) (x ∷ log) e within = drop_push n log e (omega (arith, within))

pub take_push : {X : Type 0} → (n : ℕ) (log : List X) (e : X) → n ≤ length log → take n (log ++ e ∷ []) ≡ take n log
take_push zero log e within = refl
take_push (suc n) [] e within = absurd (omega (arith, within))
take_push (suc n) (x ∷ log) e within = ap (λ xs. x ∷ xs) (take_push n log e (omega (arith, within)))

pub left_over : (n : ℕ) (log : List Entry) → length (drop n log) ≡ length log - n
left_over zero log = omega arith
left_over (suc n) [] = omega arith
left_over (suc n) (x ∷ log) = left_over n log ∙ omega arith

-- a new entry stands in the opened group
pub open_push : (counts : List ℕ) (log : List Entry) (e : Entry) → sum counts ≤ length log → open_group counts (log ++ e ∷ []) ≡ open_group counts log ++ e ∷ []
open_push [] log e within = refl
open_push (n ∷ counts) log e within =
    ap (open_group counts) (drop_push n log e (omega (arith, within))) ∙ open_push counts (drop n log) e (let left = left_over n log in omega (arith, left, within))

pub closed_push : (counts : List ℕ) (log : List Entry) (e : Entry) → sum counts ≤ length log → closed_groups counts (log ++ e ∷ []) ≡ closed_groups counts log
closed_push [] log e within = refl
closed_push (n ∷ counts) log e within =
    ap (λ g. g ∷ closed_groups counts (drop n (log ++ e ∷ []))) (take_push n log e (omega (arith, within)))
    ∙ ap (λ gs. take n log ∷ gs) (ap (closed_groups counts) (drop_push n log e (omega (arith, within))) ∙ closed_push counts (drop n log) e (let left = left_over n log in omega (arith, left, within)))

-- what is closed and what is open are the log
pub all_groups : (counts : List ℕ) (log : List Entry) → joined (closed_groups counts log) ++ open_group counts log ≡ log
all_groups [] log = refl
all_groups (n ∷ counts) log = append_again (take n log) (joined (closed_groups counts (drop n log))) (open_group counts (drop n log))
    ∙ (ap (λ xs. take n log ++ xs) (all_groups counts (drop n log)) ∙ parts_again n log)
  where
    append_again : (xs ys zs : List Entry) → (xs ++ ys) ++ zs ≡ xs ++ (ys ++ zs)
    append_again [] ys zs = refl
    append_again (x ∷ xs) ys zs = ap (λ rest. x ∷ rest) (append_again xs ys zs)

    parts_again : (k : ℕ) (es : List Entry) → take k es ++ drop k es ≡ es
    parts_again zero es = refl
    parts_again (suc k) [] = refl
    parts_again (suc k) (x ∷ es) = ap (λ rest. x ∷ rest) (parts_again k es)

-- the opened group has what the closed ones leave
pub open_len : (counts : List ℕ) (log : List Entry) → sum counts ≤ length log → length (open_group counts log) + sum counts ≡ length log
open_len [] log within = omega arith
open_len (n ∷ counts) log within =
    let left = left_over n log in let rest = open_len counts (drop n log) (omega (arith, left, within)) in omega (arith, left, rest, within)

take_all : (log : List Entry) → take (length log) log ≡ log
take_all [] = refl
take_all (x ∷ log) = ap (λ xs. x ∷ xs) (take_all log)

drop_all : (log : List Entry) → drop (length log) log ≡ []
drop_all [] = refl
drop_all (x ∷ log) = drop_all log

-- the opened group is closed whole
pub close_groups : (counts : List ℕ) (log : List Entry) → closed_groups (counts ++ length (open_group counts log) ∷ []) log ≡ closed_groups counts log ++ open_group counts log ∷ []
close_groups [] log = ap (λ g. g ∷ []) (take_all log)
close_groups (n ∷ counts) log = ap (λ gs. take n log ∷ gs) (close_groups counts (drop n log))

pub close_open : (counts : List ℕ) (log : List Entry) → open_group (counts ++ length (open_group counts log) ∷ []) log ≡ []
close_open [] log = drop_all log
close_open (n ∷ counts) log = close_open counts (drop n log)

pub count_groups : (counts : List ℕ) (log : List Entry) → length (closed_groups counts log) ≡ length counts
count_groups [] log = refl
count_groups (n ∷ counts) log = ap suc (count_groups counts (drop n log))

-- each closed group has as many entries as it was counted
pub counted_groups : (counts : List ℕ) (log : List Entry) → sum counts ≤ length log → map length (closed_groups counts log) ≡ counts
counted_groups [] log within = refl
counted_groups (n ∷ counts) log within =
    ap (λ k. k ∷ map length (closed_groups counts (drop n log))) (length-take-le n log (omega (arith, within)))
    ∙ ap (λ ks. n ∷ ks) (counted_groups counts (drop n log) (let left = left_over n log in omega (arith, left, within)))

-- ---- sessions

-- one more entry of one of these sessions
pub of_push : (sessions : ℕ) (log : List Entry) (e : Entry) → AreOfSessions sessions log → 1 ≤ e.session → e.session ≤ sessions → AreOfSessions sessions (log ++ e ∷ [])
of_push sessions [] e all least most = (least, most, tt)
of_push sessions (x ∷ log) e all least most = (all.0, all.1, of_push sessions log e all.2 least most)
