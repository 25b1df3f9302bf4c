-- What the files of a journal may leave.
use Rattle.std.proofs.Common.{◌≡◌, ◌⊎◌, inl, inr, ℕ, ◌+◌, ◌<◌, ◌≤◌, Bool, true, List, [], ◌∷◌, ◌++◌, length, get_or, take, drop, Option, None, Some, refl, sym, ◌∙◌, ap, subst, arith, append_assoc}
use mathlib.Core.Bool.{true≢false}
use Rattle.std.proofs.lemmas.Grind.{common_steps, same_number_lists}
use Rattle.std.proofs.lemmas.Bool.{cases_lt}
use Rattle.std.proofs.lemmas.List.{get_or-take, length-take, length-append, length-drop, append-nil, drop_all, take-append-drop, take_all}
use Rattle.std.specs.Prelude.{Contains}
use Rattle.mm_bytes.specs.Files.{overwritten, resized}
use Rattle.mm_outside.specs.Told.{MayLeaveFile, nothing_pending}
use Rattle.mm_outside.specs.Place.{Place, clean}
use Rattle.mm_section.specs.declared.section.Section.{Section}
use Rattle.mm_crash.specs.Journal.{Format, spelled, AllCan, HasNone, HasSections, IsOurs, HasFile, Run, is_last, HasRuns, joined, HasJournal}
use Rattle.mm_crash.specs.Chance.{IsFair}
use Rattle.mm_crash.specs.Parts.{MayLeaveAll}
use Rattle.mm_crash.specs.Rest.{file_bytes, RestsFrom, all_of}

-- ---- files of which nothing is pending

pub clean_left : (bytes : List ℕ) (left : Option (List ℕ)) → MayLeaveFile (Some bytes) (nothing_pending (length bytes)) left → left ≡ Some bytes
clean_left bytes None l = absurd (true≢false (sym l))
clean_left bytes (Some left) l = ap (λ (b : List ℕ). Some b) (same_number_lists left bytes (omega (arith, l.no_shorter, l.no_longer)) (λ i lt. l.same i (omega (arith, l.no_longer)) refl))

pub absent_left : (left : Option (List ℕ)) → MayLeaveFile None (nothing_pending 0) left → left ≡ None
absent_left None l = refl
absent_left (Some left) l = absurd (true≢false (sym l.0))

pub left_of_clean : (content left : Option (List ℕ)) → MayLeaveFile (clean content).file (clean content).pending left → left ≡ content
left_of_clean None left l = absent_left left l
left_of_clean (Some bytes) left l = clean_left bytes left l

pub rests_left : (place : Place) (content left : Option (List ℕ)) → place ≡ clean content → MayLeaveFile place.file place.pending left → left ≡ content
rests_left place content left is l = left_of_clean content left (subst (λ (p : Place). MayLeaveFile p.file p.pending left) is l)

no_bytes : (l : List ℕ) → length l ≤ 0 → l ≡ []
no_bytes [] le = refl
no_bytes (x ∷ xs) le = absurd (omega arith)

-- the front stands in what is left of a write behind it
front_stays : (h left : List ℕ) → length h ≤ length left → ((i : ℕ) → i < length h → get_or left i 0 ≡ get_or h i 0) → take (length h) left ≡ h
front_stays h left le same = same_number_lists (take (length h) left) h (length-take (length h) left ∙ omega arith)
    (λ k lt. let inside : k < length h = omega (arith, length-take (length h) left) in get_or-take (length h) left k 0 inside ∙ same k inside)

pub both_written : (h b : List ℕ) → overwritten (length h) b h ≡ h ++ b
both_written h b =
    let same : resized (length h) h ≡ h = grind (arith, common_steps) in
    ap (λ (l : List ℕ). l ++ b ++ drop (length h + length b) h) same
    ∙ ap (λ (l : List ℕ). h ++ b ++ l) (drop_all (length h + length b) h (omega arith))
    ∙ append-nil (h ++ b)

pub first_one : (w : ℕ × List ℕ) → Contains (w ∷ []) w
first_one w = (0, omega arith, refl)

abbrev pub with_numbers : ℕ → List (List Section) → List Run
with_numbers n [] = []
with_numbers n (run ∷ runs) = (n, run) ∷ with_numbers (n + 1) runs

pub joined_numbers : (n : ℕ) (runs : List (List Section)) → joined (with_numbers n runs) ≡ all_of runs
joined_numbers n [] = refl
joined_numbers n (run ∷ runs) = ap (λ (l : List Section). run ++ l) (joined_numbers (n + 1) runs)

pub all_of-append : (a b : List (List Section)) → all_of (a ++ b) ≡ all_of a ++ all_of b
all_of-append [] b = refl
all_of-append (r ∷ a) b = ap (λ (l : List Section). r ++ l) (all_of-append a b) ∙ sym (append_assoc r (all_of a) (all_of b))

module _ (fmt : Format) where
  pub spelled-append : (n : ℕ) (xs : List Section) (x : Section) → spelled fmt n (xs ++ x ∷ []) ≡ spelled fmt n xs ++ fmt.section n x
  spelled-append n [] x = append-nil (fmt.section n x)
  spelled-append n (y ∷ xs) x = ap (λ (l : List ℕ). fmt.section n y ++ l) (spelled-append n xs x) ∙ sym (append_assoc (fmt.section n y) (spelled fmt n xs) (fmt.section n x))

  pub none_in_nothing : (n : ℕ) → HasNone fmt n []
  none_in_nothing n s rest can e = absurd (omega (arith, fmt.some n s, ap length e, length-append (fmt.section n s) rest))

  pub holds_spelled : (n : ℕ) (sections : List Section) → AllCan fmt sections → HasSections fmt n (spelled fmt n sections) sections
  holds_spelled n sections can = record { rest = []; is = sym (append-nil (spelled fmt n sections)); can = can; ends = none_in_nothing n }

  pub can_first : (a b : List Section) → AllCan fmt (a ++ b) → AllCan fmt a
  can_first [] b h = tt
  can_first (x ∷ a) b h = (h.0, can_first a b h.1)

  pub can_last : (a b : List Section) → AllCan fmt (a ++ b) → AllCan fmt b
  can_last [] b h = h
  can_last (x ∷ a) b h = can_last a b h.1

  -- a whole file
  pub whole_file : (n : ℕ) (last : Bool) (run : List Section) (left : Option (List ℕ)) → AllCan fmt run → left ≡ Some (file_bytes fmt n run) → HasFile fmt n last left run
  whole_file n last run left can is = subst (λ (o : Option (List ℕ)). HasFile fmt n last o run) (sym is) (inl (record { ours = record { rest = spelled fmt n run; is = refl }; has = holds_spelled n run can }))

  -- a file that is being begun has no section, with its header or without
  pub begun_file : (n : ℕ) (left : List ℕ) → length left ≤ length (fmt.header n) → IsOurs fmt n left ⊎ (fmt.is_broken n left ≡ true) → HasFile fmt n true (Some left) []
  begun_file n left le fair = elim fair [
    | inl ours ↦ inl (record { ours = ours; has = record { rest = []; is = no_bytes ours.rest (omega (arith, ap length ours.is, length-append (fmt.header n) ours.rest)); can = tt; ends = none_in_nothing n } })
    | inr broken ↦ inr (refl, (refl, broken))
  ]

  -- a section is being written behind the last file's bytes
  pub torn_file : (n : ℕ) (run : List Section) (x : Section) (left : List ℕ) → AllCan fmt (run ++ x ∷ []) → length (file_bytes fmt n run) ≤ length left → length left ≤ length (file_bytes fmt n run) + length (fmt.section n x)
      → ((i : ℕ) → i < length (file_bytes fmt n run) → get_or left i 0 ≡ get_or (file_bytes fmt n run) i 0) → IsFair fmt n left (length (file_bytes fmt n run), fmt.section n x)
      → HasFile fmt n true (Some left) run ⊎ HasFile fmt n true (Some left) (run ++ x ∷ [])
  torn_file n run x left can no_shorter no_longer same fair =
      let old = file_bytes fmt n run in
      let tail = drop (length old) left in
      let parts : left ≡ fmt.header n ++ (spelled fmt n run ++ tail) =
      sym (take-append-drop (length old) left) ∙ ap (λ (l : List ℕ). l ++ tail) (front_stays old left no_shorter same) ∙ append_assoc (fmt.header n) (spelled fmt n run) tail in
      elim (fair.section (omega (arith, length-append (fmt.header n) (spelled fmt n run)))) [
        | inl none ↦ inl (inl (record { ours = record { rest = spelled fmt n run ++ tail; is = parts }; has = record { rest = tail; is = refl; can = can_first run (x ∷ []) can; ends = none } }))
        | inr whole ↦
            let filled : tail ≡ fmt.section n x = sym (take_all (length (fmt.section n x)) tail (omega (arith, length-drop (length old) left))) ∙ whole in
            inr (inl (record {
              ours = record { rest = spelled fmt n run ++ tail; is = parts };
              has = subst (λ (l : List ℕ). HasSections fmt n l (run ++ x ∷ [])) (sym (ap (λ (l : List ℕ). spelled fmt n run ++ l) filled ∙ sym (spelled-append n run x))) (holds_spelled n (run ++ x ∷ []) can);
            }))
      ]

  -- ---- files one after another

  abbrev pub Begins : (ℕ → Option (List ℕ)) → ℕ → List (List Section) → Type 0
  Begins left n runs = HasRuns fmt left n (with_numbers n runs)

  -- files before the first are away
  pub earlier : (left : ℕ → Option (List ℕ)) (k n : ℕ) (runs : List Run) → k ≤ n → ((m : ℕ) → k ≤ m → m < n → left m ≡ None) → HasRuns fmt left n runs → HasRuns fmt left k runs
  earlier left k n [] le away h = λ m km. elim (cases_lt m n) [ inl lt ↦ away m km lt | inr nm ↦ h m nm ]
  earlier left k n (run ∷ runs) le away h = (omega (arith, h.0), (λ m km lt. elim (cases_lt m n) [ inl before ↦ away m km before | inr nm ↦ h.1.0 m nm lt ], h.1.1))

  -- the same files in another image
  pub has_same : (left now : ℕ → Option (List ℕ)) (n : ℕ) (runs : List Run) → ((m : ℕ) → now m ≡ left m) → HasRuns fmt left n runs → HasRuns fmt now n runs
  has_same left now n [] same h = λ m le. same m ∙ h m le
  has_same left now n (run ∷ runs) same h = (h.0, (λ m le lt. same m ∙ h.1.0 m le lt, (subst (λ (o : Option (List ℕ)). HasFile fmt run.0 (is_last runs) o run.1) (sym (same run.0)) h.1.1.0, has_same left now (run.0 + 1) runs same h.1.1.1)))

  pub journal_same : (left now : ℕ → Option (List ℕ)) (sections : List Section) → ((m : ℕ) → now m ≡ left m) → HasJournal fmt left sections → HasJournal fmt now sections
  journal_same left now sections same h = record { runs = h.runs; has = has_same left now 0 h.runs same h.has; all = h.all }

  no_gap : (left : ℕ → Option (List ℕ)) (n : ℕ) → (m : ℕ) → n ≤ m → m < n → left m ≡ None
  no_gap left n m le lt = absurd (omega arith)

  -- all at rest
  pub rests_has : (place : ℕ → Place) (left : ℕ → Option (List ℕ)) (n : ℕ) (runs : List (List Section)) → AllCan fmt (all_of runs) → RestsFrom fmt place n runs → MayLeaveAll place left → Begins left n runs
  rests_has place left n [] can rests l = λ m le. rests_left (place m) None (left m) (rests m le) (l m)
  rests_has place left n (run ∷ runs) can rests l = (
    omega arith,
    (no_gap left n, (whole_file n (is_last (with_numbers (n + 1) runs)) run (left n) (can_first run (all_of runs) can) (rests_left (place n) _ (left n) rests.0 (l n)), rests_has place left (n + 1) runs (can_last run (all_of runs) can) rests.1 l)),
  )

  -- the files rest, but for the last, which has this run
  pub last_has : (place : ℕ → Place) (left : ℕ → Option (List ℕ)) (n : ℕ) (runs : List (List Section)) (run now : List Section) → AllCan fmt (all_of runs) → RestsFrom fmt place n (runs ++ run ∷ []) → ((m : ℕ) → (m ≡ n + length runs → ⊥) → MayLeaveFile (place m).file (place m).pending (left m))
      → HasFile fmt (n + length runs) true (left (n + length runs)) now → Begins left n (runs ++ now ∷ [])
  last_has place left n [] run now can rests l here =
      let P : ℕ → Type 0 = λ m. HasFile fmt m true (left m) now in
      (omega arith, (no_gap left n, (subst P (omega arith) here, λ m le. rests_left (place m) None (left m) (rests.1 m le) (l m (λ e. absurd (omega arith))))))
  last_has place left n (r ∷ runs) run now can rests l here =
      let P : ℕ → Type 0 = λ m. HasFile fmt m true (left m) now in
      let apart : n ≡ n + length (r ∷ runs) → ⊥ = λ e. absurd (omega arith) in (
        omega arith,
        (
          no_gap left n,
          (
            whole_file n (is_last (with_numbers (n + 1) (runs ++ now ∷ []))) r (left n) (can_first r (all_of runs) can) (rests_left (place n) _ (left n) rests.0 (l n apart)),
            last_has place left (n + 1) runs run now (can_last r (all_of runs) can) rests.1 (λ m ne. l m (λ e. ne (omega arith))) (subst P (omega arith) here),
          ),
        ),
      )

  -- the files rest, and behind them stands what is there
  pub new_has : (place : ℕ → Place) (left : ℕ → Option (List ℕ)) (n : ℕ) (runs now : List (List Section)) → AllCan fmt (all_of runs) → RestsFrom fmt place n runs → ((m : ℕ) → (m ≡ n + length runs → ⊥) → MayLeaveFile (place m).file (place m).pending (left m))
      → Begins left (n + length runs) now → Begins left n (runs ++ now)
  new_has place left n [] now can rests l here = let P : ℕ → Type 0 = λ m. Begins left m now in subst P (omega arith) here
  new_has place left n (r ∷ runs) now can rests l here =
      let P : ℕ → Type 0 = λ m. Begins left m now in
      let apart : n ≡ n + length (r ∷ runs) → ⊥ = λ e. absurd (omega arith) in (
        omega arith,
        (
          no_gap left n,
          (
            whole_file n (is_last (with_numbers (n + 1) (runs ++ now))) r (left n) (can_first r (all_of runs) can) (rests_left (place n) _ (left n) rests.0 (l n apart)),
            new_has place left (n + 1) runs now (can_last r (all_of runs) can) rests.1 (λ m ne. l m (λ e. ne (omega arith))) (subst P (omega arith) here),
          ),
        ),
      )

  -- what rests behind the files
  pub rests_behind : (place : ℕ → Place) (n : ℕ) (runs : List (List Section)) → RestsFrom fmt place n runs → (m : ℕ) → n + length runs ≤ m → place m ≡ clean None
  rests_behind place n [] rests m le = rests m (omega arith)
  rests_behind place n (r ∷ runs) rests m le = rests_behind place (n + 1) runs rests.1 m (omega arith)

  pub rests_last : (place : ℕ → Place) (n : ℕ) (runs : List (List Section)) (run : List Section) → RestsFrom fmt place n (runs ++ run ∷ []) → place (n + length runs) ≡ clean (Some (file_bytes fmt (n + length runs) run))
  rests_last place n [] run rests = let P : ℕ → Type 0 = λ m. place m ≡ clean (Some (file_bytes fmt m run)) in subst P (omega arith) rests.0
  rests_last place n (r ∷ runs) run rests = let P : ℕ → Type 0 = λ m. place m ≡ clean (Some (file_bytes fmt m run)) in subst P (omega arith) (rests_last place (n + 1) runs run rests.1)

  -- one place has changed: the last file has this run
  pub rests_with : (place now : ℕ → Place) (n : ℕ) (runs : List (List Section)) (run : List Section) → RestsFrom fmt place n runs → ((m : ℕ) → (m ≡ n + length runs → ⊥) → now m ≡ place m) → now (n + length runs) ≡ clean (Some (file_bytes fmt (n + length runs) run))
      → RestsFrom fmt now n (runs ++ run ∷ [])
  rests_with place now n [] run rests there here =
      let P : ℕ → Type 0 = λ m. now m ≡ clean (Some (file_bytes fmt m run)) in
      (subst P (omega arith) here, λ m le. there m (λ e. absurd (omega arith)) ∙ rests m (omega arith))
  rests_with place now n (r ∷ runs) run rests there here =
      let P : ℕ → Type 0 = λ m. now m ≡ clean (Some (file_bytes fmt m run)) in
      (there n (λ e. absurd (omega arith)) ∙ rests.0, rests_with place now (n + 1) runs run rests.1 (λ m ne. there m (λ e. ne (omega arith))) (subst P (omega arith) here))

  -- the same where the last file was there with another run
  pub rests_instead : (place now : ℕ → Place) (n : ℕ) (runs : List (List Section)) (old run : List Section) → RestsFrom fmt place n (runs ++ old ∷ []) → ((m : ℕ) → (m ≡ n + length runs → ⊥) → now m ≡ place m) → now (n + length runs) ≡ clean (Some (file_bytes fmt (n + length runs) run))
      → RestsFrom fmt now n (runs ++ run ∷ [])
  rests_instead place now n [] old run rests there here =
      let P : ℕ → Type 0 = λ m. now m ≡ clean (Some (file_bytes fmt m run)) in
      (subst P (omega arith) here, λ m le. there m (λ e. absurd (omega arith)) ∙ rests.1 m le)
  rests_instead place now n (r ∷ runs) old run rests there here =
      let P : ℕ → Type 0 = λ m. now m ≡ clean (Some (file_bytes fmt m run)) in
      (there n (λ e. absurd (omega arith)) ∙ rests.0, rests_instead place now (n + 1) runs old run rests.1 (λ m ne. there m (λ e. ne (omega arith))) (subst P (omega arith) here))

  -- no place from n on has changed
  pub rests_same : (place now : ℕ → Place) (n : ℕ) (runs : List (List Section)) → RestsFrom fmt place n runs → ((m : ℕ) → n ≤ m → now m ≡ place m) → RestsFrom fmt now n runs
  rests_same place now n [] rests there = λ m le. there m le ∙ rests m le
  rests_same place now n (r ∷ runs) rests there = (there n (omega arith) ∙ rests.0, rests_same place now (n + 1) runs rests.1 (λ m le. there m (omega arith)))
