-- The section of what the databases gave comes next, and the files then read what their items give, the new ones included.
use Rattle.std.proofs.Common.{◌≡◌, inl, inr, ℕ, ◌+◌, ◌<◌, ◌≤◌, Bool, true, false, ◌||◌, List, [], ◌∷◌, ◌++◌, length, take, Option, Some, None, refl, sym, ◌∙◌, ap, subst, arith}
use mathlib.Core.Bool.{true≢false}
use Rattle.std.specs.Prelude.{nat_le}
use Rattle.std.specs.FinMap.{get}
use Rattle.std.specs.Ordering.{eq_by_cmp}
use Rattle.std.proofs.lemmas.Bool.{and_parts, cases_Bool}
use Rattle.std.proofs.lemmas.Bool.Decides.{nat_tests}
use Rattle.std.proofs.lemmas.List.{length-append, take-append-le}
use Rattle.mm_outside.specs.Image.{name_cmp}
use Rattle.mm_outside.proofs.Places.{one_name}
use Rattle.mm_ranges.specs.declared.part.Closed.{Closed}
use Rattle.mm_section.specs.Spells.{is_db_name}
use Rattle.mm_section.specs.declared.section.Section.{Section}
use Rattle.mm_tie.specs.Items.{image_of}
use Rattle.mm_crash.specs.Journal.{entries_of}
use Rattle.mm_crash.specs.Story.{Story, with_section}
use Rattle.mm_crash.specs.Rest.{IsNext}
use Rattle.mm_journal.specs.Real.{disk_name}
use Rattle.mm_journal.proofs.Real.{the_format, the_names}
use Rattle.mm_items.specs.Files.{AreLaid}
use Rattle.mm_items.specs.Given.{sealed_parts, Taken, with_items, images_of}
use Rattle.mm_durable.specs.Names.{has_name}
use Rattle.mm_durable.specs.Intake.{is_ours, first_items, AreRising, HasGiven, AreSeated, IsGiven, AllGave, given_of}
use Rattle.mm_durable.specs.Durable.{HasImages}
use Rattle.mm_durable.specs.declared.intake.Seat.{Seat}
use Rattle.mm_durable.proofs.Nexts.{given_next, given_laid}
use Rattle.mm_durable.proofs.Sealing.{AllOurs, take_whole, separate, follow, all_items}

pub ours_db : (names : List (List ℕ)) (n : List ℕ) → is_ours names n ≡ true → is_db_name n ≡ true
ours_db names n is = (and_parts (is_db_name n) (has_name names n) is).0

pub ours_named : (names : List (List ℕ)) (n : List ℕ) → is_ours names n ≡ true → has_name names n ≡ true
ours_named names n is = (and_parts (is_db_name n) (has_name names n) is).1

take_all : (xs : List Section) → take (length xs) xs ≡ xs
take_all [] = refl
take_all (x ∷ xs) = ap (λ (l : List Section). x ∷ l) (take_all xs)

-- each database has one item more than sections are sealed with this one
long : (sealed : ℕ) (items : Taken) (sorted : List (List ℕ)) (seats : List Seat) → length seats ≡ length sorted → AreSeated sealed items sorted seats → AllGave seats → (n : List ℕ) → has_name sorted n ≡ true → length (items n) ≡ sealed + 2
long sealed items [] seats full is gave n has = absurd (true≢false (sym has))
long sealed items (m ∷ sorted) [] full is gave n has = absurd (omega (arith, full))
long sealed items (m ∷ sorted) (s ∷ seats) full is gave n has = by (λ h. long sealed items sorted seats (omega (arith, full)) is.1.1 gave.1 n h) (eq_by_cmp name_cmp m n) refl
  where
    own : (o : Option Closed) → IsGiven o → HasGiven sealed (items m) o → length (items m) ≡ sealed + 2
    own None some gave = absurd some
    own (Some x) some gave = omega (arith, ap length gave.1.0, length-append gave.0 (x ∷ []), gave.1.1.0)

    by : (has_name sorted n ≡ true → length (items n) ≡ sealed + 2) → (c : Bool) → eq_by_cmp name_cmp m n ≡ c → length (items n) ≡ sealed + 2
    by rest true e = ap (λ (k : List ℕ). length (items k)) (sym (one_name m n e)) ∙ own s.item gave.0 is.1.0
    by rest false e = rest (sym (ap (λ (b : Bool). b || has_name sorted n) e) ∙ has)

module _ (story : Story) (names : List (List ℕ)) (items : Taken) (has : HasImages names items story) (sealed : ℕ) (count : sealed ≡ length story.sections)
    (sorted : List (List ℕ)) (seats : List Seat) (full : length seats ≡ length sorted) (is : AreSeated sealed items sorted seats) (rising : AreRising sorted) (ours : AllOurs names sorted) (gave : AllGave seats)
    (same : (n : List ℕ) → has_name sorted n ≡ has_name names n) (number : ℕ) where
  abbrev before : Taken
  before = first_items (sealed + 1) items

  abbrev x : Section
  x = record { number = number; parts = sealed_parts (given_of seats) }

  laid_before : AreLaid (is_ours names) disk_name story.base (entries_of disk_name story.sections) (images_of before)
  laid_before =
      let here : AreLaid (is_ours names) disk_name story.base (entries_of disk_name (take (length story.sections) story.sections)) (images_of (first_items (length story.sections + 1) items)) = has.laid (length story.sections) (omega arith) in
      subst (λ (l : List Section). AreLaid (is_ours names) disk_name story.base (entries_of disk_name l) (images_of before)) (take_all story.sections)
      (subst (λ (n : ℕ). AreLaid (is_ours names) disk_name story.base (entries_of disk_name (take (length story.sections) story.sections)) (images_of (first_items (n + 1) items))) (sym count) here)

  pub seal_next : the_format.can x ≡ true → number ≡ story.last + length story.sections + 1 → IsNext the_format the_names story x
  seal_next can e = given_next (is_ours names) (ours_db names) story before laid_before (given_of seats) (follow sealed items names sorted seats is ours) (separate sealed items sorted seats is rising) number can e

  named : (n : List ℕ) → is_ours names n ≡ true → has_name sorted n ≡ true
  named n own = same n ∙ ours_named names n own

  -- what a database has with the new item is all that its feed took
  whole : (n : List ℕ) → is_ours names n ≡ true → with_items (given_of seats) before n ≡ take (sealed + 2) (items n)
  whole n own =
      all_items sealed items sorted seats full is gave n (named n own)
      ∙ sym (ap (λ (k : ℕ). take k (items n)) (sym (long sealed items sorted seats full is gave n (named n own))) ∙ take_whole (items n))

  laid_after : AreLaid (is_ours names) disk_name story.base (entries_of disk_name (story.sections ++ x ∷ [])) (images_of (first_items (sealed + 2) items))
  laid_after =
      let all = given_laid (is_ours names) (ours_db names) story before laid_before (given_of seats) (follow sealed items names sorted seats is ours) (separate sealed items sorted seats is rising) number in
      record {
        once = all.once;
        inside = all.inside;
        reads = λ n own f file. all.reads n own f file ∙ ap (λ (l : List Closed). get (image_of l) f) (whole n own);
      }

  pub seal_images : HasImages names items (with_section story x)
  seal_images = record {
    laid = λ k le. elim (cases_Bool (nat_le k (length story.sections))) [
      | inl below ↦
          (let small : k ≤ length story.sections = grind (arith, nat_tests) in
          subst (λ (l : List Section). AreLaid (is_ours names) disk_name story.base (entries_of disk_name l) (images_of (first_items (k + 1) items))) (sym (take-append-le k story.sections (x ∷ []) small)) (has.laid k small))
      | inr past ↦
          (let more : length (story.sections ++ x ∷ []) ≡ length story.sections + 1 = length-append story.sections (x ∷ []) in
          let great : length story.sections < k = grind (arith, nat_tests) in
          let all : k ≡ length (story.sections ++ x ∷ []) = omega (arith, le, more, great) in
          let one : sealed + 2 ≡ k + 1 = omega (arith, all, more, count) in
          let sections : story.sections ++ x ∷ [] ≡ take k (story.sections ++ x ∷ []) = sym (ap (λ (j : ℕ). take j (story.sections ++ x ∷ [])) all ∙ take_all (story.sections ++ x ∷ [])) in
          subst (λ (l : List Section). AreLaid (is_ours names) disk_name story.base (entries_of disk_name l) (images_of (first_items (k + 1) items))) sections
          (subst (λ (j : ℕ). AreLaid (is_ours names) disk_name story.base (entries_of disk_name (story.sections ++ x ∷ [])) (images_of (first_items j items))) one laid_after))
    ];
  }
