-- A section whose parts fit the images of their databases may come next.
use Rattle.std.proofs.Common.{◌≡◌, inl, inr, ℕ, ◌+◌, ◌^◌, ◌<◌, Bool, true, false, cond, List, [], ◌∷◌, ◌++◌, length, map, refl, sym, ◌∙◌, ap, subst, arith, append_assoc}
use mathlib.Core.Bool.{true≢false}
use Rattle.std.specs.Prelude.{◌==◌, if◌then◌else◌, codes}
use Rattle.std.specs.Fmt.{decimal}
use Rattle.std.specs.Ordering.{eq_by_cmp}
use Rattle.std.proofs.lemmas.Bool.{cases_Bool}
use Rattle.std.proofs.lemmas.Bool.Decides.{nat_tests}
use Rattle.std.proofs.lemmas.Fmt.{decimal_injective, decimal_digit}
use Rattle.std.proofs.lemmas.List.{append-nil}
use Rattle.mm_outside.specs.Image.{name_cmp}
use Rattle.mm_outside.proofs.Places.{same_name, different, apart}
use Rattle.mm_ranges.specs.Limits.{ns_file, is_file}
use Rattle.mm_ranges.specs.declared.part.Made.{Made}
use Rattle.mm_ranges.specs.declared.part.Piece.{Piece}
use Rattle.mm_ranges.specs.declared.part.Part.{Part}
use Rattle.mm_section.specs.declared.section.Section.{Section}
use Rattle.mm_section.specs.Spells.{is_db_name}
use Rattle.mm_section.proofs.Apart.{same_parts}
use Rattle.mm_crash.specs.Overlay.{Entry, size, Fits, IsMadeOnce}
use Rattle.mm_crash.specs.Journal.{entries_of, entries_of_parts}
use Rattle.mm_crash.specs.Recovered.{AreData}
use Rattle.mm_crash.specs.Story.{Story, with_section}
use Rattle.mm_crash.specs.Rest.{IsNext}
use Rattle.mm_crash.proofs.Runs.{entries_of-append}
use Rattle.mm_crash.proofs.Whole.{data_both}
use Rattle.mm_journal.specs.Real.{disk_name}
use Rattle.mm_journal.proofs.Real.{the_format, the_names}
use Rattle.mm_items.specs.Files.{TellsApart, Images, with_part, with_parts, PartsFit, AreLaid}
use Rattle.mm_items.specs.Given.{Given, sealed_parts, AreApart, Taken, AllFollow, with_items, images_of}
use Rattle.mm_items.proofs.Sections.{parts_laid}
use Rattle.mm_items.proofs.Given.{given_fit, given_images}
use Rattle.std.specs.FinMap.{get}
use Rattle.mm_durable.proofs.Own.{stem_is}
use Rattle.mm_durable.proofs.Flushes.{names_are}
use Rattle.mm_durable.proofs.Syncs.{is_data}

-- ---- files by name and number

number_small : (f : ℕ) → is_file f ≡ true → f < 2 ^ 64
number_small f is = grind (arith, nat_tests)

-- the number of no data file is written as the name file is
not_spelled : (f : ℕ) → f < 8 → decimal f ≡ codes "ns" → ⊥
not_spelled f lt e = omega (arith, ap length e, ap length (decimal_digit f (omega (arith, lt))))

-- what stands behind the name
abbrev behind : ℕ → Bool → List ℕ
behind f b = if b then codes ".ns" else codes "." ++ decimal f

named : (n : List ℕ) (f : ℕ) → disk_name n f ≡ n ++ behind f (f == ns_file)
named n f = by (f == ns_file)
  where
    by : (b : Bool) → cond b (n ++ codes ".ns") (n ++ codes "." ++ decimal f) ≡ n ++ behind f b
    by true = refl
    by false = append_assoc n (codes ".") (decimal f)

one_ending : (f g : ℕ) → is_file f ≡ true → is_file g ≡ true → (b c : Bool) → (f == ns_file) ≡ b → (g == ns_file) ≡ c → behind f b ≡ behind g c → f ≡ g
one_ending f g is of true true e h same = grind (arith, nat_tests)
one_ending f g is of true false e h same = absurd (not_spelled g (small g of h) (sym (same_parts (codes ".") (codes ".") (codes "ns") (decimal g) refl same).1))
  where
    small : (k : ℕ) → is_file k ≡ true → (k == ns_file) ≡ false → k < 8
    small k file isnt = grind (arith, nat_tests)
one_ending f g is of false true e h same = absurd (not_spelled f (small f is e) (same_parts (codes ".") (codes ".") (decimal f) (codes "ns") refl same).1)
  where
    small : (k : ℕ) → is_file k ≡ true → (k == ns_file) ≡ false → k < 8
    small k file isnt = grind (arith, nat_tests)
one_ending f g is of false false e h same = decimal_injective f g (number_small f is) (number_small g of) (same_parts (codes ".") (codes ".") (decimal f) (decimal g) refl same).1

one_number : (n : List ℕ) (f g : ℕ) → is_file f ≡ true → is_file g ≡ true → disk_name n f ≡ disk_name n g → f ≡ g
one_number n f g is of e = one_ending f g is of (f == ns_file) (g == ns_file) refl refl (same_parts n n (behind f (f == ns_file)) (behind g (g == ns_file)) refl (sym (named n f) ∙ e ∙ named n g)).1

-- the files of databases are told apart by their names
pub tells : TellsApart is_db_name disk_name
tells = record {
  same = λ n is f g file other. elim (cases_Bool (f == g)) [
    | inl e ↦ let here : f ≡ g = grind (arith, nat_tests) in ap (λ k. eq_by_cmp name_cmp (disk_name n f) (disk_name n k)) (sym here) ∙ same_name (disk_name n f) ∙ sym e
    | inr isnt ↦ different (disk_name n f) (disk_name n g) (λ e. true≢false (sym (tied f g (one_number n f g file other e)) ∙ isnt)) ∙ sym isnt
  ];
  apart = λ n m is own other f g. different (disk_name n f) (disk_name m g) (λ e. apart n m other (sym (stem_is n f is) ∙ ap Rattle.mm_durable.specs.Names.stem e ∙ stem_is m g own));
}
  where
    tied : (i j : ℕ) → i ≡ j → (i == j) ≡ true
    tied i j e = grind (arith, nat_tests)

-- ---- the next section

-- the databases that are meant, each of which has a database's name
module _ (is_db : List ℕ → Bool) (db : (n : List ℕ) → is_db n ≡ true → is_db_name n ≡ true) where
  told_apart : TellsApart is_db disk_name
  told_apart = record {
    same = λ n is. tells.same n (db n is);
    apart = λ n m is own. tells.apart n m (db n is) (db m own);
  }

  parts_data : (images : Images) (parts : List Part) → PartsFit is_db images parts → AreData the_names (entries_of_parts disk_name parts)
  parts_data images [] fit = tt
  parts_data images (p ∷ parts) fit = data_both the_names _ _ (data_both the_names _ _ (made p.made) (pieces p.pieces)) (parts_data (with_part p images) parts fit.1.1.1)
    where
      made : (ms : List Made) → AreData the_names (map (λ (m : Made). let e : Entry = record { file = disk_name p.name m.file; act = Rattle.mm_crash.specs.Overlay.Makes m.len } in e) ms)
      made [] = tt
      made (m ∷ ms) = (is_data p.name m.file (db p.name fit.0), made ms)

      pieces : (ps : List Piece) → AreData the_names (map (λ (x : Piece). let e : Entry = record { file = disk_name p.name x.file; act = Rattle.mm_crash.specs.Overlay.Puts x.at x.bytes } in e) ps)
      pieces [] = tt
      pieces (x ∷ ps) = (is_data p.name x.file (db p.name fit.0), pieces ps)

  module _ (story : Story) (x : Section) (images : Images) (laid : AreLaid is_db disk_name story.base (entries_of disk_name story.sections) images) (fit : PartsFit is_db images x.parts) where
    -- all sections, that one included
    entries_are : entries_of disk_name (story.sections ++ x ∷ []) ≡ entries_of disk_name story.sections ++ entries_of_parts disk_name x.parts
    entries_are = entries_of-append disk_name story.sections (x ∷ []) ∙ ap (λ (l : List Entry). entries_of disk_name story.sections ++ l) (append-nil (entries_of_parts disk_name x.parts))

    -- the files of the databases read their images with the section's parts
    pub sealed_laid : AreLaid is_db disk_name story.base (entries_of disk_name (with_section story x).sections) (with_parts x.parts images)
    sealed_laid = subst (λ (l : List Entry). AreLaid is_db disk_name story.base l (with_parts x.parts images)) (sym entries_are) (parts_laid is_db disk_name told_apart story.base x.parts (entries_of disk_name story.sections) images laid fit)

    pub comes_next : the_format.can x ≡ true → x.number ≡ story.last + length story.sections + 1 → IsNext the_format the_names story x
    comes_next can number = record {
      can = can;
      number = number;
      named = subst (λ (f : List ℕ → ℕ → List ℕ). AreData the_names (entries_of_parts f x.parts)) (sym names_are) (parts_data images x.parts fit);
      once = λ file is. subst (λ (f : List ℕ → ℕ → List ℕ). IsMadeOnce file (entries_of f (story.sections ++ x ∷ []))) (sym names_are) (sealed_laid.once file);
      inside = λ file is. subst (λ (f : List ℕ → ℕ → List ℕ). Fits file (size (story.base file)) (entries_of f (story.sections ++ x ∷ []))) (sym names_are) (sealed_laid.inside file);
    }

  -- ---- the section of what the databases gave for a group

  module _ (story : Story) (taken : Taken) (laid : AreLaid is_db disk_name story.base (entries_of disk_name story.sections) (images_of taken)) (given : List Given) (follow : AllFollow is_db taken given) (separate : AreApart given) (number : ℕ) where
    abbrev pub sealed_section : Section
    sealed_section = record { number = number; parts = sealed_parts given }

    -- it may come next
    pub given_next : the_format.can sealed_section ≡ true → number ≡ story.last + length story.sections + 1 → IsNext the_format the_names story sealed_section
    given_next can is = comes_next story sealed_section (images_of taken) laid (given_fit is_db taken given follow separate) can is

    -- and then the databases' files read what their items give, the new ones included
    pub given_laid : AreLaid is_db disk_name story.base (entries_of disk_name (with_section story sealed_section).sections) (images_of (with_items given taken))
    given_laid =
        let all = sealed_laid story sealed_section (images_of taken) laid (given_fit is_db taken given follow separate) in
        record {
          once = all.once;
          inside = all.inside;
          reads = λ n is f file. all.reads n is f file ∙ ap (λ i. get i f) (given_images given taken n separate);
        }
