-- Sections are read one after another, up to where none is spelled or one is a gap.
use Rattle.std.proofs.Common.{◌≡◌, ℕ, suc, Bool, true, false, ◌+◌, ◌-◌, ◌<◌, ◌≤◌, ◌^◌, List, [], ◌∷◌, ◌++◌, length, get_or, take, drop, Option, refl, sym, ◌∙◌, ap, subst, arith, append_assoc, length-append}
use Rattle.std.specs.Prelude.{◌&&◌, nat_lt}
use Rattle.std.specs.List.{list_all}
use Rattle.std.proofs.lemmas.Bool.Decides.{nat_tests}
use Rattle.std.proofs.lemmas.List.{take-append-drop, drop-drop, take_at, drop_at, length-take}
use Rattle.mm_section.specs.declared.section.Section.{Section}
use Rattle.mm_section.specs.Spells as spelling
use Rattle.mm_section.specs.Spells.{IsSpellable, AreParts, Spells, Begins, section_bytes, are_rising, sealed_len, parts_bytes}
use Rattle.mm_section.specs.Reading.{is_part}
use Rattle.mm_section.proofs.Limits.{part_only}
use Rattle.mm_section.proofs.Apart.{some_section}
use Rattle.mm_ranges.specs.declared.part.Part.{Part}
use Rattle.mm_crash.specs.Journal.{spelled, AllCan, HasNone}
use Rattle.mm_journal.specs.Real.{can_spell}
use Rattle.mm_journal.specs.Tracks.{last_of}
use Rattle.mm_journal.proofs.Real.{the_format, can_is}
use Rattle.mm_recover.specs.Reading.{IsCounted, IsGapless, MayFollow, IsGap, IsLast, HasMore, HasGap, AreSmall}

-- ---- the real spelling

pub section_is : (n : ℕ) (s : Section) → the_format.section n s ≡ section_bytes (n + 1) s
unfolding the_format
section_is n s = refl

pub can_as : (s : Section) → the_format.can s ≡ can_spell s
unfolding the_format
can_as s = refl

all_true : (a b : Bool) → a ≡ true → b ≡ true → (a && b) ≡ true
all_true true true p q = refl
all_true false b p q = absurd cc
all_true true false p q = absurd cc

parts_only : (ps : List Part) → AreParts ps → list_all is_part ps ≡ true
parts_only [] are = refl
parts_only (p ∷ ps) are = all_true (is_part p) (list_all is_part ps) (part_only p are.0) (parts_only ps are.1)

pub spelled_can : (s : Section) → IsSpellable s → the_format.can s ≡ true
spelled_can s is =
    let number : nat_lt s.number (2 ^ 64 - 1) ≡ true = let lt = is.number in grind (arith, nat_tests) in
    let short : nat_lt (sealed_len (parts_bytes s.parts)) (2 ^ 32) ≡ true = let lt = is.short in grind (arith, nat_tests) in
    can_as s ∙ all_true _ _ number (all_true _ _ (parts_only s.parts is.parts) (all_true _ _ is.rising short))

-- none is spelled at the front
pub none_spelled : (n : ℕ) (bytes : List ℕ) → spelling.HasNone (n + 1) bytes → HasNone the_format n bytes
none_spelled n bytes none s rest can is =
    let own = section_bytes (n + 1) s in
    let all : bytes ≡ own ++ rest = is ∙ ap (λ (l : List ℕ). l ++ rest) (section_is n s) in
    none s (length own) (record {
      inside = omega (arith, ap length all, length-append own rest);
      spells = record { spellable = can_is s (sym (can_as s) ∙ can); is = ap (take (length own)) all ∙ take_at own rest (length own) refl };
    })

-- ---- numbers

counted_next : (first : ℕ) (x : Section) (y : Section) (ys : List Section) → IsCounted first (y ∷ ys) → x.number ≡ last_of (y ∷ ys) + 1 → IsCounted first ((y ∷ ys) ++ x ∷ [])
counted_next first x y [] counted is = (counted.0, (omega (arith, is, counted.0), tt))
counted_next first x y (z ∷ ys) counted is = (counted.0, counted_next (first + 1) x z ys counted.1 is)

pub gapless_next : (lsn : Option ℕ) (now : List Section) (x : Section) → MayFollow lsn now x.number → IsGapless lsn now → IsGapless lsn (now ++ x ∷ [])
gapless_next lsn [] x may g = record { first = x.number; counted = (refl, tt); no_gap = λ n is some. may n is }
gapless_next lsn (y ∷ ys) x may g = record { first = g.first; counted = counted_next g.first x y ys g.counted may; no_gap = λ n is some. g.no_gap n is (λ e. absurd cc) }

pub gapless_none : (lsn : Option ℕ) → IsGapless lsn []
gapless_none lsn = record { first = 0; counted = tt; no_gap = λ n is some. absurd (some refl) }

pub small_next : (now : List Section) (x : Section) → AreSmall now → x.number < 2 ^ 64 - 1 → AreSmall (now ++ x ∷ [])
small_next [] x small lt = (lt, tt)
small_next (y ∷ ys) x small lt = (small.0, small_next ys x small.1 lt)

pub last_small : (y : Section) (ys : List Section) → AreSmall (y ∷ ys) → last_of (y ∷ ys) < 2 ^ 64 - 1
last_small y [] small = small.0
last_small y (z ∷ ys) small = last_small z ys small.1

pub last_is : (y : Section) (ys : List Section) (d : Section) → (get_or (y ∷ ys) (length ys) d).number ≡ last_of (y ∷ ys)
last_is y [] d = refl
last_is y (z ∷ ys) d = last_is z ys d

-- ---- one after another

spelled-append : (n : ℕ) (xs : List Section) (x : Section) → spelled the_format n (xs ++ x ∷ []) ≡ spelled the_format n xs ++ the_format.section n x
spelled-append n [] x = Rattle.std.proofs.lemmas.List.append-nil (the_format.section n x)
spelled-append n (y ∷ ys) x = ap (λ (l : List ℕ). the_format.section n y ++ l) (spelled-append n ys x) ∙ sym (append_assoc (the_format.section n y) (spelled the_format n ys) (the_format.section n x))

pub can_next : (xs : List Section) (x : Section) → AllCan the_format xs → the_format.can x ≡ true → AllCan the_format (xs ++ x ∷ [])
can_next [] x can is = (is, tt)
can_next (y ∷ ys) x can is = (can.0, can_next ys x can.1 is)

-- so many bytes are read, which are the new sections
pub record ReadTo (lsn : Option ℕ) (n : ℕ) (bytes : List ℕ) (old now : List Section) (at : ℕ) : Type 0 where
  pub new : List Section
  pub is : now ≡ old ++ new
  pub within : at ≤ length bytes
  pub read : bytes ≡ spelled the_format n new ++ drop at bytes
  pub can : AllCan the_format new
  pub gapless : IsGapless lsn old → IsGapless lsn now
  pub small : AreSmall now

pub read_none : (lsn : Option ℕ) (n : ℕ) (bytes : List ℕ) (old : List Section) → AreSmall old → ReadTo lsn n bytes old old 0
read_none lsn n bytes old small = record { new = []; is = sym (Rattle.std.proofs.lemmas.List.append-nil old); within = omega arith; read = refl; can = tt; gapless = λ g. g; small = small }

module _ (lsn : Option ℕ) (n : ℕ) (bytes : List ℕ) (old now : List Section) (at : ℕ) (r : ReadTo lsn n bytes old now at) where
  module _ (x : Section) (len : ℕ) (begins : Begins x (n + 1) len (drop at bytes)) where
    -- the section stands next
    stands : drop at bytes ≡ the_format.section n x ++ drop (at + len) bytes
    stands =
        let one : take len (drop at bytes) ≡ the_format.section n x = begins.spells.is ∙ sym (section_is n x) in
        let after : drop len (drop at bytes) ≡ drop (at + len) bytes = drop-drop len at bytes ∙ ap (λ m. drop m bytes) (omega arith) in
        sym (take-append-drop len (drop at bytes)) ∙ ap (λ (l : List ℕ). l ++ drop len (drop at bytes)) one ∙ ap (λ (l : List ℕ). the_format.section n x ++ l) after

    can_x : the_format.can x ≡ true
    can_x = spelled_can x begins.spells.spellable

    pub small_x : x.number < 2 ^ 64 - 1
    small_x = begins.spells.spellable.number

    within_x : at + len ≤ length bytes
    within_x = omega (arith, begins.inside, r.within, Rattle.std.proofs.lemmas.List.length-drop at bytes)

    pub read_next : (all : List Section) → all ≡ now ++ x ∷ [] → MayFollow lsn now x.number → ReadTo lsn n bytes old all (at + len)
    read_next all e may = record {
      new = r.new ++ x ∷ [];
      is = e ∙ ap (λ (l : List Section). l ++ x ∷ []) r.is ∙ append_assoc old r.new (x ∷ []);
      within = within_x;
      read = r.read ∙ ap (λ (l : List ℕ). spelled the_format n r.new ++ l) stands ∙ sym (append_assoc (spelled the_format n r.new) (the_format.section n x) (drop (at + len) bytes)) ∙ ap (λ (l : List ℕ). l ++ drop (at + len) bytes) (sym (spelled-append n r.new x));
      can = can_next r.new x r.can can_x;
      gapless = λ g. subst (IsGapless lsn) (sym e) (gapless_next lsn now x may (r.gapless g));
      small = subst AreSmall (sym e) (small_next now x r.small small_x);
    }

    -- each section takes some bytes
    pub read_smaller : length bytes - (at + len) < length bytes - at
    read_smaller = omega (arith, within_x, some_section (n + 1) x, ap length begins.spells.is, length-take len (drop at bytes))

    pub read_gap : (expected : ℕ) → IsGap lsn now expected x.number → HasGap lsn n bytes old expected x.number
    read_gap expected gap = record {
      front = r.new;
      next = x;
      rest = drop (at + len) bytes;
      is = r.read ∙ ap (λ (l : List ℕ). spelled the_format n r.new ++ l) stands;
      can = can_next r.new x r.can can_x;
      gapless = λ g. subst (IsGapless lsn) r.is (r.gapless g);
      number = refl;
      gap = subst (λ (l : List Section). IsGap lsn l expected x.number) r.is gap;
    }

  pub read_all : spelling.HasNone (n + 1) (drop at bytes) → HasMore lsn n bytes old now
  read_all none = record { new = r.new; is = r.is; has = record { rest = drop at bytes; is = r.read; can = r.can; ends = none_spelled n (drop at bytes) none }; gapless = r.gapless }

-- ---- the last number

pub last_at : (xs : List Section) (d : Section) → 0 < length xs → (get_or xs (length xs - 1) d).number ≡ last_of xs
last_at [] d lt = absurd (omega arith)
last_at (x ∷ []) d lt = refl
last_at (x ∷ y ∷ ys) d lt =
    let e : length (x ∷ y ∷ ys) - 1 ≡ suc (length (y ∷ ys) - 1) = omega arith in
    ap (λ k. (get_or (x ∷ y ∷ ys) k d).number) e ∙ last_at (y ∷ ys) d (omega arith)

small_at : (xs : List Section) → 0 < length xs → AreSmall xs → last_of xs < 2 ^ 64 - 1
small_at [] lt small = absurd (omega arith)
small_at (x ∷ xs) lt small = last_small x xs small

pub is_last : (xs : List Section) (d : Section) → 0 < length xs → AreSmall xs → IsLast xs (get_or xs (length xs - 1) d).number
is_last xs d lt small = record { some = lt; is = last_at xs d lt; small = omega (arith, last_at xs d lt, small_at xs lt small) }

pub follows : (lsn : Option ℕ) (xs : List Section) (n number : ℕ) → IsLast xs n → number ≡ n + 1 → MayFollow lsn xs number
follows lsn [] n number last e = absurd (omega (arith, last.some))
follows lsn (x ∷ xs) n number last e = omega (arith, e, last.is)

pub gap_after : (lsn : Option ℕ) (xs : List Section) (n number : ℕ) → IsLast xs n → (number ≡ n + 1 → ⊥) → IsGap lsn xs (n + 1) number
gap_after lsn [] n number last ne = absurd (omega (arith, last.some))
gap_after lsn (x ∷ xs) n number last ne = (omega (arith, last.is), ne)

-- ---- as the code has it

same_id : (id : ℕ) → 0 < id → id ≡ id - 1 + 1
same_id id some = omega (arith, some)

pub begins_at : (x : Section) (len id at : ℕ) (bytes tail : List ℕ) → 0 < id → tail ≡ drop at bytes → Begins x id len tail → Begins x (id - 1 + 1) len (drop at bytes)
begins_at x len id at bytes tail some is b = subst (λ n. Begins x n len (drop at bytes)) (same_id id some) (subst (Begins x id len) is b)

pub none_at : (id at : ℕ) (bytes tail : List ℕ) → 0 < id → tail ≡ drop at bytes → spelling.HasNone id tail → spelling.HasNone (id - 1 + 1) (drop at bytes)
none_at id at bytes tail some is none = subst (λ n. spelling.HasNone n (drop at bytes)) (same_id id some) (subst (spelling.HasNone id) is none)

pub last_none : (xs : List Section) → length xs ≡ 0 → 0 ≡ last_of xs
last_none [] e = refl
last_none (x ∷ xs) e = absurd (omega (arith, e))
