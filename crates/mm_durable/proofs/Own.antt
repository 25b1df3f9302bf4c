-- A database's part of what sections lay is what its own parts lay.
use Rattle.std.proofs.Common.{◌≡◌, inl, inr, ℕ, zero, suc, ◌+◌, ◌<◌, Bool, true, false, cond, List, [], ◌∷◌, ◌++◌, length, get_or, map, refl, sym, ◌∙◌, ap, subst, arith, append_assoc}
use mathlib.Core.Bool.{true≢false}
use Rattle.std.specs.Prelude.{◌==◌, ◌&&◌, ◌||◌, nat_lt, nat_le, codes}
use Rattle.std.specs.Fmt.{decimal}
use Rattle.std.specs.List.{list_all}
use Rattle.std.specs.Ordering.{eq_by_cmp}
use Rattle.std.proofs.lemmas.Bool.{cases_Bool}
use Rattle.std.proofs.lemmas.Bool.Decides.{nat_tests}
use Rattle.std.proofs.lemmas.List.Elements.{filter-append}
use Rattle.mm_outside.specs.Image.{name_cmp}
use Rattle.mm_outside.proofs.Places.{one_name, same_name, different, apart}
use Rattle.mm_ranges.specs.Limits.{ns_file}
use Rattle.mm_ranges.specs.declared.part.Made.{Made}
use Rattle.mm_ranges.specs.declared.part.Piece.{Piece}
use Rattle.mm_ranges.specs.declared.part.Part.{Part}
use Rattle.mm_section.specs.declared.section.Section.{Section}
use Rattle.mm_section.specs.Spells.{is_letter, is_db_name}
use Rattle.mm_section.proofs.Limits.{both}
use Rattle.mm_crash.specs.Overlay.{Entry}
use Rattle.mm_crash.specs.Journal.{entries_of}
use Rattle.mm_crash.specs.Story.{own_entries}
use Rattle.mm_crash.proofs.Overlay.{neither}
use Rattle.mm_journal.specs.Real.{disk_name}
use Rattle.mm_recover.specs.Laying.{part_entries, parts_entries, made_entry, piece_entry}
use Rattle.mm_durable.specs.Names.{stem, index_of, db_of, has_name, AreDatabases, ArePartsOf, AreSectionsOf}
use Rattle.mm_durable.specs.Own.{own_of, own_of_parts, own_of_sections}

-- ---- the stem of a database's file is the database's name

letter_no_stop : (b : ℕ) → is_letter b ≡ true → (b == 0x2e) ≡ false
letter_no_stop b is = grind (arith, nat_tests)

stem_front : (name rest : List ℕ) → list_all is_letter name ≡ true → stem (name ++ 0x2e ∷ rest) ≡ name
stem_front [] rest all = refl
stem_front (b ∷ name) rest all =
    let parts = both (is_letter b) (list_all is_letter name) all in
    ap (λ (x : Bool). cond x [] (b ∷ stem (name ++ 0x2e ∷ rest))) (letter_no_stop b parts.0) ∙ ap (λ (l : List ℕ). b ∷ l) (stem_front name rest parts.1)

pub letters : (name : List ℕ) → is_db_name name ≡ true → list_all is_letter name ≡ true
letters name is = (both (nat_le (length name) 16) (list_all is_letter name) (both (nat_lt 0 (length name)) (nat_le (length name) 16 && list_all is_letter name) is).1).1

pub stem_is : (name : List ℕ) (file : ℕ) → is_db_name name ≡ true → stem (disk_name name file) ≡ name
stem_is name file is = by (file == ns_file)
  where
    by : (b : Bool) → stem (cond b (name ++ codes ".ns") (name ++ codes "." ++ decimal file)) ≡ name
    by true = stem_front name (codes "ns") (letters name is)
    by false = ap stem (append_assoc name (codes ".") (decimal file)) ∙ stem_front name (decimal file) (letters name is)

-- ---- its number

not_among : (names : List (List ℕ)) (x : List ℕ) (d : ℕ) → has_name names x ≡ false → d < length names → get_or names d [] ≡ x → ⊥
not_among [] x d none lt e = absurd (omega arith)
not_among (n ∷ names) x zero none lt e = apart n x (neither (eq_by_cmp name_cmp n x) (has_name names x) none).0 e
not_among (n ∷ names) x (suc d) none lt e = not_among names x d (neither (eq_by_cmp name_cmp n x) (has_name names x) none).1 (omega (arith, lt)) e

pub index_is : (names : List (List ℕ)) → AreDatabases names → (d : ℕ) → d < length names → (n : List ℕ) → (index_of names n == d) ≡ eq_by_cmp name_cmp n (get_or names d [])
index_is [] are d lt n = absurd (omega arith)
index_is (x ∷ xs) are zero lt n = by (eq_by_cmp name_cmp x n) refl
  where
    by : (b : Bool) → eq_by_cmp name_cmp x n ≡ b → (cond b 0 (1 + index_of xs n) == 0) ≡ eq_by_cmp name_cmp n x
    by true e = sym (ap (λ (y : List ℕ). eq_by_cmp name_cmp n y) (one_name x n e) ∙ same_name n)
    by false e = let no : (1 + index_of xs n == 0) ≡ false = grind (arith, nat_tests) in no ∙ sym (different n x (λ is. apart x n e (sym is)))
index_is (x ∷ xs) are (suc d) lt n = by (index_is xs are.1.1 d (omega (arith, lt)) n) (eq_by_cmp name_cmp x n) refl
  where
    by : (index_of xs n == d) ≡ eq_by_cmp name_cmp n (get_or xs d []) → (b : Bool) → eq_by_cmp name_cmp x n ≡ b → (cond b 0 (1 + index_of xs n) == suc d) ≡ eq_by_cmp name_cmp n (get_or xs d [])
    by rest true e =
        let no : (0 == suc d) ≡ false = grind (arith, nat_tests) in
        no ∙ sym (different n (get_or xs d []) (λ is. not_among xs x d are.1.0 (omega (arith, lt)) (sym is ∙ sym (one_name x n e))))
    by rest false e = next (index_of xs n) d ∙ rest
      where
        next : (i j : ℕ) → (1 + i == suc j) ≡ (i == j)
        next i j = grind (arith, nat_tests)

-- ---- entries of one database

-- each is of this database
abbrev AreOf : (List ℕ → ℕ) → ℕ → List Entry → Type 0
AreOf db i [] = Unit {0}
AreOf db i (e ∷ entries) = (db e.file ≡ i) × AreOf db i entries

are_both : (db : List ℕ → ℕ) (i : ℕ) (a b : List Entry) → AreOf db i a → AreOf db i b → AreOf db i (a ++ b)
are_both db i [] b x y = y
are_both db i (e ∷ a) b x y = (x.0, are_both db i a b x.1 y)

all_or_none : (db : List ℕ → ℕ) (i d : ℕ) (b : Bool) → (i == d) ≡ b → (entries : List Entry) → AreOf db i entries → own_entries db d entries ≡ cond b entries []
all_or_none db i d true e [] are = refl
all_or_none db i d false e [] are = refl
all_or_none db i d true e (x ∷ entries) are = ap (λ (b : Bool). cond b (x ∷ own_entries db d entries) (own_entries db d entries)) (ap (λ n. n == d) are.0 ∙ e) ∙ ap (λ (l : List Entry). x ∷ l) (all_or_none db i d true e entries are.1)
all_or_none db i d false e (x ∷ entries) are = ap (λ (b : Bool). cond b (x ∷ own_entries db d entries) (own_entries db d entries)) (ap (λ n. n == d) are.0 ∙ e) ∙ all_or_none db i d false e entries are.1

module _ (names : List (List ℕ)) (are : AreDatabases names) where
  pub named : (ns : List (List ℕ)) → AreDatabases ns → (n : List ℕ) → has_name ns n ≡ true → is_db_name n ≡ true
  named [] of n none = absurd (true≢false (sym none))
  named (x ∷ xs) of n some = elim (cases_Bool (eq_by_cmp name_cmp x n)) [
    | inl same ↦ subst (λ (y : List ℕ). is_db_name y ≡ true) (one_name x n same) of.0
    | inr isnt ↦ named xs of.1.1 n (sym (ap (λ (b : Bool). b || has_name xs n) isnt) ∙ some)
  ]

  file_of : (n : List ℕ) (file : ℕ) → has_name names n ≡ true → db_of names (disk_name n file) ≡ index_of names n
  file_of n file some = ap (index_of names) (stem_is n file (named names are n some))

  part_of : (p : Part) → has_name names p.name ≡ true → AreOf (db_of names) (index_of names p.name) (part_entries p)
  part_of p some = are_both (db_of names) (index_of names p.name) _ _ (made p.made) (pieces p.pieces)
    where
      made : (ms : List Made) → AreOf (db_of names) (index_of names p.name) (map (λ (m : Made). made_entry p.name m) ms)
      made [] = tt
      made (m ∷ ms) = (file_of p.name m.file some, made ms)

      pieces : (ps : List Piece) → AreOf (db_of names) (index_of names p.name) (map (λ (x : Piece). piece_entry p.name x) ps)
      pieces [] = tt
      pieces (x ∷ ps) = (file_of p.name x.file some, pieces ps)

  module _ (d : ℕ) (lt : d < length names) where
    own_part : (p : Part) → has_name names p.name ≡ true → own_entries (db_of names) d (part_entries p) ≡ own_of (get_or names d []) p
    own_part p some = all_or_none (db_of names) (index_of names p.name) d (eq_by_cmp name_cmp p.name (get_or names d [])) (index_is names are d lt p.name) (part_entries p) (part_of p some)

    own_parts : (ps : List Part) → ArePartsOf names ps → own_entries (db_of names) d (parts_entries ps) ≡ own_of_parts (get_or names d []) ps
    own_parts [] of = refl
    own_parts (p ∷ ps) of = filter-append (λ (e : Entry). db_of names e.file == d) (part_entries p) (parts_entries ps) ∙ ap (λ (l : List Entry). l ++ own_entries (db_of names) d (parts_entries ps)) (own_part p of.0) ∙ ap (λ (l : List Entry). own_of (get_or names d []) p ++ l) (own_parts ps of.1)

    pub own_sections : (ss : List Section) → AreSectionsOf names ss → own_entries (db_of names) d (entries_of disk_name ss) ≡ own_of_sections (get_or names d []) ss
    own_sections [] of = refl
    own_sections (s ∷ ss) of = filter-append (λ (e : Entry). db_of names e.file == d) (parts_entries s.parts) (entries_of disk_name ss) ∙ ap (λ (l : List Entry). l ++ own_entries (db_of names) d (entries_of disk_name ss)) (own_parts s.parts of.0) ∙ ap (λ (l : List Entry). own_of_parts (get_or names d []) s.parts ++ l) (own_sections ss of.1)

  index_there : (ns : List (List ℕ)) (n : List ℕ) → has_name ns n ≡ true → index_of ns n < length ns
  index_there [] n some = absurd (true≢false (sym some))
  index_there (x ∷ xs) n some = by (index_there xs n) (eq_by_cmp name_cmp x n) some
    where
      by : (has_name xs n ≡ true → index_of xs n < length xs) → (b : Bool) → (b || has_name xs n) ≡ true → cond b 0 (1 + index_of xs n) < length (x ∷ xs)
      by next true is = omega arith
      by next false is = omega (arith, next is)

  none_part : (p : Part) → has_name names p.name ≡ true → own_entries (db_of names) (length names) (part_entries p) ≡ []
  none_part p some =
      let lt : index_of names p.name < length names = index_there names p.name some in
      let other : (index_of names p.name == length names) ≡ false = grind (arith, nat_tests) in
      all_or_none (db_of names) (index_of names p.name) (length names) false other (part_entries p) (part_of p some)

  none_parts : (ps : List Part) → ArePartsOf names ps → own_entries (db_of names) (length names) (parts_entries ps) ≡ []
  none_parts [] of = refl
  none_parts (p ∷ ps) of = filter-append (λ (e : Entry). db_of names e.file == length names) (part_entries p) (parts_entries ps) ∙ ap (λ (l : List Entry). l ++ own_entries (db_of names) (length names) (parts_entries ps)) (none_part p of.0) ∙ none_parts ps of.1

  -- no section lays anything over files of no database
  pub own_none : (ss : List Section) → AreSectionsOf names ss → own_entries (db_of names) (length names) (entries_of disk_name ss) ≡ []
  own_none [] of = refl
  own_none (s ∷ ss) of = filter-append (λ (e : Entry). db_of names e.file == length names) (parts_entries s.parts) (entries_of disk_name ss) ∙ ap (λ (l : List Entry). l ++ own_entries (db_of names) (length names) (entries_of disk_name ss)) (none_parts s.parts of.0) ∙ own_none ss of.1
