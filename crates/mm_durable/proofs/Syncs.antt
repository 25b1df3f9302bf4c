-- All files of the databases are synced.
use Rattle.std.proofs.Common.{◌≡◌, ◌≢◌, inl, inr, ℕ, zero, suc, ◌+◌, ◌-◌, ◌^◌, ◌<◌, ◌≤◌, Bool, true, false, cond, List, [], ◌∷◌, ◌++◌, length, take, drop, get_or, map, replicate, Option, refl, sym, ◌∙◌, ap, subst, arith}
use mathlib.Core.Bool.{true≢false}
use Rattle.std.specs.Prelude.{◌==◌, ◌&&◌, ◌||◌, if◌then◌else◌, nat_lt, codes}
use Rattle.std.specs.List.{list_all}
use Rattle.std.specs.Ordering.{eq_by_cmp}
use Rattle.std.proofs.lemmas.Bool.{cases_Bool, cases_lt}
use Rattle.std.proofs.lemmas.Bool.Decides.{nat_tests}
use Rattle.std.proofs.lemmas.List.{drop-drop, drop-take}
use Rattle.mm_outside.specs.Image.{name_cmp}
use Rattle.mm_outside.specs.Told.{Told}
use Rattle.mm_outside.specs.Place.{Place}
use Rattle.mm_outside.specs.Ask.{asked, Makes}
use Rattle.mm_outside.proofs.Places.{one_name}
use Rattle.mm_ranges.specs.Overlay.{ranges_of}
use Rattle.mm_ranges.specs.Limits.{ns_file, is_file, is_allowed, may_be_made}
use Rattle.mm_ranges.specs.declared.part.Made.{Made}
use Rattle.mm_ranges.specs.declared.part.Piece.{Piece}
use Rattle.mm_ranges.specs.declared.part.Part.{Part}
use Rattle.mm_section.specs.declared.section.Section.{Section}
use Rattle.mm_section.specs.Spells.{is_letter, is_db_name, AreParts}
use Rattle.mm_section.proofs.Limits.{both}
use Rattle.mm_crash.specs.Overlay.{Entry, is_own, covers, is_covered}
use Rattle.mm_crash.specs.Asks.{sync_asks}
use Rattle.mm_crash.specs.Journal.{AllCan, entries_of, entries_of_parts}
use Rattle.mm_crash.specs.Recovered.{IsData}
use Rattle.mm_crash.specs.Story.{Story, run, laid, state, own_entries}
use Rattle.mm_crash.specs.Rest.{Counts, IsAtRest}
use Rattle.mm_crash.proofs.Overlay.{neither, none_of}
use Rattle.mm_crash.proofs.Parts.{Respects}
use Rattle.mm_crash.proofs.JournalSteps.{respects}
use Rattle.mm_crash.proofs.FileRuns.{AreDataNames, is_among}
use Rattle.mm_crash.proofs.Flush.{flush_rest, flushed_now, sync_safe, sync_rest}
use Rattle.mm_jfiles.specs.Names.{journal_name, lsn_name}
use Rattle.mm_journal.specs.Real.{disk_name, file_name}
use Rattle.mm_journal.proofs.Real.{the_format, the_names}
use Rattle.mm_recover.specs.Laying.{part_entries, made_entry, piece_entry}
use Rattle.mm_prefix.specs.Prefix.{Numbers}
use Rattle.mm_jfiles.specs.Files as files
use Rattle.mm_journal.specs.Tracks.{Tracks}
use Rattle.mm_outside.specs.Place.{place_of}
use Rattle.mm_outside.proofs.Cuts.{Safe}
use Rattle.mm_crash.specs.Asks.{lay_asks}
use Rattle.mm_crash.specs.Within.{IsWithin}
use Rattle.mm_crash.specs.Parts.{JournalPart, LsnPart}
use Rattle.mm_durable.specs.Names.{stem, index_of, db_of, has_name, AreDatabases, ArePartsOf, AreSectionsOf, files_of, names_of, all_files}
use Rattle.mm_durable.specs.Log.{IsSound, IsKept, Keeps, synced}
use Rattle.mm_durable.specs.declared.log.Log.{Log}
use Rattle.mm_durable.proofs.Own.{letters, stem_is, own_none}
use Rattle.mm_durable.proofs.Flushes.{names_are, of_drop, of_take}
use Rattle.mm_durable.proofs.Logs.{spellable}
use Rattle.mm_durable.proofs.Steps.{Good, AreSafe, SameRun, keeps}

-- ---- a database's files are data files

file_case : (n : ℕ) → n < 2 ^ 32 → file_name n ≡ journal_name n
file_case n lt = let yes : nat_lt n (2 ^ 32) ≡ true = grind (arith, nat_tests) in ap (λ (b : Bool). cond b (journal_name n) (replicate n 0)) yes

past_case : (n : ℕ) → 2 ^ 32 ≤ n → file_name n ≡ replicate n 0
past_case n le = let past : nat_lt n (2 ^ 32) ≡ false = grind (arith, nat_tests) in ap (λ (b : Bool). cond b (journal_name n) (replicate n 0)) past

stem_of_journal : (n : ℕ) → stem (journal_name n) ≡ codes "journal/j"
unfolding journal_name
stem_of_journal n = refl

stem_of_lsn : stem lsn_name ≡ codes "journal/lsn"
unfolding lsn_name
stem_of_lsn = refl

no_letters : list_all is_letter (codes "journal/j") ≡ false
no_letters = refl

no_lsn_letters : list_all is_letter (codes "journal/lsn") ≡ false
no_lsn_letters = refl

no_zeros : (n : ℕ) → 0 < n → list_all is_letter (stem (replicate n 0)) ≡ false
no_zeros zero lt = absurd (omega arith)
no_zeros (suc n) lt = refl

-- the letters before the first full stop
other_stem : (name other : List ℕ) (file : ℕ) → is_db_name name ≡ true → list_all is_letter (stem other) ≡ false → disk_name name file ≢ other
other_stem name other file is none e = true≢false (sym (letters name is) ∙ ap (list_all is_letter) (sym (stem_is name file is) ∙ ap stem e) ∙ none)

not_of_journal : (name : List ℕ) (file n : ℕ) → is_db_name name ≡ true → disk_name name file ≢ file_name n
not_of_journal name file n is = elim (cases_lt n (2 ^ 32)) [
  | inl low ↦ λ e. other_stem name (journal_name n) file is (ap (list_all is_letter) (stem_of_journal n) ∙ no_letters) (e ∙ file_case n low)
  | inr past ↦ λ e. other_stem name (replicate n 0) file is (no_zeros n (omega (arith, past))) (e ∙ past_case n past)
]

pub is_data : (name : List ℕ) (file : ℕ) → is_db_name name ≡ true → IsData the_names (disk_name name file)
unfolding the_names
is_data name file is = record { not_journal = λ n. not_of_journal name file n is; not_lsn = other_stem name lsn_name file is (ap (list_all is_letter) stem_of_lsn ∙ no_lsn_letters) }

module _ (Journal : (ℕ → Place) → Type 0) (respects : Respects Journal) (Lsn : Place → Type 0) (entries : List Entry) (old : List ℕ → Option (List ℕ)) where
  abbrev AreData : List (List ℕ) → Type 0
  AreData names = AreDataNames the_names Journal respects Lsn entries old names

  data_both : (a b : List (List ℕ)) → AreData a → AreData b → AreData (a ++ b)
  data_both [] b x y = y
  data_both (n ∷ a) b x y = (x.0, data_both a b x.1 y)

  data_of : (name : List ℕ) → is_db_name name ≡ true → (files : List ℕ) → AreData (names_of name files)
  data_of name is [] = tt
  data_of name is (n ∷ files) = (is_data name n is, data_of name is files)

  pub all_data : (names : List (List ℕ)) → AreDatabases names → AreData (all_files names)
  all_data [] are = tt
  all_data (n ∷ names) are = data_both (files_of n) (all_files names) (data_of n are.0 (ns_file ∷ 0 ∷ 1 ∷ 2 ∷ 3 ∷ 4 ∷ 5 ∷ 6 ∷ 7 ∷ [])) (all_data names are.1.1)

-- ---- what is laid lies in these files

among_first : (file : List ℕ) (a b : List (List ℕ)) → is_among file (a ++ b) ≡ false → (is_among file a ≡ false) × (is_among file b ≡ false)
among_first file [] b none = (refl, none)
among_first file (n ∷ a) b none =
    let parts = neither (eq_by_cmp name_cmp file n) (is_among file (a ++ b)) none in
    let rest = among_first file a b parts.1 in
    (none_of _ _ parts.0 rest.0, rest.1)

abbrev is_in : ℕ → List ℕ → Bool
is_in f [] = false
is_in f (n ∷ files) = n == f || is_in f files

in_numbers : (name file : List ℕ) (files : List ℕ) (f : ℕ) → is_among file (names_of name files) ≡ false → is_in f files ≡ true → eq_by_cmp name_cmp file (disk_name name f) ≡ false
in_numbers name file [] f none some = absurd (true≢false (sym some))
in_numbers name file (n ∷ files) f none some =
    let parts = neither (eq_by_cmp name_cmp file (disk_name name n)) (is_among file (names_of name files)) none in
    elim (cases_Bool (n == f)) [
      | inl same ↦ let e : n ≡ f = grind (arith, nat_tests) in ap (λ m. eq_by_cmp name_cmp file (disk_name name m)) (sym e) ∙ parts.0
      | inr other ↦ in_numbers name file files f parts.1 (sym (ap (λ (b : Bool). b || is_in f files) other) ∙ some)
    ]

abbrev numbers : List ℕ
numbers = ns_file ∷ 0 ∷ 1 ∷ 2 ∷ 3 ∷ 4 ∷ 5 ∷ 6 ∷ 7 ∷ []

number_in : (f : ℕ) → is_file f ≡ true → is_in f numbers ≡ true
number_in f is = grind (arith, nat_tests)

-- a file that isn't among them is no file of a database
module _ (file : List ℕ) where
  not_own : (names : List (List ℕ)) (name : List ℕ) (f : ℕ) → is_among file (all_files names) ≡ false → has_name names name ≡ true → is_file f ≡ true → eq_by_cmp name_cmp file (disk_name name f) ≡ false
  not_own [] name f none some is = absurd (true≢false (sym some))
  not_own (n ∷ names) name f none some is =
      let parts = among_first file (files_of n) (all_files names) none in
      elim (cases_Bool (eq_by_cmp name_cmp n name)) [
        | inl same ↦ ap (λ (x : List ℕ). eq_by_cmp name_cmp file (disk_name x f)) (sym (one_name n name same)) ∙ in_numbers n file numbers f parts.0 (number_in f is)
        | inr other ↦ not_own names name f parts.1 (sym (ap (λ (b : Bool). b || has_name names name) other) ∙ some) is
      ]

  uncovered_both : (i : ℕ) (a b : List Entry) → is_covered file i a ≡ false → is_covered file i b ≡ false → is_covered file i (a ++ b) ≡ false
  uncovered_both i [] b x y = y
  uncovered_both i (e ∷ a) b x y =
      let parts = neither (is_own file e && covers e.act i) (is_covered file i a) x in
      none_of _ _ parts.0 (uncovered_both i a b parts.1 y)

  uncovered_one : (i : ℕ) (e : Entry) (rest : List Entry) → is_own file e ≡ false → is_covered file i rest ≡ false → is_covered file i (e ∷ rest) ≡ false
  uncovered_one i e rest other out = none_of _ _ (ap (λ (b : Bool). b && covers e.act i) other) out

  module _ (names : List (List ℕ)) (none : is_among file (all_files names) ≡ false) (i : ℕ) where
    made_out : (name : List ℕ) → has_name names name ≡ true → (ms : List Made) → list_all may_be_made ms ≡ true → is_covered file i (map (λ (m : Made). made_entry name m) ms) ≡ false
    made_out name some [] all = refl
    made_out name some (m ∷ ms) all =
        let parts = both (may_be_made m) (list_all may_be_made ms) all in
        uncovered_one i (made_entry name m) _ (not_own names name m.file none some (both (is_file m.file) _ parts.0).0) (made_out name some ms parts.1)

    pieces_out : (name : List ℕ) → has_name names name ≡ true → (ps : List Piece) → list_all is_allowed (ranges_of ps) ≡ true → is_covered file i (map (λ (p : Piece). piece_entry name p) ps) ≡ false
    pieces_out name some [] all = refl
    pieces_out name some (p ∷ ps) all =
        let parts = both (is_allowed (p.file, p.at, length p.bytes)) (list_all is_allowed (ranges_of ps)) all in
        uncovered_one i (piece_entry name p) _ (not_own names name p.file none some (both (is_file p.file) _ parts.0).0) (pieces_out name some ps parts.1)

    parts_out : (ps : List Part) → ArePartsOf names ps → AreParts ps → is_covered file i (entries_of_parts disk_name ps) ≡ false
    parts_out [] of are = refl
    parts_out (p ∷ ps) of are = uncovered_both i (part_entries p) (entries_of_parts disk_name ps)
        (uncovered_both i _ _ (made_out p.name of.0 p.made are.0.allowed.made_allowed) (pieces_out p.name of.0 p.pieces are.0.allowed.ranges_allowed)) (parts_out ps of.1 are.1)

    pub sections_out : (ss : List Section) → AreSectionsOf names ss → AllCan the_format ss → is_covered file i (entries_of disk_name ss) ≡ false
    sections_out [] of can = refl
    sections_out (s ∷ ss) of can = uncovered_both i (entries_of_parts disk_name s.parts) (entries_of disk_name ss) (parts_out s.parts of.0 (spellable s can.0).parts) (sections_out ss of.1 can.1)

-- ---- what is laid is of kept sections

pub can_drop : (n : ℕ) (ss : List Section) → AllCan the_format ss → AllCan the_format (drop n ss)
can_drop zero ss can = can
can_drop (suc n) [] can = tt
can_drop (suc n) (s ∷ ss) can = can_drop n ss can.1

pub can_take : (n : ℕ) (ss : List Section) → AllCan the_format ss → AllCan the_format (take n ss)
can_take zero ss can = tt
can_take (suc n) [] can = tt
can_take (suc n) (s ∷ ss) can = (can.0, can_take n ss can.1)

index_most : (names : List (List ℕ)) (n : List ℕ) → index_of names n ≤ length names
index_most [] n = omega arith
index_most (x ∷ names) n = by (eq_by_cmp name_cmp x n) (index_most names n)
  where
    by : (b : Bool) → index_of names n ≤ length names → cond b 0 (1 + index_of names n) ≤ length (x ∷ names)
    by true le = omega arith
    by false le = omega (arith, le)

module _ (old : Log) (sound : IsSound old) (t u : Told) (story : Story) (history : ℕ → Numbers) (x : IsKept t story history old u) where
  abbrev names : List (List ℕ)
  names = old.names.items

  abbrev c : Counts
  c = x.counts

  abbrev db : List ℕ → ℕ
  db = db_of names

  kept_run : (a k : ℕ) → old.dropped ≤ a → a ≤ k → run story a k ≡ take (k - a) (drop (a - old.dropped) old.sections.items)
  kept_run a k first le =
      let all : a + (k - a) ≡ k = omega (arith, le) in
      let along : old.dropped + (a - old.dropped) ≡ a = omega (arith, first) in
      sym (ap (λ n. drop a (take n story.sections)) all) ∙ drop-take a (k - a) story.sections ∙ sym (ap (take (k - a)) (ap (drop (a - old.dropped)) x.sections ∙ drop-drop (a - old.dropped) old.dropped story.sections ∙ ap (λ n. drop n story.sections) along))

  run_of : (a k : ℕ) → old.dropped ≤ a → a ≤ k → AreSectionsOf names (run story a k)
  run_of a k first le = subst (AreSectionsOf names) (sym (kept_run a k first le)) (of_take names (k - a) (drop (a - old.dropped) old.sections.items) (of_drop names (a - old.dropped) old.sections.items sound.own))

  run_can : (a k : ℕ) → old.dropped ≤ a → a ≤ k → AllCan the_format (run story a k)
  run_can a k first le = subst (AllCan the_format) (sym (kept_run a k first le)) (can_take (k - a) (drop (a - old.dropped) old.sections.items) (can_drop (a - old.dropped) old.sections.items sound.can))

  floor_kept : old.dropped ≤ c.floor
  floor_kept = omega (arith, x.floor, sound.kept)

  -- what is laid above the floor lies in the databases' files
  laid_out : (k : ℕ) → c.floor ≤ k → (file : List ℕ) → is_among file (all_files names) ≡ false → (i : ℕ) → is_covered file i (laid the_names story c.floor k) ≡ false
  laid_out k le file none i = ap (λ (f : List ℕ → ℕ → List ℕ). is_covered file i (entries_of f (run story c.floor k))) names_are ∙ sections_out file names none i (run story c.floor k) (run_of c.floor k floor_kept le) (run_can c.floor k floor_kept le)

  -- a file of no database counts as flushed, since nothing is laid over it
  abbrev others : ℕ
  others = length names

  others_later : c.flushed others ≤ c.s
  others_later = x.durable.rest.flushed_s others

  others_none : own_entries db others (laid the_names story (c.flushed others) c.s) ≡ []
  others_none = ap (λ (f : List ℕ → ℕ → List ℕ). own_entries db others (entries_of f (run story (c.flushed others) c.s))) names_are
      ∙ own_none names sound.names (run story (c.flushed others) c.s) (run_of (c.flushed others) c.s (omega (arith, floor_kept, x.durable.rest.floor_flushed others)) others_later)

  abbrev flushed_then : ℕ → ℕ
  flushed_then = flushed_now the_format the_names db story x.durable.sound c u x.durable.rest others c.s others_later (omega arith)

  rest_then : IsAtRest the_format the_names db story (record c { flushed = flushed_then }) u
  rest_then = subst (λ (l : List Entry). IsAtRest the_format the_names db story (record c { flushed = flushed_then }) (asked (lay_asks l) u)) others_none (flush_rest the_format the_names db story x.durable.sound c u x.durable.rest others c.s others_later (omega arith))

  abbrev flushed_all : ℕ → ℕ
  flushed_all d = if nat_lt d others then c.flushed d else c.s

  flushed_same : (d : ℕ) → d ≤ others → flushed_all d ≡ flushed_then d
  flushed_same d le = elim (cases_lt d others) [
    | inl lt ↦
        let inside : nat_lt d others ≡ true = grind (arith, nat_tests) in
        let other : (d == others) ≡ false = grind (arith, nat_tests) in
        ap (λ (b : Bool). cond b (c.flushed d) c.s) inside ∙ sym (ap (λ (b : Bool). cond b c.s (c.flushed d)) other)
    | inr ge ↦
        let outside : nat_lt d others ≡ false = grind (arith, nat_tests) in
        let same : (d == others) ≡ true = grind (arith, nat_tests) in
        ap (λ (b : Bool). cond b (c.flushed d) c.s) outside ∙ sym (ap (λ (b : Bool). cond b c.s (c.flushed d)) same)
  ]

  flushed_within : (d : ℕ) → (c.floor ≤ flushed_all d) × (flushed_all d ≤ c.s)
  flushed_within d = by (nat_lt d others)
    where
      by : (b : Bool) → (c.floor ≤ cond b (c.flushed d) c.s) × (cond b (c.flushed d) c.s ≤ c.s)
      by true = (x.durable.rest.floor_flushed d, x.durable.rest.flushed_s d)
      by false = (omega (arith, x.durable.rest.floor_flushed 0, x.durable.rest.flushed_s 0), omega arith)

  rest_all : IsAtRest the_format the_names db story (record c { flushed = flushed_all }) u
  rest_all = record {
    mark_marking = rest_then.mark_marking;
    marking_floor = rest_then.marking_floor;
    floor_flushed = λ d. (flushed_within d).0;
    flushed_s = λ d. (flushed_within d).1;
    s_there = rest_then.s_there;
    journal = rest_then.journal;
    lsn = rest_then.lsn;
    files = λ file is. subst (λ k. IsWithin (laid the_names story c.floor k) file (state the_names story c.floor file) (place_of u file)) (sym (flushed_same (db file) (index_most names (stem file)))) (rest_then.files file is);
    reads = λ file is. rest_then.reads file is ∙ ap (λ k. state the_names story k file) (sym (flushed_same (db file) (index_most names (stem file))));
  }

  -- ---- synced up to a floor that each database is flushed to

  module _ (floor : ℕ) (low : (d : ℕ) → d < length names → floor ≤ get_or old.flushed.items d 0) (above : old.floor ≤ floor) (most : floor ≤ synced old) where
    above_now : c.floor ≤ floor
    above_now = omega (arith, x.floor, above)

    below : (d : ℕ) → floor ≤ flushed_all d
    below d = elim (cases_lt d others) [
      | inl lt ↦
          let inside : nat_lt d others ≡ true = grind (arith, nat_tests) in
          omega (arith, low d lt, x.flushed d lt, ap (λ (b : Bool). cond b (c.flushed d) c.s) inside)
      | inr ge ↦
          let outside : nat_lt d others ≡ false = grind (arith, nat_tests) in
          omega (arith, most, x.durable.each, ap (λ (b : Bool). cond b (c.flushed d) c.s) outside)
    ]

    of_data : AreDataNames the_names (JournalPart the_format story c.mark c.s) (respects the_format story c.mark c.s) (LsnPart the_format story c.mark c.marking) (laid the_names story c.floor c.s) (state the_names story c.floor) (all_files names)
    of_data = all_data (JournalPart the_format story c.mark c.s) (respects the_format story c.mark c.s) (LsnPart the_format story c.mark c.marking) (laid the_names story c.floor c.s) (state the_names story c.floor) names sound.names

    pub syncs_safe : Safe (Good story c) (sync_asks (all_files names)) u
    syncs_safe = sync_safe the_format the_names db story x.durable.sound (record c { flushed = flushed_all }) u rest_all (all_files names) of_data floor above_now below
        (λ file is none i. laid_out (flushed_all (db file)) (flushed_within (db file)).0 file none i)

    pub syncs_rest : IsAtRest the_format the_names db story (record c { flushed = flushed_all; floor = floor }) (asked (sync_asks (all_files names)) u)
    syncs_rest = sync_rest the_format the_names db story x.durable.sound (record c { flushed = flushed_all }) u rest_all (all_files names) of_data floor above_now below
        (λ file is none i. laid_out (flushed_all (db file)) (flushed_within (db file)).0 file none i)

    pub flushed_still : (d : ℕ) → d < length names → flushed_all d ≡ get_or old.flushed.items d 0
    flushed_still d lt =
        let inside : nat_lt d others ≡ true = grind (arith, nat_tests) in
        ap (λ (b : Bool). cond b (c.flushed d) c.s) inside ∙ x.flushed d lt

-- the sync alone, to whatever floor
pub syncing_safe : (old : Log) → IsSound old → AreSafe old (sync_asks (all_files old.names.items))
syncing_safe old sound t u story history x = syncs_safe old sound t u story history x old.floor sound.floor_flushed (omega arith) sound.floor_synced

pub synced_to : (old new : Log) (sound : IsSound old) (floor : ℕ) → ((d : ℕ) → d < length old.names.items → floor ≤ get_or old.flushed.items d 0) → old.floor ≤ floor → floor ≤ synced old → SameRun old new → new.journal ≡ old.journal → new.mark ≡ old.mark → new.floor ≡ floor → new.flushed.items ≡ old.flushed.items
    → new.dropped ≡ old.dropped → new.sections.items ≡ old.sections.items → new.receipts.items ≡ old.receipts.items → (before after : Option Told) → Makes (sync_asks (all_files old.names.items)) before after → Keeps old new before after
synced_to old new sound floor low above most same journal mark floor_is flushed dropped sections receipts before after made = keeps old new before after (sync_asks (all_files old.names.items)) same made (syncing_safe old sound) receipts
    (λ t u story history x. (
      record {
        counts = record x.counts { flushed = flushed_all old sound t u story history x; floor = floor };
        rest = syncs_rest old sound t u story history x floor low above most;
        tracks = subst (λ (f : files.Files). Tracks the_format f (record x.counts { flushed = flushed_all old sound t u story history x; floor = floor })) (sym journal) (record { first = x.tracks.first; lasts = x.tracks.lasts; end = x.tracks.end });
        mark = x.mark ∙ sym mark;
        marking = x.marking ∙ sym mark;
        floor = sym floor_is;
        flushed = λ d lt. flushed_still old sound t u story history x floor low above most d lt ∙ sym (ap (λ (l : List ℕ). get_or l d 0) flushed);
        sections = sections ∙ x.sections ∙ sym (ap (λ n. drop n story.sections) dropped);
      },
      refl,
    ))
