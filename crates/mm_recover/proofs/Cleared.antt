-- No file of the journal is left: sections lay nothing over them, and each that was there is removed.
use Rattle.std.proofs.Common.{◌≡◌, ◌≢◌, inl, inr, ℕ, suc, Bool, true, false, cond, ◌+◌, ◌<◌, ◌≤◌, ◌^◌, List, [], ◌∷◌, ◌++◌, length, get_or, drop, map, replicate, Option, Some, None, refl, sym, ◌∙◌, ap, subst, arith, append_assoc}
use mathlib.Core.Bool.{true≢false}
use Rattle.std.specs.Prelude.{◌&&◌, nat_lt, nat_le, ◌==◌, codes, IsTrue}
use Rattle.std.specs.Fmt.{decimal}
use Rattle.std.specs.List.{list_all}
use Rattle.std.specs.Ordering.{eq_by_cmp}
use Rattle.std.proofs.lemmas.Bool.{cases_eq, cases_lt, cond-false}
use Rattle.std.proofs.lemmas.Bool.Decides.{nat_tests}
use Rattle.mm_outside.specs.Image.{name_cmp}
use Rattle.mm_outside.specs.Told.{Told, called, Removes}
use Rattle.mm_outside.specs.Place.{Place, place_of}
use Rattle.mm_outside.specs.Ask.{asked}
use Rattle.mm_outside.proofs.Places.{one_name, different, place_step}
use Rattle.mm_ranges.specs.Limits.{ns_file}
use Rattle.mm_ranges.specs.declared.part.Made.{Made}
use Rattle.mm_ranges.specs.declared.part.Piece.{Piece}
use Rattle.mm_ranges.specs.declared.part.Part.{Part}
use Rattle.mm_section.specs.declared.section.Section.{Section}
use Rattle.mm_section.specs.Spells.{is_db_name, is_letter}
use Rattle.mm_section.proofs.Limits.{both}
use Rattle.mm_jfiles.specs.Names.{journal_name, lsn_name}
use Rattle.mm_crash.specs.Overlay.{Entry, is_own, put, over}
use Rattle.mm_crash.specs.Journal.{AllCan, HasRuns, Run, above, entries_of}
use Rattle.mm_crash.specs.Recovered.{IsData, AreData}
use Rattle.mm_crash.specs.Asks.{remove_asks}
use Rattle.mm_journal.specs.Real.{disk_name}
use Rattle.mm_journal.proofs.Real.{the_format, the_names, speaks}
use Rattle.mm_recover.specs.Laying.{made_entries, piece_entries, part_entries, parts_entries, AreNamed}
use Rattle.mm_recover.specs.Reading.{numbers_of}
use Rattle.mm_recover.proofs.NewerAsks.{can_named}

-- ---- the names of data files

abbrev pub NoneIs : ℕ → List ℕ → Type 0
NoneIs k [] = Unit {0}
NoneIs k (x ∷ xs) = (x ≡ k → ⊥) × NoneIs k xs

-- a dot comes first in the one, a slash in the other
clash : (name p rest q : List ℕ) → NoneIs 47 name → NoneIs 46 p → name ++ (46 ∷ rest) ≡ p ++ (47 ∷ q) → ⊥
clash [] [] rest q a b e = absurd (omega (arith, ap (λ (l : List ℕ). get_or l 0 0) e))
clash [] (x ∷ p) rest q a b e = b.0 (sym (ap (λ (l : List ℕ). get_or l 0 0) e))
clash (y ∷ name) [] rest q a b e = a.0 (ap (λ (l : List ℕ). get_or l 0 0) e)
clash (y ∷ name) (x ∷ p) rest q a b e = clash name p rest q a.1 b.1 (ap (drop 1) e)

letters_no_slash : (bytes : List ℕ) → list_all is_letter bytes ≡ true → NoneIs 47 bytes
letters_no_slash [] all = tt
letters_no_slash (b ∷ bytes) all =
    let here = both (is_letter b) (list_all is_letter bytes) all in
    ((λ e. true≢false (sym here.0 ∙ ap is_letter e)), letters_no_slash bytes here.1)

pub letters_of : (name : List ℕ) → IsTrue (is_db_name name) → list_all is_letter name ≡ true
letters_of name is = (both (nat_le (length name) 16) (list_all is_letter name) (both (nat_lt 0 (length name)) (nat_le (length name) 16 && list_all is_letter name) is).1).1

some_of : (name : List ℕ) → IsTrue (is_db_name name) → nat_lt 0 (length name) ≡ true
some_of name is = (both (nat_lt 0 (length name)) (nat_le (length name) 16 && list_all is_letter name) is).0

-- a dot stands behind the database's name
dotted : (name : List ℕ) (file : ℕ) → (rest : List ℕ) × (disk_name name file ≡ name ++ (46 ∷ rest))
dotted name file = by (file == ns_file)
  where
    by : (b : Bool) → (rest : List ℕ) × (cond b (name ++ codes ".ns") (name ++ codes "." ++ decimal file) ≡ name ++ (46 ∷ rest))
    by true = (codes "ns", refl)
    by false = (decimal file, append_assoc name (codes ".") (decimal file))

no_dot : NoneIs 46 (codes "journal")
no_dot = ((λ e. absurd (omega (arith, e))), ((λ e. absurd (omega (arith, e))), ((λ e. absurd (omega (arith, e))), ((λ e. absurd (omega (arith, e))), ((λ e. absurd (omega (arith, e))), ((λ e. absurd (omega (arith, e))), ((λ e. absurd (omega (arith, e))), tt)))))))

journal_slash : (n : ℕ) → journal_name n ≡ codes "journal" ++ (47 ∷ (codes "j._" ++ decimal n))
unfolding journal_name
journal_slash n = refl

lsn_slash : the_names.lsn ≡ codes "journal" ++ (47 ∷ codes "lsn")
unfolding the_names lsn_name
lsn_slash = refl

first_byte : (name rest : List ℕ) → nat_lt 0 (length name) ≡ true → list_all is_letter name ≡ true → get_or (name ++ rest) 0 0 ≡ 0 → ⊥
first_byte [] rest some all e = true≢false (sym some)
first_byte (b ∷ name) rest some all e = true≢false (sym (both (is_letter b) (list_all is_letter name) all).0 ∙ ap is_letter e)

zero_first : (n : ℕ) → 2 ^ 32 ≤ n → get_or (the_names.journal n) 0 0 ≡ 0
unfolding the_names
zero_first n le = by (nat_lt n (2 ^ 32)) (grind (arith, nat_tests)) n
  where
    zeros_first : (k : ℕ) → get_or (replicate {A = ℕ} k 0) 0 0 ≡ 0
    zeros_first Rattle.std.proofs.Common.zero = refl
    zeros_first (suc k) = refl

    by : (b : Bool) → b ≡ false → (k : ℕ) → get_or (cond b (journal_name n) (replicate {A = ℕ} k 0)) 0 0 ≡ 0
    by true e k = absurd (true≢false e)
    by false e k = zeros_first k

pub data_name_is : (name : List ℕ) (file : ℕ) → IsTrue (is_db_name name) → IsData the_names (disk_name name file)
data_name_is name file is =
    let d = dotted name file in
    let all = letters_of name is in
    record {
      not_journal = λ n e. elim (cases_lt n (2 ^ 32)) [
        | inl lt ↦ clash name (codes "journal") d.0 (codes "j._" ++ decimal n) (letters_no_slash name all) no_dot (sym d.1 ∙ e ∙ speaks.journal n lt ∙ journal_slash n)
        | inr le ↦ first_byte name (46 ∷ d.0) (some_of name is) all (ap (λ (l : List ℕ). get_or l 0 0) (sym d.1 ∙ e) ∙ zero_first n le)
      ];
      not_lsn = λ e. clash name (codes "journal") d.0 (codes "lsn") (letters_no_slash name all) no_dot (sym d.1 ∙ e ∙ lsn_slash);
    }

-- ---- all entries are of data files

data_both : (a b : List Entry) → AreData the_names a → AreData the_names b → AreData the_names (a ++ b)
data_both [] b x y = y
data_both (e ∷ a) b x y = (x.0, data_both a b x.1 y)

data_made : (name : List ℕ) (ms : List Made) → IsTrue (is_db_name name) → AreData the_names (made_entries name ms)
data_made name [] is = tt
data_made name (m ∷ ms) is = (data_name_is name m.file is, data_made name ms is)

data_pieces : (name : List ℕ) (ps : List Piece) → IsTrue (is_db_name name) → AreData the_names (piece_entries name ps)
data_pieces name [] is = tt
data_pieces name (p ∷ ps) is = (data_name_is name p.file is, data_pieces name ps is)

data_parts : (ps : List Part) → AreNamed ps → AreData the_names (parts_entries ps)
data_parts [] named = tt
data_parts (p ∷ ps) named = data_both (part_entries p) (parts_entries ps) (data_both (made_entries p.name p.made) (piece_entries p.name p.pieces) (data_made p.name p.made named.0) (data_pieces p.name p.pieces named.0)) (data_parts ps named.1)

data_if : (b : Bool) (s : Section) (ss : List Section) → AreData the_names (parts_entries s.parts) → AreData the_names (entries_of disk_name ss) → AreData the_names (entries_of disk_name (cond b (s ∷ ss) ss))
data_if true s ss x y = data_both (parts_entries s.parts) (entries_of disk_name ss) x y
data_if false s ss x y = y

data_above : (lsn : ℕ) (sections : List Section) → AllCan the_format sections → AreData the_names (entries_of disk_name (above lsn sections))
data_above lsn [] can = tt
data_above lsn (s ∷ sections) can = data_if (nat_lt lsn s.number) s (above lsn sections) (data_parts s.parts (can_named (s ∷ []) 0 s (omega arith) refl (can.0, tt))) (data_above lsn sections can.1)

pub laid_data : (lsn : ℕ) (sections : List Section) → AllCan the_format sections → AreData the_names (entries_of the_names.disk_name (above lsn sections))
unfolding the_names
laid_data lsn sections can = data_above lsn sections can

-- ---- what isn't a data file stays

pub over_other : (rs : List Entry) (n : ℕ) (content : Option (List ℕ)) → AreData the_names rs → over rs (the_names.journal n) content ≡ content
over_other [] n content are = refl
over_other (e ∷ rs) n content are =
    let apart : is_own (the_names.journal n) e ≡ false = different (the_names.journal n) e.file (λ is. are.0.not_journal n (sym is)) in
    ap (over rs (the_names.journal n)) (cond-false _ (put e.act content) content apart) ∙ over_other rs n content are.1

-- ---- each file that was there is removed

gone_step : (name q : List ℕ) (v : Told) → (place_of v q).file ≡ None → (place_of (called name Removes true v) q).file ≡ None
gone_step name q v is = by (eq_by_cmp name_cmp q name) refl
  where
    by : (same : Bool) → eq_by_cmp name_cmp q name ≡ same → (place_of (called name Removes true v) q).file ≡ None
    by true e = ap (λ (p : Place). p.file) (place_step v name q Removes true true e)
    by false e = ap (λ (p : Place). p.file) (place_step v name q Removes true false e) ∙ is

gone_stays : (ns : List ℕ) (v : Told) (q : List ℕ) → (place_of v q).file ≡ None → (place_of (asked (remove_asks the_names ns) v) q).file ≡ None
gone_stays [] v q is = is
gone_stays (n ∷ ns) v q is = gone_stays ns (called (the_names.journal n) Removes true v) q (gone_step (the_names.journal n) q v is)

removed_now : (k n : ℕ) (v : Told) → n ≡ k → (place_of (called (the_names.journal k) Removes true v) (the_names.journal n)).file ≡ None
removed_now k n v e = ap (λ (p : Place). p.file) (place_step v (the_names.journal k) (the_names.journal n) Removes true true (ap (λ (l : List ℕ). eq_by_cmp name_cmp l (the_names.journal k)) (ap the_names.journal e) ∙ Rattle.mm_outside.proofs.Places.same_name (the_names.journal k)))

removed_other : (k n : ℕ) (v : Told) → (n ≡ k → ⊥) → (place_of (called (the_names.journal k) Removes true v) (the_names.journal n)).file ≡ (place_of v (the_names.journal n)).file
removed_other k n v ne = ap (λ (p : Place). p.file) (place_step v (the_names.journal k) (the_names.journal n) Removes true false (different (the_names.journal n) (the_names.journal k) (λ e. ne (the_names.one n k e))))

pub removed : (left : ℕ → Option (List ℕ)) (from : ℕ) (runs : List Run) (v : Told) (n : ℕ) → HasRuns the_format left from runs → from ≤ n → (place_of v (the_names.journal n)).file ≡ left n → (place_of (asked (remove_asks the_names (numbers_of runs)) v) (the_names.journal n)).file ≡ None
removed left from [] v n has le is = is ∙ has n le
removed left from (run ∷ runs) v n has le is = elim (cases_eq n run.0) [
  | inl e ↦ gone_stays (numbers_of runs) (called (the_names.journal run.0) Removes true v) (the_names.journal n) (removed_now run.0 n v e)
  | inr ne ↦ elim (cases_lt n run.0) [
    | inl lt ↦ gone_stays (run.0 ∷ numbers_of runs) v (the_names.journal n) (is ∙ has.1.0 n le lt)
    | inr ge ↦ removed left (run.0 + 1) runs (called (the_names.journal run.0) Removes true v) n has.1.1.1 (omega (arith, ge, ne)) (removed_other run.0 n v ne ∙ is)
  ]
]
