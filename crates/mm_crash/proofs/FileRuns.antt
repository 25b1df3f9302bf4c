-- Entries laid over data files and syncs of these, one after another.
use Rattle.std.proofs.Common.{◌≡◌, ◌≢◌, inl, inr, ℕ, ◌-◌, Bool, true, false, cond, ◌&&◌, ◌||◌, List, [], ◌∷◌, ◌++◌, length, Option, Some, None, refl, sym, ◌∙◌, ap, subst, arith, take}
use mathlib.Core.Bool.{true≢false}
use Rattle.std.proofs.lemmas.Bool.{cases_Bool}
use Rattle.std.proofs.Math.Seq.{take-nil}
use Rattle.std.specs.Prelude.{is_some, replicate, unwrap_or}
use Rattle.std.specs.Ordering.{eq_by_cmp}
use Rattle.mm_bytes.specs.Files.{overwritten}
use Rattle.mm_outside.specs.Image.{name_cmp}
use Rattle.mm_outside.specs.Crash.{file_after}
use Rattle.mm_outside.specs.Told.{Change, Told, Pending, called, Creates, Writes, Resizes, Syncs}
use Rattle.mm_outside.specs.Place.{Place, place_of, place_by}
use Rattle.mm_outside.specs.Ask.{Ask, after_ask, asked, SparesFile}
use Rattle.mm_outside.proofs.Places.{one_name, same_name, different, place_here, place_there, place_step}
use Rattle.mm_outside.proofs.Cuts.{asked-append, spared_asked, Safe}
use Rattle.mm_crash.specs.Overlay.{Act, Makes, Puts, Entry, is_own, put, over, makes, covers, is_made, is_covered, size, LiesIn, Fits}
use Rattle.mm_crash.specs.Recovered.{Names, IsData, AreData, Files}
use Rattle.mm_crash.specs.Chance.{places_of}
use Rattle.mm_crash.specs.Within.{IsWithin, IsSettled}
use Rattle.mm_crash.specs.Parts.{Parts}
use Rattle.mm_crash.specs.Asks.{act_asks, lay_asks, sync_asks}
use Rattle.mm_crash.proofs.Overlay.{neither, uncovered_unmade, differs_not}
use Rattle.mm_crash.proofs.FileSteps.{within_left, within_made, within_put, within_make, within_sync}
use Rattle.mm_crash.proofs.Parts.{Respects, file_spares_journal, file_spares_lsn}

module _ (at : Names) (Journal : (ℕ → Place) → Type 0) (respects : Respects Journal) (Lsn : Place → Type 0) (entries : List Entry) (old : Files) where
  -- the journal and the lsn file have their parts, and all that is pending of a data file lies within the entries
  pub record Loose (u : Told) : Type 0 where
    pub journal : Journal (places_of at (place_of u))
    pub lsn : Lsn (place_of u at.lsn)
    pub files : (file : List ℕ) → IsData at file → IsWithin entries file (old file) (place_of u file)

  pub loose_parts : (u : Told) → Loose u → Parts at Journal Lsn entries old (place_of u)
  loose_parts u l = record { journal = l.journal; lsn = l.lsn; files = λ file is. within_left entries file (old file) (place_of u file) (l.files file is) }

  -- calls on data files, each of which keeps its file within the entries
  abbrev pub Keeps : Ask → Type 0
  Keeps ask = (done : Bool) (p : Place) → IsWithin entries ask.name (old ask.name) p → IsWithin entries ask.name (old ask.name) (place_by ask.change done p)

  abbrev pub AllKeep : List Ask → Type 0
  AllKeep [] = Unit {0}
  AllKeep (ask ∷ asks) = IsData at ask.name × (Keeps ask × AllKeep asks)

  pub keep_both : (a b : List Ask) → AllKeep a → AllKeep b → AllKeep (a ++ b)
  keep_both [] b x y = y
  keep_both (k ∷ a) b x y = (x.0, (x.1.0, keep_both a b x.1.1 y))

  moved : (file : List ℕ) (p q : Place) → q ≡ p → IsWithin entries file (old file) p → IsWithin entries file (old file) q
  moved file p q e w = subst (IsWithin entries file (old file)) (sym e) w

  file_case : (u : Told) (ask : Ask) (done : Bool) → Keeps ask → Loose u → (file : List ℕ) → IsData at file → (same : Bool) → eq_by_cmp name_cmp file ask.name ≡ same → IsWithin entries file (old file) (place_of (after_ask ask done u) file)
  file_case u ask done keeps l file is true e =
      let one : file ≡ ask.name = one_name file ask.name e in
      moved file _ _ (place_step u ask.name file ask.change done true e) (subst (λ (n : List ℕ). IsWithin entries n (old n) (place_by ask.change done (place_of u n))) (sym one) (keeps done (place_of u ask.name) (subst (λ (n : List ℕ). IsWithin entries n (old n) (place_of u n)) one (l.files file is))))
  file_case u ask done keeps l file is false e = moved file _ _ (place_there u ask.name file ask.change done e) (l.files file is)

  loose_call : (u : Told) (ask : Ask) (done : Bool) → IsData at ask.name → Keeps ask → Loose u → Loose (after_ask ask done u)
  loose_call u ask done is keeps l = record {
    journal = respects _ _ (file_spares_journal at u ask.change done ask.name is) l.journal;
    lsn = subst Lsn (sym (file_spares_lsn at u ask.change done ask.name is)) l.lsn;
    files = λ file is_file. file_case u ask done keeps l file is_file _ refl;
  }

  pub loose_safe : (asks : List Ask) → AllKeep asks → (u : Told) → Loose u → Safe (Parts at Journal Lsn entries old) asks u × Loose (asked asks u)
  loose_safe [] keep u l = (tt, l)
  loose_safe (ask ∷ asks) keep u l =
      let here : (done : Bool) → Loose (after_ask ask done u) = λ done. loose_call u ask done keep.0 keep.1.0 l in
      let rest = loose_safe asks keep.1.1 (after_ask ask true u) (here true) in
      ((loose_parts _ (here false), (loose_parts _ (here true), rest.0)), rest.1)

  -- the same of one file alone
  one_file : (u : Told) (ask : Ask) → Keeps ask → (file : List ℕ) → IsWithin entries file (old file) (place_of u file) → (same : Bool) → eq_by_cmp name_cmp file ask.name ≡ same → IsWithin entries file (old file) (place_of (after_ask ask true u) file)
  one_file u ask keeps file w true e =
      let one : file ≡ ask.name = one_name file ask.name e in
      moved file _ _ (place_step u ask.name file ask.change true true e) (subst (λ (n : List ℕ). IsWithin entries n (old n) (place_by ask.change true (place_of u n))) (sym one) (keeps true (place_of u ask.name) (subst (λ (n : List ℕ). IsWithin entries n (old n) (place_of u n)) one w)))
  one_file u ask keeps file w false e = moved file _ _ (place_there u ask.name file ask.change true e) w

  pub keep_file : (asks : List Ask) → AllKeep asks → (u : Told) (file : List ℕ) → IsWithin entries file (old file) (place_of u file) → IsWithin entries file (old file) (place_of (asked asks u) file)
  keep_file [] keep u file w = w
  keep_file (ask ∷ asks) keep u file w = keep_file asks keep.1.1 (after_ask ask true u) file (one_file u ask keep.1.0 file w _ refl)

  pub keep_spares : (asks : List Ask) (q : List ℕ) → (IsData at q → ⊥) → AllKeep asks → SparesFile q asks
  keep_spares [] q other keep = tt
  keep_spares (ask ∷ asks) q other keep = ((λ e. other (subst (IsData at) (sym e) keep.0)), keep_spares asks q other keep.1.1)

  -- each of these may be laid: it is a data file's, one of the entries, and within the file where that isn't made
  pub record CanLayOne (e : Entry) : Type 0 where
    pub of_data : IsData at e.file
    pub one : (i : ℕ) → is_covered e.file i entries ≡ false → covers e.act i ≡ false
    pub no_make : is_made e.file entries ≡ false → makes e.act ≡ false
    pub lies : is_made e.file entries ≡ false → LiesIn e.act (size (old e.file))

  abbrev pub CanLay : List Entry → Type 0
  CanLay [] = Unit {0}
  CanLay (e ∷ rs) = CanLayOne e × CanLay rs

  act_keeps : (file : List ℕ) (act : Act) → IsData at file → ((i : ℕ) → is_covered file i entries ≡ false → covers act i ≡ false) → (is_made file entries ≡ false → makes act ≡ false) → (is_made file entries ≡ false → LiesIn act (size (old file))) → AllKeep (act_asks file act)
  act_keeps file (Makes len) is one no_make lies = elim (cases_Bool (is_made file entries)) [
    | inl made ↦
        let any : (change : Change) → Keeps (record { name = file; change = change }) = λ change done p w. within_made entries file (old file) made _ in
        (is, (any Creates, (is, (any (Resizes 0), (is, (any (Resizes len), tt))))))
    | inr isnt ↦ absurd (true≢false (no_make isnt))
  ]
  act_keeps file (Puts offset bytes) is one no_make lies = (is, (within_make entries file (old file) offset bytes lies one, (is, (within_put entries file (old file) offset bytes lies one, tt))))

  pub lay_keeps : (rs : List Entry) → CanLay rs → AllKeep (lay_asks rs)
  lay_keeps [] can = tt
  lay_keeps (e ∷ rs) can = keep_both (act_asks e.file e.act) (lay_asks rs) (act_keeps e.file e.act can.0.of_data can.0.one can.0.no_make can.0.lies) (lay_keeps rs can.1)

  -- all entries may be laid that are among those, and fit the files
  pub can_lay : (rs : List Entry) → AreData at rs → ((file : List ℕ) (i : ℕ) → is_covered file i entries ≡ false → is_covered file i rs ≡ false) → ((file : List ℕ) → is_made file entries ≡ false → is_made file rs ≡ false)
      → ((file : List ℕ) → IsData at file → is_made file entries ≡ false → Fits file (size (old file)) rs) → CanLay rs
  can_lay [] are covered made fits = tt
  can_lay (e ∷ rs) are covered made fits =
      let own : is_own e.file e ≡ true = same_name e.file in (
        record {
          of_data = are.0;
          one = λ i out. first_of (covers e.act i) (neither (is_own e.file e && covers e.act i) _ (covered e.file i out)).0;
          no_make = λ isnt. first_of (makes e.act) (neither (is_own e.file e && makes e.act) _ (made e.file isnt)).0;
          lies = λ isnt. (fits e.file are.0 isnt).0 own;
        },
        can_lay rs are.1 (λ file i out. (neither (is_own file e && covers e.act i) _ (covered file i out)).1) (λ file isnt. (neither (is_own file e && makes e.act) _ (made file isnt)).1)
            (λ file is isnt. let h = fits file is isnt in subst (λ n. Fits file n rs) (stays file (size (old file)) (neither (is_own file e && makes e.act) _ (made file isnt)).0) h.1),
      )
    where
      first_of : (b : Bool) → (is_own e.file e && b) ≡ false → b ≡ false
      first_of b out = sym (ap (λ v. v && b) (same_name e.file)) ∙ out

      kept : (act : Act) (own : Bool) (n : ℕ) → (own && makes act) ≡ false → cond own (Rattle.mm_crash.specs.Overlay.size_after act n) n ≡ n
      kept (Makes len) true n out = absurd (true≢false out)
      kept (Puts offset bytes) true n out = refl
      kept act false n out = refl

      stays : (file : List ℕ) (n : ℕ) → (is_own file e && makes e.act) ≡ false → cond (is_own file e) (Rattle.mm_crash.specs.Overlay.size_after e.act n) n ≡ n
      stays file n out = kept e.act (is_own file e) n out

  abbrev pub AreDataNames : List (List ℕ) → Type 0
  AreDataNames [] = Unit {0}
  AreDataNames (n ∷ names) = IsData at n × AreDataNames names

  pub sync_keeps : (names : List (List ℕ)) → AreDataNames names → AllKeep (sync_asks names)
  sync_keeps [] are = tt
  sync_keeps (n ∷ names) are = (are.0, (within_sync entries n (old n), sync_keeps names are.1))

-- ---- what is read after entries are laid

cut : (len : ℕ) → take {A = ℕ} len [] ++ replicate (len - 0) 0 ≡ replicate len 0
cut len = ap (λ (l : List ℕ). l ++ replicate (len - 0) 0) (take-nil len) ∙ ap (λ n. replicate {A = ℕ} n 0) (omega arith)

made_of : (len : ℕ) (f : Option (List ℕ)) → file_after (Resizes len) (file_after (Resizes 0) (file_after Creates f)) ≡ Some (replicate len 0)
made_of len None = ap (λ (l : List ℕ). Some l) (cut len)
made_of len (Some x) =
    let none : 0 - length x ≡ 0 = omega arith in
    ap (λ n. let l : List ℕ = replicate n 0 in Some (take len l ++ replicate (len - length l) 0)) none ∙ ap (λ (l : List ℕ). Some l) (cut len)

put_in : (offset : ℕ) (bytes : List ℕ) (f : Option (List ℕ)) → file_after (Writes offset bytes) (file_after Creates f) ≡ Some (overwritten offset bytes (unwrap_or f []))
put_in offset bytes None = refl
put_in offset bytes (Some x) = refl

file_of : (u : Told) (name : List ℕ) (change : Change) → (place_of (called name change true u) name).file ≡ file_after change (place_of u name).file
file_of u name change = ap (λ (p : Place). p.file) (place_here u name change true)

act_reads : (file : List ℕ) (act : Act) (u : Told) → (place_of (asked (act_asks file act) u) file).file ≡ put act (place_of u file).file
act_reads file (Makes len) u =
    file_of (called file (Resizes 0) true (called file Creates true u)) file (Resizes len)
    ∙ ap (file_after (Resizes len)) (file_of (called file Creates true u) file (Resizes 0) ∙ ap (file_after (Resizes 0)) (file_of u file Creates))
    ∙ made_of len (place_of u file).file
act_reads file (Puts offset bytes) u = file_of (called file Creates true u) file (Writes offset bytes) ∙ ap (file_after (Writes offset bytes)) (file_of u file Creates) ∙ put_in offset bytes (place_of u file).file

pub act_spares : (name : List ℕ) (act : Act) (q : List ℕ) → q ≢ name → SparesFile q (act_asks name act)
act_spares name (Makes len) q other = (other, (other, (other, tt)))
act_spares name (Puts offset bytes) q other = (other, (other, tt))

one_laid : (e : Entry) (file : List ℕ) (u : Told) (own : Bool) → is_own file e ≡ own → (place_of (asked (act_asks e.file e.act) u) file).file ≡ cond own (put e.act (place_of u file).file) (place_of u file).file
one_laid e file u true is =
    let same : file ≡ e.file = one_name file e.file is in
    subst (λ (n : List ℕ). (place_of (asked (act_asks n e.act) u) file).file ≡ put e.act (place_of u file).file) same (act_reads file e.act u)
one_laid e file u false is = ap (λ (p : Place). p.file) (spared_asked (act_asks e.file e.act) file u (act_spares e.file e.act file (Rattle.mm_outside.proofs.Places.apart file e.file is)))

pub laid_reads : (rs : List Entry) (file : List ℕ) (u : Told) → (place_of (asked (lay_asks rs) u) file).file ≡ over rs file (place_of u file).file
laid_reads [] file u = refl
laid_reads (e ∷ rs) file u =
    ap (λ (t : Told). (place_of t file).file) (asked-append (act_asks e.file e.act) (lay_asks rs) u)
    ∙ laid_reads rs file (asked (act_asks e.file e.act) u)
    ∙ ap (over rs file) (one_laid e file u (is_own file e) refl)

-- a sync changes nothing that is read
one_synced : (name file : List ℕ) (u : Told) (same : Bool) → eq_by_cmp name_cmp file name ≡ same → (place_of (called name Syncs true u) file).file ≡ (place_of u file).file
one_synced name file u true e = ap (λ (p : Place). p.file) (place_step u name file Syncs true true e)
one_synced name file u false e = ap (λ (p : Place). p.file) (place_there u name file Syncs true e)

pub synced_reads : (names : List (List ℕ)) (file : List ℕ) (u : Told) → (place_of (asked (sync_asks names) u) file).file ≡ (place_of u file).file
synced_reads [] file u = refl
synced_reads (n ∷ names) file u = synced_reads names file (called n Syncs true u) ∙ one_synced n file u _ refl

-- ---- what the syncs leave on the disk

-- that the file isn't there is sure
abbrev pub IsSure : Place → Type 0
IsSure p = is_some p.file ≡ false → p.pending.is_unsure ≡ false

sure_synced : (file : List ℕ) (p : Place) → IsSure p → IsSettled file (place_by Syncs true p)
sure_synced file p sure = by p.file p.pending p.writes p.last_synced sure
  where
    by : (f : Option (List ℕ)) (pd : Pending) (ws : List (ℕ × List ℕ)) (st : Option (List ℕ)) → (is_some f ≡ false → pd.is_unsure ≡ false) → IsSettled file (place_by Syncs true (record { file = f; pending = pd; writes = ws; last_synced = st }))
    by None pd ws st sure = record { sure = λ e. sure refl; least = λ e s. absurd (true≢false (sym s)); greatest = λ e s. absurd (true≢false (sym s)); written = λ i out s. absurd (true≢false (sym s)); now = differs_not [] file None }
    by (Some x) pd ws st sure = record { sure = λ e. refl; least = λ e s. refl; greatest = λ e s. refl; written = λ i out s. refl; now = differs_not [] file (Some x) }

settled_sure : (file : List ℕ) (p : Place) → IsSettled file p → IsSure p
settled_sure file p s = λ e. s.sure refl

settled_stays : (name file : List ℕ) (u : Told) (same : Bool) → eq_by_cmp name_cmp file name ≡ same → IsSettled file (place_of u file) → IsSettled file (place_of (called name Syncs true u) file)
settled_stays name file u true e s = subst (IsSettled file) (sym (place_step u name file Syncs true true e)) (sure_synced file (place_of u file) (settled_sure file (place_of u file) s))
settled_stays name file u false e s = subst (IsSettled file) (sym (place_there u name file Syncs true e)) s

all_stay : (names : List (List ℕ)) (file : List ℕ) (u : Told) → IsSettled file (place_of u file) → IsSettled file (place_of (asked (sync_asks names) u) file)
all_stay [] file u s = s
all_stay (n ∷ names) file u s = all_stay names file (called n Syncs true u) (settled_stays n file u _ refl s)

-- the file is one of these
abbrev pub is_among : List ℕ → List (List ℕ) → Bool
is_among file [] = false
is_among file (n ∷ names) = eq_by_cmp name_cmp file n || is_among file names

among_settles : (names : List (List ℕ)) (file : List ℕ) (u : Told) → is_among file names ≡ true → IsSure (place_of u file) → IsSettled file (place_of (asked (sync_asks names) u) file)
among_settles [] file u is sure = absurd (true≢false (sym is))
among_settles (n ∷ names) file u is sure = by (among_settles names file (called n Syncs true u)) (eq_by_cmp name_cmp file n) refl is
  where
    by : (is_among file names ≡ true → IsSure (place_of (called n Syncs true u) file) → IsSettled file (place_of (asked (sync_asks names) (called n Syncs true u)) file)) → (same : Bool) → eq_by_cmp name_cmp file n ≡ same → (same || is_among file names) ≡ true
        → IsSettled file (place_of (asked (sync_asks names) (called n Syncs true u)) file)
    by next true e is = all_stay names file (called n Syncs true u) (subst (IsSettled file) (sym (place_step u n file Syncs true true e)) (sure_synced file (place_of u file) sure))
    by next false e is = next is (subst IsSure (sym (place_there u n file Syncs true e)) sure)

untouched : (entries : List Entry) (file : List ℕ) (old : Option (List ℕ)) (p : Place) → ((i : ℕ) → is_covered file i entries ≡ false) → IsWithin entries file old p → IsSettled file p
untouched entries file old p none w =
    let isnt = uncovered_unmade entries file 0 (none 0) in
    record {
      sure = λ e. w.sure isnt;
      least = λ e some. w.least isnt some ∙ sym (w.now.sized isnt);
      greatest = λ e some. w.greatest isnt some ∙ sym (w.now.sized isnt);
      written = λ i out some. w.written i (none i) some;
      now = differs_not [] file p.file;
    }

-- The files of these entries are synced, which are all that were laid.
pub synced_settles : (entries : List Entry) (old : Option (List ℕ)) (names : List (List ℕ)) (file : List ℕ) (u : Told) → (is_among file names ≡ false → (i : ℕ) → is_covered file i entries ≡ false) → IsWithin entries file old (place_of u file) → IsSure (place_of u file) → IsSettled file (place_of (asked (sync_asks names) u) file)
synced_settles entries old names file u all w sure = elim (cases_Bool (is_among file names)) [
  | inl among ↦ among_settles names file u among sure
  | inr apart ↦ all_stay names file u (untouched entries file old (place_of u file) (all apart) w)
]

-- after entries are laid that make the file, it is there; after others it was sure
pub laid_sure : (entries : List Entry) (file : List ℕ) (old : Option (List ℕ)) (p : Place) → (is_made file entries ≡ true → is_some p.file ≡ true) → IsWithin entries file old p → IsSure p
laid_sure entries file old p made w = λ none. elim (cases_Bool (is_made file entries)) [
  | inl is ↦ absurd (true≢false (sym (made is) ∙ none))
  | inr isnt ↦ w.sure isnt
]
