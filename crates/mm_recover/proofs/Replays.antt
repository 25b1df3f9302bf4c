-- A recovery that is stopped anywhere leaves images with the same recovery, and one that isn't leaves the recovered files.
use Rattle.std.proofs.Common.{◌≡◌, ◌≢◌, ◌⊎◌, inl, inr, ℕ, ◌+◌, ◌<◌, ◌≤◌, ◌^◌, Bool, true, false, List, [], ◌∷◌, length, Option, Some, None, refl, sym, ◌∙◌, ap, subst, arith}
use mathlib.Core.Bool.{true≢false}
use Rattle.std.specs.Prelude.{◌||◌, ◌&&◌, unwrap_or}
use Rattle.std.specs.List.{list_any}
use Rattle.std.specs.Ordering.{eq_by_cmp}
use Rattle.std.specs.FinMap.{get}
use Rattle.mm_outside.specs.Image.{Image, name_cmp, bytes_at}
use Rattle.mm_outside.specs.Told.{Told, image_of, MayLeaveFile}
use Rattle.mm_outside.specs.Place.{Place, IsClean}
use Rattle.mm_outside.specs.Ask.{Ask, asked, IsCut}
use Rattle.mm_outside.specs.Leaves.{Leaves}
use Rattle.mm_outside.proofs.Places.{one_name, same_name}
use Rattle.mm_section.specs.declared.section.Section.{Section}
use Rattle.mm_crash.specs.Overlay.{Entry, is_own, is_covered, covers, over, size, Fits, IsMadeOnce}
use Rattle.mm_crash.specs.Journal.{entries_of, above, IsNumbered}
use Rattle.mm_crash.specs.Recovered.{IsData, AreData, Files, HasNumber, Recovers, journal_of}
use Rattle.mm_crash.specs.Chance.{RecoversAt}
use Rattle.mm_crash.specs.Parts.{MayLeaveAll}
use Rattle.mm_crash.specs.Rest.{IsRecovered}
use Rattle.mm_crash.specs.Asks.{recovery_asks}
use Rattle.mm_crash.proofs.One.{same_journal}
use Rattle.mm_crash.proofs.Parts.{Respects}
use Rattle.mm_crash.proofs.Recovery.{newer_named}
use Rattle.mm_crash.proofs.FileRuns.{AreDataNames, is_among}
use Rattle.mm_crash.proofs.RecoveryRun.{entries, respects1, recovery_cut, recovery_done}
use Rattle.mm_journal.specs.Tracks.{last_of}
use Rattle.mm_journal.proofs.Real.{the_format, the_names}
use Rattle.mm_recover.specs.Reading.{numbers_of}
use Rattle.mm_recover.specs.Touched.{is_touched, AreTouched}
use Rattle.mm_recover.specs.Recovering.{ReadsLog, laid_by, last_number, replay_asks}

-- ---- one lsn

abbrev SmallIn : Image → Type 0
SmallIn image = (n : ℕ) → bytes_at image the_names.lsn ≡ the_format.number n → n < 2 ^ 64

same_lsn : (image : Image) (a b : Option ℕ) → SmallIn image → HasNumber the_format (bytes_at image the_names.lsn) a → HasNumber the_format (bytes_at image the_names.lsn) b → a ≡ b
same_lsn image None None small ha hb = refl
same_lsn image None (Some n) small ha hb = absurd (ha n hb)
same_lsn image (Some m) None small ha hb = absurd (hb m ha)
same_lsn image (Some m) (Some n) small ha hb = ap (λ (k : ℕ). Some k) (the_format.one m n (small m ha) (small n hb) (sym ha ∙ hb))

-- ---- the whole image, with what was read of it

record Rest (image : Image) (files : Files) (before : ℕ) (lsn : Option ℕ) (sections : List Section) : Type 0 where
  numbered : IsNumbered before sections
  no_gap : (n : ℕ) → lsn ≡ Some n → sections ≢ [] → before ≤ n
  named : AreData the_names (entries_of the_names.disk_name sections)
  once : (file : List ℕ) → IsData the_names file → IsMadeOnce file (entries_of the_names.disk_name sections)
  inside : (file : List ℕ) → IsData the_names file → Fits file (size (get image file)) (entries_of the_names.disk_name sections)
  inside_newer : (file : List ℕ) → IsData the_names file → Fits file (size (get image file)) (entries_of the_names.disk_name (above (unwrap_or lsn 0) sections))
  all : (file : List ℕ) → IsData the_names file → over (entries_of the_names.disk_name sections) file (get image file) ≡ files file
  newer : (file : List ℕ) → IsData the_names file → over (entries_of the_names.disk_name (above (unwrap_or lsn 0) sections)) file (get image file) ≡ files file

rest_of : (image : Image) (files : Files) (w : Recovers the_format the_names image files) → Rest image files w.before w.lsn w.sections
rest_of image files w = record { numbered = w.numbered; no_gap = w.no_gap; named = w.named; once = w.once; inside = w.inside; inside_newer = w.inside_newer; all = w.all; newer = w.newer }

pub record Matches (image : Image) (files : Files) (lsn : Option ℕ) (numbers : List ℕ) (sections : List Section) : Type 0 where
  pub w : Recovers the_format the_names image files
  pub lsn_is : w.lsn ≡ lsn
  pub sections_are : w.sections ≡ sections
  pub numbers_are : numbers_of w.journal.runs ≡ numbers

pub matches : (image : Image) (files : Files) (lsn : Option ℕ) (ns : List ℕ) (sections : List Section) → Recovers the_format the_names image files → ReadsLog image lsn ns sections → Matches image files lsn ns sections
matches image files lsn ns sections w log =
    let one : w.lsn ≡ lsn = same_lsn image w.lsn lsn log.mark.small w.reads log.mark.reads in
    let same : w.sections ≡ sections = sym w.journal.all ∙ same_journal the_format (journal_of the_names image) 0 w.journal.runs log.journal.runs w.journal.has log.journal.has ∙ log.journal.all in
    let rest : Rest image files w.before lsn sections = subst (Rest image files w.before lsn) same (subst (λ (o : Option ℕ). Rest image files w.before o w.sections) one (rest_of image files w)) in
    record {
      w = record {
        lsn = lsn;
        reads = log.mark.reads;
        sections = sections;
        journal = record { runs = log.journal.runs; has = log.journal.has; all = log.journal.all };
        before = w.before;
        numbered = rest.numbered;
        no_gap = rest.no_gap;
        named = rest.named;
        once = rest.once;
        inside = rest.inside;
        inside_newer = rest.inside_newer;
        all = rest.all;
        newer = rest.newer;
      };
      lsn_is = refl;
      sections_are = refl;
      numbers_are = log.journal.numbers_are;
    }

-- ---- the number that is written

last_numbered : (before : ℕ) (sections : List Section) → IsNumbered before sections → sections ≢ [] → last_of sections ≡ before + length sections
last_numbered before [] numbered some = absurd (some refl)
last_numbered before (x ∷ []) numbered some = numbered.0
last_numbered before (x ∷ y ∷ ys) numbered some = last_numbered (before + 1) (y ∷ ys) numbered.1 (λ e. absurd cc) ∙ omega arith

-- ---- the files that are synced

either : (a b : Bool) → (a || b) ≡ true → (a ≡ true) ⊎ (b ≡ true)
either true b e = inl refl
either false b e = inr e

touched_data : (rs : List Entry) (file : List ℕ) → AreData the_names rs → is_touched file rs ≡ true → IsData the_names file
touched_data [] file are e = absurd (true≢false (sym e))
touched_data (r ∷ rs) file are e = elim (either (is_own file r) (is_touched file rs) e) [
  | inl own ↦ subst (IsData the_names) (sym (one_name file r.file own)) are.0
  | inr later ↦ touched_data rs file are.1 later
]

untouched : (rs : List Entry) (file : List ℕ) (i : ℕ) → is_touched file rs ≡ false → is_covered file i rs ≡ false
untouched [] file i e = refl
untouched (r ∷ rs) file i e = by (is_own file r) (covers r.act i) (is_touched file rs) (is_covered file i rs) e (untouched rs file i)
  where
    by : (own c t v : Bool) → (own || t) ≡ false → (t ≡ false → v ≡ false) → ((own && c) || v) ≡ false
    by true c t v e f = absurd (true≢false e)
    by false c t v e f = f e

among_any : (file : List ℕ) (names : List (List ℕ)) → is_among file names ≡ list_any (eq_by_cmp name_cmp file) names
among_any file [] = refl
among_any file (n ∷ names) = ap (λ (b : Bool). eq_by_cmp name_cmp file n || b) (among_any file names)

pub data_names : (Journal : (ℕ → Place) → Type 0) (respects : Respects Journal) (Lsn : Place → Type 0) (rs : List Entry) (old : Files) (names : List (List ℕ)) → ((file : List ℕ) → is_among file names ≡ true → IsData the_names file) → AreDataNames the_names Journal respects Lsn rs old names
data_names Journal respects Lsn rs old [] are = tt
data_names Journal respects Lsn rs old (n ∷ names) are = (
  are n (ap (λ (b : Bool). b || is_among n names) (same_name n)),
  data_names Journal respects Lsn rs old names (λ file among. are file (later (eq_by_cmp name_cmp file n) (is_among file names) among)),
)
  where
    later : (a b : Bool) → b ≡ true → (a || b) ≡ true
    later true b e = refl
    later false b e = e

-- ---- the run

abbrev Leaving : Files → Told → Told → Type 0
Leaving files t u = Leaves (RecoversAt the_format the_names files) t u

module _ (files : Files) (s : Told) (lsn : Option ℕ) (ns : List ℕ) (sections : List Section) (names : List (List ℕ)) (touched : AreTouched (laid_by lsn sections) names) (clean : IsClean s) (m : Matches (image_of s) files lsn ns sections) where
  same_laid : entries the_format the_names files s m.w clean names ≡ laid_by lsn sections
  same_laid = ap (λ (o : Option ℕ). laid_by o m.w.sections) m.lsn_is ∙ ap (laid_by lsn) m.sections_are

  abbrev asks : List Ask
  asks = replay_asks lsn ns sections names

  abbrev J : (ℕ → Place) → Type 0
  J place = (left : ℕ → Option (List ℕ)) → MayLeaveAll place left → (n : ℕ) → left n ≡ journal_of the_names (image_of s) n

  abbrev L : Place → Type 0
  L p = (left : Option (List ℕ)) → MayLeaveFile p.file p.pending left → left ≡ get (image_of s) the_names.lsn

  are_names : ((file : List ℕ) → is_among file names ≡ true → IsData the_names file) → AreDataNames the_names J (respects1 the_format the_names files s m.w clean names) L (entries the_format the_names files s m.w clean names) (get (image_of s)) names
  are_names = data_names J (respects1 the_format the_names files s m.w clean names) L (entries the_format the_names files s m.w clean names) (get (image_of s)) names

  -- the calls are those of the theory
  same_asks : asks ≡ recovery_asks the_format the_names (entries the_format the_names files s m.w clean names) names (last_number lsn sections) (numbers_of m.w.journal.runs)
  same_asks = ap (λ (l : List Entry). recovery_asks the_format the_names l names (last_number lsn sections) ns) (sym same_laid) ∙ ap (recovery_asks the_format the_names (entries the_format the_names files s m.w clean names) names (last_number lsn sections)) (sym m.numbers_are)

  are_data : AreData the_names (laid_by lsn sections)
  are_data = subst (AreData the_names) same_laid (newer_named the_format the_names files (image_of s) m.w)

  named : (file : List ℕ) → is_among file names ≡ true → IsData the_names file
  named file among = touched_data (laid_by lsn sections) file are_data (sym (touched.all file) ∙ sym (among_any file names) ∙ among)

  all : (file : List ℕ) → is_among file names ≡ false → (i : ℕ) → is_covered file i (entries the_format the_names files s m.w clean names) ≡ false
  all file apart i = subst (λ (l : List Entry). is_covered file i l ≡ false) (sym same_laid) (untouched (laid_by lsn sections) file i (sym (touched.all file) ∙ sym (among_any file names) ∙ apart))

  top : m.w.sections ≢ [] → m.w.before + length m.w.sections ≤ last_number lsn sections
  top some =
      let last : last_of m.w.sections ≡ m.w.before + length m.w.sections = last_numbered m.w.before m.w.sections m.w.numbered some in
      let same : last_of m.w.sections ≡ last_of sections = ap last_of m.sections_are in
      omega (arith, last, same)

  pub replay_cut : (v : Told) → IsCut asks s v → Leaving files s v
  replay_cut v cut = recovery_cut the_format the_names files s m.w clean names (are_names named) all (last_number lsn sections) top v (subst (λ (l : List Ask). IsCut l s v) same_asks cut)

  pub replay_done : IsRecovered the_format the_names files (last_number lsn sections) (asked asks s)
  replay_done = subst (λ (l : List Ask). IsRecovered the_format the_names files (last_number lsn sections) (asked l s)) (sym same_asks) (recovery_done the_format the_names files s m.w clean names (are_names named) all (last_number lsn sections) top)
