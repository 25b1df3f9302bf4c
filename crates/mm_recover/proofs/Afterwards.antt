-- What a recovery has done at each of its exits.
use Rattle.std.proofs.Common.{◌≡◌, ◌≢◌, ◌⊎◌, inl, inr, ℕ, ◌^◌, true, List, [], ◌∷◌, ◌++◌, map, String, string_bytes, Option, Some, None, refl, sym, ◌∙◌, ap, subst, arith}
use Rattle.std.specs.declared.alloc.Global.{Global}
use Rattle.std.specs.Prelude.{unwrap_or}
use Rattle.std.specs.FinMap.{get, keys}
use Rattle.std.proofs.lemmas.Bool.{cases_lt}
use Rattle.mm_outside.specs.Image.{Image}
use Rattle.mm_outside.specs.Told.{Change, Told, called, image_of, IfTold, Creates, Writes, Resizes, Syncs}
use Rattle.mm_outside.specs.Crash.{file_after}
use Rattle.mm_outside.specs.Place.{Place, place_of}
use Rattle.mm_outside.specs.Ask.{Ask, asked, IsCut, Makes, MakesSome, SparesFile}
use Rattle.mm_outside.proofs.Places.{place_here}
use Rattle.mm_outside.proofs.Cuts.{asked-append, cut_before, cut_all, spared_asked}
use Rattle.mm_section.specs.declared.section.Section.{Section}
use Rattle.mm_crash.specs.Overlay.{over}
use Rattle.mm_crash.specs.Journal.{AllCan, above, entries_of}
use Rattle.mm_crash.specs.Recovered.{IsData, Files, Recovers, journal_of}
use Rattle.mm_crash.specs.Chance.{RecoversAt}
use Rattle.mm_crash.specs.Rest.{IsRecovered}
use Rattle.mm_crash.specs.Asks.{lay_asks, sync_asks, mark_asks, remove_asks}
use Rattle.mm_crash.proofs.LsnSteps.{marked}
use Rattle.mm_crash.proofs.FileRuns.{laid_reads, synced_reads}
use Rattle.mm_journal.proofs.Real.{the_format, the_names}
use Rattle.mm_recover.specs.declared.fault.Recover.{Recover}
use Rattle.mm_recover.specs.declared.fault.Recover.TheVariants.{DiskFault, NoMemory, BadHeader, JournalGap, BadLength}
use Rattle.mm_recover.specs.declared.replaying.Recovered.{Recovered}
use Rattle.mm_recover.specs.Touched.{AreTouched}
use Rattle.mm_recover.specs.Recovering.{settle_asks, settled, Settles, SettlesSome, ReadsLog, IsFaultOf, IsOfDevice, newer_of, laid_by, last_number, replay_asks, Replays, OnlySettled, EndsRecovered, KeepsRecovery, KeepsSettled}
use Rattle.mm_recover.proofs.Settling.{image_synced, settled_clean, clean_settles, leaves_syncs, told_early, leaves_joined}
use Rattle.mm_recover.proofs.Cleared.{laid_data, over_other, removed}
use Rattle.mm_recover.proofs.FileNumbers.{journal_past, journal_below, below, past}
use Rattle.mm_recover.proofs.Replays.{Matches, matches, replay_cut, replay_done}

-- ---- after the first syncs, or some of them

pub settles_some : (old new : Option Told) → Settles old new → SettlesSome old new
settles_some old new made = λ t is. (settled t, made t is, cut_all (settle_asks t) t)

pub keeps_some : (old new : Option Told) → SettlesSome old new → KeepsRecovery old new
keeps_some old new some = λ files t is clean w. let c = some t is in (c.0, c.1, leaves_syncs files t w clean (keys (image_of t)) c.0 c.2)

pub keeps_some_settled : (old new : Option Told) → SettlesSome old new → KeepsSettled old new
keeps_some_settled old new some = λ files t is can w. let c = some t is in (c.0, c.1, inl c.2)

pub device_fault : (image : Image) (e : Recover) → IsOfDevice e → IsFaultOf image e
device_fault image DiskFault is = tt
device_fault image NoMemory is = tt
device_fault image (BadHeader file) is = absurd is
device_fault image (JournalGap expected found) is = absurd is
device_fault image (BadLength file len) is = absurd is

pub device_only : (old new : Option Told) (e : Recover) → IsOfDevice e → OnlySettled e old new
device_only old new DiskFault is = tt
device_only old new NoMemory is = tt
device_only old new (BadHeader file) is = absurd is
device_only old new (JournalGap expected found) is = absurd is
device_only old new (BadLength file len) is = absurd is

pub settled_only : (old new : Option Told) (e : Recover) → Settles old new → OnlySettled e old new
settled_only old new DiskFault made = tt
settled_only old new NoMemory made = tt
settled_only old new (BadHeader file) made = made
settled_only old new (JournalGap expected found) made = made
settled_only old new (BadLength file len) made = made

-- the syncs of all files that are there, by the names that were told
pub settle_none : (old new : Option Told) → new ≡ old → SettlesSome old new
settle_none old new same = λ t is. (t, same ∙ is, cut_before (settle_asks t) t)

pub settle_made : (old mid new : Option Told) (names : List (List ℕ)) → IfTold old (λ t. names ≡ keys (image_of t)) → mid ≡ old → Makes (sync_asks names) mid new → Settles old new
settle_made old mid new names named same made = λ t is. made t (same ∙ is) ∙ ap (λ (l : List (List ℕ)). Some (asked (sync_asks l) t)) (named t is)

pub settle_cut : (old mid new : Option Told) (names : List (List ℕ)) → IfTold old (λ t. names ≡ keys (image_of t)) → mid ≡ old → MakesSome (sync_asks names) mid new → SettlesSome old new
settle_cut old mid new names named same some = λ t is. let c = some t (same ∙ is) in (c.0, c.1, subst (λ (l : List (List ℕ)). IsCut (sync_asks l) t c.0) (named t is) c.2)

pub settles_same : (old mid new : Option Told) → Settles old mid → new ≡ mid → Settles old new
settles_same old mid new made same = λ t is. same ∙ made t is

-- a fault that was read after the first syncs is one of the image before them
pub fault_settled : (old mid : Option Told) (names : List (List ℕ)) (e : Recover) → Settles old mid → IfTold old (λ t. names ≡ keys (image_of t)) → IfTold mid (λ t. names ≡ keys (image_of t) → IsFaultOf (image_of t) e) → IfTold old (λ t. IsFaultOf (image_of t) e)
fault_settled old mid names e made named fault = λ t is.
    let same : image_of (settled t) ≡ image_of t = image_synced (keys (image_of t)) t in
    subst (λ (i : Image). IsFaultOf i e) same (fault (settled t) (made t is) (named t is ∙ ap keys (sym same)))

-- ---- what is read at the end

spares_marks : (q : List ℕ) (size : ℕ) (bytes : List ℕ) → q ≢ the_names.lsn → SparesFile q (mark_asks the_names.lsn size bytes)
spares_marks q size bytes ne = (ne, (ne, (ne, (ne, tt))))

spares_removals : (q : List ℕ) (ns : List ℕ) → ((n : ℕ) → q ≢ the_names.journal n) → SparesFile q (remove_asks the_names ns)
spares_removals q [] ne = tt
spares_removals q (n ∷ ns) ne = (ne n, spares_removals q ns ne)

file_of : (u : Told) (name : List ℕ) (change : Change) → (place_of (called name change true u) name).file ≡ file_after change (place_of u name).file
file_of u name change = ap (λ (p : Place). p.file) (place_here u name change true)

-- the lsn file holds what was written
mark_reads : (lsn : List ℕ) (size : ℕ) (bytes : List ℕ) (u : Told) → Rattle.std.proofs.Common.length bytes ≡ size → (place_of (asked (mark_asks lsn size bytes) u) lsn).file ≡ Some bytes
mark_reads lsn size bytes u sized =
    let u1 = called lsn Creates true u in
    let u2 = called lsn (Resizes size) true u1 in
    let u3 = called lsn (Writes 0 bytes) true u2 in
    file_of u3 lsn Syncs
    ∙ ap (file_after Syncs) (file_of u2 lsn (Writes 0 bytes))
    ∙ ap (λ (f : Option (List ℕ)). file_after Syncs (file_after (Writes 0 bytes) f)) (file_of u1 lsn (Resizes size))
    ∙ ap (λ (f : Option (List ℕ)). file_after Syncs (file_after (Writes 0 bytes) (file_after (Resizes size) f))) (file_of u lsn Creates)
    ∙ ap (λ (p : Place). p.file) (marked size bytes (place_of u lsn).file sized)

module _ (s : Told) (lsn : Option ℕ) (ns : List ℕ) (sections : List Section) (names : List (List ℕ)) where
  abbrev laying : List Ask
  laying = lay_asks (laid_by lsn sections)

  abbrev number : ℕ
  number = last_number lsn sections

  abbrev marks : List Ask
  marks = mark_asks the_names.lsn the_format.size (the_format.number number)

  abbrev removals : List Ask
  removals = remove_asks the_names ns

  abbrev asks : List Ask
  asks = replay_asks lsn ns sections names

  abbrev u1 : Told
  u1 = asked (sync_asks names) (asked laying s)

  abbrev u2 : Told
  u2 = asked marks u1

  parts : asked asks s ≡ asked removals u2
  parts = asked-append laying _ s ∙ asked-append (sync_asks names) _ (asked laying s) ∙ asked-append marks removals u1

  pub reads_files : (file : List ℕ) → IsData the_names file → get (image_of (asked asks s)) file ≡ over (laid_by lsn sections) file (get (image_of s) file)
  reads_files file is =
      ap (λ (t : Told). get (image_of t) file) parts
      ∙ ap (λ (p : Place). p.file) (spared_asked removals file u2 (spares_removals file ns is.not_journal))
      ∙ ap (λ (p : Place). p.file) (spared_asked marks file u1 (spares_marks file the_format.size (the_format.number number) is.not_lsn))
      ∙ synced_reads names file (asked laying s)
      ∙ laid_reads (laid_by lsn sections) file s

  pub reads_mark : get (image_of (asked asks s)) the_names.lsn ≡ Some (the_format.number number)
  reads_mark =
      ap (λ (t : Told). get (image_of t) the_names.lsn) parts
      ∙ ap (λ (p : Place). p.file) (spared_asked removals the_names.lsn u2 (spares_removals the_names.lsn ns (λ n e. the_names.apart n (sym e))))
      ∙ mark_reads the_names.lsn the_format.size (the_format.number number) u1 (the_format.sized number)

  at_first : AllCan the_format sections → (n : ℕ) → (place_of u2 (the_names.journal n)).file ≡ get (image_of s) (the_names.journal n)
  at_first can n =
      ap (λ (p : Place). p.file) (spared_asked marks (the_names.journal n) u1 (spares_marks (the_names.journal n) the_format.size (the_format.number number) (the_names.apart n)))
      ∙ synced_reads names (the_names.journal n) (asked laying s)
      ∙ laid_reads (laid_by lsn sections) (the_names.journal n) s
      ∙ over_other (laid_by lsn sections) n (get (image_of s) (the_names.journal n)) (laid_data (unwrap_or lsn 0) sections can)

  pub reads_none : AllCan the_format sections → ReadsLog (image_of s) lsn ns sections → (n : ℕ) → journal_of the_names (image_of (asked asks s)) n ≡ None
  reads_none can log n = elim (cases_lt n (2 ^ 32)) [
    | inr le ↦ journal_past (image_of (asked asks s)) n (past n le)
    | inl lt ↦
        let first = at_first can n ∙ sym (journal_below (image_of s) n (below n lt)) in
        let gone = removed (journal_of the_names (image_of s)) 0 log.journal.runs u2 n log.journal.has (omega arith) first in
        let all = subst (λ (l : List ℕ). (place_of (asked (remove_asks the_names l) u2) (the_names.journal n)).file ≡ None) log.journal.numbers_are gone in
        journal_below (image_of (asked asks s)) n (below n lt) ∙ ap (λ (t : Told). get (image_of t) (the_names.journal n)) parts ∙ all
  ]

-- ---- the last exit

module _ (old mid now new : Option Told) (all : List (List ℕ)) (lsn : Option ℕ) (ns : List ℕ) (sections : List Section) (names : List (List ℕ)) (settles : Settles old mid) (same : now ≡ mid) (named : IfTold old (λ t. all ≡ keys (image_of t))) (reads : IfTold mid (λ t. all ≡ keys (image_of t) → ReadsLog (image_of t) lsn ns sections)) where
  abbrev pub calls : List Ask
  calls = replay_asks lsn ns sections names

  same_read : (t : Told) → image_of (settled t) ≡ image_of t
  same_read t = image_synced (keys (image_of t)) t

  log_settled : (t : Told) → old ≡ Some t → ReadsLog (image_of (settled t)) lsn ns sections
  log_settled t is = reads (settled t) (settles t is) (named t is ∙ ap keys (sym (same_read t)))

  pub log_is : (t : Told) → old ≡ Some t → ReadsLog (image_of t) lsn ns sections
  log_is t is = subst (λ (i : Image). ReadsLog i lsn ns sections) (same_read t) (log_settled t is)

  now_is : (t : Told) → old ≡ Some t → now ≡ Some (settled t)
  now_is t is = same ∙ settles t is

  module _ (touched : AreTouched (laid_by lsn sections) names) where
    matched : (files : Files) (t : Told) → old ≡ Some t → Recovers the_format the_names (image_of t) files → Matches (image_of (settled t)) files lsn ns sections
    matched files t is w = matches (image_of (settled t)) files lsn ns sections (subst (λ (i : Image). Recovers the_format the_names i files) (sym (same_read t)) w) (log_settled t is)

    pub keeps_settled : MakesSome calls now new → KeepsSettled old new
    keeps_settled some = λ files t is can w.
        let c = some (settled t) (now_is t is) in
        (c.0, c.1, inr (replay_cut files (settled t) lsn ns sections names touched (settled_clean t can) (matched files t is w) c.0 c.2))

    pub keeps_recovery : MakesSome calls now new → KeepsRecovery old new
    keeps_recovery some = λ files t is clean w.
        let c = some (settled t) (now_is t is) in (
          c.0,
          c.1,
          leaves_joined (RecoversAt the_format the_names files) t (settled t) c.0 (told_early calls (settled t) c.0 c.2)
              (leaves_syncs files t w clean (keys (image_of t)) (settled t) (cut_all (settle_asks t) t))
              (replay_cut files (settled t) lsn ns sections names touched (settled_clean t (clean_settles t clean)) (matched files t is w) c.0 c.2),
        )

    pub ends_recovered : (r : Recovered) → r.last ≡ last_number lsn sections → Makes calls now new → EndsRecovered r old new
    ends_recovered r last made = λ files t is can w. (
      asked calls (settled t),
      made (settled t) (now_is t is),
      subst (λ n. IsRecovered the_format the_names files n (asked calls (settled t))) (sym last) (replay_done files (settled t) lsn ns sections names touched (settled_clean t can) (matched files t is w)),
    )

  pub replays_all : AllCan the_format sections → (r : Recovered) → r.last ≡ last_number lsn sections → r.replayed ≡ Rattle.std.proofs.Common.length (newer_of lsn sections) → Makes calls now new → Replays r old new
  replays_all can r last replayed made = λ t is. (
    asked calls (settled t),
    made (settled t) (now_is t is),
    record {
      lsn = lsn;
      numbers = ns;
      sections = sections;
      log = log_is t is;
      last = last;
      replayed = replayed;
      files = λ file data_file. reads_files (settled t) lsn ns sections names file data_file ∙ ap (λ (i : Image). over (laid_by lsn sections) file (get i file)) (same_read t);
      cleared = reads_none (settled t) lsn ns sections names can (log_settled t is);
      marked = reads_mark (settled t) lsn ns sections names ∙ ap (λ n. Some (the_format.number n)) (sym last);
    },
  )

-- the names that were told, as they are handed on
pub names_told : (old : Option Told) (none out names : List (String Global)) → none ≡ [] → names ≡ out → IfTold old (λ t. map string_bytes out ≡ map string_bytes none ++ keys (image_of t)) → IfTold old (λ t. map string_bytes names ≡ keys (image_of t))
names_told old none out names empty same told = λ t is. ap (map string_bytes) same ∙ told t is ∙ ap (λ (l : List (String Global)). map string_bytes l ++ keys (image_of t)) empty

-- the touched names, as they are handed on
pub touched_as : (lsn : Option ℕ) (sections : List Section) (l : ℕ) (ss : List Section) (names ks : List (String Global)) → l ≡ unwrap_or lsn 0 → ss ≡ sections → ks ≡ names → AreTouched (entries_of the_names.disk_name (above l ss)) (map string_bytes names) → AreTouched (laid_by lsn sections) (map string_bytes ks)
touched_as lsn sections l ss names ks e f h touched =
    subst (λ (n : List (String Global)). AreTouched (laid_by lsn sections) (map string_bytes n)) (sym h)
    (subst (λ (s : List Section). AreTouched (entries_of the_names.disk_name (above (unwrap_or lsn 0) s)) (map string_bytes names)) f
    (subst (λ n. AreTouched (entries_of the_names.disk_name (above n ss)) (map string_bytes names)) e touched))
