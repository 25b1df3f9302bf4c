-- The calls of a recovery, each of which may be the last.
use Rattle.std.proofs.Common.{◌≡◌, ◌≢◌, ◌⊎◌, inl, inr, ℕ, ◌+◌, ◌<◌, ◌≤◌, Bool, true, false, cond, List, [], ◌∷◌, ◌++◌, length, drop, map, Option, Some, None, refl, sym, ◌∙◌, ap, subst, arith}
use mathlib.Core.Bool.{true≢false}
use Rattle.std.proofs.lemmas.Bool.{cases_Bool, cases_eq, cases_lt}
use Rattle.std.proofs.lemmas.List.{drop_all, drop-drop}
use Rattle.std.proofs.lemmas.Option.{none-some, same_Some}
use Rattle.std.specs.Prelude.{unwrap_or, is_some, nat_lt, Contains}
use Rattle.std.specs.Ordering.{eq_by_cmp}
use Rattle.std.specs.FinMap.{get}
use Rattle.mm_outside.specs.Image.{Image, name_cmp, bytes_at}
use Rattle.mm_outside.specs.Told.{Change, Told, image_of, called, MayLeaveFile, Creates, Writes, Resizes, Syncs, Removes}
use Rattle.mm_outside.specs.Place.{Place, place_of, place_by, clean, IsClean}
use Rattle.mm_outside.specs.Ask.{Ask, asked, IsCut}
use Rattle.mm_outside.specs.Leaves.{LeavesNow, Leaves}
use Rattle.mm_outside.proofs.Places.{one_name, place_here}
use Rattle.mm_outside.proofs.Cuts.{asked-append, spared_asked, Safe, leaves_all, leaves_cut, cut_split}
use Rattle.mm_outside.proofs.LeavesRuns.{leaves_first}
use Rattle.mm_section.specs.declared.section.Section.{Section}
use Rattle.mm_crash.specs.Overlay.{Entry, is_covered}
use Rattle.mm_crash.specs.Journal.{Format, entries_of, Run, is_last, joined, HasFile, HasRuns, HasJournal}
use Rattle.mm_crash.specs.Recovered.{Names, IsData, Files, HasNumber, Recovers, journal_of}
use Rattle.mm_crash.specs.Chance.{IsOldOrNew, RecoversAt, places_of}
use Rattle.mm_crash.specs.Within.{IsSettled}
use Rattle.mm_crash.specs.Parts.{MayLeaveAll, Parts}
use Rattle.mm_crash.specs.Rest.{IsRecovered}
use Rattle.mm_crash.specs.Asks.{lay_asks, sync_asks, mark_asks, remove_asks, recovery_asks}
use Rattle.mm_crash.proofs.Overlay.{there-over, differs_nowhere}
use Rattle.mm_crash.proofs.Journals.{left_of_clean, absent_left, clean_left, earlier, has_same, journal_same}
use Rattle.mm_crash.proofs.LsnSteps.{only_one, apart_lists, marked}
use Rattle.mm_crash.proofs.Recovery.{newer, newer_named, recovers_laying, IsFine, recovers_laid}
use Rattle.mm_crash.proofs.Parts.{Respects, may_leave_all, journal_here, journal_there, journal_spares_lsn, journal_spares_file, lsn_spares_journal, lsn_spares_file, call_lsn}
use Rattle.mm_crash.proofs.FileSteps.{within_left, settled_clean, settled_within}
use Rattle.mm_crash.proofs.FileRuns.{Loose, AllKeep, loose_parts, loose_safe, can_lay, lay_keeps, keep_spares, laid_reads, AreDataNames, sync_keeps, synced_reads, is_among, synced_settles, laid_sure}

module _ (fmt : Format) (at : Names) (files : Files) (t : Told) (w : Recovers fmt at (image_of t) files) (fresh : IsClean t) (names : List (List ℕ)) where
  abbrev first : Image
  first = image_of t

  abbrev P : ℕ → Told → Image → Type 0
  P = RecoversAt fmt at files

  abbrev pub entries : List Entry
  entries = entries_of at.disk_name (newer fmt at files first w)

  -- ---- while the files are written and synced

  abbrev J1 : (ℕ → Place) → Type 0
  J1 place = (left : ℕ → Option (List ℕ)) → MayLeaveAll place left → (n : ℕ) → left n ≡ journal_of at first n

  pub respects1 : Respects J1
  respects1 p q same j left l = j left (λ n. subst (λ (x : Place). MayLeaveFile x.file x.pending (left n)) (same n) (l n))

  abbrev L1 : Place → Type 0
  L1 p = (left : Option (List ℕ)) → MayLeaveFile p.file p.pending left → left ≡ get first at.lsn

  abbrev Laying : (List ℕ → Place) → Type 0
  Laying place = Parts at J1 L1 entries (get first) place

  laying_now : (u : Told) (n : ℕ) → 0 ≤ n → Laying (place_of u) → LeavesNow P n u
  laying_now u n le parts m image lt left chance = recovers_laying fmt at files first w image (parts.journal (journal_of at image) (may_leave_all at u image left)) (parts.lsn _ (left at.lsn)) (λ file is. parts.files file is _ (left file))

  clean_places : (n : ℕ) → places_of at (place_of t) n ≡ clean (journal_of at first n)
  clean_places n = by (nat_lt n at.count)
    where
      by : (b : Bool) → cond b (place_of t (at.journal n)) (clean None) ≡ clean (cond b (get first (at.journal n)) None)
      by true = fresh (at.journal n)
      by false = refl

  j1_clean : (place : ℕ → Place) → ((n : ℕ) → place n ≡ clean (journal_of at first n)) → J1 place
  j1_clean place same left l n = left_of_clean (journal_of at first n) (left n) (subst (λ (x : Place). MayLeaveFile x.file x.pending (left n)) (same n) (l n))

  abbrev Loose1 : Told → Type 0
  Loose1 = Loose at J1 respects1 L1 entries (get first)

  loose0 : Loose1 t
  loose0 = record {
    journal = j1_clean (places_of at (place_of t)) clean_places;
    lsn = λ left l. left_of_clean (get first at.lsn) left (subst (λ (p : Place). MayLeaveFile p.file p.pending left) (fresh at.lsn) l);
    files = λ file is. settled_within entries file (get first file) (place_of t file) refl (subst (IsSettled file) (sym (fresh file)) (settled_clean file (get first file)));
  }

  module _ (of_data : AreDataNames at J1 respects1 L1 entries (get first) names) (all : (file : List ℕ) → is_among file names ≡ false → (i : ℕ) → is_covered file i entries ≡ false) where
    keep_lay : AllKeep at J1 respects1 L1 entries (get first) (lay_asks entries)
    keep_lay = lay_keeps at J1 respects1 L1 entries (get first) entries (can_lay at J1 respects1 L1 entries (get first) entries (newer_named fmt at files first w) (λ file i out. out) (λ file isnt. isnt) (λ file is isnt. w.inside_newer file is))

    keep_sync : AllKeep at J1 respects1 L1 entries (get first) (sync_asks names)
    keep_sync = sync_keeps at J1 respects1 L1 entries (get first) names of_data

    abbrev pub u0 : Told
    u0 = asked (lay_asks entries) t

    abbrev pub u1 : Told
    u1 = asked (sync_asks names) u0

    wrote : Safe Laying (lay_asks entries) t × Loose1 u0
    wrote = loose_safe at J1 respects1 L1 entries (get first) (lay_asks entries) keep_lay t loose0

    synced : Safe Laying (sync_asks names) u0 × Loose1 u1
    synced = loose_safe at J1 respects1 L1 entries (get first) (sync_asks names) keep_sync u0 wrote.1

    leaves0 : Leaves P t t
    leaves0 = leaves_first P t (laying_now t (length t.calls) (omega arith) (loose_parts at J1 respects1 L1 entries (get first) t loose0))

    leaves_u0 : Leaves P t u0
    leaves_u0 = leaves_all P Laying t 0 laying_now (lay_asks entries) t (omega arith) leaves0 wrote.0

    leaves_u1 : Leaves P t u1
    leaves_u1 = leaves_all P Laying t 0 laying_now (sync_asks names) u0 (omega arith) leaves_u0 synced.0

    no_journal : (n : ℕ) → IsData at (at.journal n) → ⊥
    no_journal n is = is.not_journal n refl

    no_lsn : IsData at at.lsn → ⊥
    no_lsn is = is.not_lsn refl

    spared : (q : List ℕ) → (IsData at q → ⊥) → place_of u1 q ≡ place_of t q
    spared q other = spared_asked (sync_asks names) q u0 (keep_spares at J1 respects1 L1 entries (get first) (sync_asks names) q other keep_sync) ∙ spared_asked (lay_asks entries) q t (keep_spares at J1 respects1 L1 entries (get first) (lay_asks entries) q other keep_lay)

    -- ---- the files are recovered

    pub reads1 : (file : List ℕ) → IsData at file → (place_of u1 file).file ≡ files file
    reads1 file is = synced_reads names file u0 ∙ laid_reads entries file t ∙ w.newer file is

    pub settled1 : (file : List ℕ) → IsData at file → IsSettled file (place_of u1 file)
    settled1 file is = synced_settles entries (get first file) names file u0 (all file) (wrote.1.files file is)
        (laid_sure entries file (get first file) (place_of u0 file) (λ made. ap is_some (laid_reads entries file t) ∙ there-over entries file (get first file) (inl made)) (wrote.1.files file is))

    journal1 : (n : ℕ) → places_of at (place_of u1) n ≡ clean (journal_of at first n)
    journal1 n = ap (λ (p : Place). cond (nat_lt n at.count) p (clean None)) (spared (at.journal n) (no_journal n)) ∙ clean_places n

    lsn1 : place_of u1 at.lsn ≡ clean (get first at.lsn)
    lsn1 = spared at.lsn no_lsn ∙ fresh at.lsn

    -- what the places may leave while the number is written: the journal is as it was
    abbrev L2 : Place → Type 0
    L2 p = (left : Option (List ℕ)) → MayLeaveFile p.file p.pending left → IsOldOrNew fmt p.last_synced p.writes (unwrap_or left []) → IsFine fmt at files first w 0 (unwrap_or left [])

    abbrev Laid : (List ℕ → Place) → Type 0
    Laid place = Parts at J1 L2 [] files place

    laid_now : (u : Told) (n : ℕ) → 0 ≤ n → Laid (place_of u) → LeavesNow P n u
    laid_now u n le parts m image lt left chance = recovers_laid fmt at files first w image (λ file is. differs_nowhere file _ _ (parts.files file is _ (left file))) 0
        (journal_same fmt _ _ w.sections (parts.journal (journal_of at image) (may_leave_all at u image left)) w.journal) (parts.lsn _ (left at.lsn) chance.number)

    module _ (number : ℕ) (top : w.sections ≢ [] → w.before + length w.sections ≤ number) where
      fine_new : (a : ℕ) → IsFine fmt at files first w a (fmt.number number)
      fine_new a = inr (number, refl, later)
        where
          later : drop a w.sections ≢ [] → w.before + a ≤ number
          later some =
              let inside : a ≤ length w.sections = elim (cases_lt (length w.sections) a) [ inl past ↦ absurd (some (drop_all a w.sections (omega arith))) | inr le ↦ le ] in
              omega (arith, top (λ (e : w.sections ≡ []). some (ap (drop a) e ∙ drop_all a [] (omega arith))), inside)

      fine_old : (left : List ℕ) → get first at.lsn ≡ Some left → IsFine fmt at files first w 0 left
      fine_old left is = by w.lsn w.reads w.no_gap
        where
          by : (lsn : Option ℕ) → HasNumber fmt (bytes_at first at.lsn) lsn → ((n : ℕ) → lsn ≡ Some n → w.sections ≢ [] → w.before ≤ n) → IsFine fmt at files first w 0 left
          by None reads gap = inl (λ n e. reads n (ap (λ (o : Option (List ℕ)). unwrap_or o []) is ∙ e))
          by (Some n) reads gap = inr (n, sym (ap (λ (o : Option (List ℕ)). unwrap_or o []) is) ∙ reads, λ some. omega (arith, gap n refl some))

      -- it is the old number, the new one, or no number
      fine : (left : List ℕ) → ((n : ℕ) → left ≡ fmt.number n → (get first at.lsn ≡ Some (fmt.number n)) ⊎ (fmt.number n ≡ fmt.number number)) → IsFine fmt at files first w 0 left
      fine left chance = elim (cases_Bool (eq_by_cmp name_cmp left (fmt.number number))) [
        | inl is_new ↦ subst (IsFine fmt at files first w 0) (sym (one_name left _ is_new)) (fine_new 0)
        | inr not_new ↦ by not_new (get first at.lsn) refl
      ]
        where
          by : eq_by_cmp name_cmp left (fmt.number number) ≡ false → (old : Option (List ℕ)) → get first at.lsn ≡ old → IsFine fmt at files first w 0 left
          by not_new None is = inl (λ n e. elim (chance n e) [ inl was ↦ none-some _ (sym is ∙ was) | inr new ↦ apart_lists left _ not_new (e ∙ new) ])
          by not_new (Some old) is = elim (cases_Bool (eq_by_cmp name_cmp left old)) [
            | inl is_old ↦ fine_old left (is ∙ ap (λ (l : List ℕ). Some l) (sym (one_name left old is_old)))
            | inr not_old ↦ inl (λ n e. elim (chance n e) [ inl was ↦ apart_lists left old not_old (e ∙ sym (same_Some _ _ (sym is ∙ was))) | inr new ↦ apart_lists left _ not_new (e ∙ new) ])
          ]

      none_there : (v : ℕ × List ℕ) → Contains [] v → ⊥
      none_there v c = absurd (omega (arith, c.1))

      fine_before : (p : Place) → p.last_synced ≡ get first at.lsn → p.writes ≡ [] → L2 p
      fine_before p settled writes left l chance = fine (unwrap_or left []) (λ n e. elim (chance n e) [
        | inl was ↦ inl (sym settled ∙ was)
        | inr new ↦ absurd (none_there _ (subst (λ (ws : List (ℕ × List ℕ)). Contains ws (0, fmt.number n)) writes new))
      ])

      fine_writing : (p : Place) → p.last_synced ≡ get first at.lsn → p.writes ≡ (0, fmt.number number) ∷ [] → L2 p
      fine_writing p settled writes left l chance = fine (unwrap_or left []) (λ n e. elim (chance n e) [
        | inl was ↦ inl (sym settled ∙ was)
        | inr new ↦ inr (sym (ap (λ (v : ℕ × List ℕ). v.1) (only_one _ _ (subst (λ (ws : List (ℕ × List ℕ)). Contains ws (0, fmt.number n)) writes new))))
      ])

      fine_after : L2 (clean (Some (fmt.number number)))
      fine_after left l chance = subst (IsFine fmt at files first w 0) (sym (ap (λ (o : Option (List ℕ)). unwrap_or o []) (left_of_clean (Some (fmt.number number)) left l))) (fine_new 0)

      -- the places of the lsn file, one after another
      abbrev p1 : Bool → Place
      p1 done = place_by Creates done (clean (get first at.lsn))

      abbrev p2 : Bool → Place
      p2 done = place_by (Resizes fmt.size) done (p1 true)

      abbrev p3 : Bool → Place
      p3 done = place_by (Writes 0 (fmt.number number)) done (p2 true)

      abbrev p4 : Bool → Place
      p4 done = place_by Syncs done (p3 true)

      abbrev v1 : Bool → Told
      v1 done = called at.lsn Creates done u1

      abbrev v2 : Bool → Told
      v2 done = called at.lsn (Resizes fmt.size) done (v1 true)

      abbrev v3 : Bool → Told
      v3 done = called at.lsn (Writes 0 (fmt.number number)) done (v2 true)

      abbrev v4 : Bool → Told
      v4 done = called at.lsn Syncs done (v3 true)

      at1 : (done : Bool) → place_of (v1 done) at.lsn ≡ p1 done
      at1 done = place_here u1 at.lsn Creates done ∙ ap (place_by Creates done) lsn1

      at2 : (done : Bool) → place_of (v2 done) at.lsn ≡ p2 done
      at2 done = place_here (v1 true) at.lsn (Resizes fmt.size) done ∙ ap (place_by (Resizes fmt.size) done) (at1 true)

      at3 : (done : Bool) → place_of (v3 done) at.lsn ≡ p3 done
      at3 done = place_here (v2 true) at.lsn (Writes 0 (fmt.number number)) done ∙ ap (place_by (Writes 0 (fmt.number number)) done) (at2 true)

      at4 : (done : Bool) → place_of (v4 done) at.lsn ≡ p4 done
      at4 done = place_here (v3 true) at.lsn Syncs done ∙ ap (place_by Syncs done) (at3 true)

      is_marked : p4 true ≡ clean (Some (fmt.number number))
      is_marked = marked fmt.size (fmt.number number) (get first at.lsn) (fmt.sized number)

      laid0 : Laid (place_of u1)
      laid0 = record {
        journal = j1_clean (places_of at (place_of u1)) journal1;
        lsn = subst L2 (sym lsn1) (fine_before (clean (get first at.lsn)) refl refl);
        files = λ file is. within_left [] file (files file) (place_of u1 file) (settled_within [] file (files file) (place_of u1 file) (reads1 file is) (settled1 file is));
      }

      step : (u : Told) (change : Change) (done : Bool) → Laid (place_of u) → L2 (place_of (called at.lsn change done u) at.lsn) → Laid (place_of (called at.lsn change done u))
      step u change done parts here = call_lsn at J1 respects1 L2 [] files u parts change done (subst L2 (place_here u at.lsn change done) here)

      laid1 : (done : Bool) → Laid (place_of (v1 done))
      laid1 done = step u1 Creates done laid0 (subst L2 (sym (at1 done)) (fine_before (p1 done) refl refl))

      laid2 : (done : Bool) → Laid (place_of (v2 done))
      laid2 done = step (v1 true) (Resizes fmt.size) done (laid1 true) (subst L2 (sym (at2 done)) (fine_before (p2 done) refl refl))

      laid3 : (done : Bool) → Laid (place_of (v3 done))
      laid3 done = step (v2 true) (Writes 0 (fmt.number number)) done (laid2 true) (subst L2 (sym (at3 done)) (fine_writing (p3 done) refl refl))

      fine4 : (done : Bool) → L2 (p4 done)
      fine4 true = subst L2 (sym is_marked) fine_after
      fine4 false = fine_writing (p4 false) refl refl

      laid4 : (done : Bool) → Laid (place_of (v4 done))
      laid4 done = step (v3 true) Syncs done (laid3 true) (subst L2 (sym (at4 done)) (fine4 done))

      mark_safe : Safe Laid (mark_asks at.lsn fmt.size (fmt.number number)) u1
      mark_safe = (laid1 false, (laid1 true, (laid2 false, (laid2 true, (laid3 false, (laid3 true, (laid4 false, (laid4 true, tt))))))))

      leaves_v4 : Leaves P t (v4 true)
      leaves_v4 = leaves_all P Laid t 0 laid_now (mark_asks at.lsn fmt.size (fmt.number number)) u1 (omega arith) leaves_u1 mark_safe

      journal4 : (n : ℕ) → places_of at (place_of (v4 true)) n ≡ clean (journal_of at first n)
      journal4 n = lsn_spares_journal at (v3 true) Syncs true n ∙ lsn_spares_journal at (v2 true) (Writes 0 (fmt.number number)) true n ∙ lsn_spares_journal at (v1 true) (Resizes fmt.size) true n ∙ lsn_spares_journal at u1 Creates true n ∙ journal1 n

      -- ---- the journal's files are removed, the first one first

      abbrev J3 : (ℕ → Place) → Type 0
      J3 place = (left : ℕ → Option (List ℕ)) → MayLeaveAll place left → (a : ℕ) × HasJournal fmt left (drop a w.sections)

      respects3 : Respects J3
      respects3 p q same j left l = j left (λ n. subst (λ (x : Place). MayLeaveFile x.file x.pending (left n)) (same n) (l n))

      abbrev L3 : Place → Type 0
      L3 p = p ≡ clean (Some (fmt.number number))

      abbrev Ending : (List ℕ → Place) → Type 0
      Ending place = Parts at J3 L3 [] files place

      ending_now : (u : Told) (n : ℕ) → 0 ≤ n → Ending (place_of u) → LeavesNow P n u
      ending_now u n le parts m image lt left chance =
          let j = parts.journal (journal_of at image) (may_leave_all at u image left) in
          let lsn : bytes_at image at.lsn ≡ fmt.number number = ap (λ (o : Option (List ℕ)). unwrap_or o []) (left_of_clean (Some (fmt.number number)) (get image at.lsn) (subst (λ (p : Place). MayLeaveFile p.file p.pending (get image at.lsn)) parts.lsn (left at.lsn))) in
          recovers_laid fmt at files first w image (λ file is. differs_nowhere file _ _ (parts.files file is _ (left file))) j.0 j.1 (subst (IsFine fmt at files first w j.0) (sym lsn) (fine_new j.0))

      -- these files are left, with nothing pending
      pub record Remain (u : Told) (runs : List Run) : Type 0 where
        pub content : ℕ → Option (List ℕ)
        pub rests : (n : ℕ) → places_of at (place_of u) n ≡ clean (content n)
        pub has : HasRuns fmt content 0 runs
        pub a : ℕ
        pub sum : joined runs ≡ drop a w.sections

      has_from : (left now : ℕ → Option (List ℕ)) (n : ℕ) (runs : List Run) → ((m : ℕ) → n ≤ m → now m ≡ left m) → HasRuns fmt left n runs → HasRuns fmt now n runs
      has_from left now n [] same h = λ m le. same m le ∙ h m le
      has_from left now n (run ∷ runs) same h = (h.0, (λ m le lt. same m le ∙ h.1.0 m le lt, (subst (λ (o : Option (List ℕ)). HasFile fmt run.0 (is_last runs) o run.1) (sym (same run.0 h.0)) h.1.1.0, has_from left now (run.0 + 1) runs (λ m le. same m (omega (arith, h.0))) h.1.1.1)))

      module _ (u : Told) (run : Run) (runs : List Run) (r : Remain u (run ∷ runs)) (parts : Ending (place_of u)) where
        abbrev k : ℕ
        k = run.0

        abbrev gone : Bool → Told
        gone done = called (at.journal k) Removes done u

        there : (o : Option (List ℕ)) → HasFile fmt k (is_last runs) o run.1 → is_some o ≡ true
        there None h = absurd h
        there (Some x) h = refl

        room : k < at.count
        room = elim (cases_lt k at.count) [ inl lt ↦ lt | inr past ↦ absurd (true≢false (sym (ap is_some (same_file past) ∙ there (r.content k) r.has.1.1.0))) ]
          where
            outside : (b : Bool) → b ≡ false → (cond b (place_of u (at.journal k)) (Rattle.mm_outside.specs.Place.clean None)).file ≡ None
            outside true e = absurd (true≢false e)
            outside false e = refl

            same_file : at.count ≤ k → None ≡ r.content k
            same_file past = sym (outside (nat_lt k at.count) (grind (arith, Rattle.std.proofs.lemmas.Bool.Decides.nat_tests))) ∙ ap (λ (p : Place). p.file) (r.rests k)

        left_else : (done : Bool) (left : ℕ → Option (List ℕ)) → MayLeaveAll (places_of at (place_of (gone done))) left → (m : ℕ) → (m ≡ k → ⊥) → left m ≡ r.content m
        left_else done left l m ne = left_of_clean (r.content m) (left m) (subst (λ (x : Place). MayLeaveFile x.file x.pending (left m)) (journal_there at u Removes done k m ne ∙ r.rests m) (l m))

        place_gone : (done : Bool) → places_of at (place_of (gone done)) k ≡ place_by Removes done (clean (r.content k))
        place_gone done = journal_here at u Removes done k room ∙ ap (place_by Removes done) (r.rests k)

        rest_is : joined runs ≡ drop (r.a + length run.1) w.sections
        rest_is = sym (drop_front run.1 (joined runs)) ∙ ap (drop (length run.1)) r.sum ∙ drop-drop (length run.1) r.a w.sections ∙ ap (λ n. drop n w.sections) (omega arith)
          where
            drop_front : (a b : List Section) → drop (length a) (a ++ b) ≡ b
            drop_front [] b = refl
            drop_front (y ∷ a) b = drop_front a b

        without_has : (left : ℕ → Option (List ℕ)) → ((m : ℕ) → (m ≡ k → ⊥) → left m ≡ r.content m) → left k ≡ None → HasRuns fmt left 0 runs
        without_has left else_same none = earlier fmt left 0 (k + 1) runs (omega arith)
            (λ m le lt. elim (cases_eq m k) [ inl e ↦ ap left e ∙ none | inr ne ↦ else_same m ne ∙ r.has.1.0 m (omega arith) (omega arith) ])
            (has_from r.content left (k + 1) runs (λ m le. else_same m (λ e. absurd (omega arith))) r.has.1.1.1)

        without : (left : ℕ → Option (List ℕ)) → ((m : ℕ) → (m ≡ k → ⊥) → left m ≡ r.content m) → left k ≡ None → HasJournal fmt left (drop (r.a + length run.1) w.sections)
        without left else_same none = record { runs = runs; has = without_has left else_same none; all = rest_is }

        pub gone_part : (done : Bool) → J3 (places_of at (place_of (gone done)))
        gone_part done left l = by done (r.content k) refl (left k) refl (subst (λ (x : Place). MayLeaveFile x.file x.pending (left k)) (place_gone done) (l k)) (left_else done left l)
          where
            still : left k ≡ r.content k → ((m : ℕ) → (m ≡ k → ⊥) → left m ≡ r.content m) → (a : ℕ) × HasJournal fmt left (drop a w.sections)
            still same else_same = (r.a, record { runs = run ∷ runs; has = has_same fmt r.content left 0 (run ∷ runs) (λ m. elim (cases_eq m k) [ inl e ↦ ap left e ∙ same ∙ ap r.content (sym e) | inr ne ↦ else_same m ne ]) r.has; all = r.sum })

            by : (d : Bool) (old : Option (List ℕ)) → r.content k ≡ old → (o : Option (List ℕ)) → left k ≡ o → MayLeaveFile (place_by Removes d (clean (r.content k))).file (place_by Removes d (clean (r.content k))).pending (left k)
                → ((m : ℕ) → (m ≡ k → ⊥) → left m ≡ r.content m) → (a : ℕ) × HasJournal fmt left (drop a w.sections)
            by d old was None e m else_same = (r.a + length run.1, without left else_same e)
            by true old was (Some b) e m else_same = (r.a + length run.1, without left else_same (removed old was m))
              where
                removed : (old : Option (List ℕ)) → r.content k ≡ old → MayLeaveFile (place_by Removes true (clean (r.content k))).file (place_by Removes true (clean (r.content k))).pending (left k) → left k ≡ None
                removed None was m = absent_left (left k) (subst (λ (c : Option (List ℕ)). MayLeaveFile (place_by Removes true (clean c)).file (place_by Removes true (clean c)).pending (left k)) was m)
                removed (Some x) was m = absent_left (left k) (subst (λ (c : Option (List ℕ)). MayLeaveFile (place_by Removes true (clean c)).file (place_by Removes true (clean c)).pending (left k)) was m)
            by false None was (Some b) e m else_same = still (absent_left (left k) (subst (λ (c : Option (List ℕ)). MayLeaveFile (place_by Removes false (clean c)).file (place_by Removes false (clean c)).pending (left k)) was m) ∙ sym was) else_same
            by false (Some x) was (Some b) e m else_same =
                let n = subst (λ (o : Option (List ℕ)). MayLeaveFile (Some x) (place_by Removes false (clean (Some x))).pending o) e (subst (λ (c : Option (List ℕ)). MayLeaveFile (place_by Removes false (clean c)).file (place_by Removes false (clean c)).pending (left k)) was m) in
                still (e ∙ clean_left x (Some b) (record { no_shorter = n.no_shorter; no_longer = n.no_longer; same = n.same }) ∙ sym was) else_same

        pub gone_good : (done : Bool) → Ending (place_of (gone done))
        gone_good done = record {
          journal = gone_part done;
          lsn = journal_spares_lsn at u Removes done k ∙ parts.lsn;
          files = λ file is. subst (Rattle.mm_crash.specs.Parts.FilePart [] file (files file)) (sym (journal_spares_file at u Removes done k file is)) (parts.files file is);
        }

        removed_clean : (old : Option (List ℕ)) → place_by Removes true (clean old) ≡ clean None
        removed_clean None = refl
        removed_clean (Some x) = refl

        pub gone_remain : Remain (gone true) runs
        gone_remain = record {
          content = λ m. (places_of at (place_of (gone true)) m).file;
          rests = now_clean;
          has = without_has (λ m. (places_of at (place_of (gone true)) m).file) (λ m ne. ap (λ (p : Place). p.file) (journal_there at u Removes true k m ne ∙ r.rests m)) (ap (λ (p : Place). p.file) (place_gone true ∙ removed_clean (r.content k)));
          a = r.a + length run.1;
          sum = rest_is;
        }
          where
            as_file : (p : Place) (o : Option (List ℕ)) → p ≡ clean o → p ≡ clean p.file
            as_file p o e = e ∙ ap clean (sym (ap (λ (x : Place). x.file) e))

            now_clean : (n : ℕ) → places_of at (place_of (gone true)) n ≡ clean (places_of at (place_of (gone true)) n).file
            now_clean n = elim (cases_eq n k) [
              | inl e ↦ as_file _ None (ap (places_of at (place_of (gone true))) e ∙ place_gone true ∙ removed_clean (r.content k))
              | inr ne ↦ as_file _ (r.content n) (journal_there at u Removes true k n ne ∙ r.rests n)
            ]

      abbrev pub numbers : List Run → List ℕ
      numbers runs = map (λ (run : Run). run.0) runs

      -- all are removed
      remove_all : (runs : List Run) (u : Told) → Remain u runs → Ending (place_of u) → Safe Ending (remove_asks at (numbers runs)) u × (((n : ℕ) → places_of at (place_of (asked (remove_asks at (numbers runs)) u)) n ≡ clean None) × (Ending (place_of (asked (remove_asks at (numbers runs)) u))
          × ((file : List ℕ) → IsData at file → place_of (asked (remove_asks at (numbers runs)) u) file ≡ place_of u file)))
      remove_all [] u r parts = (tt, ((λ n. r.rests n ∙ ap clean (r.has n (omega arith))), (parts, λ file is. refl)))
      remove_all (run ∷ runs) u r parts =
          let good = gone_good u run runs r parts in
          let rest = remove_all runs (called (at.journal run.0) Removes true u) (gone_remain u run runs r parts) (good true) in
          ((good false, (good true, rest.0)), (rest.1.0, (rest.1.1.0, λ file is. rest.1.1.1 file is ∙ journal_spares_file at u Removes true run.0 file is)))

      remain4 : Remain (v4 true) w.journal.runs
      remain4 = record { content = journal_of at first; rests = journal4; has = w.journal.has; a = 0; sum = w.journal.all }

      ending4 : Ending (place_of (v4 true))
      ending4 = record {
        journal = λ left l. (0, journal_same fmt (journal_of at first) left w.sections (λ n. left_of_clean (journal_of at first n) (left n) (subst (λ (x : Place). MayLeaveFile x.file x.pending (left n)) (journal4 n) (l n))) w.journal);
        lsn = at4 true ∙ is_marked;
        files = (laid4 true).files;
      }

      abbrev removals : List Ask
      removals = remove_asks at (numbers w.journal.runs)

      abbrev Removed : Type 0
      Removed = Safe Ending removals (v4 true) × (((n : ℕ) → places_of at (place_of (asked removals (v4 true))) n ≡ clean None) × (Ending (place_of (asked removals (v4 true))) × ((file : List ℕ) → IsData at file → place_of (asked removals (v4 true)) file ≡ place_of (v4 true) file)))

      removing : Removed
      removing = remove_all w.journal.runs (v4 true) remain4 ending4

      -- ---- the whole run

      abbrev pub asks : List Ask
      asks = recovery_asks fmt at entries names number (numbers w.journal.runs)

      asked_is : asked asks t ≡ asked removals (v4 true)
      asked_is = asked-append (lay_asks entries) _ t ∙ asked-append (sync_asks names) _ u0 ∙ asked-append (mark_asks at.lsn fmt.size (fmt.number number)) removals u1

      -- A recovery that is stopped anywhere leaves, at each moment since, images with the same recovery.
      pub recovery_cut : (v : Told) → IsCut asks t v → Leaves P t v
      recovery_cut v cut = elim (cut_split (lay_asks entries) _ t v cut) [
        | inl laying ↦ leaves_cut P Laying t 0 laying_now (lay_asks entries) t v (omega arith) leaves0 wrote.0 laying
        | inr later ↦ elim (cut_split (sync_asks names) _ u0 v later) [
          | inl syncing ↦ leaves_cut P Laying t 0 laying_now (sync_asks names) u0 v (omega arith) leaves_u0 synced.0 syncing
          | inr ending ↦ elim (cut_split (mark_asks at.lsn fmt.size (fmt.number number)) removals u1 v ending) [
            | inl marking ↦ leaves_cut P Laid t 0 laid_now (mark_asks at.lsn fmt.size (fmt.number number)) u1 v (omega arith) leaves_u1 mark_safe marking
            | inr removes ↦ leaves_cut P Ending t 0 ending_now removals (v4 true) v (omega arith) leaves_v4 removing.0 removes
          ]
        ]
      ]

      pub recovery_all : Leaves P t (asked asks t)
      recovery_all = subst (Leaves P t) (sym asked_is) (leaves_all P Ending t 0 ending_now removals (v4 true) (omega arith) leaves_v4 removing.0)

      file4 : (file : List ℕ) → IsData at file → place_of (v4 true) file ≡ place_of u1 file
      file4 file is = lsn_spares_file at (v3 true) Syncs true file is ∙ lsn_spares_file at (v2 true) (Writes 0 (fmt.number number)) true file is ∙ lsn_spares_file at (v1 true) (Resizes fmt.size) true file is ∙ lsn_spares_file at u1 Creates true file is

      done : IsRecovered fmt at files number (asked removals (v4 true))
      done = record {
        reads = λ file is. ap (λ (p : Place). p.file) (removing.1.1.1 file is ∙ file4 file is) ∙ reads1 file is;
        settled = λ file is. subst (IsSettled file) (sym (removing.1.1.1 file is ∙ file4 file is)) (settled1 file is);
        lsn = removing.1.1.0.lsn;
        journal = removing.1.0;
      }

      pub recovery_done : IsRecovered fmt at files number (asked asks t)
      recovery_done = subst (IsRecovered fmt at files number) (sym asked_is) done
