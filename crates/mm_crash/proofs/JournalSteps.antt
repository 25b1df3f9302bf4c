-- What the journal's files may leave, call by call.
use Rattle.std.proofs.Common.{◌≡◌, inl, inr, ℕ, zero, suc, ◌+◌, ◌-◌, ◌<◌, ◌≤◌, Bool, true, false, List, [], ◌∷◌, ◌++◌, length, get_or, take, drop, Option, Some, None, refl, sym, ◌∙◌, ap, subst, arith, append_assoc}
use mathlib.Core.Bool.{true≢false}
use Rattle.std.proofs.lemmas.Bool.{cases_eq}
use Rattle.std.proofs.lemmas.Bool.Decides.{nat_tests}
use Rattle.std.proofs.lemmas.List.{length-append, length-drop, length-take, append-nil, drop-drop}
use Rattle.std.specs.Prelude.{Contains, unwrap_or, nat_le, nat_lt, ◌&&◌}
use Rattle.mm_outside.specs.Told.{MayLeaveFile, is_in, Creates, Writes, Syncs, Removes}
use Rattle.mm_outside.specs.Place.{Place, place_by, clean}
use Rattle.mm_bytes.proofs.Files.{get_or-overwritten, overwritten_nothing}
use Rattle.mm_section.specs.declared.section.Section.{Section}
use Rattle.mm_crash.specs.Journal.{Format, spelled, AllCan, HasFile, HasJournal, is_last}
use Rattle.mm_crash.specs.Chance.{IsFair}
use Rattle.mm_crash.specs.Story.{Story, run}
use Rattle.mm_crash.specs.Parts.{JournalAt, JournalPart, MayLeaveAll}
use Rattle.mm_crash.specs.Rest.{file_bytes, RestsFrom, all_of, JournalRests}
use Rattle.mm_crash.proofs.Parts.{Respects}
use Rattle.mm_crash.proofs.Journals.{Begins, with_numbers, joined_numbers, all_of-append, earlier, rests_has, last_has, new_has, rests_behind, rests_with, rests_instead, rests_same, rests_left, whole_file, begun_file, torn_file, both_written, first_one, can_first, can_last, spelled-append, clean_left}

module _ (fmt : Format) (story : Story) (mark s : ℕ) where
  pub respects : Respects (JournalPart fmt story mark s)
  respects p q same part left l fair = part left (λ n. subst (λ (x : Place). MayLeaveFile x.file x.pending (left n)) (same n) (l n)) (λ n w c. fair n w (subst (λ (x : Place). Rattle.std.specs.Prelude.Contains x.writes w) (sym (same n)) c))

  module _ (can : AllCan fmt story.sections) (there : s ≤ length story.sections) where
    can_take : (k : ℕ) (xs : List Section) → AllCan fmt xs → AllCan fmt (take k xs)
    can_take zero xs h = tt
    can_take (suc k) [] h = tt
    can_take (suc k) (x ∷ xs) h = (h.0, can_take k xs h.1)

    can_drop : (k : ℕ) (xs : List Section) → AllCan fmt xs → AllCan fmt (drop k xs)
    can_drop zero xs h = h
    can_drop (suc k) [] h = tt
    can_drop (suc k) (x ∷ xs) h = can_drop k xs h.1

    pub can_run : (a k : ℕ) → AllCan fmt (run story a k)
    can_run a k = can_drop a (take k story.sections) (can_take k story.sections can)

    module _ (from first : ℕ) (runs : List (List Section)) (place : ℕ → Place) (r : JournalRests fmt story from mark s first runs place) where
      can_all : AllCan fmt (all_of runs)
      can_all = subst (AllCan fmt) (sym r.all) (can_run from s)

      abbrev k : ℕ
      k = first + length runs

      -- the files that are left have these runs, which are the sections up to s or to one more
      found : (left : ℕ → Option (List ℕ)) (now : List (List Section)) (f start to : ℕ) → start ≤ mark → s ≤ to → to ≤ s + 1 → to ≤ length story.sections → all_of now ≡ run story start to → ((m : ℕ) → m < f → left m ≡ None) → Begins fmt left f now → JournalAt fmt story mark s left
      found left now f start to sm st ts here all away begins = record {
        from = start;
        to = to;
        no_gap = sm;
        no_less = st;
        no_more = ts;
        there = here;
        holds = record { runs = with_numbers f now; has = earlier fmt left 0 f (with_numbers f now) (omega arith) (λ m le lt. away m lt) begins; all = joined_numbers f now ∙ all };
      }

      pub at_rest : JournalPart fmt story mark s place
      at_rest left l fair = found left runs first from s r.from_mark (omega arith) (omega arith) there r.all (λ m lt. rests_left (place m) None (left m) (r.before m lt) (l m)) (rests_has fmt place left first runs can_all r.rests l)

      -- all but one place rest
      module _ (now : ℕ → Place) (n : ℕ) (others : (m : ℕ) → (m ≡ n → ⊥) → now m ≡ place m) (left : ℕ → Option (List ℕ)) (l : MayLeaveAll now left) where
        other_left : (m : ℕ) → (m ≡ n → ⊥) → MayLeaveFile (place m).file (place m).pending (left m)
        other_left m ne = subst (λ (p : Place). MayLeaveFile p.file p.pending (left m)) (others m ne) (l m)

      -- ---- a new file behind the last

      module _ (now : ℕ → Place) (others : (m : ℕ) → (m ≡ k → ⊥) → now m ≡ place m) where
        away_before : (left : ℕ → Option (List ℕ)) → MayLeaveAll now left → (m : ℕ) → m < first → left m ≡ None
        away_before left l m lt = rests_left (place m) None (left m) (r.before m lt) (other_left now k others left l m (λ e. absurd (omega arith)))

        behind : (left : ℕ → Option (List ℕ)) → MayLeaveAll now left → (m : ℕ) → k + 1 ≤ m → left m ≡ None
        behind left l m le = rests_left (place m) None (left m) (rests_behind fmt place first runs r.rests m (omega arith)) (other_left now k others left l m (λ e. absurd (omega arith)))

        with_none : (left : ℕ → Option (List ℕ)) → MayLeaveAll now left → left k ≡ None → JournalAt fmt story mark s left
        with_none left l none =
            let rest : Begins fmt left k [] = λ m le. elim (cases_eq m k) [ inl e ↦ ap left e ∙ none | inr ne ↦ behind left l m (omega arith) ] in
            found left (runs ++ []) first from s r.from_mark (omega arith) (omega arith) there (ap all_of (append-nil runs) ∙ r.all) (away_before left l) (new_has fmt place left first runs [] can_all r.rests (other_left now k others left l) rest)

        with_empty : (left : ℕ → Option (List ℕ)) → MayLeaveAll now left → HasFile fmt k true (left k) [] → JournalAt fmt story mark s left
        with_empty left l file =
            let rest : Begins fmt left k ([] ∷ []) = (omega arith, ((λ m le lt. absurd (omega arith)), (file, behind left l))) in
            found left (runs ++ [] ∷ []) first from s r.from_mark (omega arith) (omega arith) there (all_of-append runs ([] ∷ []) ∙ append-nil (all_of runs) ∙ r.all) (away_before left l) (new_has fmt place left first runs ([] ∷ []) can_all r.rests (other_left now k others left l) rest)

        -- its header is not there yet, or is under way
        begun_some : (left : ℕ → Option (List ℕ)) → MayLeaveAll now left → (file : Option (List ℕ)) → left k ≡ file → ((bytes : List ℕ) → file ≡ Some bytes → HasFile fmt k true (Some bytes) []) → JournalAt fmt story mark s left
        begun_some left l None e fine = with_none left l e
        begun_some left l (Some bytes) e fine = with_empty left l (subst (λ (o : Option (List ℕ)). HasFile fmt k true o []) (sym e) (fine bytes refl))

        pub creating : (done : Bool) → now k ≡ place_by Creates done (clean None) → JournalPart fmt story mark s now
        creating done here left l fair = begun_some left l (left k) refl (λ bytes e.
            let size : length bytes ≡ 0 = short done bytes (subst (λ (p : Place). MayLeaveFile p.file p.pending (Some bytes)) here (subst (MayLeaveFile (now k).file (now k).pending) e (l k))) in
            begun_file fmt k bytes (omega (arith, size)) (inr (fmt.short_broken k bytes (omega (arith, size, fmt.some_header k)))))
          where
            short : (done : Bool) (bytes : List ℕ) → MayLeaveFile (place_by Creates done (clean None)).file (place_by Creates done (clean None)).pending (Some bytes) → length bytes ≡ 0
            short true bytes m = omega (arith, m.no_longer)
            short false bytes m = ap length m.1

        pub heading : (done : Bool) → now k ≡ place_by (Writes 0 (fmt.header k)) done (place_by Creates true (clean None)) → JournalPart fmt story mark s now
        heading done here left l fair = begun_some left l (left k) refl (λ bytes e. begun_file fmt k bytes (short done bytes here (subst (MayLeaveFile (now k).file (now k).pending) e (l k)))
            (let f = fair k (0, fmt.header k) (wrote done here) in subst (λ (o : Option (List ℕ)). Rattle.std.specs.Prelude.◌⊎◌ (Rattle.mm_crash.specs.Journal.IsOurs fmt k (unwrap_or o [])) (fmt.is_broken k (unwrap_or o []) ≡ true)) e (f.header refl)))
          where
            wrote : (done : Bool) → now k ≡ place_by (Writes 0 (fmt.header k)) done (place_by Creates true (clean None)) → Rattle.std.specs.Prelude.Contains (now k).writes (0, fmt.header k)
            wrote done here = subst (λ (p : Place). Rattle.std.specs.Prelude.Contains p.writes (0, fmt.header k)) (sym here) (first_one (0, fmt.header k))

            short : (done : Bool) (bytes : List ℕ) → now k ≡ place_by (Writes 0 (fmt.header k)) done (place_by Creates true (clean None)) → MayLeaveFile (now k).file (now k).pending (Some bytes) → length bytes ≤ length (fmt.header k)
            short true bytes here may = let m = subst (λ (p : Place). MayLeaveFile p.file p.pending (Some bytes)) here may in omega (arith, m.no_longer)
            short false bytes here may = let m = subst (λ (p : Place). MayLeaveFile p.file p.pending (Some bytes)) here may in omega (arith, m.no_longer)

        -- it has its header
        pub begun : now k ≡ clean (Some (fmt.header k)) → JournalRests fmt story from mark s first (runs ++ [] ∷ []) now
        begun here = record {
          before = λ m lt. others m (λ e. absurd (omega arith)) ∙ r.before m lt;
          rests = rests_with fmt place now first runs [] r.rests others (here ∙ ap (λ (l : List ℕ). clean (Some l)) (sym (append-nil (fmt.header k))));
          all = all_of-append runs ([] ∷ []) ∙ append-nil (all_of runs) ∙ r.all;
          from_mark = r.from_mark;
          from_s = r.from_s;
        }

    -- ---- a section behind those of the last file

    module _ (from first : ℕ) (front : List (List Section)) (last : List Section) (place : ℕ → Place) (r : JournalRests fmt story from mark s first (front ++ last ∷ []) place) (x : Section) (one_more : s + 1 ≤ length story.sections) (next : run story from (s + 1) ≡ run story from s ++ x ∷ []) where
      abbrev pub n : ℕ
      n = first + length front

      abbrev pub old : List ℕ
      old = file_bytes fmt n last

      abbrev pub bytes : List ℕ
      bytes = fmt.section n x

      all_old : all_of front ++ last ≡ run story from s
      all_old = ap (λ (l : List Section). all_of front ++ l) (sym (append-nil last)) ∙ sym (all_of-append front (last ∷ [])) ∙ r.all

      all_new : all_of (front ++ (last ++ x ∷ []) ∷ []) ≡ run story from (s + 1)
      all_new =
          all_of-append front ((last ++ x ∷ []) ∷ [])
          ∙ ap (λ (l : List Section). all_of front ++ l) (append-nil (last ++ x ∷ []))
          ∙ sym (append_assoc (all_of front) last (x ∷ []))
          ∙ ap (λ (l : List Section). l ++ x ∷ []) all_old
          ∙ sym next

      can_old : AllCan fmt (all_of front ++ last)
      can_old = subst (AllCan fmt) (sym all_old) (can_run from s)

      can_both : AllCan fmt (all_of front ++ (last ++ x ∷ []))
      can_both = subst (AllCan fmt) (next ∙ ap (λ (l : List Section). l ++ x ∷ []) (sym all_old) ∙ append_assoc (all_of front) last (x ∷ [])) (can_run from (s + 1))

      can_front : AllCan fmt (all_of front)
      can_front = can_first fmt (all_of front) last can_old

      can_next : AllCan fmt (last ++ x ∷ [])
      can_next = can_last fmt (all_of front) (last ++ x ∷ []) can_both

      module _ (now : ℕ → Place) (others : (m : ℕ) → (m ≡ n → ⊥) → now m ≡ place m) where
        others_left : (left : ℕ → Option (List ℕ)) → MayLeaveAll now left → (m : ℕ) → (m ≡ n → ⊥) → MayLeaveFile (place m).file (place m).pending (left m)
        others_left left l m ne = subst (λ (p : Place). MayLeaveFile p.file p.pending (left m)) (others m ne) (l m)

        files_before : (left : ℕ → Option (List ℕ)) → MayLeaveAll now left → (m : ℕ) → m < first → left m ≡ None
        files_before left l m lt = rests_left (place m) None (left m) (r.before m lt) (others_left left l m (λ e. absurd (omega arith)))

        with_file : (left : ℕ → Option (List ℕ)) → MayLeaveAll now left → (sections : List Section) (to : ℕ) → s ≤ to → to ≤ s + 1 → to ≤ length story.sections → all_of (front ++ sections ∷ []) ≡ run story from to → HasFile fmt n true (left n) sections → JournalAt fmt story mark s left
        with_file left l sections to st ts here all file = record {
          from = from;
          to = to;
          no_gap = r.from_mark;
          no_less = st;
          no_more = ts;
          there = here;
          holds = record {
            runs = with_numbers first (front ++ sections ∷ []);
            has = earlier fmt left 0 first (with_numbers first (front ++ sections ∷ [])) (omega arith) (λ m le lt. files_before left l m lt) (last_has fmt place left first front last sections can_front r.rests (others_left left l) file);
            all = joined_numbers first (front ++ sections ∷ []) ∙ all;
          };
        }

        torn : (left : ℕ → Option (List ℕ)) → MayLeaveAll now left → (b : List ℕ) → left n ≡ Some b → length old ≤ length b → length b ≤ length old + length bytes → ((i : ℕ) → i < length old → get_or b i 0 ≡ get_or old i 0) → IsFair fmt n b (length old, bytes) → JournalAt fmt story mark s left
        torn left l b e no_shorter no_longer same fair = elim (torn_file fmt n last x b can_next no_shorter no_longer same fair) [
          | inl before ↦ with_file left l last s (omega arith) (omega arith) there r.all (subst (λ (o : Option (List ℕ)). HasFile fmt n true o last) (sym e) before)
          | inr after ↦ with_file left l (last ++ x ∷ []) (s + 1) (omega arith) (omega arith) one_more all_new (subst (λ (o : Option (List ℕ)). HasFile fmt n true o (last ++ x ∷ [])) (sym e) after)
        ]

        before : (i : ℕ) → i < length old → is_in i ((length old, length old + length bytes) ∷ []) ≡ false
        before i lt = grind (arith, nat_tests)

        not_written : (i : ℕ) → i < length old → (nat_le (length old) i && nat_lt i (length old + length bytes)) ≡ false
        not_written i lt = grind (arith, nat_tests)

        abbrev Written : Bool → Place
        Written done = place_by (Writes (length old) bytes) done (clean (Some old))

        pub writing : (done : Bool) → now n ≡ Written done → JournalPart fmt story mark s now
        writing done here left l fair = by (left n) refl (subst (λ (p : Place). MayLeaveFile p.file p.pending (left n)) here (l n)) done here
          where
            wrote : (done : Bool) → now n ≡ Written done → Contains (now n).writes (length old, bytes)
            wrote done here = subst (λ (p : Place). Contains p.writes (length old, bytes)) (sym here) (first_one (length old, bytes))

            is_fair : (b : List ℕ) → left n ≡ Some b → (done : Bool) → now n ≡ Written done → IsFair fmt n b (length old, bytes)
            is_fair b e done here = subst (λ (o : Option (List ℕ)). IsFair fmt n (unwrap_or o []) (length old, bytes)) e (fair n (length old, bytes) (wrote done here))

            by : (file : Option (List ℕ)) → left n ≡ file → MayLeaveFile (Written done).file (Written done).pending (left n) → (d : Bool) → now n ≡ Written d → JournalAt fmt story mark s left
            by None e m true here = absurd (true≢false (sym (subst (λ (o : Option (List ℕ)). MayLeaveFile (Written true).file (Written true).pending o) e (subst (λ (p : Place). MayLeaveFile p.file p.pending (left n)) here (l n)))))
            by None e m false here = absurd (true≢false (sym (subst (λ (o : Option (List ℕ)). MayLeaveFile (Written false).file (Written false).pending o) e (subst (λ (p : Place). MayLeaveFile p.file p.pending (left n)) here (l n)))))
            by (Some b) e m true here =
                let t = subst (λ (o : Option (List ℕ)). MayLeaveFile (Written true).file (Written true).pending o) e (subst (λ (p : Place). MayLeaveFile p.file p.pending (left n)) here (l n)) in
                torn left l b e t.no_shorter (omega (arith, t.no_longer)) (λ i lt. t.same i lt (before i lt) ∙ get_or-overwritten (length old) bytes old i (not_written i lt)) (is_fair b e true here)
            by (Some b) e m false here =
                let t = subst (λ (o : Option (List ℕ)). MayLeaveFile (Written false).file (Written false).pending o) e (subst (λ (p : Place). MayLeaveFile p.file p.pending (left n)) here (l n)) in
                torn left l b e t.no_shorter (omega (arith, t.no_longer)) (λ i lt. t.same i lt (before i lt)) (is_fair b e false here)

        -- it is synced
        pub written_is : place_by Syncs true (Written true) ≡ clean (Some (file_bytes fmt n (last ++ x ∷ [])))
        written_is = ap (λ (l : List ℕ). clean (Some l)) (both_written old bytes ∙ append_assoc (fmt.header n) (spelled fmt n last) bytes ∙ ap (λ (l : List ℕ). fmt.header n ++ l) (sym (spelled-append fmt n last x)))

        pub written : now n ≡ clean (Some (file_bytes fmt n (last ++ x ∷ []))) → JournalRests fmt story from mark (s + 1) first (front ++ (last ++ x ∷ []) ∷ []) now
        written here = record {
          before = λ m lt. others m (λ e. absurd (omega arith)) ∙ r.before m lt;
          rests = rests_instead fmt place now first front last (last ++ x ∷ []) r.rests others here;
          all = all_new;
          from_mark = r.from_mark;
          from_s = omega (arith, r.from_s);
        }

    -- ---- the first file is removed

    module _ (from first : ℕ) (gone : List Section) (runs : List (List Section)) (place : ℕ → Place) (r : JournalRests fmt story from mark s first (gone ∷ runs) place) (marked : from + length gone ≤ mark) where
      can_gone : AllCan fmt (gone ++ all_of runs)
      can_gone = subst (AllCan fmt) (sym r.all) (can_run from s)

      drop_front : (a b : List Section) → drop (length a) (a ++ b) ≡ b
      drop_front [] b = refl
      drop_front (y ∷ a) b = drop_front a b

      rest_is : all_of runs ≡ run story (from + length gone) s
      rest_is = sym (drop_front gone (all_of runs)) ∙ ap (drop (length gone)) r.all ∙ drop-drop (length gone) from (take s story.sections)

      sized : length gone + length (all_of runs) ≡ s - from
      sized = sym (length-append gone (all_of runs)) ∙ ap length r.all ∙ length-drop from (take s story.sections) ∙ omega (arith, length-take s story.sections)

      module _ (now : ℕ → Place) (others : (m : ℕ) → (m ≡ first → ⊥) → now m ≡ place m) where
        rests_now : RestsFrom fmt now (first + 1) runs
        rests_now = rests_same fmt place now (first + 1) runs r.rests.1 (λ m le. others m (λ e. absurd (omega arith)))

        pub removed : now first ≡ clean None → JournalRests fmt story (from + length gone) mark s (first + 1) runs now
        removed here = record {
          before = λ m lt. elim (cases_eq m first) [ inl e ↦ ap now e ∙ here | inr ne ↦ others m ne ∙ r.before m (omega arith) ];
          rests = rests_now;
          all = rest_is;
          from_mark = marked;
          from_s = omega (arith, sized, r.from_s);
        }

        pub removing : now first ≡ place_by Removes false (clean (Some (file_bytes fmt first gone))) → JournalPart fmt story mark s now
        removing here left l fair = by (left first) refl (subst (λ (p : Place). MayLeaveFile p.file p.pending (left first)) here (l first))
          where
            away : (m : ℕ) → m < first → left m ≡ None
            away m lt = rests_left (place m) None (left m) (r.before m lt) (subst (λ (p : Place). MayLeaveFile p.file p.pending (left m)) (others m (λ e. absurd (omega arith))) (l m))

            rest : Begins fmt left (first + 1) runs
            rest = rests_has fmt now left (first + 1) runs (can_last fmt gone (all_of runs) can_gone) rests_now l

            by : (file : Option (List ℕ)) → left first ≡ file → MayLeaveFile (Some (file_bytes fmt first gone)) (place_by Removes false (clean (Some (file_bytes fmt first gone)))).pending (left first) → JournalAt fmt story mark s left
            by None e m = record {
              from = from + length gone;
              to = s;
              no_gap = marked;
              no_less = omega arith;
              no_more = omega arith;
              there = there;
              holds = record {
                runs = with_numbers (first + 1) runs;
                has = earlier fmt left 0 (first + 1) (with_numbers (first + 1) runs) (omega arith) (λ m le lt. elim (cases_eq m first) [ inl same ↦ ap left same ∙ e | inr ne ↦ away m (omega arith) ]) rest;
                all = joined_numbers (first + 1) runs ∙ rest_is;
              };
            }
            by (Some b) e m =
                let t = subst (λ (o : Option (List ℕ)). MayLeaveFile (Some (file_bytes fmt first gone)) (place_by Removes false (clean (Some (file_bytes fmt first gone)))).pending o) e m in
                let whole : left first ≡ Some (file_bytes fmt first gone) = e ∙ clean_left (file_bytes fmt first gone) (Some b) (record { no_shorter = t.no_shorter; no_longer = t.no_longer; same = t.same }) in
                record {
                  from = from;
                  to = s;
                  no_gap = r.from_mark;
                  no_less = omega arith;
                  no_more = omega arith;
                  there = there;
                  holds = record {
                    runs = with_numbers first (gone ∷ runs);
                    has = earlier fmt left 0 first (with_numbers first (gone ∷ runs)) (omega arith) (λ m le lt. away m lt) (omega arith, ((λ m le lt. absurd (omega arith)), (whole_file fmt first (is_last (with_numbers (first + 1) runs)) gone (left first) (can_first fmt gone (all_of runs) can_gone) whole, rest)));
                    all = joined_numbers first (gone ∷ runs) ∙ r.all;
                  };
                }

-- the three calls of a new file
pub headed : (header : List ℕ) → place_by Syncs true (place_by (Writes 0 header) true (place_by Creates true (clean None))) ≡ clean (Some header)
headed header = ap (λ (b : List ℕ). clean (Some b)) (overwritten_nothing header)
