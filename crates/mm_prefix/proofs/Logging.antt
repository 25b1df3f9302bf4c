-- A section is appended and synced, in a new file where the last is full.
use Rattle.std.proofs.Common.{◌≡◌, inl, inr, ℕ, zero, suc, ◌+◌, ◌^◌, ◌<◌, ◌≤◌, Bool, true, false, cond, ◌||◌, List, [], ◌∷◌, ◌++◌, length, take, drop, refl, sym, ◌∙◌, ap, subst, arith, append_assoc}
use mathlib.Core.Bool.{true≢false}
use Rattle.std.proofs.lemmas.Bool.{cases_Bool}
use Rattle.std.proofs.lemmas.List.{length-append, length-map, length-drop}
use Rattle.std.specs.Prelude.{nat_le, ◌==◌}
use Rattle.mm_outside.specs.Told.{Told, Syncs}
use Rattle.mm_outside.specs.Place.{Place}
use Rattle.mm_outside.specs.Ask.{Ask, asked, new_file_asks}
use Rattle.mm_outside.proofs.Cuts.{asked-append, Safe, safe_append}
use Rattle.mm_section.specs.declared.section.Section.{Section}
use Rattle.mm_jfiles.specs.Names.{journal_name}
use Rattle.mm_jfiles.specs.Files.{Files, next_number, last_number, is_full, begun, begin_asks, ready, written, write_ask}
use Rattle.mm_crash.specs.Journal.{Format}
use Rattle.mm_crash.specs.Recovered.{Names}
use Rattle.mm_crash.specs.Story.{Story, run, IsSound}
use Rattle.mm_crash.specs.Parts.{LogParts}
use Rattle.mm_crash.specs.Rest.{Counts, file_bytes, IsAtRest}
use Rattle.mm_crash.specs.Asks.{write_asks}
use Rattle.mm_crash.proofs.Runs.{run_split}
use Rattle.mm_crash.proofs.Log.{begin_safe, begin_rest, append_safe, append_rest}
use Rattle.mm_journal.specs.Tracks.{Speaks, last_of, Tracks, log_asks}
use Rattle.mm_journal.proofs.Tracks.{HasLast, begins_so, tracks_begun, writes_so, tracks_written}

-- ---- the section that comes next

first_of : {X : Type 0} (k : ℕ) (xs : List X) (x : X) (more : List X) → drop k xs ≡ x ∷ more → drop k (take (k + 1) xs) ≡ x ∷ []
first_of zero [] x more e = absurd (omega (arith, ap length e))
first_of zero (y ∷ xs) x more e = ap (take 1) e
first_of (suc k) [] x more e = absurd (omega (arith, ap length e))
first_of (suc k) (y ∷ xs) x more e = let along : suc k + 1 ≡ suc (k + 1) = omega arith in ap (λ n. drop (suc k) (take n (y ∷ xs))) along ∙ first_of k xs x more e

there_is : {X : Type 0} (k : ℕ) (xs : List X) (x : X) (more : List X) → drop k xs ≡ x ∷ more → k + 1 ≤ length xs
there_is k xs x more e = omega (arith, ap length e, length-drop k xs)

-- a list that isn't empty has a last
last_there_is : {X : Type 0} (x : X) (xs : List X) → HasLast (x ∷ xs)
last_there_is x [] = record { front = []; last = x; is = refl }
last_there_is x (y ∷ ys) = let rest = last_there_is y ys in record { front = x ∷ rest.front; last = rest.last; is = ap (λ l. x ∷ l) rest.is }

-- ---- the numbers of files

counted : (fmt : Format) (f : Files) (c : Counts) → Tracks fmt f c → length f.lasts ≡ length c.runs
counted fmt f c tr = ap length tr.lasts ∙ length-map c.runs last_of

pub next_is : (fmt : Format) (f : Files) (c : Counts) → Tracks fmt f c → next_number f ≡ c.first + length c.runs
next_is fmt f c tr = omega (arith, tr.first, counted fmt f c tr)

last_is : (fmt : Format) (f : Files) (c : Counts) → Tracks fmt f c → (front : List (List Section)) (last : List Section) → c.runs ≡ front ++ last ∷ [] → last_number f ≡ c.first + length front
last_is fmt f c tr front last is = omega (arith, next_is fmt f c tr, ap length is, length-append front (last ∷ []))

module _ (fmt : Format) (at : Names) (db : List ℕ → ℕ) (speaks : Speaks fmt at) (story : Story) (sound : IsSound fmt at story) (x : Section) (others : List Section) where
  -- what stands after it: one synced section more, and all other numbers as they were
  pub record Logged (f : Files) (c : Counts) (u : Told) : Type 0 where
    pub counts : Counts
    pub mark : counts.mark ≡ c.mark
    pub marking : counts.marking ≡ c.marking
    pub floor : counts.floor ≡ c.floor
    pub flushed : counts.flushed ≡ c.flushed
    pub synced : counts.s ≡ c.s + 1
    pub tracks : Tracks fmt f counts
    pub rest : IsAtRest fmt at db story counts u

  next_run : (c : Counts) → c.from ≤ c.s → drop c.s story.sections ≡ x ∷ others → run story c.from (c.s + 1) ≡ run story c.from c.s ++ x ∷ []
  next_run c le e = run_split c.from c.s (c.s + 1) story.sections le (omega arith) ∙ ap (λ l. run story c.from c.s ++ l) (first_of c.s story.sections x others e)

  -- behind those of the last file
  module _ (f : Files) (c : Counts) (u : Told) (tr : Tracks fmt f c) (r : IsAtRest fmt at db story c u) (e : drop c.s story.sections ≡ x ∷ others) (front : List (List Section)) (last : List Section) (is : c.runs ≡ front ++ last ∷ []) (room : c.first + length front < 2 ^ 32) (bytes : List ℕ)
      (spells : bytes ≡ fmt.section (c.first + length front) x) where
    abbrev asks : List Ask
    asks = write_ask f bytes ∷ record { name = journal_name (last_number f); change = Syncs } ∷ []

    inside : c.first + length front < at.count
    inside = omega (arith, room, speaks.count)

    one_more : c.s + 1 ≤ length story.sections
    one_more = there_is c.s story.sections x others e

    asks_are : asks ≡ write_asks (at.journal (c.first + length front)) (length (file_bytes fmt (c.first + length front) last)) (fmt.section (c.first + length front) x)
    asks_are = writes_so fmt at speaks f c tr front last is room bytes ∙ ap (write_asks (at.journal (c.first + length front)) (length (file_bytes fmt (c.first + length front) last))) spells

    behind_safe : Safe (LogParts fmt at story c.mark c.marking c.floor c.s) asks u
    behind_safe = subst (λ (l : List Ask). Safe (LogParts fmt at story c.mark c.marking c.floor c.s) l u) (sym asks_are) (append_safe fmt at db story sound c u r front last is inside x one_more (next_run c r.journal.from_s e))

    behind_rest : Logged (written x.number (length bytes) f) c (asked asks u)
    behind_rest = record {
      counts = record c { runs = front ++ (last ++ x ∷ []) ∷ []; s = c.s + 1 };
      mark = refl;
      marking = refl;
      floor = refl;
      flushed = refl;
      synced = refl;
      tracks = tracks_written fmt at speaks f c tr front last is x bytes spells;
      rest = subst (λ (l : List Ask). IsAtRest fmt at db story (record c { runs = front ++ (last ++ x ∷ []) ∷ []; s = c.s + 1 }) (asked l u)) (sym asks_are) (append_rest fmt at db story sound c u r front last is inside x one_more (next_run c r.journal.from_s e));
    }

  module _ (f : Files) (c : Counts) (u : Told) (tr : Tracks fmt f c) (r : IsAtRest fmt at db story c u) (e : drop c.s story.sections ≡ x ∷ others) (room : next_number f < 2 ^ 32) (bytes : List ℕ) (spells : bytes ≡ fmt.section (last_number (ready f)) x) where
    abbrev Good : (List ℕ → Place) → Type 0
    Good = LogParts fmt at story c.mark c.marking c.floor c.s

    rooms : c.first + length c.runs < at.count
    rooms = omega (arith, room, next_is fmt f c tr, speaks.count)

    abbrev c_begun : Counts
    c_begun = record c { runs = c.runs ++ [] ∷ [] }

    begin_is : begin_asks f ≡ new_file_asks (at.journal (c.first + length c.runs)) (fmt.header (c.first + length c.runs))
    begin_is = begins_so fmt at speaks f c tr (omega (arith, rooms, speaks.count))

    begun_safe : Safe Good (begin_asks f) u
    begun_safe = subst (λ (l : List Ask). Safe Good l u) (sym begin_is) (begin_safe fmt at db story sound c u r rooms)

    begun_rest : IsAtRest fmt at db story c_begun (asked (begin_asks f) u)
    begun_rest = subst (λ (l : List Ask). IsAtRest fmt at db story c_begun (asked l u)) (sym begin_is) (begin_rest fmt at db story sound c u r rooms)

    -- the calls, by whether the last file is full
    abbrev behind_asks : Files → List Ask
    behind_asks g = write_ask g bytes ∷ record { name = journal_name (last_number g); change = Syncs } ∷ []

    asks_full : is_full f ≡ true → log_asks f bytes ≡ begin_asks f ++ behind_asks (begun f)
    asks_full full = ap (λ (b : Bool). (cond b (begin_asks f) [] ++ write_ask (cond b (begun f) f) bytes ∷ []) ++ record { name = journal_name (last_number (cond b (begun f) f)); change = Syncs } ∷ []) full ∙ append_assoc (begin_asks f) (write_ask (begun f) bytes ∷ []) (record { name = journal_name (last_number (begun f)); change = Syncs } ∷ [])

    asks_room : is_full f ≡ false → log_asks f bytes ≡ behind_asks f
    asks_room isnt = ap (λ (b : Bool). (cond b (begin_asks f) [] ++ write_ask (cond b (begun f) f) bytes ∷ []) ++ record { name = journal_name (last_number (cond b (begun f) f)); change = Syncs } ∷ []) isnt

    ready_full : is_full f ≡ true → ready f ≡ begun f
    ready_full full = ap (λ (b : Bool). cond b (begun f) f) full

    ready_room : is_full f ≡ false → ready f ≡ f
    ready_room isnt = ap (λ (b : Bool). cond b (begun f) f) isnt

    begun_last : last_number (begun f) ≡ c.first + length c.runs
    begun_last = omega (arith, tr.first, counted fmt f c tr, length-append f.lasts (0 ∷ []))

    spells_full : is_full f ≡ true → bytes ≡ fmt.section (c.first + length c.runs) x
    spells_full full = spells ∙ ap (λ (h : Files). fmt.section (last_number h) x) (ready_full full) ∙ ap (λ m. fmt.section m x) begun_last

    small_full : c.first + length c.runs < 2 ^ 32
    small_full = omega (arith, rooms, speaks.count)

    -- there is a file where the last isn't full
    some_runs : (runs : List (List Section)) → c.runs ≡ runs → is_full f ≡ false → HasLast runs
    some_runs [] none isnt =
        let no_lasts : length f.lasts ≡ 0 = counted fmt f c tr ∙ ap length none in
        absurd (true≢false (sym (full no_lasts) ∙ isnt))
      where
        full : length f.lasts ≡ 0 → is_full f ≡ true
        full no_lasts = ap (λ m. m == 0 || nat_le f.limit f.end) no_lasts
    some_runs (run ∷ runs) some isnt = last_there_is run runs

    module _ (isnt : is_full f ≡ false) where
      the_last : HasLast c.runs
      the_last = some_runs c.runs refl isnt

      last_there : last_number f ≡ c.first + length the_last.front
      last_there = last_is fmt f c tr the_last.front the_last.last the_last.is

      spells_room : bytes ≡ fmt.section (c.first + length the_last.front) x
      spells_room = spells ∙ ap (λ (h : Files). fmt.section (last_number h) x) (ready_room isnt) ∙ ap (λ m. fmt.section m x) last_there

      small_room : c.first + length the_last.front < 2 ^ 32
      small_room = omega (arith, room, last_there)

    -- stopped anywhere it is safe
    pub log_safe : Safe Good (log_asks f bytes) u
    log_safe = elim (cases_Bool (is_full f)) [
      | inl full ↦
          subst (λ (l : List Ask). Safe Good l u) (sym (asks_full full))
          (safe_append Good (begin_asks f) (behind_asks (begun f)) u begun_safe (behind_safe (begun f) c_begun (asked (begin_asks f) u) (tracks_begun fmt at speaks f c tr) begun_rest e c.runs [] refl small_full bytes (spells_full full)))
      | inr isnt ↦
          subst (λ (l : List Ask). Safe Good l u) (sym (asks_room isnt))
          (behind_safe f c u tr r e (the_last isnt).front (the_last isnt).last (the_last isnt).is (small_room isnt) bytes (spells_room isnt))
    ]

    -- done, one section more is synced
    pub log_rest : Logged (written x.number (length bytes) (ready f)) c (asked (log_asks f bytes) u)
    log_rest = elim (cases_Bool (is_full f)) [
      | inl full ↦
          let there = behind_rest (begun f) c_begun (asked (begin_asks f) u) (tracks_begun fmt at speaks f c tr) begun_rest e c.runs [] refl small_full bytes (spells_full full) in
          subst (λ (h : Files). Logged (written x.number (length bytes) h) c (asked (log_asks f bytes) u)) (sym (ready_full full))
          (subst (λ (v : Told). Logged (written x.number (length bytes) (begun f)) c v) (sym (ap (λ (l : List Ask). asked l u) (asks_full full) ∙ asked-append (begin_asks f) (behind_asks (begun f)) u))
          (record { counts = there.counts; mark = there.mark; marking = there.marking; floor = there.floor; flushed = there.flushed; synced = there.synced; tracks = there.tracks; rest = there.rest }))
      | inr isnt ↦
          subst (λ (h : Files). Logged (written x.number (length bytes) h) c (asked (log_asks f bytes) u)) (sym (ready_room isnt))
          (subst (λ (l : List Ask). Logged (written x.number (length bytes) f) c (asked l u)) (sym (asks_room isnt))
          (behind_rest f c u tr r e (the_last isnt).front (the_last isnt).last (the_last isnt).is (small_room isnt) bytes (spells_room isnt)))
    ]
