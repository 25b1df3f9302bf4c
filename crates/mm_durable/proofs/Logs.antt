-- The oldest pending section is written and synced.
use Rattle.std.proofs.Common.{◌≡◌, ℕ, zero, suc, ◌+◌, ◌-◌, ◌^◌, ◌<◌, ◌≤◌, Bool, true, false, cond, List, [], ◌∷◌, ◌++◌, length, take, drop, get_or, Option, Some, refl, sym, ◌∙◌, ap, subst, arith, add-one, drop-cons}
use Rattle.std.proofs.lemmas.Bool.Decides.{nat_tests}
use Rattle.std.proofs.lemmas.List.{length-append, length-take-le, drop-drop}
use Rattle.std.specs.Prelude.{nat_le, ◌==◌, ◌||◌}
use Rattle.mm_outside.specs.Told.{Told, Syncs}
use Rattle.mm_outside.specs.Ask.{Ask, asked, Makes, MakesSome}
use Rattle.mm_section.specs.declared.section.Section.{Section}
use Rattle.mm_section.specs.Spells.{IsSpellable, section_bytes}
use Rattle.mm_jfiles.specs.Names.{journal_name}
use Rattle.mm_jfiles.specs.Files.{Files, last_number, ready, is_full, begun, written, append_asks, sync_ask}
use Rattle.mm_jfiles.proofs.Asking.{some_then, some_first, made_none, made_then}
use Rattle.mm_crash.specs.Journal.{AllCan}
use Rattle.mm_crash.specs.Story.{Story}
use Rattle.mm_journal.specs.Tracks.{Tracks, log_asks}
use Rattle.mm_journal.proofs.Real.{the_format, the_names, speaks, can_is}
use Rattle.mm_prefix.specs.Prefix.{Numbers}
use Rattle.mm_prefix.proofs.Logging.{log_safe, log_rest}
use Rattle.mm_durable.specs.Names.{db_of}
use Rattle.mm_durable.specs.Log.{IsSound, GoesOn, IsKept, Keeps, Leaving, synced, sealed, pending_sections, has_pending, oldest_asks, with_oldest}
use Rattle.mm_durable.specs.declared.log.Log.{Log}
use Rattle.mm_durable.proofs.Steps.{AreSafe, Stands, SameRun, leaving, keeps_one}

-- ---- the section and its spelling

pub can_at : (xs : List Section) (i : ℕ) (x : Section) → i < length xs → x ≡ get_or xs i x → AllCan the_format xs → the_format.can x ≡ true
can_at [] i x lt is all = absurd (omega arith)
can_at (y ∷ xs) zero x lt is all = subst (λ (s : Section). the_format.can s ≡ true) (sym is) all.0
can_at (y ∷ xs) (suc i) x lt is all = can_at xs i x (omega (arith, lt)) is all.1

pub spellable : (x : Section) → the_format.can x ≡ true → IsSpellable x
unfolding the_format
spellable x can = can_is x can

pub spells : (n : ℕ) (x : Section) → section_bytes (n + 1) x ≡ the_format.section n x
unfolding the_format
spells n x = refl

-- the oldest pending section is kept
pub pending_inside : (old : Log) → IsSound old → has_pending old ≡ true → synced old - old.dropped < length old.sections.items
pending_inside old sound pending =
    let lt : synced old < sealed old = grind (arith, nat_tests) in
    omega (arith, lt, sound.kept, sound.floor_synced)

-- without a pending section nothing is asked
pub none_pending : (old : Log) → IsSound old → sealed old ≤ synced old → pending_sections old ≡ []
none_pending old sound le =
    all_dropped (synced old - old.dropped) old.sections.items (omega (arith, le, sound.kept, sound.floor_synced))
  where
    all_dropped : (n : ℕ) (xs : List Section) → length xs ≤ n → drop n xs ≡ []
    all_dropped zero [] le = refl
    all_dropped zero (x ∷ xs) le = absurd (omega (arith, le))
    all_dropped (suc n) [] le = refl
    all_dropped (suc n) (x ∷ xs) le = all_dropped n xs (omega (arith, le))

pub asks_nothing : (old : Log) → pending_sections old ≡ [] → (before : Option Told) → Makes (oldest_asks old.journal (pending_sections old)) before before
asks_nothing old none before = subst (λ (l : List Section). Makes (oldest_asks old.journal l) before before) (sym none) (made_none before)

-- ---- the last file stays the last

ready_some : (f : Files) → 0 < length (ready f).lasts
ready_some f = by (is_full f) refl
  where
    by : (b : Bool) → is_full f ≡ b → 0 < length (cond b (begun f) f).lasts
    by true full = omega (arith, length-append f.lasts (0 ∷ []))
    by false isnt = some (length f.lasts) refl isnt
      where
        some : (n : ℕ) → length f.lasts ≡ n → (n == 0 || nat_le f.limit f.end) ≡ false → 0 < length f.lasts
        some zero e none = absurd (mathlib.Core.Bool.true≢false none)
        some (suc n) e none = omega (arith, e)

pub last_stays : (f : Files) (number len : ℕ) → last_number (written number len (ready f)) ≡ last_number (ready f)
last_stays f number len =
    let some = ready_some f in
    let lasts = (ready f).lasts in
    omega (arith, some, length-append (take (length lasts - 1) lasts) (number ∷ []), length-take-le (length lasts - 1) lasts (omega arith))

module _ (old : Log) (sound : IsSound old) (goes : GoesOn old) (pending : has_pending old ≡ true) (x : Section) (is : x ≡ get_or old.sections.items (synced old - old.dropped) x) (bytes : List ℕ) (spelled : bytes ≡ section_bytes (last_number (ready old.journal) + 1) x) where
  abbrev place : ℕ
  place = synced old - old.dropped

  inside : place < length old.sections.items
  inside = pending_inside old sound pending

  abbrev others : List Section
  others = drop (place + 1) old.sections.items

  its_spelling : bytes ≡ the_format.section (last_number (ready old.journal)) x
  its_spelling = spelled ∙ spells (last_number (ready old.journal)) x

  room : Rattle.mm_jfiles.specs.Files.next_number old.journal < 2 ^ 32
  room = omega (arith, goes.begun, sound.there, sound.few)

  oldest : pending_sections old ≡ x ∷ others
  oldest = rw add-one (drop-cons old.sections.items place x inside) ∙ ap (λ (y : Section). y ∷ others) (sym is)

  -- it is the next of the run
  comes_next : (t u : Told) (story : Story) (history : ℕ → Numbers) (k : IsKept t story history old u) → drop k.counts.s story.sections ≡ x ∷ others
  comes_next t u story history k =
      let along : old.dropped + place ≡ k.counts.s = omega (arith, k.durable.each, sound.kept, sound.floor_synced) in
      sym (ap (λ n. drop n story.sections) along) ∙ sym (drop-drop place old.dropped story.sections) ∙ ap (drop place) (sym k.sections) ∙ oldest

  pub logging_safe : AreSafe old (log_asks old.journal bytes)
  logging_safe t u story history k = log_safe the_format the_names (db_of old.names.items) speaks story k.durable.sound x others old.journal k.counts u k.tracks k.durable.rest (comes_next t u story history k) room bytes its_spelling

  -- the calls, with the sync of the file as it is after the write
  pub logs_as : (f : Files) → f ≡ written x.number (length bytes) (ready old.journal) → append_asks old.journal bytes ++ sync_ask f ∷ [] ≡ log_asks old.journal bytes
  logs_as f e = ap (λ (g : Files). append_asks old.journal bytes ++ sync_ask g ∷ []) e ∙ ap (λ n. append_asks old.journal bytes ++ record { name = journal_name n; change = Syncs } ∷ []) (last_stays old.journal x.number (length bytes))

  pub files_are : (f g : Files) → g ≡ f → f ≡ written x.number (length bytes) (ready old.journal) → g ≡ with_oldest old.journal (pending_sections old)
  files_are f g same e = same ∙ e ∙ ap (λ (b : List ℕ). written x.number (length b) (ready old.journal)) spelled ∙ ap (with_oldest old.journal) (sym oldest)

  pub asks_are : (f : Files) → f ≡ written x.number (length bytes) (ready old.journal) → (before mid after : Option Told) → Makes (append_asks old.journal bytes) before mid → Makes (sync_ask f ∷ []) mid after → Makes (oldest_asks old.journal (pending_sections old)) before after
  asks_are f e before mid after made sync =
      let said : append_asks old.journal bytes ++ sync_ask f ∷ [] ≡ oldest_asks old.journal (pending_sections old) = logs_as f e ∙ ap (log_asks old.journal) spelled ∙ ap (oldest_asks old.journal) (sym oldest) in
      subst (λ (l : List Ask). Makes l before after) said (made_then (append_asks old.journal bytes) (sync_ask f ∷ []) before mid after made sync)

  pub appending_left : (before after : Option Told) → MakesSome (append_asks old.journal bytes) before after → Leaving old before after
  appending_left before after some = leaving old before after (log_asks old.journal bytes) (some_first (append_asks old.journal bytes) _ before after some) logging_safe

  pub syncing_left : (f : Files) → f ≡ written x.number (length bytes) (ready old.journal) → (before mid after : Option Told) → Makes (append_asks old.journal bytes) before mid → MakesSome (sync_ask f ∷ []) mid after → Leaving old before after
  syncing_left f e before mid after made some = leaving old before after (log_asks old.journal bytes) (subst (λ (l : List Ask). MakesSome l before after) (logs_as f e) (some_then (append_asks old.journal bytes) (sync_ask f ∷ []) before mid after made some)) logging_safe

  module _ (new : Log) (same : SameRun old new) (f : Files) (e : f ≡ written x.number (length bytes) (ready old.journal)) (journal : new.journal ≡ f) (mark : new.mark ≡ old.mark) (floor : new.floor ≡ old.floor) (flushed : new.flushed.items ≡ old.flushed.items) (dropped : new.dropped ≡ old.dropped) (kept : new.sections.items ≡ old.sections.items) where
    stands : (t u : Told) (story : Story) (history : ℕ → Numbers) (k : IsKept t story history old u) → (s : Stands old new story k.counts (asked (log_asks old.journal bytes) u)) × (s.counts.s ≡ k.counts.s + 1)
    stands t u story history k =
        let r = log_rest the_format the_names (db_of old.names.items) speaks story k.durable.sound x others old.journal k.counts u k.tracks k.durable.rest (comes_next t u story history k) room bytes its_spelling in (
          record {
            counts = r.counts;
            rest = r.rest;
            tracks = subst (λ (g : Files). Tracks the_format g r.counts) (sym (journal ∙ e)) r.tracks;
            mark = r.mark ∙ k.mark ∙ sym mark;
            marking = r.marking ∙ k.marking ∙ sym mark;
            floor = r.floor ∙ k.floor ∙ sym floor;
            flushed = λ d lt. ap (λ (g : ℕ → ℕ). g d) r.flushed ∙ k.flushed d lt ∙ sym (ap (λ (l : List ℕ). get_or l d 0) flushed);
            sections = kept ∙ k.sections ∙ sym (ap (λ n. drop n story.sections) dropped);
          },
          r.synced,
        )

    pub logged : (before mid after : Option Told) → Makes (append_asks old.journal bytes) before mid → Makes (sync_ask f ∷ []) mid after → ((v : Told) → after ≡ Some v → new.receipts.items ≡ old.receipts.items ++ length v.calls ∷ []) → Keeps old new before after
    logged before mid after made synced receipts =
        let all : Makes (log_asks old.journal bytes) before after = subst (λ (l : List Ask). Makes l before after) (logs_as f e) (made_then (append_asks old.journal bytes) (sync_ask f ∷ []) before mid after made synced) in
        keeps_one old new before after (log_asks old.journal bytes) same all logging_safe (λ u is. receipts (asked (log_asks old.journal bytes) u) (all u is)) stands
