-- From the calls that code makes to the fact of the log.
use Rattle.std.proofs.Common.{◌≡◌, ℕ, ◌+◌, ◌<◌, List, [], ◌∷◌, ◌++◌, length, drop, get_or, Option, Some, Result, Ok, Err, sym, ◌∙◌, ap, subst, arith}
use Rattle.std.specs.Prelude.{OnErr}
use Rattle.mm_outside.specs.Told.{Told}
use Rattle.mm_outside.specs.Place.{Place}
use Rattle.mm_outside.specs.Ask.{Ask, asked, Makes, MakesSome}
use Rattle.mm_outside.proofs.Cuts.{Safe}
use Rattle.mm_crash.specs.Story.{Story}
use Rattle.mm_crash.specs.Parts.{LogParts}
use Rattle.mm_crash.specs.Rest.{Counts, IsAtRest}
use Rattle.mm_journal.specs.Tracks.{Tracks}
use Rattle.mm_journal.proofs.Real.{the_format, the_names}
use Rattle.mm_prefix.specs.Prefix.{Numbers, numbers_of, since, IsDurable}
use Rattle.mm_prefix.proofs.Keeping.{stopped, goes_on, syncs_one}
use Rattle.mm_durable.specs.Names.{db_of}
use Rattle.mm_durable.specs.Log.{numbers, synced, IsKept, Keeps, Leaving}
use Rattle.mm_durable.specs.declared.log.Log.{Log}

-- what holds anyway holds on an error
pub on_err_holds : {T E : Type 0} (r : Result T E) (P : Type 0) → P → OnErr r P
on_err_holds (Ok x) P h = tt
on_err_holds (Err e) P h = h

-- what the places may leave while this log's calls are made
abbrev pub Good : Story → Counts → (List ℕ → Place) → Type 0
Good story c = LogParts the_format the_names story c.mark c.marking c.floor c.s

-- these calls are safe wherever the fact holds
abbrev pub AreSafe : Log → List Ask → Type 0
AreSafe old asks = (t u : Told) (story : Story) (history : ℕ → Numbers) (k : IsKept t story history old u) → Safe (Good story k.counts) asks u

-- a call that is stopped
pub leaving : (old : Log) (before after : Option Told) (asks : List Ask) → MakesSome asks before after → AreSafe old asks → Leaving old before after
leaving old before after asks some safe t u story history is k =
    let cut = some u is in
    (cut.0, cut.1, stopped the_format the_names (db_of old.names.items) t story k.counts history old.receipts.items u k.durable asks cut.0 (safe t u story history k) cut.2)

pub numbers_are : (d : Counts) (mark marking floor s : ℕ) → d.mark ≡ mark → d.marking ≡ marking → d.floor ≡ floor → d.s ≡ s → let n : Numbers = record { mark = mark; marking = marking; floor = floor; synced = s } in numbers_of d ≡ n
numbers_are d mark marking floor s e g f h = cc

-- what stands after calls that are done
pub record Stands (old new : Log) (story : Story) (c : Counts) (u : Told) : Type 0 where
  pub counts : Counts
  pub rest : IsAtRest the_format the_names (db_of old.names.items) story counts u
  pub tracks : Tracks the_format new.journal counts
  pub mark : counts.mark ≡ new.mark
  pub marking : counts.marking ≡ new.mark
  pub floor : counts.floor ≡ new.floor
  pub flushed : (d : ℕ) → d < length old.names.items → counts.flushed d ≡ get_or new.flushed.items d 0
  pub sections : new.sections.items ≡ drop new.dropped story.sections

-- which databases there are, and where the run began, stays
pub record SameRun (old new : Log) : Type 0 where
  pub names : new.names.items ≡ old.names.items
  pub last : new.last ≡ old.last

durable_as : (names more : List (List ℕ)) (receipts given : List ℕ) (n p : Numbers) (t : Told) (story : Story) (c : Counts) (moment : ℕ) (history : ℕ → Numbers) (u : Told) → more ≡ names → given ≡ receipts → n ≡ p
    → IsDurable the_format the_names (db_of names) t story c (since moment n history) receipts u → IsDurable the_format the_names (db_of more) t story c (since moment p history) given u
durable_as names more receipts given n p t story c moment history u e f h is =
    subst (λ (l : List (List ℕ)). IsDurable the_format the_names (db_of l) t story c (since moment p history) given u) (sym e)
    (subst (λ (l : List ℕ). IsDurable the_format the_names (db_of names) t story c (since moment p history) l u) (sym f)
    (subst (λ (x : Numbers). IsDurable the_format the_names (db_of names) t story c (since moment x history) receipts u) h is))

module _ (old new : Log) (same : SameRun old new) where
  flushed_as : (story : Story) (c : Counts) (v : Told) (s : Stands old new story c v) (d : ℕ) → d < length new.names.items → s.counts.flushed d ≡ get_or new.flushed.items d 0
  flushed_as story c v s d lt = s.flushed d (omega (arith, lt, ap length same.names))

  -- calls that are done, with no section more that is synced
  pub kept_on : new.receipts.items ≡ old.receipts.items → (t u : Told) (story : Story) (c : Counts) (history : ℕ → Numbers) → IsDurable the_format the_names (db_of old.names.items) t story c history old.receipts.items u → story.last ≡ old.last
      → (asks : List Ask) → Safe (Good story c) asks u → (s : Stands old new story c (asked asks u)) → s.counts.s ≡ c.s → IsKept t story (since (length (asked asks u).calls) (numbers new) history) new (asked asks u)
  kept_on receipts t u story c history k last asks safe s none =
      let d = s.counts in
      let on = goes_on the_format the_names (db_of old.names.items) t story c history old.receipts.items u k asks d safe s.rest none in
      record {
        counts = d;
        durable = durable_as old.names.items new.names.items old.receipts.items new.receipts.items (numbers_of d) (numbers new) t story d (length (asked asks u).calls) history (asked asks u) same.names receipts
            (numbers_are d new.mark new.mark new.floor (synced new) s.mark s.marking s.floor (none ∙ sym k.each ∙ sym (ap length receipts))) on;
        tracks = s.tracks;
        mark = s.mark;
        marking = s.marking;
        floor = s.floor;
        flushed = flushed_as story c (asked asks u) s;
        sections = s.sections;
        last = last ∙ sym same.last;
      }

module _ (old new : Log) (before after : Option Told) (asks : List Ask) (same : SameRun old new) (made : Makes asks before after) (safe : AreSafe old asks) where
  -- no section more is synced
  pub keeps : new.receipts.items ≡ old.receipts.items → ((t u : Told) (story : Story) (history : ℕ → Numbers) (k : IsKept t story history old u) → (s : Stands old new story k.counts (asked asks u)) × (s.counts.s ≡ k.counts.s)) → Keeps old new before after
  keeps receipts stands t u story history is k =
      let st = stands t u story history k in
      (asked asks u, made u is, kept_on old new same receipts t u story k.counts history k.durable k.last asks (safe t u story history k) st.0 st.1)

  -- one more, and its receipt is of the moment after these calls
  pub keeps_one : ((u : Told) → before ≡ Some u → new.receipts.items ≡ old.receipts.items ++ length (asked asks u).calls ∷ [])
      → ((t u : Told) (story : Story) (history : ℕ → Numbers) (k : IsKept t story history old u) → (s : Stands old new story k.counts (asked asks u)) × (s.counts.s ≡ k.counts.s + 1)) → Keeps old new before after
  keeps_one receipts stands t u story history is k =
      let st = stands t u story history k in
      let s = st.0 in
      let d = s.counts in
      let given = old.receipts.items ++ length (asked asks u).calls ∷ [] in
      let on = syncs_one the_format the_names (db_of old.names.items) t story k.counts history old.receipts.items u k.durable asks d (safe t u story history k) s.rest st.1 in (
        asked asks u,
        made u is,
        record {
          counts = d;
          durable = durable_as old.names.items new.names.items given new.receipts.items (numbers_of d) (numbers new) t story d (length (asked asks u).calls) history (asked asks u) same.names (receipts u is)
              (numbers_are d new.mark new.mark new.floor (synced new) s.mark s.marking s.floor (sym on.each ∙ sym (ap length (receipts u is)))) on;
          tracks = s.tracks;
          mark = s.mark;
          marking = s.marking;
          floor = s.floor;
          flushed = flushed_as old new same story k.counts (asked asks u) s;
          sections = s.sections;
          last = k.last ∙ sym same.last;
        },
      )
