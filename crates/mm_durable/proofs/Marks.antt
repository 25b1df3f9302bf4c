-- The floor's number is written into the lsn file.
use Rattle.std.proofs.Common.{◌≡◌, ℕ, ◌+◌, ◌<◌, ◌≤◌, Bool, true, false, cond, List, [], length, Option, refl, sym, ◌∙◌, ap, subst, arith}
use Rattle.std.specs.Prelude.{nat_lt}
use Rattle.std.proofs.lemmas.Bool.Decides.{nat_tests}
use Rattle.mm_outside.specs.Told.{Told}
use Rattle.mm_outside.specs.Ask.{Ask, asked, Makes, MakesSome}
use Rattle.mm_outside.proofs.Cuts.{Safe}
use Rattle.mm_jfiles.specs.Marks.{mark_asks}
use Rattle.mm_jfiles.proofs.Asking.{made_none}
use Rattle.mm_crash.specs.Asks as theory
use Rattle.mm_crash.specs.Story.{Story}
use Rattle.mm_crash.specs.Rest.{Counts, IsAtRest}
use Rattle.mm_crash.proofs.Log.{mark_safe, mark_rest}
use Rattle.mm_journal.proofs.Real.{the_format, the_names, marks_so}
use Rattle.mm_prefix.specs.Prefix.{Numbers, since, IsDurable}
use Rattle.mm_prefix.proofs.Keeping.{stopped, begins_marking}
use Rattle.mm_durable.specs.Names.{db_of}
use Rattle.mm_durable.specs.Log.{IsSound, IsKept, Keeps, KeepsMarking, LeavingMarking, marking_numbers, synced, floor_asks}
use Rattle.mm_durable.specs.declared.log.Log.{Log}
use Rattle.mm_durable.proofs.Steps.{Good, numbers_are, kept_on, keeps}

pub marks_floor : (log : Log) → log.mark < log.floor → (before after : Option Told) → Makes (mark_asks (log.last + log.floor)) before after → Makes (floor_asks log) before after
marks_floor log lt before after made =
    let test : nat_lt log.mark log.floor ≡ true = grind (arith, nat_tests) in
    subst (λ (b : Bool). Makes (cond b (mark_asks (log.last + log.floor)) []) before after) (sym test) made

pub marks_nothing : (log : Log) → log.floor ≤ log.mark → (before : Option Told) → Makes (floor_asks log) before before
marks_nothing log le before =
    let test : nat_lt log.mark log.floor ≡ false = grind (arith, nat_tests) in
    subst (λ (b : Bool). Makes (cond b (mark_asks (log.last + log.floor)) []) before before) (sym test) (made_none before)

-- Since the call has begun the floor is being marked.
pub marking_begins : (old : Log) (t u : Told) (story : Story) (history : ℕ → Numbers) (k : IsKept t story history old u)
    → IsDurable the_format the_names (db_of old.names.items) t story (record k.counts { marking = k.counts.floor }) (since (length u.calls) (marking_numbers old) history) old.receipts.items u
marking_begins old t u story history k =
    let c : Counts = record k.counts { marking = k.counts.floor } in
    subst (λ (n : Numbers). IsDurable the_format the_names (db_of old.names.items) t story c (since (length u.calls) n history) old.receipts.items u)
    (numbers_are c old.mark old.floor old.floor (synced old) k.mark k.floor k.floor (sym k.durable.each))
    (begins_marking the_format the_names (db_of old.names.items) t story k.counts history old.receipts.items u k.durable)

module _ (old : Log) (sound : IsSound old) where
  module _ (t u : Told) (story : Story) (history : ℕ → Numbers) (k : IsKept t story history old u) where
    abbrev c : Counts
    c = record k.counts { marking = k.counts.floor }

    asks_are : mark_asks (old.last + old.floor) ≡ theory.mark_asks the_names.lsn the_format.size (the_format.number (story.last + c.marking))
    asks_are =
        let same : old.last + old.floor ≡ story.last + c.marking = omega (arith, k.last, k.floor) in
        marks_so (old.last + old.floor) (omega (arith, sound.last, sound.floor_synced, sound.there, sound.few)) ∙ ap (λ n. theory.mark_asks the_names.lsn the_format.size (the_format.number n)) same

    mark_safe_here : Safe (Good story c) (mark_asks (old.last + old.floor)) u
    mark_safe_here = subst (λ (l : List Ask). Safe (Good story c) l u) (sym asks_are) (mark_safe the_format the_names (db_of old.names.items) story k.durable.sound c u (marking_begins old t u story history k).rest)

    mark_rest_here : IsAtRest the_format the_names (db_of old.names.items) story (record c { mark = c.marking }) (asked (mark_asks (old.last + old.floor)) u)
    mark_rest_here = subst (λ (l : List Ask). IsAtRest the_format the_names (db_of old.names.items) story (record c { mark = c.marking }) (asked l u)) (sym asks_are) (mark_rest the_format the_names (db_of old.names.items) story k.durable.sound c u (marking_begins old t u story history k).rest)

  -- nothing is written, and all is as it was
  pub idle : (before : Option Told) → Keeps old old before before
  idle before = keeps old old before before [] (record { names = refl; last = refl }) (made_none before) (λ t u story history k. tt) refl
      (λ t u story history k. (record { counts = k.counts; rest = k.durable.rest; tracks = k.tracks; mark = k.mark; marking = k.marking; floor = k.floor; flushed = k.flushed; sections = k.sections }, refl))

  -- the call is stopped
  pub marking_left : (before after : Option Told) → MakesSome (mark_asks (old.last + old.floor)) before after → LeavingMarking old before after
  marking_left before after some t u story history is k =
      let cut = some u is in
      (cut.0, cut.1, stopped the_format the_names (db_of old.names.items) t story (c t u story history k) (since (length u.calls) (marking_numbers old) history) old.receipts.items u (marking_begins old t u story history k) (mark_asks (old.last + old.floor)) cut.0 (mark_safe_here t u story history k) cut.2)

  -- the floor stands there already
  pub marked_before : (before : Option Told) → KeepsMarking old old before before
  marked_before before t u story history is k = (
    u,
    is,
    kept_on old old (record { names = refl; last = refl }) refl t u story (c t u story history k) (since (length u.calls) (marking_numbers old) history) (marking_begins old t u story history k) k.last [] tt
        (record { counts = k.counts; rest = k.durable.rest; tracks = k.tracks; mark = k.mark; marking = k.marking; floor = k.floor; flushed = k.flushed; sections = k.sections }) refl,
  )

  pub marked : (before after : Option Told) → Makes (mark_asks (old.last + old.floor)) before after → KeepsMarking old (record old { mark = old.floor }) before after
  marked before after made t u story history is k = (
    asked (mark_asks (old.last + old.floor)) u,
    made u is,
    kept_on old (record old { mark = old.floor }) (record { names = refl; last = refl }) refl t u story (c t u story history k) (since (length u.calls) (marking_numbers old) history) (marking_begins old t u story history k) k.last
        (mark_asks (old.last + old.floor)) (mark_safe_here t u story history k)
        (record {
          counts = record k.counts { mark = k.counts.floor; marking = k.counts.floor };
          rest = mark_rest_here t u story history k;
          tracks = record { first = k.tracks.first; lasts = k.tracks.lasts; end = k.tracks.end };
          mark = k.floor;
          marking = k.floor;
          floor = k.floor;
          flushed = k.flushed;
          sections = k.sections;
        }) refl,
  )
