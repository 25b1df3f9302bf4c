-- All files of the journal are removed.
use Rattle.std.proofs.Common.{◌≡◌, inr, ℕ, List, [], ◌∷◌, drop, ◌+◌, ◌-◌, ◌^◌, ◌≤◌, true, length, take, Option, refl, sym, ◌∙◌, ap, subst, arith}
use Rattle.std.specs.Prelude.{◌==◌}
use Rattle.std.proofs.lemmas.Bool.Decides.{nat_tests}
use Rattle.std.proofs.lemmas.List.{length-map, length-take-le, length-drop, take_all}
use Rattle.mm_outside.specs.Told.{Told}
use Rattle.mm_outside.specs.Ask.{Makes}
use Rattle.mm_section.proofs.Limits.{both}
use Rattle.mm_jfiles.specs.Files.{Files, dropped, remove_asks}
use Rattle.mm_crash.specs.Story.{Story, run}
use Rattle.mm_crash.specs.Rest.{Counts, all_of}
use Rattle.mm_journal.specs.Tracks.{last_of}
use Rattle.mm_journal.proofs.Real.{the_format, the_names, speaks}
use Rattle.mm_prefix.specs.Prefix.{Numbers}
use Rattle.mm_prefix.proofs.Logging.{next_is}
use Rattle.mm_prefix.proofs.Removing.{AreMarked, remove_all_safe, remove_all_rest}
use Rattle.mm_durable.specs.Names.{db_of}
use Rattle.mm_durable.specs.Log.{IsSound, GoesOn, IsKept, Keeps, synced, sealed, is_marked}
use Rattle.mm_durable.specs.declared.log.Log.{Log}
use Rattle.mm_durable.proofs.Steps.{AreSafe, keeps}

pub drop_all : (lasts : List ℕ) → drop (length lasts) lasts ≡ []
drop_all [] = refl
drop_all (n ∷ lasts) = drop_all lasts

module _ (old : Log) (sound : IsSound old) (k : ℕ) where
  -- how many files may be removed
  abbrev pub MayGo : Type 0
  MayGo = (t u : Told) (story : Story) (history : ℕ → Numbers) (x : IsKept t story history old u) → (k ≤ length x.counts.runs) × AreMarked the_format the_names (db_of old.names.items) speaks story x.durable.sound k x.counts x.counts.runs

module _ (old : Log) (sound : IsSound old) (goes : GoesOn old) (k : ℕ) where
  small : (t u : Told) (story : Story) (history : ℕ → Numbers) (x : IsKept t story history old u) → x.counts.first + length x.counts.runs ≤ 2 ^ 32
  small t u story history x = omega (arith, next_is the_format old.journal x.counts x.tracks, goes.begun, sound.there, sound.few)

  pub removing_safe : MayGo old sound k → AreSafe old (remove_asks old.journal.first k)
  removing_safe may t u story history x =
      let m = may t u story history x in
      remove_all_safe the_format the_names (db_of old.names.items) speaks story x.durable.sound k old.journal x.counts u x.tracks x.durable.rest x.counts.runs refl m.0 (small t u story history x) m.1

  pub removed : MayGo old sound k → (journal : Files) → journal ≡ dropped k old.journal → (before after : Option Told) → Makes (remove_asks old.journal.first k) before after → Keeps old (record old { journal = journal }) before after
  removed may journal is before after made = keeps old (record old { journal = journal }) before after (remove_asks old.journal.first k) (record { names = refl; last = refl }) made (removing_safe may) refl
      (λ t u story history x.
      let m = may t u story history x in
      let r = remove_all_rest the_format the_names (db_of old.names.items) speaks story x.durable.sound k old.journal x.counts u x.tracks x.durable.rest x.counts.runs refl m.0 (small t u story history x) m.1 in (
        record {
          counts = r.counts;
          rest = r.rest;
          tracks = subst (λ (f : Files). Rattle.mm_journal.specs.Tracks.Tracks the_format f r.counts) (sym is) r.tracks;
          mark = r.mark ∙ x.mark;
          marking = r.marking ∙ x.marking;
          floor = r.floor ∙ x.floor;
          flushed = λ d lt. ap (λ (f : ℕ → ℕ). f d) r.flushed ∙ x.flushed d lt;
          sections = x.sections;
        },
        r.synced,
      ))

-- where each section is synced and marked, all of them may
pub all_may_go : (old : Log) (sound : IsSound old) → is_marked old ≡ true → MayGo old sound (length old.journal.lasts)
all_may_go old sound marked t u story history x =
    let c : Counts = x.counts in
    let counted : length old.journal.lasts ≡ length c.runs = ap length x.tracks.lasts ∙ length-map c.runs last_of in
    let tests = both (old.mark == synced old) (synced old == sealed old) marked in
    let same : old.mark ≡ synced old = grind (arith, nat_tests) in
    let all : all_of (take (length old.journal.lasts) c.runs) ≡ run story c.from c.s = ap all_of (take_all (length old.journal.lasts) c.runs (omega (arith, counted))) ∙ x.durable.rest.journal.all in
    let run_len : length (run story c.from c.s) ≡ c.s - c.from = length-drop c.from (take c.s story.sections) ∙ ap (λ n. n - c.from) (length-take-le c.s story.sections x.durable.rest.s_there) in
    (omega (arith, counted), inr (omega (arith, ap length all, run_len, x.durable.rest.journal.from_s, x.mark, x.durable.each, same)))
