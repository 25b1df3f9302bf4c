-- What stands on the disk between two calls is what the items of each database make.
use Rattle.std.proofs.Common.{◌≡◌, inl, inr, ◌⊎◌, ⊎_elim, ℕ, zero, suc, ◌+◌, ◌<◌, ◌≤◌, Bool, true, false, true≢false, List, [], ◌∷◌, length, map, get_or, Some, None, refl, sym, ◌∙◌, ap, subst, arith}
use Rattle.std.specs.Prelude.{◌&&◌}
use Rattle.std.specs.FinMap.{get}
use Rattle.mm_outside.specs.Told.{Told}
use Rattle.mm_outside.specs.Place.{place_of, clean}
use Rattle.mm_outside.proofs.Places.{same_name}
use Rattle.mm_ranges.specs.Limits.{is_file}
use Rattle.mm_section.specs.Spells.{is_db_name}
use Rattle.mm_section.specs.declared.section.Section.{Section}
use Rattle.mm_crash.specs.Chance.{places_of}
use Rattle.mm_crash.specs.Rest.{RestsFrom}
use Rattle.mm_crash.specs.Story.{Story, state}
use Rattle.mm_journal.specs.Real.{disk_name}
use Rattle.mm_journal.specs.Tracks.{last_of}
use Rattle.mm_journal.proofs.Real.{the_format, the_names}
use Rattle.mm_items.specs.Given.{Taken, images_of}
use Rattle.mm_prefix.specs.Prefix.{Numbers}
use Rattle.mm_durable.specs.Names.{db_of, index_of, has_name}
use Rattle.mm_durable.specs.Log.{IsSound, HasCleared}
use Rattle.mm_durable.specs.Intake.{is_ours, first_items}
use Rattle.mm_durable.specs.Durable.{IsServed}
use Rattle.mm_durable.specs.Laws.{IsStanding}
use Rattle.mm_durable.specs.declared.log.Log.{Log}
use Rattle.mm_durable.proofs.Own.{stem_is, index_is, named}
use Rattle.mm_durable.proofs.Syncs.{is_data}
use Rattle.mm_durable.proofs.Taking.{has_at}
use Rattle.mm_durable.proofs.Sealed.{full_of}
use Rattle.mm_durable.proofs.Reading.{state_reads}

both_true : (a b : Bool) → a ≡ true → b ≡ true → (a && b) ≡ true
both_true true b e f = f
both_true false b e f = absurd (true≢false (sym e))

no_runs : (runs : List (List Section)) → map last_of runs ≡ [] → runs ≡ []
no_runs [] e = refl
no_runs (run ∷ runs) e = absurd (omega (arith, ap length e))

module _ (log : Log) (sound : IsSound log) (items : Taken) (t u : Told) (story : Story) (history : ℕ → Numbers) (k : IsServed t u story history log items) where
  module _ (d : ℕ) (lt : d < length log.names.items) where
    abbrev name : List ℕ
    name = get_or log.names.items d []

    there : has_name log.names.items name ≡ true
    there = has_at log.names.items d lt

    word : is_db_name name ≡ true
    word = named log.names.items sound.names log.names.items sound.names name there

    ours : is_ours log.names.items name ≡ true
    ours = both_true (is_db_name name) (has_name log.names.items name) word there

    number : (f : ℕ) → db_of log.names.items (disk_name name f) ≡ d
    number f = ap (index_of log.names.items) (stem_is name f word) ∙ full_of (index_of log.names.items name) d (index_is log.names.items sound.names d lt name ∙ same_name name)

    flushed : (f : ℕ) → k.log_is.counts.flushed (db_of log.names.items (disk_name name f)) ≡ get_or log.flushed.items d 0
    flushed f = ap k.log_is.counts.flushed (number f) ∙ k.log_is.flushed d lt

    pub file_reads : (f : ℕ) → is_file f ≡ true → (place_of u (disk_name name f)).file ≡ get (images_of (first_items (get_or log.flushed.items d 0 + 1) items) name) f
    file_reads f is =
        let rest = k.log_is.durable.rest in
        rest.reads (disk_name name f) (is_data name f word)
        ∙ (ap (λ (n : ℕ). state the_names story n (disk_name name f)) (flushed f)
        ∙ state_reads log.names.items items story k.images (get_or log.flushed.items d 0) (omega (arith, flushed f, rest.flushed_s (db_of log.names.items (disk_name name f)), rest.s_there)) name ours f is)

  lsn : place_of u the_names.lsn ≡ clean (Some (the_format.number (log.last + log.mark)))
  lsn = k.log_is.durable.rest.lsn ∙ ap (λ (n : ℕ). clean (Some (the_format.number n))) (omega (arith, k.log_is.last, k.log_is.mark))

  none : HasCleared log → (n : ℕ) → places_of the_names (place_of u) n ≡ clean None
  none cleared n =
      let c = k.log_is.counts in
      let journal = k.log_is.durable.rest.journal in
      let rests = subst (RestsFrom the_format (places_of the_names (place_of u)) c.first) (no_runs c.runs (sym k.log_is.tracks.lasts ∙ cleared)) journal.rests in
      ⊎_elim (λ (low : n < c.first). journal.before n low) (λ (high : c.first ≤ n). rests n high) (below_or_not n c.first)
    where
      below_or_not : (a b : ℕ) → (a < b) ⊎ (b ≤ a)
      below_or_not a zero = inr (omega arith)
      below_or_not zero (suc b) = inl (omega arith)
      below_or_not (suc a) (suc b) = ⊎_elim (λ (low : a < b). inl (omega (arith, low))) (λ (high : b ≤ a). inr (omega (arith, high))) (below_or_not a b)

  pub standing : IsStanding log items u
  standing = record { reads = file_reads; lsn = lsn; journal = none }
