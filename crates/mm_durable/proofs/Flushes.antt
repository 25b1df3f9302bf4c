-- A database is flushed.
use Rattle.std.proofs.Common.{◌≡◌, inl, inr, ℕ, zero, suc, ◌+◌, ◌-◌, ◌<◌, ◌≤◌, true, false, cond, List, [], ◌∷◌, length, take, drop, set, get_or, Option, refl, sym, ◌∙◌, ap, subst, arith}
use Rattle.std.specs.Prelude.{◌==◌}
use Rattle.std.proofs.lemmas.Bool.{cases_eq}
use Rattle.std.proofs.lemmas.Bool.Decides.{nat_tests}
use Rattle.std.proofs.lemmas.List.{drop-drop, drop-take, get_or-set_same, get_or-set_other}
use Rattle.mm_outside.specs.Told.{Told}
use Rattle.mm_outside.specs.Ask.{Ask, asked, Makes}
use Rattle.mm_ranges.specs.declared.part.Part.{Part}
use Rattle.mm_section.specs.declared.section.Section.{Section}
use Rattle.mm_crash.specs.Asks.{lay_asks}
use Rattle.mm_crash.specs.Journal.{entries_of}
use Rattle.mm_crash.specs.Story.{Story, run, own_entries}
use Rattle.mm_crash.proofs.Flush.{flush_safe, flush_rest, flushed_now}
use Rattle.mm_jfiles.specs.Files as files
use Rattle.mm_journal.specs.Real.{disk_name}
use Rattle.mm_journal.specs.Tracks.{Tracks}
use Rattle.mm_journal.proofs.Real.{the_format, the_names}
use Rattle.mm_recover.specs.Laying.{AreNamed}
use Rattle.mm_prefix.specs.Prefix.{Numbers}
use Rattle.mm_durable.specs.Names.{db_of, AreDatabases, ArePartsOf, AreSectionsOf}
use Rattle.mm_durable.specs.Own.{own_of_sections, AreAllNamed}
use Rattle.mm_durable.specs.Log.{IsSound, IsKept, Keeps, synced}
use Rattle.mm_durable.specs.declared.log.Log.{Log}
use Rattle.mm_durable.proofs.Own.{named, own_sections}
use Rattle.mm_durable.proofs.Steps.{AreSafe, Stands, SameRun, keeps}

-- inside a list the other word for what stands past it doesn't count
pub at_place : {X : Type 0} (xs : List X) (i : ℕ) (d e : X) → i < length xs → get_or xs i d ≡ get_or xs i e
at_place [] i d e lt = absurd (omega arith)
at_place (x ∷ xs) zero d e lt = refl
at_place (x ∷ xs) (suc i) d e lt = at_place xs i d e (omega (arith, lt))

pub of_drop : (names : List (List ℕ)) (n : ℕ) (ss : List Section) → AreSectionsOf names ss → AreSectionsOf names (drop n ss)
of_drop names zero ss of = of
of_drop names (suc n) [] of = tt
of_drop names (suc n) (s ∷ ss) of = of_drop names n ss of.1

pub of_take : (names : List (List ℕ)) (n : ℕ) (ss : List Section) → AreSectionsOf names ss → AreSectionsOf names (take n ss)
of_take names zero ss of = tt
of_take names (suc n) [] of = tt
of_take names (suc n) (s ∷ ss) of = (of.0, of_take names n ss of.1)

all_named : (names : List (List ℕ)) → AreDatabases names → (ss : List Section) → AreSectionsOf names ss → AreAllNamed ss
all_named names are [] of = tt
all_named names are (s ∷ ss) of = (parts s.parts of.0, all_named names are ss of.1)
  where
    parts : (ps : List Part) → ArePartsOf names ps → AreNamed ps
    parts [] of = tt
    parts (p ∷ ps) of = (named names are names are p.name of.0, parts ps of.1)

pub names_are : the_names.disk_name ≡ disk_name
unfolding the_names
names_are = refl

module _ (old : Log) (sound : IsSound old) (d : ℕ) (lt : d < length old.names.items) (k from : ℕ) (is : from ≡ get_or old.flushed.items d 0) (le : from ≤ k) (to : k ≤ synced old) (kept : List Section) (kept_is : kept ≡ old.sections.items) where
  abbrev pub slice : List Section
  slice = take (k - old.dropped - (from - old.dropped)) (drop (from - old.dropped) kept)

  slice_of : AreSectionsOf old.names.items slice
  slice_of = of_take old.names.items (k - old.dropped - (from - old.dropped)) (drop (from - old.dropped) kept) (of_drop old.names.items (from - old.dropped) kept (subst (AreSectionsOf old.names.items) (sym kept_is) sound.own))

  pub slice_named : AreAllNamed slice
  slice_named = all_named old.names.items sound.names slice slice_of

  module _ (t u : Told) (story : Story) (history : ℕ → Numbers) (x : IsKept t story history old u) where
    slice_is : slice ≡ run story (x.counts.flushed d) k
    slice_is =
        let here : from ≡ x.counts.flushed d = omega (arith, is, x.flushed d lt) in
        let first : old.dropped ≤ from = omega (arith, is, sound.kept, sound.floor_flushed d lt) in
        let behind : drop (from - old.dropped) kept ≡ drop from story.sections =
        let along : old.dropped + (from - old.dropped) ≡ from = omega (arith, first) in
        ap (drop (from - old.dropped)) (kept_is ∙ x.sections) ∙ drop-drop (from - old.dropped) old.dropped story.sections ∙ ap (λ n. drop n story.sections) along in
        let many : k - old.dropped - (from - old.dropped) ≡ k - from = omega (arith, first, le) in
        let all : from + (k - from) ≡ k = omega (arith, le) in
        ap (λ n. take n (drop (from - old.dropped) kept)) many ∙ ap (take (k - from)) behind ∙ sym (drop-take from (k - from) story.sections) ∙ ap (λ n. drop from (take n story.sections)) all ∙ ap (λ n. run story n k) here

    asks_are : lay_asks (own_of_sections (get_or old.names.items d []) slice) ≡ lay_asks (own_entries (db_of old.names.items) d (entries_of the_names.disk_name (run story (x.counts.flushed d) k)))
    asks_are = ap lay_asks (sym (own_sections old.names.items sound.names d lt slice slice_of) ∙ ap (λ (l : List Section). own_entries (db_of old.names.items) d (entries_of disk_name l)) slice_is
        ∙ ap (λ (f : List ℕ → ℕ → List ℕ). own_entries (db_of old.names.items) d (entries_of f (run story (x.counts.flushed d) k))) (sym names_are))

    later : x.counts.flushed d ≤ k
    later = omega (arith, is, x.flushed d lt, le)

    no_later : k ≤ x.counts.s
    no_later = omega (arith, to, x.durable.each)

  abbrev pub asks : List Ask
  asks = lay_asks (own_of_sections (get_or old.names.items d []) slice)

  pub flushing_safe : AreSafe old asks
  flushing_safe t u story history x = subst (λ (l : List Ask). Rattle.mm_outside.proofs.Cuts.Safe (Rattle.mm_durable.proofs.Steps.Good story x.counts) l u) (sym (asks_are t u story history x))
      (flush_safe the_format the_names (db_of old.names.items) story x.durable.sound x.counts u x.durable.rest d k (later t u story history x) (no_later t u story history x))

  module _ (new : Log) (same : SameRun old new) (journal : new.journal ≡ old.journal) (mark : new.mark ≡ old.mark) (floor : new.floor ≡ old.floor) (flushed : new.flushed.items ≡ set old.flushed.items d k) (dropped : new.dropped ≡ old.dropped) (sections : new.sections.items ≡ old.sections.items) (receipts : new.receipts.items ≡ old.receipts.items) where
    flushed_there : (c : ℕ → ℕ) → ((y : ℕ) → y < length old.names.items → c y ≡ get_or old.flushed.items y 0) → (y : ℕ) → y < length old.names.items → cond (y == d) k (c y) ≡ get_or new.flushed.items y 0
    flushed_there c before y there = elim (cases_eq y d) [
      | inl same ↦
          let yes : (y == d) ≡ true = grind (arith, nat_tests) in
          ap (λ b. cond b k (c y)) yes ∙ sym (ap (λ (l : List ℕ). get_or l y 0) flushed ∙ ap (λ i. get_or (set old.flushed.items d k) i 0) same ∙ get_or-set_same old.flushed.items d k 0 (omega (arith, lt, sound.each)))
      | inr other ↦
          let no : (y == d) ≡ false = grind (arith, nat_tests) in
          ap (λ b. cond b k (c y)) no ∙ before y there ∙ sym (ap (λ (l : List ℕ). get_or l y 0) flushed ∙ get_or-set_other old.flushed.items d y k 0 other)
    ]

    pub flushes : (before after : Option Told) → Makes asks before after → Keeps old new before after
    flushes before after made = keeps old new before after asks same made flushing_safe receipts
        (λ t u story history x. (
          record {
            counts = record x.counts { flushed = flushed_now the_format the_names (db_of old.names.items) story x.durable.sound x.counts u x.durable.rest d k (later t u story history x) (no_later t u story history x) };
            rest = subst (λ (l : List Ask). Rattle.mm_crash.specs.Rest.IsAtRest the_format the_names (db_of old.names.items) story (record x.counts { flushed = flushed_now the_format the_names (db_of old.names.items) story x.durable.sound x.counts u x.durable.rest d k (later t u story history x) (no_later t u story history x) }) (asked l u)) (sym (asks_are t u story history x))
                (flush_rest the_format the_names (db_of old.names.items) story x.durable.sound x.counts u x.durable.rest d k (later t u story history x) (no_later t u story history x));
            tracks = subst (λ (f : files.Files). Tracks the_format f (record x.counts { flushed = flushed_now the_format the_names (db_of old.names.items) story x.durable.sound x.counts u x.durable.rest d k (later t u story history x) (no_later t u story history x) })) (sym journal)
                (record { first = x.tracks.first; lasts = x.tracks.lasts; end = x.tracks.end });
            mark = x.mark ∙ sym mark;
            marking = x.marking ∙ sym mark;
            floor = x.floor ∙ sym floor;
            flushed = flushed_there x.counts.flushed x.flushed;
            sections = sections ∙ x.sections ∙ sym (ap (λ n. drop n story.sections) dropped);
          },
          refl,
        ))
