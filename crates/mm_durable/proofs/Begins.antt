-- A run begins, and sections are sealed.
use Rattle.std.proofs.Common.{◌≡◌, ℕ, zero, suc, ◌+◌, ◌^◌, ◌<◌, ◌≤◌, List, [], ◌∷◌, ◌++◌, length, drop, get_or, replicate, true, refl, sym, ◌∙◌, ap, subst, arith}
use Rattle.std.proofs.lemmas.List.{length-append, drop-append-le}
use Rattle.mm_outside.specs.Told.{Told}
use Rattle.mm_section.specs.declared.section.Section.{Section}
use Rattle.mm_crash.specs.Journal.{AllCan}
use Rattle.mm_crash.specs.Recovered.{Files}
use Rattle.mm_crash.specs.Story.{Story, with_section}
use Rattle.mm_crash.specs.Rest.{IsNext, IsRecovered, new_story, no_counts}
use Rattle.mm_jfiles.specs.Files as journal
use Rattle.mm_journal.specs.Tracks.{Tracks}
use Rattle.mm_journal.proofs.Real.{the_format, the_names}
use Rattle.mm_prefix.specs.Prefix.{Numbers, at_first, IsDurable}
use Rattle.mm_prefix.proofs.Keeping.{seals, starts}
use Rattle.mm_durable.specs.Names.{db_of, AreDatabases, ArePartsOf, AreSectionsOf}
use Rattle.mm_durable.specs.Log.{IsSound, IsKept, sealed}
use Rattle.mm_durable.specs.declared.log.Log.{Log}

pub none_flushed : (n d : ℕ) → get_or {A = ℕ} (replicate n 0) d 0 ≡ 0
none_flushed zero d = refl
none_flushed (suc n) zero = refl
none_flushed (suc n) (suc d) = none_flushed n d

pub can_more : (xs : List Section) (x : Section) → AllCan the_format xs → the_format.can x ≡ true → AllCan the_format (xs ++ x ∷ [])
can_more [] x all can = (can, tt)
can_more (y ∷ xs) x all can = (all.0, can_more xs x all.1 can)

own_more : (names : List (List ℕ)) (xs : List Section) (x : Section) → AreSectionsOf names xs → ArePartsOf names x.parts → AreSectionsOf names (xs ++ x ∷ [])
own_more names [] x all own = (own, tt)
own_more names (y ∷ xs) x all own = (all.0, own_more names xs x all.1 own)

-- a log that has nothing yet
pub record IsNew (log : Log) (number : ℕ) : Type 0 where
  pub first : log.journal.first ≡ 0
  pub lasts : log.journal.lasts ≡ []
  pub end : log.journal.end ≡ 0
  pub last : log.last ≡ number
  pub sections : log.sections.items ≡ []
  pub dropped : log.dropped ≡ 0
  pub receipts : log.receipts.items ≡ []
  pub flushed : (d : ℕ) → get_or log.flushed.items d 0 ≡ 0
  pub floor : log.floor ≡ 0
  pub mark : log.mark ≡ 0

pub begins : (log : Log) (last : ℕ) → IsNew log last → (files : Files) (u : Told) → IsRecovered the_format the_names files last u → IsKept u (new_story files last) at_first log u
begins log last is files u recovered = record {
  counts = no_counts;
  durable = subst (λ (l : List ℕ). IsDurable the_format the_names (db_of log.names.items) u (new_story files last) no_counts at_first l u) (sym is.receipts) (starts the_format the_names (db_of log.names.items) files last u recovered);
  tracks = record { first = is.first; lasts = is.lasts; end = λ some. absurd (omega (arith, some)) };
  mark = sym is.mark;
  marking = sym is.mark;
  floor = sym is.floor;
  flushed = λ d lt. sym (is.flushed d);
  sections = is.sections ∙ sym (ap (λ n. drop n []) is.dropped);
  last = sym is.last;
}

-- one section more is sealed
pub adds : (old new : Log) (x : Section) → IsSound old → new.journal ≡ old.journal → new.names.items ≡ old.names.items → new.last ≡ old.last → new.sections.items ≡ old.sections.items ++ x ∷ [] → new.dropped ≡ old.dropped → new.receipts.items ≡ old.receipts.items → new.flushed.items ≡ old.flushed.items → new.floor ≡ old.floor → new.mark ≡ old.mark
    → (t u : Told) (story : Story) (history : ℕ → Numbers) → IsKept t story history old u → IsNext the_format the_names story x → IsKept t (with_section story x) history new u
adds old new x sound files names last sections dropped receipts flushed floor mark t u story history k next =
    let here : IsDurable the_format the_names (db_of old.names.items) t (with_section story x) k.counts history old.receipts.items u = seals the_format the_names (db_of old.names.items) t story k.counts history old.receipts.items u k.durable x next in
    let there : old.dropped ≤ length story.sections = omega (arith, sound.kept, sound.floor_synced, k.durable.each, k.durable.rest.s_there) in
    record {
      counts = k.counts;
      durable =
          subst (λ (l : List (List ℕ)). IsDurable the_format the_names (db_of l) t (with_section story x) k.counts history new.receipts.items u) (sym names)
          (subst (λ (l : List ℕ). IsDurable the_format the_names (db_of old.names.items) t (with_section story x) k.counts history l u) (sym receipts) here);
      tracks = subst (λ (f : journal.Files). Tracks the_format f k.counts) (sym files) k.tracks;
      mark = k.mark ∙ sym mark;
      marking = k.marking ∙ sym mark;
      floor = k.floor ∙ sym floor;
      flushed = λ d lt. k.flushed d (omega (arith, lt, ap length names)) ∙ sym (ap (λ (l : List ℕ). get_or l d 0) flushed);
      sections = sections ∙ ap (λ (l : List Section). l ++ x ∷ []) k.sections ∙ sym (drop-append-le old.dropped story.sections (x ∷ []) there) ∙ sym (ap (λ n. drop n (story.sections ++ x ∷ [])) dropped);
      last = k.last ∙ sym last;
    }

pub grows : (old new : Log) (x : Section) → IsSound old → the_format.can x ≡ true → ArePartsOf old.names.items x.parts → sealed old + 1 < 2 ^ 32 → new.names.items ≡ old.names.items → new.last ≡ old.last → new.sections.items ≡ old.sections.items ++ x ∷ [] → new.dropped ≡ old.dropped → new.receipts.items ≡ old.receipts.items
    → new.flushed.items ≡ old.flushed.items → new.floor ≡ old.floor → new.mark ≡ old.mark → IsSound new
grows old new x s can own few names last sections dropped receipts flushed floor mark =
    let more : length new.sections.items ≡ length old.sections.items + 1 = ap length sections ∙ length-append old.sections.items (x ∷ []) in
    record {
      names = subst AreDatabases (sym names) s.names;
      own = subst (λ (l : List (List ℕ)). AreSectionsOf l new.sections.items) (sym names) (subst (AreSectionsOf old.names.items) (sym sections) (own_more old.names.items old.sections.items x s.own own));
      can = subst (AllCan the_format) (sym sections) (can_more old.sections.items x s.can can);
      kept = omega (arith, s.kept, dropped, floor);
      order = omega (arith, s.order, mark, floor);
      floor_synced = omega (arith, s.floor_synced, floor, ap length receipts);
      floor_flushed = λ d lt. omega (arith, s.floor_flushed d (omega (arith, lt, ap length names)), floor, ap (λ (l : List ℕ). get_or l d 0) flushed);
      flushed_synced = λ d lt. omega (arith, s.flushed_synced d (omega (arith, lt, ap length names)), ap length receipts, ap (λ (l : List ℕ). get_or l d 0) flushed);
      each = omega (arith, s.each, ap length names, ap length flushed);
      there = omega (arith, s.there, more, dropped, ap length receipts);
      few = omega (arith, few, more, dropped);
      last = omega (arith, s.last, last);
    }
