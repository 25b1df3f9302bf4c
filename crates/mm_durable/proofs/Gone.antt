-- The oldest sections aren't kept any more.
use Rattle.std.proofs.Common.{◌≡◌, ℕ, ◌+◌, ◌-◌, ◌≤◌, List, ◌++◌, length, drop, take, get_or, sym, ◌∙◌, ap, subst, arith, vec_capacity}
use Rattle.std.proofs.lemmas.List.{length-drop, drop-drop, take_at}
use Rattle.mm_outside.specs.Told.{Told}
use Rattle.mm_section.specs.declared.section.Section.{Section}
use Rattle.mm_crash.specs.Journal.{AllCan}
use Rattle.mm_crash.specs.Story.{Story}
use Rattle.mm_jfiles.specs.Files as journal
use Rattle.mm_journal.specs.Tracks.{Tracks}
use Rattle.mm_journal.proofs.Real.{the_format, the_names}
use Rattle.mm_prefix.specs.Prefix.{Numbers, IsDurable}
use Rattle.mm_durable.specs.Names.{db_of, AreDatabases, AreSectionsOf}
use Rattle.mm_durable.specs.Log.{IsSound, IsKept, KeepsRun, KeepsCounts, LetsGo, numbers}
use Rattle.mm_durable.specs.declared.log.Log.{Log}
use Rattle.mm_durable.proofs.Flushes.{of_drop}
use Rattle.mm_durable.proofs.Syncs.{can_drop}

-- what is left behind the first k of a list that was turned by k
pub rest_kept : (xs turned left : List Section) (k n : ℕ) → k ≤ length xs → turned ≡ drop k xs ++ take k xs → n ≡ length xs - k → left ≡ take n turned → left ≡ drop k xs
rest_kept xs turned left k n le e count is =
    is ∙ ap (take n) e ∙ take_at (drop k xs) (take k xs) n (length-drop k xs ∙ sym count)

-- no more are let go than are kept
pub may_go : (log : Log) → IsSound log → log.floor - log.dropped ≤ length log.sections.items
may_go log sound = omega (arith, sound.kept, sound.floor_synced, sound.there)

-- all else is as it was
pub record IsRest (old «new» : Log) : Type 0 where
  pub journal : «new».journal ≡ old.journal
  pub names : «new».names.items ≡ old.names.items
  pub last : «new».last ≡ old.last
  pub sections : «new».sections.items ≡ drop (old.floor - old.dropped) old.sections.items
  pub dropped : «new».dropped ≡ old.floor
  pub receipts : «new».receipts.items ≡ old.receipts.items
  pub flushed : «new».flushed.items ≡ old.flushed.items
  pub floor : «new».floor ≡ old.floor
  pub mark : «new».mark ≡ old.mark
  pub space : vec_capacity «new».sections ≡ vec_capacity old.sections

left_long : (old «new» : Log) → IsRest old «new» → length «new».sections.items ≡ length old.sections.items - (old.floor - old.dropped)
left_long old «new» r = ap length r.sections ∙ length-drop (old.floor - old.dropped) old.sections.items

pub goes : (old «new» : Log) → IsSound old → IsRest old «new» → LetsGo old «new»
goes old «new» sound r = record {
  names = r.names;
  last = r.last;
  sealed_same = omega (arith, r.dropped, left_long old «new» r, sound.kept, may_go old sound);
  dropped = r.dropped ∙ sym r.floor;
  sections = r.sections ∙ ap (λ (n : ℕ). drop (n - old.dropped) old.sections.items) (sym r.dropped);
  space = omega (arith, r.space);
}

pub still_sound : (old «new» : Log) → IsSound old → IsRest old «new» → IsSound «new»
still_sound old «new» s r =
    let same = (goes old «new» s r).sealed_same in
    record {
      names = subst AreDatabases (sym r.names) s.names;
      can = subst (AllCan the_format) (sym r.sections) (can_drop (old.floor - old.dropped) old.sections.items s.can);
      own = subst (λ (l : List (List ℕ)). AreSectionsOf l «new».sections.items) (sym r.names) (subst (AreSectionsOf old.names.items) (sym r.sections) (of_drop old.names.items (old.floor - old.dropped) old.sections.items s.own));
      kept = omega (arith, r.dropped, r.floor);
      order = omega (arith, s.order, r.mark, r.floor);
      floor_synced = omega (arith, s.floor_synced, r.floor, ap length r.receipts);
      floor_flushed = λ d lt. omega (arith, s.floor_flushed d (omega (arith, lt, ap length r.names)), r.floor, ap (λ (l : List ℕ). get_or l d 0) r.flushed);
      flushed_synced = λ d lt. omega (arith, s.flushed_synced d (omega (arith, lt, ap length r.names)), ap length r.receipts, ap (λ (l : List ℕ). get_or l d 0) r.flushed);
      each = omega (arith, s.each, ap length r.names, ap length r.flushed);
      there = omega (arith, s.there, same, ap length r.receipts);
      few = omega (arith, s.few, same);
      last = omega (arith, s.last, r.last);
    }

pub still_kept : (old «new» : Log) → IsSound old → IsRest old «new» → (t u : Told) (story : Story) (history : ℕ → Numbers) → IsKept t story history old u → IsKept t story history «new» u
still_kept old «new» sound r t u story history k =
    let along : old.dropped + (old.floor - old.dropped) ≡ old.floor = omega (arith, sound.kept) in
    record {
      counts = k.counts;
      durable =
          subst (λ (l : List (List ℕ)). IsDurable the_format the_names (db_of l) t story k.counts history «new».receipts.items u) (sym r.names)
          (subst (λ (l : List ℕ). IsDurable the_format the_names (db_of old.names.items) t story k.counts history l u) (sym r.receipts) k.durable);
      tracks = subst (λ (f : journal.Files). Tracks the_format f k.counts) (sym r.journal) k.tracks;
      mark = k.mark ∙ sym r.mark;
      marking = k.marking ∙ sym r.mark;
      floor = k.floor ∙ sym r.floor;
      flushed = λ d lt. k.flushed d (omega (arith, lt, ap length r.names)) ∙ sym (ap (λ (l : List ℕ). get_or l d 0) r.flushed);
      sections = r.sections ∙ ap (drop (old.floor - old.dropped)) k.sections ∙ drop-drop (old.floor - old.dropped) old.dropped story.sections ∙ ap (λ (n : ℕ). drop n story.sections) (along ∙ sym r.dropped);
      last = k.last ∙ sym r.last;
    }

-- what a sync of the data files leaves, and then lets go
pub gone_then : (old mid «new» : Log) → KeepsRun old mid → LetsGo mid «new» → LetsGo old «new»
gone_then old mid «new» run gone = record {
  names = gone.names ∙ run.names;
  last = gone.last ∙ run.last;
  sealed_same = omega (arith, gone.sealed_same, run.dropped, ap length run.sections);
  dropped = gone.dropped;
  sections = gone.sections ∙ ap (λ (n : ℕ). drop («new».dropped - n) mid.sections.items) run.dropped ∙ ap (drop («new».dropped - old.dropped)) run.sections;
  space = omega (arith, gone.space, run.space);
}

pub numbers_same : (old «new» : Log) → KeepsCounts old «new» → numbers «new» ≡ numbers old
numbers_same old «new» k =
    ap (λ (n : ℕ). let x : Numbers = record { mark = n; marking = n; floor = «new».floor; synced = length «new».receipts.items } in x) k.mark_kept
    ∙ ap (λ (n : ℕ). let x : Numbers = record { mark = old.mark; marking = old.mark; floor = n; synced = length «new».receipts.items } in x) k.floor_kept
    ∙ ap (λ (n : ℕ). let x : Numbers = record { mark = old.mark; marking = old.mark; floor = old.floor; synced = n } in x) (ap length k.receipts_kept)
