-- From the log's fact to that of the durable side.
use Rattle.std.proofs.Common.{◌≡◌, inl, inr, ℕ, ◌^◌, ◌<◌, ◌≤◌, ◌==◌, true, false, true≢false, List, [], length, get_or, Option, Some, refl, sym, ◌∙◌, ap, subst, arith}
use Rattle.std.specs.Prelude.{vec_capacity}
use Rattle.std.proofs.lemmas.Bool.Decides.{nat_tests}
use Rattle.std.proofs.lemmas.List.{length-map, length-drop}
use Rattle.mm_outside.specs.Told.{Told}
use Rattle.mm_ranges.specs.declared.part.Closed.{Closed}
use Rattle.mm_tie.specs.Ends.{taker_ring}
use Rattle.mm_jfiles.specs.Files.{Files, next_number}
use Rattle.mm_crash.specs.Story.{Story}
use Rattle.mm_prefix.specs.Prefix.{Numbers, AreReceipts, since}
use Rattle.mm_items.specs.Given.{Taken}
use Rattle.mm_durable.specs.Names.{has_name}
use Rattle.mm_durable.specs.Log.{IsSound, GoesOn, KeepsRun, KeepsCounts, Keeps, KeepsMarking, Leaving, LeavingMarking, numbers, marking_numbers, sealed}
use Rattle.mm_durable.specs.Intake.{by_name, lists, AreRising, AreSeated, AreAllOrNone, HasEntry, IsIntake, SameTaken}
use Rattle.mm_durable.specs.Durable.{HasImages, IsServed, IsSafe, IsOrderly, SameItems, items_of}
use Rattle.mm_durable.specs.declared.log.Log.{Log}
use Rattle.mm_durable.proofs.Marks.{idle, marking_begins}
use Rattle.mm_durable.specs.declared.intake.Intake.{Intake}
use Rattle.mm_durable.specs.declared.durable.Durable.{Durable}

sealed_as : (old new : Log) → KeepsRun old new → sealed new ≡ sealed old
sealed_as old new run = omega (arith, run.dropped, ap length run.sections)

-- what is known of the intake doesn't change
seats_as : (names : List (List ℕ)) (n m : ℕ) (old new : Intake) → m ≡ n → SameTaken old new → AreSeated n (by_name names (lists old)) old.sorted.items old.seats.items → AreSeated m (by_name names (lists new)) new.sorted.items new.seats.items
seats_as names n m old new e same is =
    subst (λ (k : ℕ). AreSeated k (by_name names (lists new)) new.sorted.items new.seats.items) (sym e)
    (subst (λ (l : List (List Closed)). AreSeated n (by_name names l) new.sorted.items new.seats.items) (sym same.lists_same)
    (subst (λ (l : List (List ℕ)). AreSeated n (by_name names (lists old)) l new.seats.items) (sym same.sorted)
    (subst (AreSeated n (by_name names (lists old)) old.sorted.items) (sym same.seats) is)))

items_as : (old new : Log) (a b : Intake) → KeepsRun old new → SameTaken a b → by_name new.names.items (lists b) ≡ by_name old.names.items (lists a)
items_as old new a b run same = ap (λ (l : List (List ℕ)). by_name l (lists b)) run.names ∙ ap (λ (l : List (List Closed)). by_name old.names.items l) same.lists_same

images_as : (old new : Log) (a b : Intake) → KeepsRun old new → SameTaken a b → (story : Story) → HasImages old.names.items (by_name old.names.items (lists a)) story → HasImages new.names.items (by_name new.names.items (lists b)) story
images_as old new a b run same story is =
    subst (λ (l : List (List ℕ)). HasImages l (by_name new.names.items (lists b)) story) (sym run.names)
    (subst (λ (i : Taken). HasImages old.names.items i story) (sym (items_as old new a b run same)) is)

-- a side that goes on is safe
pub served_safe : (t u : Told) (story : Story) (history : ℕ → Numbers) (log : Log) (items : Taken) → IsSound log → IsServed t u story history log items → IsSafe t u story history log items
served_safe t u story history log items sound k =
    let there : log.dropped ≤ length story.sections = omega (arith, sound.kept, sound.floor_synced, k.log_is.durable.each, k.log_is.durable.rest.s_there) in
    record {
      leaves = k.log_is.durable.leaves;
      given = k.log_is.durable.given;
      images = k.images;
      count = omega (arith, there, ap length k.log_is.sections, length-drop log.dropped story.sections);
    }

-- and it is with more sections sealed
pub safe_as : (t u : Told) (story : Story) (history : ℕ → Numbers) (old new : Log) (a b : Intake) → new.names.items ≡ old.names.items → lists b ≡ lists a → new.receipts.items ≡ old.receipts.items → sealed old ≤ sealed new
    → IsSafe t u story history old (by_name old.names.items (lists a)) → IsSafe t u story history new (by_name new.names.items (lists b))
safe_as t u story history old new a b names taken receipts more is = record {
  leaves = is.leaves;
  given = subst (λ (l : List ℕ). AreReceipts l history) (sym receipts) is.given;
  images =
      subst (λ (l : List (List ℕ)). HasImages l (by_name l (lists b)) story) (sym names)
      (subst (λ (l : List (List Closed)). HasImages old.names.items (by_name old.names.items l) story) (sym taken) is.images);
  count = omega (arith, is.count, more);
}

-- what `Serves` says of the logs and of what was taken
pub serves : (old new : Log) (a b : Intake) → KeepsRun old new → SameTaken a b → (before after : Option Told) → Keeps old new before after
    → (t u : Told) (story : Story) (history : ℕ → Numbers) → before ≡ Some u → IsServed t u story history old (by_name old.names.items (lists a))
    → (v : Told) × (after ≡ Some v) × IsServed t v story (since (length v.calls) (numbers new) history) new (by_name new.names.items (lists b))
serves old new a b run same before after keeps t u story history is k =
    let on = keeps t u story history is k.log_is in
    (on.0, on.1, record { log_is = on.2; images = images_as old new a b run same story k.images })

-- a device call that is stopped
pub leaves_off : {D : Type 0} (old : Durable D) (new : Log) (b : Intake) → IsSound old.log → KeepsRun old.log new → SameTaken old.intake b → KeepsCounts old.log new → (before after : Option Told) → Leaving old.log before after
    → (t u : Told) (story : Story) (history : ℕ → Numbers) → before ≡ Some u → IsServed t u story history old.log (items_of old)
    → (v : Told) × (after ≡ Some v) × IsSafe t v story history new (by_name new.names.items (lists b))
leaves_off old new b sound run same counts before after left t u story history is k =
    let on = left t u story history is k.log_is in
    let was = served_safe t u story history old.log (items_of old) sound k in
    let now = safe_as t u story history old.log new old.intake b run.names same.lists_same counts.receipts_kept (omega (arith, sealed_as old.log new run)) was in
    (on.0, on.1, record { leaves = on.2; given = now.given; images = now.images; count = now.count })

-- what `ServesMarking` says
pub serves_marking : (old new : Log) (a b : Intake) → KeepsRun old new → SameTaken a b → (before after : Option Told) → KeepsMarking old new before after
    → (t u : Told) (story : Story) (history : ℕ → Numbers) → before ≡ Some u → IsServed t u story history old (by_name old.names.items (lists a))
    → (v : Told) × (after ≡ Some v) × IsServed t v story (since (length v.calls) (numbers new) (since (length u.calls) (marking_numbers old) history)) new (by_name new.names.items (lists b))
serves_marking old new a b run same before after keeps t u story history is k =
    let on = keeps t u story history is k.log_is in
    (on.0, on.1, record { log_is = on.2; images = images_as old new a b run same story k.images })

-- what `LeavesMarking` says
pub leaves_marking : {D : Type 0} (old : Durable D) (new : Log) (b : Intake) → IsSound old.log → KeepsRun old.log new → SameTaken old.intake b → KeepsCounts old.log new → (before after : Option Told) → LeavingMarking old.log before after
    → (t u : Told) (story : Story) (history : ℕ → Numbers) → before ≡ Some u → IsServed t u story history old.log (items_of old)
    → (v : Told) × (after ≡ Some v) × IsSafe t v story (since (length u.calls) (marking_numbers old.log) history) new (by_name new.names.items (lists b))
leaves_marking old new b sound run same counts before after left t u story history is k =
    let on = left t u story history is k.log_is in
    let was = served_safe t u story history old.log (items_of old) sound k in
    let now = safe_as t u story history old.log new old.intake b run.names same.lists_same counts.receipts_kept (omega (arith, sealed_as old.log new run)) was in
    let given = subst (λ (l : List ℕ). AreReceipts l (since (length u.calls) (marking_numbers old.log) history)) (sym counts.receipts_kept) (marking_begins old.log t u story history k.log_is).given in
    (on.0, on.1, record { leaves = on.2; given = given; images = now.images; count = now.count })

pub taken_same : (i : Intake) → SameTaken i i
taken_same i = record { lists_same = refl; rooms_same = refl; rings_same = refl; sorted = refl; ranks = refl; seats = refl; parts = refl; space = refl }

-- a device call leaves what was taken as it is
pub same_items : {D : Type 0} (old new : Durable D) → KeepsRun old.log new.log → new.intake ≡ old.intake → SameItems old new
same_items old new run e = record { run = run; same_taken = subst (SameTaken old.intake) (sym e) (taken_same old.intake) }

pub all_or_none_as : (old new : Intake) → new.seats.items ≡ old.seats.items → new.sorted.items ≡ old.sorted.items → AreAllOrNone old → AreAllOrNone new
all_or_none_as old new seats sorted is = elim is [
  | inl none ↦ inl (seats ∙ none)
  | inr all ↦ inr (ap length seats ∙ all ∙ sym (ap length sorted))
]

intake_as : (names : List (List ℕ)) (n m : ℕ) (old new : Intake) → m ≡ n → SameTaken old new → IsIntake names n old → IsIntake names m new
intake_as names n m old new e same is = record {
  few = is.few;
  feeds = omega (arith, is.feeds, ap length same.rings_same, length-map new.feeds.items taker_ring, length-map old.feeds.items taker_ring);
  some = is.some;
  within = λ d lt. subst (λ (l : List (List Closed)). length (get_or l d []) ≤ 2 ^ 32) (sym same.lists_same) (is.within d lt);
  rising = subst AreRising (sym same.sorted) is.rising;
  same = λ n. ap (λ (l : List (List ℕ)). has_name l n) same.sorted ∙ is.same n;
  count = ap length same.sorted ∙ is.count;
  ranks = ap length same.ranks ∙ is.ranks;
  ranked = λ d lt. ranked_as names d old.ranks.items new.ranks.items old.sorted.items new.sorted.items same.ranks same.sorted (is.ranked d lt);
  seats = seats_as names n m old new e same is.seats;
  all_or_none = all_or_none_as old new same.seats same.sorted is.all_or_none;
  room = λ h. room_as (is.room (seats_full (length old.seats.items) (length new.seats.items) (length old.sorted.items) (length new.sorted.items) (ap length same.seats) (ap length same.sorted) h));
  entered = λ k lo hi. subst (λ (l : List (List Closed)). HasEntry l k) (sym same.lists_same) (is.entered k lo (omega (arith, hi, e)));
}
  where
    ranked_as : (names : List (List ℕ)) (d : ℕ) (r s : List ℕ) (a b : List (List ℕ)) → s ≡ r → b ≡ a → (get_or r d 0 < length names) × (get_or a (get_or r d 0) [] ≡ get_or names d []) → (get_or s d 0 < length names) × (get_or b (get_or s d 0) [] ≡ get_or names d [])
    ranked_as names d r s a b e f is =
        subst (λ (l : List ℕ). (get_or l d 0 < length names) × (get_or b (get_or l d 0) [] ≡ get_or names d [])) (sym e)
        (subst (λ (l : List (List ℕ)). (get_or r d 0 < length names) × (get_or l (get_or r d 0) [] ≡ get_or names d [])) (sym f) is)

    seats_full : (a b c d : ℕ) → b ≡ a → d ≡ c → (b == d) ≡ true → (a == c) ≡ true
    seats_full a b c d e f h = grind (arith, nat_tests, e, f)

    room_as : (old.parts.items ≡ []) × (length names ≤ vec_capacity old.parts) → (new.parts.items ≡ []) × (length names ≤ vec_capacity new.parts)
    room_as h = (same.parts ∙ h.0, omega (arith, h.1, same.space))

pub orderly : {D : Type 0} (old new : Durable D) → SameItems old new → IsOrderly old → IsSound new.log → (new.ended ≡ false → GoesOn new.log) → IsOrderly new
orderly old new same is sound goes = record {
  sound = sound;
  goes = goes;
  intake_is =
      subst (λ (l : List (List ℕ)). IsIntake l (sealed new.log) new.intake) (sym same.run.names)
      (intake_as old.log.names.items (sealed old.log) (sealed new.log) old.intake new.intake (sealed_as old.log new.log same.run) same.same_taken is.intake_is);
}

-- a side that is ended doesn't go on
pub ended_stays : {log : Log} → true ≡ false → GoesOn log
ended_stays so = absurd (true≢false so)

-- a call that leaves the journal and the receipts as they are
pub goes_as : (old new : Log) → new.journal ≡ old.journal → new.receipts.items ≡ old.receipts.items → GoesOn old → GoesOn new
goes_as old new journal receipts is = record { limit = omega (arith, is.limit, ap (λ (f : Files). f.limit) journal); begun = omega (arith, is.begun, ap next_number journal, ap length receipts) }

pub run_same : (log : Log) → KeepsRun log log
run_same log = record { names = refl; last = refl; sections = refl; dropped = refl; space = omega arith }

-- no call is made of the disk
pub idles : (log : Log) (a b : Intake) → IsSound log → SameTaken a b → (before : Option Told) → (t u : Told) (story : Story) (history : ℕ → Numbers) → before ≡ Some u → IsServed t u story history log (by_name log.names.items (lists a))
    → (v : Told) × (before ≡ Some v) × IsServed t v story (since (length v.calls) (numbers log) history) log (by_name log.names.items (lists b))
idles log a b sound same before = serves log log a b (run_same log) same before before (idle log sound before)
