-- What a crash leaves now, and after a call that is done or has begun.
use Rattle.std.proofs.Common.{◌≡◌, ℕ, ◌+◌, ◌<◌, ◌≤◌, Bool, true, false, ◌||◌, cond, List, [], ◌∷◌, length, Option, Some, None, refl, sym, ◌∙◌, subst, arith}
use mathlib.Core.Bool.{true≢false}
use Rattle.std.proofs.lemmas.Bool.Decides.{nat_tests}
use Rattle.std.specs.Prelude.{nat_le, ◌==◌}
use Rattle.std.specs.Bool.{MatchBool}
use Rattle.std.specs.Option.{unwrap_or}
use Rattle.std.specs.FinMap.{get}
use Rattle.mm_outside.specs.Image.{Image}
use Rattle.mm_outside.specs.Told.{Change, Call, Told, Pending, called, image_after, image_of, pending_by, pending_after, nothing_pending, MayLeaveFile, MayLeave, left_after, Creates, Writes, Resizes, Syncs, Removes}
use Rattle.mm_outside.specs.Crash.{file_after}
use Rattle.mm_outside.specs.Place.{Place, place_of, place_by}
use Rattle.mm_bytes.proofs.Files.{get_or-resized, length-resized, get_or-overwritten, length-overwritten}
use Rattle.mm_outside.proofs.Places.{place_step}

-- the file's length lies between those that are pending
abbrev IsWithin : Option (List ℕ) → Pending → Type 0
IsWithin None p = Unit {0}
IsWithin (Some bytes) p = (p.least ≤ length bytes) × (length bytes ≤ p.greatest)

within_by : (change : Change) (file : Option (List ℕ)) (p : Pending) → IsWithin file p → IsWithin (file_after change file) (pending_by change true file p)
within_by Creates None p w = (omega arith, omega arith)
within_by Creates (Some old) p w = w
within_by (Writes at bytes) None p w = tt
within_by (Writes at bytes) (Some old) p w = (omega (arith, length-overwritten at bytes old), omega (arith, length-overwritten at bytes old))
within_by (Resizes len) None p w = tt
within_by (Resizes len) (Some old) p w = (omega (arith, length-resized len old), omega (arith, length-resized len old))
within_by Syncs None p w = tt
within_by Syncs (Some old) p w = (omega arith, omega arith)
within_by Removes None p w = tt
within_by Removes (Some old) p w = tt

within_stopped : (change : Change) (file : Option (List ℕ)) (p : Pending) → IsWithin file p → IsWithin file (pending_by change false file p)
within_stopped Creates None p w = tt
within_stopped Creates (Some old) p w = w
within_stopped (Writes at bytes) None p w = tt
within_stopped (Writes at bytes) (Some old) p w = (w.0, omega arith)
within_stopped (Resizes len) None p w = tt
within_stopped (Resizes len) (Some old) p w = (omega arith, omega arith)
within_stopped Syncs None p w = tt
within_stopped Syncs (Some old) p w = w
within_stopped Removes None p w = tt
within_stopped Removes (Some old) p w = w

no_bytes : (l : List ℕ) → length l ≤ 0 → l ≡ []
no_bytes [] le = refl
no_bytes (x ∷ xs) le = absurd (omega arith)

neither : (a b : Bool) → (a || b) ≡ false → a ≡ false
neither true b e = absurd (true≢false e)
neither false b e = refl

-- a call that is done leaves nothing that it might not have left before it answered
done_in_begun : (change : Change) (file : Option (List ℕ)) (p : Pending) (left : Option (List ℕ)) → IsWithin file p → MayLeaveFile (file_after change file) (pending_by change true file p) left → MayLeaveFile file (pending_by change false file p) left
done_in_begun Creates None p None w l = tt
done_in_begun Creates None p (Some left) w l = (refl, no_bytes left l.no_longer)
done_in_begun Creates (Some old) p left w l = l
done_in_begun (Writes at bytes) None p left w l = l
done_in_begun (Writes at bytes) (Some old) p None w l = l
done_in_begun (Writes at bytes) (Some old) p (Some left) w l = record {
  no_shorter = l.no_shorter;
  no_longer = l.no_longer;
  same = λ i lt out. l.same i lt out ∙ get_or-overwritten at bytes old i (neither _ _ out);
}
done_in_begun (Resizes len) None p left w l = l
done_in_begun (Resizes len) (Some old) p None w l = l
done_in_begun (Resizes len) (Some old) p (Some left) w l = record {
  no_shorter = l.no_shorter;
  no_longer = l.no_longer;
  same = λ i lt out. l.same i lt out ∙ get_or-resized len old i (omega arith);
}
done_in_begun Syncs None p left w l = l
done_in_begun Syncs (Some old) p None w l = absurd (true≢false (sym l))
done_in_begun Syncs (Some old) p (Some left) w l = record {
  no_shorter = omega (arith, w.0, l.no_shorter);
  no_longer = omega (arith, w.1, l.no_longer);
  same = λ i lt out. l.same i (omega (arith, w.0)) refl;
}
done_in_begun Removes None p None w l = tt
done_in_begun Removes None p (Some left) w l = absurd (true≢false (sym l.0))
done_in_begun Removes (Some old) p None w l = refl
done_in_begun Removes (Some old) p (Some left) w l = absurd (true≢false (sym l.0))

-- ---- over all calls

abbrev IsWithinPlace : Place → Type 0
IsWithinPlace p = IsWithin p.file p.pending

within_first : (file : Option (List ℕ)) → IsWithin file (nothing_pending (length (unwrap_or file [])))
within_first None = tt
within_first (Some bytes) = (omega arith, omega arith)

within_place : (change : Change) (done same : Bool) (p : Place) → IsWithinPlace p → IsWithinPlace (cond same (place_by change done p) p)
within_place change true true p w = within_by change p.file p.pending w
within_place change false true p w = within_stopped change p.file p.pending w
within_place change done false p w = w

within_all : (start : Image) (calls : List Call) (q : List ℕ) → IsWithin (get (image_after start calls) q) (pending_after start calls q)
within_all start [] q = within_first (get start q)
within_all start (c ∷ calls) q =
    let t : Told = record { start = start; calls = calls } in
    subst IsWithinPlace (sym (place_step t c.name q c.change c.is_done _ refl)) (within_place c.change c.is_done _ (place_of t q) (within_all start calls q))

-- a disk as it reads is one of its images
present_file : (file : Option (List ℕ)) (p : Pending) → IsWithin file p → MayLeaveFile file p file
present_file None p w = tt
present_file (Some bytes) p w = record { no_shorter = w.0; no_longer = w.1; same = λ i lt out. refl }

pub present : (t : Told) → MayLeave t.start t.calls (image_of t)
present t name = present_file _ _ (within_all t.start t.calls name)

-- a crash after a call that is done leaves what one within it may leave
begun_place : (change : Change) (same : Bool) (p : Place) (left : Option (List ℕ)) → IsWithinPlace p
    → MayLeaveFile (cond same (place_by change true p) p).file (cond same (place_by change true p) p).pending left → MayLeaveFile (cond same (place_by change false p) p).file (cond same (place_by change false p) p).pending left
begun_place change true p left w l = done_in_begun change p.file p.pending left w l
begun_place change false p left w l = l

pub may_leave_begun : (t : Told) (name : List ℕ) (change : Change) (image : Image) → MayLeave t.start (called name change true t).calls image → MayLeave t.start (called name change false t).calls image
may_leave_begun t name change image l q =
    let there = subst (λ (p : Place). MayLeaveFile p.file p.pending (get image q)) (place_step t name q change true _ refl) (l q) in
    subst (λ (p : Place). MayLeaveFile p.file p.pending (get image q)) (sym (place_step t name q change false _ refl)) (begun_place change _ (place_of t q) (get image q) (within_all t.start t.calls q) there)

-- ---- moments

pub not_first : (b : Bool) (P Q : Type 0) → b ≡ false → MatchBool b P Q → Q
not_first true P Q e h = absurd (true≢false e)
not_first false P Q e h = h

pub is_first : (b : Bool) (P Q : Type 0) → b ≡ true → MatchBool b P Q → P
is_first true P Q e h = h
is_first false P Q e h = absurd (true≢false (sym e))

-- since the last call a crash leaves what it may leave now
pub left_now : (start : Image) (calls : List Call) (m : ℕ) (image : Image) → length calls < m → left_after start calls m image → MayLeave start calls image
left_now start [] m image lt l = l
left_now start (c ∷ calls) m image lt l =
    let later : nat_le m (length calls) ≡ false = grind (arith, nat_tests) in
    let apart : (m == length calls + 1) ≡ false = grind (arith, nat_tests) in
    not_first _ _ _ apart (not_first _ _ _ later l)
