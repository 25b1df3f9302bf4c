-- The definitions at a few small files: what is read, and what a crash may leave.
use Rattle.std.proofs.Common.{◌≡◌, ℕ, zero, suc, ◌<◌, true, false, List, [], ◌∷◌, Option, Some, None, refl, sym, arith}
use mathlib.Core.Bool.{true≢false}
use Rattle.std.specs.Prelude.{slice_index}
use Rattle.mm_bytes.specs.Files.{resized, overwritten}
use Rattle.mm_outside.specs.Told.{MayLeaveFile, is_in, Creates, Writes, Syncs, Removes}
use Rattle.mm_outside.specs.Place.{Place, place_by, clean}

-- a write behind the end has zeros before it, and one inside leaves what is behind it
gap : overwritten 3 (7 ∷ []) (1 ∷ []) ≡ 1 ∷ 0 ∷ 0 ∷ 7 ∷ []
gap = refl

inside : overwritten 1 (7 ∷ []) (1 ∷ 2 ∷ 3 ∷ []) ≡ 1 ∷ 7 ∷ 3 ∷ []
inside = refl

cut_off : resized 1 (1 ∷ 2 ∷ 3 ∷ []) ≡ 1 ∷ []
cut_off = refl

-- a file that was absent is made and written, and not synced
abbrev written : Place
written = place_by (Writes 0 (5 ∷ 6 ∷ [])) true (place_by Creates true (clean None))

abbrev MayLeaveAt : Place → Option (List ℕ) → Type 0
MayLeaveAt p left = MayLeaveFile p.file p.pending left

reads : written.file ≡ Some (5 ∷ 6 ∷ [])
reads = refl

-- a crash may leave it empty, or with any bytes in the written range
may_be_empty : MayLeaveAt written (Some [])
may_be_empty = record { no_shorter = omega arith; no_longer = omega arith; same = λ i lt out. absurd (omega arith) }

may_be_other : MayLeaveAt written (Some (9 ∷ []))
may_be_other = record { no_shorter = omega arith; no_longer = omega arith; same = λ i lt out. absurd (omega arith) }

-- but it is there, and no longer than it was
is_there : MayLeaveAt written None → ⊥
is_there l = true≢false (sym l)

no_longer : MayLeaveAt written (Some (5 ∷ 6 ∷ 7 ∷ [])) → ⊥
no_longer l = omega (arith, l.no_longer)

-- once it is synced, it is left whole
abbrev synced : Place
synced = place_by Syncs true written

is_clean : synced ≡ clean (Some (5 ∷ 6 ∷ []))
is_clean = refl

is_whole : MayLeaveAt synced (Some (5 ∷ [])) → ⊥
is_whole l = omega (arith, l.no_shorter)

-- a write that was stopped is not read, and may be left
may_be_written : MayLeaveAt (place_by (Writes 1 (7 ∷ [])) false synced) (Some (5 ∷ 7 ∷ []))
may_be_written = record { no_shorter = omega arith; no_longer = omega arith; same = kept }
  where
    kept : (i : ℕ) → i < 2 → is_in i ((1, 2) ∷ []) ≡ false → slice_index (5 ∷ 7 ∷ []) i ≡ slice_index (5 ∷ 6 ∷ []) i
    kept zero lt out = refl
    kept (suc zero) lt out = absurd (true≢false out)
    kept (suc (suc i)) lt out = refl

-- a removal that was stopped leaves the file or not; one that is done doesn't
may_be_removed : MayLeaveAt (place_by Removes false synced) None
may_be_removed = refl

may_stay : MayLeaveAt (place_by Removes false synced) (Some (5 ∷ 6 ∷ []))
may_stay = record { no_shorter = omega arith; no_longer = omega arith; same = λ i lt out. refl }

is_gone : MayLeaveAt (place_by Removes true synced) (Some (5 ∷ 6 ∷ [])) → ⊥
is_gone l = true≢false (sym l.0)
