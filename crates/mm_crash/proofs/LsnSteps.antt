-- What the lsn file may leave, call by call.
use Rattle.std.proofs.Common.{◌≡◌, inl, inr, ℕ, zero, suc, ◌+◌, ◌<◌, Bool, true, false, List, [], ◌∷◌, length, take, drop, replicate, min, max, ◌-◌, Option, Some, None, refl, sym, ◌∙◌, ap, arith}
use mathlib.Core.Bool.{true≢false}
use Rattle.std.proofs.lemmas.Bool.{cases_Bool}
use Rattle.std.proofs.lemmas.Grind.{common_steps}
use Rattle.std.proofs.lemmas.List.{drop_all, take_all, append-nil}
use Rattle.std.proofs.lemmas.Option.{same_Some}
use Rattle.std.specs.Ordering.{eq_by_cmp}
use Rattle.std.specs.Prelude.{unwrap_or, Contains, ◌++◌}
use Rattle.mm_bytes.specs.Files.{overwritten, resized}
use Rattle.mm_outside.specs.Image.{name_cmp}
use Rattle.mm_outside.specs.Told.{Creates, Writes, Resizes, Syncs}
use Rattle.mm_outside.specs.Place.{Place, place_by, clean}
use Rattle.mm_outside.proofs.Places.{one_name, same_name}
use Rattle.mm_bytes.proofs.Files.{length-resized}
use Rattle.mm_crash.specs.Journal.{Format}
use Rattle.mm_crash.specs.Chance.{IsOldOrNew}
use Rattle.mm_crash.specs.Story.{Story}
use Rattle.mm_crash.specs.Parts.{LsnAt, LsnPart}
use Rattle.mm_crash.proofs.Journals.{clean_left}

-- a list of one has its one element
pub only_one : (w v : ℕ × List ℕ) → Contains (w ∷ []) v → w ≡ v
only_one w v c = by c.0 c.1 c.2
  where
    by : (k : ℕ) → k < 1 → Rattle.std.specs.List.slice_index_or (w ∷ []) k v ≡ v → w ≡ v
    by zero lt e = e
    by (suc k) lt e = absurd (omega arith)

pub apart_lists : (x y : List ℕ) → eq_by_cmp name_cmp x y ≡ false → x ≡ y → ⊥
apart_lists x y e is = true≢false (sym (same_name y) ∙ ap (λ (n : List ℕ). eq_by_cmp name_cmp n y) (sym is) ∙ e)

module _ (fmt : Format) (story : Story) (mark marking : ℕ) where
  -- the marked number stands there
  pub lsn_rests : LsnPart fmt story mark marking (clean (Some (fmt.number (story.last + mark))))
  lsn_rests left may chance = inr (inl (ap (λ (o : Option (List ℕ)). unwrap_or o []) (clean_left _ left may)))

  -- the new one stands there
  pub lsn_renewed : LsnPart fmt story mark marking (clean (Some (fmt.number (story.last + marking))))
  lsn_renewed left may chance = inr (inr (ap (λ (o : Option (List ℕ)). unwrap_or o []) (clean_left _ left may)))

  -- it is the old number, the new one, or no number
  old_or_new : (left : List ℕ) → IsOldOrNew fmt (Some (fmt.number (story.last + mark))) ((0, fmt.number (story.last + marking)) ∷ []) left → LsnAt fmt story mark marking left
  old_or_new left chance = elim (cases_Bool (eq_by_cmp name_cmp left (fmt.number (story.last + mark)))) [
    | inl is_old ↦ inr (inl (one_name left _ is_old))
    | inr not_old ↦ elim (cases_Bool (eq_by_cmp name_cmp left (fmt.number (story.last + marking)))) [
      | inl is_new ↦ inr (inr (one_name left _ is_new))
      | inr not_new ↦ inl (λ n is. elim (chance n is) [
        | inl old ↦ apart_lists left _ not_old (is ∙ sym (same_Some _ _ old))
        | inr new ↦ apart_lists left _ not_new (is ∙ sym (ap (λ (w : ℕ × List ℕ). w.1) (only_one _ _ new)))
      ])
    ]
  ]

  pub lsn_writing : (done : Bool) → LsnPart fmt story mark marking (place_by (Writes 0 (fmt.number (story.last + marking))) done (clean (Some (fmt.number (story.last + mark)))))
  lsn_writing done left may chance = old_or_new (unwrap_or left []) chance

-- it is synced
pub lsn_synced : (fmt : Format) (m n : ℕ) → place_by Syncs true (place_by (Writes 0 (fmt.number n)) true (clean (Some (fmt.number m)))) ≡ clean (Some (fmt.number n))
lsn_synced fmt m n =
    let front : resized 0 (fmt.number m) ≡ [] = grind (arith, common_steps) in
    let over : overwritten 0 (fmt.number n) (fmt.number m) ≡ fmt.number n = ap (λ (l : List ℕ). l ++ fmt.number n ++ drop (0 + length (fmt.number n)) (fmt.number m)) front ∙ ap (λ (l : List ℕ). fmt.number n ++ l) (drop_all (0 + length (fmt.number n)) (fmt.number m) (omega (arith, fmt.sized m, fmt.sized n))) ∙ append-nil (fmt.number n) in
    ap (λ (l : List ℕ). clean (Some l)) over

-- making a file that is there changes nothing
pub lsn_created : (bytes : List ℕ) (done : Bool) → place_by Creates done (clean (Some bytes)) ≡ clean (Some bytes)
lsn_created bytes true = refl
lsn_created bytes false = refl

-- nor does giving it the length that it has
pub lsn_sized : (size : ℕ) (bytes : List ℕ) → length bytes ≡ size → (done : Bool) → place_by (Resizes size) done (clean (Some bytes)) ≡ clean (Some bytes)
lsn_sized size bytes is true = ap (λ (l : List ℕ). with_lengths (Some l) (min (length bytes) size) (max (length bytes) size)) same ∙ lengths
  where
    with_lengths : Option (List ℕ) → ℕ → ℕ → Place
    with_lengths file least greatest = record { file = file; pending = record { least = least; greatest = greatest; ranges = []; is_unsure = false }; writes = []; last_synced = Some bytes }

    same : resized size bytes ≡ bytes
    same =
        let none : size - length bytes ≡ 0 = omega (arith, is) in
        ap (λ n. take size bytes ++ replicate n 0) none ∙ ap (λ (l : List ℕ). l ++ []) (take_all size bytes (omega (arith, is))) ∙ append-nil bytes

    lengths : with_lengths (Some bytes) (min (length bytes) size) (max (length bytes) size) ≡ clean (Some bytes)
    lengths = ap (λ n. with_lengths (Some bytes) n (max (length bytes) size)) (omega (arith, is)) ∙ ap (λ n. with_lengths (Some bytes) (length bytes) n) (omega (arith, is))
lsn_sized size bytes is false =
    let least : min (length bytes) size ≡ length bytes = omega (arith, is) in
    let greatest : max (length bytes) size ≡ length bytes = omega (arith, is) in
    ap (λ n. with_lengths n (max (length bytes) size)) least ∙ ap (with_lengths (length bytes)) greatest
  where
    with_lengths : ℕ → ℕ → Place
    with_lengths least greatest = record { file = Some bytes; pending = record { least = least; greatest = greatest; ranges = []; is_unsure = false }; writes = []; last_synced = Some bytes }

-- the number is written over whatever the file held
pub marked : (size : ℕ) (bytes : List ℕ) (old : Option (List ℕ)) → length bytes ≡ size → place_by Syncs true (place_by (Writes 0 bytes) true (place_by (Resizes size) true (place_by Creates true (clean old)))) ≡ clean (Some bytes)
marked size bytes old is = by old
  where
    whole : (l : List ℕ) → overwritten 0 bytes (resized size l) ≡ bytes
    whole l =
        let front : resized 0 (resized size l) ≡ [] = grind (arith, common_steps) in
        ap (λ (k : List ℕ). k ++ bytes ++ drop (0 + length bytes) (resized size l)) front
        ∙ ap (λ (k : List ℕ). bytes ++ k) (drop_all (0 + length bytes) (resized size l) (omega (arith, length-resized size l))) ∙ append-nil bytes

    by : (old : Option (List ℕ)) → place_by Syncs true (place_by (Writes 0 bytes) true (place_by (Resizes size) true (place_by Creates true (clean old)))) ≡ clean (Some bytes)
    by None = ap (λ (l : List ℕ). clean (Some l)) (whole [])
    by (Some old) = ap (λ (l : List ℕ). clean (Some l)) (whole old)
