-- What appending a section makes of what is known of the files.
use Rattle.std.proofs.Common.{◌≡◌, ℕ, Bool, true, false, cond, ◌+◌, ◌-◌, ◌<◌, ◌≤◌, List, [], ◌∷◌, ◌++◌, length, take, refl, arith, length-append}
use Rattle.std.proofs.lemmas.List.{length-take}
use Rattle.mm_jfiles.specs.Files.{Files, next_number, is_full, begun, ready, written}

pub record Grows (f g : Files) : Type 0 where
  pub few : next_number g ≤ next_number f + 1
  pub some : 0 < length g.lasts

grows_by : (b : Bool) (f : Files) (n len : ℕ) → Grows f (written n len (cond b (begun f) f))
grows_by true f n len =
    let all = f.lasts ++ 0 ∷ [] in
    let sized = length-append f.lasts (0 ∷ []) in
    let kept = length-take (length all - 1) all in
    let more = length-append (take (length all - 1) all) (n ∷ []) in
    record { few = omega (arith, sized, kept, more); some = omega (arith, more) }
grows_by false f n len =
    let kept = length-take (length f.lasts - 1) f.lasts in
    let more = length-append (take (length f.lasts - 1) f.lasts) (n ∷ []) in
    record { few = omega (arith, kept, more); some = omega (arith, more) }

pub grows : (f : Files) (n len : ℕ) → Grows f (written n len (ready f))
grows f n len = grows_by (is_full f) f n len

limit_by : (b : Bool) (f : Files) (n len : ℕ) → (written n len (cond b (begun f) f)).limit ≡ f.limit
limit_by true f n len = refl
limit_by false f n len = refl

pub same_limit : (f : Files) (n len : ℕ) → (written n len (ready f)).limit ≡ f.limit
same_limit f n len = limit_by (is_full f) f n len
