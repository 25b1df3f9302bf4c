-- A file of zeros that was put in.
use Rattle.std.proofs.Common.{◌≡◌, ℕ, cond, List, [], Option, Some, refl, ◌∙◌, ap, length}
use Rattle.std.specs.Prelude.{replicate, unwrap_or}
use Rattle.std.specs.Cmp.{nat_cmp_total, unsigned_tied}
use Rattle.std.specs.FinMap.{get, insert, get-insert}
use Rattle.std.proofs.lemmas.Bool.{eq-eqb}
use Rattle.std.proofs.lemmas.List.{length-replicate}
use Rattle.mm_ranges.specs.Overlay.{Image, bytes_at}

pub zeros_there : (file len : ℕ) (image new : Image) → new ≡ insert image file (replicate len 0) → get new file ≡ Some (replicate len 0)
zeros_there file len image new is = ap (λ (m : Image). get m file) is ∙ get-insert nat_cmp_total image file (replicate len 0) file ∙ ap (λ b. cond b (Some (replicate len 0)) (get image file)) (unsigned_tied file file ∙ eq-eqb file file refl)

pub zeros_long : (file len : ℕ) (image new : Image) → new ≡ insert image file (replicate len 0) → length (bytes_at new file) ≡ len
zeros_long file len image new is = ap (λ (o : Option (List ℕ)). length (unwrap_or o [])) (zeros_there file len image new is) ∙ length-replicate len 0
