-- The files, one by one.
use Rattle.std.proofs.Common.{◌≡◌, ℕ, suc, ◌+◌, ◌-◌, ◌<◌, ◌≤◌, Bool, true, false, List, ◌∷◌, length, Option, Some, None, sym, ◌∙◌, ap, arith}
use Rattle.std.specs.Prelude.{◌&&◌, not, is_some}
use Rattle.std.specs.FinMap.{get}
use Rattle.std.specs.Option.{option_map}
use Rattle.mm_ranges.specs.Overlay.{Image}
use Rattle.mm_ranges.specs.declared.limits.TheConstants.{NS_FILE}
use Rattle.mm_extents.specs.Changes.{len_of}
use Rattle.mm_walk.specs.Questions.{first_failing}
use Rattle.mm_check.specs.ExtentChain.{asked}
use Rattle.mm_check.specs.FileQuestions.{is_ns_len, none_from, file_right, data_questions, file_questions}
use Rattle.mm_check.proofs.RecordLaws.{if_yes, if_no}

pub some_of_len : (o : Option (List ℕ)) (r : Option ℕ) → r ≡ option_map length o → is_some o ≡ is_some r
some_of_len None r e = ap is_some (sym e)
some_of_len (Some x) r e = ap is_some (sym e)

pub none_step : (image : Image) (k : ℕ) → k < 8 → is_some (get image k) ≡ false → none_from image k (8 - k) ≡ none_from image (k + 1) (8 - (k + 1))
none_step image k lt h =
    let e : 8 - k ≡ suc (7 - k) = omega (arith, lt) in
    let f : 8 - (k + 1) ≡ 7 - k = omega (arith, lt) in
    let g : k + 1 ≡ suc k = omega arith in
    ap (none_from image k) e ∙ ap (λ (b : Bool). not b && none_from image (suc k) (7 - k)) h ∙ (λ i. none_from image (sym g i) (sym f i))

data_here : (image : Image) (k : ℕ) → k < 8 → data_questions image k (8 - k) ≡ asked (k, 0) (file_right image k (7 - k) (get image k)) ∷ data_questions image (k + 1) (8 - (k + 1))
data_here image k lt =
    let e : 8 - k ≡ suc (7 - k) = omega (arith, lt) in
    let f : 8 - (k + 1) ≡ 7 - k = omega (arith, lt) in
    let g : k + 1 ≡ suc k = omega arith in
    ap (data_questions image k) e ∙ (λ i. asked (k, 0) (file_right image k (7 - k) (get image k)) ∷ data_questions image (sym g i) (sym f i))

pub data_step : (image : Image) (k : ℕ) → k < 8 → file_right image k (7 - k) (get image k) ≡ true → first_failing (data_questions image k (8 - k)) ≡ first_failing (data_questions image (k + 1) (8 - (k + 1)))
data_step image k lt h = ap first_failing (data_here image k lt) ∙ if_yes (file_right image k (7 - k) (get image k)) (first_failing (data_questions image (k + 1) (8 - (k + 1)))) (Some (k, 0)) h

pub data_wrong : (image : Image) (k : ℕ) → k < 8 → file_right image k (7 - k) (get image k) ≡ false → first_failing (data_questions image k (8 - k)) ≡ Some (k, 0)
data_wrong image k lt h = ap first_failing (data_here image k lt) ∙ if_no (file_right image k (7 - k) (get image k)) (first_failing (data_questions image (k + 1) (8 - (k + 1)))) (Some (k, 0)) h

pub names_step : (image : Image) → is_ns_len (len_of image NS_FILE) ≡ true → first_failing (file_questions image) ≡ first_failing (data_questions image 0 8)
names_step image h = if_yes (is_ns_len (len_of image NS_FILE)) (first_failing (data_questions image 0 8)) (Some (NS_FILE, 0)) h

pub data_end : (image : Image) (k : ℕ) → 8 ≤ k → first_failing (data_questions image k (8 - k)) ≡ None
data_end image k le = let e : 8 - k ≡ 0 = omega (arith, le) in ap (λ (n : ℕ). first_failing (data_questions image k n)) e
