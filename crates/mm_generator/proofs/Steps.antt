-- One step of the loops over lines and databases.
use Rattle.std.proofs.Common.{◌≡◌, ℕ, suc, ◌+◌, ◌-◌, ◌<◌, List, [], ◌∷◌, ◌++◌, append_assoc, append-nil, sym, ap, ◌∙◌, arith}
use Rattle.mm_model.specs.declared.action.Action.{Action}
use Rattle.mm_model.specs.declared.action.Action.TheVariants as action
use Rattle.mm_generator.specs.Generator.{flushes, bulk_line, pause, bulk_lines}

-- ---- flushes

flush_first : (i from n m : ℕ) → n ≡ suc m → flushes i from n ≡ action.Flush i (record { 0 = from }) ∷ flushes i (from + 1) m
flush_first i from n m e = ap (flushes i from) e

pub flush_on : (i from d : ℕ) (before now whole : List Action) → from < d → now ≡ before ++ action.Flush i (record { 0 = from }) ∷ [] → before ++ flushes i from (d - from) ≡ whole
    → now ++ flushes i (from + 1) (d - (from + 1)) ≡ whole
flush_on i from d before now whole less is so_far =
    ap (λ (u : List Action). u ++ flushes i (from + 1) (d - (from + 1))) is ∙ append_assoc before (action.Flush i (record { 0 = from }) ∷ []) (flushes i (from + 1) (d - (from + 1)))
    ∙ ap (λ (u : List Action). before ++ u) (sym (flush_first i from (d - from) (d - (from + 1)) (omega (arith, less)))) ∙ so_far

none_left : (i from n : ℕ) → n ≡ 0 → flushes i from n ≡ []
none_left i from n e = ap (flushes i from) e

pub flushed : (i from d : ℕ) (now whole : List Action) → d - from ≡ 0 → now ++ flushes i from (d - from) ≡ whole → now ≡ whole
flushed i from d now whole none so_far = sym (append-nil now) ∙ ap (λ (u : List Action). now ++ u) (sym (none_left i from (d - from) none)) ∙ so_far

-- ---- lines

line_first : (d i x n m : ℕ) → n ≡ suc m → bulk_lines d i x n ≡ ((bulk_line d i x).0 ∷ pause d i) ++ bulk_lines d (i + 1) (bulk_line d i x).1 m
unfolding bulk_lines
line_first d i x n m e = ap (bulk_lines d i x) e

-- behind `done` lines of `count`
pub line_on : (d done count x y : ℕ) (before now whole : List Action) → done < count → now ≡ before ++ ((bulk_line d (done + 1) x).0 ∷ pause d (done + 1)) → y ≡ (bulk_line d (done + 1) x).1
    → before ++ bulk_lines d (done + 1) x (count - done) ≡ whole → now ++ bulk_lines d (done + 1 + 1) y (count - (done + 1)) ≡ whole
line_on d done count x y before now whole less is state so_far =
    ap (λ (z : ℕ). now ++ bulk_lines d (done + 1 + 1) z (count - (done + 1))) state
    ∙ ap (λ (u : List Action). u ++ bulk_lines d (done + 1 + 1) (bulk_line d (done + 1) x).1 (count - (done + 1))) is
    ∙ append_assoc before ((bulk_line d (done + 1) x).0 ∷ pause d (done + 1)) (bulk_lines d (done + 1 + 1) (bulk_line d (done + 1) x).1 (count - (done + 1)))
    ∙ ap (λ (u : List Action). before ++ u) (sym (line_first d (done + 1) x (count - done) (count - (done + 1)) (omega (arith, less)))) ∙ so_far

no_lines : (d i x n : ℕ) → n ≡ 0 → bulk_lines d i x n ≡ []
unfolding bulk_lines
no_lines d i x n e = ap (bulk_lines d i x) e

pub all_lines : (d i x n : ℕ) (now whole : List Action) → n ≡ 0 → now ++ bulk_lines d i x n ≡ whole → now ≡ whole
all_lines d i x n now whole none so_far = sym (append-nil now) ∙ ap (λ (u : List Action). now ++ u) (sym (no_lines d i x n none)) ∙ so_far
