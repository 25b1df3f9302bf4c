use Rattle.std.proofs.Common.{◌≡◌, ℕ, ◌+◌, ◌-◌, length, sym, ap, ◌∙◌, arith}
use Rattle.std.specs.FinMap.{get}
use Rattle.mm_check.specs.Findings.{files_from}
use Rattle.mm_check.proofs.FileLoops.{some_of_len}
use Rattle.mm_check.proofs.ReportLaws.{file_counted, file_passed}
use Rattle.mm_check.proofs.report.file_count.Goals as goal
use Rattle.mm_check.proofs.report.file_count.Goals.{then-is_some, else-is_some}

pub loop-file-init : goal.loop-file-init
loop-file-init c = record { left = omega arith; few = omega arith }

pub loop-file-preserved : goal.loop-file-preserved
loop-file-preserved c =
    let image = c.args.views.now.private in
    let there = some_of_len (get image c.loop-file.file) c.len.result c.len.ensures.len ∙ sym c.is_some.ensures in
    let few = c.loop-file.invariant.few in
    elim c.if-is_some.branch [
      | then-is_some w ↦
          let one : c.if-is_some.files ≡ c.loop-file.files + 1 = w.files-is in
          record {
            left = ap (λ (n : ℕ). n + length (files_from image (c.loop-file.file + 1) (8 - (c.loop-file.file + 1)))) one ∙ sym (file_counted image c.loop-file.files c.loop-file.file c.loop-file-test.true (there ∙ w.if-is_some.true)) ∙ c.loop-file.invariant.left;
            few = omega (arith, one, few);
          }
      | else-is_some w ↦
          let same : c.if-is_some.files ≡ c.loop-file.files = w.files-is in
          record {
            left = ap (λ (n : ℕ). n + length (files_from image (c.loop-file.file + 1) (8 - (c.loop-file.file + 1)))) same ∙ sym (file_passed image c.loop-file.files c.loop-file.file c.loop-file-test.true (there ∙ w.if-is_some.false)) ∙ c.loop-file.invariant.left;
            few = omega (arith, same, few);
          }
    ]

pub returns : goal.returns
returns c =
    let none : 8 - c.loop-file.file ≡ 0 = let le = c.loop-file-test.false in omega (arith, le) in
    let left = c.loop-file.invariant.left in
    let rest : length (files_from c.args.views.now.private c.loop-file.file (8 - c.loop-file.file)) ≡ 0 = ap (λ (n : ℕ). length (files_from c.args.views.now.private c.loop-file.file n)) none in
    omega (arith, left, rest)
