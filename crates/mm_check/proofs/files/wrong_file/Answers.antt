use Rattle.std.proofs.Common.{sym, ◌∙◌, arith}
use Rattle.mm_check.proofs.FileLoops.{data_step, data_wrong, data_end, names_step}
use Rattle.mm_check.proofs.files.wrong_file.Goals as goal

pub returns-then-not-file_right : goal.returns-then-not-file_right
returns-then-not-file_right c =
    let image = c.args.views.now.private in
    sym (names_step image (sym c.names_right.ensures ∙ c.if-not-names_right.false) ∙ c.loop-file.invariant.0 ∙ data_wrong image c.loop-file.file c.loop-file-test.true (sym c.file_right.ensures ∙ c.if-not-file_right.true))

pub loop-file-preserved : goal.loop-file-preserved
loop-file-preserved c =
    let lt = c.loop-file-test.true in
    (c.loop-file.invariant.0 ∙ data_step c.args.views.now.private c.loop-file.file lt (sym c.file_right.ensures ∙ c.if-not-file_right.false), omega (arith, lt))

pub returns : goal.returns
returns c =
    let image = c.args.views.now.private in
    sym (names_step image (sym c.names_right.ensures ∙ c.if-not-names_right.false) ∙ c.loop-file.invariant.0 ∙ data_end image c.loop-file.file c.loop-file-test.false)
