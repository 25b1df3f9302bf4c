use Rattle.std.proofs.Common.{sym, ◌∙◌, arith}
use Rattle.std.specs.FinMap.{get}
use Rattle.mm_check.proofs.FileLoops.{some_of_len, none_step}
use Rattle.mm_check.proofs.files.none_from.Goals as goal

pub loop-k-preserved : goal.loop-k-preserved
loop-k-preserved c =
    let lt = c.loop-k-test.true in
    (c.loop-k.invariant.0 ∙ none_step c.args.views.now.private c.loop-k.k lt (some_of_len (get c.args.views.now.private c.loop-k.k) c.len.result c.len.ensures.len ∙ sym c.if-is_some.ensures), omega (arith, lt))
