use Rattle.std.proofs.Common.{Bool, ◌+◌, drop, sym, ap, ◌∙◌}
use Rattle.std.specs.Prelude.{◌&&◌}
use Rattle.std.specs.List.{list_all}
use Rattle.std.proofs.lemmas.List.{at_drop_more, at_drop_all}
use Rattle.mm_frames.specs.declared.index_pair.IndexPair.{IndexPair}
use Rattle.mm_check.specs.CountQuestions.{is_spare}
use Rattle.mm_check.proofs.constants.are_spare.Goals as goal

pub returns-then-not-is_spare : goal.returns-then-not-is_spare
returns-then-not-is_spare c =
    let rest = list_all is_spare (drop (c.loop-i.i + 1) c.args.pairs.now) in
    sym (c.loop-i.invariant ∙ at_drop_more (list_all is_spare) c.args.pairs.now c.loop-i.i c.index-pairs-i.result c.loop-i-test.true ∙ ap (λ (p : IndexPair). is_spare p && rest) (sym c.index-pairs-i.is)
    ∙ ap (λ (b : Bool). b && rest) (sym c.is_spare.ensures ∙ c.if-not-is_spare.true))

pub loop-i-preserved : goal.loop-i-preserved
loop-i-preserved c =
    let rest = list_all is_spare (drop (c.loop-i.i + 1) c.args.pairs.now) in
    c.loop-i.invariant ∙ at_drop_more (list_all is_spare) c.args.pairs.now c.loop-i.i c.index-pairs-i.result c.loop-i-test.true ∙ ap (λ (p : IndexPair). is_spare p && rest) (sym c.index-pairs-i.is)
    ∙ ap (λ (b : Bool). b && rest) (sym c.is_spare.ensures ∙ c.if-not-is_spare.false)

pub returns : goal.returns
returns c = sym (c.loop-i.invariant ∙ at_drop_all (list_all is_spare) c.args.pairs.now c.loop-i.i c.loop-i-test.false)
