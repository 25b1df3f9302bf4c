use Rattle.std.proofs.Common.{List, sym, subst, take}
use Rattle.std.proofs.lemmas.List.{take_more, take_all}
use Rattle.mm_links.specs.Links.{Place}
use Rattle.mm_walk.specs.Walk.{Knows}
use Rattle.mm_check.proofs.ChainRows.{knows_none}
use Rattle.mm_check.proofs.places.known.Goals as goal

pub loop-i-init : goal.loop-i-init
loop-i-init c = knows_none c.new-set.result c.new-set.ensures.empty

pub loop-i-preserved : goal.loop-i-preserved
loop-i-preserved c =
    subst (λ (xs : List Place). Knows c.add.new.set xs) (sym (take_more c.args.places.now c.loop-i.i (0, 0) c.loop-i-test.true)) (c.in_ok-add.ensures (take c.loop-i.i c.args.places.now) c.loop-i.invariant)

pub returns : goal.returns
returns c = subst (λ (xs : List Place). Knows c.loop-i.set xs) (take_all c.loop-i.i c.args.places.now c.loop-i-test.false) c.loop-i.invariant
