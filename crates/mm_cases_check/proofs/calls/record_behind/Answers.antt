use Rattle.mm_cases_check.proofs.CallLaws.{is_node, first_there, next_there, all_of}
use Rattle.mm_cases_check.proofs.calls.record_behind.Goals as goal

pub first-next-requires : goal.first-next-requires
first-next-requires c = let g = c.requires.good in (g.0, (g.1.0, (g.1.1, is_node c.args.draft.now.image c.args.store.node c.requires.node g.0 g.1.0 g.1.1)))

pub loop-step-init : goal.loop-step-init
loop-step-init c = λ at e. first_there c.args.draft.now.image c.args.store.node c.requires.node c.first-next.result c.first-next.ensures at e

pub next-next-requires : goal.next-next-requires
next-next-requires c = let g = c.requires.good in (g.0, (g.1.0, c.loop-step.invariant c.in-Some.here c.in-Some.is g.0 g.1.0 g.1.1))

pub loop-step-preserved : goal.loop-step-preserved
loop-step-preserved c = λ at e. next_there c.args.draft.now.image c.args.store.node c.requires.node c.in-Some.here c.next-next.result (c.loop-step.invariant c.in-Some.here c.in-Some.is) c.next-next.ensures at e

pub returns : goal.returns
returns c = all_of c.loop-step.next c.loop-step.invariant
