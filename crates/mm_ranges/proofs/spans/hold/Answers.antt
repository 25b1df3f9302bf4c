use Rattle.std.proofs.Common.{sym, subst, List, arith}
use Rattle.mm_ranges.specs.Spans.{Entry, spans_of}
use Rattle.mm_ranges.proofs.Order.{span_from}
use Rattle.mm_ranges.proofs.Kept.{inserted-touched}
use Rattle.mm_ranges.proofs.Steps.{Held, held}
use Rattle.mm_ranges.proofs.spans.hold.Goals as goal

made : (c : goal.In_ok-insert) → Held c.args.starts.now.entries c.args.file c.args.at c.insert.«new».self.entries
made c = subst (λ (fs : List Entry). Held c.args.starts.now.entries c.args.file c.args.at fs) (sym c.in_ok-insert.ensures.entries)
    (held c.args.starts.now.entries c.args.file c.args.at (span_from c.args.file c.args.at 0 (omega arith) (omega arith)) c.requires (sym c.if-not-touches.ensures))

pub returns-in_ok-insert-clause-ok : goal.returns-in_ok-insert-clause-ok
returns-in_ok-insert-clause-ok c = (made c).spans

pub returns-in_ok-insert-clause-kept : goal.returns-in_ok-insert-clause-kept
returns-in_ok-insert-clause-kept c = (made c).kept

pub returns-in_ok-insert-clause-places : goal.returns-in_ok-insert-clause-places
returns-in_ok-insert-clause-places c = (made c).places_stay

pub returns-in_ok-insert-clause-ranges : goal.returns-in_ok-insert-clause-ranges
returns-in_ok-insert-clause-ranges c = (made c).ranges_stay

pub returns-else-not-touches-clause-ok : goal.returns-else-not-touches-clause-ok
returns-else-not-touches-clause-ok c = sym (inserted-touched c.args.file c.args.at (spans_of c.args.starts.now.entries) c.requires.spaced (sym c.if-not-touches.ensures))
