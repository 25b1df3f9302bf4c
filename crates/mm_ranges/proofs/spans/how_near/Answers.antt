use Rattle.std.proofs.Common.{sym}
use Rattle.mm_ranges.specs.Spans.{entry_of, range_of}
use Rattle.mm_ranges.proofs.Kept.{cut_at}
use Rattle.mm_ranges.proofs.Steps.{inserted-inside}
use Rattle.mm_ranges.proofs.spans.how_near.Goals as goal

pub has_span-requires-clause-old : goal.has_span-requires-clause-old
has_span-requires-clause-old c = (cut_at c.args.starts.now.entries (entry_of c.in-Some.span) (range_of c.args.«new») c.requires.kept (sym c.in-Some.ensures)).forward

pub returns-then-has_span : goal.returns-then-has_span
returns-then-has_span c = inserted-inside c.args.starts.now.entries c.args.«new» c.in-Some.span c.requires.kept c.requires.order (sym c.in-Some.ensures) (sym c.if-has_span.ensures)
