use Rattle.std.proofs.Common.{◌∙◌, sym, arith}
use Rattle.mm_ranges.specs.Spans.{entry_of}
use Rattle.mm_ranges.proofs.Kept.{touched_by_first, untouched_by_none}
use Rattle.mm_ranges.proofs.spans.touches.Goals as goal

pub returns-in-Some : goal.returns-in-Some
returns-in-Some c = c.is_begun.ensures ∙ sym (touched_by_first c.args.starts.now.entries (entry_of c.in-Some.span) c.args.file c.args.at c.requires (sym c.in-Some.ensures))

pub returns-in-None : goal.returns-in-None
returns-in-None c = sym (untouched_by_none c.args.starts.now.entries c.args.file c.args.at c.args.at c.requires (sym c.in-None.ensures) (omega arith))
