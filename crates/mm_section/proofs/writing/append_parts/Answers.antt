use Rattle.std.proofs.Common.{sym}
use Rattle.mm_section.proofs.Loops.{part_step, part_short_at, kept_appended}
use Rattle.std.proofs.Common.{subst}
use Rattle.mm_ranges.specs.declared.part.Part.{Part}
use Rattle.mm_section.specs.Reading.{AreShort}
use Rattle.mm_section.proofs.writing.append_parts.Goals as goal

pub append_part-requires : goal.append_part-requires
append_part-requires c = subst (λ (p : Part). AreShort p.pieces) (sym c.part-item.is) (part_short_at c.args.parts.now c.loop-part.part-index _ c.requires c.loop-part-test.true)

pub loop-part-preserved : goal.loop-part-preserved
loop-part-preserved c = record { so_far = part_step c.args.parts.now c.loop-part.part-index c.part-item.result c.args.out.now.items c.loop-part.out.items _ c.loop-part-test.true (sym c.part-item.is) c.in_ok-append_part.ensures.ok c.loop-part.invariant.so_far }

pub returns-in_err-append_part-clause-kept : goal.returns-in_err-append_part-clause-kept
returns-in_err-append_part-clause-kept c = kept_appended c.args.out.now.items _ c.loop-part.out.items _ c.loop-part.invariant.so_far c.in_err-append_part.ensures.kept
