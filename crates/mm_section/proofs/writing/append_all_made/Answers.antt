use Rattle.std.proofs.Common.{rules}
use Rattle.mm_section.specs.Spells.{make_of}
use Rattle.mm_section.proofs.Loops.{entry_step, kept_appended}
use Rattle.mm_section.proofs.writing.append_all_made.Goals as goal

pub loop-made-preserved : goal.loop-made-preserved
loop-made-preserved c = record { so_far = entry_step make_of c.args.all.now c.loop-made.made-index _ c.args.out.now.items c.loop-made.out.items _ c.loop-made-test.true (search rules) c.in_ok-append_made.ensures.ok c.loop-made.invariant.so_far }

pub returns-in_err-append_made-clause-kept : goal.returns-in_err-append_made-clause-kept
returns-in_err-append_made-clause-kept c = kept_appended c.args.out.now.items _ c.loop-made.out.items _ c.loop-made.invariant.so_far c.in_err-append_made.ensures.kept
