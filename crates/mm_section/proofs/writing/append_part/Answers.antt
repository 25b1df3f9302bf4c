use Rattle.std.proofs.Common.{rules}
use Rattle.mm_section.proofs.Loops.{part_done, kept_append}
use Rattle.mm_section.proofs.writing.append_part.Goals as goal

pub returns-clause-ok : goal.returns-clause-ok
returns-clause-ok c = part_done c.args.part.now c.args.out.now.items c.append_name.new.out.items c.append_all_made.new.out.items c.append_all_pieces.new.out.items (search rules) (search rules) (search rules)

pub returns-clause-kept : goal.returns-clause-kept
returns-clause-kept c = kept_append c.args.out.now.items _ c.append_all_pieces.new.out.items (returns-clause-ok c)
