use Rattle.mm_section.proofs.Limits.{parts_short}
use Rattle.mm_section.proofs.writing.write_section.Goals as goal

pub append_section-requires-clause-pieces : goal.append_section-requires-clause-pieces
append_section-requires-clause-pieces c = parts_short c.args.section.now.parts c.requires.parts
