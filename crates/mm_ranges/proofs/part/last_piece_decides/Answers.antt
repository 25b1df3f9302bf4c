use Rattle.mm_ranges.proofs.Last.{laid_over_lies, lies_over_one}
use Rattle.mm_ranges.proofs.part.last_piece_decides.Goals as goal

pub returns-clause-lies : goal.returns-clause-lies
returns-clause-lies c = laid_over_lies c.args.pieces.now

pub returns-clause-one : goal.returns-clause-one
returns-clause-one c = lies_over_one c.args.pieces.now
