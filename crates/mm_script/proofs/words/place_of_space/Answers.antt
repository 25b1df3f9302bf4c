use Rattle.std.proofs.Common.{sym}
use Rattle.mm_script.proofs.WordSteps.{place_found, place_missing}
use Rattle.mm_script.proofs.words.place_of_space.Goals as goal

pub returns-in-Some-clause-place : goal.returns-in-Some-clause-place
returns-in-Some-clause-place c = place_found _ c.args.text.now c.in-Some.place (sym c.in-Some.ensures)

pub returns-in-None-clause-place : goal.returns-in-None-clause-place
returns-in-None-clause-place c = place_missing _ c.args.text.now (sym c.in-None.ensures)
