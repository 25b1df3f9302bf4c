use Rattle.mm_main.proofs.DumpSteps.{dumps_said}
use Rattle.mm_main.proofs.dump.dump_main.Goals as goal

pub returns-in-Ok-clause-dumps : goal.returns-in-Ok-clause-dumps
returns-in-Ok-clause-dumps g c = dumps_said _ _ _ _ c.in-Ok.said _ _ _ c.status.ensures c.text.ensures c.in-Ok.ensures.dumps c.say.ensures.said
