use Rattle.std.proofs.Common.{◌∙◌}
use Rattle.mm_main.proofs.DumpSteps.{seen_dumps}
use Rattle.mm_main.proofs.dump.say_data_file.Goals as goal

pub returns-in-Ok-clause-says : goal.returns-in-Ok-clause-says
returns-in-Ok-clause-says g c = λ t is. seen_dumps _ _ _ _ (c.deref.ensures.value ∙ c.in_ok-file.ensures.read t is) c.in-Ok.ensures
