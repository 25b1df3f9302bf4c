use Rattle.std.proofs.Common.{refl}
use Rattle.mm_main.proofs.RunSteps.{begun_none}
use Rattle.mm_main.proofs.play.store.Goals as goal

pub returns-in-Err-clause-began : goal.returns-in-Err-clause-began
returns-in-Err-clause-began g c = begun_none _ _ refl
