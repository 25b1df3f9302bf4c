use Rattle.mm_update.proofs.Whole.{sets_value, forms_apart}
use Rattle.mm_update.proofs.laws.set_puts_its_value.Goals as goal

pub returns-clause-value : goal.returns-clause-value
returns-clause-value c = sets_value

pub returns-clause-apart : goal.returns-clause-apart
returns-clause-apart c = forms_apart
