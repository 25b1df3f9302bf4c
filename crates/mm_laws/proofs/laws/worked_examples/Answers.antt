use Rattle.std.proofs.Common.{refl}
use Rattle.mm_bson.specs.Spelling as spelled
use Rattle.mm_laws.proofs.laws.worked_examples.Goals as goal

pub returns-clause-front : goal.returns-clause-front
returns-clause-front c = refl

pub returns-clause-found : goal.returns-clause-found
unfolding spelled.spelling spelled.framed spelled.text_spelling
returns-clause-found c = refl
