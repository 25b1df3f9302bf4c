use Rattle.std.proofs.Common.{refl}
use Rattle.mm_bson.specs.Spelling as spelled
use Rattle.mm_model.proofs.laws.worked_examples.Goals as goal

pub returns-clause-types : goal.returns-clause-types
unfolding spelled.spelling spelled.framed spelled.text_spelling
returns-clause-types c = refl

pub returns-clause-unique : goal.returns-clause-unique
unfolding spelled.spelling spelled.framed spelled.text_spelling
returns-clause-unique c = refl

pub returns-clause-ends : goal.returns-clause-ends
unfolding spelled.spelling spelled.framed spelled.text_spelling
returns-clause-ends c = refl

pub returns-clause-whole : goal.returns-clause-whole
unfolding spelled.spelling spelled.framed spelled.text_spelling
returns-clause-whole c = refl
