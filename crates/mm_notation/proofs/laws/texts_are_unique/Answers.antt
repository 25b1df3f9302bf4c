use Rattle.mm_notation.proofs.Answering.{one_document}
use Rattle.mm_notation.proofs.laws.texts_are_unique.Goals as goal

pub returns : goal.returns
returns c = one_document
