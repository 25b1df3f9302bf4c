use Rattle.mm_model.proofs.Stays.{indexing_keeps}
use Rattle.mm_model.proofs.laws.indexing_keeps_documents.Goals as goal

pub returns : goal.returns
returns c = indexing_keeps
