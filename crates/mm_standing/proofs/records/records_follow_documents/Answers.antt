use Rattle.mm_standing.proofs.Comings.{document_comes, document_goes, document_is_rewritten}
use Rattle.mm_standing.proofs.records.records_follow_documents.Goals as goal

pub returns-clause-comes : goal.returns-clause-comes
returns-clause-comes c = document_comes

pub returns-clause-goes : goal.returns-clause-goes
returns-clause-goes c = document_goes

pub returns-clause-rewritten : goal.returns-clause-rewritten
returns-clause-rewritten c = document_is_rewritten
