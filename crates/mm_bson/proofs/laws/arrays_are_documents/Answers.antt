use Rattle.std.proofs.Common.{sym}
use Rattle.mm_bson.proofs.Numbered.{unnamed_again}
use Rattle.mm_bson.proofs.Walks.{array_spelling_is}
use Rattle.mm_bson.proofs.laws.arrays_are_documents.Goals as goal

pub returns-clause-spelled : goal.returns-clause-spelled
returns-clause-spelled c = λ vs. sym (array_spelling_is vs)

pub returns-clause-back : goal.returns-clause-back
returns-clause-back c = λ vs. unnamed_again 0 vs
