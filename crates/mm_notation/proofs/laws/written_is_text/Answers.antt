use Rattle.mm_notation.proofs.Forms.{document_form}
use Rattle.mm_notation.proofs.laws.written_is_text.Goals as goal

pub returns : goal.returns
returns c = document_form
