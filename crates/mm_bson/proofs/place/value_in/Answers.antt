use Rattle.std.proofs.Common.{sym, ap, ◌∙◌}
use Rattle.mm_bson.specs.Piece.{piece}
use Rattle.mm_bson.proofs.Walks.{document_lies, array_lies}
use Rattle.mm_bson.proofs.place.value_in.Goals as goal

pub invariant_of-result-in-Document : goal.invariant_of-result-in-Document
invariant_of-result-in-Document c = (document_lies c.in-Document.bytes.now c.requires.0 (ap piece (sym c.in-Document.is) ∙ c.requires.1) c.requires.2).0

pub invariant_of-result-in-Array : goal.invariant_of-result-in-Array
invariant_of-result-in-Array c = (array_lies c.in-Array.bytes.now c.requires.0 (ap piece (sym c.in-Array.is) ∙ c.requires.1) c.requires.2).0

pub returns-in-Document : goal.returns-in-Document
returns-in-Document c = λ t lies held. (document_lies c.in-Document.bytes.now t (ap piece (sym c.in-Document.is) ∙ lies) held).1

pub returns-in-Array : goal.returns-in-Array
returns-in-Array c = λ t lies held. (array_lies c.in-Array.bytes.now t (ap piece (sym c.in-Array.is) ∙ lies) held).1
