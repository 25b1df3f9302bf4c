use Rattle.std.proofs.Common.{◌≡◌, ◌++◌, drop}
use Rattle.std.specs.Prelude.{flat_map}
use Rattle.mm_notation.specs.Written.{Grows}
use Rattle.mm_script.specs.Replies.{document_text}
use Rattle.mm_script.proofs.replies.put_documents.Given as goal

abbrev pub invariant-loop-document : goal.invariant-loop-document
invariant-loop-document l = record {
  written : l.out.items ++ flat_map document_text (drop l.document-index l.documents) ≡ l.fn.out.items ++ flat_map document_text l.documents;
  grows : Grows l.fn.out.items l.out.items;
}
