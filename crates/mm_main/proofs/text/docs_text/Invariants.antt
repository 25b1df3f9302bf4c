use Rattle.std.proofs.Common.{◌≡◌, ◌++◌, drop}
use Rattle.mm_main.specs.Contents.{doc_lines}
use Rattle.mm_main.proofs.text.docs_text.Given as goal

abbrev pub invariant-loop-doc : goal.invariant-loop-doc
invariant-loop-doc l = l.out.items ++ doc_lines l.name (drop l.doc-index l.docs) ≡ doc_lines l.name l.docs
