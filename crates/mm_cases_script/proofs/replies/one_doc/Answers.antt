use Rattle.std.proofs.lemmas.Str.{IsCharBoundary-start}
use Rattle.mm_cases_script.proofs.replies.one_doc.Goals as goal

-- src/replies.rt: a text begins with a character
pub read_doc-requires-clause-boundary : goal.read_doc-requires-clause-boundary
read_doc-requires-clause-boundary c = IsCharBoundary-start c.args.text.now c.utf8.text
