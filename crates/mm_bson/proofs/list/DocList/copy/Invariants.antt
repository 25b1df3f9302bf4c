use Rattle.std.proofs.Common.{◌≡◌, take}
use Rattle.mm_bson.proofs.list.DocList.copy.Given as goal

abbrev pub invariant-loop-document : goal.invariant-loop-document
invariant-loop-document l = l.copied.items ≡ take l.document-index l.documents
