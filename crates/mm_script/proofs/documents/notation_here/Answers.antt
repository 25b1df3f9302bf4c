use Rattle.std.proofs.Common.{ℕ, Ok, Err, subst, sym, ap, ◌∙◌}
use Rattle.mm_bson.specs.Tree.{Elements}
use Rattle.mm_notation.specs.Answer.{IfRefused, IsRefused}
use Rattle.mm_notation.specs.declared.fault.NotationFault.{NotationFault}
use Rattle.std.proofs.lemmas.Str.{IsCharBoundary-start}
use Rattle.mm_script.proofs.DocSteps.{doc_boundary, found_here, refused_here}
use Rattle.mm_script.proofs.documents.notation_here.Goals as goal

pub read_doc-requires-clause-boundary : goal.read_doc-requires-clause-boundary
read_doc-requires-clause-boundary c = IsCharBoundary-start c.args.text.now c.utf8.text

pub split_at-requires : goal.split_at-requires
split_at-requires c = doc_boundary c.args.text.now c.in-Ok.doc c.in-Ok.end c.utf8.text c.in-Ok.ensures.found

pub returns-in-Ok : goal.returns-in-Ok
returns-in-Ok c = found_here c.args.text.now c.in-Ok.doc c.in-Ok.end c.in-Ok.ensures.found ∙ ap (λ rest. Ok (c.in-Ok.doc, rest)) (sym c.split_at.ensures.back)

pub returns-in-Err-Notation : goal.returns-in-Err-Notation
returns-in-Err-Notation c =
    let refused = subst (λ (e : NotationFault). IfRefused {X = Elements × ℕ} (Err e) (IsRefused c.args.text.now 0)) c.in-Err-Notation.field-0-is c.in-Err-Notation.ensures.refused in
    refused_here c.args.text.now c.in-Err-Notation.field-0-0 refused
