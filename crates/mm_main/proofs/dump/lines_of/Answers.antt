use Rattle.std.proofs.Common.{◌∙◌, ap, ℕ, List}
use Rattle.mm_bson.specs.Tree.{Elements}
use Rattle.mm_main.specs.Contents.{doc_lines}
use Rattle.mm_main.proofs.ReadSteps.{dump_none, dump_some}
use Rattle.mm_main.proofs.dump.lines_of.Goals as goal

pub returns-in_default-clause-shows : goal.returns-in_default-clause-shows
returns-in_default-clause-shows c = dump_none _ _ c.in-Ok.found c.in-Ok.ensures.read c.in_default.is c.new.ensures.items

pub returns-clause-shows : goal.returns-clause-shows
returns-clause-shows c =
    let lines = c.in_ok-text.ensures ∙ ap (λ (name : List ℕ). doc_lines name c.deref.result.now) c.bytes.ensures.is ∙ ap (λ (docs : List Elements). doc_lines c.in-Some.contents.namespace docs) c.deref.ensures.value in
    dump_some c.args.file.now _ c.in-Ok.found c.in-Some.contents c.in-Ok.ensures.read c.in-Some.is lines
