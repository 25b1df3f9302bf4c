use Rattle.std.proofs.Common.{◌≡◌, sym, ap, ◌∙◌, subst}
use Rattle.mm_script.specs.Documents.{with_id}
use Rattle.mm_script.specs.Reading.{Gives}
use Rattle.mm_script.proofs.ReadSteps.{insert_reads}
use Rattle.mm_script.proofs.commands.insert.Goals as goal

pub returns : goal.returns
returns c =
    let coll = c.in-Ok.read.0 in
    let d = c.in-Ok-document.read.0 in
    let moved : c.in_ok-doc.doc ≡ with_id _ d = c.in_ok-doc.ensures ∙ ap (λ made. with_id made d) c.made_id-made.ensures in
    let same = insert_reads c.args.stamp c.args.place c.args.text.now coll c.in-Ok.read.1.now c.in-Ok-document.read.1.now d c.in_ok-doc.doc c.in-Ok.ensures c.in-Ok-document.ensures moved in
    subst (λ r. Gives (λ a. a) c.closing.result r) (sym same) c.closing.ensures
