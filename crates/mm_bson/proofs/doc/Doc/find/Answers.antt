use Rattle.mm_bson.specs.Path.{find}
use Rattle.mm_bson.proofs.Paths.{find-shallow, found-shallow}
use Rattle.mm_bson.proofs.doc.Doc.find.Goals as goal

pub returns-clause-shallow : goal.returns-clause-shallow
returns-clause-shallow c =
    let es = c.args.self.now in
    let name = c.args.name.now in
    found-shallow c.find.result (find name es) es (rw c.elements.ensures.elements at c.find.ensures) c.elements.ensures.built.levels (λ t found. find-shallow name es t found)
