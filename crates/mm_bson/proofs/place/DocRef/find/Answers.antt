use Rattle.mm_bson.specs.Path.{find}
use Rattle.mm_bson.proofs.Paths.{find-shallow, found_in-shallow}
use Rattle.mm_bson.proofs.place.DocRef.find.Goals as goal

pub returns-clause-shallow : goal.returns-clause-shallow
returns-clause-shallow c =
    let es = c.args.self.now in
    let name = c.args.name.now in
    found_in-shallow c.find_in_place.result (find name es) es (rw c.fields.ensures at c.find_in_place.ensures) c.is_built.ensures.levels (λ t found. find-shallow name es t found)
