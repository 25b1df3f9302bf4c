use Rattle.std.proofs.Common.{Result, Ok, Err, sym, ap, ◌≡◌, ◌∙◌, arith}
use Rattle.mm_bson.specs.declared.fault.BsonFault.{BsonFault}
use Rattle.mm_bson.specs.Tree.{Elements}
use Rattle.mm_bson.specs.Reading.{whole}
use Rattle.mm_bson.proofs.Takes.{whole_takes}
use Rattle.mm_bson.proofs.Again.{whole_again}
use Rattle.mm_bson.proofs.Places.{whole_explained}
use Rattle.mm_bson.proofs.Shown.{whole_shown}
use Rattle.mm_bson.proofs.Walks.{read_spells}
use Rattle.mm_bson.proofs.place.DocRef.parse.Goals as goal

pub of_spelled-requires : goal.of_spelled-requires
of_spelled-requires c = (c.in-Ok.ensures.0, read_spells _ _ (whole_takes c.args.bytes.now c.in-Ok.ensures.0 (λ i. omega (arith, c.type_inv.bytes i)) c.in-Ok.ensures.1))

pub returns-in-Ok-clause-exact : goal.returns-in-Ok-clause-exact
returns-in-Ok-clause-exact c =
    let read = whole_takes c.args.bytes.now c.in-Ok.ensures.0 (λ i. omega (arith, c.type_inv.bytes i)) c.in-Ok.ensures.1 in
    c.in-Ok.ensures.1 ∙ ap (λ (x : Elements). Ok x) (sym (c.of_spelled.ensures.same c.in-Ok.ensures.0 (read_spells _ _ read)))

pub returns-in-Ok-clause-found : goal.returns-in-Ok-clause-found
returns-in-Ok-clause-found c =
    let read = whole_takes c.args.bytes.now c.in-Ok.ensures.0 (λ i. omega (arith, c.type_inv.bytes i)) c.in-Ok.ensures.1 in
    rw (c.of_spelled.ensures.same c.in-Ok.ensures.0 (read_spells _ _ read)) (read.1, read.0)

pub returns-in-Err-clause-only : goal.returns-in-Err-clause-only
returns-in-Err-clause-only c = λ d fits e. absurd (differ (whole c.args.bytes.now) c.in-Err.fault d c.in-Err.ensures (ap whole e ∙ whole_again d fits))
  where
    differ : (r : Result Elements BsonFault) (f : BsonFault) (d : Elements) → r ≡ Err f → r ≡ Ok d → ⊥
    differ r f d p q = cc

pub returns-in-Err-clause-explained : goal.returns-in-Err-clause-explained
returns-in-Err-clause-explained c = whole_explained c.args.bytes.now c.in-Err.fault (λ i. omega (arith, c.type_inv.bytes i)) c.in-Err.ensures

pub returns-in-Err-clause-shown : goal.returns-in-Err-clause-shown
returns-in-Err-clause-shown c = whole_shown c.args.bytes.now c.in-Err.fault (λ i. omega (arith, c.type_inv.bytes i)) c.in-Err.ensures
