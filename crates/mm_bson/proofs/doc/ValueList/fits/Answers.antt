use Rattle.std.proofs.Common.{◌≡◌, length, ap, ◌∙◌, arith}
use Rattle.std.specs.Fmt.{decimal}
use Rattle.std.proofs.lemmas.Bool.Decides.{nat_tests}
use Rattle.mm_bson.specs.Tree.{count}
use Rattle.mm_bson.specs.View.{values_of}
use Rattle.mm_bson.proofs.Numbered.{count_is}
use Rattle.mm_bson.proofs.doc.ValueList.fits.Goals as goal

pub returns-then-len-room : goal.returns-then-len-room
returns-then-len-room c =
    let vs = values_of c.self.inside.values.items in
    let place : c.len.result ≡ count vs = omega (arith, count_is c.self.inside.values.items) in
    let name : c.as_bytes-name.result.now ≡ decimal (count vs) = c.as_bytes-name.ensures.value ∙ c.format.ensures.text ∙ ap decimal place in
    rw (← c.self.view_is, ← name) (grind (arith, nat_tests, ap length c.self.invariant.spelled))
