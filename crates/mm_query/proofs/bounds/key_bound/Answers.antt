use Rattle.std.proofs.Common.{◌<◌, ap, arith}
use Rattle.mm_bson.specs.Tree.{depth}
use Rattle.mm_bson.specs.View.{elements_of}
use Rattle.mm_query.proofs.Levels.{bound_shallow}
use Rattle.mm_query.proofs.bounds.key_bound.Goals as goal

pub filled-requires : goal.filled-requires
filled-requires c =
    let es = elements_of c.elements-in-len1-up.result.now in
    let few : depth es < 100 = omega (arith, ap depth c.elements-in-len1-up.ensures.elements, c.elements-in-len1-up.ensures.built.levels) in
    bound_shallow c.turned-values.result c.as_bytes.result.now es c.in-Some.value c.value_bound.result few c.in-Some.is c.value_bound.ensures
