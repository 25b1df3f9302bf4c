use Rattle.std.proofs.Common.{arith}
use Rattle.mm_bson.specs.View.{tree}
use Rattle.mm_notation.proofs.objects.plain.Goals as goal

pub returns-clause-wrote : goal.returns-clause-wrote
returns-clause-wrote c = record {
  found = tree c.in_ok-found.found;
  read_is = c.in_ok-found.ensures.gives;
  put = c.in_ok-put_element.ensures.items;
  good = record { value = c.in_ok-put_element.ensures.value; levels = omega (arith, c.in_ok-found.ensures.flat); fits = c.in_ok-put_element.ensures.fits };
}
