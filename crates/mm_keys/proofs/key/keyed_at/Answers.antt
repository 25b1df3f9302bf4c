use Rattle.std.proofs.Common.{sym, arith}
use Rattle.mm_bson.specs.View.{tree_in}
use Rattle.mm_keys.proofs.Lengths.{value-within}
use Rattle.mm_keys.proofs.key.keyed_at.Goals as goal

pub returns-in-Some-clause-short : goal.returns-in-Some-clause-short
returns-in-Some-clause-short c = omega (arith, value-within c.as_bytes.result.now c.args.doc.now (tree_in c.in-Some.value) (sym c.in-Some.ensures.value), c.is_built.ensures.fits)
