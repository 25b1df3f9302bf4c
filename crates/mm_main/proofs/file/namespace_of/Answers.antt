use Rattle.std.proofs.Common.{◌++◌, codes, ap, ◌∙◌, refl, arith}
use Rattle.mm_base.specs.Bytes.{overwritten, zeros}
use Rattle.mm_base.proofs.Parts.{overwritten_on}
use Rattle.mm_base.proofs.NameLaws.{overwritten-zeros}
use Rattle.mm_base.proofs.Numbers.{length-zeros}
use Rattle.mm_main.proofs.file.namespace_of.Goals as goal

pub returns : goal.returns
unfolding zeros
returns c =
    c.put_bytes-2.ensures ∙ ap (overwritten 5 c.args.collection.now) c.put_bytes.ensures ∙ overwritten_on 0 5 (codes "test.") c.args.collection.now (zeros 128) refl (omega (arith, length-zeros 128))
    ∙ overwritten-zeros 128 (codes "test." ++ c.args.collection.now) (omega (arith, c.requires))
