use Rattle.std.proofs.Common.{ℕ, List, ◌∙◌, ap, arith}
use Rattle.mm_base.specs.Bytes.{zeros, overwritten}
use Rattle.mm_base.proofs.NameLaws.{overwritten-zeros}
use Rattle.mm_base.proofs.name.Name.padded.Goals as goal

pub returns : goal.returns
unfolding zeros
returns c =
    c.put_bytes.ensures ∙ ap (λ (b : List ℕ). overwritten 0 b (zeros 128)) c.bytes.ensures.is ∙ overwritten-zeros 128 c.args.self.now (let name = c.bytes.ensures.name in omega (arith, name.short))
