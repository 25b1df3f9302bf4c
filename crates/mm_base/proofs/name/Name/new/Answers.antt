use Rattle.std.proofs.Common.{length, take, ap, ◌∙◌, rules}
use Rattle.mm_base.specs.Bytes.{zeros}
use Rattle.mm_base.specs.Names.{IsName}
use Rattle.mm_base.proofs.NameLaws.{overwritten-zeros, take-padded, holds_name}
use Rattle.mm_base.proofs.name.Name.new.Goals as goal

pub invariant_of-result : goal.invariant_of-result
unfolding zeros
invariant_of-result c =
    let name : IsName c.args.bytes.now = search rules in
    holds_name c.args.bytes.now c.put_bytes.new.bytes name (c.put_bytes.ensures ∙ overwritten-zeros 120 c.args.bytes.now name.short)

pub returns-clause-bytes : goal.returns-clause-bytes
unfolding zeros
returns-clause-bytes c =
    let name : IsName c.args.bytes.now = search rules in
    ap (take (length c.args.bytes.now)) (c.put_bytes.ensures ∙ overwritten-zeros 120 c.args.bytes.now name.short) ∙ take-padded 120 c.args.bytes.now
