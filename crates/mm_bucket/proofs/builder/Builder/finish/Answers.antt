use Rattle.std.proofs.Common.{ap, ◌∙◌}
use Rattle.mm_bucket.specs.Pairs.{Contents}
use Rattle.mm_bucket.specs.Layout.{pairs_in}
use Rattle.mm_bucket.proofs.Heading.{held_of, seen}
use Rattle.mm_bucket.proofs.builder.Builder.finish.Goals as goal

pub invariant_of-result : goal.invariant_of-result
invariant_of-result c =
    let b = c.self.inside in
    let new : Contents = record { parent = c.args.parent; pairs = pairs_in b.bytes 40 b.count; next = c.args.next } in
    held_of c.put_head.new.bytes b.count b.begin new (c.put_head.ensures new.pairs c.self.invariant)

pub returns : goal.returns
returns c =
    let b = c.self.inside in
    let new : Contents = record { parent = c.args.parent; pairs = pairs_in b.bytes 40 b.count; next = c.args.next } in
    ap (λ ps. record new { pairs = ps }) (seen c.put_head.new.bytes b.count b.begin new (c.put_head.ensures new.pairs c.self.invariant) ∙ c.self.view_is)
