use Rattle.std.proofs.Common.{ap, ◌∙◌}
use Rattle.mm_bucket.specs.Pairs.{Contents}
use Rattle.mm_bucket.specs.Layout.{pairs_in}
use Rattle.mm_bucket.proofs.Heading.{built_from, held_of, seen}
use Rattle.mm_bucket.proofs.bucket.Bucket.set_parent.Goals as goal

pub invariant_of-self : goal.invariant_of-self
invariant_of-self c =
    let b = c.self.inside in
    let old : Contents = record { parent = b.parent; pairs = pairs_in b.bytes 40 b.count; next = b.next } in
    let new : Contents = record old { parent = c.args.parent } in
    held_of c.put_head.new.bytes b.count b.begin new (c.put_head.ensures old.pairs (built_from b.bytes b.count b.begin old c.self.invariant))

pub returns : goal.returns
returns c =
    let b = c.self.inside in
    let old : Contents = record { parent = b.parent; pairs = pairs_in b.bytes 40 b.count; next = b.next } in
    let new : Contents = record old { parent = c.args.parent } in
    let same = seen c.put_head.new.bytes b.count b.begin new (c.put_head.ensures old.pairs (built_from b.bytes b.count b.begin old c.self.invariant)) in
    ap (λ ps. record new { pairs = ps }) same ∙ ap (λ (x : Contents). record x { parent = c.args.parent }) c.self.view_is
