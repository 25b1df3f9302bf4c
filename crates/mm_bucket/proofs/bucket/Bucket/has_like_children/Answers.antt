use Rattle.std.proofs.Common.{refl, sym, subst, arith}
use Rattle.mm_bucket.specs.Rules.{Agrees}
use Rattle.mm_bucket.proofs.Ruling.{agrees_of, alike_from, child_alike}
use Rattle.mm_bucket.proofs.bucket.Bucket.has_like_children.Goals as goal

pub returns-then-not-agrees : goal.returns-then-not-agrees
returns-then-not-agrees c =
    let b = c.args.self.now in
    let leaf = c.is_null-leaf.result in
    let last = subst (Agrees leaf) c.next.ensures (agrees_of leaf c.next.result c.is_null-leaf.ensures) in (
      λ t. cc,
      λ a.
          let one = child_alike b leaf c.loop-i.i (omega (arith, c.loop-i-test.true, c.len-i-end.ensures.len)) last a in
          let t = c.agrees.ensures.1 (subst (Agrees leaf) (sym c.left.ensures) one) in
          cc,
    )

pub returns : goal.returns
returns c =
    let b = c.args.self.now in
    let leaf = c.is_null-leaf.result in
    let last = subst (Agrees leaf) c.next.ensures (agrees_of leaf c.next.result c.is_null-leaf.ensures) in (
      λ t. alike_from b leaf last (λ i lt. c.loop-i.invariant i (omega (arith, lt, c.loop-i-test.false, c.len-i-end.ensures.len))),
      λ a. refl,
    )
