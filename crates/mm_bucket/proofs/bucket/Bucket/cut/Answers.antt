use Rattle.std.proofs.Common.{◌≡◌, ◌+◌, ◌-◌, ◌≤◌, length, ap, arith}
use Rattle.mm_bucket.specs.Pairs.{pair_at}
use Rattle.mm_bucket.proofs.Fitting.{size-take, size-parts, size-last, key_short}
use Rattle.mm_bucket.proofs.bucket.Bucket.cut.Goals as goal
use Rattle.mm_bucket.proofs.bucket.Bucket.cut.Goals.{else-i-ge2-via-then-i-ge2+else-size-gt-HALF, else-i-ge2-via-else-i-ge2}

pub returns-then-size-gt-HALF-clause-left : goal.returns-then-size-gt-HALF-clause-left
returns-then-size-gt-HALF-clause-left c = omega (arith, c.loop-i.invariant.counted, c.loop-i.invariant.below)

pub returns-then-size-gt-HALF-clause-right : goal.returns-then-size-gt-HALF-clause-right
returns-then-size-gt-HALF-clause-right c = omega (arith, size-parts c.args.self.now.pairs c.loop-i.i, c.loop-i.invariant.counted, c.len-last.ensures.fits, c.if-size-gt-HALF.true)

pub loop-i-preserved : goal.loop-i-preserved
loop-i-preserved c =
    let ps = c.args.self.now.pairs in
    let i = c.loop-i.i in
    let len : length c.key.result.now ≡ length (pair_at ps i).key = ap length c.key.ensures.is in
    let short : length c.key.result.now ≤ 1024 = c.key.ensures.key.short in
    let before : c.loop-i.size ≤ 4076 = elim c.else-i-ge2.branch [
      | else-i-ge2-via-then-i-ge2+else-size-gt-HALF w ↦ omega (arith, w.if-size-gt-HALF.false)
      | else-i-ge2-via-else-i-ge2 w ↦ omega (arith, w.if-i-ge2.false, c.loop-i.invariant.first)
    ] in
    record {
      counted = omega (arith, size-take ps i (omega (arith, c.loop-i-test.true, c.len-last.ensures.len)), c.loop-i.invariant.counted, len);
      first = λ le. omega (arith, le, short, c.loop-i.invariant.first);
      below = omega (arith, before, short);
    }

pub returns-clause-right : goal.returns-clause-right
returns-clause-right c =
    let ps = c.args.self.now.pairs in
    let last = c.len-last.result - 1 in
    let len : last + 1 ≡ length ps = omega (arith, c.len-last.ensures.len, c.requires) in
    omega (arith, size-last ps last len, key_short ps last (omega (arith, len)) c.len-last.ensures.keys)
