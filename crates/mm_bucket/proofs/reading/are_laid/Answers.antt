use Rattle.std.proofs.Common.{◌≡◌, ◌+◌, ◌∙◌, arith}
use Rattle.mm_bucket.proofs.Prefix.{front_at, key_len-front}
use Rattle.mm_bucket.proofs.Nexts.{mark_none, pair_here, next_of, key_count, key_len-next, count_front}
use Rattle.mm_bucket.proofs.reading.are_laid.Goals as goal

pub loop-i-init : goal.loop-i-init
loop-i-init c = record {
  front = record { nodes = tt; keys = tt; within = tt; apart = tt };
  marked = λ q lt. mark_none 8152 q;
  left = omega arith;
}

pub returns-in-None : goal.returns-in-None
returns-in-None c = (
  λ t. cc,
  λ l. absurd (c.in-None.ensures.none c.loop-i.invariant.front c.loop-i.invariant.marked (front_at c.args.bytes.now c.args.begin (c.loop-i.i + 1) c.args.count (omega (arith, c.loop-i-test.true)) l)),
)

pub returns-then-left-len : goal.returns-then-left-len
returns-then-left-len c = (
  λ t. cc,
  λ l.
      let bytes = c.args.bytes.now in
      let i = c.loop-i.i in
      let all = key_len-front bytes (i + 1) c.args.count (omega (arith, c.loop-i-test.true)) in
      let k = (next_of bytes c.args.begin i (front_at bytes c.args.begin (i + 1) c.args.count (omega (arith, c.loop-i-test.true)) l)).key in
      let n = c.in-Some.ensures.len ∙ key_count bytes _ (pair_here bytes i).key k in
      absurd (omega (arith, all, n, key_len-next bytes i, l.begins, c.loop-i.invariant.left, c.if-left-len.true)),
)

pub loop-i-preserved : goal.loop-i-preserved
loop-i-preserved c =
    let bytes = c.args.bytes.now in
    let i = c.loop-i.i in
    let more = c.in-Some.ensures.some c.loop-i.invariant.front c.loop-i.invariant.marked in
    let k = (next_of bytes c.args.begin i more.0).key in
    let n = c.in-Some.ensures.len ∙ key_count bytes _ (pair_here bytes i).key k in
    record {
      front = more.0;
      marked = more.1;
      left = omega (arith, n, key_len-next bytes i, c.loop-i.invariant.left, c.if-left-len.false);
    }

pub returns : goal.returns
returns c =
    let bytes = c.args.bytes.now in
    let e : c.loop-i.i ≡ c.args.count = omega (arith, c.loop-i-test.false, c.loop-i.auto.i-end) in
    count_front bytes c.args.begin c.loop-i.i c.args.count c.loop-i.left e c.told-bytes c.requires.room c.requires.inside c.loop-i.invariant.front c.loop-i.invariant.left
