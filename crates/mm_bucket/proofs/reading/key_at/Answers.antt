use Rattle.std.proofs.Common.{◌≡◌, ◌+◌, ap, ◌∙◌, arith}
use Rattle.mm_base.specs.Bytes.{part}
use Rattle.std.specs.Prelude.{IsTrue, Bool, false}
use Rattle.mm_bucket.proofs.Keys.{key_some, nameless_of}
use Rattle.mm_bucket.proofs.Nexts.{key_inside, key_count}
use Rattle.mm_bucket.proofs.reading.key_at.Goals as goal
use Rattle.mm_bucket.proofs.reading.key_at.Goals.{then-len-gt-MAX_KEY_LEN-via-then-len-gt-MAX_KEY_LEN, then-len-gt-MAX_KEY_LEN-via-else-len-gt-MAX_KEY_LEN+then-at-len-gt-BUCKET_LEN}

pub returns-then-at-gt-BUCKET_LEN-clause-none : goal.returns-then-at-gt-BUCKET_LEN-clause-none
returns-then-at-gt-BUCKET_LEN-clause-none c = λ key k. omega (arith, c.if-at-gt-BUCKET_LEN.true, key_inside c.args.bytes.now c.args.ofs key c.told-bytes k, key_some key k.good)

pub returns-then-len-gt-MAX_KEY_LEN-clause-none : goal.returns-then-len-gt-MAX_KEY_LEN-clause-none
returns-then-len-gt-MAX_KEY_LEN-clause-none c = λ key k.
    let len = c.read_u32-len.ensures ∙ key_count c.args.bytes.now c.args.ofs key k in
    elim c.then-len-gt-MAX_KEY_LEN.branch [
      | then-len-gt-MAX_KEY_LEN-via-then-len-gt-MAX_KEY_LEN w ↦ omega (arith, w.if-len-gt-MAX_KEY_LEN.true, len, k.good.short)
      | then-len-gt-MAX_KEY_LEN-via-else-len-gt-MAX_KEY_LEN+then-at-len-gt-BUCKET_LEN w ↦ omega (arith, w.if-at-len-gt-BUCKET_LEN.true, len, key_inside c.args.bytes.now c.args.ofs key c.told-bytes k)
    ]

pub returns-else-is_key-clause-none : goal.returns-else-is_key-clause-none
returns-else-is_key-clause-none c = λ key k.
    let len = c.read_u32-len.ensures ∙ key_count c.args.bytes.now c.args.ofs key k in
    let same = c.frame.ensures.is ∙ (ap (λ n. part (40 + c.args.ofs) n c.args.bytes.now) len ∙ k.here) in
    not_true c.is_key.result (c.is_key.ensures.1 (nameless_of c.frame.result.now key same k.good)) c.if-is_key.false
  where
    not_true : (b : Bool) → IsTrue b → b ≡ false → ⊥
    not_true b t f = cc
