use Rattle.std.specs.Prelude.{◌≡◌, Bool, false, IsTrue}
use Rattle.std.proofs.Common.{length, ◌-◌}
use Rattle.mm_bucket.specs.Pairs.{key_len}
use Rattle.mm_bucket.proofs.Spelling.{counted_of, held_from, laid_of}
use Rattle.mm_bucket.proofs.bucket.Bucket.spelled.Goals as goal

pub returns-in-None-clause-none : goal.returns-in-None-clause-none
returns-in-None-clause-none c = λ b s. c.in-None.ensures.none (length b.pairs) (8152 - key_len b.pairs) (counted_of c.args.bytes.now c.read_bucket_header-header.result b c.read_bucket_header-header.ensures s)

pub invariant_of-result : goal.invariant_of-result
invariant_of-result c =
    held_from c.args.bytes.now c.read_bucket_header-header.result c.in-Some.count c.in-Some.begin c.read_bucket_header-header.ensures c.in-Some.ensures.some (c.are_laid.ensures.0 c.if-are_laid.true)

pub returns-then-are_laid-clause-some : goal.returns-then-are_laid-clause-some
returns-then-are_laid-clause-some c =
    (held_from c.args.bytes.now c.read_bucket_header-header.result c.in-Some.count c.in-Some.begin c.read_bucket_header-header.ensures c.in-Some.ensures.some (c.are_laid.ensures.0 c.if-are_laid.true)).spelled

pub returns-else-are_laid-clause-none : goal.returns-else-are_laid-clause-none
returns-else-are_laid-clause-none c = λ b s.
    let t = c.are_laid.ensures.1 (laid_of c.args.bytes.now c.read_bucket_header-header.result c.in-Some.count c.in-Some.begin b c.read_bucket_header-header.ensures c.in-Some.ensures.some s) in
    not_true c.are_laid.result t c.if-are_laid.false
  where
    not_true : (b : Bool) → IsTrue b → b ≡ false → ⊥
    not_true b t f = cc
