use Rattle.std.specs.Prelude.{◌≡◌, Bool, false, IsTrue}
use Rattle.std.proofs.Common.{subst}
use Rattle.mm_bucket.specs.Rules.{IsBucket}
use Rattle.mm_bucket.proofs.Spelling.{spelled_once}
use Rattle.mm_bucket.proofs.bucket.Bucket.read.Goals as goal

pub returns-else-keeps_rules-clause-none : goal.returns-else-keeps_rules-clause-none
returns-else-keeps_rules-clause-none c = λ b s r.
    let same = spelled_once c.args.bytes.now b c.in-Some.bucket s c.in-Some.ensures.some in
    not_true c.keeps_rules.result (c.keeps_rules.ensures.1 (subst IsBucket same r)) c.if-keeps_rules.false
  where
    not_true : (b : Bool) → IsTrue b → b ≡ false → ⊥
    not_true b t f = cc
