use Rattle.std.proofs.Common.{sym, ◌∙◌}
use Rattle.std.specs.Prelude.{◌==◌, not}
use Rattle.std.specs.BTreeSet.{contains}
use Rattle.std.specs.Ordering.{nat_cmp}
use Rattle.std.specs.Cmp.Lexicographic.{slice_cmp}
use Rattle.std.proofs.lemmas.Bool.{false≢true}
use Rattle.mm_nstable.specs.Hash.{hash_of}
use Rattle.mm_check.specs.NodeQuestions.{has_form}
use Rattle.mm_check.proofs.NodeLoops.{named_wrong, named_right}
use Rattle.mm_check.proofs.table.named_right.Goals as goal

pub returns-then-not-is_named : goal.returns-then-not-is_named
returns-then-not-is_named c = record { right = λ d f. sym (named_wrong (has_form d c.args.name.now) (c.args.head.now.hash == hash_of c.args.name.now) (not (contains (slice_cmp nat_cmp) c.args.seen.now c.args.head.now.name)) c.is_named.result (c.is_named.ensures d f) c.if-not-is_named.true); seen = λ e. absurd (false≢true e) }

pub returns : goal.returns
returns c = record { right = λ d f. c.in_ok-fresh.ensures.added ∙ sym (named_right (has_form d c.args.name.now) (c.args.head.now.hash == hash_of c.args.name.now) (not (contains (slice_cmp nat_cmp) c.args.seen.now c.args.head.now.name)) c.is_named.result (c.is_named.ensures d f) c.if-not-is_named.false); seen = λ e. c.in_ok-fresh.ensures.updates }
