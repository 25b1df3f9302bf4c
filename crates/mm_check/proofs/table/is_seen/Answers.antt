use Rattle.std.proofs.Common.{refl, sym, ap, ◌∙◌}
use Rattle.std.specs.BTreeSet.{contains}
use Rattle.std.specs.Ordering.{nat_cmp}
use Rattle.std.specs.Cmp.Lexicographic.{slice_cmp}
use Rattle.std.proofs.lemmas.Bool.{false≢true}
use Rattle.mm_base.specs.Bytes.{padded}
use Rattle.mm_nstable.specs.Nodes.{count_of}
use Rattle.mm_check.specs.NodeQuestions.{has_name}
use Rattle.mm_check.proofs.NodeLoops.{no_true}
use Rattle.mm_check.proofs.table.is_seen.Goals as goal

pub returns-in-None : goal.returns-in-None
returns-in-None c bytes k n = sym (no_true (has_name bytes (count_of bytes) c.args.text.now) (λ h. false≢true (c.in-None.ensures.some.1 (n c.args.text.now h))))

pub returns-in-Some : goal.returns-in-Some
returns-in-Some c bytes k n =
    c.contains.ensures ∙ ap (contains (slice_cmp nat_cmp) c.args.seen.now) (c.padded.ensures ∙ ap (padded 128) c.in-Some.ensures.bytes) ∙ k c.args.text.now (c.in-Some.ensures.some.0 refl)
