use Rattle.std.proofs.Common.{List, sym, ap, ◌∙◌}
use Rattle.mm_frames.specs.Texts.{text_in}
use Rattle.mm_frames.specs.declared.node_head.NodeHead.{NodeHead}
use Rattle.mm_links.specs.Links.{Place, has}
use Rattle.mm_check.specs.CountQuestions.{counts_right}
use Rattle.mm_check.proofs.counts.counts_right.Goals as goal

pub details_right-requires : goal.details_right-requires
details_right-requires c =
    record {
      extents = c.requires.extents;
      records = λ p h. c.requires.records p (ap (λ (ps : List Place). has ps p) (sym (c.deref.ensures.value ∙ c.in_ok-records.ensures)) ∙ h);
    }

pub returns : goal.returns
returns c =
    let name = c.text_of.ensures ∙ ap (λ (h : NodeHead). text_in h.name) c.node_head-head.ensures in
    let records = c.deref.ensures.value ∙ c.in_ok-records.ensures in
    c.details_right.ensures ∙ (λ j. counts_right c.args.views.now.private (name j) (c.node_details-details.ensures j) c.args.owner.now.extents.now (records j))
