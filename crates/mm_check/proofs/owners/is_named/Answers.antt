use Rattle.std.proofs.Common.{ℕ, List, ap, ◌∙◌}
use Rattle.mm_frames.specs.Texts.{text_in}
use Rattle.mm_frames.specs.declared.node_head.NodeHead.{NodeHead}
use Rattle.mm_records.specs.Constants.{is_name}
use Rattle.mm_check.proofs.CodeTests.{bytes_name}
use Rattle.mm_check.proofs.owners.is_named.Goals as goal

pub returns : goal.returns
returns c =
    c.eq.ensures ∙ bytes_name c.text_of.result.now c.args.name.now
    ∙ ap (λ (xs : List ℕ). is_name xs c.args.name.now) (c.text_of.ensures ∙ ap (λ (h : NodeHead). text_in h.name) c.node_head-head.ensures)
