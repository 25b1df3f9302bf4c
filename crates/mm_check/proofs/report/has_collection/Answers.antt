use Rattle.std.proofs.Common.{◌≡◌, true, false, sym, ap, ◌∙◌}
use Rattle.std.specs.Prelude.{◌==◌}
use Rattle.mm_frames.specs.Texts.{text_in}
use Rattle.mm_frames.specs.declared.node_head.NodeHead.{NodeHead}
use Rattle.mm_nstable.specs.Nodes.{node_at, is_free}
use Rattle.mm_nstable.proofs.Loops.{not_zero}
use Rattle.mm_nstable.proofs.Tables as tables
use Rattle.mm_records.specs.Constants.{is_collection}
use Rattle.mm_records.specs.Stands.{ns_in}
use Rattle.mm_check.specs.Findings.{name_of}
use Rattle.mm_check.proofs.RecordLaws.{eq_of}
use Rattle.mm_check.proofs.ReportLaws.{unused_here, used_here}
use Rattle.mm_check.proofs.report.has_collection.Goals as goal

pub returns-then-head-eq0 : goal.returns-then-head-eq0
returns-then-head-eq0 c =
    let ns = ns_in c.args.views.now.private in
    let free : is_free (node_at (ns_in c.args.views.now.private) c.args.node) ≡ true = ap (λ (h : NodeHead). h.hash == 0) (sym c.node_head-head.ensures) ∙ eq_of c.node_head-head.result.hash 0 c.if-head-eq0.true in
    unused_here ns c.args.node (is_collection (name_of c.args.views.now.private c.args.node)) free

pub returns : goal.returns
returns c =
    let ns = ns_in c.args.views.now.private in
    let used : is_free (node_at (ns_in c.args.views.now.private) c.args.node) ≡ false = ap (λ (h : NodeHead). h.hash == 0) (sym c.node_head-head.ensures) ∙ not_zero c.node_head-head.result.hash c.if-head-eq0.false in
    c.is_collection.ensures ∙ ap is_collection (c.text_of.ensures ∙ ap (λ (h : NodeHead). text_in h.name) c.node_head-head.ensures)
    ∙ used_here ns c.args.node (is_collection (name_of c.args.views.now.private c.args.node)) (tables.used_from ns c.args.node c.requires used)
