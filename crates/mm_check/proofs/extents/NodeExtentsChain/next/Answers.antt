use Rattle.std.proofs.Common.{sym, ◌∙◌}
use Rattle.mm_check.proofs.CodeTests.{wrong_name, wrong_prev, right_next}
use Rattle.mm_check.proofs.extents.NodeExtentsChain.next.Goals as goal
use Rattle.mm_check.proofs.extents.NodeExtentsChain.next.Goals.{then-ne-via-then-ne, then-ne-via-else-ne+then-not-names_place}

pub returns-then-ne : goal.returns-then-ne
returns-then-ne c =
    let s = c.args.self.now in
    elim c.then-ne.branch [
      | then-ne-via-then-ne w ↦ wrong_name c.args.self.now.views.now.private c.args.self.now.all.now c.args.self.now.field c.args.before c.args.at c.read_extent-header.result c.read_extent-header.ensures c.ne.result c.ne.ensures w.if-ne.true
      | then-ne-via-else-ne+then-not-names_place w ↦ wrong_prev c.args.self.now.views.now.private c.args.self.now.all.now c.args.self.now.field c.args.before c.args.at c.read_extent-header.result c.read_extent-header.ensures w.names_place.result w.names_place.ensures w.if-not-names_place.true
    ]

pub returns : goal.returns
returns c =
    right_next c.args.self.now.views.now.private c.args.self.now.all.now c.args.self.now.field c.args.before c.args.at c.read_extent-header.result c.read_extent-header.ensures c.ne.result c.names_place.result c.place_link.result
    (sym (c.is_known.ensures c.args.self.now.all.now c.args.self.now.extents.known) ∙ c.if-not-is_known.false) c.ne.ensures c.if-ne.false c.names_place.ensures c.if-not-names_place.false c.place_link.ensures
