use Rattle.std.proofs.Common.{subst}
use Rattle.mm_btree.specs.Removal.{IsRootLeft}
use Rattle.mm_btree.specs.declared.outcome.Outcome.{Outcome}
use Rattle.mm_btree.proofs.RootLeft.{root_whole, root_there, root_parted, root_empty}
use Rattle.mm_btree.proofs.WholeCalls.{higher}
use Rattle.mm_btree.proofs.whole.settle_root.Goals as goal

pub grow-requires-clause-there : goal.grow-requires-clause-there
grow-requires-clause-there g c =
    let n = g.S.NodeStore.bucket_at c.args.store.now in
    let w = c.requires.left in
    root_there w.0 n c.args.root c.args.height w.1 w.2 c.in-Parted.up (subst (λ (r : Outcome). IsRootLeft w.0 n c.args.height w.1 w.2 c.args.root r) c.in-Parted.is w.3)

pub returns-in-Whole-clause-ok : goal.returns-in-Whole-clause-ok
returns-in-Whole-clause-ok g c =
    let n = g.S.NodeStore.bucket_at c.args.store.now in
    λ lt m s list v so. root_whole lt m n c.args.root c.args.height s list (subst (λ (r : Outcome). IsRootLeft m n c.args.height s list c.args.root r) c.in-Whole.is v) so

pub returns-in_ok-place-in-Parted-clause-ok : goal.returns-in_ok-place-in-Parted-clause-ok
returns-in_ok-place-in-Parted-clause-ok g c =
    let node = g.S.NodeStore.bucket_at in
    let n = node c.args.store.now in
    let o = node c.grow.new.store in
    let p = c.in_ok-place-in-Parted.place in
    λ lt m s list v so. higher lt m o p c.args.height s list
    (root_parted lt m n o c.args.root p c.args.height s list c.in-Parted.up (subst (λ (r : Outcome). IsRootLeft m n c.args.height s list c.args.root r) c.in-Parted.is v) so c.in_ok-place-in-Parted.ensures.free c.in_ok-place-in-Parted.ensures.same)

pub returns-then-height-eq0-clause-ok : goal.returns-then-height-eq0-clause-ok
returns-then-height-eq0-clause-ok g c =
    let n = g.S.NodeStore.bucket_at c.args.store.now in
    λ lt m s list v so. root_empty lt m n c.args.root c.args.height s list c.if-height-eq0.true (subst (λ (r : Outcome). IsRootLeft m n c.args.height s list c.args.root r) c.in-Thin.is v) so

pub lower-requires-clause-thin : goal.lower-requires-clause-thin
lower-requires-clause-thin g c =
    let n = g.S.NodeStore.bucket_at c.args.store.now in
    let w = c.requires.left in
    (w.0, w.1, w.2, subst (λ (r : Outcome). IsRootLeft w.0 n c.args.height w.1 w.2 c.args.root r) c.in-Thin.is w.3)

pub returns-in_ok-lowered-in-Thin-clause-ok : goal.returns-in_ok-lowered-in-Thin-clause-ok
returns-in_ok-lowered-in-Thin-clause-ok g c =
    let n = g.S.NodeStore.bucket_at c.args.store.now in
    λ lt m s list v so. c.in_ok-lowered-in-Thin.ensures.ok lt m s list (subst (λ (r : Outcome). IsRootLeft m n c.args.height s list c.args.root r) c.in-Thin.is v) so
