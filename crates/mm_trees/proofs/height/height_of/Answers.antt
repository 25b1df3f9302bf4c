use Rattle.std.proofs.Common.{◌+◌, ◌∙◌, sym, subst, arith}
use Rattle.std.proofs.lemmas.Bool.{false≢true}
use Rattle.mm_base.specs.declared.place.DiskLoc.{DiskLoc}
use Rattle.mm_trees.proofs.Heights.{IsDown, few_levels, at_root, down_there, leaf_level, child_level}
use Rattle.mm_trees.proofs.height.height_of.Goals as goal

pub loop-level-init : goal.loop-level-init
loop-level-init g c = λ h s w. at_root (g.S.NodeStore.bucket_at c.args.store.now) c.args.root h s w

pub read-requires : goal.read-requires
read-requires g c =
    let r = c.requires in
    down_there (g.S.NodeStore.bucket_at c.args.store.now) c.loop-level.at r.0 c.loop-level.level (c.loop-level.invariant r.0 r.1.0 r.1.1)

pub returns-then-is_null-clause-is : goal.returns-then-is_null-clause-is
returns-then-is_null-clause-is g c = λ h s w.
    leaf_level (g.S.NodeStore.bucket_at c.args.store.now) c.loop-level.at h c.loop-level.level c.in_ok-bucket.bucket c.in_ok-bucket.ensures.bucket (sym c.next.ensures ∙ c.is_null.ensures.0 c.if-is_null.true) (c.loop-level.invariant h s w)

pub loop-level-preserved : goal.loop-level-preserved
loop-level-preserved g c = λ h s w.
    let m = g.S.NodeStore.bucket_at c.args.store.now in
    let d = child_level m c.loop-level.at h c.loop-level.level c.in_ok-bucket.bucket c.in_ok-bucket.ensures.bucket
    (λ e. false≢true (sym c.if-is_null.false ∙ c.is_null.ensures.1 (c.next.ensures ∙ e))) (c.loop-level.invariant h s w) in
    subst (λ (q : DiskLoc). IsDown m q h (c.loop-level.level + 1)) (sym c.child-at.ensures) d

pub unreachable-requires : goal.unreachable-requires
unreachable-requires g c =
    let r = c.requires in
    let low = few_levels (g.S.NodeStore.bucket_at c.args.store.now) c.args.root r.0 r.1.0 r.1.1 in
    let d = (c.loop-level.invariant r.0 r.1.0 r.1.1).low in
    let out = c.loop-level-test.false in
    omega (arith, low, d, out)
