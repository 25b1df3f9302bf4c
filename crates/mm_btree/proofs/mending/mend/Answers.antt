use Rattle.std.proofs.Common.{ℕ, sym, subst}
use Rattle.std.proofs.lemmas.Result.{IfOk-weaker}
use Rattle.mm_btree.specs.Nodes.{node_of}
use Rattle.mm_btree.specs.Removal.{Scene, IsAbove, IsMended}
use Rattle.mm_btree.specs.declared.outcome.Outcome.{Outcome}
use Rattle.mm_btree.specs.declared.outcome.Outcome.TheVariants.{Thin}
use Rattle.mm_btree.proofs.Removals.{whole_above}
use Rattle.mm_btree.proofs.mending.mend.Goals as goal

pub mend_parted-requires-clause-above : goal.mend_parted-requires-clause-above
mend_parted-requires-clause-above g c =
    let w = c.requires.above in
    let n = g.S.NodeStore.bucket_at c.args.store.now in
    (w.0, subst (λ (r : Outcome). IsAbove w.0 n c.args.at (node_of c.args.bucket) c.args.place r) c.in-Parted.is w.1)

pub returns-in-Whole-clause-ok : goal.returns-in-Whole-clause-ok
returns-in-Whole-clause-ok g c =
    let n = g.S.NodeStore.bucket_at c.args.store.now in
    λ w v. whole_above w n c.args.at (node_of c.args.bucket) c.args.place (subst (λ (r : Outcome). IsAbove w n c.args.at (node_of c.args.bucket) c.args.place r) c.in-Whole.is v)

pub mend_first-requires-clause-above : goal.mend_first-requires-clause-above
mend_first-requires-clause-above g c =
    let w = c.requires.above in
    let n = g.S.NodeStore.bucket_at c.args.store.now in
    (w.0, subst (λ (i : ℕ). IsAbove w.0 n c.args.at (node_of c.args.bucket) i Thin) c.if-place-eq0.true (subst (λ (r : Outcome). IsAbove w.0 n c.args.at (node_of c.args.bucket) c.args.place r) c.in-Thin.is w.1))

pub mend_behind-requires-clause-above : goal.mend_behind-requires-clause-above
mend_behind-requires-clause-above g c =
    let w = c.requires.above in
    let n = g.S.NodeStore.bucket_at c.args.store.now in
    (w.0, subst (λ (r : Outcome). IsAbove w.0 n c.args.at (node_of c.args.bucket) c.args.place r) c.in-Thin.is w.1)

pub returns-then-place-eq0-clause-ok : goal.returns-then-place-eq0-clause-ok
returns-then-place-eq0-clause-ok g c =
    let node = g.S.NodeStore.bucket_at in
    let n = node c.args.store.now in
    let o = node c.mend_first.new.store in
    let at = c.args.at in
    let b = node_of c.args.bucket in
    IfOk-weaker c.mend_first.result (λ r. (w : Scene) → IsAbove w n at b 0 Thin → IsMended w o 0 r) (λ r. (w : Scene) → IsAbove w n at b c.args.place c.args.outcome → IsMended w o c.args.place r)
    (λ r f w v. subst (λ (i : ℕ). IsMended w o i r) (sym c.if-place-eq0.true) (f w (subst (λ (i : ℕ). IsAbove w n at b i Thin) c.if-place-eq0.true (subst (λ (z : Outcome). IsAbove w n at b c.args.place z) c.in-Thin.is v))))
    c.mend_first.ensures.ok
