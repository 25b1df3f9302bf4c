use Rattle.std.proofs.Common.{Some, ◌≤◌, length, take, ap, sym, ◌∙◌, add-one, arith}
use Rattle.mm_bucket.specs.Rules.{children}
use Rattle.mm_btree.specs.Changes.{adopted}
use Rattle.mm_btree.proofs.Steps.{adopted_more, still_there, has_at, take_more, take_whole}
use Rattle.mm_btree.proofs.Edits.{child_is, children_len}
use Rattle.mm_btree.proofs.settle.adopt_all.Goals as goal

pub set_parent-requires : goal.set_parent-requires
set_parent-requires g c =
    let node = g.S.NodeStore.bucket_at in
    let b = c.args.bucket.now in
    let i = c.loop-place.place in
    let le : i ≤ length b.pairs = omega (arith, c.loop-place-test.true, c.len-pairs.ensures.len) in
    still_there (node c.args.store.now) (node c.loop-place.store) (children b) (take i (children b)) c.args.up c.child.result c.requires (c.loop-place.invariant.adopted c.child.result)
    (has_at (children b) i c.child.result (child_is b i le ∙ ap Some (sym c.child.ensures)))

pub loop-place-preserved : goal.loop-place-preserved
loop-place-preserved g c =
    let node = g.S.NodeStore.bucket_at in
    let m = node c.args.store.now in
    let b = c.args.bucket.now in
    let i = c.loop-place.place in
    let le : i ≤ length b.pairs = omega (arith, c.loop-place-test.true, c.len-pairs.ensures.len) in
    let at = child_is b i le ∙ ap Some (sym c.child.ensures) in
    record {
      adopted = λ q. adopted_more m (node c.loop-place.store) (node c.set_parent.new.self) (take i (children b)) c.args.up c.child.result c.loop-place.invariant.adopted c.in_ok-set_parent.ensures.same q
          ∙ ap (λ xs. adopted m xs c.args.up q) (sym (take_more (children b) i c.child.result at) ∙ ap (λ n. take n (children b)) (sym (add-one i)));
      stays = c.in_ok-set_parent.ensures.stays ∙ c.loop-place.invariant.stays;
      asked = c.in_ok-set_parent.ensures.asked ∙ c.loop-place.invariant.asked;
      weight = omega (arith, c.in_ok-set_parent.ensures.weight, c.loop-place.invariant.weight);
    }

pub returns-clause-ok : goal.returns-clause-ok
returns-clause-ok g c =
    let m = g.S.NodeStore.bucket_at c.args.store.now in
    let b = c.args.bucket.now in
    λ q. c.loop-place.invariant.adopted q ∙ ap (λ xs. adopted m xs c.args.up q) (take_whole (children b) c.loop-place.place (omega (arith, c.loop-place-test.false, c.len-pairs.ensures.len, children_len b)))
