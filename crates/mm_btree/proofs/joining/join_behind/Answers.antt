use Rattle.std.proofs.Common.{◌≡◌, [], None}
use Rattle.std.proofs.lemmas.Result.{IfOk-weaker}
use Rattle.mm_bucket.specs.Pairs.{with_pair}
use Rattle.mm_btree.specs.Nodes.{Item, Node, node_of, put}
use Rattle.mm_btree.specs.Changes.{IsSettled}
use Rattle.mm_btree.specs.Removal.{AreNeighbours, up_at, IsJoined}
use Rattle.mm_btree.proofs.JoinCalls.{behind_one, one_kids, one_joined, right_kids_there, adopted_some, seen_some}
use Rattle.mm_btree.proofs.joining.join_behind.Goals as goal

pub read-requires : goal.read-requires
read-requires g c = let k = c.requires.two in seen_some (g.S.NodeStore.bucket_at c.args.store.now) c.args.left k.0 k.2.left

pub read-requires-2 : goal.read-requires-2
read-requires-2 g c = let k = c.requires.two in seen_some (g.S.NodeStore.bucket_at c.args.store.now) c.args.right k.1 k.2.right

pub adopt-requires : goal.adopt-requires
adopt-requires g c =
    let k = c.requires.two in
    right_kids_there (g.S.NodeStore.bucket_at c.args.store.now) c.args.left c.args.right k.0 k.1 c.in_ok-thin.thin k.2 c.in_ok-thin.ensures.bucket

pub fold-requires-clause-left : goal.fold-requires-clause-left
fold-requires-clause-left g c =
    let node = g.S.NodeStore.bucket_at in
    let k = c.requires.two in
    adopted_some (node c.args.store.now) (node c.adopt.new.store) (node_of c.in_ok-thin.thin).kids c.args.left c.args.left c.in_ok-adopt.ensures.ok (seen_some (node c.args.store.now) c.args.left k.0 k.2.left)

pub fold-requires-clause-right : goal.fold-requires-clause-right
fold-requires-clause-right g c =
    let node = g.S.NodeStore.bucket_at in
    let k = c.requires.two in
    adopted_some (node c.args.store.now) (node c.adopt.new.store) (node_of c.in_ok-thin.thin).kids c.args.left c.args.right c.in_ok-adopt.ensures.ok (seen_some (node c.args.store.now) c.args.right k.1 k.2.right)

pub fold-requires-clause-apart : goal.fold-requires-clause-apart
fold-requires-clause-apart g c = c.requires.two.2.apart

pub fold-requires-clause-alike : goal.fold-requires-clause-alike
fold-requires-clause-alike g c =
    let m = g.S.NodeStore.bucket_at c.args.store.now in
    let k = c.requires.two in
    (behind_one m c.args.left c.args.right k.0 k.1 c.in_ok-whole.whole c.in_ok-thin.thin c.len-place.result c.args.key.now c.args.rec c.next.result k.2 k.3 c.in_ok-whole.ensures.bucket c.in_ok-thin.ensures.bucket c.in_ok-whole.ensures.alike c.len-place.ensures.len c.next.ensures).alike

pub fold-requires-clause-kids : goal.fold-requires-clause-kids
fold-requires-clause-kids g c =
    let node = g.S.NodeStore.bucket_at in
    let m = node c.args.store.now in
    let k = c.requires.two in
    let y : Item = record { key = c.args.key.now; rec = c.args.rec } in
    let w = c.in_ok-whole.whole in
    let t = c.in_ok-thin.thin in
    let one = behind_one m c.args.left c.args.right k.0 k.1 w t c.len-place.result c.args.key.now c.args.rec c.next.result k.2 k.3 c.in_ok-whole.ensures.bucket c.in_ok-thin.ensures.bucket c.in_ok-whole.ensures.alike c.len-place.ensures.len c.next.ensures in
    one_kids m (node c.adopt.new.store) c.args.left c.args.right k.0 k.1 w t (with_pair w c.len-place.result c.args.key.now c.args.rec c.next.result) y k.2 c.in_ok-whole.ensures.bucket c.in_ok-thin.ensures.bucket c.in_ok-adopt.ensures.ok one

pub returns-clause-ok : goal.returns-clause-ok
returns-clause-ok g c =
    let node = g.S.NodeStore.bucket_at in
    let m = node c.args.store.now in
    let n = node c.adopt.new.store in
    let o = node c.fold.new.store in
    let y : Item = record { key = c.args.key.now; rec = c.args.rec } in
    let w = c.in_ok-whole.whole in
    let t = c.in_ok-thin.thin in
    let left = c.args.left in
    let right = c.args.right in
    let v = with_pair w c.len-place.result c.args.key.now c.args.rec c.next.result in
    IfOk-weaker c.fold.result (λ r. IsSettled (put n right None) o left (node_of v) (up_at right r)) (λ r. (b d : Node) → AreNeighbours m left right b d → d.pairs ≡ [] → IsJoined m o left right b y d r)
    (λ r s b d k none. one_joined m n o left right b d w t v y r k c.in_ok-whole.ensures.bucket c.in_ok-thin.ensures.bucket c.in_ok-adopt.ensures.ok
    (behind_one m left right b d w t c.len-place.result c.args.key.now c.args.rec c.next.result k none c.in_ok-whole.ensures.bucket c.in_ok-thin.ensures.bucket c.in_ok-whole.ensures.alike c.len-place.ensures.len c.next.ensures) s)
    c.fold.ensures.ok
