use Rattle.std.proofs.Common.{[], ◌∷◌, refl, sym, ap, ◌∙◌}
use Rattle.mm_base.specs.Places.{null}
use Rattle.mm_base.specs.declared.place.DiskLoc.{DiskLoc}
use Rattle.mm_base.proofs.PlaceLaws.{place_same}
use Rattle.mm_btree.specs.Nodes.{node_of, put, with_parent}
use Rattle.mm_btree.proofs.RootLeft.{lowered}
use Rattle.mm_btree.proofs.WholeCalls.{thin_some, thin_kid, thin_kid_some}
use Rattle.mm_btree.proofs.whole.lower.Goals as goal

pub read-requires : goal.read-requires
read-requires g c = let w = c.requires.thin in thin_some w.0 (g.S.NodeStore.bucket_at c.args.store.now) c.args.root c.args.height w.1 w.2 w.3

pub free-requires : goal.free-requires
free-requires g c = let w = c.requires.thin in thin_some w.0 (g.S.NodeStore.bucket_at c.args.store.now) c.args.root c.args.height w.1 w.2 w.3

pub set_parent-requires : goal.set_parent-requires
set_parent-requires g c =
    let node = g.S.NodeStore.bucket_at in
    let w = c.requires.thin in
    thin_kid_some w.0 (node c.args.store.now) (node c.free.new.self) c.args.root c.next-kid.result c.args.height w.1 w.2 c.in_ok-bucket.bucket c.requires.high w.3 c.in_ok-bucket.ensures.bucket c.next-kid.ensures c.in_ok-free.ensures.same

pub returns-clause-ok : goal.returns-clause-ok
returns-clause-ok g c =
    let node = g.S.NodeStore.bucket_at in
    let n = node c.args.store.now in
    let n1 = node c.free.new.self in
    let o = node c.set_parent.new.self in
    let b = c.in_ok-bucket.bucket in
    let kid = c.next-kid.result in
    λ lt m s list v so. lowered lt m n n1 o c.args.root kid c.args.height s list (node_of b) c.requires.high v so c.in_ok-bucket.ensures.bucket
    (thin_kid m n c.args.root c.args.height s list b c.requires.high v c.in_ok-bucket.ensures.bucket ∙ ap (λ (q : DiskLoc). q ∷ []) (sym c.next-kid.ensures)) c.in_ok-free.ensures.same
    (λ q. c.in_ok-set_parent.ensures.same q ∙ ap (λ (p : DiskLoc). put n1 kid (with_parent p (n1 kid)) q) (place_same _ null refl refl))
