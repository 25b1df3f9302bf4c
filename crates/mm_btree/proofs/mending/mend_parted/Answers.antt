use Rattle.std.proofs.Common.{◌≡◌, suc, insert, take, drop, ◌∷◌, sym, ap, ◌∙◌, subst, arith}
use Rattle.std.proofs.lemmas.List.{length-append}
use Rattle.mm_base.specs.declared.place.DiskLoc.{DiskLoc}
use Rattle.mm_btree.specs.Nodes.{Item, Node, node_of}
use Rattle.mm_btree.specs.Changes.{AreThere, IsSettled}
use Rattle.mm_btree.specs.declared.outcome.Outcome.TheVariants.{Parted}
use Rattle.mm_btree.proofs.Edits.{inner_alike, inner_kids, inner_put}
use Rattle.mm_btree.proofs.Removals.{parts_there, parts_mended, written_of}
use Rattle.mm_btree.proofs.MendCalls.{above_inside, above_next}
use Rattle.mm_btree.proofs.mending.mend_parted.Goals as goal

pub settle-requires-clause-there : goal.settle-requires-clause-there
settle-requires-clause-there g c = let w = c.requires.above in (parts_there w.0 (g.S.NodeStore.bucket_at c.args.store.now) c.args.at (node_of c.args.bucket) c.args.place c.args.up.now w.1).0

pub settle-requires-clause-place : goal.settle-requires-clause-place
settle-requires-clause-place g c = let w = c.requires.above in above_inside w.0 (g.S.NodeStore.bucket_at c.args.store.now) c.args.at c.args.bucket c.args.place (Parted c.args.up.now) w.1

pub settle-requires-clause-alike : goal.settle-requires-clause-alike
settle-requires-clause-alike g c =
    let n = g.S.NodeStore.bucket_at c.args.store.now in
    let w = c.requires.above in
    let r = Parted c.args.up.now in
    inner_alike c.args.bucket c.args.place c.key.result.now c.rec.result c.right.result (above_inside w.0 n c.args.at c.args.bucket c.args.place r w.1) c.requires.alike (above_next w.0 n c.args.at c.args.bucket c.args.place r w.1) c.right.ensures.place

pub settle-requires-clause-kids : goal.settle-requires-clause-kids
settle-requires-clause-kids g c =
    let n = g.S.NodeStore.bucket_at c.args.store.now in
    let w = c.requires.above in
    let r = Parted c.args.up.now in
    let b = c.args.bucket in
    let i = c.args.place in
    let kids = inner_kids b i c.key.result.now c.rec.result c.right.result (above_inside w.0 n c.args.at b i r w.1) c.requires.alike (above_next w.0 n c.args.at b i r w.1) c.right.ensures.place
    ∙ ap (λ (z : DiskLoc). insert (node_of b).kids (suc i) z) c.right.ensures.is in
    subst (AreThere n) (sym kids) (parts_there w.0 n c.args.at (node_of b) i c.args.up.now w.1).1

pub returns-clause-ok : goal.returns-clause-ok
returns-clause-ok g c =
    let node = g.S.NodeStore.bucket_at in
    let n = node c.args.store.now in
    let o = node c.settle.new.store in
    let w = c.requires.above in
    let u = c.args.up.now in
    let b = c.args.bucket in
    let i = c.args.place in
    let le = above_inside w.0 n c.args.at b i (Parted u) w.1 in
    let next = above_next w.0 n c.args.at b i (Parted u) w.1 in
    let pair : ◌≡◌ {A = Item} (record { key = c.key.result.now; rec = c.rec.result }) u.mid = λ j. record { key = c.key.ensures.is j; rec = c.rec.ensures j } in
    let put = inner_put b i c.key.result.now c.rec.result c.right.result le c.requires.alike next c.right.ensures.place
    ∙ (λ j. record (node_of b) { pairs = insert (node_of b).pairs i (pair j); kids = insert (node_of b).kids (suc i) (c.right.ensures.is j) }) in
    let new : Node = record (node_of b) { pairs = insert (node_of b).pairs i u.mid; kids = insert (node_of b).kids (suc i) u.right } in
    let y = written_of n o c.args.at new c.in_ok-more.more c.of.result c.of.ensures.ups c.of.ensures.some (omega (arith, length-append (take i (node_of b).pairs) (u.mid ∷ drop i (node_of b).pairs)))
    (subst (λ (z : Node). IsSettled n o c.args.at z c.in_ok-more.more) put c.in_ok-more.ensures.ok) in
    λ sc v. parts_mended sc n o c.args.at (node_of b) i u c.of.result v y
