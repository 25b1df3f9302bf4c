use Rattle.std.proofs.Common.{◌≡◌, ◌+◌, ◌*◌, ◌≤◌, take}
use Rattle.mm_base.specs.declared.place.DiskLoc.{DiskLoc}
use Rattle.mm_bucket.specs.Rules.{children}
use Rattle.mm_btree.specs.Changes.{adopted}
use Rattle.mm_btree.proofs.settle.adopt_all.Given as goal

abbrev pub invariant-loop-place : goal.invariant-loop-place
invariant-loop-place g l = record {
  adopted : (q : DiskLoc) → g.S.NodeStore.bucket_at l.store q ≡ adopted (g.S.NodeStore.bucket_at l.fn.store) (take l.place (children l.bucket)) l.up q;
  stays : g.S.NodeStore.beside l.store ≡ g.S.NodeStore.beside l.fn.store;
  asked : g.S.NodeStore.asked l.store ≡ g.S.NodeStore.asked l.fn.store;
  weight : g.S.NodeStore.declared l.store ≤ g.S.NodeStore.declared l.fn.store + 20 * l.place;
}
