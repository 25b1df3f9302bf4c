use Rattle.std.proofs.Common.{◌<◌, ◌+◌, ◌-◌, ◌++◌, [], ◌∷◌, length, map, take, drop, sym, ap, ◌∙◌, arith}
use Rattle.mm_base.specs.declared.place.DiskLoc.{DiskLoc}
use Rattle.mm_btree.specs.Nodes.{item_of}
use Rattle.mm_btree.specs.Listed.{rec_of}
use Rattle.mm_btree.proofs.Ranged.{run_more, grown_once}
use Rattle.mm_btree.proofs.ranges.push_run.Goals as goal

pub loop-place-preserved : goal.loop-place-preserved
loop-place-preserved c =
    let ps = c.args.bucket.now.pairs in
    let items = map item_of ps in
    let from = c.args.from in
    let i = c.loop-place.place in
    let k = c.loop-place.invariant in
    let lt : i < length ps = omega (arith, c.loop-place-test.true, c.requires.inside) in
    record {
      begins = omega (arith, k.begins);
      grown = grown_once c.args.out.now.items c.loop-place.out.items c.push.new.self.items (map rec_of (take (i - from) (drop from items))) (c.rec.result ∷ []) (map rec_of (take (i + 1 - from) (drop from items)))
          k.grown c.in_ok-push.ensures.items (run_more ps from i k.begins lt ∙ ap (λ (r : DiskLoc). map rec_of (take (i - from) (drop from items)) ++ r ∷ []) (sym c.rec.ensures));
    }
