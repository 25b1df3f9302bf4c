use Rattle.std.proofs.Common.{◌≡◌, ◌++◌, ◌<◌, ◌≤◌, ◌-◌, ◌+◌, [], ◌∷◌, length, map, take, drop, sym, ap, ◌∙◌, arith}
use Rattle.std.proofs.lemmas.Result.{on_ok_weaker}
use Rattle.std.proofs.lemmas.List.{append-nil, length-map}
use Rattle.mm_btree.specs.Nodes.{item_of, node_of}
use Rattle.mm_btree.specs.Listed.{listed, between, rec_of}
use Rattle.mm_btree.proofs.Searched.{read_some, read_sorted, kid_found, kid_there}
use Rattle.mm_btree.proofs.Ranged.{so_far, range_starts, range_goes, range_stops, range_in_leaf, grown, grown_once}
use Rattle.mm_btree.proofs.ranges.+range_below.Goals as goal

pub read-requires : goal.read-requires
read-requires g t c = read_some c.args.spec.now (g.S.NodeStore.bucket_at c.args.store.now) c.args.at c.args.height c.requires

pub run_start-from-requires : goal.run_start-from-requires
run_start-from-requires g t c = read_sorted c.args.spec.now (g.S.NodeStore.bucket_at c.args.store.now) c.args.at c.args.height (node_of c.in_ok-bucket.bucket) c.requires c.in_ok-bucket.ensures.bucket

pub run_end-to-requires-clause-order : goal.run_end-to-requires-clause-order
run_end-to-requires-clause-order g t c = read_sorted c.args.spec.now (g.S.NodeStore.bucket_at c.args.store.now) c.args.at c.args.height (node_of c.in_ok-bucket.bucket) c.requires c.in_ok-bucket.ensures.bucket

pub run_end-to-requires-clause-inside : goal.run_end-to-requires-clause-inside
run_end-to-requires-clause-inside g t c = c.run_start-from.ensures.inside

pub push_run-requires-clause-order : goal.push_run-requires-clause-order
push_run-requires-clause-order g t c = c.run_end-to.ensures.order

pub push_run-requires-clause-inside : goal.push_run-requires-clause-inside
push_run-requires-clause-inside g t c = c.run_end-to.ensures.inside

pub returns-then-height-eq0 : goal.returns-then-height-eq0
returns-then-height-eq0 g t c =
    let m = g.S.NodeStore.bucket_at c.args.store.now in
    let spec = c.args.spec.now in
    let low = c.args.bounds.now.low in
    let high = c.args.bounds.now.high in
    let b = c.in_ok-bucket.bucket in
    let from = c.run_start-from.result in
    let to = c.run_end-to.result in
    let old = c.args.out.now.items in
    on_ok_weaker c.push_run.result
    (λ (e : c.push_run.new.out.items ≡ old ++ map rec_of (take (to - from) (drop from (map item_of b.pairs)))). e ∙ ap (λ xs. old ++ xs) (sym (range_in_leaf spec low high m c.args.at c.args.height b from to c.if-height-eq0.true c.in_ok-bucket.ensures.bucket c.run_start-from.ensures c.run_end-to.ensures)))
    c.push_run.ensures

pub loop-place-init : goal.loop-place-init
loop-place-init g t c =
    let m = g.S.NodeStore.bucket_at c.args.store.now in
    let high : 0 < c.args.height = omega arith in
    record {
      begins = omega arith;
      grown = sym (ap (λ xs. c.args.out.now.items ++ xs) (range_starts c.args.spec.now c.args.bounds.now.low c.args.bounds.now.high m c.args.at c.args.height c.in_ok-bucket.bucket c.run_start-from.result c.requires high c.in_ok-bucket.ensures.bucket c.run_start-from.ensures)
          ∙ append-nil c.args.out.now.items);
    }

pub range_below-requires : goal.range_below-requires
range_below-requires g t c κs within =
    let m = g.S.NodeStore.bucket_at c.args.store.now in
    let b = c.in_ok-bucket.bucket in
    let e = c.in_ok-bucket.ensures.bucket in
    let i = c.loop-place.place in
    let high : 0 < c.args.height = omega arith in
    let le : i ≤ length b.pairs = omega (arith, c.loop-place-test.true, c.run_end-to.ensures.inside) in
    let inside : i ≤ length (node_of b).pairs = omega (arith, le, length-map b.pairs item_of) in
    (omega arith, (within, kid_there c.args.spec.now m c.args.at c.args.height i c.child.result (node_of b) c.requires high e inside (kid_found c.args.spec.now m c.args.at c.args.height b i c.child.result c.requires high e le c.child.ensures)))

pub loop-place-preserved : goal.loop-place-preserved
loop-place-preserved g t c =
    let m = g.S.NodeStore.bucket_at c.args.store.now in
    let spec = c.args.spec.now in
    let low = c.args.bounds.now.low in
    let high = c.args.bounds.now.high in
    let b = c.in_ok-bucket.bucket in
    let i = c.loop-place.place in
    let h = c.args.height - 1 in
    let k = c.loop-place.invariant in
    let kid = sym c.child.ensures in
    let rec = sym c.rec.ensures in
    let more = range_goes spec low high m h b c.run_start-from.result c.run_end-to.result i c.run_start-from.ensures c.run_end-to.ensures k.begins c.loop-place-test.true in
    record {
      begins = omega (arith, k.begins);
      grown = grown c.args.out.now.items c.loop-place.out.items c.range_below.new.out.items c.push.new.self.items (so_far spec low high m h b i) (between spec low high (listed m h c.child.result)) (c.rec.result ∷ []) (so_far spec low high m h b (i + 1))
          k.grown c.in_ok-range_below.ensures c.in_ok-push.ensures.items
          (more ∙ (λ j. so_far spec low high m h b i ++ (between spec low high (listed m h (kid j)) ++ rec j ∷ [])));
    }

pub range_below-requires-2 : goal.range_below-requires-2
range_below-requires-2 g t c κs within =
    let m = g.S.NodeStore.bucket_at c.args.store.now in
    let b = c.in_ok-bucket.bucket in
    let e = c.in_ok-bucket.ensures.bucket in
    let i = c.run_end-to.result in
    let high : 0 < c.args.height = omega arith in
    let le = c.run_end-to.ensures.inside in
    let inside : i ≤ length (node_of b).pairs = omega (arith, le, length-map b.pairs item_of) in
    (omega arith, (within, kid_there c.args.spec.now m c.args.at c.args.height i c.child-2.result (node_of b) c.requires high e inside (kid_found c.args.spec.now m c.args.at c.args.height b i c.child-2.result c.requires high e le c.child-2.ensures)))

pub returns : goal.returns
returns g t c =
    let m = g.S.NodeStore.bucket_at c.args.store.now in
    let spec = c.args.spec.now in
    let low = c.args.bounds.now.low in
    let high = c.args.bounds.now.high in
    let b = c.in_ok-bucket.bucket in
    let i = c.loop-place.place in
    let h = c.args.height - 1 in
    let old = c.args.out.now.items in
    let above : 0 < c.args.height = omega arith in
    let k = c.loop-place.invariant in
    let there : c.run_end-to.result ≡ i = omega (arith, c.loop-place-test.false, c.loop-place.auto.place-end) in
    let kid = sym c.child-2.ensures in
    let stops = range_stops spec low high m c.args.at c.args.height b c.run_start-from.result c.run_end-to.result c.requires above c.in_ok-bucket.ensures.bucket c.run_end-to.ensures in
    on_ok_weaker c.range_below-2.result
    (λ (e : c.range_below-2.new.out.items ≡ c.loop-place.out.items ++ between spec low high (listed m h c.child-2.result)). grown_once old c.loop-place.out.items c.range_below-2.new.out.items (so_far spec low high m h b i) (between spec low high (listed m h c.child-2.result)) (between spec low high (listed m c.args.height c.args.at))
    k.grown e (stops ∙ (λ j. so_far spec low high m h b (there j) ++ between spec low high (listed m h (kid j)))))
    c.range_below-2.ensures
