use Rattle.std.proofs.Common.{Some, arith}
use Rattle.mm_base.specs.Bytes.{overwritten}
use Rattle.mm_btree.specs.Nodes.{node_of}
use Rattle.mm_trees.proofs.Showing.{found}
use Rattle.mm_trees.proofs.Calls.{fits, whole_spelled, new_node, written_change, step_of}
use Rattle.mm_trees.proofs.buckets.write_bucket.Goals as goal

pub write_inside-requires : goal.write_inside-requires
write_inside-requires c =
    let r = c.requires.there in
    let image = c.args.draft.now.image in
    let f = found image r.0 r.1.0 c.args.node c.args.at r.1.1.0 r.1.1.1 in
    let sp = c.bytes.ensures in
    let l = sp.laid.whole in
    let le = fits image r.0 r.1.0 c.args.node c.args.at r.1.1.0 f c.bytes.result.now c.args.bucket.now 0 (omega (arith, l)) (whole_spelled image r.0 r.1.0 c.args.node c.args.at r.1.1.0 f c.bytes.result.now c.args.bucket.now sp) c.requires.alike in
    (r.0, (r.1.0, (f.p, (f.room, (f.has_record, le)))))

pub returns-clause-step : goal.returns-clause-step
returns-clause-step c =
    let r = c.requires.there in
    let old = c.args.draft.now.image in
    let node = c.args.node in
    let b = c.args.bucket.now in
    let bytes = c.bytes.result.now in
    let sp = c.bytes.ensures in
    let l = sp.laid.whole in
    let e = c.in_ok-write_inside.ensures in
    step_of old c.write_inside.new.draft.image node 0 c.args.at (Some (node_of b)) r.0 r.1.0 r.1.1.0 (λ free s h.
    let f = found old free s node c.args.at h r.1.1.1 in
    let whole = whole_spelled old free s node c.args.at h f bytes b sp in
    let le = fits old free s node c.args.at h f bytes b 0 (omega (arith, l)) whole c.requires.alike in
    let x = e.stands free s f.p f.room f.has_record le in
    record {
      t = x.0;
      w = Some (overwritten 0 bytes f.room);
      change = written_change old free s node c.args.at h f bytes b 0 (omega (arith, l)) whole c.requires.alike c.write_inside.new.draft.image x.0 e.ns x.1.0 x.1.1;
      node_is = new_node old free s node c.args.at h f bytes b 0 (omega (arith, l)) whole c.requires.alike;
    })
