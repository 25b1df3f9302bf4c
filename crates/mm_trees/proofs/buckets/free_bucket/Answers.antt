use Rattle.std.proofs.Common.{None, refl}
use Rattle.mm_trees.proofs.Showing.{found}
use Rattle.mm_trees.proofs.Calls.{freed_change, step_of}
use Rattle.mm_trees.proofs.buckets.free_bucket.Goals as goal

pub free-requires : goal.free-requires
free-requires c =
    let r = c.requires in
    let f = found c.args.draft.now.image r.0 r.1.0 c.args.node c.args.at r.1.1.0 r.1.1.1 in
    (r.0, (r.1.0, (f.p, (f.room, f.has_record))))

pub returns-clause-step : goal.returns-clause-step
returns-clause-step c =
    let r = c.requires in
    let old = c.args.draft.now.image in
    let new = c.free.new.draft.image in
    let node = c.args.node in
    let e = c.in_ok-free.ensures in
    step_of old new node 0 c.args.at None r.0 r.1.0 r.1.1.0 (λ free s h.
    let f = found old free s node c.args.at h r.1.1.1 in
    let x = e.stands free s f.p f.room f.has_record in
    record { t = x.0; w = None; change = freed_change old free s node c.args.at h f new x.0 x.1.0 e.names e.constants x.1.1; node_is = refl })
