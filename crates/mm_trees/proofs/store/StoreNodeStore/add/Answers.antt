use Rattle.std.proofs.Common.{true, Some, None, Err, sym, ◌∙◌, ap}
use Rattle.mm_btree.specs.Nodes.{put, node_of}
use Rattle.mm_trees.specs.Asked.{places_asked}
use Rattle.mm_trees.specs.Kept.{Kept, bucket_of}
use Rattle.mm_trees.proofs.Keeping.{holds_now, seen_bucket, kept_on, step_seen, full_on}
use Rattle.mm_trees.proofs.store.StoreNodeStore.add.Goals as goal

pub add_bucket-requires-clause-holds : goal.add_bucket-requires-clause-holds
add_bucket-requires-clause-holds c =
    let k : Kept = record { draft = c.self.inside.draft; node = c.self.inside.node; broken = c.self.inside.broken; start = c.self.inside.start.value; asked = places_asked c.self.inside.asked } in
    holds_now k c.self.invariant c.if-self.false

pub invariant_of-self-in-Ok : goal.invariant_of-self-in-Ok
invariant_of-self-in-Ok c =
    let k : Kept = record { draft = c.self.inside.draft; node = c.self.inside.node; broken = c.self.inside.broken; start = c.self.inside.start.value; asked = places_asked c.self.inside.asked } in
    kept_on k c.add_bucket.new.draft 1 (places_asked c.and_one.result) _ c.and_one.ensures c.self.invariant c.if-self.false c.in-Ok.ensures.step

pub returns-in-Ok-clause-free : goal.returns-in-Ok-clause-free
returns-in-Ok-clause-free c =
    let k : Kept = record { draft = c.self.inside.draft; node = c.self.inside.node; broken = c.self.inside.broken; start = c.self.inside.start.value; asked = places_asked c.self.inside.asked } in
    ap (λ (x : Kept). bucket_of x c.in-Ok.at) (sym c.self.view_is) ∙ seen_bucket k c.in-Ok.at None c.if-self.false c.in-Ok.ensures.free

pub returns-in-Ok-clause-same : goal.returns-in-Ok-clause-same
returns-in-Ok-clause-same c =
    let k : Kept = record { draft = c.self.inside.draft; node = c.self.inside.node; broken = c.self.inside.broken; start = c.self.inside.start.value; asked = places_asked c.self.inside.asked } in
    λ q. step_seen k c.add_bucket.new.draft 1 (places_asked c.and_one.result) c.in-Ok.at (Some (node_of c.args.bucket.now)) c.if-self.false c.in-Ok.ensures.step q
    ∙ ap (λ (x : Kept). put (bucket_of x) c.in-Ok.at (Some (node_of c.args.bucket.now)) q) c.self.view_is

pub returns-in-Err-NoSpace-clause-full : goal.returns-in-Err-NoSpace-clause-full
returns-in-Err-NoSpace-clause-full c = λ _.
    let k : Kept = record { draft = c.self.inside.draft; node = c.self.inside.node; broken = c.self.inside.broken; start = c.self.inside.start.value; asked = places_asked c.self.inside.asked } in
    full_on k c.add_bucket.new.draft true (places_asked c.and_one.result) c.and_one.ensures c.self.invariant c.if-self.false
    (c.in-Err-NoSpace.ensures.full (ap Err c.in-Err-NoSpace.field-0-is)) (c.in-Err-NoSpace.ensures.scarce (ap Err c.in-Err-NoSpace.field-0-is))
