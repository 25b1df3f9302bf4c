use Rattle.std.proofs.Common.{Some, IsSome, sym, ◌∙◌, ap, subst}
use Rattle.mm_btree.specs.Nodes.{put, node_of}
use Rattle.mm_trees.specs.Asked.{places_asked}
use Rattle.mm_trees.specs.Kept.{Kept, bucket_of}
use Rattle.mm_trees.proofs.Keeping.{is_whole, holds_at, kept_same, step_seen}
use Rattle.mm_trees.proofs.store.StoreNodeStore.write.Goals as goal

pub write_bucket-requires-clause-there : goal.write_bucket-requires-clause-there
write_bucket-requires-clause-there c =
    let k : Kept = record { draft = c.self.inside.draft; node = c.self.inside.node; broken = c.self.inside.broken; start = c.self.inside.start.value; asked = places_asked c.self.inside.asked } in
    holds_at k c.args.at c.self.invariant (subst (λ (x : Kept). IsSome (bucket_of x c.args.at)) (sym c.self.view_is) c.requires.there)

pub invariant_of-self-2 : goal.invariant_of-self-2
invariant_of-self-2 c =
    let k : Kept = record { draft = c.self.inside.draft; node = c.self.inside.node; broken = c.self.inside.broken; start = c.self.inside.start.value; asked = places_asked c.self.inside.asked } in
    let whole = is_whole k c.args.at (subst (λ (x : Kept). IsSome (bucket_of x c.args.at)) (sym c.self.view_is) c.requires.there) in
    kept_same k c.write_bucket.new.draft _ c.self.invariant whole c.in_ok-write_bucket.ensures.step

pub returns-clause-same : goal.returns-clause-same
returns-clause-same c =
    let k : Kept = record { draft = c.self.inside.draft; node = c.self.inside.node; broken = c.self.inside.broken; start = c.self.inside.start.value; asked = places_asked c.self.inside.asked } in
    let whole = is_whole k c.args.at (subst (λ (x : Kept). IsSome (bucket_of x c.args.at)) (sym c.self.view_is) c.requires.there) in
    λ q. step_seen k c.write_bucket.new.draft 0 k.asked c.args.at (Some (node_of c.args.bucket.now)) whole c.in_ok-write_bucket.ensures.step q
    ∙ ap (λ (x : Kept). put (bucket_of x) c.args.at (Some (node_of c.args.bucket.now)) q) c.self.view_is
