use Rattle.std.proofs.Common.{None, IsSome, sym, ◌∙◌, ap, subst}
use Rattle.mm_btree.specs.Nodes.{put}
use Rattle.mm_trees.specs.Asked.{places_asked}
use Rattle.mm_trees.specs.Kept.{Kept, bucket_of}
use Rattle.mm_trees.proofs.Keeping.{is_whole, holds_at, kept_same, step_seen}
use Rattle.mm_trees.proofs.store.StoreNodeStore.free.Goals as goal

pub free_bucket-requires : goal.free_bucket-requires
free_bucket-requires c =
    let k : Kept = record { draft = c.self.inside.draft; node = c.self.inside.node; broken = c.self.inside.broken; start = c.self.inside.start.value; asked = places_asked c.self.inside.asked } in
    holds_at k c.args.at c.self.invariant (subst (λ (x : Kept). IsSome (bucket_of x c.args.at)) (sym c.self.view_is) c.requires)

pub invariant_of-self-2 : goal.invariant_of-self-2
invariant_of-self-2 c =
    let k : Kept = record { draft = c.self.inside.draft; node = c.self.inside.node; broken = c.self.inside.broken; start = c.self.inside.start.value; asked = places_asked c.self.inside.asked } in
    let whole = is_whole k c.args.at (subst (λ (x : Kept). IsSome (bucket_of x c.args.at)) (sym c.self.view_is) c.requires) in
    kept_same k c.free_bucket.new.draft _ c.self.invariant whole c.in_ok-free_bucket.ensures.step

pub returns-clause-same : goal.returns-clause-same
returns-clause-same c =
    let k : Kept = record { draft = c.self.inside.draft; node = c.self.inside.node; broken = c.self.inside.broken; start = c.self.inside.start.value; asked = places_asked c.self.inside.asked } in
    let whole = is_whole k c.args.at (subst (λ (x : Kept). IsSome (bucket_of x c.args.at)) (sym c.self.view_is) c.requires) in
    λ q. step_seen k c.free_bucket.new.draft 0 k.asked c.args.at (None) whole c.in_ok-free_bucket.ensures.step q
    ∙ ap (λ (x : Kept). put (bucket_of x) c.args.at (None) q) c.self.view_is
