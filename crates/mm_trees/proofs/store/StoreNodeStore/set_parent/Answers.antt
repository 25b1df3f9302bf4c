use Rattle.std.proofs.Common.{Option, IsSome, refl, sym, ◌∙◌, ap, subst}
use Rattle.mm_btree.specs.Nodes.{Node, put, with_parent}
use Rattle.mm_trees.specs.Buckets.{bucket_in}
use Rattle.mm_trees.specs.Asked.{places_asked}
use Rattle.mm_trees.specs.Kept.{Kept, bucket_of}
use Rattle.mm_trees.proofs.Keeping.{is_whole, holds_at, seen_bucket, kept_same, step_seen}
use Rattle.mm_trees.proofs.store.StoreNodeStore.set_parent.Goals as goal

pub write_parent-requires : goal.write_parent-requires
write_parent-requires c =
    let k : Kept = record { draft = c.self.inside.draft; node = c.self.inside.node; broken = c.self.inside.broken; start = c.self.inside.start.value; asked = places_asked c.self.inside.asked } in
    holds_at k c.args.at c.self.invariant (subst (λ (x : Kept). IsSome (bucket_of x c.args.at)) (sym c.self.view_is) c.requires)

pub invariant_of-self-2 : goal.invariant_of-self-2
invariant_of-self-2 c =
    let k : Kept = record { draft = c.self.inside.draft; node = c.self.inside.node; broken = c.self.inside.broken; start = c.self.inside.start.value; asked = places_asked c.self.inside.asked } in
    let whole = is_whole k c.args.at (subst (λ (x : Kept). IsSome (bucket_of x c.args.at)) (sym c.self.view_is) c.requires) in
    kept_same k c.write_parent.new.draft _ c.self.invariant whole c.in_ok-write_parent.ensures.step

pub returns-clause-same : goal.returns-clause-same
returns-clause-same c =
    let k : Kept = record { draft = c.self.inside.draft; node = c.self.inside.node; broken = c.self.inside.broken; start = c.self.inside.start.value; asked = places_asked c.self.inside.asked } in
    let whole = is_whole k c.args.at (subst (λ (x : Kept). IsSome (bucket_of x c.args.at)) (sym c.self.view_is) c.requires) in
    let seen = seen_bucket k c.args.at (bucket_in k.draft.image k.node c.args.at) whole refl in
    λ q. step_seen k c.write_parent.new.draft 0 k.asked c.args.at (with_parent c.args.up (bucket_in k.draft.image k.node c.args.at)) whole c.in_ok-write_parent.ensures.step q
    ∙ ap (λ (z : Option Node). put (bucket_of k) c.args.at (with_parent c.args.up z) q) (sym seen)
    ∙ ap (λ (x : Kept). put (bucket_of x) c.args.at (with_parent c.args.up (bucket_of x c.args.at)) q) c.self.view_is
