use Rattle.std.proofs.Common.{Some, IsSome, sym, ◌∙◌, ap, subst}
use Rattle.mm_btree.specs.Nodes.{node_of}
use Rattle.mm_trees.specs.Asked.{places_asked}
use Rattle.mm_trees.specs.Kept.{Kept, bucket_of}
use Rattle.mm_trees.proofs.Keeping.{is_whole, holds_at, seen_bucket}
use Rattle.mm_trees.proofs.store.StoreNodeStore.read.Goals as goal

pub bucket_at-requires : goal.bucket_at-requires
bucket_at-requires c =
    let k : Kept = record { draft = c.self.inside.draft; node = c.self.inside.node; broken = c.self.inside.broken; start = c.self.inside.start.value; asked = places_asked c.self.inside.asked } in
    holds_at k c.args.at c.self.invariant (subst (λ (x : Kept). IsSome (bucket_of x c.args.at)) (sym c.self.view_is) c.requires)

pub returns-clause-bucket : goal.returns-clause-bucket
returns-clause-bucket c =
    let k : Kept = record { draft = c.self.inside.draft; node = c.self.inside.node; broken = c.self.inside.broken; start = c.self.inside.start.value; asked = places_asked c.self.inside.asked } in
    let whole = is_whole k c.args.at (subst (λ (x : Kept). IsSome (bucket_of x c.args.at)) (sym c.self.view_is) c.requires) in
    ap (λ (x : Kept). bucket_of x c.args.at) (sym c.self.view_is) ∙ seen_bucket k c.args.at (Some (node_of c.bucket_at.result)) whole c.bucket_at.ensures.bucket
