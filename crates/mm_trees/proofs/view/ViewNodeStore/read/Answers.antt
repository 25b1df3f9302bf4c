use Rattle.std.proofs.Common.{ℕ, IsSome, sym, ◌∙◌, ap, subst}
use Rattle.mm_views.specs.State.{Drafting}
use Rattle.mm_trees.specs.Buckets.{bucket_in}
use Rattle.mm_trees.proofs.view.ViewNodeStore.read.Goals as goal

pub bucket_at-requires : goal.bucket_at-requires
bucket_at-requires c =
    let h = c.self.invariant in
    (h.0, (h.1.0, (h.1.1, subst (λ (v : Drafting × (ℕ × ℕ)). IsSome (bucket_in v.0.image v.1.0 c.args.at)) (sym c.self.view_is) c.requires)))

pub returns-clause-bucket : goal.returns-clause-bucket
returns-clause-bucket c = ap (λ (v : Drafting × (ℕ × ℕ)). bucket_in v.0.image v.1.0 c.args.at) (sym c.self.view_is) ∙ c.bucket_at.ensures.bucket
