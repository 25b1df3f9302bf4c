use Rattle.std.proofs.Common.{[], inl, refl, sym, ap, ◌∙◌, subst}
use Rattle.mm_base.specs.Places.{null}
use Rattle.mm_base.specs.declared.place.DiskLoc.{DiskLoc}
use Rattle.mm_base.proofs.PlaceLaws.{place_same}
use Rattle.mm_bucket.specs.Pairs.{Contents}
use Rattle.mm_bucket.specs.Rules.{children, AreAlike}
use Rattle.mm_btree.proofs.RootCalls.{made}
use Rattle.mm_btree.proofs.making.make.Goals as goal

pub add-requires : goal.add-requires
add-requires g c = subst (λ (b : Contents). AreAlike (children b)) (sym c.new.ensures) (inl (refl, tt))

pub returns-clause-made : goal.returns-clause-made
returns-clause-made g c =
    let node = g.S.NodeStore.bucket_at in
    let empty = c.new.ensures ∙ ap (λ (p : DiskLoc). record { parent = p; pairs = []; next = null }) (place_same _ null refl refl) in
    made (node c.args.store.now) (node c.add.new.self) c.in_ok-root.root c.new.result empty c.in_ok-root.ensures.free c.in_ok-root.ensures.same
