use Rattle.std.proofs.Common.{◌∙◌, [], ap, refl}
use Rattle.mm_base.specs.Places.{null}
use Rattle.mm_base.specs.declared.place.DiskLoc.{DiskLoc}
use Rattle.mm_base.proofs.PlaceLaws.{place_same}
use Rattle.mm_btree.proofs.RootCalls.{over_is, over_node, over_alike, over_fits}
use Rattle.mm_btree.proofs.adding.over.Goals as goal

pub insert_at-requires-clause-fits : goal.insert_at-requires-clause-fits
insert_at-requires-clause-fits c = over_fits c.new-bucket.result c.set_next.new.self c.right.result _ (c.new-bucket.ensures ∙ ap (λ (p : DiskLoc). record { parent = p; pairs = []; next = null }) (place_same _ null refl refl)) c.set_next.ensures c.key.ensures.key.short

pub returns-clause-node : goal.returns-clause-node
returns-clause-node c =
    let u = c.args.up.now in
    let is = over_is c.new-bucket.result c.set_next.new.self c.insert_at.new.self c.args.left c.right.result c.rec.result c.key.result.now u (c.new-bucket.ensures ∙ ap (λ (p : DiskLoc). record { parent = p; pairs = []; next = null }) (place_same _ null refl refl)) c.set_next.ensures c.insert_at.ensures c.key.ensures.is c.rec.ensures c.right.ensures.is in
    over_node c.insert_at.new.self c.args.left u is (λ e. c.right.ensures.place (c.right.ensures.is ∙ e))

pub returns-clause-alike : goal.returns-clause-alike
returns-clause-alike c =
    let u = c.args.up.now in
    let is = over_is c.new-bucket.result c.set_next.new.self c.insert_at.new.self c.args.left c.right.result c.rec.result c.key.result.now u (c.new-bucket.ensures ∙ ap (λ (p : DiskLoc). record { parent = p; pairs = []; next = null }) (place_same _ null refl refl)) c.set_next.ensures c.insert_at.ensures c.key.ensures.is c.rec.ensures c.right.ensures.is in
    over_alike c.insert_at.new.self c.args.left u is c.requires (λ e. c.right.ensures.place (c.right.ensures.is ∙ e))
