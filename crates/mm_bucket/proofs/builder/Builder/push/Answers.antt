use Rattle.std.proofs.Common.{◌+◌, List, ◌++◌, ◌∷◌, [], ap, ◌∙◌, sym, subst}
use Rattle.mm_bucket.specs.Pairs.{Pair, Fits}
use Rattle.mm_bucket.specs.Layout.{pairs_in}
use Rattle.mm_bucket.proofs.Laying.{view_of, built_of, room_for}
use Rattle.mm_bucket.proofs.builder.Builder.push.Goals as goal

pub put_pair-self-inside-requires-clause-room : goal.put_pair-self-inside-requires-clause-room
put_pair-self-inside-requires-clause-room c =
    let b = c.self.inside in
    let p : Pair = record { left = c.args.left; rec = c.args.rec; key = c.args.key.now } in
    room_for b.bytes b.count b.begin (pairs_in b.bytes 40 b.count) p c.self.invariant (subst (λ (ps : List Pair). Fits (ps ++ p ∷ [])) (sym c.self.view_is) c.requires.fits)

pub invariant_of-self : goal.invariant_of-self
invariant_of-self c =
    let b = c.self.inside in
    built_of c.put_pair-self-inside.new.bytes (b.count + 1) c.put_pair-self-inside.result _ (c.put_pair-self-inside.ensures.pushed (pairs_in b.bytes 40 b.count) c.self.invariant)

pub returns : goal.returns
returns c =
    let b = c.self.inside in
    let p : Pair = record { left = c.args.left; rec = c.args.rec; key = c.args.key.now } in
    view_of c.put_pair-self-inside.new.bytes (b.count + 1) c.put_pair-self-inside.result _ (c.put_pair-self-inside.ensures.pushed (pairs_in b.bytes 40 b.count) c.self.invariant)
    ∙ ap (λ ps. ps ++ p ∷ []) c.self.view_is
