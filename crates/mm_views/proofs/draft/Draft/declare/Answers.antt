use Rattle.std.proofs.Common.{◌≡◌, ◌+◌, ◌≤◌, ◌∙◌, false, List, [], ◌∷◌, ◌++◌, ap, sym, subst, sum_by, arith}
use Rattle.std.specs.Prelude.{is_some, ◌||◌}
use Rattle.mm_ranges.specs.Places.{Range, inserted, is_covered, is_in, weight_of}
use Rattle.mm_ranges.specs.Overlay.{IsInside}
use Rattle.mm_ranges.specs.declared.part.Piece.{Piece}
use Rattle.mm_ranges.proofs.Order.{spaced_of_normal}
use Rattle.mm_ranges.proofs.Inserting.{covered-inserted}
use Rattle.mm_ranges.proofs.Weights.{weight-inserted}
use Rattle.mm_views.specs.State.{Drafting, weight_in}
use Rattle.mm_views.specs.Held.{drafting_at}
use Rattle.mm_views.proofs.Sound.{range_inside, covers_own}
use Rattle.mm_views.proofs.DraftLemmas.{held_declared}
use Rattle.mm_views.proofs.draft.Draft.declare.Goals as goal

pub invariant_of-self-2 : goal.invariant_of-self-2
invariant_of-self-2 c =
    let d = drafting_at c.self.inside.shared c.self.inside.image c.self.inside.saved.items c.self.inside.made.items c.self.inside.declared c.self.inside.before c.self.inside.opened c.self.inside.closed.items c.self.inside.prepared (is_some c.self.inside.reserved) in
    let inside : IsInside c.self.inside.image (c.args.file, c.args.at, c.args.len) = subst (λ (e : Drafting). IsInside e.image (c.args.file, c.args.at, c.args.len)) (sym c.self.view_is) c.requires.inside in
    (held_declared c.self.inside.shared c.self.inside.image c.self.inside.saved.items c.self.inside.made.items c.self.inside.declared c.self.inside.before c.self.inside.opened c.self.inside.closed.items c.self.inside.prepared (is_some c.self.inside.reserved) c.self.inside.reserved _ _ c.self.invariant
    (c.args.file, c.args.at, c.args.len) c.in_ok-saved.saved c.push_reserved.«new».self.items c.insert.«new».self c.in_ok-saved.ensures (c.push_reserved.ensures.items ∙ ap (λ (ps : List Piece). ps ++ c.in_ok-saved.saved ∷ []) c.reserve.ensures.items) c.in-Ok.ensures.ok
    (range_inside _ d (c.args.file, c.args.at, c.args.len) c.self.invariant.draft c.ranges.file.fits c.requires.some inside) inside).0

pub returns-clause-ok : goal.returns-clause-ok
returns-clause-ok c =
    let d = drafting_at c.self.inside.shared c.self.inside.image c.self.inside.saved.items c.self.inside.made.items c.self.inside.declared c.self.inside.before c.self.inside.opened c.self.inside.closed.items c.self.inside.prepared (is_some c.self.inside.reserved) in
    let inside : IsInside c.self.inside.image (c.args.file, c.args.at, c.args.len) = subst (λ (e : Drafting). IsInside e.image (c.args.file, c.args.at, c.args.len)) (sym c.self.view_is) c.requires.inside in
    (held_declared c.self.inside.shared c.self.inside.image c.self.inside.saved.items c.self.inside.made.items c.self.inside.declared c.self.inside.before c.self.inside.opened c.self.inside.closed.items c.self.inside.prepared (is_some c.self.inside.reserved) c.self.inside.reserved _ _ c.self.invariant
    (c.args.file, c.args.at, c.args.len) c.in_ok-saved.saved c.push_reserved.«new».self.items c.insert.«new».self c.in_ok-saved.ensures (c.push_reserved.ensures.items ∙ ap (λ (ps : List Piece). ps ++ c.in_ok-saved.saved ∷ []) c.reserve.ensures.items) c.in-Ok.ensures.ok
    (range_inside _ d (c.args.file, c.args.at, c.args.len) c.self.invariant.draft c.ranges.file.fits c.requires.some inside) inside).1
    ∙ ap (λ (e : Drafting). record e { declared = inserted (c.args.file, c.args.at, c.args.len) e.declared; is_reserved = false }) c.self.view_is

pub returns-clause-covers : goal.returns-clause-covers
returns-clause-covers c = λ i low high.
    ap (λ (rs : List Range). is_covered rs c.args.file i) c.in-Ok.ensures.ok
    ∙ covered-inserted (c.args.file, c.args.at, c.args.len) c.self.inside.declared c.args.file i (spaced_of_normal c.self.inside.declared c.self.invariant.draft.normal)
    ∙ covers_own c.self.inside.declared c.args.file c.args.at c.args.len i low high

pub returns-clause-covered : goal.returns-clause-covered
returns-clause-covered c = λ f p.
    ap (λ (rs : List Range). is_covered rs f p) c.in-Ok.ensures.ok
    ∙ covered-inserted (c.args.file, c.args.at, c.args.len) c.self.inside.declared f p (spaced_of_normal c.self.inside.declared c.self.invariant.draft.normal)
    ∙ ap (λ (d : Drafting). is_in f p (c.args.file, c.args.at, c.args.len) || is_covered d.declared f p) c.self.view_is

pub returns-clause-weight : goal.returns-clause-weight
returns-clause-weight c =
    let w = weight-inserted (c.args.file, c.args.at, c.args.len) c.self.inside.declared (spaced_of_normal c.self.inside.declared c.self.invariant.draft.normal) in
    let new : sum_by weight_of c.insert.«new».self ≡ sum_by weight_of (inserted (c.args.file, c.args.at, c.args.len) c.self.inside.declared) = ap (λ (rs : List Range). sum_by weight_of rs) c.in-Ok.ensures.ok in
    let old : weight_in c.self.inside.made.items c.self.inside.declared ≡ weight_in c.args.self.now.made c.args.self.now.declared = ap (λ (d : Drafting). weight_in d.made d.declared) c.self.view_is in
    omega (arith, w, new, old)
