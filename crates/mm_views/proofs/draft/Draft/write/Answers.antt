use Rattle.std.proofs.Common.{◌≡◌, ◌∙◌, ◌+◌, ◌<◌, Bool, false, ℕ, length, ap, sym, subst, arith}
use Rattle.std.specs.Prelude.{is_some, ◌==◌}
use Rattle.std.proofs.lemmas.Bool.Decides.{nat_tests}
use Rattle.mm_ranges.specs.Places.{Covers}
use Rattle.mm_ranges.specs.Overlay.{laid}
use Rattle.mm_views.specs.State.{Drafting}
use Rattle.mm_views.proofs.Lengths.{some_file}
use Rattle.mm_views.proofs.Sound.{covers_inside}
use Rattle.mm_views.proofs.DraftLemmas.{held_written}
use Rattle.mm_views.proofs.draft.Draft.write.Goals as goal

not_empty : (b : Bool) (n : ℕ) → b ≡ false → b ≡ (n == 0) → 0 < n
not_empty b n e f = grind (arith, nat_tests)

pub lay-requires : goal.lay-requires
lay-requires c =
    let inside = covers_inside c.self.inside.image c.self.inside.declared c.args.file c.args.at (length c.args.bytes.now) c.self.invariant.draft.inside (not_empty c.is_empty.result (length c.args.bytes.now) c.if-is_empty.false c.is_empty.ensures)
    (subst (λ (d : Drafting). Covers d.declared c.args.file c.args.at (length c.args.bytes.now)) (sym c.self.view_is) c.requires) in
    let some = not_empty c.is_empty.result (length c.args.bytes.now) c.if-is_empty.false c.is_empty.ensures in
    record {
      there = some_file c.self.inside.image c.args.file (c.args.at + length c.args.bytes.now) (omega (arith, some)) inside;
      inside = inside;
    }

pub invariant_of-self : goal.invariant_of-self
invariant_of-self c =
    (held_written c.self.inside.shared c.self.inside.image c.self.inside.saved.items c.self.inside.made.items c.self.inside.declared c.self.inside.before c.self.inside.opened c.self.inside.closed.items c.self.inside.prepared (is_some c.self.inside.reserved) c.self.inside.reserved _ _ c.self.invariant
    c.lay.«new».self c.args.file c.args.at c.args.bytes.now c.lay.ensures (not_empty c.is_empty.result (length c.args.bytes.now) c.if-is_empty.false c.is_empty.ensures) (subst (λ (d : Drafting). Covers d.declared c.args.file c.args.at (length c.args.bytes.now)) (sym c.self.view_is) c.requires)).0

pub returns-clause-written : goal.returns-clause-written
returns-clause-written c = λ _.
    (held_written c.self.inside.shared c.self.inside.image c.self.inside.saved.items c.self.inside.made.items c.self.inside.declared c.self.inside.before c.self.inside.opened c.self.inside.closed.items c.self.inside.prepared (is_some c.self.inside.reserved) c.self.inside.reserved _ _ c.self.invariant
    c.lay.«new».self c.args.file c.args.at c.args.bytes.now c.lay.ensures (not_empty c.is_empty.result (length c.args.bytes.now) c.if-is_empty.false c.is_empty.ensures) (subst (λ (d : Drafting). Covers d.declared c.args.file c.args.at (length c.args.bytes.now)) (sym c.self.view_is) c.requires)).1
    ∙ ap (λ (d : Drafting). record d { image = laid c.args.file c.args.at c.args.bytes.now d.image; is_reserved = false }) c.self.view_is
