use Rattle.std.proofs.Common.{◌≡◌, Bool, false, List, sym, ap, ◌∙◌}
use Rattle.std.specs.Prelude.{◌&&◌}
use Rattle.std.specs.List.{list_all}
use Rattle.mm_ranges.specs.Places.{is_normal}
use Rattle.mm_ranges.specs.Limits.{is_allowed}
use Rattle.mm_ranges.specs.Overlay.{ranges_of}
use Rattle.mm_ranges.specs.declared.part.Piece.{Piece}
use Rattle.mm_section.specs.Reading.{range_of}
use Rattle.mm_section.proofs.Limits.{pieces_turn}
use Rattle.mm_section.proofs.order.are_pieces.Goals as goal

abbrev test : List Piece → Bool
test ps = is_normal (ranges_of ps) && list_all is_allowed (ranges_of ps)

pub returns-then-not-may_come : goal.returns-then-not-may_come
returns-then-not-may_come c =
    let rest = ranges_of c.in-Some.others.now in
    let step : test c.loop-first.rest.now ≡ false =
    ap test c.in-Some.ensures.cases.0 ∙ pieces_turn (range_of c.in-Some.first.now) rest
    ∙ ap (λ b. b && (is_normal rest && list_all is_allowed rest)) (sym c.may_come.ensures ∙ c.if-not-may_come.true) in
    sym step ∙ c.loop-first.invariant

pub loop-first-preserved : goal.loop-first-preserved
loop-first-preserved c =
    let rest = ranges_of c.in-Some.others.now in
    let step : test c.loop-first.rest.now ≡ test c.in-Some.others.now =
    ap test c.in-Some.ensures.cases.0 ∙ pieces_turn (range_of c.in-Some.first.now) rest
    ∙ ap (λ b. b && (is_normal rest && list_all is_allowed rest)) (sym c.may_come.ensures ∙ c.if-not-may_come.false) in
    sym step ∙ c.loop-first.invariant
