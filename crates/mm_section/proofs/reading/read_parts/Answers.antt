use Rattle.std.proofs.Common.{◌≡◌, ◌+◌, ℕ, List, length, drop, sym, ◌∙◌, ap, subst, arith, rules}
use Rattle.mm_ranges.specs.declared.part.Part.{Part}
use Rattle.mm_section.specs.Spells.{IsPart, are_rising}
use Rattle.mm_section.specs.Reading.{HasNoPart, ReadsPart}
use Rattle.mm_section.proofs.Found.{SoFar, so_far_none, so_far_more, no_more_parts, not_rising}
use Rattle.mm_section.proofs.reading.read_parts.Goals as goal

pub returns-in_default-clause-none : goal.returns-in_default-clause-none
returns-in_default-clause-none c =
    let at = c.loop-at.at in
    let bytes = c.args.bytes.now in
    let none : HasNoPart c.tail.result.now = search rules in
    no_more_parts c.loop-at.parts.items at bytes c.loop-at.invariant c.loop-at-test.true (subst HasNoPart c.tail.ensures none)

pub loop-at-preserved : goal.loop-at-preserved
loop-at-preserved c =
    let at = c.loop-at.at in
    let bytes = c.args.bytes.now in
    let parts = c.loop-at.parts.items in
    let part = c.in-Some.part in
    let len = c.in-Some.len in
    let read : IsPart part × ReadsPart part len c.tail.result.now = search rules in
    let there : ReadsPart part len (drop at bytes) = subst (λ (l : List ℕ). ReadsPart part len l) c.tail.ensures read.1 in
    subst (λ (l : List Part). SoFar l (at + len) bytes) (sym c.in_ok-push.ensures.items) (so_far_more parts at bytes part len c.loop-at.invariant c.loop-at-test.true read.0 there)

pub returns-else-names_rise-clause-none : goal.returns-else-names_rise-clause-none
returns-else-names_rise-clause-none c =
    not_rising c.loop-at.parts.items c.loop-at.at c.args.bytes.now c.loop-at.invariant (omega (arith, c.loop-at-test.false)) (ap are_rising (sym c.deref.ensures.value) ∙ sym c.names_rise.ensures ∙ c.if-names_rise.false)
