use Rattle.mm_base.proofs.Spelled.{AreBytes, bytes_of_part}
use Rattle.mm_frames.proofs.ExactHeader.{exact_if, exact_only}
use Rattle.mm_frames.proofs.file_header.is_file_header.Goals as goal

pub returns-then-spells_place : goal.returns-then-spells_place
returns-then-spells_place c =
    let is = c.frame-frame.ensures.is in
    let len = c.frame-frame.ensures.len in
    let are : AreBytes c.frame-frame.result.now = rw is (bytes_of_part c.args.at 8192 c.args.bytes.now (λ i. (c.type_inv.bytes i).fits)) in
    rw (← is) (
      λ zeros. exact_if c.frame-frame.result.now len are (c.spells_place.ensures.0 c.if-spells_place.true) (c.is_zero.ensures.0 zeros),
      λ exact. c.is_zero.ensures.1 (exact_only c.frame-frame.result.now len are exact).1,
    )

pub returns-else-spells_place : goal.returns-else-spells_place
returns-else-spells_place c =
    let is = c.frame-frame.ensures.is in
    let len = c.frame-frame.ensures.len in
    let are : AreBytes c.frame-frame.result.now = rw is (bytes_of_part c.args.at 8192 c.args.bytes.now (λ i. (c.type_inv.bytes i).fits)) in
    rw (← is) (
      λ never. absurd cc,
      λ exact. let spells = c.spells_place.ensures.1 (exact_only c.frame-frame.result.now len are exact).0 in let not = c.if-spells_place.false in cc,
    )
