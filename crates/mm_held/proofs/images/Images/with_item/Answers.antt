use Rattle.std.proofs.Common.{◌≡◌, ◌++◌, ◌∷◌, [], List, length, ◌∙◌, ap, arith}
use Rattle.mm_ranges.specs.declared.part.Closed.{Closed}
use Rattle.mm_tie.specs.Ends.{given}
use Rattle.mm_held.specs.Images.{IsImaged, imaged, item}
use Rattle.mm_held.proofs.Imaging.{first_imaged}
use Rattle.mm_held.proofs.images.Images.with_item.Goals as goal

module _ (c : goal.After-drop-hand_over-3) where
  only : given c.hand_over.new.giver ≡ item c.args.first c.args.part 0 ∷ []
  only = c.hand_over.ensures.given ∙ ap (λ (items : List Closed). items ++ item c.args.first c.args.part 0 ∷ []) c.in_ok-giver.ensures.empty.0

  imaged_then : IsImaged (imaged c.args.views c.args.first c.args.first c.hand_over.new.giver)
  imaged_then = first_imaged c.args.views c.args.first c.args.part c.hand_over.new.giver only (omega (arith, c.hand_over.ensures.giver.1, c.in_ok-giver.ensures.room.0, c.requires.most))
      c.requires.whole c.requires.covered c.requires.closed c.requires.light

pub invariant_of-images : goal.invariant_of-images
invariant_of-images c =
    let one = ap length (only c) in
    (imaged_then c, omega (arith, one), omega (arith, c.hand_over.ensures.giver.1, c.in_ok-giver.ensures.room.0, c.requires.bound))

pub returns-clause-imaged : goal.returns-clause-imaged
returns-clause-imaged c = imaged_then c
