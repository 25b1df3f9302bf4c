use Rattle.std.proofs.Common.{◌≡◌, ◌+◌, ◌++◌, ◌∷◌, [], ◌<◌, length, sym, ◌∙◌, ap, subst, arith}
use Rattle.std.proofs.lemmas.List.{length_push}
use Rattle.mm_ranges.specs.Overlay.{ranges_of, over_all}
use Rattle.mm_ranges.specs.Limits.{IsAllowed}
use Rattle.mm_ranges.specs.declared.part.Closed.{Closed}
use Rattle.mm_ranges.specs.declared.part.Part.{Part}
use Rattle.mm_views.specs.State.{PartFits}
use Rattle.mm_tie.specs.Ends.{given}
use Rattle.mm_tie.specs.Items.{image_of, Follows}
use Rattle.mm_held.specs.Images.{Imaged, IsImaged, imaged}
use Rattle.mm_held.proofs.Imaging.{closed_imaged, closed_whole, item_follows, giver_anew}
use Rattle.mm_held.proofs.images.Images.close.Goals as goal

module _ (c : goal.After-hand_over) where
  abbrev v : Imaged
  v = imaged c.self.inside.views c.self.inside.first c.self.inside.applied c.self.inside.giver

  abbrev x : Closed
  x = c.hand_over.result

  section : x.section ≡ v.first + length v.given
  section = ap (λ (i : Closed). i.section) c.hand_over.ensures.item ∙ c.self.invariant.1

  part : x.part ≡ c.close-part.result
  part = ap (λ (i : Closed). i.part) c.hand_over.ensures.item

  grown : given c.hand_over.new.giver ≡ given c.self.inside.giver ++ x ∷ []
  grown = c.hand_over.ensures.given ∙ ap (λ i. given c.self.inside.giver ++ i ∷ []) (sym c.hand_over.ensures.item)

  room : length v.given < v.most
  room = subst (λ (w : Imaged). length w.given < w.most) (sym c.self.view_is) c.requires.room

  imaged_then : IsImaged (imaged c.close-part.new.self c.self.inside.first c.self.inside.applied c.hand_over.new.giver)
  imaged_then = subst IsImaged (giver_anew c.close-part.new.self c.self.inside.first c.self.inside.applied c.self.inside.giver c.hand_over.new.giver x grown c.hand_over.ensures.giver.0 c.hand_over.ensures.giver.1)
      (closed_imaged v x c.self.invariant.0 section (part ∙ c.close-part.ensures.part) c.close-part.new.self c.close-part.ensures.closed room c.close-part.ensures.coverage)

pub invariant_of-self : goal.invariant_of-self
invariant_of-self c =
    let longer = ap length (grown c) ∙ length_push (given c.self.inside.giver) (x c) in
    (imaged_then c, omega (arith, longer, c.self.invariant.1), omega (arith, c.hand_over.ensures.giver.1, c.self.invariant.2))

pub returns-clause-imaged : goal.returns-clause-imaged
returns-clause-imaged c = imaged_then c

pub returns-clause-follows : goal.returns-clause-follows
returns-clause-follows c =
    subst (λ (w : Imaged). Follows w.given (x c)) c.self.view_is
    (item_follows (v c) (x c) c.self.invariant.0 (section c) (part c ∙ c.close-part.ensures.part) (subst IsAllowed (sym (part c)) c.close-part.ensures.allowed)
    (ap (λ (p : Part). ranges_of p.pieces) (part c) ∙ c.close-part.ensures.ranges) (subst (PartFits (over_all (v c).views.closed (v c).views.shared)) (sym (part c)) c.close-part.ensures.fits))

pub returns-clause-whole : goal.returns-clause-whole
returns-clause-whole c =
    ap image_of (grown c) ∙ closed_whole (v c) (x c) c.self.invariant.0 (section c) (part c ∙ c.close-part.ensures.part) c.close-part.new.self c.close-part.ensures.closed c.close-part.ensures.whole
