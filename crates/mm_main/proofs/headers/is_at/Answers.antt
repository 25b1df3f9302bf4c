use Rattle.std.proofs.Common.{ap, refl, eq-eqb, ◌∙◌, arith}
use Rattle.std.proofs.lemmas.Bool.{eqb-true}
use Rattle.mm_base.proofs.PlaceLaws.{file_fits, ofs_fits}
use Rattle.mm_base.specs.declared.place.DiskLoc.{DiskLoc}
use Rattle.mm_main.proofs.FrameSteps.{place_is_at}
use Rattle.mm_main.proofs.HeaderSteps.{at_numbers, number_of_bits, bits_of_number}
use Rattle.mm_main.proofs.headers.is_at.Goals as goal

pub returns-then-place-eq0 : goal.returns-then-place-eq0
returns-then-place-eq0 c = (
  λ same. place_is_at c.args.place c.args.ofs _ (number_of_bits _ 0 (file_fits c.args.place) (omega arith) c.if-place-eq0.true) refl (number_of_bits _ c.args.ofs (ofs_fits c.args.place) c.requires (eqb-true _ _ same)),
  λ is. eq-eqb _ _ (bits_of_number c.args.place.ofs c.args.ofs c.requires (ap (λ (p : DiskLoc). p.ofs) is ∙ (at_numbers c.args.ofs c.requires).1)),
)

pub returns-else-place-eq0 : goal.returns-else-place-eq0
returns-else-place-eq0 c = (
  λ same. absurd (c.if-place-eq0.false (eqb-true _ _ same)),
  λ is. absurd (c.if-place-eq0.false (bits_of_number c.args.place.file 0 (omega arith) (ap (λ (p : DiskLoc). p.file) is ∙ (at_numbers c.args.ofs c.requires).0))),
)
