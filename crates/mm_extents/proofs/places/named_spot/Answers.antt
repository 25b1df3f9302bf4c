use Rattle.std.proofs.Common.{◌∙◌, ℤ, pos, sym, subst}
use Rattle.std.specs.Prelude.{◌≤ℤ◌}
use Rattle.std.specs.Int.{w32}
use Rattle.std.proofs.lemmas.Int.{to_z-of_z}
use Rattle.mm_base.proofs.PlaceLaws.{file_fits, ofs_fits}
use Rattle.mm_extents.proofs.Spots.{is_place_of, is_none_of, ofs_nonneg, below_zero, from_zero}
use Rattle.mm_extents.proofs.places.named_spot.Goals as goal

pub returns-then-at-lt0-clause-none : goal.returns-then-at-lt0-clause-none
returns-then-at-lt0-clause-none c = λ o e l. is_none_of c.args.at o e l (below_zero c.args.at.file (file_fits c.args.at) c.if-at-lt0.true)

pub natural-requires : goal.natural-requires
natural-requires c = let P : ℤ → Type 0 = λ z. pos 0 ≤ℤ z in subst P (sym (to_z-of_z w32 c.args.at.file (file_fits c.args.at))) (from_zero c.args.at.file (file_fits c.args.at) c.if-at-lt0.false)

pub natural-requires-2 : goal.natural-requires-2
natural-requires-2 c = let P : ℤ → Type 0 = λ z. pos 0 ≤ℤ z in
    subst P (sym (to_z-of_z w32 c.args.at.ofs (ofs_fits c.args.at))) (ofs_nonneg c.args.at c.requires.0 c.requires.1.0 c.requires.1.1 (from_zero c.args.at.file (file_fits c.args.at) c.if-at-lt0.false))

pub returns-clause-some : goal.returns-clause-some
returns-clause-some c = λ o e l. is_place_of c.args.at o c.natural.result c.natural-2.result e l (sym (to_z-of_z w32 c.args.at.file (file_fits c.args.at)) ∙ c.natural.ensures) (sym (to_z-of_z w32 c.args.at.ofs (ofs_fits c.args.at)) ∙ c.natural-2.ensures)
