use Rattle.std.proofs.lemmas.Result.{on_ok_weaker}
use Rattle.mm_recover.proofs.LayAsks.{some_two, made_two, two_cut}
use Rattle.mm_recover.proofs.laying.lay_part.Goals as goal

pub returns-in_err-lay_made-clause-cut : goal.returns-in_err-lay_made-clause-cut
returns-in_err-lay_made-clause-cut g c = two_cut c.args.part.now c.as_slice-name.result.now c.as_slice.result.now _ _ c.as_slice-name.ensures c.as_slice.ensures c.lay_made.ensures.cut

pub returns-clause-made : goal.returns-clause-made
returns-clause-made g c = on_ok_weaker c.lay_pieces.result (made_two c.args.part.now c.as_slice-name.result.now c.as_slice.result.now c.as_slice-2.result.now _ _ _ c.as_slice-name.ensures c.as_slice.ensures c.as_slice-2.ensures c.in_ok-lay_made.ensures.made) c.lay_pieces.ensures.made

pub returns-clause-cut : goal.returns-clause-cut
returns-clause-cut g c = some_two c.args.part.now c.as_slice-name.result.now c.as_slice.result.now c.as_slice-2.result.now _ _ _ c.as_slice-name.ensures c.as_slice.ensures c.as_slice-2.ensures c.in_ok-lay_made.ensures.made c.lay_pieces.ensures.cut
