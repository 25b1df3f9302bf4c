use Rattle.mm_held.proofs.Loading.{none_loaded, some_loaded, no_file, begun_loaded}
use Rattle.mm_held.proofs.begun.begun.Goals as goal

pub set_up-requires-clause-none : goal.set_up-requires-clause-none
set_up-requires-clause-none g c =
    no_file c.args.views.private c.requires.limits (none_loaded c.args.part.now c.args.views.private c.as_slice.result.now c.is_empty.result c.requires.part c.as_slice.ensures c.is_empty.ensures c.if-is_empty.true)

pub returns : goal.returns
returns g c =
    begun_loaded (g.E.Engine.means c.args.engine.now) c.args.views c.requires.stands c.requires.covered c.requires.made c.requires.opened c.requires.closed
    (some_loaded c.args.part.now c.args.views.private c.as_slice.result.now c.is_empty.result c.requires.part c.as_slice.ensures c.is_empty.ensures c.if-is_empty.false)
