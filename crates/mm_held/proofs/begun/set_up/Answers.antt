use Rattle.mm_held.proofs.Loading.{begun_new}
use Rattle.mm_held.proofs.begun.set_up.Goals as goal

pub returns : goal.returns
returns g c =
    begun_new (g.E.Engine.means c.args.engine.now) c.args.views c.adopt.result c.draft-draft.result c.setup.new.draft c.reserve.new.self c.draft-draft.ensures c.setup.ensures.views c.in_ok-setup.ensures.weight c.in_ok-setup.ensures.stands
    c.in_ok-reserve.ensures.ok c.adopt.ensures.adopted c.adopt.ensures.coverage c.adopt.ensures.weight c.requires.none c.requires.made c.requires.opened c.requires.closed
