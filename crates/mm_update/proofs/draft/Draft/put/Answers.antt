use Rattle.mm_update.specs.Drafted.{node_tree}
use Rattle.mm_update.proofs.Drafts.{names_put}
use Rattle.mm_update.proofs.draft.Draft.put.Goals as goal

pub invariant_of-self : goal.invariant_of-self
invariant_of-self c = (names_put c.args.name.now c.self.inside.entries.items c.put_in.new.entries.items c.put_in.result (node_tree c.args.node) c.put_in.ensures.ok c.put_in.ensures.err c.self.invariant.0 c.requires, c.put_in.ensures.index)
