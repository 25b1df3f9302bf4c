use Rattle.std.proofs.Common.{Some, refl}
use Rattle.std.proofs.lemmas.Result.{on_ok_weaker}
use Rattle.mm_update.proofs.Drafts.{names_added, added_on}
use Rattle.mm_update.proofs.draft.Draft.add.Goals as goal

pub invariant_of-self : goal.invariant_of-self
invariant_of-self c = (names_added c.push.result c.self.inside.entries.items c.push.new.entries.items c.args.name c.args.node c.push.ensures.ok c.push.ensures.err c.self.invariant.0 c.requires, c.push.ensures.index)

pub returns : goal.returns
returns c = on_ok_weaker c.push.result (λ e. added_on c.self.inside.entries.items c.push.new.entries.items (record { name = c.args.name; node = Some c.args.node }) c.args.node _ e refl c.self.view_is) c.push.ensures.ok
