use Rattle.std.proofs.Common.{sym, ◌∙◌}
use Rattle.mm_update.proofs.Places.{known_some, known_now, none_of}
use Rattle.mm_update.proofs.index.add_name.Goals as goal

pub returns-then-contains_key-clause-ok : goal.returns-then-contains_key-clause-ok
returns-then-contains_key-clause-ok c = λ es e knows named at. known_some c.args.index.now es e c.args.name.now knows named (sym c.contains_key.ensures ∙ c.if-contains_key.true)

pub returns-in-Ok-clause-ok : goal.returns-in-Ok-clause-ok
returns-in-Ok-clause-ok c = λ es e knows named at. known_now c.args.index.now es e c.args.name.now knows named c.insert.new.self c.args.place (none_of _ (sym c.contains_key.ensures ∙ c.if-contains_key.false)) at c.in-Ok.ensures.updates
