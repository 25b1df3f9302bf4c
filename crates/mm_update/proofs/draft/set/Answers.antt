use Rattle.std.proofs.Common.{arith}
use Rattle.mm_update.proofs.Drafts.{first_at, changed_at, taken_at}
use Rattle.mm_update.proofs.Places.{first_named-set}
use Rattle.mm_update.proofs.draft.set.Goals as goal

pub index_mut-entry-requires : goal.index_mut-entry-requires
index_mut-entry-requires c = omega (arith, (first_at c.args.name.now c.args.entries.now.items c.args.place c.requires).within)

pub returns-clause-put : goal.returns-clause-put
returns-clause-put c = λ n same.
    rw same (changed_at c.args.name.now c.args.entries.now.items c.args.place c.index_mut-entry.result.now c.requires c.index_mut-entry.ensures.value n)

pub returns-clause-taken : goal.returns-clause-taken
returns-clause-taken c = λ same.
    rw same (taken_at c.args.name.now c.args.entries.now.items c.args.place c.index_mut-entry.result.now c.requires c.index_mut-entry.ensures.value)

pub returns-clause-names : goal.returns-clause-names
returns-clause-names c = λ q. first_named-set q c.args.entries.now.items c.args.place c.index_mut-entry.result.now c.args.node c.index_mut-entry.ensures.value
