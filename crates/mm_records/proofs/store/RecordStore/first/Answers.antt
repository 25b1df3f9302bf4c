use Rattle.mm_records.specs.Map.{name_at}
use Rattle.mm_records.proofs.FreeSteps.{used_there}
use Rattle.mm_records.proofs.StoreLaws.{first_rest}
use Rattle.mm_records.proofs.store.RecordStore.first.Goals as goal

pub details-requires : goal.details-requires
details-requires c = used_there _ c.args.self.now.node c.requires.1.1.1.used

pub first_from-requires : goal.first_from-requires
first_from-requires c =
    let r = first_rest c.args.draft.now.image c.requires.0 c.requires.1.0 c.args.self.now.node c.details.result c.requires.1.1.0 c.requires.1.1.1 c.details.ensures.table in
    (c.requires.0, (c.requires.1.0, (name_at c.args.draft.now.image c.args.self.now.node, (c.requires.1.0.extents (name_at c.args.draft.now.image c.args.self.now.node), r))))

pub returns : goal.returns
returns c = λ free s st n.
    c.first_from.ensures free s (name_at c.args.draft.now.image c.args.self.now.node) (s.extents (name_at c.args.draft.now.image c.args.self.now.node))
    (first_rest c.args.draft.now.image free s c.args.self.now.node c.details.result st n c.details.ensures.table)
