use Rattle.std.proofs.Common.{sym, ap, ◌∙◌}
use Rattle.mm_update.specs.Drafted.{place_in, drafted}
use Rattle.mm_update.proofs.Drafts.{none_named, find-none-without}
use Rattle.mm_update.proofs.draft.drop_in.Goals as goal

pub set-requires : goal.set-requires
set-requires c = ap (place_in c.args.name.now) (sym c.as_slice.ensures.value) ∙ sym c.place_of.ensures ∙ c.in-Some.is

pub returns-in_default-clause-entries : goal.returns-in_default-clause-entries
returns-in_default-clause-entries c =
    let xs = c.args.entries.now.items in
    let name = c.args.name.now in
    sym (find-none-without name (drafted xs) (none_named name xs (ap (place_in name) (sym c.as_slice.ensures.value) ∙ sym c.place_of.ensures ∙ c.in_default.is)))
