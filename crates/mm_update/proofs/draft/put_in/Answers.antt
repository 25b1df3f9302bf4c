use Rattle.std.proofs.Common.{Some, refl, sym, ap, ◌∙◌}
use Rattle.std.proofs.lemmas.Result.{on_ok_weaker}
use Rattle.mm_update.specs.Drafted.{place_in}
use Rattle.mm_update.proofs.Drafts.{none_named, pushed_on}
use Rattle.mm_update.proofs.draft.put_in.Goals as goal

pub set-requires : goal.set-requires
set-requires c = ap (place_in c.args.name.now) (sym c.as_slice.ensures.value) ∙ sym c.place_of.ensures ∙ c.in-Some.is

pub returns-in-None-clause-ok : goal.returns-in-None-clause-ok
returns-in-None-clause-ok c =
    let xs = c.args.entries.now.items in
    let name = c.args.name.now in
    let none = none_named name xs (ap (place_in name) (sym c.as_slice.ensures.value) ∙ sym c.place_of.ensures ∙ c.in-None.is) in
    on_ok_weaker c.push.result (λ e. pushed_on name xs _ (record { name = c.args.name; node = Some c.args.node }) c.args.node e refl refl none) c.push.ensures.ok
