use Rattle.std.proofs.Common.{◌≡◌, length, Some, sym, ap, ◌∙◌, arith}
use Rattle.std.specs.Prelude.{option_map}
use Rattle.mm_update.specs.declared.draft.Node.TheVariants.{Null}
use Rattle.mm_update.specs.Drafted.{place_in, node_tree}
use Rattle.mm_update.proofs.Drafts.{first_at, found_at, changed_at, there_at, on_some, if_none, none_named}
use Rattle.mm_update.proofs.Places.{first_named-set}
use Rattle.mm_update.proofs.draft.take_in.Goals as goal

pub index_mut-entry-requires : goal.index_mut-entry-requires
index_mut-entry-requires c =
    let xs = c.args.entries.now.items in
    let name = c.args.name.now in
    let place : place_in name xs ≡ Some c.in-Some.place = ap (place_in name) (sym c.as_slice.ensures.value) ∙ sym c.place_of.ensures ∙ c.in-Some.is in
    omega (arith, (first_at name xs c.in-Some.place place).within, ap length c.as_slice.ensures.value, c.as_slice.ensures.len)

pub returns-in-Some-clause-value : goal.returns-in-Some-clause-value
returns-in-Some-clause-value c =
    let xs = c.args.entries.now.items in
    let name = c.args.name.now in
    let e = c.index_mut-entry.result.now in
    let place : place_in name xs ≡ Some c.in-Some.place = ap (place_in name) (sym c.as_slice.ensures.value) ∙ sym c.place_of.ensures ∙ c.in-Some.is in
    ap (option_map node_tree) c.replace.ensures.value ∙ sym (found_at name xs c.in-Some.place e place c.index_mut-entry.ensures.value)

pub returns-in-Some-clause-some : goal.returns-in-Some-clause-some
returns-in-Some-clause-some c =
    let xs = c.args.entries.now.items in
    let name = c.args.name.now in
    let e = c.index_mut-entry.result.now in
    let place : place_in name xs ≡ Some c.in-Some.place = ap (place_in name) (sym c.as_slice.ensures.value) ∙ sym c.place_of.ensures ∙ c.in-Some.is in
    on_some c.replace.result (rw c.replace.ensures.after (changed_at name xs c.in-Some.place e place c.index_mut-entry.ensures.value Null))

pub returns-in-Some-clause-none : goal.returns-in-Some-clause-none
returns-in-Some-clause-none c =
    let xs = c.args.entries.now.items in
    let name = c.args.name.now in
    let e = c.index_mut-entry.result.now in
    let place : place_in name xs ≡ Some c.in-Some.place = ap (place_in name) (sym c.as_slice.ensures.value) ∙ sym c.place_of.ensures ∙ c.in-Some.is in
    if_none _ c.replace.result e.node c.replace.ensures.value (there_at name xs c.in-Some.place e place c.index_mut-entry.ensures.value)

pub returns-in-Some-clause-names : goal.returns-in-Some-clause-names
returns-in-Some-clause-names c = λ q.
    first_named-set q c.args.entries.now.items c.in-Some.place c.index_mut-entry.result.now _ c.index_mut-entry.ensures.value

pub returns-in-None-clause-value : goal.returns-in-None-clause-value
returns-in-None-clause-value c =
    let xs = c.args.entries.now.items in
    let name = c.args.name.now in
    sym (none_named name xs (ap (place_in name) (sym c.as_slice.ensures.value) ∙ sym c.place_of.ensures ∙ c.in-None.is))
