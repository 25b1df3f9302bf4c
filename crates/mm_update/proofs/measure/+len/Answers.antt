use Rattle.std.proofs.Common.{◌≡◌, length, subst, sym, ap, ◌∙◌, length-append, drop, ◌+◌, arith}
use Rattle.std.specs.Prelude.{IfSome}
use Rattle.mm_bson.specs.Spelling.{spelling, array_spelling, elements_spelling, value_spelling}
use Rattle.mm_bson.proofs.Building.{spelling_len}
use Rattle.mm_update.specs.Drafted.{values_at, node_tree, drafted, one_entry}
use Rattle.mm_update.proofs.Listed.{first_entry_is, no_entry_left}
use Rattle.mm_update.proofs.Entries.{spelling_first, depth_first}
use Rattle.mm_bson.specs.Tree.{depth}
use Rattle.mm_update.proofs.measure.+len.Goals as goal

pub node_len-returns-in-Document : goal.node_len-returns-in-Document
unfolding spelling
node_len-returns-in-Document t c =
    subst (λ n. IfSome c.len.result (λ k. k ≡ length (value_spelling (node_tree n)))) (sym c.in-Document.is) c.len.ensures

pub node_len-returns-in-Array : goal.node_len-returns-in-Array
unfolding array_spelling
node_len-returns-in-Array t c =
    subst (λ n. IfSome c.array_len.result (λ k. k ≡ length (value_spelling (node_tree n)))) (sym c.in-Array.is)
    (subst (λ vs. IfSome c.array_len.result (λ k. k ≡ length (array_spelling (values_at vs)))) c.as_slice.ensures.value c.array_len.ensures)

pub len-returns : goal.len-returns
len-returns t c =
    let none = ap (λ es. length (elements_spelling es)) (no_entry_left c.entries-entries.result.now c.entries.entry-index c.entries-test.false) in
    omega (arith, c.entries.invariant.counted, none, spelling_len c.args.draft.now)

pub len-entry_len-requires : goal.len-entry_len-requires
len-entry_len-requires t c =
    let first = c.entry-item.result in
    let es = drafted (drop (c.entries.entry-index + 1) c.entries-entries.result.now) in
    let split = first_entry_is first c.entries-entries.result.now c.entries.entry-index c.entries-test.true c.entry-item.is in
    let deep = ap depth split ∙ depth_first first.name.now first.node es in
    omega (arith, c.decreases, c.entries.invariant.shallow, deep)

pub len-entries-preserved : goal.len-entries-preserved
len-entries-preserved t c =
    let first = c.entry-item.result in
    let es = drafted (drop (c.entries.entry-index + 1) c.entries-entries.result.now) in
    let split = first_entry_is first c.entries-entries.result.now c.entries.entry-index c.entries-test.true c.entry-item.is in
    let one = elements_spelling (one_entry first) in
    let spelled = ap (λ ds. length (elements_spelling ds)) split ∙ ap length (spelling_first first.name.now first.node es) ∙ length-append one (elements_spelling es) in
    let deep = ap depth split ∙ depth_first first.name.now first.node es in
    record {
      counted = omega (arith, c.entries.invariant.counted, spelled, c.in_ok-entry_len.ensures, c.in_ok-len.ensures.1);
      shallow = omega (arith, c.entries.invariant.shallow, deep);
    }
