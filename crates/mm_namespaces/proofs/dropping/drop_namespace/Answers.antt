use Rattle.std.proofs.Common.{◌∙◌, ℕ, List, sym, ap, subst, arith}
use Rattle.std.proofs.lemmas.Result.{on_ok_weaker}
use Rattle.mm_nstable.specs.Nodes.{is_used, IsTable}
use Rattle.mm_nstable.specs.FreeChain.{HasFreeChain}
use Rattle.mm_extents.proofs.FreeWalks.{both_ok}
use Rattle.mm_extents.proofs.RoomFalls.{room_kept}
use Rattle.mm_records.specs.Stands.{ns_in}
use Rattle.mm_records.specs.Map.{name_at}
use Rattle.mm_records.proofs.FreeSteps.{used_there}
use Rattle.mm_namespaces.proofs.DropCalls.{asks, all_dropped, own_gone, others_stay, same_room}
use Rattle.mm_namespaces.proofs.dropping.drop_namespace.Goals as goal

pub free_ends-ends-requires-clause-table : goal.free_ends-ends-requires-clause-table
free_ends-ends-requires-clause-table c = c.requires.1.0.table

pub free_ends-ends-requires-clause-there : goal.free_ends-ends-requires-clause-there
free_ends-ends-requires-clause-there c = let st = c.requires.1.0 in (c.args.free.now, (st.free_chain.0, st.free_chain.1.node))

pub details-requires : goal.details-requires
details-requires c = used_there (ns_in c.args.draft.now.image) c.args.node c.requires.1.1.used

pub free_extents-requires : goal.free_extents-requires
free_extents-requires c =
    let s = c.requires.0 in
    let st = c.requires.1.0 in
    let n = c.requires.1.1 in
    let a = asks c.args.draft.now.image c.args.free.now s c.args.node st n c.details.result c.free_ends-ends.result (c.details.ensures.table st.table n.used) c.free_ends-ends.ensures in
    (s.heap, (s.extents c.args.free.now, (s.extents (name_at c.args.draft.now.image c.args.node), (a.0, a.1))))

pub put_free_ends-requires-clause-table : goal.put_free_ends-requires-clause-table
put_free_ends-requires-clause-table c = subst (λ (ns : List ℕ). IsTable ns) (sym c.in_ok-free_extents.ensures.kept.ns) c.requires.1.0.table

pub put_free_ends-requires-clause-there : goal.put_free_ends-requires-clause-there
put_free_ends-requires-clause-there c =
    let st = c.requires.1.0 in
    (c.args.free.now, (st.free_chain.0, subst (λ (ns : List ℕ). HasFreeChain ns c.args.free.now st.free_chain.0) (sym c.in_ok-free_extents.ensures.kept.ns) st.free_chain.1.node))

pub remove-requires-clause-table : goal.remove-requires-clause-table
remove-requires-clause-table c = c.put_free_ends.ensures.kept

pub remove-requires-clause-used : goal.remove-requires-clause-used
remove-requires-clause-used c = c.put_free_ends.ensures.names.used c.args.node ∙ ap (λ (ns : List ℕ). is_used ns c.args.node) c.in_ok-free_extents.ensures.kept.ns ∙ c.requires.1.1.used

pub returns-clause-stands : goal.returns-clause-stands
returns-clause-stands c = on_ok_weaker c.remove.result (λ x s st n.
    let a = asks c.args.draft.now.image c.args.free.now s c.args.node st n c.details.result c.free_ends-ends.result (c.details.ensures.table st.table n.used) c.free_ends-ends.ensures in
    let m = c.in_ok-free_extents.ensures.ok s.heap (s.extents c.args.free.now) (s.extents (name_at c.args.draft.now.image c.args.node)) a.0 a.1 in
    let h = subst (λ (ns : List ℕ). HasFreeChain ns c.args.free.now st.free_chain.0) (sym c.in_ok-free_extents.ensures.kept.ns) st.free_chain.1.node in
    all_dropped c.args.draft.now.image c.args.free.now s c.args.node st n c.free_extents.«new».draft c.put_free_ends.«new».draft c.remove.«new».draft c.free_extents.«new».free m c.in_ok-free_extents.ensures.kept.ns
    (c.in_ok-put_free_ends.ensures.written c.args.free.now st.free_chain.0 h) (c.in_ok-put_free_ends.ensures.table c.args.free.now st.free_chain.0 h) c.put_free_ends.ensures.names x.0 x.1 c.remove.ensures.kept)
    (both_ok _ _ c.remove.result c.remove.ensures.written c.remove.ensures.table)

pub returns-clause-gone : goal.returns-clause-gone
returns-clause-gone c = on_ok_weaker c.remove.result (λ x.
    let s = c.requires.0 in
    let st = c.requires.1.0 in
    let n = c.requires.1.1 in
    let a = asks c.args.draft.now.image c.args.free.now s c.args.node st n c.details.result c.free_ends-ends.result (c.details.ensures.table st.table n.used) c.free_ends-ends.ensures in
    let m = c.in_ok-free_extents.ensures.ok s.heap (s.extents c.args.free.now) (s.extents (name_at c.args.draft.now.image c.args.node)) a.0 a.1 in
    let h = subst (λ (ns : List ℕ). HasFreeChain ns c.args.free.now st.free_chain.0) (sym c.in_ok-free_extents.ensures.kept.ns) st.free_chain.1.node in
    own_gone c.args.draft.now.image c.args.free.now s c.args.node st n c.free_extents.«new».draft c.put_free_ends.«new».draft c.remove.«new».draft c.free_extents.«new».free m c.in_ok-free_extents.ensures.kept.ns
    (c.in_ok-put_free_ends.ensures.written c.args.free.now st.free_chain.0 h) (c.in_ok-put_free_ends.ensures.table c.args.free.now st.free_chain.0 h) c.put_free_ends.ensures.names x.0 x.1 c.remove.ensures.kept)
    (both_ok _ _ c.remove.result c.remove.ensures.written c.remove.ensures.table)

pub returns-clause-others : goal.returns-clause-others
returns-clause-others c = on_ok_weaker c.remove.result (λ x.
    let s = c.requires.0 in
    let st = c.requires.1.0 in
    let n = c.requires.1.1 in
    let a = asks c.args.draft.now.image c.args.free.now s c.args.node st n c.details.result c.free_ends-ends.result (c.details.ensures.table st.table n.used) c.free_ends-ends.ensures in
    let m = c.in_ok-free_extents.ensures.ok s.heap (s.extents c.args.free.now) (s.extents (name_at c.args.draft.now.image c.args.node)) a.0 a.1 in
    let h = subst (λ (ns : List ℕ). HasFreeChain ns c.args.free.now st.free_chain.0) (sym c.in_ok-free_extents.ensures.kept.ns) st.free_chain.1.node in
    others_stay c.args.draft.now.image c.args.free.now s c.args.node st n c.free_extents.«new».draft c.put_free_ends.«new».draft c.remove.«new».draft c.free_extents.«new».free m c.in_ok-free_extents.ensures.kept.ns
    (c.in_ok-put_free_ends.ensures.written c.args.free.now st.free_chain.0 h) (c.in_ok-put_free_ends.ensures.table c.args.free.now st.free_chain.0 h) c.put_free_ends.ensures.names x.0 x.1 c.remove.ensures.kept)
    (both_ok _ _ c.remove.result c.remove.ensures.written c.remove.ensures.table)

pub returns-clause-room : goal.returns-clause-room
returns-clause-room c = on_ok_weaker c.remove.result (λ x.
    let s = c.requires.0 in
    let st = c.requires.1.0 in
    let n = c.requires.1.1 in
    let a = asks c.args.draft.now.image c.args.free.now s c.args.node st n c.details.result c.free_ends-ends.result (c.details.ensures.table st.table n.used) c.free_ends-ends.ensures in
    let m = c.in_ok-free_extents.ensures.ok s.heap (s.extents c.args.free.now) (s.extents (name_at c.args.draft.now.image c.args.node)) a.0 a.1 in
    let h = subst (λ (ns : List ℕ). HasFreeChain ns c.args.free.now st.free_chain.0) (sym c.in_ok-free_extents.ensures.kept.ns) st.free_chain.1.node in
    same_room c.args.draft.now.image c.args.free.now s c.args.node st n c.free_extents.«new».draft c.put_free_ends.«new».draft c.remove.«new».draft c.free_extents.«new».free m c.in_ok-free_extents.ensures.kept.ns
    (c.in_ok-put_free_ends.ensures.written c.args.free.now st.free_chain.0 h) (c.in_ok-put_free_ends.ensures.table c.args.free.now st.free_chain.0 h) c.put_free_ends.ensures.names x.0 x.1 c.remove.ensures.kept
    ∙ room_kept c.args.draft.now.image c.free_extents.«new».draft.image c.in_ok-free_extents.ensures.kept)
    (both_ok _ _ c.remove.result c.remove.ensures.written c.remove.ensures.table)

pub returns-clause-weight : goal.returns-clause-weight
returns-clause-weight c = λ s st n.
    let a = asks c.args.draft.now.image c.args.free.now s c.args.node st n c.details.result c.free_ends-ends.result (c.details.ensures.table st.table n.used) c.free_ends-ends.ensures in
    let w = c.free_extents.ensures.weight s.heap (s.extents c.args.free.now) (s.extents (name_at c.args.draft.now.image c.args.node)) a.0 a.1 in
    let v = c.put_free_ends.ensures.weight in
    let u = c.remove.ensures.weight in
    omega (arith, w, v, u)

pub returns-in_err-free_extents-clause-weight : goal.returns-in_err-free_extents-clause-weight
returns-in_err-free_extents-clause-weight c = λ s st n.
    let a = asks c.args.draft.now.image c.args.free.now s c.args.node st n c.details.result c.free_ends-ends.result (c.details.ensures.table st.table n.used) c.free_ends-ends.ensures in
    let w = c.free_extents.ensures.weight s.heap (s.extents c.args.free.now) (s.extents (name_at c.args.draft.now.image c.args.node)) a.0 a.1 in
    omega (arith, w)

pub returns-in_err-put_free_ends-clause-weight : goal.returns-in_err-put_free_ends-clause-weight
returns-in_err-put_free_ends-clause-weight c = λ s st n.
    let a = asks c.args.draft.now.image c.args.free.now s c.args.node st n c.details.result c.free_ends-ends.result (c.details.ensures.table st.table n.used) c.free_ends-ends.ensures in
    let w = c.free_extents.ensures.weight s.heap (s.extents c.args.free.now) (s.extents (name_at c.args.draft.now.image c.args.node)) a.0 a.1 in
    let v = c.put_free_ends.ensures.weight in
    omega (arith, w, v)
