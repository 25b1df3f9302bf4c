use Rattle.std.proofs.Common.{◌≡◌, ◌∙◌, ℕ, ◌+◌, ◌*◌, List, length, sym, ap, subst, arith}
use Rattle.std.specs.FinMap.{get}
use Rattle.std.proofs.lemmas.Result.{on_ok_weaker, err_from_is_err_and}
use Rattle.mm_records.proofs.LinkSteps.{same_fault}
use Rattle.mm_links.specs.Links.{Place}
use Rattle.mm_nstable.specs.Table.{table_of}
use Rattle.mm_records.specs.Stands.{ns_in}
use Rattle.mm_records.specs.Map.{name_at}
use Rattle.mm_extents.specs.Room.{LowersRoom}
use Rattle.mm_extents.proofs.RoomFalls.{lowers_none, lowers_both}
use Rattle.mm_extents.specs.FreeExtents.{NoExtent, IsLeftFull}
use Rattle.mm_records.specs.Searching.{NoBlock, IsChosen}
use Rattle.mm_records.specs.Adding.{IsAdded}
use Rattle.mm_records.specs.Extending.{IsExtended}
use Rattle.mm_records.proofs.Allocs.{alloc_new, some_block, same_twice, same_names_twice, own_held, ok_both}
use Rattle.mm_records.proofs.allocating.put_new.Goals as goal

pub find_block-requires : goal.find_block-requires
find_block-requires c =
    let s = c.requires.stands in
    let t = c.in_ok-add_extent.ensures.ok s.0 s.1.0 s.1.1 in
    (s.0, (t.0, t.1.0))

pub put_found-requires-clause-chosen : goal.put_found-requires-clause-chosen
put_found-requires-clause-chosen c =
    let s = c.requires.stands in
    let t = c.in_ok-add_extent.ensures.ok s.0 s.1.0 s.1.1 in
    (s.0, (t.0, (t.1.0, c.in-Some.ensures.some s.0 t.0 t.1.0)))

pub unreachable-requires : goal.unreachable-requires
unreachable-requires c =
    let s = c.requires.stands in
    let t = c.in_ok-add_extent.ensures.ok s.0 s.1.0 s.1.1 in
    let name : name_at c.add_extent.«new».draft.image c.args.node ≡ name_at c.args.draft.now.image c.args.node = c.in_ok-add_extent.ensures.names.names c.args.node s.1.1.is_node.used in
    let le = c.extent_len-long.ensures.enough in
    some_block c.args.draft.now.image s.1.0 t.0 s.0 (name_at c.args.draft.now.image c.args.node) t.1.1.0 c.args.len t.1.1.1.0 c.extent_len-long.result t.1.1.1.1 (omega (arith, le))
    (subst (λ (n : List ℕ). NoBlock t.0 n c.args.len) name (c.in-None.ensures.none s.0 t.0 t.1.0))

pub returns-clause-ok : goal.returns-clause-ok
returns-clause-ok c = ok_both c.put_found.result c.put_found.ensures.at c.put_found.ensures.ok (λ at is f free s st none.
    let p : Place = (c.in-Some.block.at.file, c.in-Some.block.at.ofs) in
    let t = c.in_ok-add_extent.ensures.ok free s st in
    let name : name_at c.add_extent.«new».draft.image c.args.node ≡ name_at c.args.draft.now.image c.args.node = c.in_ok-add_extent.ensures.names.names c.args.node st.is_node.used in
    let b = c.in-Some.ensures.some free t.0 t.1.0 in
    let u = f free t.0 t.1.0 b in
    let whole = subst (λ (n : List ℕ). (x : IsChosen t.0 n c.args.len c.in-Some.block.list c.in-Some.block.before p) × IsAdded t.0 u.0 n p c.args.len (16 + length x.rest) c.args.payload.now) name (b, u.1.1) in
    let long = c.extent_len-long.ensures.is free s st in
    let x = subst (λ (l : ℕ). IsExtended c.args.draft.now.image s t.0 free (name_at c.args.draft.now.image c.args.node) l t.1.1.0 t.1.1.1.0) long t.1.1.1.1 in
    (u.0, (u.1.0, (p, (is, alloc_new c.args.draft.now.image s t.0 u.0 free (name_at c.args.draft.now.image c.args.node) t.1.1.0 p c.args.len t.1.1.1.0 c.in-Some.block.list c.in-Some.block.before c.args.payload.now none x whole.0 whole.1)))))

pub returns-clause-space : goal.returns-clause-space
returns-clause-space c = on_ok_weaker c.put_found.result (λ x free s st n.
    c.in_ok-add_extent.ensures.space free s st (subst (λ (l : ℕ). NoExtent c.args.draft.now.image s.heap (s.extents free) l) (sym (c.extent_len-long.ensures.is free s st)) n.no_extent)) c.put_found.ensures.names

pub returns-clause-constants : goal.returns-clause-constants
returns-clause-constants c = on_ok_weaker c.put_found.result (λ f e.
    let s = c.requires.stands in
    let st = s.1.1 in
    let t = c.in_ok-add_extent.ensures.ok s.0 s.1.0 st in
    let ns0 = ns_in c.args.draft.now.image in
    let ns1 = ns_in c.add_extent.«new».draft.image in
    let name : name_at c.add_extent.«new».draft.image c.args.node ≡ name_at c.args.draft.now.image c.args.node = c.in_ok-add_extent.ensures.names.names c.args.node st.is_node.used in
    let was = own_held ns0 c.args.node st.table st.is_node.used in
    same_twice ns0 ns1 (ns_in c.put_found.«new».draft.image) st.table t.1.0.table c.in_ok-add_extent.ensures.names c.in_ok-add_extent.ensures.same
    (f (λ held g.
    sym (c.in_ok-add_extent.ensures.same.details (name_at c.args.draft.now.image c.args.node) was.0 held was.1 (ap (λ (n : List ℕ). get (table_of ns1) n) (sym name) ∙ g)) ∙ e was.0 was.1 ∙ sym c.in_ok-add_extent.ensures.constants))) c.put_found.ensures.constants

pub returns-clause-names : goal.returns-clause-names
returns-clause-names c = on_ok_weaker c.put_found.result (λ n. same_names_twice (ns_in c.args.draft.now.image) (ns_in c.add_extent.«new».draft.image) (ns_in c.put_found.«new».draft.image) c.in_ok-add_extent.ensures.names n) c.put_found.ensures.names

pub returns-in_err-add_extent-clause-full : goal.returns-in_err-add_extent-clause-full
returns-in_err-add_extent-clause-full c =
    let p = err_from_is_err_and c.from_residual.result c.from_residual.ensures.1 in
    rw (p.1, p.2) (λ e free s st none. record {
      no_block = none;
      no_extent = subst (λ (l : ℕ). NoExtent c.args.draft.now.image s.heap (s.extents free) l) (c.extent_len-long.ensures.is free s st) (c.in_err-add_extent.ensures.full (same_fault _ _ e) free s st);
    })

pub returns-clause-room : goal.returns-clause-room
returns-clause-room c = on_ok_weaker c.put_found.result (λ e free s st.
    subst (λ (l : ℕ). LowersRoom (4 * l) c.args.draft.now.image c.put_found.«new».draft.image) (c.extent_len-long.ensures.is free s st)
    (lowers_both c.args.draft.now.image c.add_extent.«new».draft.image c.put_found.«new».draft.image (4 * c.extent_len-long.result) 0 (4 * c.extent_len-long.result) c.in_ok-add_extent.ensures.room
    (lowers_none c.add_extent.«new».draft.image c.put_found.«new».draft.image 0 e) (omega arith))) c.put_found.ensures.files

pub returns-in_err-add_extent-clause-left : goal.returns-in_err-add_extent-clause-left
returns-in_err-add_extent-clause-left c =
    let p = err_from_is_err_and c.from_residual.result c.from_residual.ensures.1 in
    rw (p.1, p.2) (λ e free s st. subst (λ (l : ℕ). IsLeftFull c.args.draft.now.image c.add_extent.«new».draft.image l) (c.extent_len-long.ensures.is free s st) (c.in_err-add_extent.ensures.left (same_fault _ _ e)))

pub returns-clause-left : goal.returns-clause-left
returns-clause-left c = λ e. absurd (c.put_found.ensures.memory e)
