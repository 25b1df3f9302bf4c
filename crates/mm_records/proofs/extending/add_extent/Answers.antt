use Rattle.std.proofs.Common.{◌≡◌, ◌∙◌, ℕ, ◌-◌, ◌*◌, ◌<◌, List, length, rules, refl, sym, ap, subst, arith}
use Rattle.std.specs.Prelude.{FitsSigned, slice_index_or}
use Rattle.std.specs.Int.{w32}
use Rattle.std.proofs.lemmas.Int.{to_z-of_z}
use Rattle.std.proofs.lemmas.List.{get_or_default}
use Rattle.std.proofs.lemmas.Result.{err_from_is_err_and}
use Rattle.mm_base.specs.Places.{null}
use Rattle.mm_links.specs.Links.{Place, last_of}
use Rattle.mm_nstable.specs.Nodes.{IsTable, SameNames}
use Rattle.std.specs.FinMap.{insert}
use Rattle.mm_nstable.specs.Table.{table_of}
use Rattle.mm_nstable.specs.FreeChain.{HasFreeChain, with_ends}
use Rattle.mm_records.specs.Constants.{SameConstants}
use Rattle.mm_records.specs.Shape.{list_for}
use Rattle.mm_extents.proofs.RoomFalls.{room_kept, room_files, lowers_none, lowers_both}
use Rattle.mm_extents.proofs.Writes.{heap_same}
use Rattle.mm_records.specs.Stands.{ns_in}
use Rattle.mm_records.specs.Map.{name_at}
use Rattle.mm_records.proofs.FreeSteps.{nonneg, same_number}
use Rattle.mm_records.proofs.ConstantLaws.{same_constants}
use Rattle.mm_records.proofs.LinkSteps.{frees_of, grows, made_low, at_low, page, n_short, at_inside, at_len, can_link, last_low, last_extent, here_extent, here_block, ends_lengths, ends_files, finished, same_fault}
use Rattle.mm_records.proofs.extending.add_extent.Goals as goal

pub name_of-name-requires-clause-table : goal.name_of-name-requires-clause-table
name_of-name-requires-clause-table c = c.requires.stands.1.1.table

pub name_of-name-requires-clause-used : goal.name_of-name-requires-clause-used
name_of-name-requires-clause-used c = c.requires.stands.1.1.is_node.used

pub free_ends-free-requires-clause-table : goal.free_ends-free-requires-clause-table
free_ends-free-requires-clause-table c = c.requires.stands.1.1.table

pub free_ends-free-requires-clause-there : goal.free_ends-free-requires-clause-there
free_ends-free-requires-clause-there c = let st = c.requires.stands.1.1 in (c.requires.stands.0, (st.free_chain.0, st.free_chain.1.node))

pub new_extent-requires-clause-stands : goal.new_extent-requires-clause-stands
new_extent-requires-clause-stands c =
    let free = c.requires.stands.0 in
    let s = c.requires.stands.1.0 in
    let st = c.requires.stands.1.1 in
    (free, (s.heap, (s.extents free, frees_of c.args.draft.now.image free s c.args.node c.args.counts.now st c.free_ends-free.result (c.free_ends-free.ensures free st.free_chain.0 st.free_chain.1.node))))

pub spot_of-at-requires : goal.spot_of-at-requires
spot_of-at-requires c =
    let free = c.requires.stands.0 in
    let s = c.requires.stands.1.0 in
    let st = c.requires.stands.1.1 in
    let f = frees_of c.args.draft.now.image free s c.args.node c.args.counts.now st c.free_ends-free.result (c.free_ends-free.ensures free st.free_chain.0 st.free_chain.1.node) in
    let made = c.in_ok-new_extent.ensures.ok free s.heap (s.extents free) f (λ e. st.is_node.isnt_free (sym c.name_of-name.ensures ∙ e)) in
    made_low c.args.draft.now.image c.new_extent.«new».draft.image free s.heap (s.extents free) c.new_extent.«new».free c.name_of-name.result c.args.len c.in_ok-new_extent.field-0 made

pub put_free_ends-requires-clause-table : goal.put_free_ends-requires-clause-table
put_free_ends-requires-clause-table c = subst (λ (ns : List ℕ). IsTable ns) (sym c.in_ok-new_extent.ensures.ns) c.requires.stands.1.1.table

pub put_free_ends-requires-clause-there : goal.put_free_ends-requires-clause-there
put_free_ends-requires-clause-there c =
    let st = c.requires.stands.1.1 in
    (c.requires.stands.0, (st.free_chain.0, subst (λ (ns : List ℕ). HasFreeChain ns c.requires.stands.0 st.free_chain.0) (sym c.in_ok-new_extent.ensures.ns) st.free_chain.1.node))

pub read_extent-requires : goal.read_extent-requires
read_extent-requires c =
    let free = c.requires.stands.0 in
    let s = c.requires.stands.1.0 in
    let st = c.requires.stands.1.1 in
    let f = frees_of c.args.draft.now.image free s c.args.node c.args.counts.now st c.free_ends-free.result (c.free_ends-free.ensures free st.free_chain.0 st.free_chain.1.node) in
    let made = c.in_ok-new_extent.ensures.ok free s.heap (s.extents free) f (λ e. st.is_node.isnt_free (sym c.name_of-name.ensures ∙ e)) in
    let g = grows c.args.draft.now.image free s c.args.node c.args.counts.now st c.new_extent.«new».draft.image c.new_extent.«new».free c.name_of-name.result c.args.len c.in_ok-new_extent.field-0 c.name_of-name.ensures made in
    let at : Place = (c.spot_of-at.result.file, c.spot_of-at.result.ofs) in
    let here : g.e ≡ at = c.spot_of-at.ensures g.e made.1.1.1.1.0 (at_low c.args.draft.now.image free s c.args.node c.args.counts.now c.args.len g) in
    let hfc = subst (λ (ns : List ℕ). HasFreeChain ns free st.free_chain.0) (sym c.in_ok-new_extent.ensures.ns) st.free_chain.1.node in
    let w = c.in_ok-put_free_ends.ensures.written free st.free_chain.0 hfc in
    let lens = ends_lengths c.args.draft.now.image free st.free_chain.0 st.table st.free_chain.1.node c.new_extent.«new».draft c.put_free_ends.«new».draft c.in_ok-new_extent.ensures.ns c.new_extent.«new».free w in
    let files = ends_files c.args.draft.now.image free st.free_chain.0 st.table st.free_chain.1.node c.new_extent.«new».draft c.put_free_ends.«new».draft c.in_ok-new_extent.ensures.ns c.new_extent.«new».free w in
    let is2 = heap_same g.now c.put_free_ends.«new».draft.image g.t files g.frees.shown in
    at_inside c.args.draft.now.image free s c.args.node c.args.counts.now c.args.len g c.put_free_ends.«new».draft.image is2 at here

pub natural-long-requires : goal.natural-long-requires
natural-long-requires c =
    let free = c.requires.stands.0 in
    let s = c.requires.stands.1.0 in
    let st = c.requires.stands.1.1 in
    let f = frees_of c.args.draft.now.image free s c.args.node c.args.counts.now st c.free_ends-free.result (c.free_ends-free.ensures free st.free_chain.0 st.free_chain.1.node) in
    let made = c.in_ok-new_extent.ensures.ok free s.heap (s.extents free) f (λ e. st.is_node.isnt_free (sym c.name_of-name.ensures ∙ e)) in
    let g = grows c.args.draft.now.image free s c.args.node c.args.counts.now st c.new_extent.«new».draft.image c.new_extent.«new».free c.name_of-name.result c.args.len c.in_ok-new_extent.field-0 c.name_of-name.ensures made in
    let at : Place = (c.spot_of-at.result.file, c.spot_of-at.result.ofs) in
    let here : g.e ≡ at = c.spot_of-at.ensures g.e made.1.1.1.1.0 (at_low c.args.draft.now.image free s c.args.node c.args.counts.now c.args.len g) in
    let hfc = subst (λ (ns : List ℕ). HasFreeChain ns free st.free_chain.0) (sym c.in_ok-new_extent.ensures.ns) st.free_chain.1.node in
    let w = c.in_ok-put_free_ends.ensures.written free st.free_chain.0 hfc in
    let lens = ends_lengths c.args.draft.now.image free st.free_chain.0 st.table st.free_chain.1.node c.new_extent.«new».draft c.put_free_ends.«new».draft c.in_ok-new_extent.ensures.ns c.new_extent.«new».free w in
    let files = ends_files c.args.draft.now.image free st.free_chain.0 st.table st.free_chain.1.node c.new_extent.«new».draft c.put_free_ends.«new».draft c.in_ok-new_extent.ensures.ns c.new_extent.«new».free w in
    let is2 = heap_same g.now c.put_free_ends.«new».draft.image g.t files g.frees.shown in
    let fl : FitsSigned w32 c.read_extent.result.len = search rules in
    nonneg _ _ (to_z-of_z w32 c.read_extent.result.len fl ∙ at_len c.args.draft.now.image free s c.args.node c.args.counts.now c.args.len g c.put_free_ends.«new».draft.image is2 at here c.read_extent.result c.read_extent.ensures)

pub overflow_sub-long : goal.overflow_sub-long
overflow_sub-long c =
    let free = c.requires.stands.0 in
    let s = c.requires.stands.1.0 in
    let st = c.requires.stands.1.1 in
    let f = frees_of c.args.draft.now.image free s c.args.node c.args.counts.now st c.free_ends-free.result (c.free_ends-free.ensures free st.free_chain.0 st.free_chain.1.node) in
    let made = c.in_ok-new_extent.ensures.ok free s.heap (s.extents free) f (λ e. st.is_node.isnt_free (sym c.name_of-name.ensures ∙ e)) in
    let g = grows c.args.draft.now.image free s c.args.node c.args.counts.now st c.new_extent.«new».draft.image c.new_extent.«new».free c.name_of-name.result c.args.len c.in_ok-new_extent.field-0 c.name_of-name.ensures made in
    let at : Place = (c.spot_of-at.result.file, c.spot_of-at.result.ofs) in
    let here : g.e ≡ at = c.spot_of-at.ensures g.e made.1.1.1.1.0 (at_low c.args.draft.now.image free s c.args.node c.args.counts.now c.args.len g) in
    let hfc = subst (λ (ns : List ℕ). HasFreeChain ns free st.free_chain.0) (sym c.in_ok-new_extent.ensures.ns) st.free_chain.1.node in
    let w = c.in_ok-put_free_ends.ensures.written free st.free_chain.0 hfc in
    let lens = ends_lengths c.args.draft.now.image free st.free_chain.0 st.table st.free_chain.1.node c.new_extent.«new».draft c.put_free_ends.«new».draft c.in_ok-new_extent.ensures.ns c.new_extent.«new».free w in
    let files = ends_files c.args.draft.now.image free st.free_chain.0 st.table st.free_chain.1.node c.new_extent.«new».draft c.put_free_ends.«new».draft c.in_ok-new_extent.ensures.ns c.new_extent.«new».free w in
    let is2 = heap_same g.now c.put_free_ends.«new».draft.image g.t files g.frees.shown in
    let fl : FitsSigned w32 c.read_extent.result.len = search rules in
    let long : c.natural-long.result ≡ g.n = same_number c.natural-long.result g.n (sym c.natural-long.ensures ∙ to_z-of_z w32 c.read_extent.result.len fl ∙ at_len c.args.draft.now.image free s c.args.node c.args.counts.now c.args.len g c.put_free_ends.«new».draft.image is2 at here c.read_extent.result c.read_extent.ensures) in
    let p = page c.args.draft.now.image free s c.args.node c.args.counts.now c.args.len g in
    omega (arith, long, p)

pub link_extent-requires-clause-can : goal.link_extent-requires-clause-can
link_extent-requires-clause-can c =
    let free = c.requires.stands.0 in
    let s = c.requires.stands.1.0 in
    let st = c.requires.stands.1.1 in
    let f = frees_of c.args.draft.now.image free s c.args.node c.args.counts.now st c.free_ends-free.result (c.free_ends-free.ensures free st.free_chain.0 st.free_chain.1.node) in
    let made = c.in_ok-new_extent.ensures.ok free s.heap (s.extents free) f (λ e. st.is_node.isnt_free (sym c.name_of-name.ensures ∙ e)) in
    let g = grows c.args.draft.now.image free s c.args.node c.args.counts.now st c.new_extent.«new».draft.image c.new_extent.«new».free c.name_of-name.result c.args.len c.in_ok-new_extent.field-0 c.name_of-name.ensures made in
    let at : Place = (c.spot_of-at.result.file, c.spot_of-at.result.ofs) in
    let here : g.e ≡ at = c.spot_of-at.ensures g.e made.1.1.1.1.0 (at_low c.args.draft.now.image free s c.args.node c.args.counts.now c.args.len g) in
    let hfc = subst (λ (ns : List ℕ). HasFreeChain ns free st.free_chain.0) (sym c.in_ok-new_extent.ensures.ns) st.free_chain.1.node in
    let w = c.in_ok-put_free_ends.ensures.written free st.free_chain.0 hfc in
    let lens = ends_lengths c.args.draft.now.image free st.free_chain.0 st.table st.free_chain.1.node c.new_extent.«new».draft c.put_free_ends.«new».draft c.in_ok-new_extent.ensures.ns c.new_extent.«new».free w in
    let files = ends_files c.args.draft.now.image free st.free_chain.0 st.table st.free_chain.1.node c.new_extent.«new».draft c.put_free_ends.«new».draft c.in_ok-new_extent.ensures.ns c.new_extent.«new».free w in
    let is2 = heap_same g.now c.put_free_ends.«new».draft.image g.t files g.frees.shown in
    (last_of (s.extents (name_at c.args.draft.now.image c.args.node)), (st.own.last, can_link c.args.draft.now.image free s c.args.node c.args.counts.now c.args.len g c.put_free_ends.«new».draft.image is2 at here))

pub link_extent-requires-clause-ofs : goal.link_extent-requires-clause-ofs
link_extent-requires-clause-ofs c =
    let free = c.requires.stands.0 in
    let s = c.requires.stands.1.0 in
    let st = c.requires.stands.1.1 in
    let f = frees_of c.args.draft.now.image free s c.args.node c.args.counts.now st c.free_ends-free.result (c.free_ends-free.ensures free st.free_chain.0 st.free_chain.1.node) in
    let made = c.in_ok-new_extent.ensures.ok free s.heap (s.extents free) f (λ e. st.is_node.isnt_free (sym c.name_of-name.ensures ∙ e)) in
    let g = grows c.args.draft.now.image free s c.args.node c.args.counts.now st c.new_extent.«new».draft.image c.new_extent.«new».free c.name_of-name.result c.args.len c.in_ok-new_extent.field-0 c.name_of-name.ensures made in
    let at : Place = (c.spot_of-at.result.file, c.spot_of-at.result.ofs) in
    let here : g.e ≡ at = c.spot_of-at.ensures g.e made.1.1.1.1.0 (at_low c.args.draft.now.image free s c.args.node c.args.counts.now c.args.len g) in
    let hfc = subst (λ (ns : List ℕ). HasFreeChain ns free st.free_chain.0) (sym c.in_ok-new_extent.ensures.ns) st.free_chain.1.node in
    let w = c.in_ok-put_free_ends.ensures.written free st.free_chain.0 hfc in
    let lens = ends_lengths c.args.draft.now.image free st.free_chain.0 st.table st.free_chain.1.node c.new_extent.«new».draft c.put_free_ends.«new».draft c.in_ok-new_extent.ensures.ns c.new_extent.«new».free w in
    let files = ends_files c.args.draft.now.image free st.free_chain.0 st.table st.free_chain.1.node c.new_extent.«new».draft c.put_free_ends.«new».draft c.in_ok-new_extent.ensures.ns c.new_extent.«new».free w in
    let is2 = heap_same g.now c.put_free_ends.«new».draft.image g.t files g.frees.shown in
    let low = (at_low c.args.draft.now.image free s c.args.node c.args.counts.now c.args.len g).ofs in
    let same = ap (λ (q : Place). q.1) here in
    omega (arith, low, same)

pub count_extent-requires-clause-file : goal.count_extent-requires-clause-file
count_extent-requires-clause-file c =
    let free = c.requires.stands.0 in
    let s = c.requires.stands.1.0 in
    let st = c.requires.stands.1.1 in
    let f = frees_of c.args.draft.now.image free s c.args.node c.args.counts.now st c.free_ends-free.result (c.free_ends-free.ensures free st.free_chain.0 st.free_chain.1.node) in
    let made = c.in_ok-new_extent.ensures.ok free s.heap (s.extents free) f (λ e. st.is_node.isnt_free (sym c.name_of-name.ensures ∙ e)) in
    let g = grows c.args.draft.now.image free s c.args.node c.args.counts.now st c.new_extent.«new».draft.image c.new_extent.«new».free c.name_of-name.result c.args.len c.in_ok-new_extent.field-0 c.name_of-name.ensures made in
    let at : Place = (c.spot_of-at.result.file, c.spot_of-at.result.ofs) in
    let here : g.e ≡ at = c.spot_of-at.ensures g.e made.1.1.1.1.0 (at_low c.args.draft.now.image free s c.args.node c.args.counts.now c.args.len g) in
    let hfc = subst (λ (ns : List ℕ). HasFreeChain ns free st.free_chain.0) (sym c.in_ok-new_extent.ensures.ns) st.free_chain.1.node in
    let w = c.in_ok-put_free_ends.ensures.written free st.free_chain.0 hfc in
    let lens = ends_lengths c.args.draft.now.image free st.free_chain.0 st.table st.free_chain.1.node c.new_extent.«new».draft c.put_free_ends.«new».draft c.in_ok-new_extent.ensures.ns c.new_extent.«new».free w in
    let files = ends_files c.args.draft.now.image free st.free_chain.0 st.table st.free_chain.1.node c.new_extent.«new».draft c.put_free_ends.«new».draft c.in_ok-new_extent.ensures.ns c.new_extent.«new».free w in
    let is2 = heap_same g.now c.put_free_ends.«new».draft.image g.t files g.frees.shown in
    let low = (at_low c.args.draft.now.image free s c.args.node c.args.counts.now c.args.len g).file in
    let same = ap (λ (q : Place). q.0) here in
    omega (arith, low, same)

pub count_extent-requires-clause-ofs : goal.count_extent-requires-clause-ofs
count_extent-requires-clause-ofs c =
    let free = c.requires.stands.0 in
    let s = c.requires.stands.1.0 in
    let st = c.requires.stands.1.1 in
    let f = frees_of c.args.draft.now.image free s c.args.node c.args.counts.now st c.free_ends-free.result (c.free_ends-free.ensures free st.free_chain.0 st.free_chain.1.node) in
    let made = c.in_ok-new_extent.ensures.ok free s.heap (s.extents free) f (λ e. st.is_node.isnt_free (sym c.name_of-name.ensures ∙ e)) in
    let g = grows c.args.draft.now.image free s c.args.node c.args.counts.now st c.new_extent.«new».draft.image c.new_extent.«new».free c.name_of-name.result c.args.len c.in_ok-new_extent.field-0 c.name_of-name.ensures made in
    let at : Place = (c.spot_of-at.result.file, c.spot_of-at.result.ofs) in
    let here : g.e ≡ at = c.spot_of-at.ensures g.e made.1.1.1.1.0 (at_low c.args.draft.now.image free s c.args.node c.args.counts.now c.args.len g) in
    let hfc = subst (λ (ns : List ℕ). HasFreeChain ns free st.free_chain.0) (sym c.in_ok-new_extent.ensures.ns) st.free_chain.1.node in
    let w = c.in_ok-put_free_ends.ensures.written free st.free_chain.0 hfc in
    let lens = ends_lengths c.args.draft.now.image free st.free_chain.0 st.table st.free_chain.1.node c.new_extent.«new».draft c.put_free_ends.«new».draft c.in_ok-new_extent.ensures.ns c.new_extent.«new».free w in
    let files = ends_files c.args.draft.now.image free st.free_chain.0 st.table st.free_chain.1.node c.new_extent.«new».draft c.put_free_ends.«new».draft c.in_ok-new_extent.ensures.ns c.new_extent.«new».free w in
    let is2 = heap_same g.now c.put_free_ends.«new».draft.image g.t files g.frees.shown in
    let low = (at_low c.args.draft.now.image free s c.args.node c.args.counts.now c.args.len g).ofs in
    let same = ap (λ (q : Place). q.1) here in
    omega (arith, low, same)

pub count_extent-requires-clause-len : goal.count_extent-requires-clause-len
count_extent-requires-clause-len c =
    let free = c.requires.stands.0 in
    let s = c.requires.stands.1.0 in
    let st = c.requires.stands.1.1 in
    let f = frees_of c.args.draft.now.image free s c.args.node c.args.counts.now st c.free_ends-free.result (c.free_ends-free.ensures free st.free_chain.0 st.free_chain.1.node) in
    let made = c.in_ok-new_extent.ensures.ok free s.heap (s.extents free) f (λ e. st.is_node.isnt_free (sym c.name_of-name.ensures ∙ e)) in
    let g = grows c.args.draft.now.image free s c.args.node c.args.counts.now st c.new_extent.«new».draft.image c.new_extent.«new».free c.name_of-name.result c.args.len c.in_ok-new_extent.field-0 c.name_of-name.ensures made in
    let at : Place = (c.spot_of-at.result.file, c.spot_of-at.result.ofs) in
    let here : g.e ≡ at = c.spot_of-at.ensures g.e made.1.1.1.1.0 (at_low c.args.draft.now.image free s c.args.node c.args.counts.now c.args.len g) in
    let hfc = subst (λ (ns : List ℕ). HasFreeChain ns free st.free_chain.0) (sym c.in_ok-new_extent.ensures.ns) st.free_chain.1.node in
    let w = c.in_ok-put_free_ends.ensures.written free st.free_chain.0 hfc in
    let lens = ends_lengths c.args.draft.now.image free st.free_chain.0 st.table st.free_chain.1.node c.new_extent.«new».draft c.put_free_ends.«new».draft c.in_ok-new_extent.ensures.ns c.new_extent.«new».free w in
    let files = ends_files c.args.draft.now.image free st.free_chain.0 st.table st.free_chain.1.node c.new_extent.«new».draft c.put_free_ends.«new».draft c.in_ok-new_extent.ensures.ns c.new_extent.«new».free w in
    let is2 = heap_same g.now c.put_free_ends.«new».draft.image g.t files g.frees.shown in
    let fl : FitsSigned w32 c.read_extent.result.len = search rules in
    let long : c.natural-long.result ≡ g.n = same_number c.natural-long.result g.n (sym c.natural-long.ensures ∙ to_z-of_z w32 c.read_extent.result.len fl ∙ at_len c.args.draft.now.image free s c.args.node c.args.counts.now c.args.len g c.put_free_ends.«new».draft.image is2 at here c.read_extent.result c.read_extent.ensures) in
    let short = n_short c.args.draft.now.image free s c.args.node c.args.counts.now c.args.len g in
    omega (arith, long, short)

pub returns-clause-ok : goal.returns-clause-ok
returns-clause-ok c = λ free s st.
    let f = frees_of c.args.draft.now.image free s c.args.node c.args.counts.now st c.free_ends-free.result (c.free_ends-free.ensures free st.free_chain.0 st.free_chain.1.node) in
    let made = c.in_ok-new_extent.ensures.ok free s.heap (s.extents free) f (λ e. st.is_node.isnt_free (sym c.name_of-name.ensures ∙ e)) in
    let g = grows c.args.draft.now.image free s c.args.node c.args.counts.now st c.new_extent.«new».draft.image c.new_extent.«new».free c.name_of-name.result c.args.len c.in_ok-new_extent.field-0 c.name_of-name.ensures made in
    let at : Place = (c.spot_of-at.result.file, c.spot_of-at.result.ofs) in
    let here : g.e ≡ at = c.spot_of-at.ensures g.e made.1.1.1.1.0 (at_low c.args.draft.now.image free s c.args.node c.args.counts.now c.args.len g) in
    let hfc = subst (λ (ns : List ℕ). HasFreeChain ns free st.free_chain.0) (sym c.in_ok-new_extent.ensures.ns) st.free_chain.1.node in
    let w = c.in_ok-put_free_ends.ensures.written free st.free_chain.0 hfc in
    let lens = ends_lengths c.args.draft.now.image free st.free_chain.0 st.table st.free_chain.1.node c.new_extent.«new».draft c.put_free_ends.«new».draft c.in_ok-new_extent.ensures.ns c.new_extent.«new».free w in
    let files = ends_files c.args.draft.now.image free st.free_chain.0 st.table st.free_chain.1.node c.new_extent.«new».draft c.put_free_ends.«new».draft c.in_ok-new_extent.ensures.ns c.new_extent.«new».free w in
    let is2 = heap_same g.now c.put_free_ends.«new».draft.image g.t files g.frees.shown in
    let fl : FitsSigned w32 c.read_extent.result.len = search rules in
    let long : c.natural-long.result ≡ g.n = same_number c.natural-long.result g.n (sym c.natural-long.ensures ∙ to_z-of_z w32 c.read_extent.result.len fl ∙ at_len c.args.draft.now.image free s c.args.node c.args.counts.now c.args.len g c.put_free_ends.«new».draft.image is2 at here c.read_extent.result c.read_extent.ensures) in
    let right : c.list_of-list.result ≡ list_for (g.n - 176) = c.list_of-list.ensures.is ∙ ap (λ (n : ℕ). list_for (n - 176)) long in
    let there = c.list_of-list.ensures.there in
    let low : list_for (g.n - 176) < 19 = subst (λ (n : ℕ). n < 19) right there in
    let nineteen : length c.args.counts.now.deleted ≡ 19 = search rules in
    let head = get_or_default c.args.counts.now.deleted c.list_of-list.result c.index-counts-list.result null (omega (arith, there, nineteen)) ∙ ap (λ (i : ℕ). slice_index_or c.args.counts.now.deleted i null) right ∙ st.own.heads (list_for (g.n - 176)) low in
    let heap = c.in_ok-link_extent.ensures.heap (last_of (s.extents (name_at c.args.draft.now.image c.args.node))) g.t st.own.last (last_low c.args.draft.now.image free s c.args.node c.args.counts.now c.args.len g c.put_free_ends.«new».draft.image is2 at here) is2 (last_extent c.args.draft.now.image free s c.args.node c.args.counts.now c.args.len g c.put_free_ends.«new».draft.image is2 at here) (here_extent c.args.draft.now.image free s c.args.node c.args.counts.now c.args.len g c.put_free_ends.«new».draft.image is2 at here) (here_block c.args.draft.now.image free s c.args.node c.args.counts.now c.args.len g c.put_free_ends.«new».draft.image is2 at here) in
    finished c.args.draft.now.image free s c.args.node c.args.counts.now c.args.len g c.put_free_ends.«new».draft.image lens files
    (c.in_ok-put_free_ends.ensures.table free st.free_chain.0 hfc ∙ ap (λ (ns : List ℕ). insert (table_of ns) free (record { node = st.free_chain.0.node; details = with_ends c.new_extent.«new».free st.free_chain.0.details })) c.in_ok-new_extent.ensures.ns)
    (subst (λ (ns : List ℕ). SameNames ns (ns_in c.put_free_ends.«new».draft.image)) c.in_ok-new_extent.ensures.ns c.put_free_ends.ensures.names) c.put_free_ends.ensures.kept at here c.link_extent.«new».draft.image c.in_ok-link_extent.ensures.kept
    _ c.natural-long.result c.list_of-list.result long right head heap c.count_extent.«new».counts c.count_extent.ensures.alone c.count_extent.ensures.first c.count_extent.ensures.last c.count_extent.ensures.size
    c.count_extent.ensures.head c.count_extent.ensures.heads c.count_extent.ensures.nrecords c.count_extent.ensures.datasize c.count_extent.ensures.constants

pub returns-clause-space : goal.returns-clause-space
returns-clause-space c = λ free s st no.
    c.in_ok-new_extent.ensures.space free s.heap (s.extents free) (frees_of c.args.draft.now.image free s c.args.node c.args.counts.now st c.free_ends-free.result (c.free_ends-free.ensures free st.free_chain.0 st.free_chain.1.node)) no

pub returns-clause-same : goal.returns-clause-same
returns-clause-same c =
    let free = c.requires.stands.0 in
    let s = c.requires.stands.1.0 in
    let st = c.requires.stands.1.1 in
    let hfc = subst (λ (ns : List ℕ). HasFreeChain ns free st.free_chain.0) (sym c.in_ok-new_extent.ensures.ns) st.free_chain.1.node in
    let table = c.in_ok-put_free_ends.ensures.table free st.free_chain.0 hfc ∙ ap (λ (ns : List ℕ). insert (table_of ns) free (record { node = st.free_chain.0.node; details = with_ends c.new_extent.«new».free st.free_chain.0.details })) c.in_ok-new_extent.ensures.ns in
    subst (λ (ns : List ℕ). SameConstants (ns_in c.args.draft.now.image) ns) (sym c.in_ok-link_extent.ensures.kept.ns)
    (same_constants (ns_in c.args.draft.now.image) (ns_in c.put_free_ends.«new».draft.image) free st.free_chain.0 (record { node = st.free_chain.0.node; details = with_ends c.new_extent.«new».free st.free_chain.0.details }) st.free_chain.1.node.is table refl refl)

pub returns-clause-names : goal.returns-clause-names
returns-clause-names c = subst (λ (ns : List ℕ). SameNames (ns_in c.args.draft.now.image) ns) (sym c.in_ok-link_extent.ensures.kept.ns)
    (subst (λ (ns : List ℕ). SameNames ns (ns_in c.put_free_ends.«new».draft.image)) c.in_ok-new_extent.ensures.ns c.put_free_ends.ensures.names)

pub returns-in_err-new_extent-clause-full : goal.returns-in_err-new_extent-clause-full
returns-in_err-new_extent-clause-full c =
    let p = err_from_is_err_and c.from_residual.result c.from_residual.ensures.1 in
    rw (p.1, p.2) (λ e free s st. c.in_err-new_extent.ensures.full (same_fault _ _ e) free s.heap (s.extents free) (frees_of c.args.draft.now.image free s c.args.node c.args.counts.now st c.free_ends-free.result (c.free_ends-free.ensures free st.free_chain.0 st.free_chain.1.node)))

pub returns-clause-room : goal.returns-clause-room
returns-clause-room c =
    let st = c.requires.stands.1.1 in
    let hfc = subst (λ (ns : List ℕ). HasFreeChain ns c.requires.stands.0 st.free_chain.0) (sym c.in_ok-new_extent.ensures.ns) st.free_chain.1.node in
    let w = c.in_ok-put_free_ends.ensures.written c.requires.stands.0 st.free_chain.0 hfc in
    let lens = ends_lengths c.args.draft.now.image c.requires.stands.0 st.free_chain.0 st.table st.free_chain.1.node c.new_extent.«new».draft c.put_free_ends.«new».draft c.in_ok-new_extent.ensures.ns c.new_extent.«new».free w in
    let files = ends_files c.args.draft.now.image c.requires.stands.0 st.free_chain.0 st.table st.free_chain.1.node c.new_extent.«new».draft c.put_free_ends.«new».draft c.in_ok-new_extent.ensures.ns c.new_extent.«new».free w in
    lowers_both c.args.draft.now.image c.new_extent.«new».draft.image c.link_extent.«new».draft.image (4 * c.args.len) 0 (4 * c.args.len) c.in_ok-new_extent.ensures.room
    (lowers_none c.new_extent.«new».draft.image c.link_extent.«new».draft.image 0
    (room_kept c.put_free_ends.«new».draft.image c.link_extent.«new».draft.image c.in_ok-link_extent.ensures.kept ∙ room_files c.new_extent.«new».draft.image c.put_free_ends.«new».draft.image lens files)) (omega arith)

pub returns-in_err-new_extent-clause-left : goal.returns-in_err-new_extent-clause-left
returns-in_err-new_extent-clause-left c =
    let p = err_from_is_err_and c.from_residual.result c.from_residual.ensures.1 in
    rw (p.1, p.2) (λ e. c.in_err-new_extent.ensures.left (same_fault _ _ e))
