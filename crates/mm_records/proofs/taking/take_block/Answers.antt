use Rattle.std.proofs.Common.{◌≡◌, ◌∙◌, ℤ, ◌+◌, ◌-◌, length, to_z, of_z, rules, sym, ap, subst, arith}
use Rattle.std.specs.Prelude.{FitsSigned}
use Rattle.std.specs.Int.{w32}
use Rattle.std.proofs.lemmas.Int.{to_z-of_z, to_z_pos}
use Rattle.mm_links.specs.Links.{last_of}
use Rattle.mm_base.specs.declared.place.DiskLoc.{DiskLoc}
use Rattle.mm_frames.specs.declared.deleted_header.DeletedHeader.{DeletedHeader}
use Rattle.mm_extents.specs.Heap.{IsHeap}
use Rattle.mm_extents.specs.Changes.{ofs_or}
use Rattle.mm_extents.proofs.Fields.{keeps_both}
use Rattle.mm_records.specs.Taking.{list_passed}
use Rattle.mm_records.proofs.Passing.{kept_by}
use Rattle.mm_records.proofs.FreeSteps.{nonneg, same_number}
use Rattle.mm_records.proofs.TakeSteps.{inside, place, low, head_is, len_is, ext_some, before, before_low, before_block, pass_asks, few, small, last_asks, live_asks, forward_asks, back_asks, heap4, stands_taken, is_taken_now}
use Rattle.mm_records.proofs.taking.take_block.Goals as goal

pub read_deleted-head-requires : goal.read_deleted-head-requires
read_deleted-head-requires c = let i = inside c.args.draft.now.image c.requires.0 c.requires.1.0 c.args.node c.args.counts.now c.requires.1.1.0 c.args.block.list c.args.block.before (c.args.block.at.file, c.args.block.at.ofs) c.requires.1.1.1.0 c.requires.1.1.1.1 in omega (arith, i)

pub natural-ext-requires : goal.natural-ext-requires
natural-ext-requires c =
    let f : FitsSigned w32 c.read_deleted-head.result.extent_ofs = search rules in
    let head = head_is c.args.draft.now.image c.requires.0 c.requires.1.0 c.args.node c.args.counts.now c.requires.1.1.0 c.args.block.list c.args.block.before (c.args.block.at.file, c.args.block.at.ofs) c.requires.1.1.1.0 c.requires.1.1.1.1 c.read_deleted-head.result c.read_deleted-head.ensures in
    nonneg _ _ (to_z-of_z w32 c.read_deleted-head.result.extent_ofs f ∙ ap (λ (h : DeletedHeader). h.extent_ofs) head ∙ ext_some c.args.draft.now.image c.requires.0 c.requires.1.0 c.args.node c.args.counts.now c.requires.1.1.0 c.args.block.list c.args.block.before (c.args.block.at.file, c.args.block.at.ofs) c.requires.1.1.1.0 c.requires.1.1.1.1)

pub last_ofs-prev-requires : goal.last_ofs-prev-requires
last_ofs-prev-requires c =
    let fe : FitsSigned w32 c.read_deleted-head.result.extent_ofs = search rules in
    let head = head_is c.args.draft.now.image c.requires.0 c.requires.1.0 c.args.node c.args.counts.now c.requires.1.1.0 c.args.block.list c.args.block.before (c.args.block.at.file, c.args.block.at.ofs) c.requires.1.1.1.0 c.requires.1.1.1.1 c.read_deleted-head.result c.read_deleted-head.ensures in
    let ext = ap (λ (h : DeletedHeader). h.extent_ofs) (sym head) ∙ sym (to_z-of_z w32 c.read_deleted-head.result.extent_ofs fe) ∙ c.natural-ext.ensures in
    (last_of (c.requires.1.0.records (c.args.block.at.file, c.natural-ext.result)), last_asks c.args.draft.now.image c.requires.0 c.requires.1.0 c.args.node c.args.counts.now c.requires.1.1.0 c.args.block.list c.args.block.before (c.args.block.at.file, c.args.block.at.ofs) c.requires.1.1.1.0 c.requires.1.1.1.1 c.natural-ext.result ext)

pub overflow_cast-here : goal.overflow_cast-here
overflow_cast-here c = let l = (low c.args.draft.now.image c.requires.0 c.requires.1.0 c.args.node c.args.counts.now c.requires.1.1.0 c.args.block.list c.args.block.before (c.args.block.at.file, c.args.block.at.ofs) c.requires.1.1.1.0 c.requires.1.1.1.1).ofs in record { sfits = omega (arith, l) }

pub pass_block-requires : goal.pass_block-requires
pass_block-requires c = pass_asks c.args.draft.now.image c.requires.0 c.requires.1.0 c.args.node c.args.counts.now c.requires.1.1.0 c.args.block.list c.args.block.before (c.args.block.at.file, c.args.block.at.ofs) c.requires.1.1.1.0 c.requires.1.1.1.1

pub set_live-requires : goal.set_live-requires
set_live-requires c =
    let fe : FitsSigned w32 c.read_deleted-head.result.extent_ofs = search rules in
    let head = head_is c.args.draft.now.image c.requires.0 c.requires.1.0 c.args.node c.args.counts.now c.requires.1.1.0 c.args.block.list c.args.block.before (c.args.block.at.file, c.args.block.at.ofs) c.requires.1.1.1.0 c.requires.1.1.1.1 c.read_deleted-head.result c.read_deleted-head.ensures in
    let ext = ap (λ (h : DeletedHeader). h.extent_ofs) (sym head) ∙ sym (to_z-of_z w32 c.read_deleted-head.result.extent_ofs fe) ∙ c.natural-ext.ensures in
    let z : ℤ = to_z w32 (of_z w32 c.last_ofs-prev.result) in
    let fz : FitsSigned w32 c.last_ofs-prev.result = search rules in
    let prev : z ≡ ofs_or (last_of (c.requires.1.0.records (c.args.block.at.file, c.natural-ext.result))) = to_z-of_z w32 c.last_ofs-prev.result fz ∙ c.last_ofs-prev.ensures _ (last_asks c.args.draft.now.image c.requires.0 c.requires.1.0 c.args.node c.args.counts.now c.requires.1.1.0 c.args.block.list c.args.block.before (c.args.block.at.file, c.args.block.at.ofs) c.requires.1.1.1.0 c.requires.1.1.1.1 c.natural-ext.result ext) in
    let heap1 : IsHeap c.pass_block.«new».draft.image (list_passed (before c.args.draft.now.image c.requires.0 c.requires.1.0 c.args.node c.args.counts.now c.requires.1.1.0 c.args.block.list c.args.block.before (c.args.block.at.file, c.args.block.at.ofs) c.requires.1.1.1.0 c.requires.1.1.1.1) c.requires.1.1.1.1.h.next_deleted c.requires.1.0.heap) = subst (λ (x : DiskLoc). IsHeap c.pass_block.«new».draft.image (list_passed (before c.args.draft.now.image c.requires.0 c.requires.1.0 c.args.node c.args.counts.now c.requires.1.1.0 c.args.block.list c.args.block.before (c.args.block.at.file, c.args.block.at.ofs) c.requires.1.1.1.0 c.requires.1.1.1.1) x c.requires.1.0.heap)) (ap (λ (h : DeletedHeader). h.next_deleted) head)
    (c.in_ok-pass_block.ensures.heap (before c.args.draft.now.image c.requires.0 c.requires.1.0 c.args.node c.args.counts.now c.requires.1.1.0 c.args.block.list c.args.block.before (c.args.block.at.file, c.args.block.at.ofs) c.requires.1.1.1.0 c.requires.1.1.1.1) c.requires.1.0.heap c.requires.1.1.1.1.link_is (before_low c.args.draft.now.image c.requires.0 c.requires.1.0 c.args.node c.args.counts.now c.requires.1.1.0 c.args.block.list c.args.block.before (c.args.block.at.file, c.args.block.at.ofs) c.requires.1.1.1.0 c.requires.1.1.1.1) c.requires.1.1.1.0.heap (before_block c.args.draft.now.image c.requires.0 c.requires.1.0 c.args.node c.args.counts.now c.requires.1.1.0 c.args.block.list c.args.block.before (c.args.block.at.file, c.args.block.at.ofs) c.requires.1.1.1.0 c.requires.1.1.1.1)) in
    live_asks c.args.draft.now.image c.requires.0 c.requires.1.0 c.args.node c.args.counts.now c.requires.1.1.0 c.args.block.list c.args.block.before (c.args.block.at.file, c.args.block.at.ofs) c.requires.1.1.1.0 c.requires.1.1.1.1 c.natural-ext.result ext z prev c.pass_block.«new».draft.image heap1 c.in_ok-pass_block.ensures.kept

pub pass_forward-requires : goal.pass_forward-requires
pass_forward-requires c =
    let fe : FitsSigned w32 c.read_deleted-head.result.extent_ofs = search rules in
    let head = head_is c.args.draft.now.image c.requires.0 c.requires.1.0 c.args.node c.args.counts.now c.requires.1.1.0 c.args.block.list c.args.block.before (c.args.block.at.file, c.args.block.at.ofs) c.requires.1.1.1.0 c.requires.1.1.1.1 c.read_deleted-head.result c.read_deleted-head.ensures in
    let ext = ap (λ (h : DeletedHeader). h.extent_ofs) (sym head) ∙ sym (to_z-of_z w32 c.read_deleted-head.result.extent_ofs fe) ∙ c.natural-ext.ensures in
    let z : ℤ = to_z w32 (of_z w32 c.last_ofs-prev.result) in
    let fz : FitsSigned w32 c.last_ofs-prev.result = search rules in
    let prev : z ≡ ofs_or (last_of (c.requires.1.0.records (c.args.block.at.file, c.natural-ext.result))) = to_z-of_z w32 c.last_ofs-prev.result fz ∙ c.last_ofs-prev.ensures _ (last_asks c.args.draft.now.image c.requires.0 c.requires.1.0 c.args.node c.args.counts.now c.requires.1.1.0 c.args.block.list c.args.block.before (c.args.block.at.file, c.args.block.at.ofs) c.requires.1.1.1.0 c.requires.1.1.1.1 c.natural-ext.result ext) in
    let heap1 : IsHeap c.pass_block.«new».draft.image (list_passed (before c.args.draft.now.image c.requires.0 c.requires.1.0 c.args.node c.args.counts.now c.requires.1.1.0 c.args.block.list c.args.block.before (c.args.block.at.file, c.args.block.at.ofs) c.requires.1.1.1.0 c.requires.1.1.1.1) c.requires.1.1.1.1.h.next_deleted c.requires.1.0.heap) = subst (λ (x : DiskLoc). IsHeap c.pass_block.«new».draft.image (list_passed (before c.args.draft.now.image c.requires.0 c.requires.1.0 c.args.node c.args.counts.now c.requires.1.1.0 c.args.block.list c.args.block.before (c.args.block.at.file, c.args.block.at.ofs) c.requires.1.1.1.0 c.requires.1.1.1.1) x c.requires.1.0.heap)) (ap (λ (h : DeletedHeader). h.next_deleted) head)
    (c.in_ok-pass_block.ensures.heap (before c.args.draft.now.image c.requires.0 c.requires.1.0 c.args.node c.args.counts.now c.requires.1.1.0 c.args.block.list c.args.block.before (c.args.block.at.file, c.args.block.at.ofs) c.requires.1.1.1.0 c.requires.1.1.1.1) c.requires.1.0.heap c.requires.1.1.1.1.link_is (before_low c.args.draft.now.image c.requires.0 c.requires.1.0 c.args.node c.args.counts.now c.requires.1.1.0 c.args.block.list c.args.block.before (c.args.block.at.file, c.args.block.at.ofs) c.requires.1.1.1.0 c.requires.1.1.1.1) c.requires.1.1.1.0.heap (before_block c.args.draft.now.image c.requires.0 c.requires.1.0 c.args.node c.args.counts.now c.requires.1.1.0 c.args.block.list c.args.block.before (c.args.block.at.file, c.args.block.at.ofs) c.requires.1.1.1.0 c.requires.1.1.1.1)) in
    forward_asks c.args.draft.now.image c.requires.0 c.requires.1.0 c.args.node c.args.counts.now c.requires.1.1.0 c.args.block.list c.args.block.before (c.args.block.at.file, c.args.block.at.ofs) c.requires.1.1.1.0 c.requires.1.1.1.1 c.natural-ext.result ext z prev c.pass_block.«new».draft.image heap1 c.in_ok-pass_block.ensures.kept c.set_live.«new».draft.image c.in_ok-set_live.ensures.heap

pub pass_back-requires : goal.pass_back-requires
pass_back-requires c =
    let fe : FitsSigned w32 c.read_deleted-head.result.extent_ofs = search rules in
    let head = head_is c.args.draft.now.image c.requires.0 c.requires.1.0 c.args.node c.args.counts.now c.requires.1.1.0 c.args.block.list c.args.block.before (c.args.block.at.file, c.args.block.at.ofs) c.requires.1.1.1.0 c.requires.1.1.1.1 c.read_deleted-head.result c.read_deleted-head.ensures in
    let ext = ap (λ (h : DeletedHeader). h.extent_ofs) (sym head) ∙ sym (to_z-of_z w32 c.read_deleted-head.result.extent_ofs fe) ∙ c.natural-ext.ensures in
    let z : ℤ = to_z w32 (of_z w32 c.last_ofs-prev.result) in
    let fz : FitsSigned w32 c.last_ofs-prev.result = search rules in
    let prev : z ≡ ofs_or (last_of (c.requires.1.0.records (c.args.block.at.file, c.natural-ext.result))) = to_z-of_z w32 c.last_ofs-prev.result fz ∙ c.last_ofs-prev.ensures _ (last_asks c.args.draft.now.image c.requires.0 c.requires.1.0 c.args.node c.args.counts.now c.requires.1.1.0 c.args.block.list c.args.block.before (c.args.block.at.file, c.args.block.at.ofs) c.requires.1.1.1.0 c.requires.1.1.1.1 c.natural-ext.result ext) in
    let heap1 : IsHeap c.pass_block.«new».draft.image (list_passed (before c.args.draft.now.image c.requires.0 c.requires.1.0 c.args.node c.args.counts.now c.requires.1.1.0 c.args.block.list c.args.block.before (c.args.block.at.file, c.args.block.at.ofs) c.requires.1.1.1.0 c.requires.1.1.1.1) c.requires.1.1.1.1.h.next_deleted c.requires.1.0.heap) = subst (λ (x : DiskLoc). IsHeap c.pass_block.«new».draft.image (list_passed (before c.args.draft.now.image c.requires.0 c.requires.1.0 c.args.node c.args.counts.now c.requires.1.1.0 c.args.block.list c.args.block.before (c.args.block.at.file, c.args.block.at.ofs) c.requires.1.1.1.0 c.requires.1.1.1.1) x c.requires.1.0.heap)) (ap (λ (h : DeletedHeader). h.next_deleted) head)
    (c.in_ok-pass_block.ensures.heap (before c.args.draft.now.image c.requires.0 c.requires.1.0 c.args.node c.args.counts.now c.requires.1.1.0 c.args.block.list c.args.block.before (c.args.block.at.file, c.args.block.at.ofs) c.requires.1.1.1.0 c.requires.1.1.1.1) c.requires.1.0.heap c.requires.1.1.1.1.link_is (before_low c.args.draft.now.image c.requires.0 c.requires.1.0 c.args.node c.args.counts.now c.requires.1.1.0 c.args.block.list c.args.block.before (c.args.block.at.file, c.args.block.at.ofs) c.requires.1.1.1.0 c.requires.1.1.1.1) c.requires.1.1.1.0.heap (before_block c.args.draft.now.image c.requires.0 c.requires.1.0 c.args.node c.args.counts.now c.requires.1.1.0 c.args.block.list c.args.block.before (c.args.block.at.file, c.args.block.at.ofs) c.requires.1.1.1.0 c.requires.1.1.1.1)) in
    let l = (low c.args.draft.now.image c.requires.0 c.requires.1.0 c.args.node c.args.counts.now c.requires.1.1.0 c.args.block.list c.args.block.before (c.args.block.at.file, c.args.block.at.ofs) c.requires.1.1.1.0 c.requires.1.1.1.1).ofs in
    let here = to_z_pos w32 c.args.block.at.ofs (omega (arith, l)) in
    back_asks c.args.draft.now.image c.requires.0 c.requires.1.0 c.args.node c.args.counts.now c.requires.1.1.0 c.args.block.list c.args.block.before (c.args.block.at.file, c.args.block.at.ofs) c.requires.1.1.1.0 c.requires.1.1.1.1 c.natural-ext.result ext z prev c.pass_block.«new».draft.image heap1 c.in_ok-pass_block.ensures.kept c.set_live.«new».draft.image c.in_ok-set_live.ensures.heap _ here c.pass_forward.«new».draft.image c.in_ok-pass_forward.ensures.heap

pub natural-requires : goal.natural-requires
natural-requires c =
    let f : FitsSigned w32 c.read_deleted-head.result.length_with_headers = search rules in
    let head = head_is c.args.draft.now.image c.requires.0 c.requires.1.0 c.args.node c.args.counts.now c.requires.1.1.0 c.args.block.list c.args.block.before (c.args.block.at.file, c.args.block.at.ofs) c.requires.1.1.1.0 c.requires.1.1.1.1 c.read_deleted-head.result c.read_deleted-head.ensures in
    nonneg _ _ (to_z-of_z w32 c.read_deleted-head.result.length_with_headers f ∙ ap (λ (h : DeletedHeader). h.length_with_headers) head ∙ len_is c.args.draft.now.image c.requires.0 c.requires.1.0 c.args.node c.args.counts.now c.requires.1.1.0 c.args.block.list c.args.block.before (c.args.block.at.file, c.args.block.at.ofs) c.requires.1.1.1.0 c.requires.1.1.1.1)

pub overflow_sub-natural : goal.overflow_sub-natural
overflow_sub-natural c =
    let fl : FitsSigned w32 c.read_deleted-head.result.length_with_headers = search rules in
    let head2 = head_is c.args.draft.now.image c.requires.0 c.requires.1.0 c.args.node c.args.counts.now c.requires.1.1.0 c.args.block.list c.args.block.before (c.args.block.at.file, c.args.block.at.ofs) c.requires.1.1.1.0 c.requires.1.1.1.1 c.read_deleted-head.result c.read_deleted-head.ensures in
    let long : 16 + length c.requires.1.1.1.1.rest ≡ c.natural.result = same_number (16 + length c.requires.1.1.1.1.rest) c.natural.result (sym (len_is c.args.draft.now.image c.requires.0 c.requires.1.0 c.args.node c.args.counts.now c.requires.1.1.0 c.args.block.list c.args.block.before (c.args.block.at.file, c.args.block.at.ofs) c.requires.1.1.1.0 c.requires.1.1.1.1) ∙ ap (λ (h : DeletedHeader). h.length_with_headers) (sym head2) ∙ sym (to_z-of_z w32 c.read_deleted-head.result.length_with_headers fl) ∙ c.natural.ensures) in
    omega (arith, long)

pub count_in-requires-clause-few : goal.count_in-requires-clause-few
count_in-requires-clause-few c = few c.args.draft.now.image c.requires.0 c.requires.1.0 c.args.node c.args.counts.now c.requires.1.1.0 c.args.block.list c.args.block.before (c.args.block.at.file, c.args.block.at.ofs) c.requires.1.1.1.0 c.requires.1.1.1.1

pub count_in-requires-clause-small : goal.count_in-requires-clause-small
count_in-requires-clause-small c = small c.args.draft.now.image c.requires.0 c.requires.1.0 c.args.node c.args.counts.now c.requires.1.1.0 c.args.block.list c.args.block.before (c.args.block.at.file, c.args.block.at.ofs) c.requires.1.1.1.0 c.requires.1.1.1.1

pub returns-clause-kept : goal.returns-clause-kept
returns-clause-kept c =
    let fe : FitsSigned w32 c.read_deleted-head.result.extent_ofs = search rules in
    let head = head_is c.args.draft.now.image c.requires.0 c.requires.1.0 c.args.node c.args.counts.now c.requires.1.1.0 c.args.block.list c.args.block.before (c.args.block.at.file, c.args.block.at.ofs) c.requires.1.1.1.0 c.requires.1.1.1.1 c.read_deleted-head.result c.read_deleted-head.ensures in
    let ext = ap (λ (h : DeletedHeader). h.extent_ofs) (sym head) ∙ sym (to_z-of_z w32 c.read_deleted-head.result.extent_ofs fe) ∙ c.natural-ext.ensures in
    let z : ℤ = to_z w32 (of_z w32 c.last_ofs-prev.result) in
    let fz : FitsSigned w32 c.last_ofs-prev.result = search rules in
    let prev : z ≡ ofs_or (last_of (c.requires.1.0.records (c.args.block.at.file, c.natural-ext.result))) = to_z-of_z w32 c.last_ofs-prev.result fz ∙ c.last_ofs-prev.ensures _ (last_asks c.args.draft.now.image c.requires.0 c.requires.1.0 c.args.node c.args.counts.now c.requires.1.1.0 c.args.block.list c.args.block.before (c.args.block.at.file, c.args.block.at.ofs) c.requires.1.1.1.0 c.requires.1.1.1.1 c.natural-ext.result ext) in
    let heap1 : IsHeap c.pass_block.«new».draft.image (list_passed (before c.args.draft.now.image c.requires.0 c.requires.1.0 c.args.node c.args.counts.now c.requires.1.1.0 c.args.block.list c.args.block.before (c.args.block.at.file, c.args.block.at.ofs) c.requires.1.1.1.0 c.requires.1.1.1.1) c.requires.1.1.1.1.h.next_deleted c.requires.1.0.heap) = subst (λ (x : DiskLoc). IsHeap c.pass_block.«new».draft.image (list_passed (before c.args.draft.now.image c.requires.0 c.requires.1.0 c.args.node c.args.counts.now c.requires.1.1.0 c.args.block.list c.args.block.before (c.args.block.at.file, c.args.block.at.ofs) c.requires.1.1.1.0 c.requires.1.1.1.1) x c.requires.1.0.heap)) (ap (λ (h : DeletedHeader). h.next_deleted) head)
    (c.in_ok-pass_block.ensures.heap (before c.args.draft.now.image c.requires.0 c.requires.1.0 c.args.node c.args.counts.now c.requires.1.1.0 c.args.block.list c.args.block.before (c.args.block.at.file, c.args.block.at.ofs) c.requires.1.1.1.0 c.requires.1.1.1.1) c.requires.1.0.heap c.requires.1.1.1.1.link_is (before_low c.args.draft.now.image c.requires.0 c.requires.1.0 c.args.node c.args.counts.now c.requires.1.1.0 c.args.block.list c.args.block.before (c.args.block.at.file, c.args.block.at.ofs) c.requires.1.1.1.0 c.requires.1.1.1.1) c.requires.1.1.1.0.heap (before_block c.args.draft.now.image c.requires.0 c.requires.1.0 c.args.node c.args.counts.now c.requires.1.1.0 c.args.block.list c.args.block.before (c.args.block.at.file, c.args.block.at.ofs) c.requires.1.1.1.0 c.requires.1.1.1.1)) in
    let pl = place c.args.draft.now.image c.requires.0 c.requires.1.0 c.args.node c.args.counts.now c.requires.1.1.0 c.args.block.list c.args.block.before (c.args.block.at.file, c.args.block.at.ofs) c.requires.1.1.1.0 c.requires.1.1.1.1 in
    let inside2 = live_asks c.args.draft.now.image c.requires.0 c.requires.1.0 c.args.node c.args.counts.now c.requires.1.1.0 c.args.block.list c.args.block.before (c.args.block.at.file, c.args.block.at.ofs) c.requires.1.1.1.0 c.requires.1.1.1.1 c.natural-ext.result ext z prev c.pass_block.«new».draft.image heap1 c.in_ok-pass_block.ensures.kept in
    let kept = keeps_both c.args.draft.now.image c.pass_forward.«new».draft.image c.pass_back.«new».draft.image (keeps_both c.args.draft.now.image c.set_live.«new».draft.image c.pass_forward.«new».draft.image
    (keeps_both c.args.draft.now.image c.pass_block.«new».draft.image c.set_live.«new».draft.image c.in_ok-pass_block.ensures.kept (kept_by c.pass_block.«new».draft c.set_live.«new».draft c.args.block.at.file c.args.block.at.ofs 16 c.in_ok-set_live.ensures.written (record { data_file = pl.data_file; behind = pl.behind; inside = inside2 })))
    c.in_ok-pass_forward.ensures.kept) c.in_ok-pass_back.ensures.kept in
    kept

pub returns-clause-ok : goal.returns-clause-ok
returns-clause-ok c = λ free s r st b.
    let fe : FitsSigned w32 c.read_deleted-head.result.extent_ofs = search rules in
    let head = head_is c.args.draft.now.image free s c.args.node c.args.counts.now r c.args.block.list c.args.block.before (c.args.block.at.file, c.args.block.at.ofs) st b c.read_deleted-head.result c.read_deleted-head.ensures in
    let ext = ap (λ (h : DeletedHeader). h.extent_ofs) (sym head) ∙ sym (to_z-of_z w32 c.read_deleted-head.result.extent_ofs fe) ∙ c.natural-ext.ensures in
    let z : ℤ = to_z w32 (of_z w32 c.last_ofs-prev.result) in
    let fz : FitsSigned w32 c.last_ofs-prev.result = search rules in
    let prev : z ≡ ofs_or (last_of (s.records (c.args.block.at.file, c.natural-ext.result))) = to_z-of_z w32 c.last_ofs-prev.result fz ∙ c.last_ofs-prev.ensures _ (last_asks c.args.draft.now.image free s c.args.node c.args.counts.now r c.args.block.list c.args.block.before (c.args.block.at.file, c.args.block.at.ofs) st b c.natural-ext.result ext) in
    let heap1 : IsHeap c.pass_block.«new».draft.image (list_passed (before c.args.draft.now.image free s c.args.node c.args.counts.now r c.args.block.list c.args.block.before (c.args.block.at.file, c.args.block.at.ofs) st b) b.h.next_deleted s.heap) = subst (λ (x : DiskLoc). IsHeap c.pass_block.«new».draft.image (list_passed (before c.args.draft.now.image free s c.args.node c.args.counts.now r c.args.block.list c.args.block.before (c.args.block.at.file, c.args.block.at.ofs) st b) x s.heap)) (ap (λ (h : DeletedHeader). h.next_deleted) head)
    (c.in_ok-pass_block.ensures.heap (before c.args.draft.now.image free s c.args.node c.args.counts.now r c.args.block.list c.args.block.before (c.args.block.at.file, c.args.block.at.ofs) st b) s.heap b.link_is (before_low c.args.draft.now.image free s c.args.node c.args.counts.now r c.args.block.list c.args.block.before (c.args.block.at.file, c.args.block.at.ofs) st b) st.heap (before_block c.args.draft.now.image free s c.args.node c.args.counts.now r c.args.block.list c.args.block.before (c.args.block.at.file, c.args.block.at.ofs) st b)) in
    let l = (low c.args.draft.now.image free s c.args.node c.args.counts.now r c.args.block.list c.args.block.before (c.args.block.at.file, c.args.block.at.ofs) st b).ofs in
    let here = to_z_pos w32 c.args.block.at.ofs (omega (arith, l)) in
    let fl : FitsSigned w32 c.read_deleted-head.result.length_with_headers = search rules in
    let head2 = head_is c.args.draft.now.image free s c.args.node c.args.counts.now r c.args.block.list c.args.block.before (c.args.block.at.file, c.args.block.at.ofs) st b c.read_deleted-head.result c.read_deleted-head.ensures in
    let long : 16 + length b.rest ≡ c.natural.result = same_number (16 + length b.rest) c.natural.result (sym (len_is c.args.draft.now.image free s c.args.node c.args.counts.now r c.args.block.list c.args.block.before (c.args.block.at.file, c.args.block.at.ofs) st b) ∙ ap (λ (h : DeletedHeader). h.length_with_headers) (sym head2) ∙ sym (to_z-of_z w32 c.read_deleted-head.result.length_with_headers fl) ∙ c.natural.ensures) in
    let pl = place c.args.draft.now.image free s c.args.node c.args.counts.now r c.args.block.list c.args.block.before (c.args.block.at.file, c.args.block.at.ofs) st b in
    let inside2 = live_asks c.args.draft.now.image free s c.args.node c.args.counts.now r c.args.block.list c.args.block.before (c.args.block.at.file, c.args.block.at.ofs) st b c.natural-ext.result ext z prev c.pass_block.«new».draft.image heap1 c.in_ok-pass_block.ensures.kept in
    let kept = keeps_both c.args.draft.now.image c.pass_forward.«new».draft.image c.pass_back.«new».draft.image (keeps_both c.args.draft.now.image c.set_live.«new».draft.image c.pass_forward.«new».draft.image
    (keeps_both c.args.draft.now.image c.pass_block.«new».draft.image c.set_live.«new».draft.image c.in_ok-pass_block.ensures.kept (kept_by c.pass_block.«new».draft c.set_live.«new».draft c.args.block.at.file c.args.block.at.ofs 16 c.in_ok-set_live.ensures.written (record { data_file = pl.data_file; behind = pl.behind; inside = inside2 })))
    c.in_ok-pass_forward.ensures.kept) c.in_ok-pass_back.ensures.kept in
    let heap = heap4 c.args.draft.now.image free s c.args.node c.args.counts.now r c.args.block.list c.args.block.before (c.args.block.at.file, c.args.block.at.ofs) st b c.natural-ext.result ext z prev c.pass_block.«new».draft.image heap1 c.in_ok-pass_block.ensures.kept c.set_live.«new».draft.image c.in_ok-set_live.ensures.heap _ here c.pass_forward.«new».draft.image c.in_ok-pass_forward.ensures.heap c.pass_back.«new».draft.image c.in_ok-pass_back.ensures.heap in (
      _,
      (
        stands_taken c.args.draft.now.image free s c.args.node c.args.counts.now r c.args.block.list c.args.block.before (c.args.block.at.file, c.args.block.at.ofs) st b c.natural-ext.result ext c.count_in.«new».counts c.pass_back.«new».draft.image kept heap c.read_deleted-head.result.next_deleted (ap (λ (h : DeletedHeader). h.next_deleted) head) (c.natural.result - 16) (omega (arith, long))
            c.count_in.ensures.head c.count_in.ensures.linked c.count_in.ensures.heads c.count_in.ensures.first c.count_in.ensures.last c.count_in.ensures.nrecords c.count_in.ensures.datasize c.count_in.ensures.size c.count_in.ensures.constants,
        is_taken_now c.args.draft.now.image free s c.args.node c.args.counts.now r c.args.block.list c.args.block.before (c.args.block.at.file, c.args.block.at.ofs) st b c.natural-ext.result ext,
      ),
    )
