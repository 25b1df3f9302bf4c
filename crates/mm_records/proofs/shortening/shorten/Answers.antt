use Rattle.std.proofs.Common.{◌≡◌, ◌∙◌, ℕ, pos, ◌+◌, ◌-◌, ◌<◌, ◌≤◌, length, to_z, rules, sym, ap, subst, arith}
use Rattle.std.specs.Prelude.{FitsSigned, slice_index_or, ◌==◌, sum_by}
use Rattle.std.specs.Int.{w32}
use Rattle.std.proofs.lemmas.Int.{to_z-of_z, to_z_pos}
use Rattle.std.proofs.lemmas.List.{get_or_default}
use Rattle.mm_base.specs.Places.{null}
use Rattle.mm_links.specs.Links.{Place}
use Rattle.mm_frames.specs.declared.rec_header.RecHeader.{RecHeader}
use Rattle.mm_frames.specs.declared.deleted_header.DeletedHeader.{DeletedHeader}
use Rattle.mm_extents.specs.Heap.{live, IsHeap}
use Rattle.mm_extents.specs.Changes.{front_of, rest_of, behind_of, put_two}
use Rattle.mm_extents.proofs.FileLaws.{short_file}
use Rattle.mm_records.specs.Shape.{list_for}
use Rattle.mm_frames.specs.declared.details.Details.{Details}
use Rattle.mm_records.specs.Stands.{room_of, walk}
use Rattle.mm_records.specs.Map.{name_at}
use Rattle.mm_records.proofs.FreeSteps.{nonneg, same_number}
use Rattle.mm_records.proofs.Shortened.{own, here, len_is, new, size_less, own_details, is_shortened, stands_shortened}
use Rattle.mm_records.proofs.shortening.shorten.Goals as goal

large : (d : Details) (m k l : ℕ) → d.datasize ≡ pos (m + k) → k ≡ l → (n : ℕ) × (d.datasize ≡ pos (n + l))
large d m k l e f = (m, e ∙ ap (λ (x : ℕ). pos (m + x)) f)

pub read_record-head-requires : goal.read_record-head-requires
read_record-head-requires c =
    let p : Place = (c.args.at.file, c.args.at.ofs) in
    let o = own c.args.draft.now.image c.requires.0 c.requires.1.0 c.args.node c.args.counts.now c.requires.1.1.1.0 (c.args.at.file, c.args.at.ofs) c.requires.1.1.0 c.args.len c.requires.1.1.1.1.0 c.requires.1.1.1.1.1 in
    let inside = c.requires.1.1.1.0.heap.inside p (live o.h c.requires.1.1.0) (here c.args.draft.now.image c.requires.0 c.requires.1.0 c.args.node c.args.counts.now c.requires.1.1.1.0 (c.args.at.file, c.args.at.ofs) c.requires.1.1.0 c.args.len c.requires.1.1.1.1.0 c.requires.1.1.1.1.1) in
    omega (arith, inside)

pub natural-requires : goal.natural-requires
natural-requires c =
    let p : Place = (c.args.at.file, c.args.at.ofs) in
    let o = own c.args.draft.now.image c.requires.0 c.requires.1.0 c.args.node c.args.counts.now c.requires.1.1.1.0 (c.args.at.file, c.args.at.ofs) c.requires.1.1.0 c.args.len c.requires.1.1.1.1.0 c.requires.1.1.1.1.1 in
    let inside = c.requires.1.1.1.0.heap.inside p (live o.h c.requires.1.1.0) (here c.args.draft.now.image c.requires.0 c.requires.1.0 c.args.node c.args.counts.now c.requires.1.1.1.0 (c.args.at.file, c.args.at.ofs) c.requires.1.1.0 c.args.len c.requires.1.1.1.1.0 c.requires.1.1.1.1.1) in
    let head : c.read_record-head.result ≡ o.h = c.read_record-head.ensures ∙ (c.requires.1.1.1.0.heap.shown p (live o.h c.requires.1.1.0) (here c.args.draft.now.image c.requires.0 c.requires.1.0 c.args.node c.args.counts.now c.requires.1.1.1.0 (c.args.at.file, c.args.at.ofs) c.requires.1.1.0 c.args.len c.requires.1.1.1.1.0 c.requires.1.1.1.1.1)).0 in
    let fl : FitsSigned w32 c.read_record-head.result.length_with_headers = search rules in
    nonneg _ _ (to_z-of_z w32 c.read_record-head.result.length_with_headers fl ∙ ap (λ (h : RecHeader). h.length_with_headers) head ∙ len_is c.args.draft.now.image c.requires.0 c.requires.1.0 c.args.node c.args.counts.now c.requires.1.1.1.0 (c.args.at.file, c.args.at.ofs) c.requires.1.1.0 c.args.len c.requires.1.1.1.1.0 c.requires.1.1.1.1.1)

pub overflow_sub-rest : goal.overflow_sub-rest
overflow_sub-rest c =
    let p : Place = (c.args.at.file, c.args.at.ofs) in
    let o = own c.args.draft.now.image c.requires.0 c.requires.1.0 c.args.node c.args.counts.now c.requires.1.1.1.0 (c.args.at.file, c.args.at.ofs) c.requires.1.1.0 c.args.len c.requires.1.1.1.1.0 c.requires.1.1.1.1.1 in
    let inside = c.requires.1.1.1.0.heap.inside p (live o.h c.requires.1.1.0) (here c.args.draft.now.image c.requires.0 c.requires.1.0 c.args.node c.args.counts.now c.requires.1.1.1.0 (c.args.at.file, c.args.at.ofs) c.requires.1.1.0 c.args.len c.requires.1.1.1.1.0 c.requires.1.1.1.1.1) in
    let head : c.read_record-head.result ≡ o.h = c.read_record-head.ensures ∙ (c.requires.1.1.1.0.heap.shown p (live o.h c.requires.1.1.0) (here c.args.draft.now.image c.requires.0 c.requires.1.0 c.args.node c.args.counts.now c.requires.1.1.1.0 (c.args.at.file, c.args.at.ofs) c.requires.1.1.0 c.args.len c.requires.1.1.1.1.0 c.requires.1.1.1.1.1)).0 in
    let fl : FitsSigned w32 c.read_record-head.result.length_with_headers = search rules in
    let long : 16 + length c.requires.1.1.0 ≡ c.natural.result = same_number (16 + length c.requires.1.1.0) c.natural.result (sym (len_is c.args.draft.now.image c.requires.0 c.requires.1.0 c.args.node c.args.counts.now c.requires.1.1.1.0 (c.args.at.file, c.args.at.ofs) c.requires.1.1.0 c.args.len c.requires.1.1.1.1.0 c.requires.1.1.1.1.1) ∙ ap (λ (h : RecHeader). h.length_with_headers) (sym head) ∙ sym (to_z-of_z w32 c.read_record-head.result.length_with_headers fl) ∙ c.natural.ensures) in
    let e = c.requires.1.1.1.1.1.rest in
    omega (arith, long, e)

pub overflow_cast-block : goal.overflow_cast-block
overflow_cast-block c =
    let p : Place = (c.args.at.file, c.args.at.ofs) in
    let o = own c.args.draft.now.image c.requires.0 c.requires.1.0 c.args.node c.args.counts.now c.requires.1.1.1.0 (c.args.at.file, c.args.at.ofs) c.requires.1.1.0 c.args.len c.requires.1.1.1.1.0 c.requires.1.1.1.1.1 in
    let inside = c.requires.1.1.1.0.heap.inside p (live o.h c.requires.1.1.0) (here c.args.draft.now.image c.requires.0 c.requires.1.0 c.args.node c.args.counts.now c.requires.1.1.1.0 (c.args.at.file, c.args.at.ofs) c.requires.1.1.0 c.args.len c.requires.1.1.1.1.0 c.requires.1.1.1.1.1) in
    let head : c.read_record-head.result ≡ o.h = c.read_record-head.ensures ∙ (c.requires.1.1.1.0.heap.shown p (live o.h c.requires.1.1.0) (here c.args.draft.now.image c.requires.0 c.requires.1.0 c.args.node c.args.counts.now c.requires.1.1.1.0 (c.args.at.file, c.args.at.ofs) c.requires.1.1.0 c.args.len c.requires.1.1.1.1.0 c.requires.1.1.1.1.1)).0 in
    let fl : FitsSigned w32 c.read_record-head.result.length_with_headers = search rules in
    let long : 16 + length c.requires.1.1.0 ≡ c.natural.result = same_number (16 + length c.requires.1.1.0) c.natural.result (sym (len_is c.args.draft.now.image c.requires.0 c.requires.1.0 c.args.node c.args.counts.now c.requires.1.1.1.0 (c.args.at.file, c.args.at.ofs) c.requires.1.1.0 c.args.len c.requires.1.1.1.1.0 c.requires.1.1.1.1.1) ∙ ap (λ (h : RecHeader). h.length_with_headers) (sym head) ∙ sym (to_z-of_z w32 c.read_record-head.result.length_with_headers fl) ∙ c.natural.ensures) in
    let short = short_file c.args.draft.now.image c.requires.1.1.1.0.files c.args.at.file (c.requires.1.1.1.0.heap.data_file p (live o.h c.requires.1.1.0) (here c.args.draft.now.image c.requires.0 c.requires.1.0 c.args.node c.args.counts.now c.requires.1.1.1.0 (c.args.at.file, c.args.at.ofs) c.requires.1.1.0 c.args.len c.requires.1.1.1.1.0 c.requires.1.1.1.1.1)) in
    record { sfits = omega (arith, long, inside, short) }

pub split_record-requires-clause-some : goal.split_record-requires-clause-some
split_record-requires-clause-some c = let e = c.requires.1.1.1.1.1.front in omega (arith, e)

pub split_record-requires-clause-short : goal.split_record-requires-clause-short
split_record-requires-clause-short c =
    let p : Place = (c.args.at.file, c.args.at.ofs) in
    let o = own c.args.draft.now.image c.requires.0 c.requires.1.0 c.args.node c.args.counts.now c.requires.1.1.1.0 (c.args.at.file, c.args.at.ofs) c.requires.1.1.0 c.args.len c.requires.1.1.1.1.0 c.requires.1.1.1.1.1 in
    let inside = c.requires.1.1.1.0.heap.inside p (live o.h c.requires.1.1.0) (here c.args.draft.now.image c.requires.0 c.requires.1.0 c.args.node c.args.counts.now c.requires.1.1.1.0 (c.args.at.file, c.args.at.ofs) c.requires.1.1.0 c.args.len c.requires.1.1.1.1.0 c.requires.1.1.1.1.1) in
    let e = c.requires.1.1.1.1.1.rest in
    let short = short_file c.args.draft.now.image c.requires.1.1.1.0.files c.args.at.file (c.requires.1.1.1.0.heap.data_file p (live o.h c.requires.1.1.0) (here c.args.draft.now.image c.requires.0 c.requires.1.0 c.args.node c.args.counts.now c.requires.1.1.1.0 (c.args.at.file, c.args.at.ofs) c.requires.1.1.0 c.args.len c.requires.1.1.1.1.0 c.requires.1.1.1.1.1)) in
    omega (arith, e, inside, short)

pub split_record-requires-clause-inside : goal.split_record-requires-clause-inside
split_record-requires-clause-inside c =
    let p : Place = (c.args.at.file, c.args.at.ofs) in
    let o = own c.args.draft.now.image c.requires.0 c.requires.1.0 c.args.node c.args.counts.now c.requires.1.1.1.0 (c.args.at.file, c.args.at.ofs) c.requires.1.1.0 c.args.len c.requires.1.1.1.1.0 c.requires.1.1.1.1.1 in
    let inside = c.requires.1.1.1.0.heap.inside p (live o.h c.requires.1.1.0) (here c.args.draft.now.image c.requires.0 c.requires.1.0 c.args.node c.args.counts.now c.requires.1.1.1.0 (c.args.at.file, c.args.at.ofs) c.requires.1.1.0 c.args.len c.requires.1.1.1.1.0 c.requires.1.1.1.1.1) in
    let e = c.requires.1.1.1.1.1.rest in
    omega (arith, e, inside)

pub overflow_add-behind : goal.overflow_add-behind
overflow_add-behind c =
    let p : Place = (c.args.at.file, c.args.at.ofs) in
    let o = own c.args.draft.now.image c.requires.0 c.requires.1.0 c.args.node c.args.counts.now c.requires.1.1.1.0 (c.args.at.file, c.args.at.ofs) c.requires.1.1.0 c.args.len c.requires.1.1.1.1.0 c.requires.1.1.1.1.1 in
    let inside = c.requires.1.1.1.0.heap.inside p (live o.h c.requires.1.1.0) (here c.args.draft.now.image c.requires.0 c.requires.1.0 c.args.node c.args.counts.now c.requires.1.1.1.0 (c.args.at.file, c.args.at.ofs) c.requires.1.1.0 c.args.len c.requires.1.1.1.1.0 c.requires.1.1.1.1.1) in
    let e = c.requires.1.1.1.1.1.rest in
    let short = short_file c.args.draft.now.image c.requires.1.1.1.0.files c.args.at.file (c.requires.1.1.1.0.heap.data_file p (live o.h c.requires.1.1.0) (here c.args.draft.now.image c.requires.0 c.requires.1.0 c.args.node c.args.counts.now c.requires.1.1.1.0 (c.args.at.file, c.args.at.ofs) c.requires.1.1.0 c.args.len c.requires.1.1.1.1.0 c.requires.1.1.1.1.1)) in
    omega (arith, e, inside, short)

pub count_rest-requires-clause-file : goal.count_rest-requires-clause-file
count_rest-requires-clause-file c =
    let p : Place = (c.args.at.file, c.args.at.ofs) in
    c.requires.1.1.1.0.heap.data_file p (live (own c.args.draft.now.image c.requires.0 c.requires.1.0 c.args.node c.args.counts.now c.requires.1.1.1.0 (c.args.at.file, c.args.at.ofs) c.requires.1.1.0 c.args.len c.requires.1.1.1.1.0 c.requires.1.1.1.1.1).h c.requires.1.1.0) (here c.args.draft.now.image c.requires.0 c.requires.1.0 c.args.node c.args.counts.now c.requires.1.1.1.0 (c.args.at.file, c.args.at.ofs) c.requires.1.1.0 c.args.len c.requires.1.1.1.1.0 c.requires.1.1.1.1.1)

pub count_rest-requires-clause-ofs : goal.count_rest-requires-clause-ofs
count_rest-requires-clause-ofs c =
    let p : Place = (c.args.at.file, c.args.at.ofs) in
    let o = own c.args.draft.now.image c.requires.0 c.requires.1.0 c.args.node c.args.counts.now c.requires.1.1.1.0 (c.args.at.file, c.args.at.ofs) c.requires.1.1.0 c.args.len c.requires.1.1.1.1.0 c.requires.1.1.1.1.1 in
    let inside = c.requires.1.1.1.0.heap.inside p (live o.h c.requires.1.1.0) (here c.args.draft.now.image c.requires.0 c.requires.1.0 c.args.node c.args.counts.now c.requires.1.1.1.0 (c.args.at.file, c.args.at.ofs) c.requires.1.1.0 c.args.len c.requires.1.1.1.1.0 c.requires.1.1.1.1.1) in
    let e = c.requires.1.1.1.1.1.rest in
    let short = short_file c.args.draft.now.image c.requires.1.1.1.0.files c.args.at.file (c.requires.1.1.1.0.heap.data_file p (live o.h c.requires.1.1.0) (here c.args.draft.now.image c.requires.0 c.requires.1.0 c.args.node c.args.counts.now c.requires.1.1.1.0 (c.args.at.file, c.args.at.ofs) c.requires.1.1.0 c.args.len c.requires.1.1.1.1.0 c.requires.1.1.1.1.1)) in
    omega (arith, e, inside, short)

pub count_rest-requires-clause-large : goal.count_rest-requires-clause-large
count_rest-requires-clause-large c =
    let p : Place = (c.args.at.file, c.args.at.ofs) in
    let o = own c.args.draft.now.image c.requires.0 c.requires.1.0 c.args.node c.args.counts.now c.requires.1.1.1.0 (c.args.at.file, c.args.at.ofs) c.requires.1.1.0 c.args.len c.requires.1.1.1.1.0 c.requires.1.1.1.1.1 in
    let inside = c.requires.1.1.1.0.heap.inside p (live o.h c.requires.1.1.0) (here c.args.draft.now.image c.requires.0 c.requires.1.0 c.args.node c.args.counts.now c.requires.1.1.1.0 (c.args.at.file, c.args.at.ofs) c.requires.1.1.0 c.args.len c.requires.1.1.1.1.0 c.requires.1.1.1.1.1) in
    let head : c.read_record-head.result ≡ o.h = c.read_record-head.ensures ∙ (c.requires.1.1.1.0.heap.shown p (live o.h c.requires.1.1.0) (here c.args.draft.now.image c.requires.0 c.requires.1.0 c.args.node c.args.counts.now c.requires.1.1.1.0 (c.args.at.file, c.args.at.ofs) c.requires.1.1.0 c.args.len c.requires.1.1.1.1.0 c.requires.1.1.1.1.1)).0 in
    let fl : FitsSigned w32 c.read_record-head.result.length_with_headers = search rules in
    let long : 16 + length c.requires.1.1.0 ≡ c.natural.result = same_number (16 + length c.requires.1.1.0) c.natural.result (sym (len_is c.args.draft.now.image c.requires.0 c.requires.1.0 c.args.node c.args.counts.now c.requires.1.1.1.0 (c.args.at.file, c.args.at.ofs) c.requires.1.1.0 c.args.len c.requires.1.1.1.1.0 c.requires.1.1.1.1.1) ∙ ap (λ (h : RecHeader). h.length_with_headers) (sym head) ∙ sym (to_z-of_z w32 c.read_record-head.result.length_with_headers fl) ∙ c.natural.ensures) in
    let e : 16 + length c.requires.1.1.0 - c.args.len ≡ c.natural.result - c.args.len = ap (λ (n : ℕ). n - c.args.len) long in
    large (c.args.counts.now) (sum_by (λ q. room_of ((new c.args.draft.now.image c.requires.0 c.requires.1.0 c.args.node c.args.counts.now c.requires.1.1.1.0 (c.args.at.file, c.args.at.ofs) c.requires.1.1.0 c.args.len c.requires.1.1.1.1.0 c.requires.1.1.1.1.1).heap q)) (walk c.requires.1.0 (name_at c.args.draft.now.image c.args.node))) (16 + length c.requires.1.1.0 - c.args.len) (c.natural.result - c.args.len) (c.requires.1.1.1.0.own.datasize ∙ ap (λ (k : ℕ). pos k) (sym (size_less c.args.draft.now.image c.requires.0 c.requires.1.0 c.args.node c.args.counts.now c.requires.1.1.1.0 (c.args.at.file, c.args.at.ofs) c.requires.1.1.0 c.args.len c.requires.1.1.1.1.0 c.requires.1.1.1.1.1))) e

pub returns-clause-kept : goal.returns-clause-kept
returns-clause-kept c =
    let p : Place = (c.args.at.file, c.args.at.ofs) in
    (c.in_ok-split_record.ensures.kept (c.requires.1.1.1.0.heap.data_file p (live (own c.args.draft.now.image c.requires.0 c.requires.1.0 c.args.node c.args.counts.now c.requires.1.1.1.0 (c.args.at.file, c.args.at.ofs) c.requires.1.1.0 c.args.len c.requires.1.1.1.1.0 c.requires.1.1.1.1.1).h c.requires.1.1.0) (here c.args.draft.now.image c.requires.0 c.requires.1.0 c.args.node c.args.counts.now c.requires.1.1.1.0 (c.args.at.file, c.args.at.ofs) c.requires.1.1.0 c.args.len c.requires.1.1.1.1.0 c.requires.1.1.1.1.1)) (c.requires.1.1.1.0.heap.behind_header p (live (own c.args.draft.now.image c.requires.0 c.requires.1.0 c.args.node c.args.counts.now c.requires.1.1.1.0 (c.args.at.file, c.args.at.ofs) c.requires.1.1.0 c.args.len c.requires.1.1.1.1.0 c.requires.1.1.1.1.1).h c.requires.1.1.0) (here c.args.draft.now.image c.requires.0 c.requires.1.0 c.args.node c.args.counts.now c.requires.1.1.1.0 (c.args.at.file, c.args.at.ofs) c.requires.1.1.0 c.args.len c.requires.1.1.1.1.0 c.requires.1.1.1.1.1)))

pub returns-clause-ok : goal.returns-clause-ok
returns-clause-ok c = λ free s room st lv can.
    let p : Place = (c.args.at.file, c.args.at.ofs) in
    let o = own c.args.draft.now.image free s c.args.node c.args.counts.now st (c.args.at.file, c.args.at.ofs) room c.args.len lv can in
    let inside = st.heap.inside p (live o.h room) (here c.args.draft.now.image free s c.args.node c.args.counts.now st (c.args.at.file, c.args.at.ofs) room c.args.len lv can) in
    let head : c.read_record-head.result ≡ o.h = c.read_record-head.ensures ∙ (st.heap.shown p (live o.h room) (here c.args.draft.now.image free s c.args.node c.args.counts.now st (c.args.at.file, c.args.at.ofs) room c.args.len lv can)).0 in
    let fl : FitsSigned w32 c.read_record-head.result.length_with_headers = search rules in
    let long : 16 + length room ≡ c.natural.result = same_number (16 + length room) c.natural.result (sym (len_is c.args.draft.now.image free s c.args.node c.args.counts.now st (c.args.at.file, c.args.at.ofs) room c.args.len lv can) ∙ ap (λ (h : RecHeader). h.length_with_headers) (sym head) ∙ sym (to_z-of_z w32 c.read_record-head.result.length_with_headers fl) ∙ c.natural.ensures) in
    let r = c.args.len in
    let name = name_at c.args.draft.now.image c.args.node in
    let fits : r ≤ length room = (let e = can.rest in omega (arith, e)) in
    let short = short_file c.args.draft.now.image st.files c.args.at.file (st.heap.data_file p (live o.h room) (here c.args.draft.now.image free s c.args.node c.args.counts.now st (c.args.at.file, c.args.at.ofs) room c.args.len lv can)) in
    let rest : c.natural.result - r ≡ 16 + length room - r = ap (λ (n : ℕ). n - r) (sym long) in
    let right : c.list_of-list.result ≡ list_for (16 + length room - r) = c.list_of-list.ensures.is ∙ ap list_for rest in
    let low : list_for (16 + length room - r) < 19 = subst (λ (n : ℕ). n < 19) right c.list_of-list.ensures.there in
    let nineteen : length c.args.counts.now.deleted ≡ 19 = search rules in
    let there = c.list_of-list.ensures.there in
    let fe : FitsSigned w32 c.read_record-head.result.extent_ofs = search rules in
    let next = get_or_default c.args.counts.now.deleted c.list_of-list.result c.index-counts-list.result null (omega (arith, there, nineteen)) ∙ ap (λ (i : ℕ). slice_index_or c.args.counts.now.deleted i null) right ∙ st.own.heads (list_for (16 + length room - r)) low in
    let small : c.natural.result - r < 2147483648 = omega (arith, long, inside, short) in
    let e1 : to_z w32 (c.natural.result - r) ≡ pos (16 + length room - r) = to_z_pos w32 (c.natural.result - r) (omega (arith, small)) ∙ ap (λ (n : ℕ). pos n) rest in
    let e2 = to_z-of_z w32 c.read_record-head.result.extent_ofs fe ∙ ap (λ (h : RecHeader). h.extent_ofs) head in
    let heap : IsHeap c.split_record.«new».draft.image (new c.args.draft.now.image free s c.args.node c.args.counts.now st (c.args.at.file, c.args.at.ofs) room c.args.len lv can).heap = subst (λ (x : DeletedHeader). IsHeap c.split_record.«new».draft.image (put_two p (front_of r o.h room) (behind_of p r) (rest_of r x room) s.heap))
    (λ i. record { length_with_headers = e1 i; extent_ofs = e2 i; next_deleted = next i }) (c.in_ok-split_record.ensures.heap s.heap o.h room st.heap (here c.args.draft.now.image free s c.args.node c.args.counts.now st (c.args.at.file, c.args.at.ofs) room c.args.len lv can) fits) in
    let kept = c.in_ok-split_record.ensures.kept (st.heap.data_file p (live o.h room) (here c.args.draft.now.image free s c.args.node c.args.counts.now st (c.args.at.file, c.args.at.ofs) room c.args.len lv can)) (st.heap.behind_header p (live o.h room) (here c.args.draft.now.image free s c.args.node c.args.counts.now st (c.args.at.file, c.args.at.ofs) room c.args.len lv can)) in
    let ds = own_details c.args.draft.now.image free s c.args.node c.args.counts.now st (c.args.at.file, c.args.at.ofs) room c.args.len lv can c.count_rest.«new».counts c.count_rest.ensures.first c.count_rest.ensures.last
    (ap (λ (i : ℕ). slice_index_or c.count_rest.«new».counts.deleted i null) (sym right) ∙ c.count_rest.ensures.head)
    (λ i lt ne. c.count_rest.ensures.heads i lt (ap (λ (j : ℕ). i == j) right ∙ ne)) c.count_rest.ensures.nrecords
    (λ k e. c.count_rest.ensures.datasize k (e ∙ ap (λ (m : ℕ). pos (k + m)) (sym rest))) c.count_rest.ensures.size c.count_rest.ensures.constants in
    (new c.args.draft.now.image free s c.args.node c.args.counts.now st (c.args.at.file, c.args.at.ofs) room c.args.len lv can, (stands_shortened c.args.draft.now.image free s c.args.node c.args.counts.now st (c.args.at.file, c.args.at.ofs) room c.args.len lv can c.count_rest.«new».counts c.split_record.«new».draft.image kept heap ds, is_shortened c.args.draft.now.image free s c.args.node c.args.counts.now st (c.args.at.file, c.args.at.ofs) room c.args.len lv can))
