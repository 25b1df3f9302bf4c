use Rattle.std.proofs.Common.{◌≡◌, ◌∙◌, ℕ, ◌+◌, ◌-◌, length, rules, sym, ap, subst, arith}
use Rattle.std.specs.Prelude.{FitsSigned}
use Rattle.std.specs.Int.{w32}
use Rattle.std.proofs.lemmas.Int.{to_z-of_z}
use Rattle.std.proofs.lemmas.Result.{on_ok_weaker}
use Rattle.mm_base.specs.Bytes.{part}
use Rattle.mm_base.proofs.Parts.{length-part}
use Rattle.mm_base.specs.declared.place.DiskLoc.{DiskLoc}
use Rattle.mm_ranges.specs.Overlay.{bytes_at}
use Rattle.mm_frames.specs.declared.extent_header.ExtentHeader.{ExtentHeader}
use Rattle.mm_links.specs.Links.{Place, next_in}
use Rattle.mm_extents.specs.Heap.{extent, IsHeap}
use Rattle.mm_extents.specs.FreeExtents.{next_passed, prev_passed, with_extent, IsClear}
use Rattle.mm_extents.proofs.Fields.{keeps_both}
use Rattle.mm_extents.proofs.FreeWalks.{nonneg, same_number, both_ok, same_length}
use Rattle.mm_extents.proofs.ReuseSteps.{mine, n, long, some, data_file, behind, inside, short, before, prev_is, next_is, low_before, low_behind, there_before, there_behind, next_asks, heap1, heap2, prev_asks, clear, has_free, reused}
use Rattle.mm_extents.proofs.new_extents.reuse_extent.Goals as goal

pub read_extent-header-requires : goal.read_extent-header-requires
read_extent-header-requires c =
    let m = mine c.args.draft.now.image c.requires.0 c.requires.1.0 c.requires.1.1.0 c.args.free.now c.requires.1.1.1.0 (c.args.at.file, c.args.at.ofs) c.requires.1.1.1.1 in
    c.requires.1.1.1.0.shown.inside (c.args.at.file, c.args.at.ofs) (extent m.0) m.1

pub pass_next-requires : goal.pass_next-requires
pass_next-requires c =
    let p : Place = (c.args.at.file, c.args.at.ofs) in
    let m = mine c.args.draft.now.image c.requires.0 c.requires.1.0 c.requires.1.1.0 c.args.free.now c.requires.1.1.1.0 (c.args.at.file, c.args.at.ofs) c.requires.1.1.1.1 in
    let head : c.read_extent-header.result ≡ m.0 = c.read_extent-header.ensures ∙ c.requires.1.1.1.0.shown.shown p (extent m.0) m.1 in
    next_asks c.args.draft.now.image c.requires.0 c.requires.1.0 c.requires.1.1.0 c.args.free.now c.requires.1.1.1.0 (c.args.at.file, c.args.at.ofs) c.requires.1.1.1.1 c.read_extent-header.result.xprev (ap (λ (x : ExtentHeader). x.xprev) head)

pub pass_prev-requires : goal.pass_prev-requires
pass_prev-requires c =
    let p : Place = (c.args.at.file, c.args.at.ofs) in
    let m = mine c.args.draft.now.image c.requires.0 c.requires.1.0 c.requires.1.1.0 c.args.free.now c.requires.1.1.1.0 (c.args.at.file, c.args.at.ofs) c.requires.1.1.1.1 in
    let head : c.read_extent-header.result ≡ m.0 = c.read_extent-header.ensures ∙ c.requires.1.1.1.0.shown.shown p (extent m.0) m.1 in
    let xprev : c.read_extent-header.result.xprev ≡ m.0.xprev = ap (λ (x : ExtentHeader). x.xprev) head in
    let xnext : c.read_extent-header.result.xnext ≡ m.0.xnext = ap (λ (x : ExtentHeader). x.xnext) head in
    let is1 : IsHeap c.pass_next.«new».draft.image (heap1 c.args.draft.now.image c.requires.0 c.requires.1.0 c.requires.1.1.0 c.args.free.now c.requires.1.1.1.0 (c.args.at.file, c.args.at.ofs) c.requires.1.1.1.1) = subst (λ (z : DiskLoc). IsHeap c.pass_next.«new».draft.image (next_passed (before c.args.draft.now.image c.requires.0 c.requires.1.0 c.requires.1.1.0 c.args.free.now c.requires.1.1.1.0 (c.args.at.file, c.args.at.ofs) c.requires.1.1.1.1).0 z c.requires.1.0)) xnext
    (c.in_ok-pass_next.ensures.heap (before c.args.draft.now.image c.requires.0 c.requires.1.0 c.requires.1.1.0 c.args.free.now c.requires.1.1.1.0 (c.args.at.file, c.args.at.ofs) c.requires.1.1.1.1).0 c.requires.1.0 (xprev ∙ prev_is c.args.draft.now.image c.requires.0 c.requires.1.0 c.requires.1.1.0 c.args.free.now c.requires.1.1.1.0 (c.args.at.file, c.args.at.ofs) c.requires.1.1.1.1) (low_before c.args.draft.now.image c.requires.0 c.requires.1.0 c.requires.1.1.0 c.args.free.now c.requires.1.1.1.0 (c.args.at.file, c.args.at.ofs) c.requires.1.1.1.1) c.requires.1.1.1.0.shown (there_before c.args.draft.now.image c.requires.0 c.requires.1.0 c.requires.1.1.0 c.args.free.now c.requires.1.1.1.0 (c.args.at.file, c.args.at.ofs) c.requires.1.1.1.1)) in
    prev_asks c.args.draft.now.image c.requires.0 c.requires.1.0 c.requires.1.1.0 c.args.free.now c.requires.1.1.1.0 (c.args.at.file, c.args.at.ofs) c.requires.1.1.1.1 c.read_extent-header.result.xnext xnext c.pass_next.«new».draft.image is1

pub natural-requires : goal.natural-requires
natural-requires c =
    let p : Place = (c.args.at.file, c.args.at.ofs) in
    let m = mine c.args.draft.now.image c.requires.0 c.requires.1.0 c.requires.1.1.0 c.args.free.now c.requires.1.1.1.0 (c.args.at.file, c.args.at.ofs) c.requires.1.1.1.1 in
    let head : c.read_extent-header.result ≡ m.0 = c.read_extent-header.ensures ∙ c.requires.1.1.1.0.shown.shown p (extent m.0) m.1 in
    let fl : FitsSigned w32 c.read_extent-header.result.len = search rules in
    nonneg _ _ (to_z-of_z w32 c.read_extent-header.result.len fl ∙ ap (λ (x : ExtentHeader). x.len) head ∙ long c.args.draft.now.image c.requires.0 c.requires.1.0 c.requires.1.1.0 c.args.free.now c.requires.1.1.1.0 (c.args.at.file, c.args.at.ofs) c.requires.1.1.1.1)

pub put_extent-requires-clause-file : goal.put_extent-requires-clause-file
put_extent-requires-clause-file c = data_file c.args.draft.now.image c.requires.0 c.requires.1.0 c.requires.1.1.0 c.args.free.now c.requires.1.1.1.0 (c.args.at.file, c.args.at.ofs) c.requires.1.1.1.1

pub put_extent-requires-clause-long : goal.put_extent-requires-clause-long
put_extent-requires-clause-long c =
    let p : Place = (c.args.at.file, c.args.at.ofs) in
    let m = mine c.args.draft.now.image c.requires.0 c.requires.1.0 c.requires.1.1.0 c.args.free.now c.requires.1.1.1.0 (c.args.at.file, c.args.at.ofs) c.requires.1.1.1.1 in
    let head : c.read_extent-header.result ≡ m.0 = c.read_extent-header.ensures ∙ c.requires.1.1.1.0.shown.shown p (extent m.0) m.1 in
    let fl : FitsSigned w32 c.read_extent-header.result.len = search rules in
    let same_n : c.natural.result ≡ n c.args.draft.now.image c.requires.0 c.requires.1.0 c.requires.1.1.0 c.args.free.now c.requires.1.1.1.0 (c.args.at.file, c.args.at.ofs) c.requires.1.1.1.1 = same_number c.natural.result (n c.args.draft.now.image c.requires.0 c.requires.1.0 c.requires.1.1.0 c.args.free.now c.requires.1.1.1.0 (c.args.at.file, c.args.at.ofs) c.requires.1.1.1.1) (sym c.natural.ensures ∙ to_z-of_z w32 c.read_extent-header.result.len fl ∙ ap (λ (x : ExtentHeader). x.len) head ∙ long c.args.draft.now.image c.requires.0 c.requires.1.0 c.requires.1.1.0 c.args.free.now c.requires.1.1.1.0 (c.args.at.file, c.args.at.ofs) c.requires.1.1.1.1) in
    let s = some c.args.draft.now.image c.requires.0 c.requires.1.0 c.requires.1.1.0 c.args.free.now c.requires.1.1.1.0 (c.args.at.file, c.args.at.ofs) c.requires.1.1.1.1 in
    omega (arith, same_n, s)

pub put_extent-requires-clause-short : goal.put_extent-requires-clause-short
put_extent-requires-clause-short c =
    let p : Place = (c.args.at.file, c.args.at.ofs) in
    let m = mine c.args.draft.now.image c.requires.0 c.requires.1.0 c.requires.1.1.0 c.args.free.now c.requires.1.1.1.0 (c.args.at.file, c.args.at.ofs) c.requires.1.1.1.1 in
    let head : c.read_extent-header.result ≡ m.0 = c.read_extent-header.ensures ∙ c.requires.1.1.1.0.shown.shown p (extent m.0) m.1 in
    let fl : FitsSigned w32 c.read_extent-header.result.len = search rules in
    let same_n : c.natural.result ≡ n c.args.draft.now.image c.requires.0 c.requires.1.0 c.requires.1.1.0 c.args.free.now c.requires.1.1.1.0 (c.args.at.file, c.args.at.ofs) c.requires.1.1.1.1 = same_number c.natural.result (n c.args.draft.now.image c.requires.0 c.requires.1.0 c.requires.1.1.0 c.args.free.now c.requires.1.1.1.0 (c.args.at.file, c.args.at.ofs) c.requires.1.1.1.1) (sym c.natural.ensures ∙ to_z-of_z w32 c.read_extent-header.result.len fl ∙ ap (λ (x : ExtentHeader). x.len) head ∙ long c.args.draft.now.image c.requires.0 c.requires.1.0 c.requires.1.1.0 c.args.free.now c.requires.1.1.1.0 (c.args.at.file, c.args.at.ofs) c.requires.1.1.1.1) in
    let s = short c.args.draft.now.image c.requires.0 c.requires.1.0 c.requires.1.1.0 c.args.free.now c.requires.1.1.1.0 (c.args.at.file, c.args.at.ofs) c.requires.1.1.1.1 in
    omega (arith, same_n, s)

pub put_extent-requires-clause-behind : goal.put_extent-requires-clause-behind
put_extent-requires-clause-behind c = behind c.args.draft.now.image c.requires.0 c.requires.1.0 c.requires.1.1.0 c.args.free.now c.requires.1.1.1.0 (c.args.at.file, c.args.at.ofs) c.requires.1.1.1.1

pub put_extent-requires-clause-inside : goal.put_extent-requires-clause-inside
put_extent-requires-clause-inside c =
    let p : Place = (c.args.at.file, c.args.at.ofs) in
    let m = mine c.args.draft.now.image c.requires.0 c.requires.1.0 c.requires.1.1.0 c.args.free.now c.requires.1.1.1.0 (c.args.at.file, c.args.at.ofs) c.requires.1.1.1.1 in
    let head : c.read_extent-header.result ≡ m.0 = c.read_extent-header.ensures ∙ c.requires.1.1.1.0.shown.shown p (extent m.0) m.1 in
    let fl : FitsSigned w32 c.read_extent-header.result.len = search rules in
    let same_n : c.natural.result ≡ n c.args.draft.now.image c.requires.0 c.requires.1.0 c.requires.1.1.0 c.args.free.now c.requires.1.1.1.0 (c.args.at.file, c.args.at.ofs) c.requires.1.1.1.1 = same_number c.natural.result (n c.args.draft.now.image c.requires.0 c.requires.1.0 c.requires.1.1.0 c.args.free.now c.requires.1.1.1.0 (c.args.at.file, c.args.at.ofs) c.requires.1.1.1.1) (sym c.natural.ensures ∙ to_z-of_z w32 c.read_extent-header.result.len fl ∙ ap (λ (x : ExtentHeader). x.len) head ∙ long c.args.draft.now.image c.requires.0 c.requires.1.0 c.requires.1.1.0 c.args.free.now c.requires.1.1.1.0 (c.args.at.file, c.args.at.ofs) c.requires.1.1.1.1) in
    let k2 = keeps_both c.args.draft.now.image c.pass_next.«new».draft.image c.pass_prev.«new».draft.image c.in_ok-pass_next.ensures.kept c.in_ok-pass_prev.ensures.kept in
    let l = same_length c.args.draft.now.image c.pass_prev.«new».draft.image k2 c.args.at.file in
    let s = inside c.args.draft.now.image c.requires.0 c.requires.1.0 c.requires.1.1.0 c.args.free.now c.requires.1.1.1.0 (c.args.at.file, c.args.at.ofs) c.requires.1.1.1.1 in
    omega (arith, same_n, s, l)

pub returns-clause-kept : goal.returns-clause-kept
returns-clause-kept c =
    let k2 = keeps_both c.args.draft.now.image c.pass_next.«new».draft.image c.pass_prev.«new».draft.image c.in_ok-pass_next.ensures.kept c.in_ok-pass_prev.ensures.kept in
    on_ok_weaker c.put_extent.result (λ k. keeps_both c.args.draft.now.image c.pass_prev.«new».draft.image c.put_extent.«new».draft.image k2 k) c.put_extent.ensures.kept

pub returns-clause-ok : goal.returns-clause-ok
returns-clause-ok c = on_ok_weaker c.put_extent.result (λ w db heap chain f on isnt.
    let p : Place = (c.args.at.file, c.args.at.ofs) in
    let m = mine c.args.draft.now.image db heap chain c.args.free.now f (c.args.at.file, c.args.at.ofs) on in
    let head : c.read_extent-header.result ≡ m.0 = c.read_extent-header.ensures ∙ f.shown.shown p (extent m.0) m.1 in
    let xprev : c.read_extent-header.result.xprev ≡ m.0.xprev = ap (λ (x : ExtentHeader). x.xprev) head in
    let xnext : c.read_extent-header.result.xnext ≡ m.0.xnext = ap (λ (x : ExtentHeader). x.xnext) head in
    let is1 : IsHeap c.pass_next.«new».draft.image (heap1 c.args.draft.now.image db heap chain c.args.free.now f (c.args.at.file, c.args.at.ofs) on) = subst (λ (z : DiskLoc). IsHeap c.pass_next.«new».draft.image (next_passed (before c.args.draft.now.image db heap chain c.args.free.now f (c.args.at.file, c.args.at.ofs) on).0 z heap)) xnext
    (c.in_ok-pass_next.ensures.heap (before c.args.draft.now.image db heap chain c.args.free.now f (c.args.at.file, c.args.at.ofs) on).0 heap (xprev ∙ prev_is c.args.draft.now.image db heap chain c.args.free.now f (c.args.at.file, c.args.at.ofs) on) (low_before c.args.draft.now.image db heap chain c.args.free.now f (c.args.at.file, c.args.at.ofs) on) f.shown (there_before c.args.draft.now.image db heap chain c.args.free.now f (c.args.at.file, c.args.at.ofs) on)) in
    let is2 : IsHeap c.pass_prev.«new».draft.image (heap2 c.args.draft.now.image db heap chain c.args.free.now f (c.args.at.file, c.args.at.ofs) on) = subst (λ (z : DiskLoc). IsHeap c.pass_prev.«new».draft.image (prev_passed (next_in chain p) z (heap1 c.args.draft.now.image db heap chain c.args.free.now f (c.args.at.file, c.args.at.ofs) on))) xprev
    (c.in_ok-pass_prev.ensures.heap (next_in chain p) (heap1 c.args.draft.now.image db heap chain c.args.free.now f (c.args.at.file, c.args.at.ofs) on) (xnext ∙ next_is c.args.draft.now.image db heap chain c.args.free.now f (c.args.at.file, c.args.at.ofs) on) (low_behind c.args.draft.now.image db heap chain c.args.free.now f (c.args.at.file, c.args.at.ofs) on) is1 (there_behind c.args.draft.now.image db heap chain c.args.free.now f (c.args.at.file, c.args.at.ofs) on)) in
    let k2 = keeps_both c.args.draft.now.image c.pass_next.«new».draft.image c.pass_prev.«new».draft.image c.in_ok-pass_next.ensures.kept c.in_ok-pass_prev.ensures.kept in
    let fl : FitsSigned w32 c.read_extent-header.result.len = search rules in
    let same_n : c.natural.result ≡ n c.args.draft.now.image db heap chain c.args.free.now f (c.args.at.file, c.args.at.ofs) on = same_number c.natural.result (n c.args.draft.now.image db heap chain c.args.free.now f (c.args.at.file, c.args.at.ofs) on) (sym c.natural.ensures ∙ to_z-of_z w32 c.read_extent-header.result.len fl ∙ ap (λ (x : ExtentHeader). x.len) head ∙ long c.args.draft.now.image db heap chain c.args.free.now f (c.args.at.file, c.args.at.ofs) on) in
    let rest = part (p.1 + 192) (n c.args.draft.now.image db heap chain c.args.free.now f (c.args.at.file, c.args.at.ofs) on - 192) (bytes_at c.pass_prev.«new».draft.image p.0) in
    let l = same_length c.args.draft.now.image c.pass_prev.«new».draft.image k2 c.args.at.file in
    let i = inside c.args.draft.now.image db heap chain c.args.free.now f (c.args.at.file, c.args.at.ofs) on in
    let s = some c.args.draft.now.image db heap chain c.args.free.now f (c.args.at.file, c.args.at.ofs) on in
    let rest_long : length rest ≡ n c.args.draft.now.image db heap chain c.args.free.now f (c.args.at.file, c.args.at.ofs) on - 192 = length-part (p.1 + 192) (n c.args.draft.now.image db heap chain c.args.free.now f (c.args.at.file, c.args.at.ofs) on - 192) (bytes_at c.pass_prev.«new».draft.image p.0) (omega (arith, l, i, s)) in
    let is3 : IsHeap c.put_extent.«new».draft.image (with_extent p c.args.name.now (n c.args.draft.now.image db heap chain c.args.free.now f (c.args.at.file, c.args.at.ofs) on) rest (heap2 c.args.draft.now.image db heap chain c.args.free.now f (c.args.at.file, c.args.at.ofs) on)) = subst (λ (k : ℕ). IsHeap c.put_extent.«new».draft.image (with_extent p c.args.name.now k (part (p.1 + 192) (k - 192) (bytes_at c.pass_prev.«new».draft.image p.0)) (heap2 c.args.draft.now.image db heap chain c.args.free.now f (c.args.at.file, c.args.at.ofs) on))) same_n
    (w.0 (heap2 c.args.draft.now.image db heap chain c.args.free.now f (c.args.at.file, c.args.at.ofs) on) is2 (subst (λ (k : ℕ). IsClear (heap2 c.args.draft.now.image db heap chain c.args.free.now f (c.args.at.file, c.args.at.ofs) on) p k) (sym same_n) (clear c.args.draft.now.image db heap chain c.args.free.now f (c.args.at.file, c.args.at.ofs) on))) in
    let k3 = keeps_both c.args.draft.now.image c.pass_prev.«new».draft.image c.put_extent.«new».draft.image k2 w.1 in (
      with_extent p c.args.name.now (n c.args.draft.now.image db heap chain c.args.free.now f (c.args.at.file, c.args.at.ofs) on) rest (heap2 c.args.draft.now.image db heap chain c.args.free.now f (c.args.at.file, c.args.at.ofs) on),
      (
        n c.args.draft.now.image db heap chain c.args.free.now f (c.args.at.file, c.args.at.ofs) on,
        (
          has_free c.args.draft.now.image db heap chain c.args.free.now f (c.args.at.file, c.args.at.ofs) on c.put_extent.«new».draft.image k3 c.args.name.now c.put_extent.ensures.named isnt rest rest_long is3 c.pass_last.«new».free
              (λ z. c.pass_last.ensures.first ∙ c.pass_first.ensures.first (xprev ∙ z) ∙ xnext) (λ z. c.pass_last.ensures.first ∙ c.pass_first.ensures.kept (λ y. z (sym xprev ∙ y)))
              (λ z. c.pass_last.ensures.last (xnext ∙ z) ∙ xprev) (λ z. c.pass_last.ensures.kept (λ y. z (sym xnext ∙ y)) ∙ c.pass_first.ensures.last),
          reused c.args.draft.now.image db heap chain c.args.free.now f (c.args.at.file, c.args.at.ofs) on c.put_extent.«new».draft.image k3 c.args.name.now c.put_extent.ensures.named isnt rest rest_long is3 c.pass_last.«new».free
              (λ z. c.pass_last.ensures.first ∙ c.pass_first.ensures.first (xprev ∙ z) ∙ xnext) (λ z. c.pass_last.ensures.first ∙ c.pass_first.ensures.kept (λ y. z (sym xprev ∙ y)))
              (λ z. c.pass_last.ensures.last (xnext ∙ z) ∙ xprev) (λ z. c.pass_last.ensures.kept (λ y. z (sym xnext ∙ y)) ∙ c.pass_first.ensures.last),
        ),
      ),
    )) (both_ok _ _ c.put_extent.result c.put_extent.ensures.heap c.put_extent.ensures.kept)
