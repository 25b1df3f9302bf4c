-- Only places of the data files are right on the chains that the check follows.
use Rattle.std.proofs.Common.{◌≡◌, ℕ, inl, inr, ◌+◌, ◌<◌, ◌≤◌, pos, negsuc, ℤ, true, List, [], ◌∷◌, length, map, Some, None, sym, ◌∙◌, subst, arith}
use Rattle.std.specs.Prelude.{◌&&◌, ◌==◌, nat_le, slice_index_or}
use Rattle.std.specs.List.{AllByRecursion, range_with_len}
use Rattle.std.proofs.lemmas.Bool.{cases_Bool, false≢true, eqb-true}
use Rattle.mm_base.specs.Bytes.{part}
use Rattle.mm_base.specs.Places.{null}
use Rattle.mm_base.specs.declared.place.DiskLoc.{DiskLoc}
use Rattle.mm_ranges.specs.Overlay.{Image, bytes_at}
use Rattle.mm_extents.proofs.FileLaws.{file_len_most}
use Rattle.mm_links.specs.Links.{Place, has}
use Rattle.mm_links.proofs.LinkLaws.{both, same_own, has_here, has_more}
use Rattle.mm_walk.specs.Walk.{IsLow, StaysLow}
use Rattle.mm_walk.specs.Questions.{first_failing}
use Rattle.mm_check.specs.RecordChain.{rec_at, is_record, names_ofs, names_place, records_reading}
use Rattle.mm_check.specs.ExtentChain.{ext_at, ext_size, is_extent_here, is_named_extent, file_reading, chain_reading, EndsIn, InFile}
use Rattle.mm_check.specs.ListChain.{del_at, lies_in_own, is_deleted, list_reading}
use Rattle.mm_check.specs.FileQuestions.{unused_of, file_questions}
use Rattle.mm_check.specs.NodeQuestions.{node_place}
use Rattle.mm_check.specs.Findings.{files_from, field_of, details_at, Owner, file_chains, lists_of}
use Rattle.mm_check.proofs.RecordLaws.{if_no, nat_le_true, record_of_test}
use Rattle.mm_check.proofs.Insides.{Each, IsThere, all_there, file_is_right}

no_some : {X : Type 0} (x : X) → None ≡ Some x → ⊥
no_some x e = cc

-- ---- one chain

pub extents_low : (image : Image) (file unused : ℕ) → EndsIn image file unused → StaysLow (file_reading image file unused)
extents_low image file unused e before p next h = elim (cases_Bool ((p.0 == file) && is_extent_here image unused p)) [
  | inl y ↦
      let t = both _ _ y in
      let header = nat_le_true (p.1 + 176) unused (both _ _ t.1).0 in let low = e.low in
      record { file = subst (λ (k : ℕ). k < 8) (sym (eqb-true p.0 file t.0)) e.data_file; ofs = omega (arith, header, low) }
  | inr n ↦ absurd (no_some next (sym (if_no _ _ _ n) ∙ h))
]

pub chained_low : (image : Image) (all : List Place) (field : List ℕ) (node : Place) (first last : DiskLoc) → ((p : Place) → has all p ≡ true → InFile image p) → StaysLow (chain_reading image all field node first last)
chained_low image all field node first last inside before p next h = elim (cases_Bool (is_named_extent image all field p && names_place (ext_at image p).xprev before)) [
  | inl y ↦ let i = inside p (both _ _ (both _ _ y).0).0 in record { file = i.data_file; ofs = i.low }
  | inr n ↦ absurd (no_some next (sym (if_no _ _ _ n) ∙ h))
]

pub record_low : (image : Image) (e : Place) (first last : DiskLoc) → InFile image e → StaysLow (records_reading image e (ext_size image e) first last)
record_low image e first last i before p next h = elim (cases_Bool (is_record image e (ext_size image e) p && names_ofs (rec_at image p).prev_ofs before)) [
  | inl y ↦
      let r = record_of_test image e (ext_size image e) p (both _ _ y).0 in
      let to = r.to in let short = i.short in
      record { file = subst (λ (k : ℕ). k < 8) (sym r.file) i.data_file; ofs = omega (arith, to, short) }
  | inr n ↦ absurd (no_some next (sym (if_no _ _ _ n) ∙ h))
]

own_low : (image : Image) (own : List Place) (p : Place) (z : ℤ) → ((e : Place) → has own e ≡ true → InFile image e) → lies_in_own image own p z ≡ true → IsLow p
own_low image own p (negsuc n) inside h = absurd (false≢true h)
own_low image own p (pos a) inside h =
    let t = both _ _ h in
    let i = inside (p.0, a) t.0 in
    let to : p.1 + 16 ≤ a + ext_size image (p.0, a) = nat_le_true (p.1 + 16) (a + ext_size image (p.0, a)) (both (nat_le (a + 176) p.1) (nat_le (p.1 + 16) (a + ext_size image (p.0, a))) t.1).1 in let short = i.short in
    record { file = i.data_file; ofs = omega (arith, to, short) }

pub deleted_low : (image : Image) (own : List Place) (i : ℕ) (node : Place) (head : DiskLoc) → ((e : Place) → has own e ≡ true → InFile image e) → StaysLow (list_reading image own i node head)
deleted_low image own i node head inside before p next h = elim (cases_Bool (is_deleted image own i p)) [
  | inl y ↦ own_low image own p (del_at image p).extent_ofs inside (both _ _ (both _ _ y).1).0
  | inr n ↦ absurd (no_some next (sym (if_no _ _ _ n) ∙ h))
]

-- ---- the chains of a phase

pub ends_in : (image : Image) (k : ℕ) → first_failing (file_questions image) ≡ None → IsThere image k → EndsIn image k (unused_of (part 0 8192 (bytes_at image k)))
ends_in image k e t =
    let r = file_is_right image k e t in
    let short = r.short in let long = r.long in let most = file_len_most k in
    record { data_file = t.low; low = omega (arith, short, most); inside = omega (arith, short, long) }

-- its header fits into it
pub header_fits : (image : Image) (k : ℕ) → first_failing (file_questions image) ≡ None → IsThere image k → 8192 ≤ length (bytes_at image k)
header_fits image k e t =
    let r = file_is_right image k e t in
    let short = r.short in let long = r.long in let least = r.least in
    omega (arith, short, long, least)

files_lows : (image : Image) (ks : List ℕ) → first_failing (file_questions image) ≡ None → Each (IsThere image) ks → AllByRecursion StaysLow (map (λ k. file_reading image k (unused_of (part 0 8192 (bytes_at image k)))) ks)
files_lows image [] e t = tt
files_lows image (k ∷ ks) e t = (extents_low image k (unused_of (part 0 8192 (bytes_at image k))) (ends_in image k e t.0), files_lows image ks e t.1)

pub files_low : (image : Image) → first_failing (file_questions image) ≡ None → AllByRecursion StaysLow (file_chains image)
files_low image e = files_lows image (files_from image 0 8) e (all_there image 0 8 (omega arith))

pub nodes_low : (image : Image) (all : List Place) (ks : List ℕ) → ((p : Place) → has all p ≡ true → InFile image p)
    → AllByRecursion StaysLow (map (λ k. chain_reading image all (field_of image k) (node_place k) (details_at image k).first_extent (details_at image k).last_extent) ks)
nodes_low image all [] inside = tt
nodes_low image all (k ∷ ks) inside =
    (chained_low image all (field_of image k) (node_place k) (details_at image k).first_extent (details_at image k).last_extent inside, nodes_low image all ks inside)

pub records_low : (image : Image) (es : List Place) → ((e : Place) → has es e ≡ true → InFile image e)
    → AllByRecursion StaysLow (map (λ e. records_reading image e (ext_size image e) (ext_at image e).first_record (ext_at image e).last_record) es)
records_low image [] inside = tt
records_low image (e ∷ es) inside =
    (record_low image e (ext_at image e).first_record (ext_at image e).last_record (inside e (has_here e es e (same_own e))), records_low image es (λ p h. inside p (has_more e es p h)))

list_lows : (image : Image) (o : Owner) (is : List ℕ) → ((e : Place) → has o.extents e ≡ true → InFile image e)
    → AllByRecursion StaysLow (map (λ i. list_reading image o.extents i (node_place o.node) (slice_index_or (details_at image o.node).deleted i null)) is)
list_lows image o [] inside = tt
list_lows image o (i ∷ is) inside = (deleted_low image o.extents i (node_place o.node) (slice_index_or (details_at image o.node).deleted i null) inside, list_lows image o is inside)

pub lists_low : (image : Image) (o : Owner) → ((e : Place) → has o.extents e ≡ true → InFile image e) → AllByRecursion StaysLow (lists_of image o)
lists_low image o inside = list_lows image o (range_with_len 0 19) inside
