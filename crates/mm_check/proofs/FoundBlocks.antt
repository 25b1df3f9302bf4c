-- The live records and the deleted blocks that phases 6 to 8 find: where they lie, what stands there, and that they are as the law of tiling asks.
use Rattle.std.proofs.Common.{◌≡◌, ℕ, ℤ, pos, negsuc, ◌+◌, ◌≤◌, inl, inr, Bool, true, false, List, [], ◌∷◌, ◌++◌, map, Option, Some, None, refl, sym, ◌∙◌, ap}
use Rattle.std.specs.Prelude.{◌&&◌, flat_map, slice_index_or}
use Rattle.std.specs.List.{AllByRecursion, range_with_len}
use Rattle.std.proofs.lemmas.Bool.{cases_Bool, false≢true}
use Rattle.mm_base.specs.Places.{null}
use Rattle.mm_ranges.specs.Overlay.{Image}
use Rattle.mm_frames.specs.RecHeader.{rec_header_of}
use Rattle.mm_frames.specs.DeletedHeader.{deleted_header_of}
use Rattle.mm_links.specs.Links.{Place, has}
use Rattle.mm_links.proofs.LinkLaws.{both, either, same_is, same_own, has_here, has_more}
use Rattle.mm_walk.specs.Walk.{Reading, AreWhole}
use Rattle.mm_check.specs.RecordChain.{rec_at, is_record, read_record, names_ofs, records_reading}
use Rattle.mm_check.specs.ListChain.{del_at, lies_in_own, is_deleted, read_deleted, list_reading}
use Rattle.mm_check.specs.ExtentChain.{ext_at, ext_size}
use Rattle.mm_check.specs.BlockQuestions.{gap_at, gap_or, first_gap_of}
use Rattle.mm_check.specs.NodeQuestions.{node_place}
use Rattle.mm_check.specs.Findings.{joined, details_at, Owner, lists_of, list_chains}
use Rattle.mm_check.proofs.RecordLaws.{if_no, is_long_true, nat_le_true, record_of_test}
use Rattle.mm_check.proofs.Insides.{has_in}
use Rattle.mm_check.proofs.CheckLaws.{on_chain_of, read_of_leads}

no_true : (b : Bool) → (b ≡ true → ⊥) → b ≡ false
no_true true f = absurd (f refl)
no_true false f = refl

same_pos : (m n : ℕ) → pos m ≡ pos n → m ≡ n
same_pos m n e = cc

-- ---- the two kinds of block have their length and their extent at the same bytes

pub del_len : (image : Image) (p : Place) → (del_at image p).length_with_headers ≡ (rec_at image p).length_with_headers
unfolding rec_header_of deleted_header_of
del_len image p = refl

pub del_ofs : (image : Image) (p : Place) → (del_at image p).extent_ofs ≡ (rec_at image p).extent_ofs
unfolding rec_header_of deleted_header_of
del_ofs image p = refl

-- ---- a block that was read

-- A block's header names one of these extents, in which it lies, and a length of 32 or more.
pub record IsBlockOf (image : Image) (es : List Place) (p : Place) : Type 0 where
  pub e : Place
  pub owned : has es e ≡ true
  pub file : p.0 ≡ e.0
  pub names : (rec_at image p).extent_ofs ≡ pos e.1
  pub n : ℕ
  pub long : (rec_at image p).length_with_headers ≡ pos n
  pub some : 32 ≤ n
  pub from : e.1 + 176 ≤ p.1
  pub to : p.1 + 16 ≤ e.1 + ext_size image e

module _ (image : Image) (es : List Place) where
  -- the live records of one of the extents
  abbrev IsRecords : Reading → Type 0
  IsRecords r = (e : Place) × (has es e ≡ true) × ((o : Option Place) (p : Place) → r.read o p ≡ read_record image e (ext_size image e) o p)

  -- a list of deleted blocks of some of the extents
  abbrev IsList : Reading → Type 0
  IsList r = (own : List Place) × (i : ℕ) × ((e : Place) → has own e ≡ true → has es e ≡ true) × ((o : Option Place) (p : Place) → r.read o p ≡ read_deleted image own i o p)

  all_records : (xs : List Place) → ((e : Place) → has xs e ≡ true → has es e ≡ true) → AllByRecursion IsRecords (map (λ e. records_reading image e (ext_size image e) (ext_at image e).first_record (ext_at image e).last_record) xs)
  all_records [] f = tt
  all_records (x ∷ xs) f = ((x, f x (has_here x xs x (same_own x)), λ o p. refl), all_records xs (λ e h. f e (has_more x xs e h)))

  node_lists : (o : Owner) (is : List ℕ) → ((e : Place) → has o.extents e ≡ true → has es e ≡ true)
      → AllByRecursion IsList (map (λ i. list_reading image o.extents i (node_place o.node) (slice_index_or (details_at image o.node).deleted i null)) is)
  node_lists o [] f = tt
  node_lists o (i ∷ is) f = ((o.extents, i, f, λ q p. refl), node_lists o is f)

  all_append : (rs qs : List Reading) → AllByRecursion IsList rs → AllByRecursion IsList qs → AllByRecursion IsList (rs ++ qs)
  all_append [] qs a b = b
  all_append (r ∷ rs) qs a b = (a.0, all_append rs qs a.1 b)

  all_lists : (os : List Owner) → ((e : Place) → has (flat_map (λ o. o.extents) os) e ≡ true → has es e ≡ true) → AllByRecursion IsList (list_chains image os)
  all_lists [] f = tt
  all_lists (o ∷ os) f =
      all_append (lists_of image o) (list_chains image os) (node_lists o (range_with_len 0 19) (λ e h. f e (has_in o.extents (flat_map (λ x. x.extents) os) e (inl h))))
      (all_lists os (λ e h. f e (has_in o.extents (flat_map (λ x. x.extents) os) e (inr h))))

  of_record : (p : Place) (r : Reading) (o : Option Place) (t : (next : _) × (r.read o p ≡ Some next)) → IsRecords r → IsBlockOf image es p
  of_record p r o t k = elim (cases_Bool (is_record image k.0 (ext_size image k.0) p && names_ofs (rec_at image p).prev_ofs o)) [
    | inl y ↦
        let a = record_of_test image k.0 (ext_size image k.0) p (both _ _ y).0 in
        record { e = k.0; owned = k.1; file = a.file; names = a.of_extent; n = a.n; long = a.long; some = a.some; from = a.from; to = a.to }
    | inr x ↦ absurd (let f : None ≡ Some t.0 = sym (if_no _ _ _ x) ∙ sym (k.2 o p) ∙ t.1 in cc)
  ]

  of_own : (p : Place) (own : List Place) (z : ℤ) → ((e : Place) → has own e ≡ true → has es e ≡ true) → (del_at image p).extent_ofs ≡ z → lies_in_own image own p z ≡ true → (n : ℕ) → (rec_at image p).length_with_headers ≡ pos n → 32 ≤ n → IsBlockOf image es p
  of_own p own (negsuc m) f e h n long some = absurd (false≢true h)
  of_own p own (pos a) f e h n long some =
      let t = both _ _ h in let u = both _ _ t.1 in
      record { e = (p.0, a); owned = f (p.0, a) t.0; file = refl; names = sym (del_ofs image p) ∙ e; n = n; long = long; some = some; from = nat_le_true _ _ u.0; to = nat_le_true _ _ u.1 }

  of_deleted : (p : Place) (r : Reading) (o : Option Place) (t : (next : _) × (r.read o p ≡ Some next)) → IsList r → IsBlockOf image es p
  of_deleted p r o t k = elim (cases_Bool (is_deleted image k.0 k.1 p)) [
    | inl y ↦
        let a = both _ _ (both _ _ y).1 in
        let l = is_long_true (del_at image p).length_with_headers (both _ _ a.1).0 in
        of_own p k.0 (del_at image p).extent_ofs k.2 refl a.0 l.0 (sym (del_len image p) ∙ l.1) l.2
    | inr x ↦ absurd (let f : None ≡ Some t.0 = sym (if_no _ _ _ x) ∙ sym (k.3 o p) ∙ t.1 in cc)
  ]

  pub record_of : (pss : List (List Place)) (seen : List Place) (p : Place) → AreWhole seen (map (λ e. records_reading image e (ext_size image e) (ext_at image e).first_record (ext_at image e).last_record) es) pss → has (joined pss) p ≡ true → IsBlockOf image es p
  record_of pss seen p a h =
      let o = on_chain_of IsRecords (map (λ e. records_reading image e (ext_size image e) (ext_at image e).first_record (ext_at image e).last_record) es) pss seen p a (all_records es (λ e i. i)) h in
      let t = read_of_leads o.r None o.r.head o.ps p o.whole.followed.leads o.on in
      of_record p o.r t.0 (t.1, t.2) o.is

  pub deleted_of : (os : List Owner) (pss : List (List Place)) (seen : List Place) (p : Place) → ((e : Place) → has (flat_map (λ o. o.extents) os) e ≡ true → has es e ≡ true) → AreWhole seen (list_chains image os) pss → has (joined pss) p ≡ true → IsBlockOf image es p
  deleted_of os pss seen p f a h =
      let o = on_chain_of IsList (list_chains image os) pss seen p a (all_lists os f) h in
      let t = read_of_leads o.r None o.r.head o.ps p o.whole.followed.leads o.on in
      of_deleted p o.r t.0 (t.1, t.2) o.is

-- ---- no extent has a gap

gap_none : (e : Place) (o : Option ℕ) (rest : Option Place) → gap_or e o rest ≡ None → (o ≡ None) × (rest ≡ None)
gap_none e None rest h = (refl, h)
gap_none e (Some a) rest h = absurd cc

pub no_gap_at : (image : Image) (placed es : List Place) (e : Place) → first_gap_of image placed es ≡ None → has es e ≡ true → gap_at image placed e ≡ None
no_gap_at image placed [] e g h = absurd (false≢true h)
no_gap_at image placed (x ∷ xs) e g h =
    let t = gap_none x (gap_at image placed x) (first_gap_of image placed xs) g in
    elim (either _ _ h) [
      | inl y ↦ ap (gap_at image placed) (sym (same_is x e y)) ∙ t.0
      | inr i ↦ no_gap_at image placed xs e t.1 i
    ]
