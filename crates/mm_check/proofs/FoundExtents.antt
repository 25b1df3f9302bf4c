-- The extents that phases 3 to 5 find are as the laws of these phases ask.
use Rattle.std.proofs.Common.{◌≡◌, ℕ, zero, suc, ◌<◌, ◌⊎◌, inl, inr, Bool, true, false, List, [], ◌∷◌, ◌++◌, map, Some, None, refl, sym, ◌∙◌, ap, subst, arith}
use Rattle.std.proofs.lemmas.Bool.{cases_Bool, false≢true}
use Rattle.mm_base.specs.Bytes.{padded}
use Rattle.mm_ranges.specs.Overlay.{Image}
use Rattle.mm_frames.specs.Texts.{text_in}
use Rattle.mm_frames.specs.declared.extent_header.ExtentHeader.{ExtentHeader}
use Rattle.mm_nstable.specs.Nodes.{is_used, node_at, name_in, count_of}
use Rattle.mm_links.specs.Links.{Place, same, has}
use Rattle.mm_links.proofs.LinkLaws.{either, same_is}
use Rattle.mm_extents.specs.Heap.{extent, live, deleted}
use Rattle.mm_records.specs.Constants.{is_name}
use Rattle.mm_records.specs.Stands.{ns_in}
use Rattle.mm_records.proofs.Freed.{name_own, name_is}
use Rattle.mm_walk.specs.Walk.{Reading, AreWhole, seen_after}
use Rattle.mm_walk.specs.Questions.{first_failing}
use Rattle.mm_check.specs.RecordChain.{rec_at}
use Rattle.mm_check.specs.ListChain.{del_at}
use Rattle.mm_check.specs.ExtentChain.{ext_at, chain_reading, lost_questions, asked, IsNodeChain, ExtentsFound}
use Rattle.mm_check.specs.NodeQuestions.{node_place}
use Rattle.mm_check.specs.Findings.{joined, nodes_in, used_from, field_of, name_of, details_at, owners_of, Clear5}
use Rattle.mm_check.specs.FoundShape.{room_at, found_heap, chain_named}
use Rattle.mm_check.proofs.RecordLaws.{if_yes, if_no}
use Rattle.mm_check.proofs.PhaseBack.{has_either}
use Rattle.mm_check.proofs.FileQuestionLaws.{failing_cons}
use Rattle.mm_check.proofs.NodeLaws.{nodes_stand}
use Rattle.mm_check.proofs.Lookups.{extent_found}
use Rattle.mm_check.proofs.Insides.{Each, has_in, on_one, inside_found}
use Rattle.mm_check.proofs.ExtentLaws.{named_of_leads}

-- ---- what was seen on chains

seen_joined : (seen : List Place) (pss : List (List Place)) (p : Place) → has (seen_after seen pss) p ≡ true → (has seen p ≡ true) ⊎ (has (joined pss) p ≡ true)
seen_joined seen [] p h = inl h
seen_joined seen (ps ∷ pss) p h = elim (seen_joined (ps ++ seen) pss p h) [
  | inl i ↦ elim (has_either ps seen p i) [ inl j ↦ inr (has_in ps (joined pss) p (inl j)) | inr j ↦ inl j ]
  | inr j ↦ inr (has_in ps (joined pss) p (inr j))
]

none_lost : (all chained : List Place) (p : Place) → first_failing (lost_questions all chained) ≡ None → has all p ≡ true → has chained p ≡ true
none_lost [] chained p e h = absurd (false≢true h)
none_lost (x ∷ xs) chained p e h =
    let t = failing_cons (asked x (has chained x)) (lost_questions xs chained) e in
    elim (either (same x p) (has xs p) h) [
      | inl y ↦ ap (has chained) (sym (same_is x p y)) ∙ t.0
      | inr i ↦ none_lost xs chained p t.1 i
    ]

-- ---- nodes and their chains

-- the names of these nodes differ
abbrev Differ : Image → List ℕ → Type 0
Differ image [] = Unit {0}
Differ image (k ∷ ks) = Each (λ j. is_name (name_of image k) (name_of image j) ≡ false) ks × Differ image ks

module _ (image : Image) (all : List Place) where
  abbrev reading : ℕ → Reading
  reading k = chain_reading image all (field_of image k) (node_place k) (details_at image k).first_extent (details_at image k).last_extent

  named_chain : (ks : List ℕ) (pss : List (List Place)) (seen : List Place) (name : List ℕ) → AreWhole seen (map reading ks) pss → (chain_named image (owners_of ks pss) name ≡ []) ⊎ IsNodeChain image all name (chain_named image (owners_of ks pss) name)
  named_chain [] pss seen name a = inl refl
  named_chain (k ∷ ks) [] seen name a = absurd a
  named_chain (k ∷ ks) (ps ∷ pss) seen name a = elim (cases_Bool (is_name (name_of image k) name)) [
    | inl y ↦
        let e : chain_named image (owners_of (k ∷ ks) (ps ∷ pss)) name ≡ ps = if_yes (is_name (name_of image k) name) ps (chain_named image (owners_of ks pss) name) y in
        inr (subst (IsNodeChain image all name) (sym e) (record { field = field_of image k; node = node_place k; first = (details_at image k).first_extent; last = (details_at image k).last_extent; seen = seen; whole = a.0; spells = name_is (name_of image k) name y }))
    | inr n ↦
        let e : chain_named image (owners_of (k ∷ ks) (ps ∷ pss)) name ≡ chain_named image (owners_of ks pss) name = if_no (is_name (name_of image k) name) ps (chain_named image (owners_of ks pss) name) n in
        subst (λ (qs : List Place). (qs ≡ []) ⊎ IsNodeChain image all name qs) (sym e) (named_chain ks pss (ps ++ seen) name a.1)
  ]

  -- the node that has a place on its chain
  record HasOn (ks : List ℕ) (pss : List (List Place)) (p : Place) : Type 0 where
    k : ℕ
    is : ((j : ℕ) → Each (λ i. is_name (name_of image j) (name_of image i) ≡ false) ks → is_name (name_of image j) (name_of image k) ≡ false)
    on : has (chain_named image (owners_of ks pss) (name_of image k)) p ≡ true

  on_named : (ks : List ℕ) (pss : List (List Place)) (seen : List Place) (p : Place) → AreWhole seen (map reading ks) pss → Differ image ks → has (joined pss) p ≡ true → HasOn ks pss p
  on_named [] [] seen p a o h = absurd (false≢true h)
  on_named [] (ps ∷ pss) seen p a o h = absurd a
  on_named (k ∷ ks) [] seen p a o h = absurd a
  on_named (k ∷ ks) (ps ∷ pss) seen p a o h = elim (has_either ps (joined pss) p h) [
    | inl i ↦ record {
      k = k;
      is = λ j each. each.0;
      on = ap (λ (qs : List Place). has qs p) (if_yes (is_name (name_of image k) (name_of image k)) ps (chain_named image (owners_of ks pss) (name_of image k)) (name_own (name_of image k) (name_of image k) refl)) ∙ i;
    }
    | inr j ↦
        let t = on_named ks pss (ps ++ seen) p a.1 o.1 j in
        record {
          k = t.k;
          is = λ i each. t.is i each.1;
          on = ap (λ (qs : List Place). has qs p) (if_no (is_name (name_of image k) (name_of image t.k)) ps (chain_named image (owners_of ks pss) (name_of image t.k)) (t.is k o.0)) ∙ t.on;
        }
  ]

-- ---- the used nodes have different names

no_true : (b : Bool) → (b ≡ true → ⊥) → b ≡ false
no_true true f = absurd (f refl)
no_true false f = refl

module _ (image : Image) (apart : (j k : ℕ) → is_used (ns_in image) j ≡ true → is_used (ns_in image) k ≡ true → name_in (node_at (ns_in image) j) ≡ name_in (node_at (ns_in image) k) → j ≡ k) where
  others_differ : (k m n : ℕ) → is_used (ns_in image) k ≡ true → k < m → Each (λ j. is_name (name_of image k) (name_of image j) ≡ false) (used_from (ns_in image) m n)
  others_differ k m zero u lt = tt
  others_differ k m (suc n) u lt = elim (cases_Bool (is_used (ns_in image) m)) [
    | inl y ↦
        subst (Each (λ j. is_name (name_of image k) (name_of image j) ≡ false)) (sym (if_yes (is_used (ns_in image) m) (m ∷ used_from (ns_in image) (suc m) n) (used_from (ns_in image) (suc m) n) y))
        (no_true _ (λ h. let s : k ≡ m = apart k m u y (name_is _ _ h) in omega (arith, s, lt)), others_differ k (suc m) n u (omega (arith, lt)))
    | inr x ↦ subst (Each (λ j. is_name (name_of image k) (name_of image j) ≡ false)) (sym (if_no (is_used (ns_in image) m) (m ∷ used_from (ns_in image) (suc m) n) (used_from (ns_in image) (suc m) n) x)) (others_differ k (suc m) n u (omega (arith, lt)))
  ]

  all_differ : (k n : ℕ) → Differ image (used_from (ns_in image) k n)
  all_differ k zero = tt
  all_differ k (suc n) = elim (cases_Bool (is_used (ns_in image) k)) [
    | inl y ↦ subst (Differ image) (sym (if_yes (is_used (ns_in image) k) (k ∷ used_from (ns_in image) (suc k) n) (used_from (ns_in image) (suc k) n) y)) (others_differ k (suc k) n y (omega arith), all_differ (suc k) n)
    | inr x ↦ subst (Differ image) (sym (if_no (is_used (ns_in image) k) (k ∷ used_from (ns_in image) (suc k) n) (used_from (ns_in image) (suc k) n) x)) (all_differ (suc k) n)
  ]

all_used : (image : Image) (k n : ℕ) → Each (λ j. is_used (ns_in image) j ≡ true) (used_from (ns_in image) k n)
all_used image k zero = tt
all_used image k (suc n) = elim (cases_Bool (is_used (ns_in image) k)) [
  | inl y ↦ subst (Each (λ j. is_used (ns_in image) j ≡ true)) (sym (if_yes (is_used (ns_in image) k) (k ∷ used_from (ns_in image) (suc k) n) (used_from (ns_in image) (suc k) n) y)) (y, all_used image (suc k) n)
  | inr x ↦ subst (Each (λ j. is_used (ns_in image) j ≡ true)) (sym (if_no (is_used (ns_in image) k) (k ∷ used_from (ns_in image) (suc k) n) (used_from (ns_in image) (suc k) n) x)) (all_used image (suc k) n)
]

-- ---- the extents of the shape

module _ (d : List ℕ) (image : Image) (chains : List (List Place)) (c : Clear5 d image chains) (recs blks : List Place) where
  abbrev all_of : List Place
  all_of = joined c.found

  pub extent_only : (p : Place) (h : ExtentHeader) → found_heap image (joined c.found) recs blks p ≡ Some (extent h) → has (joined c.found) p ≡ true
  extent_only p h e = elim (cases_Bool (has (joined c.found) p)) [
    | inl y ↦ y
    | inr n ↦ elim (cases_Bool (has recs p)) [
      | inl y ↦ absurd (let f : Some (live (rec_at image p) (room_at image p)) ≡ Some (extent h) = sym (if_no _ _ _ n ∙ if_yes _ _ _ y) ∙ e in cc)
      | inr m ↦ elim (cases_Bool (has blks p)) [
        | inl y ↦ absurd (let f : Some (deleted (del_at image p) (room_at image p)) ≡ Some (extent h) = sym (if_no _ _ _ n ∙ if_no _ _ _ m ∙ if_yes _ _ _ y) ∙ e in cc)
        | inr x ↦ absurd (let f : None ≡ Some (extent h) = sym (if_no _ _ _ n ∙ if_no _ _ _ m ∙ if_no _ _ _ x) ∙ e in cc)
      ]
    ]
  ]

  -- each of them is on a chain
  pub on_chains : (p : Place) → has (joined c.found) p ≡ true → has (joined chains) p ≡ true
  on_chains p h = elim (seen_joined [] chains p (none_lost (joined c.found) (seen_after [] chains) p c.none_lost h)) [ inl i ↦ absurd (false≢true i) | inr j ↦ j ]

  pub extents_found : ExtentsFound image (found_heap image (joined c.found) recs blks) (chain_named image (owners_of (nodes_in image) chains))
  unfolding nodes_in
  extents_found =
      let nodes = nodes_stand d (ns_in image) c.before.before.nodes in
      record {
        all = joined c.found;
        inside = inside_found d image c.found c.before;
        there = λ p h. extent_found image (joined c.found) recs blks p h;
        only = extent_only;
        chain = λ name. named_chain image (joined c.found) (nodes_in image) chains [] name c.whole;
        none_lost = λ p h.
            let seen = none_lost (joined c.found) (seen_after [] chains) p c.none_lost h in
            let on : has (joined chains) p ≡ true = elim (seen_joined [] chains p seen) [ inl i ↦ absurd (false≢true i) | inr j ↦ j ] in
            let t = on_named image (joined c.found) (nodes_in image) chains [] p c.whole (all_differ image nodes.table.apart 0 (count_of (ns_in image))) on in
            (name_of image t.k, t.on);
      }

  -- each of them has the zero padded name of a node
  pub padded_name : (p : Place) → has (joined c.found) p ≡ true → (ext_at image p).namespace ≡ padded 128 (text_in (ext_at image p).namespace)
  unfolding nodes_in
  padded_name p h =
      let nodes = nodes_stand d (ns_in image) c.before.before.nodes in
      let seen = none_lost (joined c.found) (seen_after [] chains) p c.none_lost h in
      let on : has (joined chains) p ≡ true = elim (seen_joined [] chains p seen) [ inl i ↦ absurd (false≢true i) | inr j ↦ j ] in
      let o = on_one (λ k. chain_reading image (joined c.found) (field_of image k) (node_place k) (details_at image k).first_extent (details_at image k).last_extent) (λ k. is_used (ns_in image) k ≡ true) (nodes_in image) chains [] p c.whole (all_used image 0 (count_of (ns_in image))) on in
      let n = named_of_leads image (joined c.found) (field_of image o.k) (node_place o.k) (details_at image o.k).first_extent (details_at image o.k).last_extent None _ o.ps p o.whole.followed.leads o.on in
      n.named ∙ (nodes.table.named o.k o.is).field ∙ ap (λ (x : List ℕ). padded 128 (text_in x)) (sym n.named)
