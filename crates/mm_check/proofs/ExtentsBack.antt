-- The extents stand exactly where phases 4 and 5 find nothing.
use Rattle.std.proofs.Common.{◌≡◌, ℕ, ◌⊎◌, inl, inr, true, List, [], ◌++◌, Some, refl, sym, ◌∙◌, ap, subst}
use Rattle.std.proofs.lemmas.Bool.{false≢true}
use Rattle.mm_base.specs.Bytes.{padded}
use Rattle.mm_base.specs.declared.place.DiskLoc.{DiskLoc}
use Rattle.mm_ranges.specs.Overlay.{Image}
use Rattle.mm_frames.specs.Texts.{text_in}
use Rattle.mm_frames.specs.declared.extent_header.ExtentHeader.{ExtentHeader}
use Rattle.mm_links.specs.Links.{Place, has, once, first_of, last_of, IsLinked}
use Rattle.mm_links.proofs.LinkLaws.{relinked, has_first, has_last}
use Rattle.mm_extents.specs.Heap.{Heap, extent}
use Rattle.mm_extents.specs.Changes.{loc_or}
use Rattle.mm_extents.specs.Chains.{ExtentsStand, ext_next, ext_prev}
use Rattle.mm_walk.specs.Walk.{IsWhole, Breaks}
use Rattle.mm_walk.proofs.Linked.{linked_of_whole, right_of_whole, whole_of_linked}
use Rattle.mm_walk.proofs.WalkLaws.{whole_is_one, whole_or_broken}
use Rattle.mm_check.specs.RecordChain.{place_link, names_place}
use Rattle.mm_check.specs.ExtentChain.{ext_at, IsNamedExtent, extent_head, chain_reading, IsNodeChain, ExtentsFound}
use Rattle.mm_check.proofs.RecordsBack.{names_own}
use Rattle.mm_check.proofs.ExtentLaws.{AllInside, chain_links, head_own}

same_extent : (h g : ExtentHeader) → Some (extent h) ≡ Some (extent g) → h ≡ g
same_extent h g e = cc

-- ---- nothing found: the extents stand

module _ (image : Image) (heap : Heap) (extents : List ℕ → List Place) (f : ExtentsFound image heap extents) where
  right_at : (name : List ℕ) (p : Place) → has (extents name) p ≡ true → (has f.all p ≡ true) × (text_in (ext_at image p).namespace ≡ name)
  right_at name p h = by (f.chain name)
    where
      by : (extents name ≡ []) ⊎ IsNodeChain image f.all name (extents name) → (has f.all p ≡ true) × (text_in (ext_at image p).namespace ≡ name)
      by (inl none) = absurd (false≢true (ap (λ (xs : List Place). has xs p) (sym none) ∙ h))
      by (inr c) =
          let r = right_of_whole (chain_reading image f.all c.field c.node c.first c.last) loc_or (IsNamedExtent image f.all c.field) (λ q. (ext_at image q).xnext) (λ q. (ext_at image q).xprev) (place_link image)
          (chain_links image f.all f.inside c.field c.node c.first c.last) c.seen (extents name) c.whole p h in
          (r.there, ap text_in r.named ∙ c.spells)

  linked_at : (name : List ℕ) → (extents name ≡ []) ⊎ IsNodeChain image f.all name (extents name) → IsLinked loc_or (extents name) (λ p. ext_next (heap p)) (λ p. ext_prev (heap p))
  linked_at name (inl none) = subst (λ (xs : List Place). IsLinked loc_or xs (λ p. ext_next (heap p)) (λ p. ext_prev (heap p))) (sym none)
      (record { no_twice = refl; behind = λ p h. absurd (false≢true h); before = λ p q h. absurd cc; first = λ p h. absurd cc })
  linked_at name (inr c) =
      let l = linked_of_whole (chain_reading image f.all c.field c.node c.first c.last) loc_or (IsNamedExtent image f.all c.field) (λ q. (ext_at image q).xnext) (λ q. (ext_at image q).xprev) (place_link image)
      (chain_links image f.all f.inside c.field c.node c.first c.last) c.seen (extents name) c.whole in
      relinked loc_or (extents name) (λ p. (ext_at image p).xnext) (λ p. (ext_at image p).xprev) (λ p. ext_next (heap p)) (λ p. ext_prev (heap p)) l
      (λ q h. ap ext_next (f.there q (right_at name q h).0)) (λ q h. ap ext_prev (f.there q (right_at name q h).0))

  pub extents_stand : ExtentsStand heap extents
  extents_stand = record {
    linked = λ name. linked_at name (f.chain name);
    on_chain = λ name p h. let r = right_at name p h in (ext_at image p, f.there p r.0, r.1);
    all = λ p h e.
        let a = f.only p h e in
        let o = f.none_lost p a in
        let same = same_extent h (ext_at image p) (sym e ∙ f.there p a) in
        let named : o.0 ≡ text_in h.namespace = sym (right_at o.0 p o.1).1 ∙ ap (λ (x : ExtentHeader). text_in x.namespace) (sym same) in
        ap (λ (n : List ℕ). has (extents n) p) (sym named) ∙ o.1;
  }

-- ---- they stand in some shape: nothing is found, and the chain is the shape's

module _ (image : Image) (heap : Heap) (extents : List ℕ → List Place) (st : ExtentsStand heap extents) (all : List Place) (inside : AllInside image all)
    (shown : (p : Place) (h : ExtentHeader) → heap p ≡ Some (extent h) → (has all p ≡ true) × (ext_at image p ≡ h))
    (padded_name : (p : Place) (h : ExtentHeader) → heap p ≡ Some (extent h) → h.namespace ≡ padded 128 (text_in h.namespace)) (name : List ℕ) where
  there : (p : Place) → has (extents name) p ≡ true → has all p ≡ true
  there p i = let x = st.on_chain name p i in (shown p x.0 x.1).0

  head_at : (p : Place) → has (extents name) p ≡ true → Some (extent (ext_at image p)) ≡ heap p
  head_at p i = let x = st.on_chain name p i in ap (λ (h : ExtentHeader). Some (extent h)) (shown p x.0 x.1).1 ∙ sym x.1

  right : (p : Place) → has (extents name) p ≡ true → IsNamedExtent image all (padded 128 name) p
  right p i =
      let x = st.on_chain name p i in
      let s = shown p x.0 x.1 in
      record { there = s.0; named = ap (λ (h : ExtentHeader). h.namespace) s.1 ∙ padded_name p x.0 x.1 ∙ ap (padded 128) x.2 }

  pub chain_whole : (node : Place) (first last : DiskLoc) (seen : List Place) → first ≡ loc_or (first_of (extents name)) → last ≡ loc_or (last_of (extents name)) → once (extents name ++ seen) ≡ true
      → IsWhole (chain_reading image all (padded 128 name) node first last) seen (extents name)
  chain_whole node first last seen first_is last_is fresh =
      whole_of_linked (chain_reading image all (padded 128 name) node first last) loc_or (IsNamedExtent image all (padded 128 name)) (λ p. (ext_at image p).xnext) (λ p. (ext_at image p).xprev) (place_link image)
      (chain_links image all inside (padded 128 name) node first last) seen (extents name) fresh
      (ap (extent_head all) first_is ∙ head_own image all inside (padded 128 name) (first_of (extents name)) (λ p e. there p (has_first (extents name) p e)))
      (ap (λ (d : DiskLoc). names_place d (last_of (extents name))) last_is ∙ names_own (last_of (extents name)) (λ p e. let i = inside p (there p (has_last (extents name) p e)) in (i.data_file, i.low)))
      right
      (relinked loc_or (extents name) (λ p. ext_next (heap p)) (λ p. ext_prev (heap p)) (λ p. (ext_at image p).xnext) (λ p. (ext_at image p).xprev) (st.linked name)
      (λ q i. ap ext_next (head_at q i)) (λ q i. ap ext_prev (head_at q i)))

  pub no_chain_finding : (node : Place) (first last : DiskLoc) (seen : List Place) (at : Place) → first ≡ loc_or (first_of (extents name)) → last ≡ loc_or (last_of (extents name)) → once (extents name ++ seen) ≡ true
      → Breaks (chain_reading image all (padded 128 name) node first last) seen at → ⊥
  no_chain_finding node first last seen at first_is last_is fresh b = whole_or_broken (chain_reading image all (padded 128 name) node first last) seen (extents name) at (chain_whole node first last seen first_is last_is fresh) b

  pub found_chain_is_shape : (node : Place) (first last : DiskLoc) (seen ps : List Place) → first ≡ loc_or (first_of (extents name)) → last ≡ loc_or (last_of (extents name)) → once (extents name ++ seen) ≡ true
      → IsWhole (chain_reading image all (padded 128 name) node first last) seen ps → ps ≡ extents name
  found_chain_is_shape node first last seen ps first_is last_is fresh w = whole_is_one (chain_reading image all (padded 128 name) node first last) seen ps (extents name) w (chain_whole node first last seen first_is last_is fresh)
