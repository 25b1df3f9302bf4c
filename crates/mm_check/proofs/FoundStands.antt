-- Where no phase finds anything, points 1 to 5 of what stands hold, with the shape that the walks find.
use Rattle.std.proofs.Common.{◌≡◌, ◌≢◌, ℕ, ℤ, zero, suc, pos, negsuc, ◌+◌, ◌-◌, ◌⊎◌, inl, inr, Bool, true, false, List, [], ◌∷◌, ◌++◌, length, map, Option, Some, None, refl, sym, ◌∙◌, ap, subst}
use Rattle.std.specs.Prelude.{flat_map, slice_index_or, sum_by}
use Rattle.std.specs.FinMap.{get}
use Rattle.std.proofs.lemmas.Bool.{cases_Bool, false≢true}
use Rattle.std.proofs.lemmas.List.{length-map}
use Rattle.std.proofs.lemmas.List.Sums.{sum_by-cons}
use Rattle.mm_base.specs.Places.{null}
use Rattle.mm_base.specs.declared.place.DiskLoc.{DiskLoc}
use Rattle.mm_ranges.specs.Overlay.{Image}
use Rattle.mm_frames.specs.Texts.{text_in}
use Rattle.mm_frames.specs.declared.details.Details.{Details}
use Rattle.mm_frames.specs.declared.extent_header.ExtentHeader.{ExtentHeader}
use Rattle.mm_nstable.specs.Nodes.{is_used, node_at, details_in}
use Rattle.mm_nstable.specs.Table.{Held, table_of}
use Rattle.mm_nstable.proofs.Tables.{table_at}
use Rattle.mm_links.specs.Links.{Place, has, first_of, last_of}
use Rattle.mm_links.proofs.LinkLaws.{both, has_here, has_more, same_own, has_last}
use Rattle.mm_extents.specs.Heap.{extent}
use Rattle.mm_extents.specs.Changes.{loc_or}
use Rattle.mm_records.specs.Constants.{is_name}
use Rattle.mm_records.specs.Shape.{Shape}
use Rattle.mm_records.specs.Stands.{walk, room_of, ext_len, len_at, DetailsStand, FreeStands, HasNode, ns_in}
use Rattle.mm_records.proofs.Freed.{name_is}
use Rattle.mm_walk.specs.Walk.{Reading, Leads, IsWhole, AreWhole, seen_after}
use Rattle.mm_walk.specs.declared.walk.Link.TheVariants.{End, To, Outside}
use Rattle.mm_check.specs.RecordChain.{place_link}
use Rattle.mm_check.specs.ExtentChain.{extent_head, head_by}
use Rattle.mm_check.specs.BlockQuestions.{block_len}
use Rattle.mm_check.specs.CountQuestions.{last_size}
use Rattle.mm_check.specs.NodeQuestions.{free_name, NodesStand}
use Rattle.mm_check.specs.Findings.{joined, nodes_in, name_of, details_at, Owner, owners_of, owners, Clear9}
use Rattle.mm_check.specs.Phases.{node_chain, list_chain}
use Rattle.mm_check.specs.FoundShape.{beside}
use Rattle.mm_check.specs.Standing.{HasNoDot, HasShape, list_named, found_shape}
use Rattle.mm_check.proofs.RecordLaws.{if_yes, if_no, is_pos_true, loc_numbers, loc_end, null_file, loc_is, names_place_true, records_stand}
use Rattle.mm_check.proofs.PhaseBack.{has_either}
use Rattle.mm_check.proofs.Lookups.{beside_in, extent_found}
use Rattle.mm_check.proofs.Insides.{has_in, extent_long}
use Rattle.mm_check.proofs.CheckLaws.{whole_lengths}
use Rattle.mm_check.proofs.CountLaws.{constants_stand}
use Rattle.mm_check.proofs.FileQuestionLaws.{files_stand}
use Rattle.mm_check.proofs.ListLaws.{lists_stand}
use Rattle.mm_check.proofs.FoundExtents.{extent_only}
use Rattle.mm_check.proofs.FoundRecords.{es_once, records_found}
use Rattle.mm_check.proofs.FoundHeap.{block_of, room_long, live_there, is_heap, tiled}
use Rattle.mm_check.proofs.FoundLists.{nodes, all_apart, some_apart, extents_are, lists_found}
use Rattle.mm_check.proofs.FreeNames.{is_held, free_chain_there}
use Rattle.mm_check.proofs.NodeOwners.{Owns, owner_node, node_owner, node_in, in_node, owner_kept, chain_own, chain_none, owner_named}
use Rattle.mm_check.proofs.OwnedLists.{list_whole, map_beside, count_at}

no_true : (b : Bool) → (b ≡ true → ⊥) → b ≡ false
no_true true f = absurd (f refl)
no_true false f = refl

-- ---- heads

to_one : (p q : Place) → To p ≡ To q → p ≡ q
to_one p q e = cc

-- the head of a chain of extents names the first of them
pub head_extent : (r : Reading) (all : List Place) (d : DiskLoc) (ps : List Place) → Leads r None (extent_head all d) ps End → d ≡ loc_or (first_of ps)
head_extent r all d [] l = null_file d (by d.file d.ofs l)
  where
    by : (f o : ℤ) → head_by all f o ≡ End → f ≡ negsuc 0
    by (pos f) (pos a) h = elim (cases_Bool (has all (f, a))) [
      | inl y ↦ absurd (let g : To (f, a) ≡ End = sym (if_yes _ _ _ y) ∙ h in cc)
      | inr n ↦ absurd (let g : Outside ≡ End = sym (if_no _ _ _ n) ∙ h in cc)
    ]
    by (pos f) (negsuc n) h = absurd cc
    by (negsuc zero) o h = refl
    by (negsuc (suc n)) o h = absurd cc
head_extent r all d (p ∷ ps) l = let t = by d.file d.ofs l.0 in loc_is d p t.0 t.1
  where
    by : (f o : ℤ) → head_by all f o ≡ To p → (f ≡ pos p.0) × (o ≡ pos p.1)
    by (pos f) (pos a) h = elim (cases_Bool (has all (f, a))) [
      | inl y ↦ let g : (f, a) ≡ p = to_one (f, a) p (sym (if_yes _ _ _ y) ∙ h) in (ap (λ (q : Place). pos q.0) g, ap (λ (q : Place). pos q.1) g)
      | inr n ↦ absurd (let g : Outside ≡ To p = sym (if_no _ _ _ n) ∙ h in cc)
    ]
    by (pos f) (negsuc n) h = absurd cc
    by (negsuc zero) o h = absurd cc
    by (negsuc (suc n)) o h = absurd cc

-- the head of another chain names the first of its places
pub head_place : (image : Image) (r : Reading) (d : DiskLoc) (ps : List Place) → Leads r None (place_link image d) ps End → d ≡ loc_or (first_of ps)
head_place image r d [] l = null_file d (loc_end image d l)
head_place image r d (p ∷ ps) l = let t = loc_numbers image d p l.0 in loc_is d p t.0 t.1

-- ---- sums

pub sum_same : (f g : Place → ℕ) (xs : List Place) → ((p : Place) → has xs p ≡ true → f p ≡ g p) → sum_by f xs ≡ sum_by g xs
sum_same f g [] h = refl
sum_same f g (x ∷ xs) h = sum_by-cons f x xs ∙ (λ i. h x (has_here x xs x (same_own x)) i + sum_same f g xs (λ p j. h p (has_more x xs p j)) i) ∙ sym (sum_by-cons g x xs)

in_flat : (f : Place → List Place) (xs : List Place) (p : Place) → has (flat_map f xs) p ≡ true → (e : Place) × (has (f e) p ≡ true)
in_flat f [] p h = absurd (false≢true h)
in_flat f (x ∷ xs) p h = elim (has_either (f x) (flat_map f xs) p h) [ inl i ↦ (x, i) | inr j ↦ in_flat f xs p j ]

-- a node's chain is whole
pub own_whole : (reading : ℕ → Reading) (ks : List ℕ) (pss : List (List Place)) (seen : List Place) (o : Owner) → AreWhole seen (map reading ks) pss → Owns o (owners_of ks pss) → (before : List Place) × IsWhole (reading o.node) before o.extents
own_whole reading [] pss seen o a i = absurd i
own_whole reading (k ∷ ks) [] seen o a i = absurd i
own_whole reading (k ∷ ks) (ps ∷ pss) seen o a (inl e) = (seen, subst (λ (x : Owner). IsWhole (reading x.node) seen x.extents) (sym e) a.0)
own_whole reading (k ∷ ks) (ps ∷ pss) seen o a (inr j) = own_whole reading ks pss (ps ++ seen) o a.1 j

module _ (d : List ℕ) (no_dot : HasNoDot d) (image : Image) (chains records blocks : List (List Place)) (c : Clear9 d image chains records blocks) where
  abbrev all : List Place
  all = joined c.before.before.before.before.found

  abbrev all_owners : List Owner
  all_owners = owners_of (nodes_in image) chains

  abbrev es : List Place
  es = flat_map (λ o. o.extents) (owners d image chains)

  abbrev s : Shape
  s = found_shape d image c.before.before.before.before.found chains records blocks

  named_nodes : NodesStand d (ns_in image)
  named_nodes = nodes d image chains records blocks c.before

  -- the node that has the name of an extent
  owner_there : (p : Place) (h : ExtentHeader) → s.heap p ≡ Some (extent h) → HasNode image (text_in h.namespace)
  owner_there p h e = by (owner_named image all_owners (text_in h.namespace))
    where
      by : ((o : Owner) × Owns o all_owners × (name_of image o.node ≡ text_in h.namespace)) ⊎ ((o : Owner) → Owns o all_owners → is_name (name_of image o.node) (text_in h.namespace) ≡ false) → HasNode image (text_in h.namespace)
      by (inl t) =
          let u = in_node image t.0.node (owner_node (nodes_in image) chains t.0 t.1) in
          (record { node = t.0.node; details = details_in (node_at (ns_in image) t.0.node) }, table_at (ns_in image) t.0.node (text_in h.namespace) named_nodes.table u t.2)
      by (inr f) = absurd (false≢true (sym (ap (λ (xs : List Place). has xs p) (chain_none image all_owners (text_in h.namespace) f)) ∙ (extents_are d image chains records blocks c.before).all p h e))

  owner_of : (k : ℕ) → is_used (ns_in image) k ≡ true → (o : Owner) × Owns o all_owners × (o.node ≡ k)
  owner_of k u = node_owner (nodes_in image) chains k (sym (length-map (nodes_in image) (node_chain image all)) ∙ whole_lengths [] (map (node_chain image all) (nodes_in image)) chains c.before.before.before.before.whole) (node_in image k u)

  -- ---- the ends of a node's chain

  ends_right : (o : Owner) → Owns o all_owners → ((details_at image o.node).first_extent ≡ loc_or (first_of (s.extents (name_of image o.node)))) × ((details_at image o.node).last_extent ≡ loc_or (last_of (s.extents (name_of image o.node))))
  ends_right o i =
      let w = (own_whole (node_chain image all) (nodes_in image) chains [] o c.before.before.before.before.whole i).1 in
      let e = chain_own image all_owners o (all_apart d image chains records blocks c.before) i in (
        head_extent (node_chain image all o.node) all (details_at image o.node).first_extent o.extents w.followed.leads ∙ ap (λ (xs : List Place). loc_or (first_of xs)) (sym e),
        names_place_true (details_at image o.node).last_extent (last_of o.extents) w.closed ∙ ap (λ (xs : List Place). loc_or (last_of xs)) (sym e),
      )

  -- ---- its counts

  room_right : (p : Place) → has (joined records) p ≡ true → block_len image p - 16 ≡ room_of (s.heap p)
  room_right p i =
      let h = has_in (joined records) (joined blocks) p (inl i) in
      sym (ap room_of (live_there d image chains records blocks c.before p i) ∙ (room_long d image chains records blocks c.before p h (block_of d image chains records blocks c.before p h)).1)

  last_right : (o : Option Place) → ((e : Place) → o ≡ Some e → has all e ≡ true) → pos (last_size image o) ≡ len_at s.heap o
  last_right None f = refl
  last_right (Some e) f =
      let a = f e refl in
      sym (ap ext_len (extent_found image all (joined records) (joined blocks) e a) ∙ extent_long d image c.before.before.before.before.found c.before.before.before.before.before e a)

  details_right : (o : Owner) → Owns o all_owners → Owns o (owners d image chains) → DetailsStand s (name_of image o.node) (details_at image o.node)
  details_right o i j =
      let ends = ends_right o i in
      let e = chain_own image all_owners o (all_apart d image chains records blocks c.before) i in
      let recs = flat_map (beside es records) o.extents in
      let walked : recs ≡ walk s (name_of image o.node) = ap (flat_map (beside es records)) (sym e) in
      let whole = c.before.before.before.whole in
      let many = whole_lengths [] _ records whole in
      let right = count_at image (beside es records) (owners d image chains) records o (map_beside es records (sym (length-map es _) ∙ many) (es_once d image chains records c.before.before.before (joined blocks))) c.counted j in
      let a = both _ _ right in let b = both _ _ a.1 in let k = both _ _ b.1 in
      record {
        first = ends.0;
        last = ends.1;
        heads = λ n lt.
            let w = list_whole image (owners d image chains) blocks (seen_after [] records) o n (some_apart d image chains records blocks c.before) j lt c.before.before.whole in
            head_place image (list_chain image o n) (slice_index_or (details_at image o.node).deleted n null) (list_named image (owners d image chains) blocks (name_of image o.node) n) w.1.followed.leads;
        nrecords = is_pos_true _ _ a.0 ∙ ap (λ (xs : List Place). pos (length xs)) walked;
        datasize = is_pos_true _ _ b.0 ∙ ap pos (sum_same (λ p. block_len image p - 16) (λ p. room_of (s.heap p)) recs (λ p h. let t = in_flat (beside es records) o.extents p h in room_right p (beside_in es records t.0 p t.1))) ∙ ap (λ (xs : List Place). pos (sum_by (λ p. room_of (s.heap p)) xs)) walked;
        last_size = is_pos_true _ _ k.0 ∙ last_right (last_of o.extents) (λ x f. es_there x (has_last o.extents x f)) ∙ ap (λ (xs : List Place). len_at s.heap (last_of xs)) (sym e);
        constants = constants_stand (name_of image o.node) (details_at image o.node) k.1;
      }
    where
      es_there : (x : Place) → has o.extents x ≡ true → has all x ≡ true
      es_there x h =
          let t = (extents_are d image chains records blocks c.before).on_chain (name_of image o.node) x (ap (λ (xs : List Place). has xs x) (chain_own image all_owners o (all_apart d image chains records blocks c.before) i) ∙ h) in
          extent_only d image chains c.before.before.before.before (joined records) (joined blocks) x t.0 t.1

  counts_right_of : (name : List ℕ) (held : Held) → get (table_of (ns_in image)) name ≡ Some held → name ≢ free_name d → DetailsStand s name held.details
  counts_right_of name held g isnt =
      let h = is_held (ns_in image) name held named_nodes.table g in
      let t = owner_of h.k h.used in
      let named : name_of image t.0.node ≡ name = ap (name_of image) t.2 ∙ h.named in
      let kept = owner_kept d image all_owners t.0 t.1 (no_true _ (λ y. isnt (sym named ∙ name_is _ _ y))) in
      let is : details_at image t.0.node ≡ held.details = ap (details_at image) t.2 ∙ ap (λ (x : Held). x.details) (sym h.is) in
      subst (DetailsStand s name) is (subst (λ (n : List ℕ). DetailsStand s n (details_at image t.0.node)) named (details_right t.0 t.1 kept))

  free_there : (held : Held) × FreeStands image (free_name d) s held
  free_there =
      let f = free_chain_there d (ns_in image) no_dot named_nodes in
      let t = owner_of f.0.node f.3 in
      let named : name_of image t.0.node ≡ free_name d = ap (name_of image) t.2 ∙ f.4 in
      let is : details_at image t.0.node ≡ f.0.details = ap (details_at image) t.2 ∙ ap (λ (x : Held). x.details) (sym f.2) in
      let ends = ends_right t.0 t.1 in (
        f.0,
        record {
          node = f.1;
          first = sym (ap (λ (x : Details). x.first_extent) is) ∙ ends.0 ∙ ap (λ (n : List ℕ). loc_or (first_of (s.extents n))) named;
          last = sym (ap (λ (x : Details). x.last_extent) is) ∙ ends.1 ∙ ap (λ (n : List ℕ). loc_or (last_of (s.extents n))) named;
        },
      )

  pub found_stands : HasShape d image (found_shape d image c.before.before.before.before.found chains records blocks)
  found_stands = record {
    nodes = named_nodes;
    stands = record {
      files = files_stand image c.before.before.before.before.before.before.files;
      table = named_nodes.table;
      heap = is_heap d image chains records blocks c.before;
      tiled = tiled d image chains records blocks c.before;
      extents = extents_are d image chains records blocks c.before;
      owners = owner_there;
      records = records_stand image s (free_name d) (records_found d image chains records c.before.before.before (joined blocks));
      lists = lists_stand image s (lists_found d image chains records blocks c.before);
      counts = counts_right_of;
      free_chain = free_there;
    };
  }
