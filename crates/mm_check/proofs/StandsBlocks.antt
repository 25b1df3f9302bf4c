-- Where files stand in some shape, phases 6 and 7 find nothing, and find the shape's live records and deleted blocks.
use Rattle.std.proofs.Common.{◌≡◌, ◌≢◌, ℕ, zero, suc, pos, ◌+◌, ◌≤◌, ◌<◌, inl, inr, Bool, true, false, List, [], ◌∷◌, ◌++◌, length, map, Some, refl, sym, ◌∙◌, ap, arith}
use Rattle.std.specs.Prelude.{flat_map, slice_index_or}
use Rattle.std.specs.List.{range_with_len}
use Rattle.std.proofs.lemmas.List.{length-map}
use Rattle.std.proofs.lemmas.Bool.{cases_lt, false≢true}
use Rattle.mm_base.specs.Places.{null}
use Rattle.mm_ranges.specs.Overlay.{Image, bytes_at}
use Rattle.mm_frames.specs.Texts.{text_in}
use Rattle.mm_frames.specs.declared.extent_header.ExtentHeader.{ExtentHeader}
use Rattle.mm_frames.specs.declared.rec_header.RecHeader.{RecHeader}
use Rattle.mm_frames.specs.declared.deleted_header.DeletedHeader.{DeletedHeader}
use Rattle.mm_nstable.specs.Nodes.{is_used}
use Rattle.mm_nstable.specs.Table.{Held}
use Rattle.mm_nstable.proofs.Tables.{table_at}
use Rattle.mm_links.specs.Links.{Place, has, once}
use Rattle.mm_extents.specs.Heap.{extent, live, deleted}
use Rattle.mm_extents.proofs.FileLaws.{short_file}
use Rattle.mm_extents.specs.Files.{unused_in}
use Rattle.mm_records.specs.Shape.{Shape, list_for}
use Rattle.mm_records.specs.Stands.{DetailsStand, ns_in}
use Rattle.mm_records.proofs.Freed.{name_own, name_is}
use Rattle.mm_walk.specs.Walk.{IsWhole, AreWhole, seen_after}
use Rattle.mm_check.specs.RecordChain.{place_link, names_place}
use Rattle.mm_check.specs.ExtentChain.{ext_size}
use Rattle.mm_check.specs.NodeQuestions.{free_name, node_place}
use Rattle.mm_check.specs.Findings.{joined, nodes_in, name_of, details_at, Owner, owners_of, owners, lists_of, list_chains, Clear6, Clear7}
use Rattle.mm_check.specs.Phases.{record_chain, list_chain}
use Rattle.mm_check.specs.Standing.{HasShape}
use Rattle.mm_check.proofs.PhaseBack.{has_either, once_append, phase_whole}
use Rattle.mm_check.proofs.Insides.{has_in, inside_found, chained_there}
use Rattle.mm_check.proofs.CheckLaws.{joined_once}
use Rattle.mm_check.proofs.ListTests.{AreOwn, reads_list}
use Rattle.mm_check.proofs.FoundRecords.{kept_isnt_free, kept_once}
use Rattle.mm_check.proofs.FoundHeap.{kept_chains}
use Rattle.mm_check.proofs.NodeOwners.{Owns, Apart, owner_node, node_owner, owner_kept, kept_owner, owners_apart, nodes_differ, kept_apart, in_node, owned_in}
use Rattle.mm_check.proofs.EachWhole.{EachWhole, whole_of_each, each_append, joined_append, seen_joined, once_seen}
use Rattle.mm_check.proofs.StandsChains.{all_found, three, in_all, own_header, here_at, chains_whole, on_node, five}
use Rattle.mm_check.proofs.RecordsBack.{whole_of_stands}
use Rattle.mm_check.proofs.ListsBack.{list_whole}

no_true : (b : Bool) → (b ≡ true → ⊥) → b ≡ false
no_true true f = absurd (f refl)
no_true false f = refl

same_deleted : (h g : DeletedHeader) (r q : List ℕ) → Some (deleted h r) ≡ Some (deleted g q) → (h ≡ g) × (r ≡ q)
same_deleted h g r q e = (cc, cc)

same_extent : (h g : ExtentHeader) → Some (extent h) ≡ Some (extent g) → h ≡ g
same_extent h g e = cc

same_pos : (m n : ℕ) → pos m ≡ pos n → m ≡ n
same_pos m n e = cc

-- the chain that goes with a node
pub mapped_owner : (f : ℕ → List Place) (ks : List ℕ) (o : Owner) → Owns o (owners_of ks (map f ks)) → o.extents ≡ f o.node
mapped_owner f [] o i = absurd i
mapped_owner f (k ∷ ks) o (inl e) = ap (λ (x : Owner). x.extents) e ∙ ap (λ (x : Owner). f x.node) (sym e)
mapped_owner f (k ∷ ks) o (inr j) = mapped_owner f ks o j

-- a place on one of the lists of a family
in_family : (f : ℕ → List Place) (m n : ℕ) (p : Place) → has (joined (map f (range_with_len m n))) p ≡ true → (i : ℕ) × (m ≤ i) × (has (f i) p ≡ true)
in_family f m zero p h = absurd (false≢true h)
in_family f m (suc n) p h = elim (has_either (f m) (joined (map f (range_with_len (m + 1) n))) p h) [
  | inl i ↦ (m, omega arith, i)
  | inr j ↦ let t = in_family f (m + 1) n p j in let le = t.1 in (t.0, omega (arith, le), t.2)
]

family_in : (f : ℕ → List Place) (m n i : ℕ) (p : Place) → m ≤ i → i < m + n → has (f i) p ≡ true → has (joined (map f (range_with_len m n))) p ≡ true
family_in f m zero i p lo hi h = absurd (omega (arith, lo, hi))
family_in f m (suc n) i p lo hi h = elim (cases_lt m i) [
  | inl lt ↦ has_in (f m) (joined (map f (range_with_len (m + 1) n))) p (inr (family_in f (m + 1) n i p (omega (arith, lt)) (omega (arith, hi)) h))
  | inr ge ↦ let e : i ≡ m = omega (arith, lo, ge) in has_in (f m) (joined (map f (range_with_len (m + 1) n))) p (inl (ap (λ (j : ℕ). has (f j) p) (sym e) ∙ h))
]

module _ (d : List ℕ) (image : Image) (s : Shape) (st : HasShape d image s) where
  abbrev chain_of : ℕ → List Place
  chain_of k = s.extents (name_of image k)

  abbrev chains : List (List Place)
  chains = map (λ k. s.extents (name_of image k)) (nodes_in image)

  abbrev os : List Owner
  os = owners d image (map (λ k. s.extents (name_of image k)) (nodes_in image))

  abbrev es : List Place
  es = flat_map (λ o. o.extents) (owners d image (map (λ k. s.extents (name_of image k)) (nodes_in image)))

  abbrev all : List Place
  all = joined (all_found d image s st).pss

  -- ---- the nodes whose blocks are looked at

  pub owner_is : (o : Owner) → Owns o os → (is_used (ns_in image) o.node ≡ true) × (o.extents ≡ s.extents (name_of image o.node)) × (name_of image o.node ≢ free_name d)
  owner_is o i =
      let t = kept_owner d image (owners_of (nodes_in image) chains) o i in (
        in_node image o.node (owner_node (nodes_in image) chains o t.0),
        mapped_owner chain_of (nodes_in image) o t.0,
        λ e. false≢true (sym t.1 ∙ name_own _ _ e),
      )

  pub os_apart : Apart image os
  os_apart = kept_apart d image (owners_of (nodes_in image) chains) (owners_apart image (nodes_in image) chains (nodes_differ image st.nodes.table.apart))

  -- the node of an extent's namespace
  pub owner_at : (p : Place) (h : ExtentHeader) → s.heap p ≡ Some (extent h) → text_in h.namespace ≢ free_name d → (o : Owner) × Owns o os × (name_of image o.node ≡ text_in h.namespace) × (has o.extents p ≡ true)
  owner_at p h e isnt =
      let n = on_node d image s st p h e in
      let t = node_owner (nodes_in image) chains n.0 (sym (length-map (nodes_in image) chain_of)) n.1 in
      let named : name_of image t.0.node ≡ text_in h.namespace = ap (name_of image) t.2 ∙ n.2 in
      let kept = owner_kept d image (owners_of (nodes_in image) chains) t.0 t.1 (no_true _ (λ y. isnt (sym named ∙ name_is _ _ y))) in (
        t.0,
        kept,
        named,
        ap (λ (xs : List Place). has xs p) ((owner_is t.0 kept).1 ∙ ap chain_of t.2) ∙ n.3,
      )

  -- ---- their extents

  pub extent_is : (e : Place) → has es e ≡ true → (h : ExtentHeader) × (s.heap e ≡ Some (extent h)) × (text_in h.namespace ≢ free_name d)
  extent_is e i =
      let a = chained_there image all chains e (chains_whole d image s st) (kept_chains d image (nodes_in image) chains e i) in
      let t = (all_found d image s st).each e a in
      (t.0, t.1, λ f. kept_isnt_free d image all (nodes_in image) chains [] e (chains_whole d image s st) i (ap (λ (x : ExtentHeader). text_in x.namespace) (own_header d image s st e t.0 t.1) ∙ f))

  pub extent_in : (e : Place) (h : ExtentHeader) → s.heap e ≡ Some (extent h) → text_in h.namespace ≢ free_name d → has es e ≡ true
  extent_in e h x isnt = let t = owner_at e h x isnt in owned_in os t.0 e t.1 t.3

  pub shape_once : once es ≡ true
  shape_once = kept_once d image all (nodes_in image) chains (joined_once [] _ chains (chains_whole d image s st))

  lens : (e : Place) (h : ExtentHeader) → s.heap e ≡ Some (extent h) → h.len ≡ pos (ext_size image e)
  lens e h x = (here_at d image s st e h x).long

  inside : (e : Place) (h : ExtentHeader) → s.heap e ≡ Some (extent h) → (e.0 < 8) × (e.1 + ext_size image e ≤ length (bytes_at image e.0)) × (e.1 + ext_size image e ≤ 67108864)
  inside e h x = let k = inside_found d image (all_found d image s st).pss (three d image s st) e (in_all d image s st e h x) in (k.data_file, k.whole, k.short)

  -- ---- phase 6

  record_whole : (e : Place) → has es e ≡ true → (before : List Place) → once (s.records e ++ before) ≡ true → IsWhole (record_chain image e) before (s.records e)
  record_whole e i before fresh =
      let t = extent_is e i in
      let own = own_header d image s st e t.0 t.1 in
      whole_of_stands image s (unused_in image) (free_name d) st.stands.records st.stands.heap st.stands.tiled (λ f low. short_file image st.stands.files f low) e t.0 (ext_size image e) t.1 t.2 (lens e t.0 t.1) (record_chain image e) before
      (record {
        head = ap (λ (x : ExtentHeader). place_link image x.first_record) own;
        read = λ o p. refl;
        closes = λ o. ap (λ (x : ExtentHeader). names_place x.last_record o) own;
        home = refl;
        tail = refl;
      })
      (inside e t.0 t.1).1 fresh

  abbrev records : List (List Place)
  records = map s.records (flat_map (λ o. o.extents) (owners d image (map (λ k. s.extents (name_of image k)) (nodes_in image))))

  pub records_whole : AreWhole [] (map (record_chain image) es) records
  records_whole = phase_whole (free_name d) s st.stands.records (record_chain image) es [] shape_once refl (λ e p i j h. false≢true h) record_whole

  pub six : Clear6 d image (map (λ k. s.extents (name_of image k)) (nodes_in image)) records
  six = record { before = five d image s st; whole = records_whole }

  -- a place that was found is a live record
  pub live_at : (xs : List Place) (p : Place) → has (joined (map s.records xs)) p ≡ true → (h : RecHeader) × (room : List ℕ) × (s.heap p ≡ Some (live h room))
  live_at [] p h = absurd (false≢true h)
  live_at (x ∷ xs) p h = elim (has_either (s.records x) (joined (map s.records xs)) p h) [
    | inl i ↦ let t = st.stands.records.on_chain x p i in (t.h, t.room, t.there)
    | inr j ↦ live_at xs p j
  ]

  -- ---- phase 7

  abbrev lists_in : Owner → List (List Place)
  lists_in o = map (s.lists (name_of image o.node)) (range_with_len 0 19)

  abbrev blocks : List (List Place)
  blocks = flat_map (λ o. map (s.lists (name_of image o.node)) (range_with_len 0 19)) (owners d image (map (λ k. s.extents (name_of image k)) (nodes_in image)))

  -- a block is on one list of one namespace
  pub one_list : (name other : List ℕ) (i j : ℕ) (p : Place) → has (s.lists name i) p ≡ true → has (s.lists other j) p ≡ true → (name ≡ other) × (i ≡ j)
  one_list name other i j p x y =
      let a = st.stands.lists.on_list name i p x in let b = st.stands.lists.on_list other j p y in
      let t = same_deleted a.h b.h a.rest b.rest (sym a.there ∙ b.there) in
      let u = a.of_extent in let v = b.of_extent in
      let at : u.0 ≡ v.0 = same_pos u.0 v.0 (sym u.2 ∙ ap (λ (h : DeletedHeader). h.extent_ofs) t.0 ∙ v.2) in
      let h : u.1 ≡ v.1 = same_extent u.1 v.1 (sym u.3 ∙ ap (λ (n : ℕ). s.heap (p.0, n)) at ∙ v.3) in
      (sym u.4 ∙ ap (λ (z : ExtentHeader). text_in z.namespace) h ∙ v.4, sym a.right_list ∙ ap (λ (xs : List ℕ). list_for (16 + length xs)) t.1 ∙ b.right_list)

  node_once : (name : List ℕ) (m n : ℕ) → once (joined (map (s.lists name) (range_with_len m n))) ≡ true
  node_once name m zero = refl
  node_once name m (suc n) =
      once_append (s.lists name m) (joined (map (s.lists name) (range_with_len (m + 1) n))) (st.stands.lists.no_twice name m) (node_once name (m + 1) n)
      (λ p i j. let t = in_family (s.lists name) (m + 1) n p j in let e = (one_list name name m t.0 p i t.2).1 in let le = t.1 in omega (arith, e, le))

  -- the list that a place is on
  pub in_lists : (xs : List Owner) (p : Place) → has (joined (flat_map lists_in xs)) p ≡ true → (o : Owner) × Owns o xs × (i : ℕ) × (has (s.lists (name_of image o.node) i) p ≡ true)
  in_lists [] p h = absurd (false≢true h)
  in_lists (o ∷ xs) p h = elim (has_either (joined (lists_in o)) (joined (flat_map lists_in xs)) p (sym (ap (λ (ys : List Place). has ys p) (joined_append (lists_in o) (flat_map lists_in xs))) ∙ h)) [
    | inl i ↦ let t = in_family (s.lists (name_of image o.node)) 0 19 p i in (o, inl refl, t.0, t.2)
    | inr j ↦ let t = in_lists xs p j in (t.0, inr t.1, t.2, t.3)
  ]

  pub lists_in_of : (xs : List Owner) (o : Owner) (i : ℕ) (p : Place) → Owns o xs → i < 19 → has (s.lists (name_of image o.node) i) p ≡ true → has (joined (flat_map lists_in xs)) p ≡ true
  lists_in_of [] o i p own lt h = absurd own
  lists_in_of (x ∷ xs) o i p (inl e) lt h =
      ap (λ (ys : List Place). has ys p) (joined_append (lists_in x) (flat_map lists_in xs))
      ∙ has_in (joined (lists_in x)) (joined (flat_map lists_in xs)) p (inl (family_in (s.lists (name_of image x.node)) 0 19 i p (omega arith) (omega (arith, lt)) (ap (λ (y : Owner). has (s.lists (name_of image y.node) i) p) (sym e) ∙ h)))
  lists_in_of (x ∷ xs) o i p (inr j) lt h =
      ap (λ (ys : List Place). has ys p) (joined_append (lists_in x) (flat_map lists_in xs)) ∙ has_in (joined (lists_in x)) (joined (flat_map lists_in xs)) p (inr (lists_in_of xs o i p j lt h))

  lists_once : (xs : List Owner) → Apart image xs → once (joined (flat_map lists_in xs)) ≡ true
  lists_once [] a = refl
  lists_once (o ∷ xs) a =
      ap once (joined_append (lists_in o) (flat_map lists_in xs))
      ∙ once_append (joined (lists_in o)) (joined (flat_map lists_in xs)) (node_once (name_of image o.node) 0 19) (lists_once xs a.1)
      (λ p i j.
      let t = in_family (s.lists (name_of image o.node)) 0 19 p i in let u = in_lists xs p j in
      false≢true (sym (a.0 u.0 u.1) ∙ name_own _ _ (one_list (name_of image o.node) (name_of image u.0.node) t.0 u.2 p t.2 u.3).0))

  own : (o : Owner) → Owns o os → AreOwn image s.heap (ext_size image) (name_of image o.node) o.extents
  own o i =
      let e = (owner_is o i).1 in
      record {
        named = λ q j. st.stands.extents.on_chain (name_of image o.node) q (sym (ap (λ (xs : List Place). has xs q) e) ∙ j);
        all = λ q h is n. ap (λ (xs : List Place). has xs q) e ∙ ap (λ (m : List ℕ). has (s.extents m) q) (sym n) ∙ st.stands.extents.all q h is;
        sizes = λ q j. refl;
        low = λ q j. let x = st.stands.extents.on_chain (name_of image o.node) q (sym (ap (λ (xs : List Place). has xs q) e) ∙ j) in inside q x.0 x.1;
      }

  pub own_details : (o : Owner) → Owns o os → DetailsStand s (name_of image o.node) (details_at image o.node)
  own_details o i =
      let t = owner_is o i in
      let held : Held = record { node = o.node; details = details_at image o.node } in
      st.stands.counts (name_of image o.node) held (table_at (ns_in image) o.node (name_of image o.node) st.nodes.table t.0 refl) t.2

  node_whole : (o : Owner) → Owns o os → (m n : ℕ) → m + n ≤ 19 → EachWhole (map (list_chain image o) (range_with_len m n)) (map (s.lists (name_of image o.node)) (range_with_len m n))
  node_whole o i m zero le = tt
  node_whole o i m (suc n) le = (
    λ before fresh. list_whole image s (unused_in image) (free_name d) st.stands.lists st.stands.heap st.stands.tiled (ext_size image) lens (name_of image o.node) m (list_chain image o m) before
        (reads_list image s.heap (ext_size image) (name_of image o.node) o.extents (own o i) m (node_place o.node) (slice_index_or (details_at image o.node).deleted m null))
        (ap (place_link image) ((own_details o i).heads m (omega (arith, le)))) (λ last. refl) fresh,
    node_whole o i (m + 1) n (omega (arith, le)),
  )

  all_whole : (xs : List Owner) → ((o : Owner) → Owns o xs → Owns o os) → EachWhole (list_chains image xs) (flat_map lists_in xs)
  all_whole [] f = tt
  all_whole (o ∷ xs) f = each_append (lists_of image o) (list_chains image xs) (lists_in o) (flat_map lists_in xs) (node_whole o (f o (inl refl)) 0 19 (omega arith)) (all_whole xs (λ x i. f x (inr i)))

  pub seven : Clear7 d image (map (λ k. s.extents (name_of image k)) (nodes_in image)) records blocks
  seven = record {
    before = six;
    whole = whole_of_each (list_chains image os) blocks (seen_after [] records) (all_whole os (λ o i. i)) (lists_once os os_apart) (once_seen (map (record_chain image) es) records [] records_whole refl)
        (λ p i j.
        let t = in_lists os p i in
        let x = st.stands.lists.on_list (name_of image t.0.node) t.2 p t.3 in
        elim (seen_joined [] records p j) [
          | inl n ↦ false≢true n
          | inr k ↦ let l = live_at es p k in absurd (let f : Some (live l.0 l.1) ≡ Some (deleted x.h x.rest) = sym l.2 ∙ x.there in cc)
        ]);
  }
