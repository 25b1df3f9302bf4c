-- Where files stand in some shape, phases 8 and 9 find nothing either, so no phase up to `counts` does.
use Rattle.std.proofs.Common.{◌≡◌, ℕ, ℤ, pos, ◌+◌, ◌-◌, inl, inr, true, List, [], ◌∷◌, ◌++◌, length, map, Option, Some, None, refl, sym, ◌∙◌, ap, subst, arith}
use Rattle.std.specs.Prelude.{flat_map, sum_by}
use Rattle.std.specs.List.{range_with_len}
use Rattle.std.specs.Option.{option_map}
use Rattle.std.proofs.lemmas.Bool.{false≢true}
use Rattle.mm_base.proofs.ListLaws.{length-list_of}
use Rattle.mm_ranges.specs.Overlay.{Image}
use Rattle.mm_frames.specs.Details.{details_of}
use Rattle.mm_frames.specs.IndexPair.{index_pair_of}
use Rattle.mm_frames.specs.declared.extent_header.ExtentHeader.{ExtentHeader}
use Rattle.mm_frames.specs.declared.rec_header.RecHeader.{RecHeader}
use Rattle.mm_frames.specs.declared.deleted_header.DeletedHeader.{DeletedHeader}
use Rattle.mm_nstable.specs.Nodes.{details_in}
use Rattle.mm_links.specs.Links.{Place, same, has, last_of}
use Rattle.mm_links.proofs.LinkLaws.{either, same_is, same_own, has_here, has_more, has_last}
use Rattle.mm_extents.specs.Heap.{Cell, extent, live, deleted, size}
use Rattle.mm_extents.specs.Tiling.{an_extent, a_block, outline, ground}
use Rattle.mm_extents.specs.Files.{unused_in}
use Rattle.mm_records.specs.Shape.{Shape, list_for}
use Rattle.mm_records.specs.Stands.{room_of, walk, len_at, ext_len}
use Rattle.mm_records.proofs.Numbers.{list_low}
use Rattle.mm_walk.specs.Tiles.{Block, In}
use Rattle.mm_check.specs.RecordChain.{rec_at}
use Rattle.mm_check.specs.ListChain.{del_at}
use Rattle.mm_check.specs.ExtentChain.{ext_size, nat_of}
use Rattle.mm_check.specs.BlockQuestions.{block_len, blocks_of, by_place, gap_at, gap_or, first_gap_of}
use Rattle.mm_check.specs.CountQuestions.{last_size, counts_right}
use Rattle.mm_check.specs.NodeQuestions.{free_name}
use Rattle.mm_check.specs.Findings.{joined, nodes_in, name_of, details_at, Owner, owners, Clear8, Clear9, IsClear}
use Rattle.mm_check.specs.Standing.{HasShape}
use Rattle.mm_check.proofs.RecordLaws.{and_of, is_pos_true, is_pos_of}
use Rattle.mm_check.proofs.PhaseBack.{has_either}
use Rattle.mm_check.proofs.Insides.{has_in}
use Rattle.mm_check.proofs.CheckLaws.{placed_once}
use Rattle.mm_check.proofs.CountLaws.{constants_test}
use Rattle.mm_check.proofs.Placed.{in_by_place, by_place_in, in_blocks, blocks_in, blocks_rise}
use Rattle.mm_check.proofs.BlocksBack.{no_gap_of_stands}
use Rattle.mm_check.proofs.FoundBlocks.{del_len, del_ofs}
use Rattle.mm_check.proofs.FoundStands.{sum_same}
use Rattle.mm_check.proofs.NodeOwners.{Owns, owned_in}
use Rattle.mm_check.proofs.OwnedLists.{count_all}
use Rattle.mm_check.proofs.StandsChains.{here_at}
use Rattle.mm_check.proofs.StandsBlocks.{owner_is, owner_at, extent_is, live_at, in_lists, lists_in_of, own_details, seven}

same_pos : (m n : ℕ) → pos m ≡ pos n → m ≡ n
same_pos m n e = cc

no_gap_all : (image : Image) (placed es : List Place) → ((e : Place) → has es e ≡ true → gap_at image placed e ≡ None) → first_gap_of image placed es ≡ None
no_gap_all image placed [] f = refl
no_gap_all image placed (x ∷ xs) f = ap (λ (o : Option ℕ). gap_or x o (first_gap_of image placed xs)) (f x (has_here x xs x (same_own x))) ∙ no_gap_all image placed xs (λ e h. f e (has_more x xs e h))

pairs_long : (node : List ℕ) → length (details_in node).indexes ≡ 10
unfolding details_in details_of
pairs_long node = length-list_of 16 10 index_pair_of _

-- what stands where a block is
block_cell : (o : Option Cell) (x y : ℤ) (n : ℕ) → option_map outline o ≡ Some (a_block x y n) → (c : Cell) × (o ≡ Some c) × (size c ≡ n)
block_cell None x y n e = absurd (let f : None ≡ Some (a_block x y n) = e in cc)
block_cell (Some (extent h)) x y n e = absurd (let f : Some (an_extent h.magic h.my_loc h.namespace h.len) ≡ Some (a_block x y n) = e in cc)
block_cell (Some (live h room)) x y n e = (live h room, refl, sizes h.extent_ofs x h.length_with_headers y (16 + length room) n e)
  where
    sizes : (a b z w : ℤ) (k l : ℕ) → Some (a_block a z k) ≡ Some (a_block b w l) → k ≡ l
    sizes a b z w k l f = cc
block_cell (Some (deleted h rest)) x y n e = (deleted h rest, refl, sizes h.extent_ofs x h.length_with_headers y (16 + length rest) n e)
  where
    sizes : (a b z w : ℤ) (k l : ℕ) → Some (a_block a z k) ≡ Some (a_block b w l) → k ≡ l
    sizes a b z w k l f = cc

extent_of_block : (a b z w : ℤ) (k l : ℕ) → Some (a_block a z k) ≡ Some (a_block b w l) → (a ≡ b) × (k ≡ l)
extent_of_block a b z w k l f = (cc, cc)

module _ (d : List ℕ) (image : Image) (s : Shape) (st : HasShape d image s) where
  abbrev os : List Owner
  os = owners d image (map (λ k. s.extents (name_of image k)) (nodes_in image))

  abbrev es : List Place
  es = flat_map (λ o. o.extents) (owners d image (map (λ k. s.extents (name_of image k)) (nodes_in image)))

  abbrev records : List (List Place)
  records = map s.records (flat_map (λ o. o.extents) (owners d image (map (λ k. s.extents (name_of image k)) (nodes_in image))))

  abbrev blocks : List (List Place)
  blocks = flat_map (λ o. map (s.lists (name_of image o.node)) (range_with_len 0 19)) (owners d image (map (λ k. s.extents (name_of image k)) (nodes_in image)))

  abbrev placed : List Place
  placed = joined records ++ joined blocks

  -- ---- what is placed is a block of the shape

  -- a block of the heap at a place, with the length and the extent that its header names
  pub record IsPlaced (p : Place) : Type 0 where
    pub l : ℤ
    pub n : ℕ
    pub is : ground s.heap p ≡ Some (a_block (rec_at image p).extent_ofs l n)
    pub long : block_len image p ≡ n

  tiled_len : (p : Place) (x y : ℤ) (n : ℕ) → ground s.heap p ≡ Some (a_block x y n) → y ≡ pos n
  tiled_len p x y n g = let t = st.stands.tiled.blocks p.0 p.1 n x y g in t.1.1.long

  pub live_long : (p : Place) (h : RecHeader) (room : List ℕ) → s.heap p ≡ Some (live h room) → block_len image p ≡ 16 + length room
  live_long p h room e =
      ap (λ (y : RecHeader). nat_of y.length_with_headers) (st.stands.heap.shown p (live h room) e).0
      ∙ ap nat_of (tiled_len p h.extent_ofs h.length_with_headers (16 + length room) (ap (λ (o : Option Cell). option_map outline o) e))

  pub deleted_long : (p : Place) (h : DeletedHeader) (rest : List ℕ) → s.heap p ≡ Some (deleted h rest) → block_len image p ≡ 16 + length rest
  deleted_long p h rest e =
      ap nat_of (sym (del_len image p)) ∙ ap (λ (y : DeletedHeader). nat_of y.length_with_headers) (st.stands.heap.shown p (deleted h rest) e).0
      ∙ ap nat_of (tiled_len p h.extent_ofs h.length_with_headers (16 + length rest) (ap (λ (o : Option Cell). option_map outline o) e))

  pub live_placed : (p : Place) (h : RecHeader) (room : List ℕ) → s.heap p ≡ Some (live h room) → IsPlaced p
  live_placed p h room e =
      let is : rec_at image p ≡ h = (st.stands.heap.shown p (live h room) e).0 in
      let g : ground s.heap p ≡ Some (a_block h.extent_ofs h.length_with_headers (16 + length room)) = ap (λ (o : Option Cell). option_map outline o) e in
      record {
        l = h.length_with_headers;
        n = 16 + length room;
        is = g ∙ ap (λ (y : RecHeader). Some (a_block y.extent_ofs h.length_with_headers (16 + length room))) (sym is);
        long = live_long p h room e;
      }

  pub deleted_placed : (p : Place) (h : DeletedHeader) (rest : List ℕ) → s.heap p ≡ Some (deleted h rest) → IsPlaced p
  deleted_placed p h rest e =
      let is : del_at image p ≡ h = (st.stands.heap.shown p (deleted h rest) e).0 in
      let g : ground s.heap p ≡ Some (a_block h.extent_ofs h.length_with_headers (16 + length rest)) = ap (λ (o : Option Cell). option_map outline o) e in
      record {
        l = h.length_with_headers;
        n = 16 + length rest;
        is = g ∙ ap (λ (z : ℤ). Some (a_block z h.length_with_headers (16 + length rest))) (ap (λ (y : DeletedHeader). y.extent_ofs) (sym is) ∙ del_ofs image p);
        long = deleted_long p h rest e;
      }

  placed_there : (p : Place) → has placed p ≡ true → IsPlaced p
  placed_there p h = elim (has_either (joined records) (joined blocks) p h) [
    | inl i ↦ let t = live_at d image s st es p i in live_placed p t.0 t.1 t.2
    | inr j ↦ let t = in_lists d image s st os p j in let x = st.stands.lists.on_list (name_of image t.0.node) t.2 p t.3 in deleted_placed p x.h x.rest x.there
  ]

  -- ---- and all of them are

  pub live_found : (e p : Place) (h : RecHeader) (room : List ℕ) → has es e ≡ true → p.0 ≡ e.0 → h.extent_ofs ≡ pos e.1 → s.heap p ≡ Some (live h room) → has (joined records) p ≡ true
  live_found e p h room i file names x = in_map s.records es e p i (ap (λ (f : ℕ). has (s.records (f, e.1)) p) (sym file) ∙ st.stands.records.all p h room e.1 x names)
    where
      in_map : (f : Place → List Place) (xs : List Place) (q r : Place) → has xs q ≡ true → has (f q) r ≡ true → has (joined (map f xs)) r ≡ true
      in_map f [] q r k l = absurd (false≢true k)
      in_map f (y ∷ ys) q r k l = elim (either (same y q) (has ys q) k) [
        | inl z ↦ has_in (f y) (joined (map f ys)) r (inl (ap (λ (w : Place). has (f w) r) (same_is y q z) ∙ l))
        | inr m ↦ has_in (f y) (joined (map f ys)) r (inr (in_map f ys q r m l))
      ]

  pub deleted_found : (e p : Place) (h : DeletedHeader) (rest : List ℕ) → has es e ≡ true → p.0 ≡ e.0 → h.extent_ofs ≡ pos e.1 → s.heap p ≡ Some (deleted h rest) → has (joined blocks) p ≡ true
  deleted_found e p h rest i file names x =
      let t = extent_is d image s st e i in
      let o = owner_at d image s st e t.0 t.1 t.2 in
      let there : s.heap (p.0, e.1) ≡ Some (extent t.0) = ap (λ (f : ℕ). s.heap (f, e.1)) file ∙ t.1 in
      lists_in_of d image s st os o.0 (list_for (16 + length rest)) p o.1 (list_low (16 + length rest))
      (ap (λ (m : List ℕ). has (s.lists m (list_for (16 + length rest))) p) o.2 ∙ st.stands.lists.all p h rest e.1 t.0 x names there)

  cell_found : (e p : Place) (c : Cell) (l : ℤ) (n : ℕ) → has es e ≡ true → p.0 ≡ e.0 → s.heap p ≡ Some c → ground s.heap p ≡ Some (a_block (pos e.1) l n) → has placed p ≡ true
  cell_found e p (extent h) l n i file x g = absurd (let f : Some (an_extent h.magic h.my_loc h.namespace h.len) ≡ Some (a_block (pos e.1) l n) = sym (ap (λ (o : Option Cell). option_map outline o) x) ∙ g in cc)
  cell_found e p (live h room) l n i file x g =
      let t = extent_of_block h.extent_ofs (pos e.1) h.length_with_headers l (16 + length room) n (sym (ap (λ (o : Option Cell). option_map outline o) x) ∙ g) in
      has_in (joined records) (joined blocks) p (inl (live_found e p h room i file t.0 x))
  cell_found e p (deleted h rest) l n i file x g =
      let t = extent_of_block h.extent_ofs (pos e.1) h.length_with_headers l (16 + length rest) n (sym (ap (λ (o : Option Cell). option_map outline o) x) ∙ g) in
      has_in (joined records) (joined blocks) p (inr (deleted_found e p h rest i file t.0 x))

  -- ---- phase 8

  no_gap_here : (e : Place) → has es e ≡ true → gap_at image placed e ≡ None
  no_gap_here e i =
      let t = extent_is d image s st e i in
      let x = here_at d image s st e t.0 t.1 in
      no_gap_of_stands (ground s.heap) (unused_in image) (free_name d) st.stands.tiled
      (λ file a b n m u v y z g k lt.
      let c = block_cell (s.heap (file, a)) u y n g in let c' = block_cell (s.heap (file, b)) v z m k in
      let l = st.stands.heap.apart file a b c.0 c'.0 c.1 c'.1 lt in let w = c.2 in omega (arith, l, w))
      e (ext_size image e)
      (record { magic = t.0.magic; here = t.0.my_loc; name = t.0.namespace; is = ap (λ (o : Option Cell). option_map outline o) t.1 ∙ ap (λ (z : ℤ). Some (an_extent t.0.magic t.0.my_loc t.0.namespace z)) x.long; isnt_free = t.2 })
      (x.room t.2)
      (by_place (blocks_of image e placed))
      (blocks_rise image e placed (placed_once d image (map (λ k. s.extents (name_of image k)) (nodes_in image)) records blocks (seven d image s st)))
      (λ b j.
      let q = in_blocks image e placed b (in_by_place (blocks_of image e placed) b j) in
      let k = placed_there q.0 q.1 in
      let at : (e.0, b.0) ≡ q.0 = (λ r. (sym q.2 r, ap (λ (y : Block). y.0) q.4 r)) in
      let long : k.n ≡ b.1 = sym (ap (λ (y : Block). y.1) q.4 ∙ k.long) in
      (k.l, ap (ground s.heap) at ∙ k.is ∙ (λ r. Some (a_block (is_pos_true (rec_at image q.0).extent_ofs e.1 q.3 r) k.l (long r)))))
      (λ at n l g.
      let c = block_cell (s.heap (e.0, at)) (pos e.1) l n g in
      let h = cell_found e (e.0, at) c.0 l n i refl c.1 g in
      let k = placed_there (e.0, at) h in
      let u = extent_of_block (rec_at image (e.0, at)).extent_ofs (pos e.1) k.l l k.n n (sym k.is ∙ g) in
      subst (λ (m : ℕ). In (at, m) (by_place (blocks_of image e placed))) (k.long ∙ u.1)
      (by_place_in (blocks_of image e placed) (at, block_len image (e.0, at)) (blocks_in image e placed (e.0, at) h refl (is_pos_of _ _ u.0))))

  pub eight : Clear8 d image (map (λ k. s.extents (name_of image k)) (nodes_in image)) records blocks
  eight = record { before = seven d image s st; no_gap = no_gap_all image placed es no_gap_here }

  -- ---- phase 9

  room_is : (p : Place) (e : Place) → has (s.records e) p ≡ true → block_len image p - 16 ≡ room_of (s.heap p)
  room_is p e i =
      let x = st.stands.records.on_chain e p i in
      let k = live_long p x.h x.room x.there in
      let r : room_of (s.heap p) ≡ length x.room = ap room_of x.there in
      omega (arith, k, r)

  in_flat : (f : Place → List Place) (xs : List Place) (p : Place) → has (flat_map f xs) p ≡ true → (e : Place) × (has (f e) p ≡ true)
  in_flat f [] p h = absurd (false≢true h)
  in_flat f (x ∷ xs) p h = elim (has_either (f x) (flat_map f xs) p h) [ inl i ↦ (x, i) | inr j ↦ in_flat f xs p j ]

  last_is : (o : Option Place) → ((e : Place) → o ≡ Some e → (h : ExtentHeader) × (s.heap e ≡ Some (extent h))) → len_at s.heap o ≡ pos (last_size image o)
  last_is None f = refl
  last_is (Some e) f = let t = f e refl in ap ext_len t.1 ∙ (here_at d image s st e t.0 t.1).long

  counted : (o : Owner) → Owns o os → counts_right image (name_of image o.node) (details_at image o.node) o.extents (flat_map s.records o.extents) ≡ true
  counted o i =
      let x = own_details d image s st o i in
      let e = (owner_is d image s st o i).1 in
      let recs = flat_map s.records o.extents in
      let walked : walk s (name_of image o.node) ≡ recs = ap (flat_map s.records) (sym e) in
      and_of _ _ (is_pos_of _ _ (x.nrecords ∙ ap (λ (xs : List Place). pos (length xs)) walked))
      (and_of _ _ (is_pos_of _ _ (x.datasize ∙ ap (λ (xs : List Place). pos (sum_by (λ p. room_of (s.heap p)) xs)) walked ∙ ap pos (sum_same (λ p. room_of (s.heap p)) (λ p. block_len image p - 16) recs (λ p h. let t = in_flat s.records o.extents p h in sym (room_is p t.0 t.1)))))
      (and_of _ _ (is_pos_of _ _ (x.last_size ∙ ap (λ (xs : List Place). len_at s.heap (last_of xs)) (sym e) ∙ last_is (last_of o.extents) (λ q f. let t = extent_is d image s st q (owned_in os o q i (has_last o.extents q f)) in (t.0, t.1))))
      (constants_test (name_of image o.node) (details_at image o.node) (pairs_long _) x.constants)))

  pub nine : Clear9 d image (map (λ k. s.extents (name_of image k)) (nodes_in image)) records blocks
  nine = record { before = eight; counted = count_all image s.records os records refl counted }

  pub nothing_found : IsClear d image
  nothing_found = record { chains = map (λ k. s.extents (name_of image k)) (nodes_in image); records = records; blocks = blocks; clear = nine }
