-- What stands at the places that phases 3 to 8 find is a heap, and extents tile the files and blocks the extents.
use Rattle.std.proofs.Common.{◌≡◌, ℕ, ℤ, pos, ◌+◌, ◌-◌, ◌≤◌, ◌<◌, ◌⊎◌, inl, inr, Bool, true, false, List, [], ◌∷◌, ◌++◌, length, Option, Some, None, refl, sym, ◌∙◌, ap, subst, arith}
use Rattle.std.specs.Prelude.{flat_map}
use Rattle.std.specs.Option.{option_map}
use Rattle.std.proofs.lemmas.Bool.{cases_Bool, cases_lt, false≢true}
use Rattle.mm_base.specs.Bytes.{part}
use Rattle.mm_base.proofs.Parts.{length-part}
use Rattle.mm_base.specs.declared.place.DiskLoc.{DiskLoc}
use Rattle.mm_ranges.specs.Overlay.{Image, bytes_at}
use Rattle.mm_frames.specs.Texts.{text_in}
use Rattle.mm_links.specs.Links.{Place, has}
use Rattle.mm_records.specs.Constants.{is_name}
use Rattle.mm_extents.specs.Heap.{Heap, Cell, extent, live, deleted, size, Shows, IsHeap}
use Rattle.mm_extents.specs.Tiling.{an_extent, a_block, outline, ground, IsTiled}
use Rattle.mm_extents.specs.Files.{unused_in}
use Rattle.mm_records.proofs.Owning.{extent_there}
use Rattle.mm_walk.specs.Walk.{seen_after}
use Rattle.mm_walk.specs.Tiles.{Block, In}
use Rattle.mm_walk.proofs.TileLaws.{tiling_of_no_gap}
use Rattle.mm_check.specs.RecordChain.{rec_at}
use Rattle.mm_check.specs.ListChain.{del_at}
use Rattle.mm_check.specs.ExtentChain.{ext_at, ext_size, nat_of, areas}
use Rattle.mm_check.specs.BlockQuestions.{block_len, blocks_of, by_place}
use Rattle.mm_check.specs.Blocks.{IsArea, BlocksFound}
use Rattle.mm_check.specs.FileQuestions.{unused_of}
use Rattle.mm_check.specs.NodeQuestions.{free_name}
use Rattle.mm_check.specs.Findings.{joined, nodes_in, name_of, Owner, owners_of, without_free, owners, Clear8}
use Rattle.mm_check.specs.FoundShape.{room_at, found_heap}
use Rattle.mm_check.proofs.RecordLaws.{if_yes, if_no, is_pos_true, is_pos_of}
use Rattle.mm_check.proofs.PhaseBack.{has_either}
use Rattle.mm_check.proofs.Lookups.{extent_found, record_found, block_found, found_is}
use Rattle.mm_check.proofs.Insides.{has_in, on_file, inside_found, inside_owners, chained_there, extent_long}
use Rattle.mm_check.proofs.CheckLaws.{placed_once, apart_of}
use Rattle.mm_check.proofs.FoundAreas.{areas_found}
use Rattle.mm_check.proofs.FoundRecords.{kept_isnt_free, in_es}
use Rattle.mm_check.proofs.AreaLaws.{extents_apart, areas_in}
use Rattle.mm_check.proofs.ExtentLaws.{no_gap_of_leads, right_of_leads}
use Rattle.mm_check.proofs.BlockLaws.{blocks_apart}
use Rattle.mm_check.proofs.Placed.{in_by_place, by_place_in, in_blocks, blocks_in}
use Rattle.mm_check.proofs.Tiled.{files_tile}
use Rattle.mm_check.proofs.FoundBlocks.{del_len, del_ofs, IsBlockOf, record_of, deleted_of, no_gap_at}

no_true : (b : Bool) → (b ≡ true → ⊥) → b ≡ false
no_true true f = absurd (f refl)
no_true false f = refl

same_pos : (m n : ℕ) → pos m ≡ pos n → m ≡ n
same_pos m n e = cc

same_len : (m1 : ℕ) (d1 : DiskLoc) (n1 : List ℕ) (z1 : ℤ) (m2 : ℕ) (d2 : DiskLoc) (n2 : List ℕ) (z2 : ℤ) → Some (an_extent m1 d1 n1 z1) ≡ Some (an_extent m2 d2 n2 z2) → n1 ≡ n2
same_len m1 d1 n1 z1 m2 d2 n2 z2 f = cc

-- the extents whose blocks are looked at are on the chains of nodes
pub kept_chains : (d : List ℕ) (image : Image) (ks : List ℕ) (pss : List (List Place)) (p : Place) → has (flat_map (λ o. o.extents) (without_free d image (owners_of ks pss))) p ≡ true → has (joined pss) p ≡ true
kept_chains d image [] pss p h = absurd (false≢true h)
kept_chains d image (k ∷ ks) [] p h = absurd (false≢true h)
kept_chains d image (k ∷ ks) (ps ∷ pss) p h = elim (cases_Bool (is_name (name_of image k) (free_name d))) [
  | inl y ↦ has_in ps (joined pss) p (inr (kept_chains d image ks pss p (sym (ap (λ (os : List Owner). has (flat_map (λ o. o.extents) os) p) (if_yes (is_name (name_of image k) (free_name d)) (without_free d image (owners_of ks pss)) (record { node = k; extents = ps } ∷ without_free d image (owners_of ks pss)) y)) ∙ h)))
  | inr m ↦ elim (has_either ps (flat_map (λ o. o.extents) (without_free d image (owners_of ks pss))) p (sym (ap (λ (os : List Owner). has (flat_map (λ o. o.extents) os) p) (if_no (is_name (name_of image k) (free_name d)) (without_free d image (owners_of ks pss)) (record { node = k; extents = ps } ∷ without_free d image (owners_of ks pss)) m)) ∙ h)) [
    | inl i ↦ has_in ps (joined pss) p (inl i)
    | inr j ↦ has_in ps (joined pss) p (inr (kept_chains d image ks pss p j))
  ]
]

module _ (d : List ℕ) (image : Image) (chains records blocks : List (List Place)) (c : Clear8 d image chains records blocks) where
  abbrev all : List Place
  all = joined c.before.before.before.found

  abbrev es : List Place
  es = flat_map (λ o. o.extents) (owners d image chains)

  abbrev placed : List Place
  placed = joined records ++ joined blocks

  abbrev heap : Heap
  heap = found_heap image all (joined records) (joined blocks)

  -- ---- where they lie

  pub es_all : (e : Place) → has es e ≡ true → has all e ≡ true
  es_all e i = chained_there image all chains e c.before.before.before.whole (kept_chains d image (nodes_in image) chains e i)

  pub block_of : (p : Place) → has placed p ≡ true → IsBlockOf image es p
  block_of p h = elim (has_either (joined records) (joined blocks) p h) [
    | inl i ↦ record_of image es records [] p c.before.before.whole i
    | inr j ↦ deleted_of image es (owners d image chains) blocks (seen_after [] records) p (λ e k. k) c.before.whole j
  ]

  -- an extent ends before the next one in its file begins
  pub extent_apart : (e f : Place) → has all e ≡ true → has all f ≡ true → e.0 ≡ f.0 → e.1 < f.1 → e.1 + ext_size image e ≤ f.1
  extent_apart e f i j file lt =
      let x = ext_at image e in let y = ext_at image f in
      let long : x.len ≡ pos (ext_size image e) = extent_long d image c.before.before.before.found c.before.before.before.before e i in
      let g : ground heap (e.0, e.1) ≡ Some (an_extent x.magic x.my_loc x.namespace (pos (ext_size image e))) = ap (λ (o : Option Cell). option_map outline o) (extent_found image all (joined records) (joined blocks) e i) ∙ ap (λ (z : ℤ). Some (an_extent x.magic x.my_loc x.namespace z)) long in
      let k : ground heap (e.0, f.1) ≡ Some (an_extent y.magic y.my_loc y.namespace y.len) = ap (λ (n : ℕ). ground heap (n, f.1)) file ∙ ap (λ (o : Option Cell). option_map outline o) (extent_found image all (joined records) (joined blocks) f j) in
      extents_apart image heap (unused_in image) (areas_found d image chains c.before.before.before (joined records) (joined blocks)) e.0 e.1 f.1 x.magic y.magic (ext_size image e) x.my_loc y.my_loc x.namespace y.namespace y.len g k lt

  -- a block ends in its extent
  pub fits : (p : Place) → has placed p ≡ true → (b : IsBlockOf image es p) → p.1 + b.n ≤ b.e.1 + ext_size image b.e
  fits p h b =
      let t = tiling_of_no_gap (b.e.1 + 176) (by_place (blocks_of image b.e placed)) (b.e.1 + ext_size image b.e) (no_gap_at image placed es b.e c.no_gap b.owned) in
      let i = by_place_in (blocks_of image b.e placed) (p.1, block_len image p) (blocks_in image b.e placed p h b.file (is_pos_of _ _ b.names)) in
      subst (λ (k : ℕ). p.1 + k ≤ b.e.1 + ext_size image b.e) (ap nat_of b.long) (t.inside (p.1, block_len image p) i).1

  -- no extent begins there
  pub no_extent : (p : Place) → has placed p ≡ true → has all p ≡ false
  no_extent p h = no_true _ (λ j.
      let b = block_of p h in
      let from = b.from in let some = b.some in
      let a = extent_apart b.e p (es_all b.e b.owned) j (sym b.file) (omega (arith, from)) in
      let f = fits p h b in
      omega (arith, a, f, some))

  -- its room is as long as its header says
  pub room_long : (p : Place) → has placed p ≡ true → (b : IsBlockOf image es p) → (16 + length (room_at image p) ≡ b.n) × (length (room_at image p) ≡ block_len image p - 16)
  room_long p h b =
      let i = (inside_owners d image chains c.before.before.before b.e b.owned).whole in
      let f = fits p h b in let some = b.some in
      let len : block_len image p ≡ b.n = ap nat_of b.long in
      let inside : b.e.1 + ext_size image b.e ≤ length (bytes_at image p.0) = subst (λ (k : ℕ). b.e.1 + ext_size image b.e ≤ length (bytes_at image k)) (sym b.file) i in
      let l = length-part (p.1 + 16) (block_len image p - 16) (bytes_at image p.0) (omega (arith, f, some, len, inside)) in
      (omega (arith, l, len, some), l)

  -- ---- what stands there

  pub live_there : (p : Place) → has (joined records) p ≡ true → heap p ≡ Some (live (rec_at image p) (room_at image p))
  live_there p i = record_found image all (joined records) (joined blocks) p (no_extent p (has_in (joined records) (joined blocks) p (inl i))) i

  pub deleted_there : (p : Place) → has (joined blocks) p ≡ true → heap p ≡ Some (deleted (del_at image p) (room_at image p))
  deleted_there p j =
      block_found image all (joined records) (joined blocks) p (no_extent p (has_in (joined records) (joined blocks) p (inr j)))
      (no_true _ (λ i. apart_of (joined records) (joined blocks) p (placed_once d image chains records blocks c.before) i j)) j

  pub block_there : (p : Place) → has placed p ≡ true → (b : IsBlockOf image es p) → ground heap p ≡ Some (a_block (pos b.e.1) (pos b.n) b.n)
  block_there p h b =
      let r = (room_long p h b).0 in
      elim (has_either (joined records) (joined blocks) p h) [
        | inl i ↦ ap (λ (o : Option Cell). option_map outline o) (live_there p i) ∙ (λ j. Some (a_block (b.names j) (b.long j) (r j)))
        | inr k ↦ ap (λ (o : Option Cell). option_map outline o) (deleted_there p k) ∙ (λ j. Some (a_block ((del_ofs image p ∙ b.names) j) ((del_len image p ∙ b.long) j) (r j)))
      ]

  pub block_only : (p : Place) (x y : ℤ) (n : ℕ) → ground heap p ≡ Some (a_block x y n) → has placed p ≡ true
  block_only p x y n g = elim (cases_Bool (has all p)) [
    | inl a ↦ absurd (let f : Some (outline (extent (ext_at image p))) ≡ Some (a_block x y n) = sym (ap (λ (o : Option Cell). option_map outline o) (if_yes _ _ _ a)) ∙ g in cc)
    | inr a ↦ elim (cases_Bool (has (joined records) p)) [
      | inl i ↦ has_in (joined records) (joined blocks) p (inl i)
      | inr b ↦ elim (cases_Bool (has (joined blocks) p)) [
        | inl j ↦ has_in (joined records) (joined blocks) p (inr j)
        | inr m ↦ absurd (let f : None ≡ Some (a_block x y n) = sym (ap (λ (o : Option Cell). option_map outline o) (if_no _ _ _ a ∙ if_no _ _ _ b ∙ if_no _ _ _ m)) ∙ g in cc)
      ]
    ]
  ]

  -- ---- blocks by extents

  -- a block that names an extent of its file is one of that extent
  own_extent : (e p : Place) (b : IsBlockOf image es p) → p.0 ≡ e.0 → (rec_at image p).extent_ofs ≡ pos e.1 → b.e ≡ e
  own_extent e p b file names =
      let k : b.e.0 ≡ e.0 = sym b.file ∙ file in
      let l : b.e.1 ≡ e.1 = same_pos b.e.1 e.1 (sym b.names ∙ names) in
      λ i. (k i, l i)

  pub area_of : (e : Place) → has es e ≡ true → IsArea (ground heap) (free_name d) e (ext_size image e)
  area_of e i =
      let x = ext_at image e in
      let a = es_all e i in
      let long : x.len ≡ pos (ext_size image e) = extent_long d image c.before.before.before.found c.before.before.before.before e a in
      record {
        magic = x.magic;
        here = x.my_loc;
        name = x.namespace;
        is = ap (λ (o : Option Cell). option_map outline o) (extent_found image all (joined records) (joined blocks) e a) ∙ ap (λ (z : ℤ). Some (an_extent x.magic x.my_loc x.namespace z)) long;
        isnt_free = kept_isnt_free d image all (nodes_in image) chains [] e c.before.before.before.whole i;
      }

  pub area_in : (e : Place) (n : ℕ) → IsArea (ground heap) (free_name d) e n → has es e ≡ true
  area_in e n a =
      let t = extent_there (heap e) a.magic a.here a.name (pos n) a.is in
      let named : t.0.namespace ≡ a.name = same_len _ _ _ _ _ _ _ _ (sym (ap (λ (o : Option Cell). option_map outline o) t.1) ∙ a.is) in
      (in_es d image chains records c.before.before (joined blocks) e t.0 t.1 (λ f. a.isnt_free (ap text_in (sym named) ∙ f))).0

  record OfExtent (e : Place) (b : Block) : Type 0 where
    p : Place
    placed_there : has placed p ≡ true
    file : p.0 ≡ e.0
    here : b.0 ≡ p.1
    block : IsBlockOf image es p
    own : block.e ≡ e
    long : b.1 ≡ block.n

  of_extent : (e : Place) (b : Block) → In b (by_place (blocks_of image e placed)) → OfExtent e b
  of_extent e b i =
      let t = in_blocks image e placed b (in_by_place (blocks_of image e placed) b i) in
      let k = block_of t.0 t.1 in
      record { p = t.0; placed_there = t.1; file = t.2; here = ap (λ (x : Block). x.0) t.4; block = k; own = own_extent e t.0 k t.2 (is_pos_true _ _ t.3); long = ap (λ (x : Block). x.1) t.4 ∙ ap nat_of k.long }

  pub blocks_found : BlocksFound (ground heap) (free_name d) (ext_size image) (λ e. by_place (blocks_of image e placed))
  blocks_found = record {
    area = λ e b i. let o = of_extent e b i in area_of e (subst (λ (x : Place). has es x ≡ true) o.own o.block.owned);
    no_gap = λ e a. no_gap_at image placed es e c.no_gap (area_in e (ext_size image e) a);
    there = λ e b i.
        let o = of_extent e b i in
        let at : (e.0, b.0) ≡ o.p = (λ j. (sym o.file j, o.here j)) in
        ap (ground heap) at ∙ block_there o.p o.placed_there o.block ∙ (λ j. Some (a_block (pos (o.own j).1) (pos (sym o.long j)) (sym o.long j)));
    long = λ e b i. let o = of_extent e b i in let some = o.block.some in let l = o.long in omega (arith, some, l);
    only = λ file at n x y g.
        let h = block_only (file, at) x y n g in
        let b = block_of (file, at) h in
        let s = same_block (pos b.e.1) x (pos b.n) y b.n n (sym (block_there (file, at) h b) ∙ g) in
        (b.e, (sym b.file, subst (λ (k : ℕ). In (at, k) (by_place (blocks_of image b.e placed))) (ap nat_of b.long ∙ s) (by_place_in (blocks_of image b.e placed) (at, block_len image (file, at)) (blocks_in image b.e placed (file, at) h b.file (is_pos_of _ _ b.names)))));
    extents_apart = λ e f b c' i j file lt.
        let o = of_extent e b i in let q = of_extent f c' j in
        extent_apart e f (es_all e (subst (λ (x : Place). has es x ≡ true) o.own o.block.owned)) (es_all f (subst (λ (x : Place). has es x ≡ true) q.own q.block.owned)) file lt;
  }
    where
      same_block : (x u y v : ℤ) (n m : ℕ) → Some (a_block x y n) ≡ Some (a_block u v m) → n ≡ m
      same_block x u y v n m h = cc

  pub tiled : IsTiled (ground heap) (unused_in image) (free_name d)
  tiled = files_tile image heap (unused_in image) (free_name d) (λ e. by_place (blocks_of image e placed)) (areas_found d image chains c.before.before.before (joined records) (joined blocks)) blocks_found

  -- ---- the heap

  abbrev found : List (List Place)
  found = c.before.before.before.found

  -- a block's cell has the length that its header names, and its bytes
  abbrev IsCell : Place → Cell → Type 0
  IsCell p x = (b : IsBlockOf image es p) × (has placed p ≡ true) × (size x ≡ b.n) × Shows (bytes_at image p.0) p.1 x

  live_cell : (p : Place) → has (joined records) p ≡ true → IsCell p (live (rec_at image p) (room_at image p))
  live_cell p i =
      let h = has_in (joined records) (joined blocks) p (inl i) in
      let b = block_of p h in
      let r = room_long p h b in
      (b, h, r.0, (refl, ap (λ (n : ℕ). part (p.1 + 16) n (bytes_at image p.0)) r.1))

  deleted_cell : (p : Place) → has (joined blocks) p ≡ true → IsCell p (deleted (del_at image p) (room_at image p))
  deleted_cell p i =
      let h = has_in (joined records) (joined blocks) p (inr i) in
      let b = block_of p h in
      let r = room_long p h b in
      (b, h, r.0, (refl, ap (λ (n : ℕ). part (p.1 + 16) n (bytes_at image p.0)) r.1))

  one : (x y : Cell) → Some x ≡ Some y → x ≡ y
  one x y e = cc

  -- what stands at a place is an extent or a block
  what : (p : Place) (x : Cell) → heap p ≡ Some x → ((has all p ≡ true) × (x ≡ extent (ext_at image p))) ⊎ IsCell p x
  what p x e = by (found_is image all (joined records) (joined blocks) p x e)
    where
      by : (has all p ≡ true) ⊎ ((has (joined records) p ≡ true) ⊎ (has (joined blocks) p ≡ true)) → ((has all p ≡ true) × (x ≡ extent (ext_at image p))) ⊎ IsCell p x
      by (inl a) = inl (a, one x (extent (ext_at image p)) (sym e ∙ extent_found image all (joined records) (joined blocks) p a))
      by (inr (inl i)) = inr (subst (IsCell p) (one _ x (sym (live_there p i) ∙ e)) (live_cell p i))
      by (inr (inr j)) = inr (subst (IsCell p) (one _ x (sym (deleted_there p j) ∙ e)) (deleted_cell p j))

  -- an extent lies behind its file's header, and has 4096 bytes or more
  pub extent_from : (p : Place) → has all p ≡ true → (8192 ≤ p.1) × (4096 ≤ ext_size image p)
  extent_from p h =
      let o = on_file d image found c.before.before.before.before p h in
      let u = unused_of (part 0 8192 (bytes_at image o.k)) in
      let t = tiling_of_no_gap 8192 (areas image o.ps) u (no_gap_of_leads image o.k u None 8192 o.ps o.whole.followed.leads) in
      let r = (right_of_leads image o.k u None 8192 o.ps p o.whole.followed.leads o.on).1 in
      ((t.inside (p.1, ext_size image p) (areas_in image o.ps p o.on)).0, subst (λ (n : ℕ). 4096 ≤ n) (sym (ap nat_of r.long)) r.some)

  -- what lies in one file doesn't overlap
  extent_block : (e p : Place) (b : IsBlockOf image es p) → has all e ≡ true → has placed p ≡ true → e.0 ≡ p.0 → e.1 < p.1 → e.1 + 176 ≤ p.1
  extent_block e p b i h file lt =
      let some = (extent_from e i).1 in let from = b.from in
      elim (cases_lt e.1 b.e.1) [
        | inl y ↦ let a = extent_apart e b.e i (es_all b.e b.owned) (file ∙ b.file) y in omega (arith, a, some, from)
        | inr ge ↦ elim (cases_lt b.e.1 e.1) [
          | inl y ↦ let a = extent_apart b.e e (es_all b.e b.owned) i (sym b.file ∙ sym file) y in let f = fits p h b in absurd (omega (arith, a, f, lt))
          | inr le ↦ omega (arith, ge, le, from)
        ]
      ]

  block_extent : (p e : Place) (b : IsBlockOf image es p) → has placed p ≡ true → has all e ≡ true → p.0 ≡ e.0 → p.1 < e.1 → p.1 + b.n ≤ e.1
  block_extent p e b h i file lt =
      let from = b.from in let f = fits p h b in
      elim (cases_lt b.e.1 e.1) [
        | inl y ↦ let a = extent_apart b.e e (es_all b.e b.owned) i (sym b.file ∙ file) y in omega (arith, a, f)
        | inr ge ↦ absurd (omega (arith, ge, from, lt))
      ]

  cells_apart : (file a b : ℕ) (x y : Cell) → ((has all (file, a) ≡ true) × (x ≡ extent (ext_at image (file, a)))) ⊎ IsCell (file, a) x → ((has all (file, b) ≡ true) × (y ≡ extent (ext_at image (file, b)))) ⊎ IsCell (file, b) y → a < b → a + size x ≤ b
  cells_apart file a b x y (inl s) (inl t) lt =
      let l = extent_apart (file, a) (file, b) s.0 t.0 refl lt in let some = (extent_from (file, a) s.0).1 in let k : size x ≡ 176 = ap size s.1 in
      omega (arith, l, some, k)
  cells_apart file a b x y (inl s) (inr t) lt = let l = extent_block (file, a) (file, b) t.0 s.0 t.1 refl lt in let k : size x ≡ 176 = ap size s.1 in omega (arith, l, k)
  cells_apart file a b x y (inr s) (inl t) lt = let l = block_extent (file, a) (file, b) s.0 s.1 t.0 refl lt in let k = s.2 in omega (arith, l, k)
  cells_apart file a b x y (inr s) (inr t) lt =
      let l = blocks_apart (ground heap) (free_name d) (ext_size image) (λ e. by_place (blocks_of image e placed)) blocks_found file a b s.0.n t.0.n (pos s.0.e.1) (pos t.0.e.1) (pos s.0.n) (pos t.0.n) (block_there (file, a) s.1 s.0) (block_there (file, b) t.1 t.0) lt in
      let k = s.2 in
      omega (arith, l, k)

  heap_at : (p : Place) (x : Cell) → ((has all p ≡ true) × (x ≡ extent (ext_at image p))) ⊎ IsCell p x → (p.0 < 8) × (8192 ≤ p.1) × (p.1 + size x ≤ length (bytes_at image p.0)) × Shows (bytes_at image p.0) p.1 x
  heap_at p x (inl s) =
      let i = inside_found d image found c.before.before.before.before p s.0 in
      (i.data_file, (extent_from p s.0).0, subst (λ (y : Cell). p.1 + size y ≤ length (bytes_at image p.0)) (sym s.1) i.inside, subst (Shows (bytes_at image p.0) p.1) (sym s.1) refl)
  heap_at p x (inr t) =
      let i = inside_owners d image chains c.before.before.before t.0.e t.0.owned in
      let from = t.0.from in let least = (extent_from t.0.e (es_all t.0.e t.0.owned)).0 in let f = fits p t.1 t.0 in let k = t.2 in
      let whole : t.0.e.1 + ext_size image t.0.e ≤ length (bytes_at image p.0) = subst (λ (n : ℕ). t.0.e.1 + ext_size image t.0.e ≤ length (bytes_at image n)) (sym t.0.file) i.whole in
      (subst (λ (n : ℕ). n < 8) (sym t.0.file) i.data_file, omega (arith, from, least), omega (arith, f, whole, k), t.3)

  pub is_heap : IsHeap image heap
  is_heap = record {
    data_file = λ p x e. (heap_at p x (what p x e)).0;
    behind_header = λ p x e. (heap_at p x (what p x e)).1;
    inside = λ p x e. (heap_at p x (what p x e)).2;
    shown = λ p x e. (heap_at p x (what p x e)).3;
    apart = λ file a b x y e f lt. cells_apart file a b x y (what (file, a) x e) (what (file, b) y f) lt;
  }
