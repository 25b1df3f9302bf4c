-- Extents that become free ones, and what stands beside them.
use Rattle.std.proofs.Common.{◌≡◌, ◌≢◌, ℕ, ℤ, pos, ◌+◌, ◌<◌, ◌≤◌, ◌⊎◌, inl, inr, true, false, List, [], ◌∷◌, ◌++◌, Option, Some, None, sym, ◌∙◌, ap, arith}
use Rattle.std.specs.Option.{option_map}
use Rattle.std.proofs.lemmas.Bool.{cases_Bool, cases_lt}
use Rattle.mm_base.specs.declared.place.DiskLoc.{DiskLoc}
use Rattle.mm_ranges.specs.Overlay.{Image}
use Rattle.mm_frames.specs.Texts.{text_in}
use Rattle.mm_frames.specs.declared.extent_header.ExtentHeader.{ExtentHeader}
use Rattle.mm_frames.specs.declared.free_ends.FreeEnds.{FreeEnds}
use Rattle.mm_links.specs.Links.{Place, has}
use Rattle.mm_links.proofs.LinkLaws.{has_more}
use Rattle.mm_extents.specs.Heap.{Cell, extent, live, deleted, Heap}
use Rattle.mm_extents.specs.Tiling.{an_extent, a_block, outline, ground, IsBlock, IsTiled}
use Rattle.mm_extents.specs.Files.{unused_in}
use Rattle.mm_extents.specs.FreeExtents.{HasFree}
use Rattle.mm_extents.specs.Dropping.{within, AreFreed}
use Rattle.mm_extents.proofs.Drops.{outside}
use Rattle.mm_records.specs.Shape.{Shape}
use Rattle.mm_records.specs.Stands.{Stands}
use Rattle.mm_records.proofs.Lists.{has_before_rest}

at_file : (f g a : ℕ) → f ≡ g → ◌≡◌ {A = Place} (f, a) (g, a)
at_file f g a e = λ i. (e i, a)

pub has_behind : (xs ys : List Place) (q : Place) → has ys q ≡ true → has (xs ++ ys) q ≡ true
has_behind [] ys q h = h
has_behind (x ∷ xs) ys q h = has_more x (xs ++ ys) q (has_behind xs ys q h)

-- ---- in one heap

module _ (heap : Heap) (unused : ℕ → Option ℤ) (free : List ℕ) (t : IsTiled (ground heap) unused free) (p : Place) (hp : ExtentHeader) (n : ℕ) (there : heap p ≡ Some (extent hp)) (long : hp.len ≡ pos n) where
  ground_p : ground heap p ≡ Some (an_extent hp.magic hp.my_loc hp.namespace (pos n))
  ground_p = ap (λ (o : Option Cell). option_map outline o) there ∙ ap (λ (z : ℤ). Some (an_extent hp.magic hp.my_loc hp.namespace z)) long

  -- another extent of the file begins before or behind it
  beside : (b : ℕ) (magic : ℕ) (here : DiskLoc) (name : List ℕ) (len : ℤ) → ground heap (p.0, b) ≡ Some (an_extent magic here name len) → p.1 < b → p.1 + n ≤ b
  beside b magic here name len e lt = t.apart p.0 p.1 b hp.magic magic n hp.my_loc here hp.namespace name len ground_p e lt

  pub extent_off : (q : Place) (h : ExtentHeader) → heap q ≡ Some (extent h) → within p n q ≡ false
  extent_off q h e = outside p n q (λ f. sides f)
    where
      sides : q.0 ≡ p.0 → (q.1 ≤ p.1) ⊎ (p.1 + n ≤ q.1)
      sides f = elim (cases_lt p.1 q.1) [
        | inl lt ↦ inr (beside q.1 h.magic h.my_loc h.namespace h.len (ap (ground heap) (at_file p.0 q.0 q.1 (sym f)) ∙ ap (λ (o : Option Cell). option_map outline o) e) lt)
        | inr ge ↦ inl ge
      ]

  pub block_off : (q : Place) (ext len : ℤ) (k a m : ℕ) → IsBlock (ground heap) free q.0 q.1 ext len k a m → ((q.0, a) ≡ p → ⊥) → within p n q ≡ false
  block_off q ext len k a m b ne = outside p n q (λ f. sides f)
    where
      home : q.0 ≡ p.0 → ground heap (p.0, a) ≡ Some (an_extent b.of_extent.magic b.of_extent.here b.of_extent.name (pos m))
      home f = ap (ground heap) (at_file p.0 q.0 a (sym f)) ∙ b.of_extent.is

      sides : q.0 ≡ p.0 → (q.1 ≤ p.1) ⊎ (p.1 + n ≤ q.1)
      sides f = elim (cases_lt p.1 a) [
        | inl lt ↦ inr (let x = beside a b.of_extent.magic b.of_extent.here b.of_extent.name (pos m) (home f) lt in let y = b.from in omega (arith, x, y))
        | inr ge ↦ elim (cases_lt a p.1) [
          | inl gt ↦ inl (let x = t.apart p.0 a p.1 b.of_extent.magic hp.magic m b.of_extent.here hp.my_loc b.of_extent.name hp.namespace (pos n) (home f) ground_p gt in let y = b.to in omega (arith, x, y))
          | inr le ↦ absurd (ne (let g : a ≡ p.1 = omega (arith, ge, le) in λ i. (f i, g i)))
        ]
      ]

-- ---- before and after

module _ (image now : Image) (free name : List ℕ) (s : Shape) (st : Stands image free s) (ends : FreeEnds) (isnt : name ≢ free) (th : Heap)
    (f : HasFree now free th (s.extents free ++ s.extents name) ends) (fr : AreFreed s.heap th free (s.extents free) (s.extents name)) where
  abbrev ps : List Place
  ps = s.extents name

  abbrev chain : List Place
  chain = s.extents free

  -- each of the namespace's extents is a free one now
  pub now_free : (p : Place) → has ps p ≡ true → (x : ExtentHeader) × (th p ≡ Some (extent x)) × (text_in x.namespace ≡ free)
  now_free p i = f.on_chain p (has_behind chain ps p i)

  pub still_free : (p : Place) → has chain p ≡ true → (x : ExtentHeader) × (th p ≡ Some (extent x)) × (text_in x.namespace ≡ free)
  still_free p i = f.on_chain p (has_before_rest chain ps p i)

  pub same_len : (p : Place) (h : ExtentHeader) (n : ℕ) (i : has ps p ≡ true) → s.heap p ≡ Some (extent h) → h.len ≡ pos n → (now_free p i).0.len ≡ pos n
  same_len p h n i e l =
      let x = fr.freed p h i e in
      ap (λ (c : Option Cell). len_of_cell c) (sym (now_free p i).1 ∙ x.1.1) ∙ l
    where
      len_of_cell : Option Cell → ℤ
      len_of_cell None = pos 0
      len_of_cell (Some (extent h)) = h.len
      len_of_cell (Some (live h r)) = pos 0
      len_of_cell (Some (deleted h r)) = pos 0

  off_both : (q : Place) → ((x : ExtentHeader) → th q ≡ Some (extent x) → text_in x.namespace ≡ free → ⊥) → (has chain q ≡ false) × (has ps q ≡ false)
  off_both q none = (
    elim (cases_Bool (has chain q)) [ inl y ↦ (let x = still_free q y in absurd (none x.0 x.1 x.2)) | inr n ↦ n ],
    elim (cases_Bool (has ps q)) [ inl y ↦ (let x = now_free q y in absurd (none x.0 x.1 x.2)) | inr n ↦ n ],
  )

  -- what isn't free now stands as it stood
  pub extent_stood : (q : Place) (h : ExtentHeader) → th q ≡ Some (extent h) → text_in h.namespace ≢ free → th q ≡ s.heap q
  extent_stood q h e nf =
      let off = off_both q (λ x i named. nf (ap (λ (y : ExtentHeader). text_in y.namespace) (one h x (sym e ∙ i)) ∙ named)) in
      fr.same_off q off.0 off.1 (λ p g n on i l. let x = now_free p on in extent_off th (unused_in now) free f.tiled p x.0 n x.1 (same_len p g n on i l) q h e)
    where
      one : (x y : ExtentHeader) → Some (extent x) ≡ Some (extent y) → x ≡ y
      one x y k = cc

  pub block_stood : (q : Place) (ext len : ℤ) (k : ℕ) → ground th q ≡ Some (a_block ext len k) → th q ≡ s.heap q
  block_stood q ext len k e =
      let b = f.tiled.blocks q.0 q.1 k ext len e in
      let off = off_both q (λ x i named. not_both x.magic x.my_loc x.namespace x.len (sym (ap (λ (o : Option Cell). option_map outline o) i) ∙ e)) in
      fr.same_off q off.0 off.1 (λ p g n on i l.
      let x = now_free p on in
      block_off th (unused_in now) free f.tiled p x.0 n x.1 (same_len p g n on i l) q ext len k b.0 b.1.0 b.1.1
      (λ z. b.1.1.of_extent.isnt_free (same_name b.1.1.of_extent.magic x.0.magic b.1.1.of_extent.here x.0.my_loc b.1.1.of_extent.name x.0.namespace (pos b.1.0) x.0.len
      (sym b.1.1.of_extent.is ∙ ap (ground th) z ∙ ap (λ (o : Option Cell). option_map outline o) x.1) ∙ x.2)))
    where
      not_both : (m : ℕ) (l : DiskLoc) (nm : List ℕ) (z : ℤ) → Some (an_extent m l nm z) ≡ Some (a_block ext len k) → ⊥
      not_both m l nm z e = cc

      same_name : (m m' : ℕ) (l l' : DiskLoc) (a b : List ℕ) (u v : ℤ) → Some (an_extent m l a u) ≡ Some (an_extent m' l' b v) → text_in a ≡ text_in b
      same_name m m' l l' a b u v e = (let k : a ≡ b = cc in ap text_in k)

  -- what stood in no extent of the namespace, nor is a free extent, stands still
  no_chain : (q : Place) → ((x : ExtentHeader) → s.heap q ≡ Some (extent x) → (text_in x.namespace ≡ free) ⊎ (text_in x.namespace ≡ name) → ⊥) → (has chain q ≡ false) × (has ps q ≡ false)
  no_chain q none = (
    elim (cases_Bool (has chain q)) [ inl y ↦ (let x = st.extents.on_chain free q y in absurd (none x.0 x.1 (inl x.2))) | inr n ↦ n ],
    elim (cases_Bool (has ps q)) [ inl y ↦ (let x = st.extents.on_chain name q y in absurd (none x.0 x.1 (inr x.2))) | inr n ↦ n ],
  )

  pub extent_stays : (q : Place) (h : ExtentHeader) → s.heap q ≡ Some (extent h) → text_in h.namespace ≢ free → text_in h.namespace ≢ name → th q ≡ s.heap q
  extent_stays q h e nf nn =
      let off = no_chain q (λ x i named. (let k = one h x (sym e ∙ i) in elim named [ inl y ↦ nf (ap (λ (z : ExtentHeader). text_in z.namespace) k ∙ y) | inr y ↦ nn (ap (λ (z : ExtentHeader). text_in z.namespace) k ∙ y) ])) in
      fr.same_off q off.0 off.1 (λ p g n on i l. extent_off s.heap (unused_in image) free st.tiled p g n i l q h e)
    where
      one : (x y : ExtentHeader) → Some (extent x) ≡ Some (extent y) → x ≡ y
      one x y k = cc

  pub block_stays : (q : Place) (ext len : ℤ) (k a : ℕ) (hh : ExtentHeader) → ground s.heap q ≡ Some (a_block ext len k) → ext ≡ pos a → s.heap (q.0, a) ≡ Some (extent hh) → text_in hh.namespace ≢ name → th q ≡ s.heap q
  block_stays q ext len k a hh e is there nn =
      let b = st.tiled.blocks q.0 q.1 k ext len e in
      let at : b.0 ≡ a = (let z : pos b.0 ≡ pos a = sym b.1.1.extent_place ∙ is in cc) in
      let off = no_chain q (λ x i named. not_both x.magic x.my_loc x.namespace x.len (sym (ap (λ (o : Option Cell). option_map outline o) i) ∙ e)) in
      fr.same_off q off.0 off.1 (λ p g n on i l.
      block_off s.heap (unused_in image) free st.tiled p g n i l q ext len k b.0 b.1.0 b.1.1
      (λ z. nn (ap (λ (x : ExtentHeader). text_in x.namespace) (one hh g (sym there ∙ ap s.heap ((λ j. (q.0, sym at j)) ∙ z) ∙ i)) ∙ own p g on i)))
    where
      not_both : (m : ℕ) (l : DiskLoc) (nm : List ℕ) (z : ℤ) → Some (an_extent m l nm z) ≡ Some (a_block ext len k) → ⊥
      not_both m l nm z e = cc

      one : (x y : ExtentHeader) → Some (extent x) ≡ Some (extent y) → x ≡ y
      one x y k = cc

      own : (p : Place) (g : ExtentHeader) → has ps p ≡ true → s.heap p ≡ Some (extent g) → text_in g.namespace ≡ name
      own p g on i = (let x = st.extents.on_chain name p on in ap (λ (z : ExtentHeader). text_in z.namespace) (one g x.0 (sym i ∙ x.1)) ∙ x.2)
