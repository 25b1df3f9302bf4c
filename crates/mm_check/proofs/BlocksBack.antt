-- Where files stand in some shape, no extent has a gap.
use Rattle.std.proofs.Common.{◌≡◌, ℕ, ℤ, pos, ◌+◌, ◌≤◌, ◌<◌, inl, inr, List, Option, Some, None, refl, sym, ◌∙◌, ap, subst, arith}
use Rattle.mm_base.specs.declared.place.DiskLoc.{DiskLoc}
use Rattle.mm_links.specs.Links.{Place}
use Rattle.mm_extents.specs.Tiling.{Outline, an_extent, a_block, BlockAt, IsBlock, IsTiled}
use Rattle.mm_walk.specs.Tiles.{Block, In, IsRising, first_gap, BeginsAt, AreTiling}
use Rattle.mm_walk.proofs.TileLaws.{no_gap_of_tiling}
use Rattle.mm_check.specs.Blocks.{IsArea}

same_pos : (m n : ℕ) → pos m ≡ pos n → m ≡ n
same_pos m n e = cc

same_len : (m1 : ℕ) (d1 : DiskLoc) (n1 : List ℕ) (m2 : ℕ) (d2 : DiskLoc) (n2 : List ℕ) (m len : ℕ) → Some (an_extent m1 d1 n1 (pos m)) ≡ Some (an_extent m2 d2 n2 (pos len)) → m ≡ len
same_len m1 d1 n1 m2 d2 n2 m len f = let k : pos m ≡ pos len = cc in cc

module _ (g : Place → Option Outline) (unused : ℕ → Option ℤ) (free : List ℕ) (tiled : IsTiled g unused free)
    (apart : (file a b n m : ℕ) (x y u v : ℤ) → g (file, a) ≡ Some (a_block x u n) → g (file, b) ≡ Some (a_block y v m) → a < b → a + n ≤ b)
    (e : Place) (len : ℕ) (area : IsArea g free e len) (begins : BlockAt g (e.1 + len) e.0 e.1 (e.1 + 176))
    (bs : List Block) (rising : IsRising bs)
    (there : (b : Block) → In b bs → (l : ℤ) × (g (e.0, b.0) ≡ Some (a_block (pos e.1) l b.1)))
    (all : (at n : ℕ) (l : ℤ) → g (e.0, at) ≡ Some (a_block (pos e.1) l n) → In (at, n) bs) where
  begins_at : (at : ℕ) → BlockAt g (e.1 + len) e.0 e.1 at → BeginsAt bs (e.1 + len) at
  begins_at at (inl h) = inl h
  begins_at at (inr t) = inr ((at, t.1), all at t.1 t.0 t.2, refl)

  -- what a block of the extent says
  block : (b : Block) → In b bs → (l : ℤ) × IsBlock g free e.0 b.0 (pos e.1) l b.1 e.1 len
  block b i = by (there b i).0 (there b i).1
    where
      by : (l : ℤ) → g (e.0, b.0) ≡ Some (a_block (pos e.1) l b.1) → (l : ℤ) × IsBlock g free e.0 b.0 (pos e.1) l b.1 e.1 len
      by l h =
          let t = tiled.blocks e.0 b.0 b.1 (pos e.1) l h in
          let x = t.1.1.of_extent in
          let a_is : t.0 ≡ e.1 = sym (same_pos e.1 t.0 t.1.1.extent_place) in
          let m_is : t.1.0 ≡ len = same_len x.magic x.here x.name area.magic area.here area.name t.1.0 len (sym x.is ∙ ap (λ (a : ℕ). g (e.0, a)) a_is ∙ area.is) in
          (l, subst (λ (a : ℕ). IsBlock g free e.0 b.0 (pos e.1) l b.1 a len) a_is (subst (λ (m : ℕ). IsBlock g free e.0 b.0 (pos e.1) l b.1 t.0 m) m_is t.1.1))

  tiling_of_stands : AreTiling (e.1 + 176) bs (e.1 + len)
  tiling_of_stands = record {
    begins = begins_at (e.1 + 176) begins;
    inside = λ b i. let k = (block b i).1 in (k.from, k.to);
    behind = λ b i. begins_at (b.0 + b.1) (block b i).1.behind;
    apart = λ b c i j lt. apart e.0 b.0 c.0 b.1 c.1 (pos e.1) (pos e.1) (there b i).0 (there c j).0 (there b i).1 (there c j).1 lt;
  }

  -- so phase 8 finds nothing at the extent
  pub no_gap_of_stands : first_gap (e.1 + 176) bs (e.1 + len) ≡ None
  no_gap_of_stands = no_gap_of_tiling (e.1 + 176) bs (e.1 + len) (λ b i. let k = (block b i).1.some in omega (arith, k)) rising tiling_of_stands
