-- Where no extent has a gap, blocks tile, and no two of them overlap.
use Rattle.std.proofs.Common.{◌≡◌, ℕ, ℤ, pos, ◌+◌, ◌≤◌, ◌<◌, inl, inr, List, Option, Some, sym, ◌∙◌, ap, subst, arith}
use Rattle.std.specs.Prelude.{nat_lt, false, true}
use Rattle.std.proofs.lemmas.Bool.{cases_Bool}
use Rattle.std.proofs.lemmas.Bool.Decides.{nat_tests}
use Rattle.mm_links.specs.Links.{Place}
use Rattle.mm_extents.specs.Tiling.{Outline, a_block, BlockAt, IsBlock}
use Rattle.mm_walk.specs.Tiles.{Block, In, BeginsAt, AreTiling}
use Rattle.mm_walk.proofs.TileLaws.{tiling_of_no_gap}
use Rattle.mm_check.specs.Blocks.{IsArea, BlocksFound}

same_block : (e f x y : ℤ) (n m : ℕ) → Some (a_block e x n) ≡ Some (a_block f y m) → (e ≡ f) × (x ≡ y) × (n ≡ m)
same_block e f x y n m h = (cc, cc, cc)

not_less : (m n : ℕ) → nat_lt m n ≡ false → n ≤ m
not_less m n e = grind (arith, nat_tests)

less : (m n : ℕ) → nat_lt m n ≡ true → m < n
less m n e = grind (arith, nat_tests)

module _ (g : Place → Option Outline) (free : List ℕ) (len : Place → ℕ) (bs : Place → List Block) (f : BlocksFound g free len bs) where
  tiling_in : (e : Place) → IsArea g free e (len e) → AreTiling (e.1 + 176) (bs e) (e.1 + len e)
  tiling_in e a = tiling_of_no_gap (e.1 + 176) (bs e) (e.1 + len e) (f.no_gap e a)

  tiling : (e : Place) (b : Block) → In b (bs e) → AreTiling (e.1 + 176) (bs e) (e.1 + len e)
  tiling e b i = tiling_in e (f.area e b i)

  block_at : (e : Place) (at : ℕ) → BeginsAt (bs e) (e.1 + len e) at → BlockAt g (e.1 + len e) e.0 e.1 at
  block_at e at (inl h) = inl h
  block_at e at (inr (c, i, h)) = inr (pos c.1, c.1, ap (λ (a : ℕ). g (e.0, a)) (sym h) ∙ f.there e c i)

  -- a block begins behind the header of an extent that isn't free, or the extent ends there
  pub room_begins : (e : Place) → IsArea g free e (len e) → BlockAt g (e.1 + len e) e.0 e.1 (e.1 + 176)
  room_begins e a = block_at e (e.1 + 176) (tiling_in e a).begins

  -- the field `blocks` of IsTiled
  pub blocks_tile : (file at n : ℕ) (ext l : ℤ) → g (file, at) ≡ Some (a_block ext l n) → (a : ℕ) × ((m : ℕ) × IsBlock g free file at ext l n a m)
  blocks_tile file at n ext l h = by (f.only file at n ext l h)
    where
      by : (e : Place) × ((e.0 ≡ file) × In (at, n) (bs e)) → (a : ℕ) × ((m : ℕ) × IsBlock g free file at ext l n a m)
      by (e, (ef, i)) =
          let t = tiling e (at, n) i in
          let own = t.inside (at, n) i in
          let s = same_block ext (pos e.1) l (pos n) n n (sym h ∙ ap (λ (k : ℕ). g (k, at)) (sym ef) ∙ f.there e (at, n) i) in
          let x = f.area e (at, n) i in (
            e.1,
            (
              len e,
              record {
                long = s.1;
                some = f.long e (at, n) i;
                extent_place = s.0;
                of_extent = record { magic = x.magic; here = x.here; name = x.name; is = ap (λ (k : ℕ). g (k, e.1)) (sym ef) ∙ x.is; isnt_free = x.isnt_free };
                from = own.0;
                to = own.1;
                behind = subst (λ (k : ℕ). BlockAt g (e.1 + len e) k e.1 (at + n)) ef (block_at e (at + n) (t.behind (at, n) i));
              },
            ),
          )

  -- what IsHeap asks of two blocks
  pub blocks_apart : (file a b n m : ℕ) (x y u v : ℤ) → g (file, a) ≡ Some (a_block x u n) → g (file, b) ≡ Some (a_block y v m) → a < b → a + n ≤ b
  blocks_apart file a b n m x y u v h k lt = by (f.only file a n x u h) (f.only file b m y v k)
    where
      by : (e : Place) × ((e.0 ≡ file) × In (a, n) (bs e)) → (e : Place) × ((e.0 ≡ file) × In (b, m) (bs e)) → a + n ≤ b
      by (e, (ef, i)) (d, (df, j)) =
          let s = tiling e (a, n) i in let own = s.inside (a, n) i in
          let t = tiling d (b, m) j in let other = t.inside (b, m) j in
          let o0 = own.0 in let o1 = own.1 in let p0 = other.0 in let p1 = other.1 in
          elim (cases_Bool (nat_lt e.1 d.1)) [
            | inl y ↦ let z = f.extents_apart e d (a, n) (b, m) i j (ef ∙ sym df) (less e.1 d.1 y) in omega (arith, o1, z, p0)
            | inr isnt ↦ elim (cases_Bool (nat_lt d.1 e.1)) [
              | inl y ↦ let z = f.extents_apart d e (b, m) (a, n) j i (df ∙ sym ef) (less d.1 e.1 y) in absurd (omega (arith, p1, z, o0, lt))
              | inr also ↦
                  let q = not_less e.1 d.1 isnt in let r = not_less d.1 e.1 also in
                  let same_1 : d.1 ≡ e.1 = omega (arith, q, r) in
                  let same_0 : d.0 ≡ e.0 = df ∙ sym ef in
                  let same : d ≡ e = (λ i. (same_0 i, same_1 i)) in
                  s.apart (a, n) (b, m) i (subst (λ (k : Place). In (b, m) (bs k)) same j) lt
            ]
          ]
