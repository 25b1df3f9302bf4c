-- Extents and blocks tile their files when a block is split.
use Rattle.std.proofs.Common.{◌≡◌, ℕ, ℤ, pos, ◌+◌, ◌-◌, ◌≤◌, ◌⊎◌, inl, inr, true, false, List, Option, Some, None, refl, sym, ◌∙◌, ap, subst, arith}
use Rattle.std.proofs.lemmas.Bool.{cases_Bool}
use Rattle.mm_base.specs.declared.place.DiskLoc.{DiskLoc}
use Rattle.mm_links.specs.Links.{Place, same}
use Rattle.mm_links.proofs.LinkLaws.{same_is, same_not}
use Rattle.mm_extents.specs.Changes.{behind_of}
use Rattle.mm_extents.specs.Tiling.{Outline, an_extent, a_block, ExtentAt, BlockAt, IsExtent, IsHome, IsBlock, IsTiled}

module _ (g new : Place → Option Outline) (unused : ℕ → Option ℤ) (free : List ℕ) (t : IsTiled g unused free) (p : Place) (r n : ℕ) (ext len : ℤ)
    (there : g p ≡ Some (a_block ext len n)) (front : 32 ≤ r) (rest : 32 ≤ n - r) (room : r ≤ n) (empty : g (behind_of p r) ≡ None)
    (new_here : new p ≡ Some (a_block ext (pos r) r)) (new_behind : new (behind_of p r) ≡ Some (a_block ext (pos (n - r)) (n - r))) (elsewhere : (q : Place) → same p q ≡ false → same (behind_of p r) q ≡ false → new q ≡ g q) where
  -- what stood elsewhere stays
  extent_stays : (q : Place) (magic : ℕ) (here : DiskLoc) (name : List ℕ) (m : ℤ) → g q ≡ Some (an_extent magic here name m) → new q ≡ Some (an_extent magic here name m)
  extent_stays q magic here name m e = elsewhere q
      (same_not p q (λ f. (let x : Some (a_block ext len n) ≡ Some (an_extent magic here name m) = sym there ∙ ap g f ∙ e in cc)))
      (same_not (behind_of p r) q (λ f. (let x : None ≡ Some (an_extent magic here name m) = sym empty ∙ ap g f ∙ e in cc))) ∙ e

  extent_was : (q : Place) (magic : ℕ) (here : DiskLoc) (name : List ℕ) (m : ℤ) → new q ≡ Some (an_extent magic here name m) → g q ≡ Some (an_extent magic here name m)
  extent_was q magic here name m e = elim (cases_Bool (same p q)) [
    | inl y ↦ absurd (let x : Some (a_block ext (pos r) r) ≡ Some (an_extent magic here name m) = sym new_here ∙ ap new (same_is p q y) ∙ e in cc)
    | inr a ↦ elim (cases_Bool (same (behind_of p r) q)) [
      | inl y ↦ absurd (let x : Some (a_block ext (pos (n - r)) (n - r)) ≡ Some (an_extent magic here name m) = sym new_behind ∙ ap new (same_is (behind_of p r) q y) ∙ e in cc)
      | inr b ↦ sym (elsewhere q a b) ∙ e
    ]
  ]

  home_stays : (file a m : ℕ) → IsHome g free file a m → IsHome new free file a m
  home_stays file a m x = record { magic = x.magic; here = x.here; name = x.name; is = extent_stays (file, a) x.magic x.here x.name (pos m) x.is; isnt_free = x.isnt_free }

  extent_at : (u file at : ℕ) → ExtentAt g u file at → ExtentAt new u file at
  extent_at u file at (inl e) = inl e
  extent_at u file at (inr x) = inr (x.0, x.1, x.2, x.3, extent_stays (file, at) x.0 x.1 x.2 x.3 x.4)

  block_at : (stop file a at : ℕ) → BlockAt g stop file a at → BlockAt new stop file a at
  block_at stop file a at (inl e) = inl e
  block_at stop file a at (inr x) = elim (cases_Bool (same p (file, at))) [
    | inl y ↦
        let same_cell : Some (a_block ext len n) ≡ Some (a_block (pos a) x.0 x.1) = sym there ∙ ap g (same_is p (file, at) y) ∙ x.2 in
        let same_ext : ext ≡ pos a = cc in
        inr (pos r, r, ap new (sym (same_is p (file, at) y)) ∙ new_here ∙ ap (λ (z : ℤ). Some (a_block z (pos r) r)) same_ext)
    | inr m ↦ inr (x.0, x.1, elsewhere (file, at) m (same_not (behind_of p r) (file, at) (λ f. (let z : None ≡ Some (a_block (pos a) x.0 x.1) = sym empty ∙ ap g f ∙ x.2 in cc))) ∙ x.2)
  ]

  -- a block with its place in an extent, over the new outline
  pub split_tiled : IsTiled new unused free
  split_tiled = record {
    begins = λ file u e. extent_at u file 8192 (t.begins file u e);
    extents = λ file at magic here name m e.
        let x = t.extents file at magic here name m (extent_was (file, at) magic here name m e) in
        (x.0, x.1, (x.2.0, again file at magic here name m x.0 x.2.0 x.2.1, λ ne. block_at (at + x.2.0) file at (at + 176) (x.2.2 ne)));
    apart = λ file a b magic magic' m here here' name name' l e f lt.
        t.apart file a b magic magic' m here here' name name' l (extent_was (file, a) magic here name (pos m) e) (extent_was (file, b) magic' here' name' l f) lt;
    blocks = λ file at k ext' len' e. blocks (file, at) k ext' len' e (cases_Bool (same p (file, at))) (cases_Bool (same (behind_of p r) (file, at)));
  }
    where
      moved : (p' q : Place) → p' ≡ q → (x y : ℤ) → x ≡ y → (l m : ℤ) → l ≡ m → (j k : ℕ) → j ≡ k → (a b : ℕ) → IsBlock new free p'.0 p'.1 x l j a b → IsBlock new free q.0 q.1 y m k a b
      moved p' q e x y f l m h j k i a b is =
          let whole : (p', x, l, j) ≡ (q, y, m, k) = λ z. (e z, f z, h z, i z) in
          subst (λ (w : Place × ℤ × ℤ × ℕ). IsBlock new free w.0.0 w.0.1 w.1 w.2 w.3 a b) whole is

      again : (file at magic : ℕ) (here : DiskLoc) (name : List ℕ) (m : ℤ) (u k : ℕ) → IsExtent g u file at magic here name m k → IsExtent new u file at magic here name m k
      again file at magic here name m u k x = record {
        magic_word = x.magic_word;
        own_place = x.own_place;
        named = x.named;
        long = x.long;
        pages = x.pages;
        some = x.some;
        inside = x.inside;
        behind = extent_at u file (at + k) x.behind;
      }

      whole : (a : ℕ) × ((m : ℕ) × IsBlock g free p.0 p.1 ext len n a m)
      whole = t.blocks p.0 p.1 n ext len there

      blocks : (q : Place) (k : ℕ) (ext' len' : ℤ) → new q ≡ Some (a_block ext' len' k) → (same p q ≡ true) ⊎ (same p q ≡ false) → (same (behind_of p r) q ≡ true) ⊎ (same (behind_of p r) q ≡ false)
          → (a : ℕ) × ((m : ℕ) × IsBlock new free q.0 q.1 ext' len' k a m)
      blocks q k ext' len' e (inl y) _ =
          let w = whole.1.1 in
          let cells : Some (a_block ext (pos r) r) ≡ Some (a_block ext' len' k) = sym new_here ∙ ap new (same_is p q y) ∙ e in
          let ee : ext ≡ ext' = cc in
          let el : pos r ≡ len' = cc in
          let ek : r ≡ k = cc in
          let from = w.from in let to = w.to in
          let here : IsBlock new free p.0 p.1 ext (pos r) r whole.0 whole.1.0 = record {
            long = refl;
            some = front;
            extent_place = w.extent_place;
            of_extent = home_stays p.0 whole.0 whole.1.0 w.of_extent;
            from = from;
            to = omega (arith, to, room);
            behind = inr (pos (n - r), n - r, new_behind ∙ ap (λ (z : ℤ). Some (a_block z (pos (n - r)) (n - r))) w.extent_place);
          } in
          (whole.0, (whole.1.0, moved p q (same_is p q y) ext ext' ee (pos r) len' el r k ek whole.0 whole.1.0 here))
      blocks q k ext' len' e (inr a) (inl y) =
          let w = whole.1.1 in
          let cells : Some (a_block ext (pos (n - r)) (n - r)) ≡ Some (a_block ext' len' k) = sym new_behind ∙ ap new (same_is (behind_of p r) q y) ∙ e in
          let ee : ext ≡ ext' = cc in
          let el : pos (n - r) ≡ len' = cc in
          let ek : n - r ≡ k = cc in
          let from = w.from in let to = w.to in
          let ends : p.1 + n ≡ p.1 + r + (n - r) = omega (arith, room) in
          let here : IsBlock new free p.0 (p.1 + r) ext (pos (n - r)) (n - r) whole.0 whole.1.0 = record {
            long = refl;
            some = rest;
            extent_place = w.extent_place;
            of_extent = home_stays p.0 whole.0 whole.1.0 w.of_extent;
            from = omega (arith, from);
            to = omega (arith, to, room);
            behind = subst (λ (z : ℕ). BlockAt new (whole.0 + whole.1.0) p.0 whole.0 z) ends (block_at (whole.0 + whole.1.0) p.0 whole.0 (p.1 + n) w.behind);
          } in
          (whole.0, (whole.1.0, moved (behind_of p r) q (same_is (behind_of p r) q y) ext ext' ee (pos (n - r)) len' el (n - r) k ek whole.0 whole.1.0 here))
      blocks q k ext' len' e (inr a) (inr b) =
          let w = t.blocks q.0 q.1 k ext' len' (sym (elsewhere q a b) ∙ e) in
          let x = w.1.1 in (
            w.0,
            (
              w.1.0,
              record {
                long = x.long;
                some = x.some;
                extent_place = x.extent_place;
                of_extent = home_stays q.0 w.0 w.1.0 x.of_extent;
                from = x.from;
                to = x.to;
                behind = block_at (w.0 + w.1.0) q.0 w.0 (q.1 + k) x.behind;
              },
            ),
          )
