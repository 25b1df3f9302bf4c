-- Blocks by their places.
use Rattle.std.proofs.Common.{◌≡◌, ℕ, ◌≤◌, ◌<◌, ◌⊎◌, inl, inr, true, false, List, [], ◌∷◌, refl, sym, ◌∙◌, ap, subst, arith}
use Rattle.std.specs.Prelude.{◌&&◌, ◌==◌, nat_le}
use Rattle.std.specs.List.Sorted.{IsPermutation}
use Rattle.std.proofs.lemmas.List.Sorted.{IsPermutation-refl, IsPermutation-sym, IsPermutation-cons, IsPermutation-trans, IsPermutation-middle}
use Rattle.std.proofs.lemmas.Bool.{cases_Bool, false≢true, eqb-true}
use Rattle.std.proofs.lemmas.Bool.Decides.{nat_tests}
use Rattle.mm_ranges.specs.Overlay.{Image}
use Rattle.mm_links.specs.Links.{Place, same, has, once}
use Rattle.mm_links.proofs.LinkLaws.{both, either, same_is, same_own, has_here, has_more, once_parts}
use Rattle.mm_walk.specs.Tiles.{Block, In, IsRising}
use Rattle.mm_check.specs.RecordChain.{rec_at, is_pos}
use Rattle.mm_check.specs.BlockQuestions.{block_len, blocks_of, put_in, by_place}
use Rattle.mm_check.proofs.RecordLaws.{if_yes, if_no, nat_le_true, eq_of, and_of}

less_of : (m n : ℕ) → nat_le m n ≡ false → n < m
less_of m n e = grind (arith, nat_tests)

-- ---- they are the same blocks

put_permutation : (b : Block) (cs : List Block) → IsPermutation (b ∷ cs) (put_in b cs)
put_permutation b [] = IsPermutation-refl (b ∷ [])
put_permutation b (c ∷ cs) = elim (cases_Bool (nat_le b.0 c.0)) [
  | inl y ↦ subst (λ (xs : List Block). IsPermutation (b ∷ c ∷ cs) xs) (sym (if_yes (nat_le b.0 c.0) (b ∷ c ∷ cs) (c ∷ put_in b cs) y)) (IsPermutation-refl (b ∷ c ∷ cs))
  | inr n ↦
      subst (λ (xs : List Block). IsPermutation (b ∷ c ∷ cs) xs) (sym (if_no (nat_le b.0 c.0) (b ∷ c ∷ cs) (c ∷ put_in b cs) n))
      (IsPermutation-trans (b ∷ c ∷ cs) (c ∷ b ∷ cs) (c ∷ put_in b cs) (IsPermutation-sym (c ∷ b ∷ cs) (b ∷ c ∷ cs) (IsPermutation-middle (c ∷ []) b cs)) (IsPermutation-cons c (b ∷ cs) (put_in b cs) (put_permutation b cs)))
]

pub by_place_permutation : (bs : List Block) → IsPermutation bs (by_place bs)
by_place_permutation [] = IsPermutation-refl []
by_place_permutation (b ∷ bs) = IsPermutation-trans (b ∷ bs) (b ∷ by_place bs) (put_in b (by_place bs)) (IsPermutation-cons b bs (by_place bs) (by_place_permutation bs)) (put_permutation b (by_place bs))

in_put : (b : Block) (cs : List Block) (d : Block) → In d (put_in b cs) → (d ≡ b) ⊎ In d cs
in_put b [] d (inl e) = inl e
in_put b [] d (inr i) = absurd i
in_put b (c ∷ cs) d i = elim (cases_Bool (nat_le b.0 c.0)) [
  | inl y ↦ by_front (subst (λ (xs : List Block). In d xs) (if_yes (nat_le b.0 c.0) (b ∷ c ∷ cs) (c ∷ put_in b cs) y) i)
  | inr n ↦ by_rest (λ j. in_put b cs d j) (subst (λ (xs : List Block). In d xs) (if_no (nat_le b.0 c.0) (b ∷ c ∷ cs) (c ∷ put_in b cs) n) i)
]
  where
    by_front : In d (b ∷ c ∷ cs) → (d ≡ b) ⊎ In d (c ∷ cs)
    by_front (inl e) = inl e
    by_front (inr j) = inr j

    by_rest : (In d (put_in b cs) → (d ≡ b) ⊎ In d cs) → In d (c ∷ put_in b cs) → (d ≡ b) ⊎ In d (c ∷ cs)
    by_rest f (inl e) = inr (inl e)
    by_rest f (inr j) = elim (f j) [ inl e ↦ inl e | inr k ↦ inr (inr k) ]

put_has : (b : Block) (cs : List Block) (d : Block) → (d ≡ b) ⊎ In d cs → In d (put_in b cs)
put_has b [] d h = h
put_has b (c ∷ cs) d h = elim (cases_Bool (nat_le b.0 c.0)) [
  | inl y ↦ subst (λ (xs : List Block). In d xs) (sym (if_yes (nat_le b.0 c.0) (b ∷ c ∷ cs) (c ∷ put_in b cs) y)) h
  | inr n ↦ subst (λ (xs : List Block). In d xs) (sym (if_no (nat_le b.0 c.0) (b ∷ c ∷ cs) (c ∷ put_in b cs) n)) (by (λ j. put_has b cs d j) h)
]
  where
    by : ((d ≡ b) ⊎ In d cs → In d (put_in b cs)) → (d ≡ b) ⊎ In d (c ∷ cs) → In d (c ∷ put_in b cs)
    by f (inl e) = inr (f (inl e))
    by f (inr (inl e)) = inl e
    by f (inr (inr j)) = inr (f (inr j))

pub in_by_place : (bs : List Block) (d : Block) → In d (by_place bs) → In d bs
in_by_place [] d i = i
in_by_place (b ∷ bs) d i = elim (in_put b (by_place bs) d i) [ inl e ↦ inl e | inr j ↦ inr (in_by_place bs d j) ]

pub by_place_in : (bs : List Block) (d : Block) → In d bs → In d (by_place bs)
by_place_in [] d i = i
by_place_in (b ∷ bs) d (inl e) = put_has b (by_place bs) d (inl e)
by_place_in (b ∷ bs) d (inr j) = put_has b (by_place bs) d (inr (by_place_in bs d j))

-- ---- and they rise, where no two of them have one place

abbrev pub AreApart : List Block → Type 0
AreApart [] = Unit {0}
AreApart (b ∷ bs) = ((c : Block) → In c bs → c.0 ≡ b.0 → ⊥) × AreApart bs

put_rising : (b : Block) (cs : List Block) → IsRising cs → ((c : Block) → In c cs → c.0 ≡ b.0 → ⊥) → IsRising (put_in b cs)
put_rising b [] r f = (λ c i. absurd i, tt)
put_rising b (c ∷ cs) r f = elim (cases_Bool (nat_le b.0 c.0)) [
  | inl y ↦
      let le = nat_le_true b.0 c.0 y in
      let lt : b.0 < c.0 = other b.0 c.0 le (f c (inl refl)) in
      subst IsRising (sym (if_yes (nat_le b.0 c.0) (b ∷ c ∷ cs) (c ∷ put_in b cs) y)) (first lt, r)
  | inr n ↦
      let gt = less_of b.0 c.0 n in
      subst IsRising (sym (if_no (nat_le b.0 c.0) (b ∷ c ∷ cs) (c ∷ put_in b cs) n)) (rest gt, put_rising b cs r.1 (λ d i. f d (inr i)))
]
  where
    other : (m n : ℕ) → m ≤ n → (n ≡ m → ⊥) → m < n
    other m n le ne = elim (cases_Bool (nat_le n m)) [ inl y ↦ absurd (let ge = nat_le_true n m y in ne (omega (arith, le, ge))) | inr no_le ↦ less_of n m no_le ]

    first : b.0 < c.0 → (d : Block) → In d (c ∷ cs) → b.0 < d.0
    first lt d (inl e) = subst (λ (x : Block). b.0 < x.0) (sym e) lt
    first lt d (inr i) = let up = r.0 d i in omega (arith, lt, up)

    rest : c.0 < b.0 → (d : Block) → In d (put_in b cs) → c.0 < d.0
    rest gt d i = elim (in_put b cs d i) [ inl e ↦ subst (λ (x : Block). c.0 < x.0) (sym e) gt | inr j ↦ r.0 d j ]

pub by_place_rises : (bs : List Block) → AreApart bs → IsRising (by_place bs)
by_place_rises [] a = tt
by_place_rises (b ∷ bs) a = put_rising b (by_place bs) (by_place_rises bs a.1) (λ c i. a.0 c (in_by_place bs c i))

-- ---- the blocks of an extent

module _ (image : Image) (e : Place) where
  -- a block of the extent is one of those that name it
  pub in_blocks : (ps : List Place) (b : Block) → In b (blocks_of image e ps) → (p : Place) × (has ps p ≡ true) × (p.0 ≡ e.0) × (is_pos (rec_at image p).extent_ofs e.1 ≡ true) × (b ≡ (p.1, block_len image p))
  in_blocks [] b i = absurd i
  in_blocks (p ∷ ps) b i = elim (cases_Bool ((p.0 == e.0) && is_pos (rec_at image p).extent_ofs e.1)) [
    | inl y ↦ by (λ j. in_blocks ps b j) y (subst (λ (xs : List Block). In b xs) (if_yes _ ((p.1, block_len image p) ∷ blocks_of image e ps) (blocks_of image e ps) y) i)
    | inr n ↦ more (in_blocks ps b (subst (λ (xs : List Block). In b xs) (if_no _ ((p.1, block_len image p) ∷ blocks_of image e ps) (blocks_of image e ps) n) i))
  ]
    where
      more : (q : Place) × (has ps q ≡ true) × (q.0 ≡ e.0) × (is_pos (rec_at image q).extent_ofs e.1 ≡ true) × (b ≡ (q.1, block_len image q))
          → (q : Place) × (has (p ∷ ps) q ≡ true) × (q.0 ≡ e.0) × (is_pos (rec_at image q).extent_ofs e.1 ≡ true) × (b ≡ (q.1, block_len image q))
      more t = (t.0, has_more p ps t.0 t.1, t.2, t.3, t.4)

      by : (In b (blocks_of image e ps) → (q : Place) × (has ps q ≡ true) × (q.0 ≡ e.0) × (is_pos (rec_at image q).extent_ofs e.1 ≡ true) × (b ≡ (q.1, block_len image q))) → ((p.0 == e.0) && is_pos (rec_at image p).extent_ofs e.1) ≡ true → In b ((p.1, block_len image p) ∷ blocks_of image e ps)
          → (q : Place) × (has (p ∷ ps) q ≡ true) × (q.0 ≡ e.0) × (is_pos (rec_at image q).extent_ofs e.1 ≡ true) × (b ≡ (q.1, block_len image q))
      by k y (inl f) = let t = both _ _ y in (p, has_here p ps p (same_own p), eqb-true p.0 e.0 t.0, t.1, f)
      by k y (inr j) = more (k j)

  pub blocks_in : (ps : List Place) (p : Place) → has ps p ≡ true → p.0 ≡ e.0 → is_pos (rec_at image p).extent_ofs e.1 ≡ true → In (p.1, block_len image p) (blocks_of image e ps)
  blocks_in [] p h f x = absurd (false≢true h)
  blocks_in (q ∷ qs) p h f x = elim (either (same q p) (has qs p) h) [
    | inl y ↦
        let s : q ≡ p = same_is q p y in
        let own : ((q.0 == e.0) && is_pos (rec_at image q).extent_ofs e.1) ≡ true = subst (λ (z : Place). ((z.0 == e.0) && is_pos (rec_at image z).extent_ofs e.1) ≡ true) (sym s) (and_of _ _ (eq_of p.0 e.0 f) x) in
        subst (λ (xs : List Block). In (p.1, block_len image p) xs) (sym (if_yes _ ((q.1, block_len image q) ∷ blocks_of image e qs) (blocks_of image e qs) own)) (inl (ap (λ (z : Place). (z.1, block_len image z)) (sym s)))
    | inr t ↦ elim (cases_Bool ((q.0 == e.0) && is_pos (rec_at image q).extent_ofs e.1)) [
      | inl y ↦ subst (λ (xs : List Block). In (p.1, block_len image p) xs) (sym (if_yes _ ((q.1, block_len image q) ∷ blocks_of image e qs) (blocks_of image e qs) y)) (inr (blocks_in qs p t f x))
      | inr n ↦ subst (λ (xs : List Block). In (p.1, block_len image p) xs) (sym (if_no _ ((q.1, block_len image q) ∷ blocks_of image e qs) (blocks_of image e qs) n)) (blocks_in qs p t f x)
    ]
  ]

  pub blocks_apart : (ps : List Place) → once ps ≡ true → AreApart (blocks_of image e ps)
  blocks_apart [] o = tt
  blocks_apart (p ∷ ps) o = elim (cases_Bool ((p.0 == e.0) && is_pos (rec_at image p).extent_ofs e.1)) [
    | inl y ↦
        subst AreApart (sym (if_yes _ ((p.1, block_len image p) ∷ blocks_of image e ps) (blocks_of image e ps) y)) (
          λ c i f.
              let t = in_blocks ps c i in
              let g : t.0.1 ≡ p.1 = sym (ap (λ (b : Block). b.0) t.4) ∙ f in
              let k : t.0.0 ≡ p.0 = t.2 ∙ sym (eqb-true p.0 e.0 (both _ _ y).0) in
              let s : t.0 ≡ p = (λ j. (k j, g j)) in
              false≢true (sym (once_parts p ps o).0 ∙ ap (has ps) (sym s) ∙ t.1),
          blocks_apart ps (once_parts p ps o).1,
        )
    | inr n ↦ subst AreApart (sym (if_no _ ((p.1, block_len image p) ∷ blocks_of image e ps) (blocks_of image e ps) n)) (blocks_apart ps (once_parts p ps o).1)
  ]

  pub blocks_rise : (ps : List Place) → once ps ≡ true → IsRising (by_place (blocks_of image e ps))
  blocks_rise ps o = by_place_rises (blocks_of image e ps) (blocks_apart ps o)
