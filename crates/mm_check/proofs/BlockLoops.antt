-- Blocks that are put to their extents one by one.
use Rattle.std.proofs.Common.{◌≡◌, ℕ, ℤ, pos, negsuc, ◌+◌, ◌<◌, ◌^◌, inl, inr, Bool, true, false, List, [], ◌∷◌, ◌++◌, length, take, get_or, Option, Some, None, Vec, Global, refl, sym, ◌∙◌, ap, arith}
use Rattle.std.specs.Prelude.{◌&&◌, ◌==◌, if◌then◌else◌}
use Rattle.std.specs.BTreeMap.{BTreeMap, get, UpdatesBy, Updates}
use Rattle.std.specs.Ordering.{nat_cmp, is_eq}
use Rattle.std.proofs.lemmas.Bool.{cases_Bool}
use Rattle.std.proofs.lemmas.Bool.Decides.{nat_tests}
use Rattle.std.proofs.lemmas.List.{take_more}
use Rattle.mm_ranges.specs.Overlay.{Image}
use Rattle.mm_links.specs.Links.{Place, same}
use Rattle.mm_links.proofs.LinkLaws.{same_is, not_same}
use Rattle.mm_walk.specs.Tiles.{Block}
use Rattle.mm_walk.specs.Walk.{key}
use Rattle.mm_check.specs.RecordChain.{rec_at, is_pos}
use Rattle.mm_check.specs.BlockQuestions.{block_len, blocks_of}
use Rattle.mm_check.specs.BlockMap.{items_or, blocks_in, HasBlocks}
use Rattle.mm_check.proofs.RecordLaws.{if_yes, if_no}
use Rattle.mm_check.proofs.Chained.{append_nil}

abbrev pub names_extent : Image → Place → Place → Bool
names_extent image e p = (p.0 == e.0) && is_pos (rec_at image p).extent_ofs e.1

pub blocks_more : (image : Image) (e : Place) (ps : List Place) (p : Place) → blocks_of image e (ps ++ p ∷ []) ≡ blocks_of image e ps ++ (if names_extent image e p then (p.1, block_len image p) ∷ [] else [])
blocks_more image e [] p = refl
blocks_more image e (q ∷ ps) p = elim (cases_Bool (names_extent image e q)) [
  | inl y ↦
      if_yes (names_extent image e q) ((q.1, block_len image q) ∷ blocks_of image e (ps ++ p ∷ [])) (blocks_of image e (ps ++ p ∷ [])) y
      ∙ ap (λ (bs : List Block). (q.1, block_len image q) ∷ bs) (blocks_more image e ps p)
      ∙ ap (λ (bs : List Block). bs ++ (if names_extent image e p then (p.1, block_len image p) ∷ [] else [])) (sym (if_yes (names_extent image e q) ((q.1, block_len image q) ∷ blocks_of image e ps) (blocks_of image e ps) y))
  | inr n ↦
      if_no (names_extent image e q) ((q.1, block_len image q) ∷ blocks_of image e (ps ++ p ∷ [])) (blocks_of image e (ps ++ p ∷ [])) n
      ∙ blocks_more image e ps p
      ∙ ap (λ (bs : List Block). bs ++ (if names_extent image e p then (p.1, block_len image p) ∷ [] else [])) (sym (if_no (names_extent image e q) ((q.1, block_len image q) ∷ blocks_of image e ps) (blocks_of image e ps) n))
]

-- ---- the map

key_same : (p q : Place) → p.1 < 2 ^ 32 → q.1 < 2 ^ 32 → key p ≡ key q → p ≡ q
key_same p q a b e = let f : p.0 ≡ q.0 = omega (arith, a, b, e) in let g : p.1 ≡ q.1 = omega (arith, a, b, e) in λ i. (f i, g i)

nat_differs : (m n : ℕ) → (m ≡ n → ⊥) → is_eq (nat_cmp m n) ≡ false
nat_differs m n e = grind (arith, nat_tests)

nat_same : (m n : ℕ) → m ≡ n → is_eq (nat_cmp m n) ≡ true
nat_same m n e = grind (arith, nat_tests)

-- The blocks of an extent are taken out of the map, and put in again with one more.
pub put_blocks : (old mid new : BTreeMap ℕ (Vec (ℕ × ℕ) Global)) (k : ℕ) (extent : Place) (r : Option (Vec (ℕ × ℕ) Global)) (v : Vec (ℕ × ℕ) Global) (block : Block) → k ≡ key extent → extent.1 < 2 ^ 32
    → r ≡ get nat_cmp old k → UpdatesBy nat_cmp (nat_cmp k) old mid None → v.items ≡ items_or r ++ block ∷ [] → Updates nat_cmp mid new k (Some v)
    → (e : Place) → e.0 < 2 ^ 32 → e.1 < 2 ^ 32 → blocks_in new e ≡ blocks_in old e ++ (if same extent e then block ∷ [] else [])
put_blocks old mid new k extent r v block is small there gone grown put e low lows = elim (cases_Bool (same extent e)) [
  | inl y ↦
      let s : key e ≡ k = ap key (sym (same_is extent e y)) ∙ sym is in
      ap items_or (put.0 (key e) ∙ if_yes (is_eq (nat_cmp k (key e))) (Some v) (get nat_cmp mid (key e)) (nat_same k (key e) (sym s)))
      ∙ grown ∙ ap (λ (o : Option (Vec (ℕ × ℕ) Global)). items_or o ++ block ∷ []) (there ∙ ap (get nat_cmp old) (sym s))
      ∙ ap (λ (bs : List Block). blocks_in old e ++ bs) (sym (if_yes (same extent e) (block ∷ []) [] y))
  | inr n ↦
      let d : is_eq (nat_cmp k (key e)) ≡ false = nat_differs k (key e) (λ f. not_same extent e n (key_same extent e small lows (sym is ∙ f))) in
      ap items_or (put.0 (key e) ∙ if_no (is_eq (nat_cmp k (key e))) (Some v) (get nat_cmp mid (key e)) d ∙ gone.0 (key e) ∙ if_no (is_eq (nat_cmp k (key e))) None (get nat_cmp old (key e)) d)
      ∙ sym (ap (λ (bs : List Block). blocks_in old e ++ bs) (if_no (same extent e) (block ∷ []) [] n) ∙ append_nil (blocks_in old e))
]

-- a block of the next place names the extent that it was put to
pub placed_next : (image : Image) (placed : List Place) (i a len : ℕ) (p d : Place) (map new : BTreeMap ℕ (Vec (ℕ × ℕ) Global)) → HasBlocks image (take i placed) map → i < length placed → p ≡ get_or placed i d → (rec_at image p).extent_ofs ≡ pos a → len ≡ block_len image p
    → ((e : Place) → e.0 < 2 ^ 32 → e.1 < 2 ^ 32 → blocks_in new e ≡ blocks_in map e ++ (if same (p.0, a) e then (p.1, len) ∷ [] else [])) → HasBlocks image (take (i + 1) placed) new
placed_next image placed i a len p d map new h lt is names long put e low lows =
    let own : names_extent image e p ≡ same (p.0, a) e = ap (λ (z : ℤ). (p.0 == e.0) && is_pos z e.1) names in
    put e low lows ∙ (λ j. h e low lows j ++ (if sym own j then (p.1, long j) ∷ [] else []))
    ∙ sym (ap (blocks_of image e) (take_more placed i d lt ∙ ap (λ (q : Place). take i placed ++ q ∷ []) (sym is)) ∙ blocks_more image e (take i placed) p)

-- a block that names no extent is none's
pub placed_none : (image : Image) (placed : List Place) (i n : ℕ) (p d : Place) (map : BTreeMap ℕ (Vec (ℕ × ℕ) Global)) → HasBlocks image (take i placed) map → i < length placed → p ≡ get_or placed i d → (rec_at image p).extent_ofs ≡ negsuc n → HasBlocks image (take (i + 1) placed) map
placed_none image placed i n p d map h lt is names e low lows =
    let none : names_extent image e p ≡ false = ap (λ (z : ℤ). (p.0 == e.0) && is_pos z e.1) names ∙ and_false (p.0 == e.0) in
    h e low lows ∙ sym (append_nil (blocks_of image e (take i placed)))
    ∙ ap (λ (b : Bool). blocks_of image e (take i placed) ++ (if b then (p.1, block_len image p) ∷ [] else [])) (sym none)
    ∙ sym (ap (blocks_of image e) (take_more placed i d lt ∙ ap (λ (q : Place). take i placed ++ q ∷ []) (sym is)) ∙ blocks_more image e (take i placed) p)
  where
    and_false : (b : Bool) → (b && false) ≡ false
    and_false true = refl
    and_false false = refl
