-- The loops of the phases, step by step.
use Rattle.std.proofs.Common.{◌≡◌, ℕ, zero, suc, ℤ, pos, negsuc, ◌+◌, ◌-◌, ◌<◌, ◌^◌, inl, inr, Bool, true, false, List, [], ◌∷◌, ◌++◌, length, map, take, drop, get_or, Option, Some, None, Result, Ok, Err, IfOk, Vec, Global, refl, sym, ◌∙◌, ap, subst, arith, append_assoc}
use Rattle.std.specs.Prelude.{◌&&◌, ◌==◌, if◌then◌else◌, flat_map, min}
use Rattle.std.specs.Result.{OnOk}
use Rattle.std.specs.BTreeMap.{BTreeMap, IsEmpty, is_at}
use Rattle.std.specs.Map.{lookup}
use Rattle.std.specs.Ordering.{nat_cmp}
use Rattle.std.specs.List.Sorted.{IsPermutation}
use Rattle.std.specs.declared.alloc.AllocError.{AllocError}
use Rattle.std.proofs.lemmas.Bool.{cases_Bool, false≢true, eqb-true}
use Rattle.std.proofs.lemmas.List.{take_more, drop_more, drop-map, take-map, map-append}
use Rattle.std.proofs.lemmas.List.Concat.{flat_map-append}
use Rattle.mm_ranges.specs.Overlay.{Image}
use Rattle.mm_links.specs.Links.{Place, same, has, once, last_of}
use Rattle.mm_records.specs.Constants.{is_name}
use Rattle.mm_walk.specs.Walk.{Reading, key, AreWhole, BreaksFirst, seen_after}
use Rattle.mm_walk.specs.Tiles.{Block, IsRising, first_gap}
use Rattle.mm_walk.specs.Questions.{first_failing}
use Rattle.mm_check.specs.RecordChain.{rec_at, is_pos}
use Rattle.mm_check.specs.ExtentChain.{ext_size, nat_in, asked}
use Rattle.mm_check.specs.BlockQuestions.{block_len, blocks_of, by_place, gap_at, gap_or, first_gap_of}
use Rattle.mm_check.specs.BlockMap.{items_or, blocks_in, HasBlocks, PutsBlock}
use Rattle.mm_check.specs.CountQuestions.{counts_right}
use Rattle.mm_check.specs.NodeQuestions.{free_name, node_place}
use Rattle.mm_check.specs.Findings.{Owner, joined, lists_of, owners_of, without_free, name_of, details_at, count_questions}
use Rattle.mm_check.proofs.RecordLaws.{if_yes, if_no, eq_of}
use Rattle.mm_check.proofs.PhaseBack.{has_either}
use Rattle.mm_check.proofs.Placed.{by_place_permutation, blocks_rise}
use Rattle.mm_check.proofs.BlockLoops.{names_extent, blocks_more}
use Rattle.mm_check.proofs.Chained.{append_nil}
use Rattle.mm_check.proofs.ChainRows.{whole_append, breaks_behind}
use Rattle.mm_check.proofs.Insides.{has_in}

pub on_ok : {T E : Type 0} (r : Result T E) (P Q : Type 0) → (P → Q) → OnOk r P → OnOk r Q
on_ok (Ok x) P Q f h = f h
on_ok (Err x) P Q f h = tt

-- ---- nodes with their chains

pub owned_here : {V : Type 0} (items : V → List Place) (ks : List ℕ) (vs : List V) (i : ℕ) (v : V) → i < length ks → i < length vs → v ≡ get_or vs i v
    → owners_of (drop i ks) (map items (drop i vs)) ≡ record { node = get_or ks i 0; extents = items v } ∷ owners_of (drop (i + 1) ks) (map items (drop (i + 1) vs))
owned_here items ks vs i v a b e =
    (λ j. owners_of (drop_more ks i 0 a j) (map items (drop_more vs i v b j)))
    ∙ ap (λ x. record { node = get_or ks i 0; extents = items x } ∷ owners_of (drop (i + 1) ks) (map items (drop (i + 1) vs))) (sym e)

pub kept_here : (d : List ℕ) (image : Image) (o : Owner) (all os : List Owner) → all ≡ o ∷ os → is_name (name_of image o.node) (free_name d) ≡ false → without_free d image all ≡ o ∷ without_free d image os
kept_here d image o all os e n = ap (without_free d image) e ∙ if_no _ (without_free d image os) (o ∷ without_free d image os) n

pub left_here : (d : List ℕ) (image : Image) (o : Owner) (all os : List Owner) → all ≡ o ∷ os → is_name (name_of image o.node) (free_name d) ≡ true → without_free d image all ≡ without_free d image os
left_here d image o all os e y = ap (without_free d image) e ∙ if_yes _ (without_free d image os) (o ∷ without_free d image os) y

-- ---- lists of chains

-- what is made of the first ones and of the next one
pub flat_taken : {V : Type 0} (f : Owner → List Reading) (g : V → Owner) (vs : List V) (i : ℕ) (v : V) → i < length vs → v ≡ get_or vs i v
    → flat_map f (map g (take (i + 1) vs)) ≡ flat_map f (map g (take i vs)) ++ f (g v)
flat_taken f g vs i v lt e =
    ap (λ xs. flat_map f (map g xs)) (take_more vs i v lt)
    ∙ ap (flat_map f) (map-append g (take i vs) (get_or vs i v ∷ []))
    ∙ flat_map-append f (map g (take i vs)) (g (get_or vs i v) ∷ [])
    ∙ ap (λ rs. flat_map f (map g (take i vs)) ++ rs) (append_nil (f (g (get_or vs i v))))
    ∙ ap (λ x. flat_map f (map g (take i vs)) ++ f (g x)) (sym e)

pub flat_split : {V : Type 0} (f : Owner → List Reading) (g : V → Owner) (vs : List V) (i : ℕ) (v : V) → i < length vs → v ≡ get_or vs i v
    → flat_map f (map g vs) ≡ flat_map f (map g (take i vs)) ++ f (g v) ++ flat_map f (map g (drop (i + 1) vs))
flat_split f g [] i v lt e = absurd (omega (arith, lt))
flat_split f g (x ∷ xs) zero v lt e = ap (λ y. f (g y) ++ flat_map f (map g xs)) (sym e)
flat_split f g (x ∷ xs) (suc i) v lt e =
    let next : suc i + 1 ≡ suc (i + 1) = omega arith in
    ap (λ rs. f (g x) ++ rs) (flat_split f g xs i v (omega (arith, lt)) e)
    ∙ sym (append_assoc (f (g x)) (flat_map f (map g (take i xs)) ++ f (g v)) (flat_map f (map g (drop (i + 1) xs))))
    ∙ ap (λ rs. rs ++ flat_map f (map g (drop (i + 1) xs))) (sym (append_assoc (f (g x)) (flat_map f (map g (take i xs))) (f (g v))))
    ∙ ap (λ (n : ℕ). f (g x) ++ flat_map f (map g (take i xs)) ++ f (g v) ++ flat_map f (map g (drop n (x ∷ xs)))) (sym next)

-- the lists of the first nodes, and of the next one
pub lists_next : {V : Type 0} (image : Image) (g : V → Owner) (vs : List V) (i : ℕ) (v : V) (before : List Place) (pss qss yss : List (List Place)) → i < length vs → v ≡ get_or vs i v → AreWhole before (flat_map (lists_of image) (map g (take i vs))) pss → AreWhole (seen_after before pss) (lists_of image (g v)) qss → yss ≡ pss ++ qss
    → AreWhole before (flat_map (lists_of image) (map g (take (i + 1) vs))) yss
lists_next image g vs i v before pss qss yss lt own whole more e =
    subst (λ (rs : List Reading). AreWhole before rs yss) (sym (flat_taken (lists_of image) g vs i v lt own))
    (subst (λ (zss : List (List Place)). AreWhole before (flat_map (lists_of image) (map g (take i vs)) ++ lists_of image (g v)) zss) (sym e) (whole_append before (flat_map (lists_of image) (map g (take i vs))) pss (lists_of image (g v)) qss whole more))

-- and where one of them breaks
pub lists_break : {V : Type 0} (image : Image) (g : V → Owner) (vs : List V) (i : ℕ) (v : V) (before : List Place) (pss : List (List Place)) (at : Place) → i < length vs → v ≡ get_or vs i v → AreWhole before (flat_map (lists_of image) (map g (take i vs))) pss → BreaksFirst (seen_after before pss) (lists_of image (g v)) at
    → BreaksFirst before (flat_map (lists_of image) (map g vs)) at
lists_break image g vs i v before pss at lt own whole b =
    subst (λ (rs : List Reading). BreaksFirst before rs at) (sym (flat_split (lists_of image) g vs i v lt own))
    (breaks_behind before (flat_map (lists_of image) (map g (take i vs))) pss (lists_of image (g v)) (flat_map (lists_of image) (map g (drop (i + 1) vs))) at whole b)

-- a node's extents are among those of all
pub own_among : {V : Type 0} (g : V → Owner) (vs : List V) (i : ℕ) (v : V) (p : Place) → i < length vs → v ≡ get_or vs i v → has (g v).extents p ≡ true → has (flat_map (λ o. o.extents) (map g vs)) p ≡ true
own_among g [] i v p lt e h = absurd (omega (arith, lt))
own_among g (x ∷ xs) zero v p lt e h = has_in (g x).extents (flat_map (λ o. o.extents) (map g xs)) p (inl (ap (λ y. has (g y).extents p) (sym e) ∙ h))
own_among g (x ∷ xs) (suc i) v p lt e h = has_in (g x).extents (flat_map (λ o. o.extents) (map g xs)) p (inr (own_among g xs i v p (omega (arith, lt)) e h))

-- ---- blocks that are put to their extents

pub none_blocks : (image : Image) (old : BTreeMap ℕ (Vec (ℕ × ℕ) Global)) → IsEmpty old → HasBlocks image [] old
none_blocks image old e p low lows = ap (λ es. items_or (lookup (is_at (nat_cmp (key p))) es)) e

pub puts_next : (image : Image) (placed : List Place) (i : ℕ) (p d : Place) (map new : BTreeMap ℕ (Vec (ℕ × ℕ) Global)) → HasBlocks image (take i placed) map → i < length placed → p ≡ get_or placed i d → PutsBlock image p map new → HasBlocks image (take (i + 1) placed) new
puts_next image placed i p d map new h lt is put e low lows =
    put e low lows ∙ ap (λ (bs : List Block). bs ++ blocks_of image e (p ∷ [])) (h e low lows)
    ∙ sym (ap (blocks_of image e) (take_more placed i d lt ∙ ap (λ (q : Place). take i placed ++ q ∷ []) (sym is)) ∙ blocks_more image e (take i placed) p)

and_false : (b : Bool) → (b && false) ≡ false
and_false true = refl
and_false false = refl

-- a block that names no extent
pub puts_none : (image : Image) (p : Place) (z : ℤ) (old : BTreeMap ℕ (Vec (ℕ × ℕ) Global)) → (rec_at image p).extent_ofs ≡ z → None ≡ nat_in z → PutsBlock image p old old
puts_none image p (pos n) old is h e low lows = absurd cc
puts_none image p (negsuc n) old is h e low lows =
    let none : names_extent image e p ≡ false = ap (λ (z : ℤ). (p.0 == e.0) && is_pos z e.1) is ∙ and_false (p.0 == e.0) in
    sym (append_nil (blocks_in old e)) ∙ ap (λ (bs : List Block). blocks_in old e ++ bs) (sym (if_no (names_extent image e p) ((p.1, block_len image p) ∷ []) [] none))

pub nat_some : (z : ℤ) (a : ℕ) → Some a ≡ nat_in z → z ≡ pos a
nat_some (pos n) a e = let f : a ≡ n = cc in ap pos (sym f)
nat_some (negsuc n) a e = absurd cc

-- and one that names one
pub puts_there : (image : Image) (p : Place) (a len : ℕ) (old new : BTreeMap ℕ (Vec (ℕ × ℕ) Global)) → (rec_at image p).extent_ofs ≡ pos a → len ≡ block_len image p
    → ((e : Place) → e.0 < 2 ^ 32 → e.1 < 2 ^ 32 → blocks_in new e ≡ blocks_in old e ++ (if same (p.0, a) e then (p.1, len) ∷ [] else [])) → PutsBlock image p old new
puts_there image p a len old new is long put e low lows =
    let own : names_extent image e p ≡ same (p.0, a) e = ap (λ (z : ℤ). (p.0 == e.0) && is_pos z e.1) is in
    put e low lows ∙ (λ j. blocks_in old e ++ (if sym own j then (p.1, long j) ∷ [] else []))

-- ---- the first gap

pub gap_found : (r : Result (Option ℕ) AllocError) (image : Image) (e : Place) (from end : ℕ) (blocks : List Block) (map : BTreeMap ℕ (Vec (ℕ × ℕ) Global)) → from ≡ e.1 + 176 → end ≡ e.1 + ext_size image e → e.0 < 2 ^ 32 → e.1 < 2 ^ 32 → blocks ≡ blocks_in map e
    → IfOk r (λ gap. (bs : List Block) → IsPermutation blocks bs → IsRising bs → gap ≡ first_gap from bs end)
    → IfOk r (λ gap. (placed : List Place) → once placed ≡ true → HasBlocks image placed map → gap ≡ gap_at image placed e)
gap_found (Err x) image e from end blocks m f g low lows is h = tt
gap_found (Ok gap) image e from end blocks m f g low lows is h = λ placed once-placed held.
    let own : blocks ≡ blocks_of image e placed = is ∙ held e low lows in
    h (by_place (blocks_of image e placed)) (subst (λ (bs : List Block). IsPermutation bs (by_place (blocks_of image e placed))) (sym own) (by_place_permutation (blocks_of image e placed))) (blocks_rise image e placed once-placed)
    ∙ (λ j. first_gap (f j) (by_place (blocks_of image e placed)) (g j))

pub gap_none : (image : Image) (placed es : List Place) (i : ℕ) (d : Place) → i < length es → None ≡ gap_at image placed (get_or es i d) → first_gap_of image placed (drop i es) ≡ first_gap_of image placed (drop (i + 1) es)
gap_none image placed es i d lt e = ap (first_gap_of image placed) (drop_more es i d lt) ∙ ap (λ (o : Option ℕ). gap_or (get_or es i d) o (first_gap_of image placed (drop (i + 1) es))) (sym e)

pub gap_some : (image : Image) (placed es : List Place) (i a : ℕ) (d : Place) → i < length es → Some a ≡ gap_at image placed (get_or es i d) → first_gap_of image placed (drop i es) ≡ Some ((get_or es i d).0, a)
gap_some image placed es i a d lt e = ap (first_gap_of image placed) (drop_more es i d lt) ∙ ap (λ (o : Option ℕ). gap_or (get_or es i d) o (first_gap_of image placed (drop (i + 1) es))) (sym e)

-- ---- counts

abbrev pub node_counts : Image → Owner → List (List Place) → Bool
node_counts image o records = counts_right image (name_of image o.node) (details_at image o.node) o.extents (joined (take (length o.extents) records))

pub counts_here : {V W : Type 0} (g : V → Owner) (items : W → List Place) (image : Image) (vs : List V) (ws : List W) (i : ℕ) (v : V) → i < length vs → v ≡ get_or vs i v
    → count_questions image (map g (drop i vs)) (map items ws) ≡ asked (node_place (g v).node) (node_counts image (g v) (map items ws)) ∷ count_questions image (map g (drop (i + 1) vs)) (map items (drop (length (g v).extents) ws))
counts_here g items image vs ws i v lt e =
    ap (λ xs. count_questions image (map g xs) (map items ws)) (drop_more vs i v lt)
    ∙ ap (λ x. count_questions image (g x ∷ map g (drop (i + 1) vs)) (map items ws)) (sym e)
    ∙ ap (λ rs. asked (node_place (g v).node) (node_counts image (g v) (map items ws)) ∷ count_questions image (map g (drop (i + 1) vs)) rs) (drop-map items (length (g v).extents) ws)

-- the first node's test fails, or holds and leaves the others
module _ {V W : Type 0} (g : V → Owner) (items : W → List Place) (image : Image) (vs : List V) (ws : List W) (i : ℕ) (v : V) (lt : i < length vs) (own : v ≡ get_or vs i v) where
  own_test : (first : List W) → first ≡ take (length (g v).extents) ws → (b : Bool) → b ≡ counts_right image (name_of image (g v).node) (details_at image (g v).node) (g v).extents (joined (map items first)) → node_counts image (g v) (map items ws) ≡ b
  own_test first e b h = ap (λ pss. counts_right image (name_of image (g v).node) (details_at image (g v).node) (g v).extents (joined pss)) (take-map items (length (g v).extents) ws ∙ ap (map items) (sym e)) ∙ sym h

  pub counts_wrong : (first : List W) → first ≡ take (length (g v).extents) ws → (b : Bool) → b ≡ counts_right image (name_of image (g v).node) (details_at image (g v).node) (g v).extents (joined (map items first)) → b ≡ false
      → first_failing (count_questions image (map g (drop i vs)) (map items ws)) ≡ Some (node_place (g v).node)
  counts_wrong first e b h n =
      ap first_failing (counts_here g items image vs ws i v lt own)
      ∙ if_no (node_counts image (g v) (map items ws)) (first_failing (count_questions image (map g (drop (i + 1) vs)) (map items (drop (length (g v).extents) ws)))) (Some (node_place (g v).node)) (own_test first e b h ∙ n)

  pub counts_next : (first other : List W) → first ≡ take (length (g v).extents) ws → other ≡ drop (length (g v).extents) ws → (b : Bool) → b ≡ counts_right image (name_of image (g v).node) (details_at image (g v).node) (g v).extents (joined (map items first)) → b ≡ true
      → first_failing (count_questions image (map g (drop i vs)) (map items ws)) ≡ first_failing (count_questions image (map g (drop (i + 1) vs)) (map items other))
  counts_next first other e f b h y =
      ap first_failing (counts_here g items image vs ws i v lt own)
      ∙ if_yes (node_counts image (g v) (map items ws)) (first_failing (count_questions image (map g (drop (i + 1) vs)) (map items (drop (length (g v).extents) ws)))) (Some (node_place (g v).node)) (own_test first e b h ∙ y)
      ∙ ap (λ us. first_failing (count_questions image (map g (drop (i + 1) vs)) (map items us))) (sym f)

-- places of the first lists, and of those behind
pub joined_taken : (pss : List (List Place)) (n : ℕ) (p : Place) → has (joined (take n pss)) p ≡ true → has (joined pss) p ≡ true
joined_taken pss zero p h = absurd (false≢true h)
joined_taken [] (suc n) p h = h
joined_taken (ps ∷ pss) (suc n) p h = elim (has_either ps (joined (take n pss)) p h) [ inl i ↦ has_in ps (joined pss) p (inl i) | inr j ↦ has_in ps (joined pss) p (inr (joined_taken pss n p j)) ]

pub joined_dropped : (pss : List (List Place)) (n : ℕ) (p : Place) → has (joined (drop n pss)) p ≡ true → has (joined pss) p ≡ true
joined_dropped pss zero p h = h
joined_dropped [] (suc n) p h = h
joined_dropped (ps ∷ pss) (suc n) p h = has_in ps (joined pss) p (inr (joined_dropped pss n p h))

pub last_none : (xs : List Place) → length xs ≡ 0 → last_of xs ≡ None
last_none [] e = refl
last_none (x ∷ xs) e = absurd (omega (arith, e))

pub last_at : (xs : List Place) (n : ℕ) (d : Place) → n ≡ length xs → 0 < n → last_of xs ≡ Some (get_or xs (n - 1) d)
last_at xs n d e lt = by xs d (subst (λ (m : ℕ). 0 < m) e lt) ∙ ap (λ (m : ℕ). Some (get_or xs (m - 1) d)) (sym e)
  where
    by : (xs : List Place) (d : Place) → 0 < length xs → last_of xs ≡ Some (get_or xs (length xs - 1) d)
    by [] d lt = absurd (omega (arith, lt))
    by (x ∷ []) d lt = refl
    by (x ∷ y ∷ ys) d lt = by (y ∷ ys) d (omega arith) ∙ ap (λ (k : ℕ). Some (get_or (x ∷ y ∷ ys) k d)) (let e : suc (suc (length ys) - 1) ≡ suc (suc (length ys)) - 1 = omega arith in e)

-- sums that stop at the greatest number
pub min_more : (a b m : ℕ) → min (min a m + b) m ≡ min (a + b) m
min_more a b m = omega arith

pub is_pos_least : (z : ℤ) (m n big : ℕ) → n ≡ min m big → ((k : ℕ) → z ≡ pos k → k < big) → is_pos z n ≡ is_pos z m
is_pos_least (negsuc k) m n big e f = refl
is_pos_least (pos k) m n big e f =
    let lt = f k refl in
    elim (cases_Bool (k == m)) [
      | inl y ↦ ap (λ (x : ℕ). k == x) (e ∙ let s = eqb_true k m y in omega (arith, s, lt))
      | inr d ↦ eqb_false k n (λ s. false≢true (sym d ∙ eqb_of k m (omega (arith, s, e, lt)))) ∙ sym d
    ]
  where
    eqb_true : (a b : ℕ) → (a == b) ≡ true → a ≡ b
    eqb_true a b h = eqb-true a b h

    eqb_of : (a b : ℕ) → a ≡ b → (a == b) ≡ true
    eqb_of a b h = eq_of a b h

    eqb_false : (a b : ℕ) → (a ≡ b → ⊥) → (a == b) ≡ false
    eqb_false a b h = elim (cases_Bool (a == b)) [ inl y ↦ absurd (h (eqb-true a b y)) | inr n ↦ n ]
