-- What loops make, element by element.
use Rattle.std.proofs.Common.{◌≡◌, ℕ, zero, suc, ◌+◌, ◌-◌, ◌<◌, ◌≤◌, ◌^◌, true, false, List, [], ◌∷◌, ◌++◌, length, map, take, get_or, refl, sym, ◌∙◌, ap, subst, arith, append_assoc}
use Rattle.std.specs.Prelude.{is_some, flat_map}
use Rattle.std.specs.FinMap.{get}
use Rattle.std.specs.Ordering.{nat_cmp}
use Rattle.std.specs.BTreeSet.{BTreeSet, Updates}
use Rattle.std.proofs.lemmas.List.{take_more, take_all, map-append}
use Rattle.mm_ranges.specs.Overlay.{Image}
use Rattle.mm_nstable.specs.Nodes.{is_used}
use Rattle.mm_links.specs.Links.{Place, has}
use Rattle.mm_links.proofs.LinkLaws.{same_of, has_here, has_more}
use Rattle.mm_walk.specs.Walk.{Knows, key}
use Rattle.mm_walk.proofs.WalkLaws.{knows_push}
use Rattle.mm_check.specs.Findings.{joined, files_from, used_from}
use Rattle.mm_check.proofs.RecordLaws.{if_yes, if_no}

-- a list grows by the value of one more of another
pub pushed_map : {X Y Z : Type 0} (f : X → Z) (g : Y → Z) (xs xs' : List X) (ys : List Y) (i : ℕ) (x : X) (y d : Y) → map f xs ≡ map g (take i ys) → i < length ys → y ≡ get_or ys i d → xs' ≡ xs ++ x ∷ [] → f x ≡ g y → map f xs' ≡ map g (take (i + 1) ys)
pushed_map f g xs xs' ys i x y d e lt is more same =
    ap (map f) more ∙ map-append f xs (x ∷ []) ∙ (λ j. e j ++ same j ∷ []) ∙ ap (λ z. map g (take i ys) ++ g z ∷ []) is
    ∙ sym (ap (map g) (take_more ys i d lt) ∙ map-append g (take i ys) (get_or ys i d ∷ []))

-- and in the end by all of them
pub mapped_all : {X Y Z : Type 0} (f : X → Z) (g : Y → Z) (xs : List X) (ys : List Y) (i : ℕ) → map f xs ≡ map g (take i ys) → length ys ≤ i → map f xs ≡ map g ys
mapped_all f g xs ys i e le = e ∙ ap (map g) (take_all i ys le)

-- a list that is put together takes the first of what is left
pub put_first : {X : Type 0} (xs xs' rest rest' all : List X) (x : X) → xs ++ rest ≡ all → rest ≡ x ∷ rest' → xs' ≡ xs ++ x ∷ [] → xs' ++ rest' ≡ all
put_first xs xs' rest rest' all x e r more = ap (λ ys. ys ++ rest') more ∙ append_assoc xs (x ∷ []) rest' ∙ ap (λ ys. xs ++ ys) (sym r) ∙ e

pub put_none : {X : Type 0} (xs rest rest' all : List X) → xs ++ rest ≡ all → rest ≡ rest' → xs ++ rest' ≡ all
put_none xs rest rest' all e r = ap (λ ys. xs ++ ys) (sym r) ∙ e

pub append_nil : {X : Type 0} (xs : List X) → xs ++ [] ≡ xs
append_nil [] = refl
append_nil (x ∷ xs) = ap (λ ys. x ∷ ys) (append_nil xs)

-- ---- places

pub joined_more : (pss : List (List Place)) (ps : List Place) → joined (pss ++ ps ∷ []) ≡ joined pss ++ ps
joined_more [] ps = append_nil ps
joined_more (qs ∷ pss) ps = ap (λ ys. qs ++ ys) (joined_more pss ps) ∙ sym (append_assoc qs (joined pss) ps)

pub flat_more : {X : Type 0} (f : X → List Place) (xs : List X) (x : X) → flat_map f (xs ++ x ∷ []) ≡ flat_map f xs ++ f x
flat_more f [] x = append_nil (f x)
flat_more f (y ∷ xs) x = ap (λ ys. f y ++ ys) (flat_more f xs x) ∙ sym (append_assoc (f y) (flat_map f xs) (f x))

pub joined_next : {V : Type 0} (items : V → List Place) (all all' : List Place) (vs : List V) (i : ℕ) (v d : V) → all ≡ joined (map items (take i vs)) → i < length vs → v ≡ get_or vs i d → all' ≡ all ++ items v → all' ≡ joined (map items (take (i + 1) vs))
joined_next items all all' vs i v d e lt is more =
    more ∙ (λ j. e j ++ items (is j)) ∙ sym (ap joined (ap (map items) (take_more vs i d lt) ∙ map-append items (take i vs) (get_or vs i d ∷ [])) ∙ joined_more (map items (take i vs)) (items (get_or vs i d)))

pub flat_next : {V : Type 0} (f : V → List Place) (all all' : List Place) (vs : List V) (i : ℕ) (v d : V) → all ≡ flat_map f (take i vs) → i < length vs → v ≡ get_or vs i d → all' ≡ all ++ f v → all' ≡ flat_map f (take (i + 1) vs)
flat_next f all all' vs i v d e lt is more = more ∙ (λ j. e j ++ f (is j)) ∙ sym (ap (flat_map f) (take_more vs i d lt) ∙ flat_more f (take i vs) (get_or vs i d))

-- the set knows one more
pub known_next : (set new : BTreeSet ℕ) (ps : List Place) (i : ℕ) (p d : Place) → Knows set (take i ps) → i < length ps → p ≡ get_or ps i d → p.1 < 2 ^ 32 → Updates nat_cmp set new (key p) true → Knows new (take (i + 1) ps)
known_next set new ps i p d k lt is small u =
    subst (λ (xs : List Place). Knows new xs) (append_nil (take i ps ++ p ∷ []) ∙ ap (λ (q : Place). take i ps ++ q ∷ []) is ∙ sym (take_more ps i d lt))
    (knows_push set new [] (take i ps) p small (subst (λ (xs : List Place). Knows set xs) (sym (append_nil (take i ps))) k) u)

-- ---- files and nodes, by number

pub files_there : (image : Image) (k : ℕ) → k < 8 → is_some (get image k) ≡ true → files_from image k (8 - k) ≡ k ∷ files_from image (k + 1) (8 - (k + 1))
files_there image k lt there =
    let e : 8 - k ≡ suc (7 - k) = omega (arith, lt) in
    let f : 8 - (k + 1) ≡ 7 - k = omega (arith, lt) in
    let g : k + 1 ≡ suc k = omega arith in
    ap (files_from image k) e ∙ if_yes (is_some (get image k)) (k ∷ files_from image (suc k) (7 - k)) (files_from image (suc k) (7 - k)) there ∙ (λ i. k ∷ files_from image (sym g i) (sym f i))

pub file_absent : (image : Image) (k : ℕ) → k < 8 → is_some (get image k) ≡ false → files_from image k (8 - k) ≡ files_from image (k + 1) (8 - (k + 1))
file_absent image k lt there =
    let e : 8 - k ≡ suc (7 - k) = omega (arith, lt) in
    let f : 8 - (k + 1) ≡ 7 - k = omega (arith, lt) in
    let g : k + 1 ≡ suc k = omega arith in
    ap (files_from image k) e ∙ if_no (is_some (get image k)) (k ∷ files_from image (suc k) (7 - k)) (files_from image (suc k) (7 - k)) there ∙ (λ i. files_from image (sym g i) (sym f i))

pub used_there : (bytes : List ℕ) (n k : ℕ) → k < n → is_used bytes k ≡ true → used_from bytes k (n - k) ≡ k ∷ used_from bytes (k + 1) (n - (k + 1))
used_there bytes n k lt there =
    let e : n - k ≡ suc (n - suc k) = omega (arith, lt) in
    let f : n - (k + 1) ≡ n - suc k = omega arith in
    let g : k + 1 ≡ suc k = omega arith in
    ap (used_from bytes k) e ∙ if_yes (is_used bytes k) (k ∷ used_from bytes (suc k) (n - suc k)) (used_from bytes (suc k) (n - suc k)) there ∙ (λ i. k ∷ used_from bytes (sym g i) (sym f i))

pub used_absent : (bytes : List ℕ) (n k : ℕ) → k < n → is_used bytes k ≡ false → used_from bytes k (n - k) ≡ used_from bytes (k + 1) (n - (k + 1))
used_absent bytes n k lt there =
    let e : n - k ≡ suc (n - suc k) = omega (arith, lt) in
    let f : n - (k + 1) ≡ n - suc k = omega arith in
    let g : k + 1 ≡ suc k = omega arith in
    ap (used_from bytes k) e ∙ if_no (is_used bytes k) (k ∷ used_from bytes (suc k) (n - suc k)) (used_from bytes (suc k) (n - suc k)) there ∙ (λ i. used_from bytes (sym g i) (sym f i))

-- past the last number none is left
pub none_left : {X : Type 0} (xs rest all : List X) → xs ++ rest ≡ all → rest ≡ [] → xs ≡ all
none_left xs rest all e r = sym (append_nil xs) ∙ ap (λ ys. xs ++ ys) (sym r) ∙ e

pub flat_mapped : {X Y : Type 0} (f : Y → List Place) (g : X → Y) (xs : List X) → flat_map f (map g xs) ≡ flat_map (λ x. f (g x)) xs
flat_mapped f g [] = refl
flat_mapped f g (x ∷ xs) = ap (λ ys. f (g x) ++ ys) (flat_mapped f g xs)

-- an item of a list is there
pub item_has : (xs : List Place) (i : ℕ) (p d : Place) → i < length xs → p ≡ get_or xs i d → has xs p ≡ true
item_has [] i p d lt e = absurd (omega (arith, lt))
item_has (x ∷ xs) zero p d lt e = has_here x xs p (same_of x p (sym e))
item_has (x ∷ xs) (suc i) p d lt e = has_more x xs p (item_has xs i p d (omega (arith, lt)) e)
