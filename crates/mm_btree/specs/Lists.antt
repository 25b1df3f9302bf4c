-- Lists that are joined through pairs, places in a list, and a list in order.
use Rattle.std.specs.Prelude.{◌≡◌, Bool, true, false, ◌||◌, List, [], ◌∷◌, ◌++◌, cond}
use Rattle.std.specs.List.{AllByRecursion}
use Rattle.mm_base.specs.declared.place.DiskLoc.{DiskLoc}
use Rattle.mm_btree.specs.Nodes.{place_eq}

-- each list with the pair after it
abbrev pub front : {P : Type 0} → List (List P) → List P → List P
front [] ps = []
front (l ∷ ls) [] = l
front (l ∷ ls) (p ∷ ps) = l ++ p ∷ front ls ps

-- each pair with the list after it
abbrev pub back : {P : Type 0} → List (List P) → List P → List P
back [] ps = ps
back (l ∷ ls) [] = l
back (l ∷ ls) (p ∷ ps) = p ∷ (l ++ back ls ps)

-- Lists with a pair between each two. With no list, the pairs alone.
abbrev pub weave : {P : Type 0} → List (List P) → List P → List P
weave [] ps = ps
weave (l ∷ ls) ps = l ++ back ls ps

abbrev pub has : DiskLoc → List DiskLoc → Bool
has q [] = false
has q (x ∷ xs) = place_eq q x || has q xs

-- no place stands twice
abbrev pub Distinct : List DiskLoc → Type 0
Distinct [] = Unit {0}
Distinct (x ∷ xs) = (has x xs ≡ false) × Distinct xs

-- x in its place, before the first that is greater
abbrev pub ins : {P : Type 0} → (P → P → Bool) → P → List P → List P
ins lt x [] = x ∷ []
ins lt x (y ∷ ys) = cond (lt x y) (x ∷ y ∷ ys) (y ∷ ins lt x ys)

-- each is less than those behind it
abbrev pub Sorted : {P : Type 0} → (P → P → Bool) → List P → Type 0
Sorted lt [] = Unit {0}
Sorted lt (x ∷ xs) = AllByRecursion (λ y. lt x y ≡ true) xs × Sorted lt xs

abbrev pub BeginsAbove : {P : Type 0} → (P → P → Bool) → P → List P → Type 0
BeginsAbove lt x [] = Unit {0}
BeginsAbove lt x (y ∷ ys) = lt x y ≡ true

-- one order after another
abbrev pub Chains : {P : Type 0} → (P → P → Bool) → Type 0
Chains {P} lt = (x y z : P) → lt x y ≡ true → lt y z ≡ true → lt x z ≡ true

-- one of two that differ is less
abbrev pub Told : {P : Type 0} → (P → P → Bool) → P → P → Type 0
Told lt x y = lt x y ≡ false → lt y x ≡ true
