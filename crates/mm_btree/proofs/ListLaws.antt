-- Laws of woven lists, of membership and of insertion.
use Rattle.std.proofs.lemmas.Bool.{or_parts, or_left, or_right, or_cases, false_from_ne_true}
use Rattle.mm_btree.proofs.Places.{place_eq-true, place_eq-is}
use Rattle.std.proofs.Common.{subst, ◌⊎◌, inl, inr, ◌≡◌, suc, Bool, true, false, ◌||◌, List, [], ◌∷◌, ◌++◌, length, cond, refl, sym, ap, ◌∙◌, append_assoc, arith}
use Rattle.mm_base.specs.declared.place.DiskLoc.{DiskLoc}
use Rattle.std.specs.List.{AllByRecursion}
use Rattle.mm_btree.specs.Lists.{front, back, weave, has, Distinct, ins, Sorted, BeginsAbove, Chains}
use Rattle.mm_btree.specs.Nodes.{place_eq}

-- what stands before the i-th list, the list, and what stands behind it
pub weave-at : {P : Type 0} (ls : List (List P)) (l : List P) (ms : List (List P)) (ps qs : List P) → length ls ≡ length ps → weave (ls ++ l ∷ ms) (ps ++ qs) ≡ front ls ps ++ (l ++ back ms qs)
weave-at [] l ms [] qs e = refl
weave-at [] l ms (p ∷ ps) qs e = absurd (omega (arith, e))
weave-at (k ∷ ls) l ms [] qs e = absurd (omega (arith, e))
weave-at (k ∷ ls) l ms (p ∷ ps) qs e = ap (λ xs. k ++ xs) (back-at ls l ms p ps qs (omega (arith, e))) ∙ sym (append_assoc k (p ∷ front ls ps) (l ++ back ms qs))
  where
    back-at : {P : Type 0} (ls : List (List P)) (l : List P) (ms : List (List P)) (p : P) (ps qs : List P) → length ls ≡ length ps → back (ls ++ l ∷ ms) (p ∷ (ps ++ qs)) ≡ p ∷ (front ls ps ++ (l ++ back ms qs))
    back-at [] l ms p [] qs e = refl
    back-at [] l ms p (r ∷ ps) qs e = absurd (omega (arith, e))
    back-at (k ∷ ls) l ms p [] qs e = absurd (omega (arith, e))
    back-at (k ∷ ls) l ms p (r ∷ ps) qs e = ap (λ xs. p ∷ (k ++ xs)) (back-at ls l ms r ps qs (omega (arith, e))) ∙ ap (λ xs. p ∷ xs) (sym (append_assoc k (r ∷ front ls ps) (l ++ back ms qs)))

-- a pair in the middle parts the lists in two
pub back-parts : {P : Type 0} (ls ms : List (List P)) (l : List P) (ps : List P) (p : P) (qs : List P) → length ls ≡ length ps → back (ls ++ l ∷ ms) (ps ++ p ∷ qs) ≡ back ls ps ++ p ∷ (l ++ back ms qs)
back-parts [] ms l [] p qs e = refl
back-parts [] ms l (r ∷ ps) p qs e = absurd (omega (arith, e))
back-parts (k ∷ ls) ms l [] p qs e = absurd (omega (arith, e))
back-parts (k ∷ ls) ms l (r ∷ ps) p qs e = ap (λ xs. r ∷ (k ++ xs)) (back-parts ls ms l ps p qs (omega (arith, e))) ∙ ap (λ xs. r ∷ xs) (sym (append_assoc k (back ls ps) (p ∷ (l ++ back ms qs))))

pub weave-parts : {P : Type 0} (ls ms : List (List P)) (ps : List P) (p : P) (qs : List P) → length ls ≡ suc (length ps) → length ms ≡ suc (length qs) → weave (ls ++ ms) (ps ++ p ∷ qs) ≡ weave ls ps ++ p ∷ weave ms qs
weave-parts [] ms ps p qs e f = absurd (omega (arith, e))
weave-parts (l ∷ ls) [] ps p qs e f = absurd (omega (arith, f))
weave-parts (l ∷ ls) (k ∷ ms) ps p qs e f = ap (λ xs. l ++ xs) (back-parts ls ms k ps p qs (omega (arith, e))) ∙ sym (append_assoc l (back ls ps) (p ∷ (k ++ back ms qs)))

-- ---- membership

pub has-append : (q : DiskLoc) (xs ys : List DiskLoc) → has q (xs ++ ys) ≡ (has q xs || has q ys)
has-append q [] ys = refl
has-append q (x ∷ xs) ys = rw (has-append q xs ys) (or_assoc (place_eq q x) (has q xs) (has q ys))
  where
    or_assoc : (a b c : Bool) → (a || (b || c)) ≡ ((a || b) || c)
    or_assoc true b c = refl
    or_assoc false b c = refl

-- ---- insertion

-- among what is not greater, and lists after it, it goes behind
pub ins-behind : {P : Type 0} (lt : P → P → Bool) (x : P) (xs ys : List P) → AllByRecursion (λ y. lt x y ≡ false) xs → ins lt x (xs ++ ys) ≡ xs ++ ins lt x ys
ins-behind lt x [] ys h = refl
ins-behind lt x (y ∷ xs) ys h = rw h.0 (ap (λ zs. y ∷ zs) (ins-behind lt x xs ys h.1))

-- before what begins with a greater one it goes in front
pub ins-before : {P : Type 0} (lt : P → P → Bool) (x : P) (xs ys : List P) → BeginsAbove lt x ys → ins lt x (xs ++ ys) ≡ ins lt x xs ++ ys
ins-before lt x [] [] h = refl
ins-before lt x [] (y ∷ ys) h = rw h refl
ins-before lt x (z ∷ xs) ys h = by (lt x z) (ins-before lt x xs ys h)
  where
    by : (b : Bool) → ins lt x (xs ++ ys) ≡ ins lt x xs ++ ys → cond b (x ∷ z ∷ (xs ++ ys)) (z ∷ ins lt x (xs ++ ys)) ≡ cond b (x ∷ z ∷ xs) (z ∷ ins lt x xs) ++ ys
    by true e = refl
    by false e = ap (λ zs. z ∷ zs) e

-- ---- sets of numbers

pub has-append-left : (q : DiskLoc) (xs ys : List DiskLoc) → has q (xs ++ ys) ≡ false → has q xs ≡ false
has-append-left q xs ys h = (or_parts (has q xs) (has q ys) (sym (has-append q xs ys) ∙ h)).0

pub has-append-right : (q : DiskLoc) (xs ys : List DiskLoc) → has q (xs ++ ys) ≡ false → has q ys ≡ false
has-append-right q xs ys h = (or_parts (has q xs) (has q ys) (sym (has-append q xs ys) ∙ h)).1

pub has-append-both : (q : DiskLoc) (xs ys : List DiskLoc) → has q xs ≡ false → has q ys ≡ false → has q (xs ++ ys) ≡ false
has-append-both q xs ys h k = has-append q xs ys ∙ or_from_false (has q xs) (has q ys) h k
  where
    or_from_false : (a b : Bool) → a ≡ false → b ≡ false → (a || b) ≡ false
    or_from_false a b e f = rw (e, f) refl

pub has-in_left : (q : DiskLoc) (xs ys : List DiskLoc) → has q xs ≡ true → has q (xs ++ ys) ≡ true
has-in_left q xs ys h = has-append q xs ys ∙ or_left (has q xs) (has q ys) h

pub has-in_right : (q : DiskLoc) (xs ys : List DiskLoc) → has q ys ≡ true → has q (xs ++ ys) ≡ true
has-in_right q xs ys h = has-append q xs ys ∙ or_right (has q xs) (has q ys) h

-- no number is in both
abbrev pub Apart : List DiskLoc → List DiskLoc → Type 0
Apart xs ys = (q : DiskLoc) → has q xs ≡ true → has q ys ≡ false

pub distinct-left : (xs ys : List DiskLoc) → Distinct (xs ++ ys) → Distinct xs
distinct-left [] ys d = tt
distinct-left (x ∷ xs) ys d = (has-append-left x xs ys d.0, distinct-left xs ys d.1)

pub distinct-right : (xs ys : List DiskLoc) → Distinct (xs ++ ys) → Distinct ys
distinct-right [] ys d = d
distinct-right (x ∷ xs) ys d = distinct-right xs ys d.1

pub distinct-apart : (xs ys : List DiskLoc) → Distinct (xs ++ ys) → Apart xs ys
distinct-apart [] ys d q h = cc
distinct-apart (x ∷ xs) ys d q h = by (or_cases (place_eq q x) (has q xs) h) (distinct-apart xs ys d.1 q)
  where
    by : ((place_eq q x ≡ true) ⊎ (has q xs ≡ true)) → (has q xs ≡ true → has q ys ≡ false) → has q ys ≡ false
    by (inl e) k = subst (λ (z : DiskLoc). has z ys ≡ false) (sym (place_eq-true q x e)) (has-append-right x xs ys d.0)
    by (inr e) k = k e

pub distinct-join : (xs ys : List DiskLoc) → Distinct xs → Distinct ys → Apart xs ys → Distinct (xs ++ ys)
distinct-join [] ys d e a = e
distinct-join (x ∷ xs) ys d e a = (
  has-append-both x xs ys d.0 (a x (or_left (place_eq x x) (has x xs) (place_eq-is x x refl))),
  distinct-join xs ys d.1 e (λ q h. a q (or_right (place_eq q x) (has q xs) h)),
)

-- ---- what stands in the middle of a woven list gives way

back-append : {P : Type 0} (ls ms : List (List P)) (ps qs : List P) → length ls ≡ length ps → back (ls ++ ms) (ps ++ qs) ≡ back ls ps ++ back ms qs
back-append [] ms [] qs e = refl
back-append [] ms (p ∷ ps) qs e = absurd (omega (arith, e))
back-append (l ∷ ls) ms [] qs e = absurd (omega (arith, e))
back-append (l ∷ ls) ms (p ∷ ps) qs e = ap (λ xs. p ∷ (l ++ xs)) (back-append ls ms ps qs (omega (arith, e))) ∙ ap (λ xs. p ∷ xs) (sym (append_assoc l (back ls ps) (back ms qs)))

pub weave-middle : {P : Type 0} (ls ds ms : List (List P)) (ps rs qs : List P) → length ls ≡ length ps → length ds ≡ suc (length rs)
    → weave (ls ++ (ds ++ ms)) (ps ++ (rs ++ qs)) ≡ front ls ps ++ (weave ds rs ++ back ms qs)
weave-middle ls [] ms ps rs qs e f = absurd (omega (arith, f))
weave-middle ls (d ∷ ds) ms ps rs qs e f =
    weave-at ls d (ds ++ ms) ps (rs ++ qs) e
    ∙ ap (λ xs. front ls ps ++ xs) (ap (λ xs. d ++ xs) (back-append ds ms rs qs (omega (arith, f))) ∙ sym (append_assoc d (back ds rs) (back ms qs)))

-- ---- order

pub all-left : {P : Type 0} (A : P → Type 0) (xs ys : List P) → AllByRecursion A (xs ++ ys) → AllByRecursion A xs
all-left A [] ys h = tt
all-left A (x ∷ xs) ys h = (h.0, all-left A xs ys h.1)

pub all-right : {P : Type 0} (A : P → Type 0) (xs ys : List P) → AllByRecursion A (xs ++ ys) → AllByRecursion A ys
all-right A [] ys h = h
all-right A (x ∷ xs) ys h = all-right A xs ys h.1

pub all-both : {P : Type 0} (A : P → Type 0) (xs ys : List P) → AllByRecursion A xs → AllByRecursion A ys → AllByRecursion A (xs ++ ys)
all-both A [] ys h k = k
all-both A (x ∷ xs) ys h k = (h.0, all-both A xs ys h.1 k)

pub sorted-left : {P : Type 0} (lt : P → P → Bool) (xs ys : List P) → Sorted lt (xs ++ ys) → Sorted lt xs
sorted-left lt [] ys s = tt
sorted-left lt (x ∷ xs) ys s = (all-left (λ y. lt x y ≡ true) xs ys s.0, sorted-left lt xs ys s.1)

pub sorted-right : {P : Type 0} (lt : P → P → Bool) (xs ys : List P) → Sorted lt (xs ++ ys) → Sorted lt ys
sorted-right lt [] ys s = s
sorted-right lt (x ∷ xs) ys s = sorted-right lt xs ys s.1

-- what stands before a pair that isn't greater isn't greater either
before-pair : {P : Type 0} (lt : P → P → Bool) → Chains lt → (x : P) (p : P) (xs ys : List P) → Sorted lt (xs ++ p ∷ ys) → lt x p ≡ false → AllByRecursion (λ y. lt x y ≡ false) xs
before-pair lt ch x p [] ys s e = tt
before-pair lt ch x p (y ∷ xs) ys s e =
    let less : lt y p ≡ true = (all-right (λ z. lt y z ≡ true) xs (p ∷ ys) s.0).0 in
    (false_from_ne_true (lt x y) (λ f. let three = ch x y p f less in cc), before-pair lt ch x p xs ys s.1 e)

pub front-before : {P : Type 0} (lt : P → P → Bool) → Chains lt → (x : P) (ls : List (List P)) (ps : List P) (rest : List P) → length ls ≡ length ps → Sorted lt (front ls ps ++ rest)
    → AllByRecursion (λ p. lt x p ≡ false) ps → AllByRecursion (λ y. lt x y ≡ false) (front ls ps)
front-before lt ch x [] [] rest e s h = tt
front-before lt ch x [] (p ∷ ps) rest e s h = absurd (omega (arith, e))
front-before lt ch x (l ∷ ls) [] rest e s h = absurd (omega (arith, e))
front-before lt ch x (l ∷ ls) (p ∷ ps) rest e s h =
    let s2 : Sorted lt (l ++ p ∷ (front ls ps ++ rest)) = subst (Sorted lt) (append_assoc l (p ∷ front ls ps) rest) s in
    all-both (λ y. lt x y ≡ false) l (p ∷ front ls ps) (before-pair lt ch x p l (front ls ps ++ rest) s2 h.0)
    (h.0, front-before lt ch x ls ps rest (omega (arith, e)) (sorted-right lt l (p ∷ (front ls ps ++ rest)) s2).1 h.1)

pub back-begins : {P : Type 0} (lt : P → P → Bool) (x : P) (ls : List (List P)) (ps : List P) → length ls ≡ length ps → BeginsAbove lt x ps → BeginsAbove lt x (back ls ps)
back-begins lt x [] ps e h = h
back-begins lt x (l ∷ ls) [] e h = absurd (omega (arith, e))
back-begins lt x (l ∷ ls) (p ∷ ps) e h = h
