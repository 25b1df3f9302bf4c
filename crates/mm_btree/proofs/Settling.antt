-- A bucket that gets new pairs and subtrees is written as one, or is parted in two.
use Rattle.std.proofs.lemmas.Bool.{or_parts, false_from_ne_true}
use Rattle.mm_btree.proofs.Places.{place_eq-true, place_eq-is, place_differ}
use Rattle.std.proofs.lemmas.List.Concat.{flat_map-append}
use Rattle.std.proofs.lemmas.List.{take-append-drop, length-take-le, map-append, length-map, length-append, length-drop}
use Rattle.std.proofs.Common.{◌≡◌, ◌≢◌, ℕ, zero, suc, ◌+◌, ◌≤◌, Bool, true, false, ◌||◌, List, [], ◌∷◌, ◌++◌, length, map, take, drop, Some, None, refl, sym, ap, ◌∙◌, subst, arith}
use Rattle.mm_base.specs.declared.place.DiskLoc.{DiskLoc}
use Rattle.std.specs.List.{AllByRecursion}
use Rattle.mm_btree.specs.Nodes.{Item, place_eq, Buckets, put}
use Rattle.mm_btree.specs.Changes.{adopted, parts_map}
use Rattle.mm_btree.specs.Lists.{weave, has, Distinct}
use Rattle.mm_btree.specs.Trees.{Sub, at_of, pairs_of, places_of, all_places, Stands, Moves, Became, Below, sub, Pending}
use Rattle.mm_btree.proofs.ListLaws.{has-append, has-append-left, has-append-right, has-append-both, distinct-apart, distinct-left, distinct-right, distinct-join, weave-parts}
use Rattle.mm_btree.proofs.Frames.{stands, below_same, below_some, all_adopted, roots_in}
use Rattle.mm_btree.proofs.Moved.{moves_then, all-left, all-right}

append-nil : {P : Type 0} (xs : List P) → xs ++ [] ≡ xs
append-nil [] = refl
append-nil (x ∷ xs) = ap (λ ys. x ∷ ys) (append-nil xs)

pub settled_one : (m n n2 : Buckets) (up at : DiskLoc) (h : ℕ) (old : List DiskLoc) (list ps : List Item) (cs : List Sub) → 1 ≤ length ps → Pending m n at h old list ps cs
    → ((q : DiskLoc) → n2 q ≡ put n at (Some (record { parent = up; pairs = ps; kids = map at_of cs })) q)
    → Became m n2 up h old list (at ∷ []) [] (sub at ps cs ∷ [])
settled_one m n n2 up at h old list ps cs some p same = record {
  placed = refl;
  stand = (
    stands n2 up 1 h (sub at ps cs) ps cs (record { bucket = same at ∙ rw (place_eq-is at at refl) refl; pairs = refl; places = refl; some = some })
        (below_same n n2 at h ps cs (λ q k. same q ∙ rw (away q k) refl) p.below),
    tt,
  );
  pairs = append-nil (weave (map pairs_of cs) ps) ∙ p.woven;
  apart = subst Distinct (sym (append-nil (at ∷ all_places cs))) p.apart;
  moved = subst (λ (xs : List DiskLoc). Moves m n2 old xs) (sym (append-nil (at ∷ all_places cs)))
      (moves_then m n n2 old (at ∷ all_places cs) (at ∷ all_places cs) p.moved (λ q k. same q ∙ rw (or_parts (place_eq q at) (has q (all_places cs)) k).0 refl) (λ q k. k) (λ q k l. absurd cc));
}
  where
    away : (q : DiskLoc) → has q (all_places cs) ≡ true → place_eq q at ≡ false
    away q k = place_differ q at (λ e. let two : has at (all_places cs) ≡ true = subst (λ (z : DiskLoc). has z (all_places cs) ≡ true) e k in let three = p.apart.0 in cc)

-- ---- parted in two

pub record Parted (n : Buckets) (at : DiskLoc) (h : ℕ) (ps : List Item) (mid : Item) (qs : List Item) (cs left right : List Sub) : Type 0 where
  pub join : left ++ right ≡ cs
  pub below_left : Below n at h ps left
  pub below_right : Below n at h qs right
  pub woven : weave (map pairs_of cs) (ps ++ mid ∷ qs) ≡ weave (map pairs_of left) ps ++ mid ∷ weave (map pairs_of right) qs

pub parted : (n : Buckets) (at : DiskLoc) (h : ℕ) (ps : List Item) (mid : Item) (qs : List Item) (cs : List Sub) → Below n at h (ps ++ mid ∷ qs) cs
    → Parted n at h ps mid qs cs (take (suc (length ps)) cs) (drop (suc (length ps)) cs)
parted n at zero ps mid qs cs t =
    let P : List Sub → Type 0 = λ xs. Parted n at zero ps mid qs xs (take (suc (length ps)) xs) (drop (suc (length ps)) xs) in
    subst P (sym t) (record { join = refl; below_left = refl; below_right = refl; woven = refl })
parted n at (suc h) ps mid qs cs t =
    let k = suc (length ps) in
    let e = take-append-drop k cs in
    let lens : length (ps ++ mid ∷ qs) ≡ length ps + suc (length qs) = length-append ps (mid ∷ qs) in
    let both : length (take k cs) ≡ k = length-take-le k cs (omega (arith, lens, t.0)) in
    let rest : length (drop k cs) ≡ suc (length qs) = omega (arith, lens, t.0, length-drop k cs) in
    let all = subst (AllByRecursion (Stands n at 1 h)) (sym e) t.1 in
    record {
      join = e;
      below_left = (both, all-left (Stands n at 1 h) (take k cs) (drop k cs) all);
      below_right = (rest, all-right (Stands n at 1 h) (take k cs) (drop k cs) all);
      woven =
          ap (λ xs. weave (map pairs_of xs) (ps ++ mid ∷ qs)) (sym e)
          ∙ (ap (λ xs. weave xs (ps ++ mid ∷ qs)) (map-append pairs_of (take k cs) (drop k cs))
          ∙ weave-parts (map pairs_of (take k cs)) (map pairs_of (drop k cs)) ps mid qs
          (length-map (take k cs) pairs_of ∙ both) (length-map (drop k cs) pairs_of ∙ rest));
    }

more_with : (at r : DiskLoc) (xs ys : List DiskLoc) (q : DiskLoc) → has q (at ∷ (xs ++ ys)) ≡ true → has q ((at ∷ xs) ++ (r ∷ ys)) ≡ true
more_with at r xs ys q e =
    ap (λ b. place_eq q at || b) (has-append q xs (r ∷ ys))
    ∙ by (place_eq q at) (has q xs) (place_eq q r) (has q ys) (ap (λ b. place_eq q at || b) (sym (has-append q xs ys)) ∙ e)
  where
    by : (a b c d : Bool) → (a || (b || d)) ≡ true → (a || (b || (c || d))) ≡ true
    by true b c d e = refl
    by false true c d e = refl
    by false false true d e = refl
    by false false false d e = e

new_one : (at r : DiskLoc) (xs ys : List DiskLoc) (q : DiskLoc) → has q (at ∷ (xs ++ ys)) ≡ false → has q ((at ∷ xs) ++ (r ∷ ys)) ≡ true → place_eq q r ≡ true
new_one at r xs ys q e f =
    by (place_eq q at) (has q xs) (place_eq q r) (has q ys) (ap (λ b. place_eq q at || b) (sym (has-append q xs ys)) ∙ e) (ap (λ b. place_eq q at || b) (sym (has-append q xs (r ∷ ys))) ∙ f)
  where
    by : (a b c d : Bool) → (a || (b || d)) ≡ false → (a || (b || (c || d))) ≡ true → c ≡ true
    by true b c d e f = absurd cc
    by false true c d e f = absurd cc
    by false false true d e f = refl
    by false false false d e f = absurd cc

pub settled_two : (m n n2 : Buckets) (up at r : DiskLoc) (h : ℕ) (old : List DiskLoc) (list ps : List Item) (mid : Item) (qs : List Item) (cs : List Sub) → 1 ≤ length ps → 1 ≤ length qs
    → Pending m n at h old list (ps ++ mid ∷ qs) cs → n at ≢ None → n r ≡ None
    → ((q : DiskLoc) → n2 q ≡ parts_map n up at r ps (map at_of (take (suc (length ps)) cs)) qs (map at_of (drop (suc (length ps)) cs)) q)
    → Became m n2 up h old list (at ∷ r ∷ []) (mid ∷ []) (sub at ps (take (suc (length ps)) cs) ∷ sub r qs (drop (suc (length ps)) cs) ∷ [])
settled_two m n n2 up at r h old list ps mid qs cs some more p there free same =
    let k = suc (length ps) in
    let L = take k cs in
    let R = drop k cs in
    let AL = all_places L in
    let AR = all_places R in
    let t = parted n at h ps mid qs cs p.below in
    let whole : all_places cs ≡ AL ++ AR = ap all_places (sym t.join) ∙ flat_map-append places_of L R in
    let d : Distinct (AL ++ AR) = subst Distinct whole p.apart.1 in
    let lr = distinct-apart AL AR d in
    let at_out : has at (AL ++ AR) ≡ false = sym (ap (has at) whole) ∙ p.apart.0 in
    let atL : has at AL ≡ false = has-append-left at AL AR at_out in
    let atR : has at AR ≡ false = has-append-right at AL AR at_out in
    let rL : has r AL ≡ false = false_from_ne_true (has r AL) (λ e. below_some n at h ps L t.below_left r e free) in
    let rR : has r AR ≡ false = false_from_ne_true (has r AR) (λ e. below_some n at h qs R t.below_right r e free) in
    let two : place_eq r at ≡ false = place_differ r at (λ e. there (subst (λ (z : DiskLoc). n z ≡ None) e free)) in
    let two_back : place_eq at r ≡ false = place_differ at r (λ e. there (subst (λ (z : DiskLoc). n z ≡ None) (sym e) free)) in
    let not_kid : (q : DiskLoc) → has q AR ≡ false → has q (map at_of R) ≡ false = λ q f. false_from_ne_true (has q (map at_of R)) (λ e. let in_r = kids_in n at h qs R t.below_right q e in cc) in
    let left = below_same n n2 at h ps L (λ q e. same q ∙ rw (not_kid q (lr q e), apart_from at q AL atL e, apart_from r q AL rL e) refl) t.below_left in
    let right = below_adopted n n2 at r h qs R (distinct-right AL AR d) (λ q e. same q ∙ rw (apart_from at q AR atR e, apart_from r q AR rR e) refl) t.below_right in
    record {
      placed = refl;
      stand = (
        stands n2 up 1 h (sub at ps L) ps L (record { bucket = same at ∙ rw (not_kid at atR, place_eq-is at at refl) refl; pairs = refl; places = refl; some = some }) left,
        (stands n2 up 1 h (sub r qs R) qs R (record { bucket = same r ∙ rw (not_kid r rR, two, place_eq-is r r refl) refl; pairs = refl; places = refl; some = more }) right, tt),
      );
      pairs = ap (λ xs. weave (map pairs_of L) ps ++ mid ∷ xs) (append-nil (weave (map pairs_of R) qs)) ∙ (sym t.woven ∙ p.woven);
      apart = subst (λ (xs : List DiskLoc). Distinct ((at ∷ AL) ++ xs)) (sym (append-nil (r ∷ AR))) (
        has-append-both at AL (r ∷ AR) atL (rw (two_back, atR) refl),
        distinct-join AL (r ∷ AR) (distinct-left AL AR d) (rR, distinct-right AL AR d) (λ q e. rw (apart_from r q AL rL e, lr q e) refl),
      );
      moved = subst (λ (xs : List DiskLoc). Moves m n2 old ((at ∷ AL) ++ xs)) (sym (append-nil (r ∷ AR)))
          (moves_then m n n2 old (at ∷ all_places cs) ((at ∷ AL) ++ (r ∷ AR)) p.moved
          (λ q e.
          let a = or_parts (place_eq q at) (has q (AL ++ (r ∷ AR))) e in
          let b = or_parts (place_eq q r) (has q AR) (has-append-right q AL (r ∷ AR) a.1) in
          same q ∙ rw (not_kid q b.1, a.0, b.0) refl)
          (λ q e. more_with at r AL AR q (ap (λ xs. has q (at ∷ xs)) (sym whole) ∙ e))
          (λ q e f. subst (λ (z : DiskLoc). n z ≡ None) (sym (place_eq-true q r (new_one at r AL AR q (ap (λ xs. has q (at ∷ xs)) (sym whole) ∙ e) f))) free));
    }
  where
    kids_in : (n : Buckets) (at : DiskLoc) (h : ℕ) (ps : List Item) (cs : List Sub) → Below n at h ps cs → (q : DiskLoc) → has q (map at_of cs) ≡ true → has q (all_places cs) ≡ true
    kids_in n at zero ps cs t q e = let none : has q (map at_of []) ≡ true = subst (λ (xs : List Sub). has q (map at_of xs) ≡ true) t e in absurd cc
    kids_in n at (suc h) ps cs t q e = roots_in n at h cs t.1 q e

    apart_from : (x q : DiskLoc) (xs : List DiskLoc) → has x xs ≡ false → has q xs ≡ true → place_eq q x ≡ false
    apart_from x q xs out e = place_differ q x (λ f. let within : has x xs ≡ true = subst (λ (z : DiskLoc). has z xs ≡ true) f e in cc)

    below_adopted : (n n2 : Buckets) (at r : DiskLoc) (h : ℕ) (ps : List Item) (cs : List Sub) → Distinct (all_places cs) → ((q : DiskLoc) → has q (all_places cs) ≡ true → n2 q ≡ adopted n (map at_of cs) r q) → Below n at h ps cs → Below n2 r h ps cs
    below_adopted n n2 at r zero ps cs d same t = t
    below_adopted n n2 at r (suc h) ps cs d same t = (t.0, all_adopted n n2 at r h cs d t.1 same)
