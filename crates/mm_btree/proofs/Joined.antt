-- Two neighbours and the pair between them, as one bucket that waits to be written: it fits whole, or is parted anew.
use Rattle.std.proofs.lemmas.Bool.{or_parts, or_right, false_from_ne_true}
use Rattle.mm_btree.proofs.Places.{place_eq-is, place_differ}
use Rattle.std.proofs.lemmas.List.Concat.{flat_map-append}
use Rattle.std.proofs.lemmas.List.{length-map, length-append, map-append, take-map, drop-map}
use Rattle.std.proofs.Common.{◌≡◌, ◌≢◌, ℕ, zero, suc, Bool, true, false, ◌||◌, List, [], ◌∷◌, ◌++◌, length, map, take, drop, Option, Some, None, refl, sym, ap, ◌∙◌, subst, arith}
use Rattle.mm_base.specs.declared.place.DiskLoc.{DiskLoc}
use Rattle.mm_btree.specs.Nodes.{Item, place_eq, Node, Buckets, put}
use Rattle.mm_btree.specs.Changes.{adopted, freed, parts_map, IsRejoined, roots_joined, between_joined}
use Rattle.mm_btree.specs.Lists.{weave, has, Distinct}
use Rattle.mm_btree.specs.Trees.{Sub, at_of, pairs_of, places_of, all_places, IsOver, Stands, Moves, Became, Below, sub, Pending}
use Rattle.mm_btree.proofs.ListLaws.{has-append, has-append-left, has-append-right, has-append-both, distinct-apart, distinct-left, distinct-right, distinct-join, weave-parts}
use Rattle.mm_btree.proofs.Frames.{opened, all_adopted, all_stand_same, roots_in}
use Rattle.mm_btree.proofs.Moved.{all-append}
use Rattle.mm_btree.proofs.Settling.{settled_one, settled_two}

pub kids_within : (m : Buckets) (at : DiskLoc) (h : ℕ) (ps : List Item) (cs : List Sub) → Below m at h ps cs → (q : DiskLoc) → has q (map at_of cs) ≡ true → has q (all_places cs) ≡ true
kids_within m at zero ps cs t q e = let none : has q (map at_of []) ≡ true = subst (λ (xs : List Sub). has q (map at_of xs) ≡ true) t e in absurd cc
kids_within m at (suc h) ps cs t q e = roots_in m at h cs t.1 q e

below_joined : (m n : Buckets) (l r : DiskLoc) (h : ℕ) (mid : Item) (ps qs : List Item) (cs ds : List Sub) → Below m l h ps cs → Below m r h qs ds → Distinct (all_places ds)
    → ((q : DiskLoc) → has q (all_places cs) ≡ true → n q ≡ m q) → ((q : DiskLoc) → has q (all_places ds) ≡ true → n q ≡ adopted m (map at_of ds) l q)
    → Below n l h (ps ++ mid ∷ qs) (cs ++ ds)
below_joined m n l r zero mid ps qs cs ds t u d same moved = ap (λ xs. xs ++ ds) t ∙ u
below_joined m n l r (suc h) mid ps qs cs ds t u d same moved = (
  omega (arith, t.0, u.0, length-append cs ds, length-append ps (mid ∷ qs)),
  all-append (Stands n l 1 h) cs ds (all_stand_same m n l h cs same t.1) (all_adopted m n r l h ds d u.1 moved),
)

woven_joined : (m : Buckets) (l r : DiskLoc) (h : ℕ) (mid : Item) (ps qs : List Item) (cs ds : List Sub) → Below m l h ps cs → Below m r h qs ds
    → weave (map pairs_of (cs ++ ds)) (ps ++ mid ∷ qs) ≡ weave (map pairs_of cs) ps ++ mid ∷ weave (map pairs_of ds) qs
woven_joined m l r zero mid ps qs cs ds t u =
    let P : List Sub → List Sub → Type 0 = λ xs ys. weave (map pairs_of (xs ++ ys)) (ps ++ mid ∷ qs) ≡ weave (map pairs_of xs) ps ++ mid ∷ weave (map pairs_of ys) qs in
    subst (λ xs. P xs ds) (sym t) (subst (λ ys. P [] ys) (sym u) refl)
woven_joined m l r (suc h) mid ps qs cs ds t u =
    ap (λ xs. weave xs (ps ++ mid ∷ qs)) (map-append pairs_of cs ds)
    ∙ weave-parts (map pairs_of cs) (map pairs_of ds) ps mid qs (length-map cs pairs_of ∙ t.0) (length-map ds pairs_of ∙ u.0)

pub joined : (m n : Buckets) (up : DiskLoc) (h : ℕ) (mid : Item) (a b : ℕ) (l r : Sub) (ps qs : List Item) (cs ds : List Sub)
    → IsOver m up a l ps cs → Below m l.at h ps cs → IsOver m up b r qs ds → Below m r.at h qs ds → Distinct (l.places ++ r.places)
    → ((q : DiskLoc) → n q ≡ freed m l.at r.at (map at_of ds) q)
    → Pending m n l.at h (l.places ++ r.places) (l.pairs ++ mid ∷ r.pairs) (ps ++ mid ∷ qs) (cs ++ ds)
joined m n up h mid a b l r ps qs cs ds lb lt rb rt d same =
    let A = all_places cs in
    let B = all_places ds in
    let d2 : Distinct ((l.at ∷ A) ++ (r.at ∷ B)) = subst (λ (xs : List DiskLoc). Distinct ((l.at ∷ A) ++ xs)) rb.places (subst (λ (xs : List DiskLoc). Distinct (xs ++ r.places)) lb.places d) in
    let dr = distinct-right (l.at ∷ A) (r.at ∷ B) d2 in
    let ab = distinct-apart (l.at ∷ A) (r.at ∷ B) d2 in
    let in_l : (q : DiskLoc) → has q A ≡ true → has q (l.at ∷ A) ≡ true = λ q e. or_right (place_eq q l.at) (has q A) e in
    let not_kid : (q : DiskLoc) → has q B ≡ false → has q (map at_of ds) ≡ false = λ q o. false_from_ne_true (has q (map at_of ds)) (λ e. let two = kids_within m r.at h qs ds rt q e in cc) in
    let out : (q : DiskLoc) → has q (r.at ∷ B) ≡ false → n q ≡ m q = λ q o.
    let e = or_parts (place_eq q r.at) (has q B) o in
    same q ∙ rw (e.0, not_kid q e.1) refl in
    let kept : (q : DiskLoc) → has q A ≡ true → n q ≡ m q = λ q e. out q (ab q (in_l q e)) in
    let given : (q : DiskLoc) → has q B ≡ true → n q ≡ adopted m (map at_of ds) l.at q = λ q e. same q ∙ rw (place_differ q r.at (λ f. let two : has r.at B ≡ true = subst (λ (z : DiskLoc). has z B ≡ true) f e in let three = dr.0 in cc)) refl in
    let whole : all_places (cs ++ ds) ≡ A ++ B = flat_map-append places_of cs ds in
    record {
      below = below_joined m n l.at r.at h mid ps qs cs ds lt rt dr.1 kept given;
      woven = woven_joined m l.at r.at h mid ps qs cs ds lt rt ∙ (ap (λ xs. xs ++ mid ∷ weave (map pairs_of ds) qs) (sym lb.pairs) ∙ ap (λ xs. l.pairs ++ mid ∷ xs) (sym rb.pairs));
      apart = subst (λ (xs : List DiskLoc). Distinct (l.at ∷ xs)) (sym whole) (
        has-append-both l.at A B (has-append-left l.at A (r.at ∷ B) d2.0) (or_parts (place_eq l.at r.at) (has l.at B) (has-append-right l.at A (r.at ∷ B) d2.0)).1,
        distinct-join A B (distinct-left A (r.at ∷ B) d2.1) dr.1 (λ q e. (or_parts (place_eq q r.at) (has q B) (ab q (in_l q e))).1),
      );
      moved = subst (λ (xs : List DiskLoc). Moves m n (l.places ++ r.places) (l.at ∷ xs)) (sym whole)
          (subst (λ (xs : List DiskLoc). Moves m n xs (l.at ∷ (A ++ B))) (ap (λ xs. xs ++ (r.at ∷ B)) (sym lb.places) ∙ ap (λ xs. l.places ++ xs) (sym rb.places))
          (record {
            others = λ q o w. out q (has-append-right q (l.at ∷ A) (r.at ∷ B) o);
            fresh = λ q o w. absurd (none_new q (has q A) (place_eq q l.at) (place_eq q r.at) (has q B)
                (ap (λ z. place_eq q l.at || z) (sym (has-append q A (r.at ∷ B))) ∙ o) (ap (λ z. place_eq q l.at || z) (sym (has-append q A B)) ∙ w));
            gone = λ q o w.
                let e = only_right q (has q A) (place_eq q l.at) (place_eq q r.at) (has q B)
                (ap (λ z. place_eq q l.at || z) (sym (has-append q A (r.at ∷ B))) ∙ o) (ap (λ z. place_eq q l.at || z) (sym (has-append q A B)) ∙ w) in
                same q ∙ rw e refl;
          }));
    }
  where
    none_new : (q : DiskLoc) (a x y b : Bool) → (x || (a || (y || b))) ≡ false → (x || (a || b)) ≡ true → ⊥
    none_new q a true y b o w = cc
    none_new q true false y b o w = cc
    none_new q false false true b o w = cc
    none_new q false false false b o w = cc

    only_right : (q : DiskLoc) (a x y b : Bool) → (x || (a || (y || b))) ≡ true → (x || (a || b)) ≡ false → y ≡ true
    only_right q a true y b o w = absurd cc
    only_right q true false y b o w = absurd cc
    only_right q false false true b o w = refl
    only_right q false false false b o w = absurd cc

-- Two neighbours and the pair between have become one subtree or two, which hold the same.
pub rejoined : (m n : Buckets) (up : DiskLoc) (h : ℕ) (mid : Item) (l r : Sub) (b c : Node) (result : Option Item) → Stands m up 0 h l → Stands m up 0 h r → Distinct (l.places ++ r.places)
    → m l.at ≡ Some b → m r.at ≡ Some c → IsRejoined m n l.at r.at b mid c result
    → (ds : List Sub) × Became m n up h (l.places ++ r.places) (l.pairs ++ mid ∷ r.pairs) (roots_joined l.at r.at result) (between_joined result) ds
rejoined m n up h mid l r b c result lt rt d eb ec w =
    let lo = opened m up 0 h l lt in
    let ro = opened m up 0 h r rt in
    let ps = lo.0 in
    let cs = lo.1 in
    let qs = ro.0 in
    let ds = ro.1 in
    let is_b : b ≡ record { parent = up; pairs = ps; kids = map at_of cs } = let one = lo.2.bucket in cc in
    let is_c : c ≡ record { parent = up; pairs = qs; kids = map at_of ds } = let one = ro.2.bucket in cc in
    let old = l.places ++ r.places in
    let list = l.pairs ++ mid ∷ r.pairs in
    let n0 = freed m l.at r.at (map at_of ds) in
    let p = joined m n0 up h mid 0 0 l r ps qs cs ds lo.2 lo.3 ro.2 ro.3 d (λ q. refl) in
    let w1 = subst (λ (x : Node). IsRejoined m n l.at r.at x mid c result) is_b w in
    let w2 = subst (λ (y : Node). IsRejoined m n l.at r.at (record { parent = up; pairs = ps; kids = map at_of cs }) mid y result) is_c w1 in
    written m n up h l.at r.at mid old list ps qs cs ds p (left_there m l.at r.at (map at_of ds) (record { parent = up; pairs = ps; kids = map at_of cs }) lo.2.bucket (apart_roots d lo.2.places ro.2.places) (no_kid m up h l r ps qs cs ds d lo.2 ro.2 ro.3))
    (rw (place_eq-is r.at r.at refl) refl) result w2
  where
    apart_roots : Distinct (l.places ++ r.places) → {xs ys : List DiskLoc} → l.places ≡ l.at ∷ xs → r.places ≡ r.at ∷ ys → place_eq l.at r.at ≡ false
    apart_roots d {xs} {ys} e f =
        let d2 : Distinct ((l.at ∷ xs) ++ (r.at ∷ ys)) = subst (λ (zs : List DiskLoc). Distinct ((l.at ∷ xs) ++ zs)) f (subst (λ (zs : List DiskLoc). Distinct (zs ++ r.places)) e d) in
        (or_parts (place_eq l.at r.at) (has l.at ys) (has-append-right l.at xs (r.at ∷ ys) d2.0)).0

    no_kid : (m : Buckets) (up : DiskLoc) (h : ℕ) (l r : Sub) (ps qs : List Item) (cs ds : List Sub) → Distinct (l.places ++ r.places) → IsOver m up 0 l ps cs → IsOver m up 0 r qs ds → Below m r.at h qs ds → has l.at (map at_of ds) ≡ false
    no_kid m up h l r ps qs cs ds d lb rb rt =
        let B = all_places ds in
        let d2 : Distinct ((l.at ∷ all_places cs) ++ (r.at ∷ B)) = subst (λ (zs : List DiskLoc). Distinct ((l.at ∷ all_places cs) ++ zs)) rb.places (subst (λ (zs : List DiskLoc). Distinct (zs ++ r.places)) lb.places d) in
        let out : has l.at B ≡ false = (or_parts (place_eq l.at r.at) (has l.at B) (has-append-right l.at (all_places cs) (r.at ∷ B) d2.0)).1 in
        false_from_ne_true (has l.at (map at_of ds)) (λ e. let two = kids_within m r.at h qs ds rt l.at e in cc)

    left_there : (m : Buckets) (left right : DiskLoc) (kids : List DiskLoc) (b : Node) → m left ≡ Some b → place_eq left right ≡ false → has left kids ≡ false → freed m left right kids left ≢ None
    left_there m left right kids b e f g h = let same : freed m left right kids left ≡ Some b = rw (f, g) e in cc

    written : (m n : Buckets) (up : DiskLoc) (h : ℕ) (left right : DiskLoc) (mid : Item) (old : List DiskLoc) (list ps qs : List Item) (cs ds : List Sub) → Pending m (freed m left right (map at_of ds)) left h old list (ps ++ mid ∷ qs) (cs ++ ds)
        → freed m left right (map at_of ds) left ≢ None → freed m left right (map at_of ds) right ≡ None → (result : Option Item)
        → IsRejoined m n left right (record { parent = up; pairs = ps; kids = map at_of cs }) mid (record { parent = up; pairs = qs; kids = map at_of ds }) result
        → (es : List Sub) × Became m n up h old list (roots_joined left right result) (between_joined result) es
    written m n up h left right mid old list ps qs cs ds p there free None w =
        let n0 = freed m left right (map at_of ds) in (
          sub left (ps ++ mid ∷ qs) (cs ++ ds) ∷ [],
          settled_one m n0 n up left h old list (ps ++ mid ∷ qs) (cs ++ ds) (omega (arith, length-append ps (mid ∷ qs))) p
              (λ q. w q ∙ ap (λ (xs : List DiskLoc). put n0 left (Some (record { parent = up; pairs = ps ++ mid ∷ qs; kids = xs })) q) (sym (map-append at_of cs ds))),
        )
    written m n up h left right mid old list ps qs cs ds p there free (Some new) w =
        let n0 = freed m left right (map at_of ds) in
        let xs = w.0 in
        let ys = w.1 in
        let k = suc (length xs) in
        let p2 = subst (λ (zs : List Item). Pending m n0 left h old list zs (cs ++ ds)) w.2.pairs p in
        let kids : map at_of cs ++ map at_of ds ≡ map at_of (cs ++ ds) = sym (map-append at_of cs ds) in (
          sub left xs (take k (cs ++ ds)) ∷ sub right ys (drop k (cs ++ ds)) ∷ [],
          settled_two m n0 n up left right h old list xs new ys (cs ++ ds) w.2.some w.2.more p2 there free
              (λ q. w.2.same q ∙ (ap (λ (zs : List DiskLoc). parts_map n0 up left right xs (take k zs) ys (drop k zs) q) kids
              ∙ rw (take-map at_of k (cs ++ ds), drop-map at_of k (cs ++ ds)) refl)),
        )
