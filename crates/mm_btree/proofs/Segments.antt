-- Some neighbours below a bucket have become others, as where a pair was put into a child, or two were joined: what the bucket above is to get.
use Rattle.std.proofs.lemmas.Bool.{cases_Bool}
use Rattle.mm_btree.proofs.Places.{place_eq-true}
use Rattle.std.proofs.Math.Seq.{drop-cons, take-suc}
use Rattle.std.proofs.lemmas.List.{take-append-drop, length-take-le, map-append, length-map, length-append, length-drop, take-map, drop-map, append-nil, get_or-map}
use Rattle.std.proofs.Common.{◌≡◌, ◌≢◌, ◌⊎◌, inl, inr, ℕ, zero, suc, ◌+◌, ◌<◌, ◌≤◌, Bool, true, false, List, [], ◌∷◌, ◌++◌, length, map, take, drop, get_or, insert, Option, Some, None, refl, sym, ap, ◌∙◌, subst, arith, append_assoc}
use Rattle.mm_base.specs.declared.place.DiskLoc.{DiskLoc}
use Rattle.std.specs.List.{AllByRecursion}
use Rattle.mm_btree.specs.Nodes.{Item, place_eq, Node, Buckets, put}
use Rattle.mm_btree.specs.Changes.{Up, IsSettled, roots_of, between_of}
use Rattle.mm_base.specs.Places.{null}
use Rattle.mm_btree.specs.Lists.{front, back, weave, Distinct, ins, Sorted, BeginsAbove, Chains}
use Rattle.mm_btree.specs.Trees.{Sub, at_of, pairs_of, all_places, IsOver, AreBelow, Stands, Moves, Became, Pending, sub, Changed}
use Rattle.mm_btree.proofs.ListLaws.{weave-at, weave-middle, ins-behind, ins-before, front-before, back-begins, sorted-left, sorted-right, distinct-left, distinct-right}
use Rattle.mm_btree.proofs.Moved.{replaced, places_at}
use Rattle.mm_btree.proofs.Settling.{settled_one, settled_two}

-- the bucket is written as one or as two
pub settled : (m n n2 : Buckets) (up at : DiskLoc) (h : ℕ) (old : List DiskLoc) (list ps : List Item) (cs : List Sub) → 1 ≤ length ps → Pending m n at h old list ps cs → n at ≢ None
    → (r : Option Up) → IsSettled n n2 at (record { parent = up; pairs = ps; kids = map at_of cs }) r → (ds : List Sub) × Became m n2 up h old list (roots_of at r) (between_of r) ds
settled m n n2 up at h old list ps cs some p there None w = (sub at ps cs ∷ [], settled_one m n n2 up at h old list ps cs some p w)
settled m n n2 up at h old list ps cs some p there (Some u) w =
    let k = suc (length w.0) in (
      sub at w.0 (take k cs) ∷ sub u.right w.1 (drop k cs) ∷ [],
      settled_two m n n2 up at u.right h old list w.0 u.mid w.1 cs w.2.some w.2.more (subst (λ (xs : List Item). Pending m n at h old list xs cs) w.2.pairs p) there w.2.free
          (λ q. w.2.same q ∙ rw (take-map at_of k cs, drop-map at_of k cs) refl),
    )

-- ---- the child that a pair belongs to

pub all_get : (P : Sub → Type 0) (cs : List Sub) (i : ℕ) (s : Sub) → i < length cs → AllByRecursion P cs → P (get_or cs i s)
all_get P [] i s l h = absurd (omega (arith, l))
all_get P (c ∷ cs) zero s l h = h.0
all_get P (c ∷ cs) (suc i) s l h = all_get P cs i s (omega (arith, l)) h.1

pub cut_at : (cs : List Sub) (i : ℕ) (s : Sub) → i < length cs → cs ≡ take i cs ++ (get_or cs i s ∷ drop (suc i) cs)
cut_at cs i s l = sym (take-append-drop i cs) ∙ ap (λ xs. take i cs ++ xs) (drop-cons cs i s l)

-- a subtree's pairs: those in front of the i-th child, the child's, and those behind
pub record Cut (s : Sub) (ps : List Item) (cs : List Sub) (i : ℕ) : Type 0 where
  pub inside : i < length cs
  pub parts : cs ≡ take i cs ++ (get_or cs i s ∷ drop (suc i) cs)
  pub long : length (map pairs_of (take i cs)) ≡ length (take i ps)
  pub short : length (map pairs_of (drop (suc i) cs)) ≡ length (drop i ps)
  pub woven : s.pairs ≡ front (map pairs_of (take i cs)) (take i ps) ++ ((get_or cs i s).pairs ++ back (map pairs_of (drop (suc i) cs)) (drop i ps))

pub cut : (s : Sub) (ps : List Item) (cs : List Sub) (i : ℕ) → length cs ≡ suc (length ps) → i ≤ length ps → s.pairs ≡ weave (map pairs_of cs) ps → Cut s ps cs i
cut s ps cs i count le woven =
    let l : i < length cs = omega (arith, count, le) in
    let e = cut_at cs i s l in
    let long : length (map pairs_of (take i cs)) ≡ length (take i ps) = length-map (take i cs) pairs_of ∙ (length-take-le i cs (omega arith) ∙ sym (length-take-le i ps le)) in
    record {
      inside = l;
      parts = e;
      long = long;
      short = length-map (drop (suc i) cs) pairs_of ∙ omega (arith, length-drop (suc i) cs, length-drop i ps, count, le);
      woven = woven
          ∙ (ap (λ xs. weave (map pairs_of xs) ps) e
          ∙ (ap (λ xs. weave xs ps) (map-append pairs_of (take i cs) (get_or cs i s ∷ drop (suc i) cs))
          ∙ (ap (weave (map pairs_of (take i cs) ++ (get_or cs i s).pairs ∷ map pairs_of (drop (suc i) cs))) (sym (take-append-drop i ps))
          ∙ weave-at (map pairs_of (take i cs)) (get_or cs i s).pairs (map pairs_of (drop (suc i) cs)) (take i ps) (drop i ps) long)));
    }

-- the child is in order, and none of its buckets is another's
pub child_sorted : (lt : Item → Item → Bool) (s : Sub) (ps : List Item) (cs : List Sub) (i : ℕ) → Cut s ps cs i → Sorted lt s.pairs → Sorted lt (get_or cs i s).pairs
child_sorted lt s ps cs i k so =
    let F = front (map pairs_of (take i cs)) (take i ps) in
    let B = back (map pairs_of (drop (suc i) cs)) (drop i ps) in
    sorted-left lt (get_or cs i s).pairs B (sorted-right lt F ((get_or cs i s).pairs ++ B) (subst (Sorted lt) k.woven so))

pub child_apart : (s : Sub) (ps : List Item) (cs : List Sub) (i : ℕ) → Cut s ps cs i → Distinct (all_places cs) → Distinct (get_or cs i s).places
child_apart s ps cs i k d =
    let c = get_or cs i s in
    let d2 = subst (λ (xs : List Sub). Distinct (all_places xs)) k.parts d in
    let d3 = subst Distinct (places_at (take i cs) (c ∷ []) (drop (suc i) cs)) d2 in
    distinct-left c.places [] (distinct-left (c.places ++ []) (all_places (drop (suc i) cs)) (distinct-right (all_places (take i cs)) ((c.places ++ []) ++ all_places (drop (suc i) cs)) d3))

-- The i-th child has become others: the bucket above it is to get their roots and the pairs between them.
pub changed_below : (m n : Buckets) (up : DiskLoc) (least h i : ℕ) (s : Sub) (ps : List Item) (cs : List Sub) (mine : List Item) (roots : List DiskLoc) (between : List Item) (ds : List Sub)
    → IsOver m up least s ps cs → AreBelow (Stands m s.at 1 h) ps cs → (k : Cut s ps cs i) → Distinct s.places
    → Became m n s.at h (get_or cs i s).places mine roots between ds → length ds ≡ suc (length between)
    → Pending m n s.at (suc h) s.places (front (map pairs_of (take i cs)) (take i ps) ++ (mine ++ back (map pairs_of (drop (suc i) cs)) (drop i ps)))
    (take i ps ++ (between ++ drop i ps)) (take i cs ++ (ds ++ drop (suc i) cs)) × (n s.at ≡ m s.at)
changed_below m n up least h i s ps cs mine roots between ds b t k d g count =
    let c = get_or cs i s in
    let L = take i cs in
    let R = drop (suc i) cs in
    let d2 : Distinct (s.at ∷ all_places (L ++ ((c ∷ []) ++ R))) = subst (λ (xs : List Sub). Distinct (s.at ∷ all_places xs)) k.parts (subst Distinct b.places d) in
    let v : Moves m n (all_places (c ∷ [])) (all_places ds) = subst (λ (xs : List DiskLoc). Moves m n xs (all_places ds)) (sym (append-nil c.places)) g.moved in
    let some : m s.at ≢ None = λ e. let there = b.bucket in cc in
    let r = replaced m n s.at h L (c ∷ []) ds R some d2 (subst (AllByRecursion (Stands m s.at 1 h)) k.parts t.1) g.stand g.apart v in
    let lens : length (L ++ (ds ++ R)) ≡ length L + (length ds + length R) = length-append L (ds ++ R) ∙ ap (λ z. length L + z) (length-append ds R) in
    let more : length (take i ps ++ (between ++ drop i ps)) ≡ length (take i ps) + (length between + length (drop i ps)) = length-append (take i ps) (between ++ drop i ps) ∙ ap (λ z. length (take i ps) + z) (length-append between (drop i ps)) in (
      record {
        below = (omega (arith, lens, more, count, k.long, k.short, length-map L pairs_of, length-map R pairs_of), r.stand);
        woven =
            ap (λ xs. weave xs (take i ps ++ (between ++ drop i ps))) (map-append pairs_of L (ds ++ R) ∙ ap (λ xs. map pairs_of L ++ xs) (map-append pairs_of ds R))
            ∙ (weave-middle (map pairs_of L) (map pairs_of ds) (map pairs_of R) (take i ps) between (drop i ps) k.long (length-map ds pairs_of ∙ count)
            ∙ ap (λ xs. front (map pairs_of L) (take i ps) ++ (xs ++ back (map pairs_of R) (drop i ps))) g.pairs);
        apart = r.apart;
        moved = subst (λ (xs : List DiskLoc). Moves m n xs (s.at ∷ all_places (L ++ (ds ++ R)))) (ap (λ xs. s.at ∷ all_places xs) (sym k.parts) ∙ sym b.places) r.moved;
      },
      r.above,
    )

-- the list with x, as the child's list with x
pub ins_there : (lt : Item → Item → Bool) → Chains lt → (x : Item) (i : ℕ) (s : Sub) (ps : List Item) (cs : List Sub) → (k : Cut s ps cs i) → Sorted lt s.pairs
    → AllByRecursion (λ p. lt x p ≡ false) (take i ps) → BeginsAbove lt x (drop i ps)
    → front (map pairs_of (take i cs)) (take i ps) ++ (ins lt x (get_or cs i s).pairs ++ back (map pairs_of (drop (suc i) cs)) (drop i ps)) ≡ ins lt x s.pairs
ins_there lt ch x i s ps cs k so before behind =
    let F = front (map pairs_of (take i cs)) (take i ps) in
    let B = back (map pairs_of (drop (suc i) cs)) (drop i ps) in
    let mine = (get_or cs i s).pairs in
    sym (ap (ins lt x) k.woven
    ∙ (ins-behind lt x F (mine ++ B) (front-before lt ch x (map pairs_of (take i cs)) (take i ps) (mine ++ B) k.long (subst (Sorted lt) k.woven so) before)
    ∙ ap (λ xs. F ++ xs) (ins-before lt x mine B (back-begins lt x (map pairs_of (drop (suc i) cs)) (drop i ps) k.short behind))))

roots_at : (cs ds : List Sub) (i : ℕ) → map at_of (take i cs ++ (ds ++ drop (suc i) cs)) ≡ take i (map at_of cs) ++ (map at_of ds ++ drop (suc i) (map at_of cs))
roots_at cs ds i =
    map-append at_of (take i cs) (ds ++ drop (suc i) cs)
    ∙ (ap (λ xs. map at_of (take i cs) ++ xs) (map-append at_of ds (drop (suc i) cs))
    ∙ rw (take-map at_of i cs, drop-map at_of (suc i) cs) refl)

put_same : (n : Buckets) (at : DiskLoc) (b : Node) → n at ≡ Some b → (q : DiskLoc) → n q ≡ put n at (Some b) q
put_same n at b e q = by (cases_Bool (place_eq q at))
  where
    by : ((place_eq q at ≡ true) ⊎ (place_eq q at ≡ false)) → n q ≡ put n at (Some b) q
    by (inl f) = ap n (place_eq-true q at f) ∙ (e ∙ sym (rw f refl))
    by (inr f) = sym (rw f refl)

-- one root stands where it stood: the bucket above stays
pub stays_above : (m n : Buckets) (up : DiskLoc) (least h i : ℕ) (s : Sub) (ps : List Item) (cs : List Sub) (mine list : List Item) (ds : List Sub)
    → IsOver m up least s ps cs → 1 ≤ length ps → (k : Cut s ps cs i)
    → map at_of ds ≡ (get_or cs i s).at ∷ []
    → Pending m n s.at (suc h) s.places list (take i ps ++ ([] ++ drop i ps)) (take i cs ++ (ds ++ drop (suc i) cs)) → n s.at ≡ m s.at
    → (es : List Sub) × Became m n up (suc h) s.places list (s.at ∷ []) [] es
stays_above m n up least h i s ps cs mine list ds b some k one p above =
    let c = get_or cs i s in
    let cs2 = take i cs ++ (ds ++ drop (suc i) cs) in
    let kids : map at_of cs2 ≡ map at_of cs =
    roots_at cs ds i ∙ (ap (λ xs. take i (map at_of cs) ++ (xs ++ drop (suc i) (map at_of cs))) one
    ∙ (sym (roots_at cs (c ∷ []) i) ∙ ap (map at_of) (sym k.parts))) in
    let here : n s.at ≡ Some (record { parent = up; pairs = ps; kids = map at_of cs2 }) = above ∙ (b.bucket ∙ ap (λ (xs : List DiskLoc). Some (record { parent = up; pairs = ps; kids = xs })) (sym kids)) in
    let p2 = subst (λ (xs : List Item). Pending m n s.at (suc h) s.places list xs cs2) (take-append-drop i ps) p in
    (sub s.at ps cs2 ∷ [], settled_one m n n up s.at (suc h) s.places list ps cs2 some p2 (put_same n s.at (record { parent = up; pairs = ps; kids = map at_of cs2 }) here))

-- two roots stand where one stood: what the bucket above is to be
pub kids_more : (cs ds : List Sub) (i : ℕ) (r : DiskLoc) (s : Sub) → i < length cs → map at_of ds ≡ (get_or cs i s).at ∷ r ∷ [] → map at_of (take i cs ++ (ds ++ drop (suc i) cs)) ≡ insert (map at_of cs) (suc i) r
kids_more cs ds i r s l two =
    let kids = map at_of cs in
    let len = length-map cs at_of in
    let root : get_or kids i null ≡ (get_or cs i s).at = get_or-map at_of cs i s null l in
    roots_at cs ds i
    ∙ (ap (λ xs. take i kids ++ (xs ++ drop (suc i) kids)) two
    ∙ (sym (append_assoc (take i kids) ((get_or cs i s).at ∷ []) (r ∷ drop (suc i) kids))
    ∙ ap (λ xs. xs ++ r ∷ drop (suc i) kids) (ap (λ z. take i kids ++ z ∷ []) (sym root) ∙ sym (take-suc kids i null (omega (arith, len, l))))))

-- ---- some neighbours have become others

pub changed_segment : (m n : Buckets) (up : DiskLoc) (least h : ℕ) (s : Sub) (ps rs qs : List Item) (ls es bs : List Sub) (mine : List Item) (roots : List DiskLoc) (between : List Item) (ds : List Sub)
    → IsOver m up least s (ps ++ (rs ++ qs)) (ls ++ (es ++ bs)) → AllByRecursion (Stands m s.at 1 h) (ls ++ (es ++ bs))
    → length ls ≡ length ps → length es ≡ suc (length rs) → length bs ≡ length qs → Distinct s.places
    → Became m n s.at h (all_places es) mine roots between ds → length ds ≡ suc (length between) → Changed m n h s ps rs qs ls es bs mine between ds
changed_segment m n up least h s ps rs qs ls es bs mine roots between ds b t long mid short d g count =
    let d2 : Distinct (s.at ∷ all_places (ls ++ (es ++ bs))) = subst Distinct b.places d in
    let some : m s.at ≢ None = λ e. let there = b.bucket in cc in
    let r = replaced m n s.at h ls es ds bs some d2 t g.stand g.apart g.moved in
    let long2 : length (map pairs_of ls) ≡ length ps = length-map ls pairs_of ∙ long in
    let lens : length (ls ++ (ds ++ bs)) ≡ length ls + (length ds + length bs) = length-append ls (ds ++ bs) ∙ ap (λ z. length ls + z) (length-append ds bs) in
    let more : length (ps ++ (between ++ qs)) ≡ length ps + (length between + length qs) = length-append ps (between ++ qs) ∙ ap (λ z. length ps + z) (length-append between qs) in
    record {
      was = b.pairs
          ∙ (ap (λ xs. weave xs (ps ++ (rs ++ qs))) (map-append pairs_of ls (es ++ bs) ∙ ap (λ xs. map pairs_of ls ++ xs) (map-append pairs_of es bs))
          ∙ weave-middle (map pairs_of ls) (map pairs_of es) (map pairs_of bs) ps rs qs long2 (length-map es pairs_of ∙ mid));
      pending = record {
        below = (omega (arith, lens, more, count, long, short), r.stand);
        woven =
            ap (λ xs. weave xs (ps ++ (between ++ qs))) (map-append pairs_of ls (ds ++ bs) ∙ ap (λ xs. map pairs_of ls ++ xs) (map-append pairs_of ds bs))
            ∙ (weave-middle (map pairs_of ls) (map pairs_of ds) (map pairs_of bs) ps between qs long2 (length-map ds pairs_of ∙ count)
            ∙ ap (λ xs. front (map pairs_of ls) ps ++ (xs ++ back (map pairs_of bs) qs)) g.pairs);
        apart = r.apart;
        moved = subst (λ (xs : List DiskLoc). Moves m n xs (s.at ∷ all_places (ls ++ (ds ++ bs)))) (sym b.places) r.moved;
      };
      above = r.above;
    }
