-- What is kept elsewhere, step by step; a subtree that gives way to others among its neighbours.
use Rattle.std.proofs.lemmas.Bool.{or_parts, cases_Bool, false_from_ne_true}
use Rattle.std.proofs.lemmas.List.Concat.{flat_map-append}
use Rattle.std.proofs.Common.{◌≡◌, ◌≢◌, ◌⊎◌, inl, inr, ℕ, Bool, true, false, ◌||◌, List, [], ◌∷◌, ◌++◌, None, refl, sym, ap, ◌∙◌, subst}
use Rattle.mm_base.specs.declared.place.DiskLoc.{DiskLoc}
use Rattle.std.specs.List.{AllByRecursion}
use Rattle.mm_btree.specs.Nodes.{place_eq, Buckets}
use Rattle.mm_btree.specs.Lists.{has, Distinct}
use Rattle.mm_btree.specs.Trees.{Sub, places_of, all_places, Stands, Moves}
use Rattle.mm_btree.proofs.ListLaws.{has-append, has-append-left, has-append-right, has-append-both, distinct-apart, distinct-left, distinct-right, distinct-join}
use Rattle.mm_btree.proofs.Frames.{all_stand_same, all_some}

-- more places, of which none moves
pub moves_with : (m n : Buckets) (old new more_old more_new : List DiskLoc) (k : DiskLoc → Bool)
    → ((q : DiskLoc) → has q more_old ≡ (k q || has q old)) → ((q : DiskLoc) → has q more_new ≡ (k q || has q new)) → Moves m n old new → Moves m n more_old more_new
moves_with m n old new more_old more_new k eo en v = record {
  others = λ q o w. v.others q (or_parts (k q) (has q old) (sym (eo q) ∙ o)).1 (or_parts (k q) (has q new) (sym (en q) ∙ w)).1;
  fresh = λ q o w.
      let a = or_parts (k q) (has q old) (sym (eo q) ∙ o) in
      v.fresh q a.1 (left_out (k q) (has q new) a.0 (sym (en q) ∙ w));
  gone = λ q o w.
      let a = or_parts (k q) (has q new) (sym (en q) ∙ w) in
      v.gone q (left_out (k q) (has q old) a.0 (sym (eo q) ∙ o)) a.1;
}
  where
    left_out : (a b : Bool) → a ≡ false → (a || b) ≡ true → b ≡ true
    left_out a b e f = sym (rw e refl) ∙ f

-- then a change in these places, and in some that were free
pub moves_then : (m n n2 : Buckets) (old new new2 : List DiskLoc) → Moves m n old new
    → ((q : DiskLoc) → has q new2 ≡ false → n2 q ≡ n q) → ((q : DiskLoc) → has q new ≡ true → has q new2 ≡ true) → ((q : DiskLoc) → has q new ≡ false → has q new2 ≡ true → n q ≡ None)
    → Moves m n2 old new2
moves_then m n n2 old new new2 v same more free = record {
  others = λ q o w. same q w ∙ v.others q o (fewer q w);
  fresh = λ q o w. by q (cases_Bool (has q new)) o w;
  gone = λ q o w. same q w ∙ v.gone q o (fewer q w);
}
  where
    fewer : (q : DiskLoc) → has q new2 ≡ false → has q new ≡ false
    fewer q w = false_from_ne_true (has q new) (λ e. let two = more q e in cc)

    by : (q : DiskLoc) → ((has q new ≡ true) ⊎ (has q new ≡ false)) → has q old ≡ false → has q new2 ≡ true → m q ≡ None
    by q (inl e) o w = v.fresh q o e
    by q (inr e) o w = sym (v.others q o e) ∙ free q e w

-- ---- one gives way among its neighbours

mixed : (a b c : Bool) → (a || (b || c)) ≡ ((a || c) || b)
mixed true b c = refl
mixed false true true = refl
mixed false true false = refl
mixed false false c = by c
  where
    by : (c : Bool) → c ≡ (c || false)
    by true = refl
    by false = refl

pub places_at : (ls : List Sub) (ds rs : List Sub) → all_places (ls ++ (ds ++ rs)) ≡ all_places ls ++ (all_places ds ++ all_places rs)
places_at ls ds rs = flat_map-append places_of ls (ds ++ rs) ∙ ap (λ xs. all_places ls ++ xs) (flat_map-append places_of ds rs)

has_at : (q : DiskLoc) (ls ds rs : List Sub) → has q (all_places (ls ++ (ds ++ rs))) ≡ ((has q (all_places ls) || has q (all_places rs)) || has q (all_places ds))
has_at q ls ds rs =
    ap (has q) (places_at ls ds rs)
    ∙ (has-append q (all_places ls) (all_places ds ++ all_places rs)
    ∙ (ap (λ b. has q (all_places ls) || b) (has-append q (all_places ds) (all_places rs))
    ∙ mixed (has q (all_places ls)) (has q (all_places ds)) (has q (all_places rs))))

pub all-append : (P : Sub → Type 0) (ls rs : List Sub) → AllByRecursion P ls → AllByRecursion P rs → AllByRecursion P (ls ++ rs)
all-append P [] rs s t = t
all-append P (a ∷ ls) rs s t = (s.0, all-append P ls rs s.1 t)

pub all-left : (P : Sub → Type 0) (ls rs : List Sub) → AllByRecursion P (ls ++ rs) → AllByRecursion P ls
all-left P [] rs s = tt
all-left P (a ∷ ls) rs s = (s.0, all-left P ls rs s.1)

pub all-right : (P : Sub → Type 0) (ls rs : List Sub) → AllByRecursion P (ls ++ rs) → AllByRecursion P rs
all-right P [] rs s = s
all-right P (a ∷ ls) rs s = all-right P ls rs s.1

-- Some subtrees have given way to others: what the bucket above them then has.
pub record Replaced (m n : Buckets) (at : DiskLoc) (h : ℕ) (ls cs ds rs : List Sub) : Type 0 where
  pub stand : AllByRecursion (Stands n at 1 h) (ls ++ (ds ++ rs))
  pub apart : Distinct (at ∷ all_places (ls ++ (ds ++ rs)))
  pub moved : Moves m n (at ∷ all_places (ls ++ (cs ++ rs))) (at ∷ all_places (ls ++ (ds ++ rs)))
  pub above : n at ≡ m at

pub replaced : (m n : Buckets) (at : DiskLoc) (h : ℕ) (ls cs ds rs : List Sub) → m at ≢ None → Distinct (at ∷ all_places (ls ++ (cs ++ rs))) → AllByRecursion (Stands m at 1 h) (ls ++ (cs ++ rs))
    → AllByRecursion (Stands n at 1 h) ds → Distinct (all_places ds) → Moves m n (all_places cs) (all_places ds) → Replaced m n at h ls cs ds rs
replaced m n at h ls cs ds rs there d t u e v =
    let A = all_places ls in
    let B = all_places rs in
    let C = all_places cs in
    let D = all_places ds in
    let d2 : Distinct (A ++ (C ++ B)) = subst Distinct (places_at ls cs rs) d.1 in
    let tb = all-right (Stands m at 1 h) cs rs (all-right (Stands m at 1 h) ls (cs ++ rs) t) in
    let ta = all-left (Stands m at 1 h) ls (cs ++ rs) t in
    let ac : (q : DiskLoc) → has q A ≡ true → has q C ≡ false = λ q k. has-append-left q C B (distinct-apart A (C ++ B) d2 q k) in
    let ab : (q : DiskLoc) → has q A ≡ true → has q B ≡ false = λ q k. has-append-right q C B (distinct-apart A (C ++ B) d2 q k) in
    let bc : (q : DiskLoc) → has q B ≡ true → has q C ≡ false = λ q k. false_from_ne_true (has q C) (λ f. let two = distinct-apart C B (distinct-right A (C ++ B) d2) q f in cc) in
    let out : (q : DiskLoc) → m q ≢ None → has q C ≡ false → has q D ≡ false = λ q some f. false_from_ne_true (has q D) (λ g. some (v.fresh q f g)) in
    let ad : (q : DiskLoc) → has q A ≡ true → has q D ≡ false = λ q k. out q (all_some m at h ls ta q k) (ac q k) in
    let bd : (q : DiskLoc) → has q B ≡ true → has q D ≡ false = λ q k. out q (all_some m at h rs tb q k) (bc q k) in
    let atA : has at A ≡ false = has-append-left at A (C ++ B) (sym (ap (has at) (places_at ls cs rs)) ∙ d.0) in
    let atCB : has at (C ++ B) ≡ false = has-append-right at A (C ++ B) (sym (ap (has at) (places_at ls cs rs)) ∙ d.0) in
    let atC : has at C ≡ false = has-append-left at C B atCB in
    let atD : has at D ≡ false = out at there atC in
    let atB : has at B ≡ false = has-append-right at C B atCB in
    record {
      stand = all-append (Stands n at 1 h) ls (ds ++ rs) (all_stand_same m n at h ls (λ q k. v.others q (ac q k) (ad q k)) ta)
          (all-append (Stands n at 1 h) ds rs u (all_stand_same m n at h rs (λ q k. v.others q (bc q k) (bd q k)) tb));
      apart = (
        ap (has at) (places_at ls ds rs) ∙ has-append-both at A (D ++ B) atA (has-append-both at D B atD atB),
        subst Distinct (sym (places_at ls ds rs))
            (distinct-join A (D ++ B) (distinct-left A (C ++ B) d2)
            (distinct-join D B e (distinct-right C B (distinct-right A (C ++ B) d2)) (λ q k. false_from_ne_true (has q B) (λ f. let two = bd q f in cc)))
            (λ q k. has-append-both q D B (ad q k) (ab q k))),
      );
      moved = moves_with m n C D (at ∷ all_places (ls ++ (cs ++ rs))) (at ∷ all_places (ls ++ (ds ++ rs))) (λ q. place_eq q at || (has q A || has q B))
          (λ q. ap (λ b. place_eq q at || b) (has_at q ls cs rs) ∙ or_assoc (place_eq q at) (has q A || has q B) (has q C))
          (λ q. ap (λ b. place_eq q at || b) (has_at q ls ds rs) ∙ or_assoc (place_eq q at) (has q A || has q B) (has q D)) v;
      above = v.others at atC atD;
    }
  where
    or_assoc : (a b c : Bool) → (a || (b || c)) ≡ ((a || b) || c)
    or_assoc true b c = refl
    or_assoc false b c = refl

-- one step after another
pub moves_trans : (m n o : Buckets) (a b c : List DiskLoc) → Moves m n a b → Moves n o b c → Moves m o a c
moves_trans m n o a b c v w = record {
  others = λ q x z. one q (cases_Bool (has q b)) x z;
  fresh = λ q x z. two q (cases_Bool (has q b)) x z;
  gone = λ q x z. three q (cases_Bool (has q b)) x z;
}
  where
    one : (q : DiskLoc) → ((has q b ≡ true) ⊎ (has q b ≡ false)) → has q a ≡ false → has q c ≡ false → o q ≡ m q
    one q (inl e) x z = w.gone q e z ∙ sym (v.fresh q x e)
    one q (inr e) x z = w.others q e z ∙ v.others q x e

    two : (q : DiskLoc) → ((has q b ≡ true) ⊎ (has q b ≡ false)) → has q a ≡ false → has q c ≡ true → m q ≡ None
    two q (inl e) x z = v.fresh q x e
    two q (inr e) x z = sym (v.others q x e) ∙ w.fresh q e z

    three : (q : DiskLoc) → ((has q b ≡ true) ⊎ (has q b ≡ false)) → has q a ≡ true → has q c ≡ false → o q ≡ None
    three q (inl e) x z = w.gone q e z
    three q (inr e) x z = w.others q e z ∙ v.gone q x e
