-- The extents that phase 3 finds are as the law of tiling asks.
use Rattle.std.proofs.Common.{◌≡◌, ℕ, zero, suc, pos, ◌+◌, ◌<◌, ◌≤◌, inl, inr, Bool, true, false, List, [], ◌∷◌, ◌++◌, length, map, Option, Some, None, refl, sym, ◌∙◌, ap, subst, arith}
use Rattle.std.specs.Prelude.{◌==◌, ◌||◌, if◌then◌else◌, is_some, nat_lt, unwrap_or}
use Rattle.std.specs.FinMap.{get}
use Rattle.std.proofs.lemmas.Bool.{cases_Bool, cases_lt, false≢true, eqb-true}
use Rattle.std.proofs.lemmas.Bool.Decides.{nat_tests}
use Rattle.mm_base.specs.Bytes.{part}
use Rattle.mm_ranges.specs.Overlay.{Image, bytes_at}
use Rattle.mm_frames.specs.FileHeader.{file_header_of}
use Rattle.mm_links.specs.Links.{Place, has}
use Rattle.mm_links.proofs.LinkLaws.{both}
use Rattle.mm_extents.specs.Files.{unused_in, header_unused}
use Rattle.mm_walk.specs.Walk.{Reading, IsWhole, AreWhole}
use Rattle.mm_check.specs.ExtentChain.{nat_of, file_reading}
use Rattle.mm_check.specs.Areas.{AreasFound}
use Rattle.mm_check.specs.FileQuestions.{unused_of}
use Rattle.mm_check.specs.Findings.{joined, files_from, Clear5}
use Rattle.mm_check.specs.FoundShape.{found_heap}
use Rattle.mm_check.proofs.RecordLaws.{if_yes, if_no, eq_of}
use Rattle.mm_records.proofs.Freed.{name_is}
use Rattle.mm_extents.proofs.MadeFiles as made
use Rattle.mm_check.proofs.PhaseBack.{has_either}
use Rattle.mm_check.proofs.Lookups.{extent_found}
use Rattle.mm_check.proofs.ExtentLaws.{right_of_leads}
use Rattle.mm_check.proofs.Insides.{has_in, on_file, IsThere, file_is_right}
use Rattle.mm_check.proofs.FoundExtents.{extent_only, padded_name}

no_true : (b : Bool) → (b ≡ true → ⊥) → b ≡ false
no_true true f = absurd (f refl)
no_true false f = refl

above : (m k : ℕ) → m ≤ k → (m == k) ≡ false → suc m ≤ k
above m k le n = elim (cases_lt m k) [ inl lt ↦ lt | inr ge ↦ absurd (false≢true (sym n ∙ eq_of m k (omega (arith, le, ge)))) ]

-- ---- the chain of a number

abbrev pub has_number : List ℕ → ℕ → Bool
has_number [] k = false
has_number (x ∷ xs) k = (x == k) || has_number xs k

abbrev pub of_number : List ℕ → List (List Place) → ℕ → List Place
of_number [] pss k = []
of_number (x ∷ xs) [] k = []
of_number (x ∷ xs) (ps ∷ pss) k = if x == k then ps else of_number xs pss k

-- what was seen before it
abbrev pub seen_before : List ℕ → List (List Place) → List Place → ℕ → List Place
seen_before [] pss seen k = seen
seen_before (x ∷ xs) [] seen k = seen
seen_before (x ∷ xs) (ps ∷ pss) seen k = if x == k then seen else seen_before xs pss (ps ++ seen) k

number_here : (x : ℕ) (xs : List ℕ) (k : ℕ) → (x == k) ≡ true → has_number (x ∷ xs) k ≡ true
number_here x xs k e = ap (λ (b : Bool). b || has_number xs k) e

number_more : (x : ℕ) (xs : List ℕ) (k : ℕ) → has_number xs k ≡ true → has_number (x ∷ xs) k ≡ true
number_more x xs k h = by (x == k)
  where
    by : (b : Bool) → (b || has_number xs k) ≡ true
    by true = refl
    by false = h

whole_of_number : (reading : ℕ → Reading) (ks : List ℕ) (pss : List (List Place)) (seen : List Place) (k : ℕ) → AreWhole seen (map reading ks) pss → has_number ks k ≡ true → IsWhole (reading k) (seen_before ks pss seen k) (of_number ks pss k)
whole_of_number reading [] pss seen k a h = absurd (false≢true h)
whole_of_number reading (x ∷ xs) [] seen k a h = absurd a
whole_of_number reading (x ∷ xs) (ps ∷ pss) seen k a h = elim (cases_Bool (x == k)) [
  | inl y ↦
      let e : of_number (x ∷ xs) (ps ∷ pss) k ≡ ps = if_yes (x == k) ps (of_number xs pss k) y in
      let f : seen_before (x ∷ xs) (ps ∷ pss) seen k ≡ seen = if_yes (x == k) seen (seen_before xs pss (ps ++ seen) k) y in
      subst (λ (qs : List Place). IsWhole (reading k) (seen_before (x ∷ xs) (ps ∷ pss) seen k) qs) (sym e) (subst (λ (qs : List Place). IsWhole (reading k) qs ps) (sym f) (subst (λ (j : ℕ). IsWhole (reading j) seen ps) (eqb-true x k y) a.0))
  | inr n ↦
      let e : of_number (x ∷ xs) (ps ∷ pss) k ≡ of_number xs pss k = if_no (x == k) ps (of_number xs pss k) n in
      let f : seen_before (x ∷ xs) (ps ∷ pss) seen k ≡ seen_before xs pss (ps ++ seen) k = if_no (x == k) seen (seen_before xs pss (ps ++ seen) k) n in
      let g : has_number xs k ≡ true = sym (ap (λ (b : Bool). b || has_number xs k) n) ∙ h in
      subst (λ (qs : List Place). IsWhole (reading k) (seen_before (x ∷ xs) (ps ∷ pss) seen k) qs) (sym e) (subst (λ (qs : List Place). IsWhole (reading k) qs (of_number xs pss k)) (sym f) (whole_of_number reading xs pss (ps ++ seen) k a.1 g))
]

number_joined : (ks : List ℕ) (pss : List (List Place)) (k : ℕ) (p : Place) → has (of_number ks pss k) p ≡ true → has (joined pss) p ≡ true
number_joined [] pss k p h = absurd (false≢true h)
number_joined (x ∷ xs) [] k p h = absurd (false≢true h)
number_joined (x ∷ xs) (ps ∷ pss) k p h = elim (cases_Bool (x == k)) [
  | inl y ↦ has_in ps (joined pss) p (inl (sym (ap (λ (qs : List Place). has qs p) (if_yes (x == k) ps (of_number xs pss k) y)) ∙ h))
  | inr n ↦ has_in ps (joined pss) p (inr (number_joined xs pss k p (sym (ap (λ (qs : List Place). has qs p) (if_no (x == k) ps (of_number xs pss k) n)) ∙ h)))
]

-- numbers that don't come again
abbrev AreOnce : List ℕ → Type 0
AreOnce [] = Unit {0}
AreOnce (x ∷ xs) = (has_number xs x ≡ false) × AreOnce xs

record OnNumber (ks : List ℕ) (pss : List (List Place)) (p : Place) : Type 0 where
  k : ℕ
  is : has_number ks k ≡ true
  on : has (of_number ks pss k) p ≡ true

on_number : (reading : ℕ → Reading) (ks : List ℕ) (pss : List (List Place)) (seen : List Place) (p : Place) → AreWhole seen (map reading ks) pss → AreOnce ks → has (joined pss) p ≡ true → OnNumber ks pss p
on_number reading [] [] seen p a o h = absurd (false≢true h)
on_number reading [] (ps ∷ pss) seen p a o h = absurd a
on_number reading (x ∷ xs) [] seen p a o h = absurd a
on_number reading (x ∷ xs) (ps ∷ pss) seen p a o h = elim (has_either ps (joined pss) p h) [
  | inl i ↦ let own = eq_of x x refl in record { k = x; is = number_here x xs x own; on = ap (λ (qs : List Place). has qs p) (if_yes (x == x) ps (of_number xs pss x) own) ∙ i }
  | inr j ↦
      let t = on_number reading xs pss (ps ++ seen) p a.1 o.1 j in
      let other : (x == t.k) ≡ false = no_true (x == t.k) (λ e. false≢true (sym o.0 ∙ ap (has_number xs) (eqb-true x t.k e) ∙ t.is)) in
      record { k = t.k; is = number_more x xs t.k t.is; on = ap (λ (qs : List Place). has qs p) (if_no (x == t.k) ps (of_number xs pss t.k) other) ∙ t.on }
]

-- ---- the data files

files_has : (image : Image) (k m n : ℕ) → m ≤ k → k < m + n → is_some (get image k) ≡ true → has_number (files_from image m n) k ≡ true
files_has image k m zero lo hi h = absurd (omega (arith, lo, hi))
files_has image k m (suc n) lo hi h = elim (cases_Bool (m == k)) [
  | inl y ↦
      let s = eqb-true m k y in
      ap (λ (ks : List ℕ). has_number ks k) (if_yes (is_some (get image m)) (m ∷ files_from image (suc m) n) (files_from image (suc m) n) (ap (λ (j : ℕ). is_some (get image j)) s ∙ h))
      ∙ number_here m (files_from image (suc m) n) k y
  | inr x ↦ elim (cases_Bool (is_some (get image m))) [
    | inl y ↦ ap (λ (ks : List ℕ). has_number ks k) (if_yes (is_some (get image m)) (m ∷ files_from image (suc m) n) (files_from image (suc m) n) y) ∙ number_more m (files_from image (suc m) n) k (files_has image k (suc m) n (above m k lo x) (omega (arith, hi)) h)
    | inr z ↦ ap (λ (ks : List ℕ). has_number ks k) (if_no (is_some (get image m)) (m ∷ files_from image (suc m) n) (files_from image (suc m) n) z) ∙ files_has image k (suc m) n (above m k lo x) (omega (arith, hi)) h
  ]
]

below_none : (image : Image) (k m n : ℕ) → k < m → has_number (files_from image m n) k ≡ false
below_none image k m zero lt = refl
below_none image k m (suc n) lt = elim (cases_Bool (is_some (get image m))) [
  | inl y ↦
      ap (λ (ks : List ℕ). has_number ks k) (if_yes (is_some (get image m)) (m ∷ files_from image (suc m) n) (files_from image (suc m) n) y)
      ∙ ap (λ (b : Bool). b || has_number (files_from image (suc m) n) k) (no_true (m == k) (λ e. let s = eqb-true m k e in omega (arith, s, lt))) ∙ below_none image k (suc m) n (omega (arith, lt))
  | inr z ↦ ap (λ (ks : List ℕ). has_number ks k) (if_no (is_some (get image m)) (m ∷ files_from image (suc m) n) (files_from image (suc m) n) z) ∙ below_none image k (suc m) n (omega (arith, lt))
]

files_once : (image : Image) (m n : ℕ) → AreOnce (files_from image m n)
files_once image m zero = tt
files_once image m (suc n) = elim (cases_Bool (is_some (get image m))) [
  | inl y ↦ subst AreOnce (sym (if_yes (is_some (get image m)) (m ∷ files_from image (suc m) n) (files_from image (suc m) n) y)) (below_none image m (suc m) n (omega arith), files_once image (suc m) n)
  | inr z ↦ subst AreOnce (sym (if_no (is_some (get image m)) (m ∷ files_from image (suc m) n) (files_from image (suc m) n) z)) (files_once image (suc m) n)
]

-- ---- where the unused rest begins

nat_lt_true : (m n : ℕ) → nat_lt m n ≡ true → m < n
nat_lt_true m n e = grind (arith, nat_tests)

same_some : {A : Type 0} (x y : A) → Some x ≡ Some y → x ≡ y
same_some x y e = cc

no_bytes : (image : Image) (file : ℕ) (o : Option (List ℕ)) → get image file ≡ o → (length (part 0 8192 (bytes_at image file)) == 8192) ≡ true → is_some o ≡ true
unfolding part
no_bytes image file None g h = absurd (false≢true (ap (λ (p : Option (List ℕ)). length (part 0 8192 (unwrap_or p [])) == 8192) (sym g) ∙ h))
no_bytes image file (Some x) g h = refl

pub unused_there : (image : Image) (file u : ℕ) → unused_in image file ≡ Some (pos u) → (file < 8) × (is_some (get image file) ≡ true) × (unused_of (part 0 8192 (bytes_at image file)) ≡ u)
unused_there image file u e = elim (cases_Bool (nat_lt file 8)) [
  | inl y ↦
      let f : header_unused (part 0 8192 (bytes_at image file)) ≡ Some (pos u) = sym (if_yes (nat_lt file 8) (header_unused (part 0 8192 (bytes_at image file))) None y) ∙ e in
      elim (cases_Bool (length (part 0 8192 (bytes_at image file)) == 8192)) [
        | inl z ↦
            let g : Some (file_header_of (part 0 8192 (bytes_at image file))).unused.ofs ≡ Some (pos u) = sym (if_yes (length (part 0 8192 (bytes_at image file)) == 8192) (Some (file_header_of (part 0 8192 (bytes_at image file))).unused.ofs) None z) ∙ f in
            (nat_lt_true file 8 y, no_bytes image file (get image file) refl z, ap nat_of (same_some _ _ g))
        | inr n ↦ absurd (let g : None ≡ Some (pos u) = sym (if_no (length (part 0 8192 (bytes_at image file)) == 8192) (Some (file_header_of (part 0 8192 (bytes_at image file))).unused.ofs) None n) ∙ f in cc)
      ]
  | inr n ↦ absurd (let f : None ≡ Some (pos u) = sym (if_no (nat_lt file 8) (header_unused (part 0 8192 (bytes_at image file))) None n) ∙ e in cc)
]

-- ---- the areas of the shape

module _ (d : List ℕ) (image : Image) (chains : List (List Place)) (c : Clear5 d image chains) (recs blks : List Place) where
  on : (p : Place) → has (joined c.found) p ≡ true → OnNumber (files_from image 0 8) c.found p
  on p h = on_number (λ k. file_reading image k (unused_of (part 0 8192 (bytes_at image k)))) (files_from image 0 8) c.found [] p c.before.whole (files_once image 0 8) h

  unused_is : (k : ℕ) → IsThere image k → unused_in image k ≡ Some (pos (unused_of (part 0 8192 (bytes_at image k))))
  unused_is k t =
      let r = file_is_right image k c.before.before.files t in
      made.unused_of image k (unused_of (part 0 8192 (bytes_at image k))) t.low r.short (name_is _ _ (both _ _ r.header).0)

  pub areas_found : AreasFound image (found_heap image (joined c.found) recs blks) (unused_in image)
  areas_found = record {
    found = of_number (files_from image 0 8) c.found;
    seen = seen_before (files_from image 0 8) c.found [];
    whole = λ file u e.
        let t = unused_there image file u e in let lt = t.0 in
        subst (λ (v : ℕ). IsWhole (file_reading image file v) (seen_before (files_from image 0 8) c.found [] file) (of_number (files_from image 0 8) c.found file)) t.2
        (whole_of_number (λ k. file_reading image k (unused_of (part 0 8192 (bytes_at image k)))) (files_from image 0 8) c.found [] file c.before.whole (files_has image file 0 8 (omega arith) (omega (arith, lt)) t.1));
    there = λ file p h. extent_found image (joined c.found) recs blks p (number_joined (files_from image 0 8) c.found file p h);
    only = λ p h e.
        let a = extent_only d image chains c recs blks p h e in
        let o = on_file d image c.found c.before p a in
        let r = right_of_leads image o.k (unused_of (part 0 8192 (bytes_at image o.k))) None 8192 o.ps p o.whole.followed.leads o.on in
        let n = on p a in
        let w = whole_of_number (λ k. file_reading image k (unused_of (part 0 8192 (bytes_at image k)))) (files_from image 0 8) c.found [] n.k c.before.whole n.is in
        let q = right_of_leads image n.k (unused_of (part 0 8192 (bytes_at image n.k))) None 8192 (of_number (files_from image 0 8) c.found n.k) p w.followed.leads n.on in (
          unused_of (part 0 8192 (bytes_at image o.k)),
          ap (unused_in image) r.0 ∙ unused_is o.k o.is,
          ap (λ (k : ℕ). has (of_number (files_from image 0 8) c.found k) p) q.0 ∙ n.on,
        );
    named = λ file p h. padded_name d image chains c recs blks p (number_joined (files_from image 0 8) c.found file p h);
  }
