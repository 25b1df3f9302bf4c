-- Images with files made, and without them again.
use Rattle.std.proofs.Common.{◌≡◌, ℕ, ◌+◌, ◌≤◌, Bool, true, false, cond, List, [], ◌∷◌, length, Option, Some, None, refl, sym, ◌∙◌, ap, subst, arith, inl, inr}
use Rattle.std.proofs.lemmas.Bool.{cases_Bool, eqb-true, eq-eqb, both_ways, false≢true, and_parts, and_from, or_from, or_left, or_right, or_parts}
use Rattle.std.proofs.lemmas.Bool.Decides.{nat_tests}
use Rattle.std.specs.Prelude.{◌==◌, ◌||◌, nat_lt, replicate}
use Rattle.std.specs.Cmp.{nat_cmp_total, unsigned_tied}
use Rattle.std.specs.FinMap.{get, insert, remove, get-insert, get-remove, same_map, nat_cmp-IsAntisymmetric}
use Rattle.std.specs.List.{list_all}
use Rattle.mm_ranges.specs.Places.{Range, is_covered}
use Rattle.mm_ranges.specs.Limits.{is_lowest, is_rising, may_be_made}
use Rattle.mm_ranges.specs.Overlay.{Image, with_made, FileSame, SameOutside}
use Rattle.mm_ranges.specs.declared.part.Made.{Made}
use Rattle.mm_views.specs.Made.{is_made, made_len, with_one, with_all, AreNew, without_made}

-- the zeros of a file that is made
abbrev pub zeros_of : List Made → ℕ → List ℕ
zeros_of ms file = replicate (made_len ms file) 0

pub get-put : (image : Image) (file : ℕ) (bytes : List ℕ) (q : ℕ) → get (insert image file bytes) q ≡ cond (q == file) (Some bytes) (get image q)
get-put image file bytes q = get-insert nat_cmp_total image file bytes q ∙ ap (λ t. cond t (Some bytes) (get image q)) (unsigned_tied q file)

pub get-taken : (image : Image) (file q : ℕ) → get (remove image file) q ≡ cond (q == file) None (get image q)
get-taken image file q = get-remove nat_cmp_total image file q ∙ ap (λ t. cond t None (get image q)) (unsigned_tied q file)

pub same_image : (a b : Image) → ((q : ℕ) → get a q ≡ get b q) → a ≡ b
same_image a b h = same_map nat_cmp_total nat_cmp-IsAntisymmetric a b h

eq_turned : (a b : ℕ) → (a == b) ≡ (b == a)
eq_turned a b = grind (arith, nat_tests)

-- ---- rising numbers
rising_rest : (m : Made) (ms : List Made) → is_rising (m ∷ ms) ≡ true → is_rising ms ≡ true
rising_rest m ms h = (and_parts (is_lowest m ms) (is_rising ms) h).1

-- a file that comes before the first isn't among the others
not_later : (m : Made) (ms : List Made) (q : ℕ) → is_rising (m ∷ ms) ≡ true → q ≤ m.file → is_made ms q ≡ false
not_later m [] q h le = refl
not_later m (n ∷ ns) q h le =
    let parts = and_parts (is_lowest m (n ∷ ns)) (is_rising (n ∷ ns)) h in
    or_from (n.file == q) (is_made ns q) (differs m n q parts.0 le) (not_later n ns q parts.1 (below m n q parts.0 le))
  where
    differs : (m n : Made) (q : ℕ) → nat_lt m.file n.file ≡ true → q ≤ m.file → (n.file == q) ≡ false
    differs m n q lt le = grind (arith, nat_tests)

    below : (m n : Made) (q : ℕ) → nat_lt m.file n.file ≡ true → q ≤ m.file → q ≤ n.file
    below m n q lt le = grind (arith, nat_tests)

-- ---- with files made
pub get-with_made : (ms : List Made) (image : Image) (q : ℕ) → is_rising ms ≡ true → get (with_made ms image) q ≡ cond (is_made ms q) (Some (zeros_of ms q)) (get image q)
get-with_made [] image q h = refl
get-with_made (m ∷ ms) image q h =
    get-with_made ms (insert image m.file (replicate m.len 0)) q (rising_rest m ms h)
    ∙ ap (cond (is_made ms q) (Some (zeros_of ms q))) (get-put image m.file (replicate m.len 0) q)
    ∙ by_cases (q == m.file) (m.file == q) (is_made ms q) (eq_turned q m.file) (λ e. not_later m ms q h (le_of m q e))
  where
    le_of : (m : Made) (q : ℕ) → (q == m.file) ≡ true → q ≤ m.file
    le_of m q e = grind (arith, nat_tests)

    by_cases : (t u c : Bool) → t ≡ u → (t ≡ true → c ≡ false)
        → cond c (Some (replicate (made_len ms q) 0)) (cond t (Some (replicate m.len 0)) (get image q)) ≡ cond (u || c) (Some (replicate (cond u m.len (made_len ms q)) 0)) (get image q)
    by_cases true true true e f = absurd (both_ways true (f refl) refl)
    by_cases true true false e f = refl
    by_cases true false c e f = absurd (false≢true (sym e))
    by_cases false true c e f = absurd (false≢true e)
    by_cases false false true e f = refl
    by_cases false false false e f = refl

pub get-without_made : (ms : List Made) (image : Image) (q : ℕ) → get (without_made ms image) q ≡ cond (is_made ms q) None (get image q)
get-without_made [] image q = refl
get-without_made (m ∷ ms) image q =
    get-taken (without_made ms image) m.file q
    ∙ ap (cond (q == m.file) None) (get-without_made ms image q)
    ∙ by_cases (q == m.file) (m.file == q) (is_made ms q) (get image q) (eq_turned q m.file)
  where
    by_cases : (t u c : Bool) (o : Option (List ℕ)) → t ≡ u → cond t None (cond c None o) ≡ cond (u || c) None o
    by_cases true true c o e = refl
    by_cases true false c o e = absurd (false≢true (sym e))
    by_cases false true c o e = absurd (false≢true e)
    by_cases false false c o e = refl

-- files that were made are taken out again
pub without_made-with_made : (ms : List Made) (image : Image) → is_rising ms ≡ true → AreNew image ms → without_made ms (with_made ms image) ≡ image
without_made-with_made ms image h new_files = same_image (without_made ms (with_made ms image)) image (λ q.
    get-without_made ms (with_made ms image) q ∙ ap (cond (is_made ms q) None) (get-with_made ms image q h) ∙ by_test (is_made ms q) (Some (zeros_of ms q)) (get image q) (new_files q))
  where
    by_test : (t : Bool) (x y : Option (List ℕ)) → (t ≡ true → y ≡ None) → cond t None (cond t x y) ≡ y
    by_test true x y f = sym (f refl)
    by_test false x y f = refl

-- ---- one more file
module _ (m : Made) where
  pub is_made-with_one : (ms : List Made) (q : ℕ) → is_made (with_one m ms) q ≡ (m.file == q || is_made ms q)
  is_made-with_one [] q = refl
  is_made-with_one (n ∷ ns) q = by_cases (nat_lt m.file n.file) (is_made-with_one ns q)
    where
      or-swap : (a b c : Bool) → (a || (b || c)) ≡ (b || (a || c))
      or-swap true true c = refl
      or-swap true false c = refl
      or-swap false true c = refl
      or-swap false false c = refl

      by_cases : (t : Bool) → is_made (with_one m ns) q ≡ (m.file == q || is_made ns q) → is_made (cond t (m ∷ n ∷ ns) (n ∷ with_one m ns)) q ≡ (m.file == q || (n.file == q || is_made ns q))
      by_cases true h = refl
      by_cases false h = ap (λ b. n.file == q || b) h ∙ or-swap (n.file == q) (m.file == q) (is_made ns q)

  made_len-with_one : (ms : List Made) (q : ℕ) → is_made ms m.file ≡ false → made_len (with_one m ms) q ≡ cond (m.file == q) m.len (made_len ms q)
  made_len-with_one [] q out = refl
  made_len-with_one (n ∷ ns) q out =
      let parts = or_parts (n.file == m.file) (is_made ns m.file) out in
      by_cases (nat_lt m.file n.file) (made_len-with_one ns q parts.1) (apart n q parts.0)
    where
      apart : (n : Made) (q : ℕ) → (n.file == m.file) ≡ false → (n.file == q) ≡ true → (m.file == q) ≡ false
      apart n q e f = grind (arith, nat_tests)

      swapped : (t u : Bool) (x y z : ℕ) → (t ≡ true → u ≡ false) → cond t x (cond u y z) ≡ cond u y (cond t x z)
      swapped true true x y z f = absurd (both_ways true (f refl) refl)
      swapped true false x y z f = refl
      swapped false true x y z f = refl
      swapped false false x y z f = refl

      by_cases : (t : Bool) → made_len (with_one m ns) q ≡ cond (m.file == q) m.len (made_len ns q) → ((n.file == q) ≡ true → (m.file == q) ≡ false)
          → made_len (cond t (m ∷ n ∷ ns) (n ∷ with_one m ns)) q ≡ cond (m.file == q) m.len (cond (n.file == q) n.len (made_len ns q))
      by_cases true h f = refl
      by_cases false h f = ap (cond (n.file == q) n.len) h ∙ swapped (n.file == q) (m.file == q) n.len m.len (made_len ns q) f

  lowest-with_one : (n : Made) (ms : List Made) → is_lowest n ms ≡ true → nat_lt n.file m.file ≡ true → is_lowest n (with_one m ms) ≡ true
  lowest-with_one n [] h lt = lt
  lowest-with_one n (k ∷ ks) h lt = by_cases (nat_lt m.file k.file)
    where
      by_cases : (t : Bool) → is_lowest n (cond t (m ∷ k ∷ ks) (k ∷ with_one m ks)) ≡ true
      by_cases true = lt
      by_cases false = h

  pub is_rising-with_one : (ms : List Made) → is_rising ms ≡ true → is_made ms m.file ≡ false → is_rising (with_one m ms) ≡ true
  is_rising-with_one [] h out = refl
  is_rising-with_one (n ∷ ns) h out =
      let parts = and_parts (is_lowest n ns) (is_rising ns) h in
      let outs = or_parts (n.file == m.file) (is_made ns m.file) out in
      by_cases (nat_lt m.file n.file) refl (is_rising-with_one ns parts.1 outs.1) parts.0 outs.0
    where
      after : (n : Made) → nat_lt m.file n.file ≡ false → (n.file == m.file) ≡ false → nat_lt n.file m.file ≡ true
      after n a b = grind (arith, nat_tests)

      by_cases : (t : Bool) → nat_lt m.file n.file ≡ t → is_rising (with_one m ns) ≡ true → is_lowest n ns ≡ true → (n.file == m.file) ≡ false → is_rising (cond t (m ∷ n ∷ ns) (n ∷ with_one m ns)) ≡ true
      by_cases true e rest low out = and_from (nat_lt m.file n.file) (is_rising (n ∷ ns)) e h
      by_cases false e rest low out = and_from (is_lowest n (with_one m ns)) (is_rising (with_one m ns)) (lowest-with_one n ns low (after n e out)) rest

  pub allowed-with_one : (ms : List Made) → list_all may_be_made ms ≡ true → may_be_made m ≡ true → list_all may_be_made (with_one m ms) ≡ true
  allowed-with_one [] h k = and_from (may_be_made m) true k refl
  allowed-with_one (n ∷ ns) h k =
      let parts = and_parts (may_be_made n) (list_all may_be_made ns) h in
      by_cases (nat_lt m.file n.file) (allowed-with_one ns parts.1 k) parts.0
    where
      by_cases : (t : Bool) → list_all may_be_made (with_one m ns) ≡ true → may_be_made n ≡ true → list_all may_be_made (cond t (m ∷ n ∷ ns) (n ∷ with_one m ns)) ≡ true
      by_cases true rest own = and_from (may_be_made m) (list_all may_be_made (n ∷ ns)) k h
      by_cases false rest own = and_from (may_be_made n) (list_all may_be_made (with_one m ns)) own rest

  length-with_one : (ms : List Made) → length (with_one m ms) ≡ length ms + 1
  length-with_one [] = omega arith
  length-with_one (n ∷ ns) = by_cases (nat_lt m.file n.file) (length-with_one ns)
    where
      by_cases : (t : Bool) → length (with_one m ns) ≡ length ns + 1 → length (cond t (m ∷ n ∷ ns) (n ∷ with_one m ns)) ≡ length (n ∷ ns) + 1
      by_cases true e = omega arith
      by_cases false e = omega (arith, e)

  -- the image with one more file made
  pub with_made-with_one : (ms : List Made) (image : Image) → is_rising ms ≡ true → is_made ms m.file ≡ false → with_made (with_one m ms) image ≡ insert (with_made ms image) m.file (replicate m.len 0)
  with_made-with_one ms image h out = same_image (with_made (with_one m ms) image) (insert (with_made ms image) m.file (replicate m.len 0)) (λ q.
      get-with_made (with_one m ms) image q (is_rising-with_one ms h out)
      ∙ ap (λ b. cond b (Some (zeros_of (with_one m ms) q)) (get image q)) (is_made-with_one ms q)
      ∙ ap (λ n. cond (m.file == q || is_made ms q) (Some (replicate n 0)) (get image q)) (made_len-with_one ms q out)
      ∙ by_cases q (m.file == q) (q == m.file) (is_made ms q) (eq_turned m.file q)
      ∙ sym (get-put (with_made ms image) m.file (replicate m.len 0) q ∙ ap (cond (q == m.file) (Some (replicate m.len 0))) (get-with_made ms image q h)))
    where
      by_cases : (q : ℕ) (u t c : Bool) → u ≡ t → cond (u || c) (Some (replicate (cond u m.len (made_len ms q)) 0)) (get image q) ≡ cond t (Some (replicate m.len 0)) (cond c (Some (replicate (made_len ms q) 0)) (get image q))
      by_cases q true true c e = refl
      by_cases q true false c e = absurd (false≢true (sym e))
      by_cases q false true c e = absurd (false≢true e)
      by_cases q false false c e = refl

-- the image without one more file that was just made
pub without_made-with_one : (m : Made) (ms : List Made) (image : Image) (bytes : List ℕ) → get image m.file ≡ None → without_made (with_one m ms) (insert image m.file bytes) ≡ without_made ms image
without_made-with_one m ms image bytes none = same_image (without_made (with_one m ms) (insert image m.file bytes)) (without_made ms image) (λ q.
    get-without_made (with_one m ms) (insert image m.file bytes) q
    ∙ ap (λ b. cond b None (get (insert image m.file bytes) q)) (is_made-with_one m ms q)
    ∙ ap (cond (m.file == q || is_made ms q) None) (get-put image m.file bytes q)
    ∙ by_cases (m.file == q) (q == m.file) (is_made ms q) (Some bytes) (get image q) (eq_turned m.file q) (λ e. ap (get image) (eqb-true q m.file e) ∙ none)
    ∙ sym (get-without_made ms image q))
  where
    by_cases : (u t c : Bool) (x y : Option (List ℕ)) → u ≡ t → (t ≡ true → y ≡ None) → cond (u || c) None (cond t x y) ≡ cond c None y
    by_cases true true true x y e f = refl
    by_cases true true false x y e f = sym (f refl)
    by_cases true false c x y e f = absurd (false≢true (sym e))
    by_cases false true c x y e f = absurd (false≢true e)
    by_cases false false true x y e f = refl
    by_cases false false false x y e f = refl

-- ---- all of them
pub is_made-with_all : (ms ns : List Made) (q : ℕ) → is_made (with_all ms ns) q ≡ (is_made ns q || is_made ms q)
is_made-with_all ms [] q = refl
is_made-with_all ms (n ∷ ns) q = is_made-with_all (with_one n ms) ns q ∙ ap (λ b. is_made ns q || b) (is_made-with_one n ms q) ∙ or-swap (is_made ns q) (n.file == q) (is_made ms q)
  where
    or-swap : (a b c : Bool) → (a || (b || c)) ≡ ((b || a) || c)
    or-swap true true c = refl
    or-swap true false c = refl
    or-swap false true c = refl
    or-swap false false c = refl

pub length-with_all : (ms ns : List Made) → length (with_all ms ns) ≡ length ms + length ns
length-with_all ms [] = omega arith
length-with_all ms (n ∷ ns) = length-with_all (with_one n ms) ns ∙ (let e = length-with_one n ms in omega (arith, e))

-- none of the second is among the first
abbrev pub AreApart : List Made → List Made → Type 0
AreApart ms ns = (q : ℕ) → is_made ns q ≡ true → is_made ms q ≡ false

apart_first : (ms ns : List Made) (n : Made) → AreApart ms (n ∷ ns) → is_made ms n.file ≡ false
apart_first ms ns n apart = apart n.file (or_left (n.file == n.file) (is_made ns n.file) (eq-eqb n.file n.file refl))

apart_rest : (ms ns : List Made) (n : Made) → is_rising (n ∷ ns) ≡ true → AreApart ms (n ∷ ns) → AreApart (with_one n ms) ns
apart_rest ms ns n h apart q made =
    is_made-with_one n ms q
    ∙ or_from (n.file == q) (is_made ms q) (elim (cases_Bool (n.file == q)) [
      | inl e ↦ absurd (both_ways (is_made ns q) (not_later n ns q h (le_of n q e)) made)
      | inr e ↦ e
    ]) (apart q (or_right (n.file == q) (is_made ns q) made))
  where
    le_of : (n : Made) (q : ℕ) → (n.file == q) ≡ true → q ≤ n.file
    le_of n q e = grind (arith, nat_tests)

pub is_rising-with_all : (ms ns : List Made) → is_rising ms ≡ true → is_rising ns ≡ true → AreApart ms ns → is_rising (with_all ms ns) ≡ true
is_rising-with_all ms [] h k apart = h
is_rising-with_all ms (n ∷ ns) h k apart = is_rising-with_all (with_one n ms) ns (is_rising-with_one n ms h (apart_first ms ns n apart)) (rising_rest n ns k) (apart_rest ms ns n k apart)

pub allowed-with_all : (ms ns : List Made) → list_all may_be_made ms ≡ true → list_all may_be_made ns ≡ true → list_all may_be_made (with_all ms ns) ≡ true
allowed-with_all ms [] h k = h
allowed-with_all ms (n ∷ ns) h k = let parts = and_parts (may_be_made n) (list_all may_be_made ns) k in allowed-with_all (with_one n ms) ns (allowed-with_one n ms h parts.0) parts.1

pub with_made-with_all : (ms ns : List Made) (image : Image) → is_rising ms ≡ true → is_rising ns ≡ true → AreApart ms ns → with_made (with_all ms ns) image ≡ with_made ns (with_made ms image)
with_made-with_all ms [] image h k apart = refl
with_made-with_all ms (n ∷ ns) image h k apart =
    with_made-with_all (with_one n ms) ns image (is_rising-with_one n ms h (apart_first ms ns n apart)) (rising_rest n ns k) (apart_rest ms ns n k apart)
    ∙ ap (with_made ns) (with_made-with_one n ms image h (apart_first ms ns n apart))

-- ---- images that agree but at some places
insert_same : (p : ℕ → Bool) (bytes : List ℕ) → FileSame p (Some bytes) (Some bytes)
insert_same p bytes = (refl, λ i out. refl)

same_put : (rs : List Range) (a b : Image) (file : ℕ) (bytes : List ℕ) → SameOutside rs a b → SameOutside rs (insert a file bytes) (insert b file bytes)
same_put rs a b file bytes s = λ q.
    subst (λ (o : Option (List ℕ)). FileSame (is_covered rs q) o (get (insert b file bytes) q)) (sym (get-put a file bytes q))
    (subst (λ (o : Option (List ℕ)). FileSame (is_covered rs q) (cond (q == file) (Some bytes) (get a q)) o) (sym (get-put b file bytes q)) (by_test q (q == file)))
  where
    by_test : (q : ℕ) (t : Bool) → FileSame (is_covered rs q) (cond t (Some bytes) (get a q)) (cond t (Some bytes) (get b q))
    by_test q true = insert_same (is_covered rs q) bytes
    by_test q false = s q

pub same_made : (rs : List Range) (ms : List Made) (a b : Image) → SameOutside rs a b → SameOutside rs (with_made ms a) (with_made ms b)
same_made rs [] a b s = s
same_made rs (m ∷ ms) a b s = same_made rs ms (insert a m.file (replicate m.len 0)) (insert b m.file (replicate m.len 0)) (same_put rs a b m.file (replicate m.len 0) s)
