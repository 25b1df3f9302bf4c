-- The constant fields are right exactly where phase 9's test of them holds.
use Rattle.std.proofs.Common.{◌≡◌, ℕ, zero, suc, ℤ, pos, negsuc, ◌≤◌, ◌<◌, ◌≤ℤ◌, inl, inr, Bool, true, false, List, [], ◌∷◌, length, drop, get_or, refl, sym, ◌∙◌, ap, subst, arith}
use Rattle.std.specs.Prelude.{◌||◌, ◌==◌, nat_lt, if◌then◌else◌}
use Rattle.std.specs.List.{list_all}
use Rattle.std.proofs.lemmas.Bool.{false≢true, eqb-true}
use Rattle.std.proofs.lemmas.Bool.Decides.{nat_tests}
use Rattle.std.proofs.lemmas.Int.{ints}
use Rattle.mm_base.specs.Places.{null}
use Rattle.mm_base.specs.declared.place.DiskLoc.{DiskLoc}
use Rattle.mm_frames.specs.declared.details.Details.{Details}
use Rattle.mm_frames.specs.declared.index_pair.IndexPair.{IndexPair}
use Rattle.mm_links.proofs.LinkLaws.{both, either}
use Rattle.mm_records.specs.Constants.{is_collection, flag_of, no_pair, HasConstants}
use Rattle.mm_check.specs.RecordChain.{is_pos, is_minus_one}
use Rattle.mm_check.specs.ExtentChain.{nat_of}
use Rattle.mm_check.specs.CountQuestions.{is_index_count, is_spare, flag_is, constants_right}
use Rattle.mm_check.proofs.RecordLaws.{nat_lt_of, eq_of, and_of, is_pos_true, is_pos_of, null_file, minus_one_is}

nat_lt_true : (m n : ℕ) → nat_lt m n ≡ true → m < n
nat_lt_true m n e = grind (arith, nat_tests)

-- ---- pairs that name no index

null_test : (d : DiskLoc) → d ≡ null → is_minus_one d.file ≡ true
null_test d e = ap (λ (x : DiskLoc). is_minus_one x.file) e

spare_true : (p : IndexPair) → is_spare p ≡ true → p ≡ no_pair
spare_true p h =
    let t = both _ _ h in
    let a = null_file p.head (minus_one_is p.head.file t.0) in
    let b = null_file p.info (minus_one_is p.info.file t.1) in
    λ i. record { head = a i; info = b i }

spare_of : (p : IndexPair) → p ≡ no_pair → is_spare p ≡ true
spare_of p e = ap is_spare e

all_at : (n : ℕ) (xs : List IndexPair) (i : ℕ) → list_all is_spare (drop n xs) ≡ true → n ≤ i → get_or xs i no_pair ≡ no_pair
all_at n [] i h le = refl
all_at zero (x ∷ xs) zero h le = spare_true x (both _ _ h).0
all_at zero (x ∷ xs) (suc i) h le = all_at zero xs i (both _ _ h).1 (omega arith)
all_at (suc n) (x ∷ xs) zero h le = absurd (omega (arith, le))
all_at (suc n) (x ∷ xs) (suc i) h le = all_at n xs i h (omega (arith, le))

all_of : (n : ℕ) (xs : List IndexPair) → ((i : ℕ) → n ≤ i → i < length xs → get_or xs i no_pair ≡ no_pair) → list_all is_spare (drop n xs) ≡ true
all_of zero [] f = refl
all_of (suc n) [] f = refl
all_of zero (x ∷ xs) f = and_of _ _ (spare_of x (f 0 (omega arith) (omega arith))) (all_of zero xs (λ i le lt. f (suc i) (omega arith) (omega (arith, lt))))
all_of (suc n) (x ∷ xs) f = all_of n xs (λ i le lt. f (suc i) (omega (arith, le)) (omega (arith, lt)))

-- ---- numbers

index_count : (name : List ℕ) (z : ℤ) → is_index_count name z ≡ true → (n : ℕ) × (n < 11) × (z ≡ pos n) × (is_collection name ≡ false → n ≡ 0)
index_count name (pos n) h =
    let t = both _ _ h in (
      n,
      nat_lt_true n 11 t.0,
      refl,
      λ f. elim (either (is_collection name) (n == 0) t.1) [ inl y ↦ absurd (false≢true (sym f ∙ y)) | inr e ↦ eqb-true n 0 e ],
    )
index_count name (negsuc n) h = absurd (false≢true h)

count_of : (name : List ℕ) (z : ℤ) (n : ℕ) → z ≡ pos n → n < 11 → (is_collection name ≡ false → z ≡ pos 0) → is_index_count name z ≡ true
count_of name (negsuc m) n e lt f = absurd cc
count_of name (pos m) n e lt f =
    let s : m ≡ n = cc in
    and_of _ _ (nat_lt_of m 11 (omega (arith, s, lt))) (by (is_collection name) refl)
  where
    by : (b : Bool) → is_collection name ≡ b → (b || (m == 0)) ≡ true
    by true g = refl
    by false g = let h : pos m ≡ pos 0 = f g in eq_of m 0 cc

flag_true : (name : List ℕ) (z : ℤ) → flag_is name z ≡ true → z ≡ flag_of name
flag_true name z h = by (is_collection name) h
  where
    by : (b : Bool) → is_pos z (if b then 1 else 0) ≡ true → z ≡ (if b then pos 1 else pos 0)
    by true g = is_pos_true z 1 g
    by false g = is_pos_true z 0 g

flag_test : (name : List ℕ) (z : ℤ) → z ≡ flag_of name → flag_is name z ≡ true
flag_test name z h = by (is_collection name) h
  where
    by : (b : Bool) → z ≡ (if b then pos 1 else pos 0) → is_pos z (if b then 1 else 0) ≡ true
    by true g = is_pos_of z 1 g
    by false g = is_pos_of z 0 g

pos_at_least : (n i : ℕ) → pos n ≤ℤ pos i → n ≤ i
pos_at_least n i h = omega (arith, ints, h)

pub constants_stand : (name : List ℕ) (d : Details) → constants_right name d ≡ true → HasConstants name d
constants_stand name d h =
    let a = both _ _ h in let b = both _ _ a.1 in let c = both _ _ b.1 in let e = both _ _ c.1 in let f = both _ _ e.1 in let g = both _ _ f.1 in
    let n = index_count name d.n_indexes a.0 in
    let u = both _ _ c.0 in let v = both _ _ u.1 in let w = both _ _ v.1 in
    let p = both _ _ g.1 in let q = both _ _ p.1 in let r = both _ _ q.1 in let s = both _ _ r.1 in
    record {
      few_indexes = (n.0, n.1, n.2);
      no_indexes = λ x. n.2 ∙ ap pos (n.3 x);
      spare_pairs = λ i le lt. all_at (nat_of d.n_indexes) d.indexes i b.0 (subst (λ (k : ℕ). k ≤ i) (sym (ap nat_of n.2)) (pos_at_least n.0 i (subst (λ (z : ℤ). z ≤ℤ pos i) n.2 le)));
      is_capped = is_pos_true _ _ u.0;
      max_docs = is_pos_true _ _ v.0;
      padding = eqb-true _ _ e.0;
      system_flags = flag_true name d.system_flags f.0;
      cap_extent = null_file d.cap_extent (minus_one_is _ w.0);
      cap_first_new_record = null_file d.cap_first_new_record (minus_one_is _ w.1);
      data_file_version = eqb-true _ _ p.0;
      index_file_version = eqb-true _ _ q.0;
      multikey = eqb-true _ _ r.0;
      extra_offset = is_pos_true _ _ s.0;
      index_builds = is_pos_true _ _ s.1;
      user_flags = flag_true name d.user_flags g.0;
    }

pub constants_test : (name : List ℕ) (d : Details) → length d.indexes ≡ 10 → HasConstants name d → constants_right name d ≡ true
constants_test name d long x =
    let n = x.few_indexes in
    and_of _ _ (count_of name d.n_indexes n.0 n.2 n.1 x.no_indexes)
    (and_of _ _ (all_of (nat_of d.n_indexes) d.indexes (λ i le lt. x.spare_pairs i (subst (λ (z : ℤ). z ≤ℤ pos i) (sym n.2) (pos_least n.0 i (subst (λ (k : ℕ). k ≤ i) (ap nat_of n.2) le))) (omega (arith, lt, long))))
    (and_of _ _ (and_of _ _ (is_pos_of _ _ x.is_capped) (and_of _ _ (is_pos_of _ _ x.max_docs) (and_of _ _ (null_test d.cap_extent x.cap_extent) (null_test d.cap_first_new_record x.cap_first_new_record))))
    (and_of _ _ (eq_of _ _ x.padding)
    (and_of _ _ (flag_test name d.system_flags x.system_flags)
    (and_of _ _ (flag_test name d.user_flags x.user_flags)
    (and_of _ _ (eq_of _ _ x.data_file_version) (and_of _ _ (eq_of _ _ x.index_file_version) (and_of _ _ (eq_of _ _ x.multikey) (and_of _ _ (is_pos_of _ _ x.extra_offset) (is_pos_of _ _ x.index_builds))))))))))
  where
    pos_least : (n i : ℕ) → n ≤ i → pos n ≤ℤ pos i
    pos_least n i h = omega (arith, ints, h)
