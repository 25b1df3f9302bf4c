-- Phase 1 finds nothing exactly where the files stand.
use Rattle.std.proofs.Common.{◌≡◌, ℕ, zero, suc, ◌+◌, ◌-◌, ◌*◌, ◌/◌, ◌%◌, ◌<◌, ◌≤◌, inl, inr, Bool, true, false, List, [], ◌∷◌, length, Option, Some, None, refl, sym, ◌∙◌, ap, subst, arith, div-add-mod'}
use Rattle.std.specs.Prelude.{◌&&◌, ◌==◌, not, is_some, unwrap_or}
use Rattle.std.specs.FinMap.{get}
use Rattle.std.specs.Option.{option_map}
use Rattle.std.proofs.lemmas.Bool.{cases_Bool, cases_lt, false≢true, eqb-true}
use Rattle.std.proofs.lemmas.Bool.Decides.{nat_tests}
use native.Mathlib.Nat.{mul-mod_left}
use Rattle.mm_base.specs.Bytes.{part}
use Rattle.mm_ranges.specs.Overlay.{Image, bytes_at}
use Rattle.mm_ranges.specs.declared.limits.TheConstants.{NS_FILE}
use Rattle.mm_frames.specs.FileHeader.{file_header_of, file_header_bytes}
use Rattle.mm_frames.specs.declared.file_header.FileHeader.{FileHeader}
use Rattle.mm_links.proofs.LinkLaws.{both}
use Rattle.mm_extents.specs.Changes.{len_of}
use Rattle.mm_extents.specs.Files.{file_len, header_with, IsHeader, FilesStand}
use Rattle.mm_extents.proofs.FileLaws.{file_len_most}
use Rattle.mm_extents.proofs.Headers.{header_again, loc_ofs}
use Rattle.mm_records.proofs.Freed.{name_own, name_is}
use Rattle.mm_walk.specs.Questions.{Question, first_failing}
use Rattle.mm_check.specs.ExtentChain.{nat_of, asked}
use Rattle.mm_check.specs.FileQuestions.{is_ns_len, unused_of, is_header, none_from, file_right, data_questions, file_questions}
use Rattle.mm_check.proofs.RecordLaws.{if_yes, if_no, nat_le_of, nat_le_true, eq_of, and_of}

-- ---- questions

pub failing_cons : {P : Type 0} (q : Question P) (qs : List (Question P)) → first_failing (q ∷ qs) ≡ None → (q.holds ≡ true) × (first_failing qs ≡ None)
failing_cons q qs e = elim (cases_Bool q.holds) [
  | inl y ↦ (y, sym (if_yes _ _ _ y) ∙ e)
  | inr n ↦ absurd (let f : Some q.at ≡ None = sym (if_no _ _ _ n) ∙ e in cc)
]

pub cons_failing : {P : Type 0} (q : Question P) (qs : List (Question P)) → q.holds ≡ true → first_failing qs ≡ None → first_failing (q ∷ qs) ≡ None
cons_failing q qs h e = if_yes _ _ _ h ∙ e

-- ---- a header

header_of_test : (k : ℕ) (bytes : List ℕ) → is_header k bytes ≡ true → IsHeader k bytes
header_of_test k bytes h =
    let a = both _ _ h in let b = both _ _ a.1 in
    record { unused = unused_of bytes; spelled = name_is bytes _ a.0; from = nat_le_true _ _ b.0; to = nat_le_true _ _ b.1 }

pub test_of_header : (k : ℕ) (bytes : List ℕ) → k < 8 → IsHeader k bytes → is_header k bytes ≡ true
test_of_header k bytes low x =
    let most = file_len_most k in let to = x.to in
    let of : file_header_of bytes ≡ header_with k x.unused = ap file_header_of x.spelled ∙ header_again k x.unused in
    let u : unused_of bytes ≡ x.unused = ap (λ (h : FileHeader). nat_of h.unused.ofs) of ∙ ap nat_of (loc_ofs k x.unused low (omega (arith, most, to))) in
    and_of _ _ (name_own bytes _ (x.spelled ∙ ap (λ (n : ℕ). file_header_bytes (header_with k n)) (sym u)))
    (and_of _ _ (nat_le_of _ _ (subst (λ (n : ℕ). 8192 ≤ n) (sym u) x.from)) (nat_le_of _ _ (subst (λ (n : ℕ). n ≤ file_len k) (sym u) x.to)))

-- ---- the length of `.ns`

ns_len_true : (o : Option ℕ) → is_ns_len o ≡ true → (n : ℕ) × (o ≡ Some n) × (n % 1048576 ≡ 0) × (1048576 ≤ n) × (n ≤ 16777216)
ns_len_true None e = absurd (false≢true e)
ns_len_true (Some n) e = let a = both _ _ e in let b = both _ _ a.1 in (n, refl, eqb-true (n % 1048576) 0 a.0, nat_le_true _ _ b.0, nat_le_true _ _ b.1)

-- whole MiB, by their number
whole_mib : (n : ℕ) → n % 1048576 ≡ 0 → (m : ℕ) × (n ≡ m * 1048576)
whole_mib n e = (n / 1048576, let d = div-add-mod' n 1048576 in omega (arith, d, e))

mib_of : (n : ℕ) → n % 1048576 ≡ 0 → 1048576 ≤ n → n ≤ 16777216 → (m : ℕ) × (1 ≤ m) × (m ≤ 16) × (n ≡ m * 1048576)
mib_of n e lo hi = let w = whole_mib n e in let s = w.1 in (w.0, omega (arith, s, lo), omega (arith, s, hi), s)

ns_len_of : (o : Option ℕ) (m : ℕ) → 1 ≤ m → m ≤ 16 → o ≡ Some (m * 1048576) → is_ns_len o ≡ true
ns_len_of o m lo hi e = subst (λ (p : Option ℕ). is_ns_len p ≡ true) (sym e)
    (and_of _ _ (eq_of _ _ (mul-mod_left m 1048576)) (and_of _ _ (nat_le_of 1048576 (m * 1048576) (omega (arith, lo))) (nat_le_of (m * 1048576) 16777216 (omega (arith, hi)))))

-- ---- file by file

not_zero : (j : ℕ) → not (suc j == 0) ≡ true
not_zero j = grind (arith, nat_tests)

not_there : (o : Option (List ℕ)) → option_map length o ≡ None → not (is_some o) ≡ true
not_there None h = refl
not_there (Some x) h = absurd (let f : Some (length x) ≡ None = h in cc)

none_next : (o : Option (List ℕ)) (b : Bool) → (not (is_some o) && b) ≡ true → option_map length o ≡ None
none_next None b h = refl
none_next (Some x) b h = absurd (false≢true h)

-- what is asked of file j, of those from k on
right_at : (image : Image) (k n j : ℕ) → first_failing (data_questions image k n) ≡ None → k ≤ j → j < k + n → file_right image j (k + n - suc j) (get image j) ≡ true
right_at image k zero j e lo hi = absurd (omega (arith, lo, hi))
right_at image k (suc n) j e lo hi =
    let t = failing_cons (asked (k, 0) (file_right image k n (get image k))) (data_questions image (suc k) n) e in
    elim (cases_Bool (j == k)) [
      | inl y ↦ let s = eqb-true j k y in subst (λ (m : ℕ). file_right image m (k + suc n - suc m) (get image m) ≡ true) (sym s) (subst (λ (m : ℕ). file_right image k m (get image k) ≡ true) (omega arith) t.0)
      | inr m ↦ subst (λ (r : ℕ). file_right image j r (get image j) ≡ true) (omega arith) (right_at image (suc k) n j t.1 (more k j lo m) (omega (arith, hi)))
    ]
  where
    more : (k j : ℕ) → k ≤ j → (j == k) ≡ false → suc k ≤ j
    more k j le ne = elim (cases_lt k j) [ inl lt ↦ lt | inr ge ↦ absurd (false≢true (sym ne ∙ eq_of j k (omega (arith, le, ge)))) ]

all_right : (image : Image) (k n : ℕ) → ((j : ℕ) → k ≤ j → j < k + n → file_right image j (k + n - suc j) (get image j) ≡ true) → first_failing (data_questions image k n) ≡ None
all_right image k zero f = refl
all_right image k (suc n) f =
    cons_failing (asked (k, 0) (file_right image k n (get image k))) (data_questions image (suc k) n)
    (subst (λ (m : ℕ). file_right image k m (get image k) ≡ true) (omega arith) (f k (omega arith) (omega arith)))
    (all_right image (suc k) n (λ j lo hi. subst (λ (m : ℕ). file_right image j m (get image j) ≡ true) (omega arith) (f j (omega (arith, lo)) (omega (arith, hi)))))

module _ (image : Image) where
  here : (k : ℕ) (o : Option (List ℕ)) → get image k ≡ o → (k < 8) → first_failing (data_questions image 0 8) ≡ None → file_right image k (7 - k) o ≡ true
  here k o e lt f = subst (λ (p : Option (List ℕ)). file_right image k (7 - k) p ≡ true) e (subst (λ (m : ℕ). file_right image k m (get image k) ≡ true) (omega (arith, lt)) (right_at image 0 8 k f (omega arith) (omega (arith, lt))))

  -- a file that is there is right
  there : (k n : ℕ) → k < 8 → first_failing (data_questions image 0 8) ≡ None → len_of image k ≡ Some n → (n ≡ file_len k) × IsHeader k (part 0 8192 (bytes_at image k))
  there k n lt f e = by (get image k) refl
    where
      by : (o : Option (List ℕ)) → get image k ≡ o → (n ≡ file_len k) × IsHeader k (part 0 8192 (bytes_at image k))
      by None g = absurd (let h : None ≡ Some n = sym (ap (option_map length) g) ∙ e in cc)
      by (Some bytes) g =
          let h : Some (length bytes) ≡ Some n = sym (ap (option_map length) g) ∙ e in
          let l : length bytes ≡ n = cc in
          let t = both _ _ (here k (Some bytes) g lt f) in
          let b : bytes_at image k ≡ bytes = ap (λ (o : Option (List ℕ)). unwrap_or o []) g in
          (sym l ∙ eqb-true (length bytes) (file_len k) t.0, subst (λ (xs : List ℕ). IsHeader k (part 0 8192 xs)) (sym b) (header_of_test k (part 0 8192 bytes) t.1))

  absent : (k : ℕ) → k < 7 → first_failing (data_questions image 0 8) ≡ None → len_of image k ≡ None → len_of image (suc k) ≡ None
  absent k lt f e = by (get image k) refl
    where
      by : (o : Option (List ℕ)) → get image k ≡ o → len_of image (suc k) ≡ None
      by (Some x) g = absurd (let h : Some (length x) ≡ None = sym (ap (option_map length) g) ∙ e in cc)
      by None g =
          let t = both _ _ (here k None g (omega (arith, lt)) f) in
          let more : 7 - k ≡ suc (6 - k) = omega (arith, lt) in
          none_next (get image (suc k)) (none_from image (suc (suc k)) (6 - k)) (sym (ap (none_from image (suc k)) more) ∙ t.1)

  first_there : first_failing (data_questions image 0 8) ≡ None → len_of image 0 ≡ Some (file_len 0)
  first_there f = by (get image 0) refl
    where
      by : (o : Option (List ℕ)) → get image 0 ≡ o → len_of image 0 ≡ Some (file_len 0)
      by None g = absurd (false≢true (here 0 None g (omega arith) f))
      by (Some bytes) g = ap (option_map length) g ∙ ap (λ (n : ℕ). Some n) (eqb-true (length bytes) (file_len 0) (both _ _ (here 0 (Some bytes) g (omega arith) f)).0)

  pub files_stand : first_failing (file_questions image) ≡ None → FilesStand image
  files_stand e =
      let t = failing_cons (asked (NS_FILE, 0) (is_ns_len (len_of image NS_FILE))) (data_questions image 0 8) e in
      let n = ns_len_true (len_of image NS_FILE) t.0 in
      let m = mib_of n.0 n.2 n.3 n.4 in
      record {
        names = (m.0, m.1, m.2, n.1 ∙ ap (λ (x : ℕ). Some x) m.3);
        first = first_there t.1;
        long = λ k n lt g. (there k n lt t.1 g).0;
        no_gap = λ k lt g. absent k lt t.1 g;
        headers = λ k n lt g. (there k n lt t.1 g).1;
      }

  -- ---- and the other way

  right_back : FilesStand image → (k : ℕ) → k < 8 → file_right image k (7 - k) (get image k) ≡ true
  right_back s k lt = by (get image k) refl
    where
      -- behind an absent file none is there
      none_behind : (n j : ℕ) → j + n ≡ 7 → len_of image j ≡ None → none_from image (suc j) n ≡ true
      none_behind zero j e g = refl
      none_behind (suc n) j e g =
          let next = s.no_gap j (omega (arith, e)) g in
          and_of _ _ (not_there (get image (suc j)) next) (none_behind n (suc j) (omega (arith, e)) next)

      not_first : (j : ℕ) → len_of image j ≡ None → not (j == 0) ≡ true
      not_first zero g = absurd (let h : None ≡ Some (file_len 0) = sym g ∙ s.first in cc)
      not_first (suc j) g = not_zero j

      by : (o : Option (List ℕ)) → get image k ≡ o → file_right image k (7 - k) o ≡ true
      by None g = let n : len_of image k ≡ None = ap (option_map length) g in and_of _ _ (not_first k n) (none_behind (7 - k) k (omega (arith, lt)) n)
      by (Some bytes) g =
          let n : len_of image k ≡ Some (length bytes) = ap (option_map length) g in
          let b : bytes_at image k ≡ bytes = ap (λ (o : Option (List ℕ)). unwrap_or o []) g in
          and_of _ _ (eq_of _ _ (s.long k (length bytes) lt n)) (test_of_header k (part 0 8192 bytes) lt (subst (λ (xs : List ℕ). IsHeader k (part 0 8192 xs)) b (s.headers k (length bytes) lt n)))

  pub no_file_finding : FilesStand image → first_failing (file_questions image) ≡ None
  no_file_finding s =
      let m = s.names in
      cons_failing (asked (NS_FILE, 0) (is_ns_len (len_of image NS_FILE))) (data_questions image 0 8)
      (ns_len_of (len_of image NS_FILE) m.0 m.1 m.2 m.3)
      (all_right image 0 8 (λ j lo hi. subst (λ (r : ℕ). file_right image j r (get image j) ≡ true) (omega (arith, hi)) (right_back s j (omega (arith, hi)))))
