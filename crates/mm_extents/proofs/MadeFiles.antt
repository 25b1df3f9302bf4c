-- A data file is made behind the last one.
use Rattle.std.proofs.Common.{◌≡◌, ℕ, ℤ, pos, suc, zero, ◌+◌, ◌-◌, ◌<◌, ◌≤◌, ◌^◌, inl, inr, Bool, true, false, cond, List, [], ◌∷◌, length, take, Option, Some, None, refl, sym, ◌∙◌, ap, subst, arith, length-take-le}
use Rattle.std.specs.Prelude.{◌==◌, if◌then◌else◌, nat_lt, min, replicate, unwrap_or, is_some}
use Rattle.std.specs.Option.{option_map}
use Rattle.std.specs.FinMap.{get, insert, get-insert}
use Rattle.std.specs.Cmp.{nat_cmp_total, unsigned_tied}
use Rattle.std.proofs.lemmas.Bool.{cases_Bool, eqb-true, eq-eqb, cases_lt}
use Rattle.std.proofs.lemmas.Bool.Decides.{nat_tests}
use Rattle.std.proofs.Math.Pow.{pow_mono}
use Rattle.std.proofs.lemmas.List.{length-replicate, drop-replicate, take-replicate}
use Rattle.mm_base.specs.Bytes.{part, zeros}
use Rattle.mm_ranges.specs.Bytes.{read_from}
use Rattle.mm_ranges.specs.Overlay.{Image, bytes_at, laid}
use Rattle.mm_ranges.specs.declared.part.Made.{Made}
use Rattle.mm_views.specs.Made.{with_one}
use Rattle.mm_views.specs.State.{Drafting}
use Rattle.mm_ranges.specs.declared.limits.TheConstants.{NS_FILE}
use Rattle.mm_frames.specs.FileHeader.{file_header_bytes, file_header_of}
use Rattle.mm_frames.specs.declared.file_header.FileHeader.{FileHeader}
use Rattle.mm_frames.specs.declared.free_ends.FreeEnds.{FreeEnds}
use Rattle.mm_links.specs.Links.{Place}
use Rattle.mm_links.proofs.LinkLaws.{if_true, if_false}
use Rattle.mm_extents.specs.Heap.{Cell, extent, live, deleted, size, Heap, IsHeap}
use Rattle.mm_extents.specs.Changes.{written, len_of}
use Rattle.mm_extents.specs.Files.{file_len, header_with, header_unused, unused_in, IsHeader, FilesStand}
use Rattle.mm_extents.specs.Tiling.{Outline, ground, IsTiled}
use Rattle.mm_extents.specs.FreeExtents.{HasFree}
use Rattle.mm_extents.specs.Rests.{IsLast, NoRest, IsMade, IsLastShort}
use Rattle.mm_extents.proofs.Fields.{read_is}
use Rattle.mm_extents.proofs.FileLaws.{file_len_most}
use Rattle.mm_extents.proofs.Writes.{shows_same, laid_elsewhere, len_laid}
use Rattle.mm_extents.proofs.Headers.{loc_ofs, header_again, long_there}
use Rattle.mm_extents.proofs.HeaderWrites.{header_long}

pub file_len_least : (k : ℕ) → 1048576 ≤ file_len k
file_len_least k =
    let some : 2 ^ 0 ≤ 2 ^ min k 6 = pow_mono {i = 0} {j = min k 6} (omega arith) in
    omega (arith, some)

-- a header names its unused rest
pub unused_of : (image : Image) (k u : ℕ) → k < 8 → u ≤ file_len k → part 0 8192 (bytes_at image k) ≡ file_header_bytes (header_with k u) → unused_in image k ≡ Some (pos u)
unused_of image k u low to header =
    let yes' : nat_lt k 8 ≡ true = grind (arith, nat_tests) in
    let h = header_long k u in
    let most = file_len_most k in
    let fits : (length (file_header_bytes (header_with k u)) == 8192) ≡ true = eq-eqb _ _ h in
    ap (λ (b : Bool). if b then header_unused (part 0 8192 (bytes_at image k)) else None) yes' ∙ ap header_unused header
    ∙ ap (λ (b : Bool). if b then Some (file_header_of (file_header_bytes (header_with k u))).unused.ofs else None) fits
    ∙ ap (λ (x : FileHeader). Some x.unused.ofs) (header_again k u) ∙ ap (λ (z : ℤ). Some z) (loc_ofs k u low (omega (arith, to, most)))

pub get-made : (image : Image) (file : ℕ) (bytes : List ℕ) (q : ℕ) → get (insert image file bytes) q ≡ cond (q == file) (Some bytes) (get image q)
get-made image file bytes q = get-insert nat_cmp_total image file bytes q ∙ ap (λ t. cond t (Some bytes) (get image q)) (unsigned_tied q file)

pub not_there : (image : Image) (k : ℕ) → len_of image k ≡ None → get image k ≡ None
not_there image k e = by (get image k) refl
  where
    by : (o : Option (List ℕ)) → get image k ≡ o → get image k ≡ None
    by None g = g
    by (Some b) g = absurd (let z : Some (length b) ≡ None = sym (ap (λ (o : Option (List ℕ)). option_map length o) g) ∙ e in cc)

pub no_bytes : (image : Image) (k : ℕ) → len_of image k ≡ None → bytes_at image k ≡ []
no_bytes image k e = ap (λ (o : Option (List ℕ)). unwrap_or o []) (not_there image k e)

some_size : (c : Cell) → 0 < size c
some_size (extent h) = omega arith
some_size (live h room) = omega arith
some_size (deleted h rest) = omega arith

some_same : (x y : ℤ) → Some x ≡ Some y → x ≡ y
some_same x y e = cc

one_number : (a b : ℕ) → Some a ≡ Some b → a ≡ b
one_number a b e = cc

-- no header stands where no bytes are
no_header : header_unused (part 0 8192 []) ≡ None
unfolding part
no_header = refl

pub no_unused : (image : Image) (k : ℕ) → len_of image k ≡ None → (z : ℤ) → unused_in image k ≡ Some z → ⊥
no_unused image k e z g = elim (cases_Bool (nat_lt k 8)) [
  | inl y ↦ (let f : None ≡ Some z = sym no_header ∙ ap (λ (b : List ℕ). header_unused (part 0 8192 b)) (sym (no_bytes image k e)) ∙ sym (ap (λ (b : Bool). if b then header_unused (part 0 8192 (bytes_at image k)) else None) y) ∙ g in cc)
  | inr n ↦ (let f : None ≡ Some z = sym (ap (λ (b : Bool). if b then header_unused (part 0 8192 (bytes_at image k)) else None) n) ∙ g in cc)
]

pub ns_apart : (f : ℕ) → f < 8 → (NS_FILE == f) ≡ false
ns_apart f lt = grind (arith, nat_tests)

-- zeros in zeros
pub part_zeros : (n len : ℕ) → 24 + n ≤ len → part 24 n (replicate len 0) ≡ zeros n
unfolding part zeros
part_zeros n len le = ap (take n) (drop-replicate 24 len 0) ∙ take-replicate n (len - 24) 0 (omega (arith, le))

-- one more made file
pub length-with_one : (m : Made) (ms : List Made) → length (with_one m ms) ≡ suc (length ms)
length-with_one m [] = refl
length-with_one m (n ∷ ns) = elim (cases_Bool (nat_lt m.file n.file)) [
  | inl y ↦ ap length (if_true (nat_lt m.file n.file) (m ∷ n ∷ ns) (n ∷ with_one m ns) y)
  | inr k ↦ ap length (if_false (nat_lt m.file n.file) (m ∷ n ∷ ns) (n ∷ with_one m ns) k) ∙ ap (λ (l : ℕ). suc l) (length-with_one m ns)
]

-- what the files hold once a file of zeros is there and has its header
module _ (image new : Image) (k len : ℕ) (bytes : List ℕ) (some : 0 < length bytes) (few : length bytes ≤ 8192) (long : 8192 ≤ len) (is : new ≡ laid k 0 bytes (insert image k (replicate len 0))) where
  abbrev mid : Image
  mid = insert image k (replicate len 0)

  pub mid_here : bytes_at mid k ≡ replicate len 0
  mid_here = ap (λ (o : Option (List ℕ)). unwrap_or o []) (get-made image k (replicate len 0) k ∙ ap (λ (b : Bool). cond b (Some (replicate len 0)) (get image k)) (eq-eqb k k refl))

  mid_off : (g : ℕ) → (g == k) ≡ false → get mid g ≡ get image g
  mid_off g m = get-made image k (replicate len 0) g ∙ ap (λ (b : Bool). cond b (Some (replicate len 0)) (get image g)) m

  pub mid_long : length (bytes_at mid k) ≡ len
  mid_long = ap length mid_here ∙ length-replicate len 0

  pub off_new : (g : ℕ) → (g == k) ≡ false → bytes_at new g ≡ bytes_at image g
  off_new g m = ap (λ (i : Image). bytes_at i g) is ∙ laid_elsewhere mid k 0 g bytes m ∙ ap (λ (o : Option (List ℕ)). unwrap_or o []) (mid_off g m)

  lens_mid : (g : ℕ) → len_of new g ≡ len_of mid g
  lens_mid g = ap (λ (i : Image). len_of i g) is ∙ len_laid mid k 0 bytes g (omega (arith, some)) (let l = mid_long in omega (arith, l, few, long))

  pub lens_new : (g : ℕ) → (g == k) ≡ false → len_of new g ≡ len_of image g
  lens_new g m = lens_mid g ∙ ap (λ (o : Option (List ℕ)). option_map length o) (mid_off g m)

  pub long_new : len_of new k ≡ Some len
  long_new = lens_mid k ∙ ap (λ (o : Option (List ℕ)). option_map length o) (get-made image k (replicate len 0) k ∙ ap (λ (b : Bool). cond b (Some (replicate len 0)) (get image k)) (eq-eqb k k refl)) ∙ ap (λ (n : ℕ). Some n) (length-replicate len 0)

-- one more file, behind the last one
module _ (image new : Image) (k : ℕ) (last : IsLast image k) (more : k < 7)
    (off : (g : ℕ) → (g == k + 1) ≡ false → bytes_at new g ≡ bytes_at image g) (lens : (g : ℕ) → (g == k + 1) ≡ false → len_of new g ≡ len_of image g)
    (long : len_of new (k + 1) ≡ Some (file_len (k + 1))) (header : part 0 8192 (bytes_at new (k + 1)) ≡ file_header_bytes (header_with (k + 1) 8192)) where
  absent : len_of image (k + 1) ≡ None
  absent = last.none (k + 1) (omega arith) (omega (arith, more))

  apart_of : (g : ℕ) → (g ≡ k + 1 → ⊥) → (g == k + 1) ≡ false
  apart_of g ne = elim (cases_Bool (g == k + 1)) [ inl y ↦ absurd (ne (eqb-true g (k + 1) y)) | inr n ↦ n ]

  pub ns_made : bytes_at new NS_FILE ≡ bytes_at image NS_FILE
  ns_made = off NS_FILE (apart_of NS_FILE (λ e. omega (arith, e, more)))

  pub unused_made : unused_in new (k + 1) ≡ Some (pos 8192)
  unused_made = let least = file_len_least (k + 1) in unused_of new (k + 1) 8192 (omega (arith, more)) (omega (arith, least)) header

  unused_off : (g : ℕ) → (g == k + 1) ≡ false → unused_in new g ≡ unused_in image g
  unused_off g m = ap (λ (b : List ℕ). if nat_lt g 8 then header_unused (part 0 8192 b) else None) (off g m)

  pub last_made : IsLast new (k + 1)
  last_made = record {
    low = omega (arith, more);
    there = long;
    before = λ j lt. elim (cases_lt j k) [
      | inl less ↦ lens j (apart_of j (λ e. omega (arith, e, less))) ∙ last.before j less
      | inr more' ↦ let same : j ≡ k = omega (arith, lt, more') in lens j (apart_of j (λ e. omega (arith, e, same))) ∙ ap (len_of image) same ∙ last.there ∙ ap (λ (x : ℕ). Some (file_len x)) (sym same)
    ];
    none = λ j lt low. lens j (apart_of j (λ e. omega (arith, e, lt))) ∙ last.none j (omega (arith, lt)) low;
  }

  header_at : IsHeader (k + 1) (part 0 8192 (bytes_at new (k + 1)))
  header_at = let least = file_len_least (k + 1) in record { unused = 8192; spelled = header; from = omega arith; to = omega (arith, least) }

  pub files_made : FilesStand image → FilesStand new
  files_made fs = record {
    names = (fs.names.0, fs.names.1, fs.names.2, lens NS_FILE (apart_of NS_FILE (λ e. omega (arith, e, more))) ∙ fs.names.3);
    first = lens 0 (apart_of 0 (λ e. omega (arith, e))) ∙ fs.first;
    long = λ f n lt e. elim (cases_Bool (f == k + 1)) [
      | inl y ↦ let z = eqb-true f (k + 1) y in one_number n (file_len f) (sym e ∙ ap (len_of new) z ∙ long ∙ ap (λ (x : ℕ). Some (file_len x)) (sym z))
      | inr m ↦ fs.long f n lt (sym (lens f m) ∙ e)
    ];
    no_gap = λ f lt e. elim (cases_Bool (f == k + 1)) [
      | inl y ↦ absurd (let z : Some (file_len (k + 1)) ≡ None = sym long ∙ ap (len_of new) (sym (eqb-true f (k + 1) y)) ∙ e in cc)
      | inr m ↦ elim (cases_Bool (suc f == k + 1)) [
        | inl y ↦
            let z = eqb-true (suc f) (k + 1) y in
            let same_k : f ≡ k = omega (arith, z) in
            absurd (let x : Some (file_len k) ≡ None = sym last.there ∙ ap (len_of image) (sym same_k) ∙ sym (lens f m) ∙ e in cc)
        | inr o ↦ lens (suc f) o ∙ fs.no_gap f lt (sym (lens f m) ∙ e)
      ]
    ];
    headers = λ f n lt e. elim (cases_Bool (f == k + 1)) [
      | inl y ↦ subst (λ (g : ℕ). IsHeader g (part 0 8192 (bytes_at new g))) (sym (eqb-true f (k + 1) y)) header_at
      | inr m ↦ subst (λ (b : List ℕ). IsHeader f (part 0 8192 b)) (sym (off f m)) (fs.headers f n lt (sym (lens f m) ∙ e))
    ];
  }

  heap_made : (heap : Heap) → IsHeap image heap → IsHeap new heap
  heap_made heap is = record {
    data_file = is.data_file;
    behind_header = is.behind_header;
    inside = λ q c e. let i = is.inside q c e in let l = ap length (off q.0 (other q c e)) in omega (arith, i, l);
    shown = λ q c e. shows_same c q.1 (bytes_at image q.0) (bytes_at new q.0) (λ x m lo hi. ap (part x m) (off q.0 (other q c e))) (is.shown q c e);
    apart = is.apart;
  }
    where
      other : (q : Place) (c : Cell) → heap q ≡ Some c → (q.0 == k + 1) ≡ false
      other q c e = apart_of q.0 (λ f.
          let i = is.inside q c e in
          let s = some_size c in
          let none = ap (λ (g : ℕ). length (bytes_at image g)) f ∙ ap length (no_bytes image (k + 1) absent) in
          omega (arith, i, s, none))

  tiled_made : (g : Place → Option Outline) (db : List ℕ) → IsTiled g (unused_in image) db → IsTiled g (unused_in new) db
  tiled_made g db t = record {
    begins = λ f u e. elim (cases_Bool (f == k + 1)) [
      | inl y ↦
          let same_u : pos u ≡ pos 8192 = some_same (pos u) (pos 8192) (sym e ∙ ap (unused_in new) (eqb-true f (k + 1) y) ∙ unused_made) in
          let number : 8192 ≡ u = cc in
          inl number
      | inr m ↦ t.begins f u (sym (unused_off f m) ∙ e)
    ];
    extents = λ f at magic here name len e.
        let o = t.extents f at magic here name len e in
        let m : (f == k + 1) ≡ false = apart_of f (λ x. no_unused image (k + 1) absent (pos o.0) (ap (unused_in image) (sym x) ∙ o.1)) in
        (o.0, unused_off f m ∙ o.1, o.2);
    apart = t.apart;
    blocks = t.blocks;
  }

  pub has_free_made : (db : List ℕ) (heap : Heap) (chain : List Place) (ends : FreeEnds) → HasFree image db heap chain ends → HasFree new db heap chain ends
  has_free_made db heap chain ends f = record {
    files = files_made f.files;
    shown = heap_made heap f.shown;
    tiled = tiled_made (ground heap) db f.tiled;
    linked = f.linked;
    on_chain = f.on_chain;
    first = f.first;
    last = f.last;
  }

-- ---- which file is the last

-- where a file isn't there, none behind it is
none_from : (image : Image) → FilesStand image → (k n : ℕ) → len_of image k ≡ None → k + n < 8 → len_of image (k + n) ≡ None
none_from image fs k zero e lt = let z : k ≡ k + 0 = omega arith in ap (len_of image) (sym z) ∙ e
none_from image fs k (suc n) e lt =
    let z : suc (k + n) ≡ k + suc n = omega arith in
    ap (len_of image) (sym z) ∙ fs.no_gap (k + n) (omega (arith, lt)) (none_from image fs k n e (omega (arith, lt)))

-- it is there, with its length
there_of : (image : Image) (k : ℕ) → FilesStand image → k < 8 → (len_of image k ≡ None → ⊥) → len_of image k ≡ Some (file_len k)
there_of image k fs lt some = by (len_of image k) refl
  where
    by : (o : Option ℕ) → len_of image k ≡ o → len_of image k ≡ Some (file_len k)
    by None e = absurd (some e)
    by (Some n) e = e ∙ ap (λ (x : ℕ). Some x) (fs.long k n lt e)

-- where a file is there, those before it are
before_of : (image : Image) (k : ℕ) → FilesStand image → k < 8 → len_of image k ≡ Some (file_len k) → (j : ℕ) → j < k → len_of image j ≡ Some (file_len j)
before_of image k fs low there j lt = there_of image j fs (omega (arith, lt, low)) (λ none.
    let z : k ≡ j + (k - j) = omega (arith, lt) in
    let gone : len_of image k ≡ None = ap (len_of image) z ∙ none_from image fs j (k - j) none (omega (arith, lt, low)) in
    let c : Some (file_len k) ≡ None = sym there ∙ gone in
    cc)

pub is_last_file : (image : Image) (k : ℕ) → FilesStand image → k < 7 → len_of image k ≡ Some (file_len k) → len_of image (k + 1) ≡ None → IsLast image k
is_last_file image k fs more there none = record {
  low = omega (arith, more);
  there = there;
  before = before_of image k fs (omega (arith, more)) there;
  none = λ j lt low. let z : j ≡ k + 1 + (j - (k + 1)) = omega (arith, lt) in ap (len_of image) z ∙ none_from image fs (k + 1) (j - (k + 1)) none (omega (arith, lt, low));
}

pub is_last_of_all : (image : Image) → FilesStand image → len_of image 7 ≡ Some (file_len 7) → IsLast image 7
is_last_of_all image fs there = record { low = omega arith; there = there; before = before_of image 7 fs (omega arith) there; none = λ j lt low. absurd (omega (arith, lt, low)) }

-- there is one last file
pub last_once : (image : Image) (j k : ℕ) → IsLast image j → IsLast image k → j ≡ k
last_once image j k a b = elim (cases_lt j k) [
  | inl lt ↦ absurd (let z : Some (file_len k) ≡ None = sym b.there ∙ a.none k lt b.low in cc)
  | inr ge ↦ elim (cases_lt k j) [
    | inl gt ↦ absurd (let z : Some (file_len j) ≡ None = sym a.there ∙ b.none j gt a.low in cc)
    | inr le ↦ omega (arith, ge, le)
  ]
]

-- one that is there, behind the last that was looked at
pub there_next : (image : Image) (k : ℕ) → FilesStand image → k < 7 → (len_of image (k + 1) ≡ None → ⊥) → len_of image (k + 1) ≡ Some (file_len (k + 1))
there_next image k fs more some = there_of image (k + 1) fs (omega (arith, more)) some

-- an absent file isn't up to the last one
pub past_last : (image : Image) (k j : ℕ) → IsLast image k → len_of image j ≡ None → k < j
past_last image k j l e = elim (cases_lt k j) [
  | inl lt ↦ lt
  | inr ge ↦ elim (cases_lt j k) [
    | inl less ↦ absurd (let z : Some (file_len j) ≡ None = sym (l.before j less) ∙ e in cc)
    | inr more ↦ absurd (let same : j ≡ k = omega (arith, ge, more) in let z : Some (file_len k) ≡ None = sym l.there ∙ ap (len_of image) (sym same) ∙ e in cc)
  ]
]

-- ---- what is read of a header

pub read_header : (image : Image) (k n : ℕ) (buf : List ℕ) (r : FileHeader) → n ≡ 8192 → 8192 ≤ length (bytes_at image k) → buf ≡ read_from 0 n (bytes_at image k) → r ≡ file_header_of (part 0 8192 buf) → r ≡ file_header_of (part 0 8192 (bytes_at image k))
read_header image k n buf r e le is h = read_is file_header_of 0 8192 (bytes_at image k) buf r le (is ∙ ap (λ (m : ℕ). read_from 0 m (bytes_at image k)) e) h

module _ (image : Image) (k : ℕ) (fs : FilesStand image) (low : k < 8) (there : len_of image k ≡ Some (file_len k)) where
  pub long_here : 8192 ≤ length (bytes_at image k)
  long_here = let l = long_there image k (file_len k) there in let least = file_len_least k in omega (arith, l, least)

  abbrev h : IsHeader k (part 0 8192 (bytes_at image k))
  h = fs.headers k (file_len k) low there

  pub header_ofs : (r : FileHeader) → r ≡ file_header_of (part 0 8192 (bytes_at image k)) → r.unused.ofs ≡ pos h.unused
  header_ofs r e =
      let to = h.to in
      let most = file_len_most k in
      ap (λ (x : FileHeader). x.unused.ofs) (e ∙ ap file_header_of h.spelled ∙ header_again k h.unused) ∙ loc_ofs k h.unused low (omega (arith, to, most))

  pub header_unused_is : unused_in image k ≡ Some (pos h.unused)
  header_unused_is = unused_of image k h.unused low h.to h.spelled

  pub header_from : 8192 ≤ h.unused
  header_from = h.from

  pub header_to : h.unused ≤ file_len k
  header_to = h.to

pub no_some : {X : Type 0} (o : Option X) → is_some o ≡ false → o ≡ None
no_some None e = refl
no_some (Some x) e = absurd cc

pub some_some : {X : Type 0} (o : Option X) → is_some o ≡ true → o ≡ None → ⊥
some_some None e f = cc
some_some (Some x) e f = cc

-- ---- no more room

module _ (image : Image) (k u len : ℕ) (last : IsLast image k) (known : unused_in image k ≡ Some (pos u)) where
  one_unused : (j v : ℕ) → IsLast image j → unused_in image j ≡ Some (pos v) → (j ≡ k) × (v ≡ u)
  one_unused j v l e =
      let same : j ≡ k = last_once image j k l last in
      let ofs : pos v ≡ pos u = some_same (pos v) (pos u) (sym e ∙ ap (unused_in image) same ∙ known) in
      let number : v ≡ u = cc in
      (same, number)

  -- the last file has fewer bytes
  pub last_short : file_len k < u + len → IsLastShort image len
  last_short few j v l e = let one = one_unused j v l e in let f = ap file_len one.0 in let g = one.1 in omega (arith, few, f, g)

  pub no_rest : file_len k < u + len → ((j : ℕ) → j < 8 → len_of image j ≡ None → file_len j < 8192 + len) → NoRest image len
  no_rest few others = record { last = last_short few; others = others }

  -- there is room in the last file
  pub some_rest : u + len ≤ file_len k → NoRest image len → ⊥
  some_rest le n = let few = n.last k u last known in omega (arith, le, few)

-- there is room in a file that isn't there
pub some_other : (image : Image) (len : ℕ) (at : Place) → at.0 < 8 → IsMade image at len → at.1 + len ≤ file_len at.0 → NoRest image len → ⊥
some_other image len at low m fits n = let few = n.others at.0 low m.absent in let front = m.front in omega (arith, fits, few, front)

-- ---- the two calls that make a file

pub mid_is : (old mid : Drafting) (k len : ℕ) (made : List Made) → mid ≡ record old { image = insert old.image k (replicate len 0); made = made; is_reserved = false } → len ≡ file_len k → mid.image ≡ insert old.image k (replicate (file_len k) 0)
mid_is old now k len made e f = ap (λ (d : Drafting). d.image) e ∙ ap (λ (n : ℕ). insert old.image k (replicate n 0)) f

module _ (image mid : Image) (k : ℕ) (e : mid ≡ insert image k (replicate (file_len k) 0)) where
  pub room_there : 8192 ≤ length (bytes_at mid k)
  room_there =
      let least = file_len_least k in
      let long = ap (λ (i : Image). length (bytes_at i k)) e ∙ mid_long image (laid k 0 (0 ∷ []) (insert image k (replicate (file_len k) 0))) k (file_len k) (0 ∷ []) (omega arith) (omega arith) (omega (arith, least)) refl in
      omega (arith, least, long)

  pub zeros_made : part 24 8168 (bytes_at mid k) ≡ zeros 8168
  zeros_made =
      let least = file_len_least k in
      ap (λ (i : Image). part 24 8168 (bytes_at i k)) e ∙ ap (part 24 8168) (mid_here image (laid k 0 (0 ∷ []) (insert image k (replicate (file_len k) 0))) k (file_len k) (0 ∷ []) (omega arith) (omega arith) (omega (arith, least)) refl)
      ∙ part_zeros 8168 (file_len k) (omega (arith, least))

module _ (image : Image) (j : ℕ) (old new : Drafting) (e : old.image ≡ insert image (j + 1) (replicate (file_len (j + 1)) 0)) (last : IsLast image j) (more : j < 7)
    (w : new ≡ written (j + 1) 0 (take 24 (file_header_bytes (header_with (j + 1) 8192))) old) (header : part 0 8192 (bytes_at new.image (j + 1)) ≡ file_header_bytes (header_with (j + 1) 8192)) where
  abbrev k : ℕ
  k = j + 1

  abbrev fields : List ℕ
  fields = take 24 (file_header_bytes (header_with k 8192))

  fields_long : length fields ≡ 24
  fields_long = let h = header_long k 8192 in length-take-le 24 (file_header_bytes (header_with k 8192)) (omega (arith, h))

  is : new.image ≡ laid k 0 fields (insert image k (replicate (file_len k) 0))
  is = ap (λ (d : Drafting). d.image) w ∙ ap (laid k 0 fields) e

  some : 0 < length fields
  some = let l = fields_long in omega (arith, l)

  few : length fields ≤ 8192
  few = let l = fields_long in omega (arith, l)

  long : 8192 ≤ file_len k
  long = let least = file_len_least k in omega (arith, least)

  off : (g : ℕ) → (g == k) ≡ false → bytes_at new.image g ≡ bytes_at image g
  off = off_new image new.image k (file_len k) fields some few long is

  lens : (g : ℕ) → (g == k) ≡ false → len_of new.image g ≡ len_of image g
  lens = lens_new image new.image k (file_len k) fields some few long is

  here : len_of new.image k ≡ Some (file_len k)
  here = long_new image new.image k (file_len k) fields some few long is

  pub made_stands : (db : List ℕ) (heap : Heap) (chain : List Place) (ends : FreeEnds) → HasFree image db heap chain ends → HasFree new.image db heap chain ends
  made_stands = has_free_made image new.image j last more off lens here header

  pub made_last : IsLast new.image k
  made_last = last_made image new.image j last more off lens here header

  pub made_unused : unused_in new.image k ≡ Some (pos 8192)
  made_unused = unused_made image new.image j last more off lens here header

  pub made_ns : bytes_at new.image NS_FILE ≡ bytes_at image NS_FILE
  made_ns = ns_made image new.image j last more off lens here header
