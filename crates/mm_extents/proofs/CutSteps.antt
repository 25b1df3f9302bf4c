-- An extent is cut from the unused rest of a data file.
use Rattle.std.proofs.Common.{◌≡◌, ◌≢◌, ℕ, ℤ, pos, ◌+◌, ◌-◌, ◌%◌, ◌<◌, ◌≤◌, inl, inr, Bool, true, false, List, length, Option, Some, None, refl, sym, ◌∙◌, ap, subst, arith}
use Rattle.std.specs.Prelude.{◌==◌, if◌then◌else◌, nat_lt}
use Rattle.std.specs.Option.{option_map}
use Rattle.std.proofs.lemmas.Bool.{cases_Bool, eqb-true, eq-eqb}
use Rattle.std.proofs.lemmas.Bool.Decides.{nat_tests}
use Rattle.mm_base.specs.Bytes.{part, padded}
use Rattle.mm_base.proofs.Parts.{part_behind}
use Rattle.mm_ranges.specs.Overlay.{Image, bytes_at, laid}
use Rattle.mm_ranges.specs.declared.limits.TheConstants.{NS_FILE}
use Rattle.mm_frames.specs.Texts.{text_in}
use Rattle.mm_frames.specs.FileHeader.{file_header_bytes, file_header_of}
use Rattle.mm_frames.specs.declared.file_header.FileHeader.{FileHeader}
use Rattle.mm_frames.specs.declared.free_ends.FreeEnds.{FreeEnds}
use Rattle.mm_links.specs.Links.{Place, same, has}
use Rattle.mm_links.proofs.LinkLaws.{same_not, relinked}
use Rattle.mm_extents.specs.Heap.{Cell, extent, live, deleted, size, Heap, IsHeap}
use Rattle.mm_extents.specs.Changes.{loc_or, len_of, KeepsHeaders, behind_of}
use Rattle.mm_extents.specs.Files.{file_len, header_with, header_unused, unused_in, IsHeader, FilesStand}
use Rattle.mm_extents.specs.Tiling.{a_block, outline, ground, IsTiled}
use Rattle.mm_extents.specs.Chains.{ext_next, ext_prev}
use Rattle.mm_extents.specs.FreeExtents.{HasFree, IsClear, header_made, whole_block, with_extent, IsCutOff}
use Rattle.mm_extents.proofs.FileLaws.{files_kept, file_len_most}
use Rattle.mm_extents.proofs.Writes.{laid_here, laid_elsewhere, len_laid, shows_same}
use Rattle.mm_extents.proofs.Within.{two_first, two_second, two_there}
use Rattle.mm_extents.proofs.BlockWrites.{long_laid}
use Rattle.mm_extents.proofs.Headers.{loc_ofs, header_again}
use Rattle.mm_extents.proofs.HeaderWrites.{header_long}
use Rattle.mm_extents.proofs.Grown.{below_unused, grown_tiled}

-- what is written inside a data file's header leaves the heap
module _ (image : Image) (file : ℕ) (bytes : List ℕ) (few : length bytes ≤ 8192) (there : 8192 ≤ length (bytes_at image file)) (low : file < 8) where
  abbrev image1 : Image
  image1 = laid file 0 bytes image

  long_same : (f : ℕ) → length (bytes_at image1 f) ≡ length (bytes_at image f)
  long_same f = elim (cases_Bool (f == file)) [
    | inl y ↦ ap (λ (g : ℕ). length (bytes_at image1 g)) (eqb-true f file y) ∙ long_laid image file 0 bytes (omega (arith, few, there)) ∙ ap (λ (g : ℕ). length (bytes_at image g)) (sym (eqb-true f file y))
    | inr m ↦ ap length (laid_elsewhere image file 0 f bytes m)
  ]

  parts_same : (f q m : ℕ) → 8192 ≤ q → part q m (bytes_at image1 f) ≡ part q m (bytes_at image f)
  parts_same f q m le = elim (cases_Bool (f == file)) [
    | inl y ↦ ap (λ (g : ℕ). part q m (bytes_at image1 g)) (eqb-true f file y) ∙ ap (part q m) (laid_here image file 0 bytes (omega arith))
        ∙ part_behind q m 0 bytes (bytes_at image file) (omega (arith, few, le)) (omega arith) ∙ ap (λ (g : ℕ). part q m (bytes_at image g)) (sym (eqb-true f file y))
    | inr m' ↦ ap (part q m) (laid_elsewhere image file 0 f bytes m')
  ]

  pub heap_stays : (heap : Heap) → IsHeap image heap → IsHeap image1 heap
  heap_stays heap is = record {
    data_file = is.data_file;
    behind_header = is.behind_header;
    inside = λ q c e. let a = is.inside q c e in let l = long_same q.0 in omega (arith, a, l);
    shown = λ q c e. let b = is.behind_header q c e in shows_same c q.1 (bytes_at image q.0) (bytes_at image1 q.0) (λ x m lo hi. parts_same q.0 x m (omega (arith, lo, b))) (is.shown q c e);
    apart = is.apart;
  }

-- the files after their header was written
module _ (image : Image) (file u n : ℕ) (fs : FilesStand image) (low : file < 8) (known : unused_in image file ≡ Some (pos u)) (from : 8192 ≤ u + n) (to : u + n ≤ file_len file) (bytes : List ℕ) (some : 0 < length bytes) (few : length bytes ≤ 8192)
    (there : len_of image file ≡ Some (file_len file)) (long : 8192 ≤ length (bytes_at image file))
    (header : part 0 8192 (bytes_at (laid file 0 bytes image) file) ≡ file_header_bytes (header_with file (u + n))) where
  abbrev new : Image
  new = laid file 0 bytes image

  lens : (f : ℕ) → len_of new f ≡ len_of image f
  lens f = len_laid image file 0 bytes f (omega (arith, some)) (omega (arith, few, long))

  off : (f : ℕ) → (f == file) ≡ false → bytes_at new f ≡ bytes_at image f
  off f m = laid_elsewhere image file 0 f bytes m

  pub files_again : FilesStand new
  files_again = record {
    names = (fs.names.0, fs.names.1, fs.names.2, lens NS_FILE ∙ fs.names.3);
    first = lens 0 ∙ fs.first;
    long = λ f m lt e. fs.long f m lt (sym (lens f) ∙ e);
    no_gap = λ f lt e. lens _ ∙ fs.no_gap f lt (sym (lens f) ∙ e);
    headers = λ f m lt e. elim (cases_Bool (f == file)) [
      | inl y ↦ subst (λ (g : ℕ). IsHeader g (part 0 8192 (bytes_at new g))) (sym (eqb-true f file y)) (let h : IsHeader file (part 0 8192 (bytes_at new file)) = record { unused = u + n; spelled = header; from = from; to = to } in h)
      | inr k ↦ subst (λ (b : List ℕ). IsHeader f (part 0 8192 b)) (sym (off f k)) (fs.headers f m lt (sym (lens f) ∙ e))
    ];
  }

  pub unused_off : (f : ℕ) → (f == file) ≡ false → unused_in new f ≡ unused_in image f
  unused_off f m = ap (λ (b : List ℕ). if nat_lt f 8 then header_unused (part 0 8192 b) else None) (off f m)

  pub unused_now : unused_in new file ≡ Some (pos (u + n))
  unused_now =
      let yes' : nat_lt file 8 ≡ true = grind (arith, nat_tests) in
      let h = header_long file (u + n) in
      let most = file_len_most file in
      let fits : (length (file_header_bytes (header_with file (u + n))) == 8192) ≡ true = eq-eqb _ _ h in
      ap (λ (b : Bool). if b then header_unused (part 0 8192 (bytes_at new file)) else None) yes' ∙ ap header_unused header
      ∙ ap (λ (b : Bool). if b then Some (file_header_of (file_header_bytes (header_with file (u + n)))).unused.ofs else None) fits
      ∙ ap (λ (x : FileHeader). Some x.unused.ofs) (header_again file (u + n)) ∙ ap (λ (z : ℤ). Some z) (loc_ofs file (u + n) low (omega (arith, to, most)))

-- all together
module _ (image : Image) (db : List ℕ) (heap : Heap) (chain : List Place) (ends : FreeEnds) (f : HasFree image db heap chain ends) (e : Place) (n : ℕ) (known : unused_in image e.0 ≡ Some (pos e.1)) (pages : n % 4096 ≡ 0) (long : 4096 ≤ n) where
  below : (q : Place) (c : Cell) → heap q ≡ Some c → q.0 ≡ e.0 → q.1 + size c ≤ e.1
  below q c g file = below_unused heap (unused_in image) db f.tiled e.0 e.1 q.1 c known (ap (λ (k : ℕ). heap (k, q.1)) (sym file) ∙ g)

  some_size : (c : Cell) → 0 < size c
  some_size (extent h) = omega arith
  some_size (live h room) = omega arith
  some_size (deleted h rest) = omega arith

  pub clear : IsClear heap e n
  clear q c g ne file = inl (below q c g file)

  above : (k : ℕ) → heap (behind_of e k) ≡ None
  above k = by (heap (behind_of e k)) refl
    where
      by : (o : Option Cell) → heap (behind_of e k) ≡ o → heap (behind_of e k) ≡ None
      by None g = g
      by (Some c) g = absurd (let b = below (behind_of e k) c g refl in let s = some_size c in omega (arith, b, s))

  none : heap e ≡ None
  none = let same : e.1 + 0 ≡ e.1 = omega arith in ap (λ (a : ℕ). heap (e.0, a)) (sym same) ∙ above 0

  empty : heap (behind_of e 176) ≡ None
  empty = above 176

  e_isnt_b : same e (behind_of e 176) ≡ false
  e_isnt_b = same_not e (behind_of e 176) (λ g. (let k : e.1 ≡ e.1 + 176 = ap (λ (q : Place). q.1) g in omega (arith, k)))

  module _ (mid i3 : Image) (files : FilesStand mid) (unused_here : unused_in mid e.0 ≡ Some (pos (e.1 + n))) (unused_there : (g : ℕ) → (g == e.0) ≡ false → unused_in mid g ≡ unused_in image g)
      (k : KeepsHeaders mid i3) (name : List ℕ) (named : text_in (padded 128 name) ≡ name) (isnt : name ≢ db) (rest : List ℕ) (rest_long : length rest ≡ n - 192) (heap3 : IsHeap i3 (with_extent e name n rest heap)) where
    abbrev t : Heap
    t = with_extent e name n rest heap

    t_here : t e ≡ Some (extent (header_made e name n))
    t_here = two_first e (extent (header_made e name n)) (behind_of e 176) (deleted (whole_block e n) rest) heap

    t_behind : t (behind_of e 176) ≡ Some (deleted (whole_block e n) rest)
    t_behind = two_second e (extent (header_made e name n)) (behind_of e 176) (deleted (whole_block e n) rest) heap e_isnt_b

    t_there : (q : Place) → same e q ≡ false → same (behind_of e 176) q ≡ false → t q ≡ heap q
    t_there q x y = two_there e (extent (header_made e name n)) (behind_of e 176) (deleted (whole_block e n) rest) heap q x y

    t_on : (q : Place) → has chain q ≡ true → t q ≡ heap q
    t_on q i = let x = f.on_chain q i in t_there q (same_not e q (λ g. (let z : None ≡ Some (extent x.0) = sym none ∙ ap heap g ∙ x.1 in cc))) (same_not (behind_of e 176) q (λ g. (let z : None ≡ Some (extent x.0) = sym empty ∙ ap heap g ∙ x.1 in cc)))

    tiled_mid : IsTiled (ground t) (unused_in mid) db
    tiled_mid = grown_tiled (ground heap) (ground t) (unused_in image) (unused_in mid) db f.tiled e (padded 128 name) n known unused_here unused_there pages long (ap (padded 128) (sym named)) (λ g. isnt (sym named ∙ g))
        (ap (λ (o : Option Cell). option_map outline o) none) (ap (λ (o : Option Cell). option_map outline o) empty) (ap (λ (o : Option Cell). option_map outline o) t_here)
        (ap (λ (o : Option Cell). option_map outline o) t_behind ∙ ap (λ (m : ℕ). Some (a_block (pos e.1) (pos (n - 176)) m)) (let g : 16 + length rest ≡ n - 176 = omega (arith, rest_long, long) in g))
        (λ q x y. ap (λ (o : Option Cell). option_map outline o) (t_there q x y))

    unused_same : (g : ℕ) → unused_in mid g ≡ unused_in i3 g
    unused_same g = ap (λ (b : List ℕ). if nat_lt g 8 then header_unused b else None) (sym (k.headers g))

    pub has_free : HasFree i3 db t chain ends
    has_free = record {
      files = files_kept mid i3 k.lengths (λ g lt. k.headers g) files;
      shown = heap3;
      tiled = subst (λ (u : ℕ → Option ℤ). IsTiled (ground t) u db) (λ i g. unused_same g i) tiled_mid;
      linked = relinked loc_or chain (λ q. ext_next (heap q)) (λ q. ext_prev (heap q)) (λ q. ext_next (t q)) (λ q. ext_prev (t q)) f.linked (λ q i. ap ext_next (t_on q i)) (λ q i. ap ext_prev (t_on q i));
      on_chain = λ q i. let x = f.on_chain q i in (x.0, t_on q i ∙ x.1, x.2);
      first = f.first;
      last = f.last;
    }

    pub cut_off : IsCutOff heap t e name n
    cut_off = record { none = none; empty = empty; here = t_here; rest = rest; rest_long = rest_long; block = t_behind; others = t_there }
