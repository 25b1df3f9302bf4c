-- The header of a new extent and of its block are written.
use Rattle.std.proofs.Common.{◌≡◌, ℕ, ◌+◌, ◌-◌, ◌<◌, ◌≤◌, List, length, refl, ◌∙◌, ap, arith}
use Rattle.mm_base.specs.Bytes.{part, overwritten}
use Rattle.mm_base.proofs.Parts.{length-part, length-overwritten, part-overwritten, part_before, part_behind}
use Rattle.mm_ranges.specs.Overlay.{Image, bytes_at, laid}
use Rattle.mm_frames.specs.ExtentHeader.{extent_header_of}
use Rattle.mm_frames.specs.DeletedHeader.{deleted_header_of}
use Rattle.mm_frames.specs.declared.extent_header.ExtentHeader.{ExtentHeader}
use Rattle.mm_frames.specs.declared.deleted_header.DeletedHeader.{DeletedHeader}
use Rattle.mm_links.specs.Links.{Place}
use Rattle.mm_extents.specs.Heap.{extent, deleted, Heap, IsHeap}
use Rattle.mm_extents.specs.Changes.{behind_of, put_two}
use Rattle.mm_extents.specs.FreeExtents.{IsClear}
use Rattle.mm_extents.proofs.Writes.{laid_here, laid_elsewhere}
use Rattle.mm_extents.proofs.Within.{SameBut, IsNew, two_within}

module _ (image : Image) (heap : Heap) (e : Place) (n : ℕ) (is : IsHeap image heap) (clear : IsClear heap e n) (data_file : e.0 < 8) (behind : 8192 ≤ e.1) (inside : e.1 + n ≤ length (bytes_at image e.0)) (long : 4096 ≤ n)
    (hb db : List ℕ) (hlong : length hb ≡ 176) (dlong : length db ≡ 16) (h : ExtentHeader) (d : DeletedHeader) (hh : extent_header_of hb ≡ h) (dh : deleted_header_of db ≡ d) where
  abbrev image1 : Image
  image1 = laid e.0 e.1 hb image

  abbrev image2 : Image
  image2 = laid e.0 (e.1 + 176) db image1

  abbrev rest : List ℕ
  rest = part (e.1 + 192) (n - 192) (bytes_at image e.0)

  first : bytes_at image1 e.0 ≡ overwritten e.1 hb (bytes_at image e.0)
  first = laid_here image e.0 e.1 hb (omega (arith, inside))

  long1 : length (bytes_at image1 e.0) ≡ length (bytes_at image e.0)
  long1 = ap length first ∙ length-overwritten e.1 hb (bytes_at image e.0) (omega (arith, inside, hlong, long))

  second : bytes_at image2 e.0 ≡ overwritten (e.1 + 176) db (bytes_at image1 e.0)
  second = laid_here image1 e.0 (e.1 + 176) db (omega (arith, inside, long1, long))

  long2 : length (bytes_at image2 e.0) ≡ length (bytes_at image e.0)
  long2 = ap length second ∙ length-overwritten (e.1 + 176) db (bytes_at image1 e.0) (omega (arith, inside, long1, dlong, long)) ∙ long1

  before2 : (q m : ℕ) → q + m ≤ e.1 + 176 → part q m (bytes_at image2 e.0) ≡ part q m (bytes_at image1 e.0)
  before2 q m le = ap (part q m) second ∙ part_before q m (e.1 + 176) db (bytes_at image1 e.0) le (omega (arith, inside, long1, long))

  behind2 : (q m : ℕ) → e.1 + 192 ≤ q → part q m (bytes_at image2 e.0) ≡ part q m (bytes_at image e.0)
  behind2 q m le = ap (part q m) second ∙ part_behind q m (e.1 + 176) db (bytes_at image1 e.0) (omega (arith, le, dlong)) (omega (arith, inside, long1, long))
      ∙ ap (part q m) first ∙ part_behind q m e.1 hb (bytes_at image e.0) (omega (arith, le, hlong)) (omega (arith, inside))

  same_but : SameBut e n image image2
  same_but = record {
    elsewhere = λ f ne. laid_elsewhere image1 e.0 (e.1 + 176) f db ne ∙ laid_elsewhere image e.0 e.1 f hb ne;
    long = long2;
    before = λ q m le. before2 q m (omega (arith, le)) ∙ ap (part q m) first ∙ part_before q m e.1 hb (bytes_at image e.0) le (omega (arith, inside));
    behind = λ q m le. behind2 q m (omega (arith, le, long));
  }

  rest_long : length rest ≡ n - 192
  rest_long = length-part (e.1 + 192) (n - 192) (bytes_at image e.0) (omega (arith, inside, long))

  header_new : IsNew e n image2 e (extent h)
  header_new = record {
    file = refl;
    from = omega arith;
    to = omega (arith, long);
    shows = ap extent_header_of (before2 e.1 176 (omega arith) ∙ ap (part e.1 176) first ∙ part-overwritten e.1 176 hb (bytes_at image e.0) (omega (arith, inside)) hlong) ∙ hh;
  }

  block_new : IsNew e n image2 (behind_of e 176) (deleted d rest)
  block_new = record {
    file = refl;
    from = omega arith;
    to = omega (arith, rest_long, long);
    shows = (
      ap deleted_header_of (ap (part (e.1 + 176) 16) second ∙ part-overwritten (e.1 + 176) 16 db (bytes_at image1 e.0) (omega (arith, inside, long1, long)) dlong) ∙ dh,
      ap (λ (m : ℕ). part (e.1 + 176 + 16) m (bytes_at image2 e.0)) rest_long ∙ behind2 (e.1 + 176 + 16) (n - 192) (omega arith)
          ∙ ap (λ (a : ℕ). part a (n - 192) (bytes_at image e.0)) (let f : e.1 + 176 + 16 ≡ e.1 + 192 = omega arith in f),
    );
  }

  pub new_written : IsHeap (laid e.0 (e.1 + 176) db (laid e.0 e.1 hb image)) (put_two e (extent h) (behind_of e 176) (deleted d (part (e.1 + 192) (n - 192) (bytes_at image e.0))) heap)
  new_written = two_within image image2 heap e n is same_but data_file behind inside (behind_of e 176) (extent h) (deleted d rest) refl header_new block_new (omega arith) (λ q x f m _ file. clear q x f m file)
