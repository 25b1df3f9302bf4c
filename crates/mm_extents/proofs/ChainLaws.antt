-- An extent on a chain, and the one behind it.
use Rattle.std.proofs.Common.{◌≡◌, ℕ, pos, negsuc, ◌+◌, ◌≤◌, List, length, Option, Some, None, refl, sym, ◌∙◌, ap, subst}
use Rattle.std.specs.Option.{option_map}
use Rattle.mm_base.specs.Bytes.{part}
use Rattle.mm_base.specs.Places.{null}
use Rattle.mm_base.specs.declared.place.DiskLoc.{DiskLoc}
use Rattle.mm_ranges.specs.Overlay.{Image, bytes_at}
use Rattle.mm_frames.specs.ExtentHeader.{extent_header_of}
use Rattle.mm_frames.specs.declared.extent_header.ExtentHeader.{ExtentHeader}
use Rattle.mm_links.specs.Links.{Place, next_in}
use Rattle.mm_links.proofs.LinkLaws.{has_next}
use Rattle.mm_extents.specs.Heap.{extent, Heap}
use Rattle.mm_extents.specs.Changes.{loc, loc_or, IsLow, LowOr}
use Rattle.mm_extents.specs.Chains.{ext_next, OnChain}
use Rattle.mm_extents.proofs.Spots.{low_file}
use Rattle.mm_extents.proofs.FileLaws.{low_place}

module _ (image : Image) (heap : Heap) (extents : List ℕ → List Place) (name : List ℕ) (p : Place) (at : DiskLoc) (o : OnChain image heap extents name p at) where
  pub low : IsLow p
  low = let e = o.chains.on_chain name p o.on in low_place image heap p (extent e.0) o.files o.shown e.1

  pub inside : (q : Place) → p ≡ q → q.1 + 176 ≤ length (bytes_at image q.0)
  inside q pq = let e = o.chains.on_chain name p o.on in subst (λ (r : Place). r.1 + 176 ≤ length (bytes_at image r.0)) pq (o.shown.inside p (extent e.0) e.1)

  pub names_next : (q : Place) (h : ExtentHeader) → p ≡ q → h ≡ extent_header_of (part q.1 176 (bytes_at image q.0)) → h.xnext ≡ loc_or (next_in (extents name) p)
  names_next q h pq e =
      let x = o.chains.on_chain name p o.on in
      let same : h ≡ x.0 = e ∙ ap (λ (r : Place). extent_header_of (part r.1 176 (bytes_at image r.0))) (sym pq) ∙ o.shown.shown p (extent x.0) x.1 in
      ap (λ (g : ExtentHeader). g.xnext) same ∙ sym (ap ext_next x.1) ∙ (o.chains.linked name).behind p o.on

  pub next_low : LowOr (next_in (extents name) p)
  next_low = by (next_in (extents name) p) refl
    where
      by : (n : Option Place) → next_in (extents name) p ≡ n → LowOr n
      by None e = tt
      by (Some q) e = let x = o.chains.on_chain name q (has_next (extents name) p q e) in low_place image heap q (extent x.0) o.files o.shown x.1

pub none_is : (x : DiskLoc) (n : Option Place) → x ≡ loc_or n → LowOr n → x ≡ null → None ≡ option_map loc n
none_is x None e l z = refl
none_is x (Some q) e l z = absurd (let f : pos q.0 ≡ negsuc 0 = sym (low_file q l).0 ∙ ap (λ (d : DiskLoc). d.file) (sym e ∙ z) in cc)

pub some_is : (x : DiskLoc) (n : Option Place) → x ≡ loc_or n → (x ≡ null → ⊥) → Some x ≡ option_map loc n
some_is x None e ne = absurd (ne e)
some_is x (Some q) e ne = ap (λ (d : DiskLoc). Some d) e
