-- Pairs of different places are never equal.
use Rattle.std.proofs.Common.{◌≡◌, pos, Bool, true, false, List, [], ◌∷◌, ◌++◌, refl, sym, ◌∙◌, ap}
use Rattle.std.specs.Prelude.{◌&&◌, ◌||◌, not}
use Rattle.std.specs.declared.cmp.Ordering.{Ordering}
use Rattle.std.specs.declared.cmp.Ordering.TheVariants.{Less, Equal, Greater}
use Rattle.std.specs.Ordering.{ordering_then, is_eq}
use Rattle.std.proofs.lemmas.Bool.{or_parts}
use Rattle.mm_base.specs.declared.place.DiskLoc.{DiskLoc}
use Rattle.mm_bson.specs.Tree.{Elements}
use Rattle.mm_bson.specs.Walk.{document_in}
use Rattle.mm_keys.specs.KeyOrder.{key_compare}
use Rattle.mm_bucket.specs.Order.{place_compare}
use Rattle.mm_links.specs.Links.{Place, same, has, once}
use Rattle.mm_links.proofs.LinkLaws.{both, not_true, same_not, not_same}
use Rattle.mm_extents.specs.Heap.{live}
use Rattle.mm_extents.specs.Changes.{loc, IsLow}
use Rattle.mm_extents.proofs.Spots.{low_file}
use Rattle.mm_extents.proofs.FileLaws.{low_place}
use Rattle.mm_records.proofs.Owning.{lives}
use Rattle.mm_btree.specs.Order.{item_compare}
use Rattle.mm_btree.proofs.Places.{place_eq-true}
use Rattle.mm_standing.specs.Documents.{Laid, places}
use Rattle.mm_standing.specs.Indexes.{item_of}
use Rattle.mm_standing.specs.Items.{LaidAreLow, OnceApart}

-- ---- places

-- eight bytes name one place
one_place : (p q : Place) → IsLow p → IsLow q → loc p ≡ loc q → p ≡ q
one_place p q l m e =
    let a = low_file p l in let b = low_file q m in
    let f : pos p.0 ≡ pos q.0 = sym a.0 ∙ ap (λ (x : DiskLoc). x.file) e ∙ b.0 in
    let o : pos p.1 ≡ pos q.1 = sym a.1 ∙ ap (λ (x : DiskLoc). x.ofs) e ∙ b.1 in
    let file : p.0 ≡ q.0 = cc in
    let ofs : p.1 ≡ q.1 = cc in
    λ i. (file i, ofs i)

pub laid_are_low : LaidAreLow
laid_are_low d image s name [] st h = tt
laid_are_low d image s name (l ∷ ls) st h =
    let it = h.0 in
    let own = lives s name l.at it.room it.live in
    (low_place image s.heap l.at (live own.h it.room) st.stands.files st.stands.heap own.here, laid_are_low d image s name ls st h.1)

-- ---- a place that stands once

neither : (a b : Bool) → a ≡ false → b ≡ false → (a || b) ≡ false
neither a b e f = rw (e, f) refl

turned : (p q : Place) → same p q ≡ false → same q p ≡ false
turned p q h = same_not q p (λ e. not_same p q h (sym e))

-- a place that isn't among these is neither the one in the middle nor among the others
has_apart : (ls ms : List Laid) (l : Laid) (p : Place) → has (places (ls ++ l ∷ ms)) p ≡ false → (same l.at p ≡ false) × (has (places (ls ++ ms)) p ≡ false)
has_apart [] ms l p h = or_parts (same l.at p) (has (places ms) p) h
has_apart (k ∷ ls) ms l p h =
    let t = or_parts (same k.at p) (has (places (ls ++ l ∷ ms)) p) h in
    let u = has_apart ls ms l p t.1 in
    (u.0, neither (same k.at p) (has (places (ls ++ ms)) p) t.0 u.1)

pub once_apart : OnceApart
once_apart [] ms l h = let t = both (not (has (places ms) l.at)) (once (places ms)) h in (not_true (has (places ms) l.at) t.0, t.1)
once_apart (k ∷ ls) ms l h =
    let t = both (not (has (places (ls ++ l ∷ ms)) k.at)) (once (places (ls ++ l ∷ ms))) h in
    let u = once_apart ls ms l t.1 in
    let v = has_apart ls ms l k.at (not_true (has (places (ls ++ l ∷ ms)) k.at) t.0) in
    (neither (same k.at l.at) (has (places (ls ++ ms)) l.at) (turned l.at k.at v.0) u.0, apart_and (has (places (ls ++ ms)) k.at) (once (places (ls ++ ms))) v.1 u.1)
  where
    apart_and : (a b : Bool) → a ≡ false → b ≡ true → (not a && b) ≡ true
    apart_and a b e f = rw (e, f) refl

-- ---- pairs

rest_equal : (o r : Ordering) → ordering_then o r ≡ Equal → is_eq r ≡ true
rest_equal Less r e = absurd cc
rest_equal Equal r e = ap is_eq e
rest_equal Greater r e = absurd cc

-- equal pairs are of one place
pub equal_places : (spec : Elements) (k l : Laid) → IsLow k.at → IsLow l.at → item_compare spec (item_of spec k) (item_of spec l) ≡ Equal → k.at ≡ l.at
equal_places spec k l a b e =
    one_place k.at l.at a b (place_eq-true (loc k.at) (loc l.at)
    (rest_equal (key_compare spec (document_in (item_of spec k).key) (document_in (item_of spec l).key)) (place_compare (loc k.at) (loc l.at)) e))

pub differ : (spec : Elements) (k l : Laid) → IsLow k.at → IsLow l.at → same k.at l.at ≡ false → item_compare spec (item_of spec k) (item_of spec l) ≡ Equal → ⊥
differ spec k l a b n e = not_same k.at l.at n (equal_places spec k l a b e)
