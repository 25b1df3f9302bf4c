-- Which bytes are exactly those of a table.
use Rattle.std.proofs.Common.{◌≡◌, ℕ, ◌+◌, ◌*◌, ◌≤◌, true, List, [], ◌∷◌, ◌++◌, length, take, drop, sym, ap, ◌∙◌, arith}
use Rattle.std.proofs.lemmas.Bool.{eqb-true}
use Rattle.std.proofs.lemmas.List.{take-append-drop, drop-drop, drop_all}
use Rattle.mm_base.specs.Bytes.{part}
use Rattle.mm_base.specs.Fields.{u16_bytes, u32_bytes, u64_bytes, i32_bytes, i64_bytes}
use Rattle.mm_base.specs.Lists.{list_bytes}
use Rattle.mm_base.specs.Places.{place_bytes}
use Rattle.mm_base.specs.Tables.{Cell, u16, u32, u64, i32, i64, place, places, cell, reserved, offset, width, spelling, Has, HasAll, joined, tiles}
use Rattle.mm_base.proofs.Parts.{length-part}
use Rattle.mm_base.proofs.Spelled.{AreBytes, bytes_of_part, u16_spelled, u32_spelled, u64_spelled, i32_spelled, i64_spelled}
use Rattle.mm_base.proofs.TableLaws.{tiled, AreSpelled}

joined_from : (k n : ℕ) (bytes : List ℕ) (cs : List Cell) → tiles k cs n ≡ true → length bytes ≡ n → AreSpelled bytes cs → drop k bytes ≡ joined cs
unfolding joined part
joined_from k n bytes [] h len are = drop_all k bytes (omega (arith, eqb-true k n h))
joined_from k n bytes (c ∷ cs) h len are =
    let t = tiled k c cs n h in
    let front : take (width c) (drop k bytes) ≡ spelling c = ap (λ (j : ℕ). take (width c) (drop j bytes)) (sym t.ofs) ∙ are.0 in
    let back : drop (width c) (drop k bytes) ≡ joined cs = drop-drop (width c) k bytes ∙ joined_from (k + width c) n bytes cs t.rest len are.1 in
    sym (take-append-drop (width c) (drop k bytes)) ∙ ap (λ (ys : List ℕ). ys ++ drop (width c) (drop k bytes)) front ∙ ap (λ (ys : List ℕ). spelling c ++ ys) back

-- bytes in which each field stands as it is spelled are the table's
pub joined_is : (n : ℕ) (bytes : List ℕ) (cs : List Cell) → tiles 0 cs n ≡ true → length bytes ≡ n → AreSpelled bytes cs → bytes ≡ joined cs
joined_is n bytes cs h len are = joined_from 0 n bytes cs h len are

-- each place stands in these bytes as it is written: a null one with offset 0
abbrev pub PlaceIsWritten : List ℕ → Cell → Type 0
PlaceIsWritten bytes (u16 at n) = Unit {0}
PlaceIsWritten bytes (u32 at n) = Unit {0}
PlaceIsWritten bytes (u64 at n) = Unit {0}
PlaceIsWritten bytes (i32 at z) = Unit {0}
PlaceIsWritten bytes (i64 at z) = Unit {0}
PlaceIsWritten bytes (place at p) = part at 8 bytes ≡ place_bytes p
PlaceIsWritten bytes (places at count ps) = part at (8 * count) bytes ≡ list_bytes place_bytes ps
PlaceIsWritten bytes (cell at w value) = Unit {0}
PlaceIsWritten bytes (reserved at w) = Unit {0}

abbrev pub PlacesAreWritten : List ℕ → List Cell → Type 0
PlacesAreWritten bytes [] = Unit {0}
PlacesAreWritten bytes (c ∷ cs) = PlaceIsWritten bytes c × PlacesAreWritten bytes cs

-- a field that has a value is spelled so, but for the offset of a null place
spelled_has : (bytes : List ℕ) (c : Cell) → AreBytes bytes → offset c + width c ≤ length bytes → Has bytes c → PlaceIsWritten bytes c → part (offset c) (width c) bytes ≡ spelling c
spelled_has bytes (u16 at n) are inside has nulls = sym (u16_spelled (part at 2 bytes) (length-part at 2 bytes inside) (bytes_of_part at 2 bytes are)) ∙ ap u16_bytes has
spelled_has bytes (u32 at n) are inside has nulls = sym (u32_spelled (part at 4 bytes) (length-part at 4 bytes inside) (bytes_of_part at 4 bytes are)) ∙ ap u32_bytes has
spelled_has bytes (u64 at n) are inside has nulls = sym (u64_spelled (part at 8 bytes) (length-part at 8 bytes inside) (bytes_of_part at 8 bytes are)) ∙ ap u64_bytes has
spelled_has bytes (i32 at z) are inside has nulls = sym (i32_spelled (part at 4 bytes) (length-part at 4 bytes inside) (bytes_of_part at 4 bytes are)) ∙ ap i32_bytes has
spelled_has bytes (i64 at z) are inside has nulls = sym (i64_spelled (part at 8 bytes) (length-part at 8 bytes inside) (bytes_of_part at 8 bytes are)) ∙ ap i64_bytes has
spelled_has bytes (place at p) are inside has is = is
spelled_has bytes (places at count ps) are inside has is = is
spelled_has bytes (cell at w value) are inside has nulls = has
spelled_has bytes (reserved at w) are inside has nulls = has

spelled_has_from : (k n : ℕ) (bytes : List ℕ) (cs : List Cell) → tiles k cs n ≡ true → length bytes ≡ n → AreBytes bytes → HasAll bytes cs → PlacesAreWritten bytes cs → (k ≤ n) × AreSpelled bytes cs
spelled_has_from k n bytes [] h len are has nulls = (omega (arith, eqb-true k n h), tt)
spelled_has_from k n bytes (c ∷ cs) h len are has nulls =
    let t = tiled k c cs n h in
    let rest = spelled_has_from (k + width c) n bytes cs t.rest len are has.1 nulls.1 in
    (omega (arith, rest.0), (spelled_has bytes c are (omega (arith, rest.0, t.ofs, len)) has.0 nulls.0, rest.1))

-- a frame that has each value is the table's bytes, where its null places have offset 0
pub joined_has : (n : ℕ) (bytes : List ℕ) (cs : List Cell) → tiles 0 cs n ≡ true → length bytes ≡ n → AreBytes bytes → HasAll bytes cs → PlacesAreWritten bytes cs → bytes ≡ joined cs
joined_has n bytes cs h len are has nulls = joined_is n bytes cs h len (spelled_has_from 0 n bytes cs h len are has nulls).1
