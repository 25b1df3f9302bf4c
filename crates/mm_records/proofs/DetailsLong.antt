-- How long the bytes of details are, whatever their numbers.
use Rattle.std.proofs.Common.{◌≡◌, ℕ, ◌+◌, true, List, [], ◌∷◌, length, refl, arith, length-append}
use Rattle.std.proofs.lemmas.Bool.{eqb-true}
use Rattle.mm_base.specs.Tables.{Cell, u16, u32, u64, i32, i64, place, places, cell, reserved, width, spelling, joined, tiles}
use Rattle.mm_base.proofs.Numbers.{length-u16_bytes, length-u32_bytes, length-u64_bytes, length-i32_bytes, length-i64_bytes, length-zeros}
use Rattle.mm_base.proofs.PlaceLaws.{length-place_bytes, length-places_bytes}
use Rattle.mm_base.proofs.TableLaws.{tiled}
use Rattle.mm_frames.specs.Details.{details_table, details_bytes}
use Rattle.mm_frames.specs.declared.details.Details.{Details}
use Rattle.mm_frames.proofs.Again.{length-index_pairs_bytes}

-- lists have as many items as they say
abbrev Fits : Cell → Type 0
Fits (u16 at n) = Unit {0}
Fits (u32 at n) = Unit {0}
Fits (u64 at n) = Unit {0}
Fits (i32 at z) = Unit {0}
Fits (i64 at z) = Unit {0}
Fits (place at p) = Unit {0}
Fits (places at count ps) = length ps ≡ count
Fits (cell at w bytes) = length bytes ≡ w
Fits (reserved at w) = Unit {0}

abbrev AllFit : List Cell → Type 0
AllFit [] = Unit {0}
AllFit (c ∷ cs) = Fits c × AllFit cs

spelling_long : (c : Cell) → Fits c → length (spelling c) ≡ width c
spelling_long (u16 at n) fits = length-u16_bytes n
spelling_long (u32 at n) fits = length-u32_bytes n
spelling_long (u64 at n) fits = length-u64_bytes n
spelling_long (i32 at z) fits = length-i32_bytes z
spelling_long (i64 at z) fits = length-i64_bytes z
spelling_long (place at p) fits = length-place_bytes p
spelling_long (places at count ps) fits = omega (arith, length-places_bytes ps)
spelling_long (cell at w bytes) fits = fits
spelling_long (reserved at w) fits = length-zeros w

joined_long : (at n : ℕ) (cs : List Cell) → tiles at cs n ≡ true → AllFit cs → at + length (joined cs) ≡ n
unfolding joined
joined_long at n [] h fits = omega (arith, eqb-true at n h)
joined_long at n (c ∷ cs) h fits =
    let t = tiled at c cs n h in
    omega (arith, length-append (spelling c) (joined cs), spelling_long c fits.0, joined_long (at + width c) n cs t.rest fits.1)

pub details_long : (d : Details) → length d.deleted ≡ 19 → length d.indexes ≡ 10 → length (details_bytes d) ≡ 496
unfolding details_bytes
details_long d lists pairs =
    let p = length-index_pairs_bytes d.indexes in
    let e = joined_long 0 496 (details_table d) refl (tt, (tt, (lists, (tt, (tt, (tt, (tt, (omega (arith, p, pairs), (tt, (tt, (tt, (tt, (tt, (tt, (tt, (tt, (tt, (tt, (tt, (tt, (tt, (tt, tt)))))))))))))))))))))) in
    omega (arith, e)
