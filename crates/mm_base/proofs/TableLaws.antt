-- Laws of tables of fields.
use Rattle.std.proofs.Common.{◌≡◌, ℕ, ◌+◌, ◌≤◌, Bool, true, false, cond, eqb, List, [], ◌∷◌, ◌++◌, length, take, refl, sym, ap, ◌∙◌, append_assoc, arith, length-append, subst}
use Rattle.std.specs.Prelude.{◌&&◌}
use Rattle.std.proofs.lemmas.Bool.{eqb-true}
use Rattle.std.proofs.lemmas.List.{append-nil, take-append-drop, take_at, drop_at}
use Rattle.mm_base.specs.Bytes.{part, overwritten, Puts}
use Rattle.mm_base.specs.Fields.{u16_of, u32_of, u64_of, i32_of, i64_of}
use Rattle.mm_base.specs.Lists.{list_of}
use Rattle.mm_base.specs.Places.{place_of}
use Rattle.mm_base.specs.Tables.{Cell, u16, u32, u64, i32, i64, place, places, cell, reserved, offset, width, spelling, InRange, AllInRange, Has, HasAll, joined, tiles, place_in, written}
use Rattle.mm_base.proofs.Numbers.{u16_again, u32_again, u64_again, i32_again, i64_again, length-u16_bytes, length-u32_bytes, length-u64_bytes, length-i32_bytes, length-i64_bytes, length-zeros}
use Rattle.mm_base.proofs.PlaceLaws.{place_again, places_again, length-place_bytes, length-places_bytes}
use Rattle.mm_base.proofs.Parts.{overwritten_on, puts}

both : (a b : Bool) → (a && b) ≡ true → (a ≡ true) × (b ≡ true)
both true b h = (refl, h)
both false b h = absurd cc

-- the first field of a table
pub record Tiled (at : ℕ) (c : Cell) (cs : List Cell) (n : ℕ) : Type 0 where
  pub ofs : offset c ≡ at
  pub rest : tiles (at + width c) cs n ≡ true

pub tiled : (at : ℕ) (c : Cell) (cs : List Cell) (n : ℕ) → tiles at (c ∷ cs) n ≡ true → Tiled at c cs n
tiled at c cs n h =
    let p = both (eqb (offset c) at) (tiles (at + width c) cs n) h in
    record { ofs = eqb-true (offset c) at p.0; rest = p.1 }

-- a field is as wide as it says
pub length-spelling : (c : Cell) → InRange c → length (spelling c) ≡ width c
length-spelling (u16 at n) fits = length-u16_bytes n
length-spelling (u32 at n) fits = length-u32_bytes n
length-spelling (u64 at n) fits = length-u64_bytes n
length-spelling (i32 at z) fits = length-i32_bytes z
length-spelling (i64 at z) fits = length-i64_bytes z
length-spelling (place at p) fits = length-place_bytes p
length-spelling (places at count ps) fits = omega (arith, length-places_bytes ps)
length-spelling (cell at w bytes) fits = fits
length-spelling (reserved at w) fits = length-zeros w

pub length-joined_from : (at n : ℕ) (cs : List Cell) → tiles at cs n ≡ true → AllInRange cs → at + length (joined cs) ≡ n
unfolding joined
length-joined_from at n [] h fits = omega (arith, eqb-true at n h)
length-joined_from at n (c ∷ cs) h fits =
    let t = tiled at c cs n h in
    omega (arith, length-append (spelling c) (joined cs), length-spelling c fits.0, length-joined_from (at + width c) n cs t.rest fits.1)

pub length-joined : (n : ℕ) (cs : List Cell) → tiles 0 cs n ≡ true → AllInRange cs → length (joined cs) ≡ n
length-joined n cs h fits = omega (arith, length-joined_from 0 n cs h fits)

place_case : (b : Bool) (at ofs : ℕ) → eqb ofs 0 ≡ b → cond b at (at + ofs) ≡ at + ofs
place_case true at ofs e = omega (arith, eqb-true ofs 0 e)
place_case false at ofs e = refl

place_in_is : (at ofs : ℕ) → place_in at ofs ≡ at + ofs
place_in_is at ofs = place_case (eqb ofs 0) at ofs refl

written_from : (at k n : ℕ) (first old now : List ℕ) (cs : List Cell) → tiles k cs n ≡ true → AllInRange cs → length first ≡ k → at + n ≤ length old → now ≡ overwritten at first old
    → written at cs now ≡ overwritten at (first ++ joined cs) old
unfolding joined
written_from at k n first old now [] h fits len room is = is ∙ ap (λ (x : List ℕ). overwritten at x old) (sym (append-nil first))
written_from at k n first old now (c ∷ cs) h fits len room is =
    let t = tiled k c cs n h in
    let end = length-joined_from (k + width c) n cs t.rest fits.1 in
    let next : overwritten (place_in at (offset c)) (spelling c) now ≡ overwritten at (first ++ spelling c) old =
    ap (λ (j : ℕ). overwritten j (spelling c) now) (place_in_is at (offset c) ∙ ap (λ (j : ℕ). at + j) t.ofs) ∙ ap (overwritten (at + k) (spelling c)) is ∙ overwritten_on at k first (spelling c) old len (omega arith) in
    let longer : length (first ++ spelling c) ≡ k + width c = omega (arith, length-append first (spelling c), length-spelling c fits.0) in
    written_from at (k + width c) n (first ++ spelling c) old (overwritten (place_in at (offset c)) (spelling c) now) cs t.rest fits.1 longer room next
    ∙ ap (λ (x : List ℕ). overwritten at x old) (append_assoc first (spelling c) (joined cs))

nothing : (at : ℕ) (bytes : List ℕ) → bytes ≡ overwritten at [] bytes
unfolding overwritten
nothing at bytes = sym (take-append-drop at bytes)

-- the fields of a table that were written in their order are its bytes
pub written_is : (at n : ℕ) (old : List ℕ) (cs : List Cell) → tiles 0 cs n ≡ true → AllInRange cs → at + n ≤ length old → written at cs old ≡ overwritten at (joined cs) old
written_is at n old cs h fits room = written_from at 0 n [] old old cs h fits refl room (nothing at old)

part_middle : (j w : ℕ) (front ys zs : List ℕ) → length front ≡ j → length ys ≡ w → part j w (front ++ (ys ++ zs)) ≡ ys
unfolding part
part_middle j w front ys zs at_j len = ap (take w) (drop_at front (ys ++ zs) j at_j) ∙ take_at ys zs w len

-- a field has the value whose spelling stands there
pub has_spelled : (bytes : List ℕ) (c : Cell) → InRange c → part (offset c) (width c) bytes ≡ spelling c → Has bytes c
has_spelled bytes (u16 at n) fits is = ap u16_of is ∙ u16_again n fits
has_spelled bytes (u32 at n) fits is = ap u32_of is ∙ u32_again n fits
has_spelled bytes (u64 at n) fits is = ap u64_of is ∙ u64_again n fits
has_spelled bytes (i32 at z) fits is = ap i32_of is ∙ i32_again z fits
has_spelled bytes (i64 at z) fits is = ap i64_of is ∙ i64_again z fits
has_spelled bytes (place at p) fits is = ap place_of is ∙ place_again p
has_spelled bytes (places at count ps) fits is = ap (list_of 8 place_of count) is ∙ places_again count ps fits
has_spelled bytes (cell at w value) fits is = is
has_spelled bytes (reserved at w) fits is = is

-- each field stands in these bytes as it is spelled
abbrev pub AreSpelled : List ℕ → List Cell → Type 0
AreSpelled bytes [] = Unit {0}
AreSpelled bytes (c ∷ cs) = (part (offset c) (width c) bytes ≡ spelling c) × AreSpelled bytes cs

spelled_from : (k n : ℕ) (front : List ℕ) (cs : List Cell) → tiles k cs n ≡ true → AllInRange cs → length front ≡ k → AreSpelled (front ++ joined cs) cs
unfolding joined
spelled_from k n front [] h fits len = tt
spelled_from k n front (c ∷ cs) h fits len =
    let t = tiled k c cs n h in
    let wide = length-spelling c fits.0 in
    let longer : length (front ++ spelling c) ≡ k + width c = omega (arith, length-append front (spelling c), wide) in (
      part_middle (offset c) (width c) front (spelling c) (joined cs) (len ∙ sym t.ofs) wide,
      subst (λ (b : List ℕ). AreSpelled b cs) (append_assoc front (spelling c) (joined cs)) (spelled_from (k + width c) n (front ++ spelling c) cs t.rest fits.1 longer),
    )

pub spelled_all : (n : ℕ) (cs : List Cell) → tiles 0 cs n ≡ true → AllInRange cs → AreSpelled (joined cs) cs
spelled_all n cs h fits = spelled_from 0 n [] cs h fits refl

pub has_each : (bytes : List ℕ) (cs : List Cell) → AllInRange cs → AreSpelled bytes cs → HasAll bytes cs
has_each bytes [] fits are = tt
has_each bytes (c ∷ cs) fits are = (has_spelled bytes c fits.0 are.0, has_each bytes cs fits.1 are.1)

-- what a table spells has each of its values
pub has_all : (n : ℕ) (cs : List Cell) → tiles 0 cs n ≡ true → AllInRange cs → HasAll (joined cs) cs
has_all n cs h fits = has_each (joined cs) cs fits (spelled_all n cs h fits)

-- what a writer of a table owes
pub puts_table : {X : Type 0} (n : ℕ) (table : X → List Cell) (of : List ℕ → X) (at : ℕ) (x : X) (old new : List ℕ) → tiles 0 (table x) n ≡ true → AllInRange (table x) → at + n ≤ length old
    → (HasAll (joined (table x)) (table x) → of (joined (table x)) ≡ x) → new ≡ written at (table x) old → Puts n (λ y. joined (table y)) of at x old new
puts_table n table of at x old new h fits room law wrote =
    puts n (λ y. joined (table y)) of at x old new (omega arith) (length-joined n (table x) h fits) (law (has_all n (table x) h fits)) (wrote ∙ written_is at n old (table x) h fits room)
