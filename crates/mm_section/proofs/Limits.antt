-- What a spelled part's entries may be.
use Rattle.std.proofs.Common.{◌≡◌, ◌≢◌, ℕ, zero, suc, Bool, true, false, ◌+◌, ◌%◌, ◌^◌, ◌<◌, ◌≤◌, List, [], ◌∷◌, ◌++◌, length, map, refl, sym, ◌∙◌, ap, arith}
use Rattle.std.specs.Prelude.{◌&&◌, ◌||◌, nat_le, nat_lt, ◌==◌, if◌then◌else◌, IsTrue}
use Rattle.std.specs.List.{list_all}
use Rattle.std.proofs.lemmas.Bool.Decides.{nat_tests}
use Rattle.mm_ranges.specs.Places.{Range, is_range, is_span, is_normal}
use Rattle.mm_ranges.specs.Places as places
use Rattle.mm_ranges.specs.Overlay.{ranges_of}
use Rattle.mm_ranges.specs.Limits.{is_file, most_of, page_len, is_allowed, is_rising, may_be_made, IsAllowed}
use Rattle.mm_ranges.specs.declared.part.Piece.{Piece}
use Rattle.mm_ranges.specs.declared.part.Made.{Made}
use Rattle.mm_ranges.specs.declared.part.Part.{Part}
use Rattle.mm_section.specs.Spells.{Entry, Names, Makes, Puts, make_of, put_of, part_entries, parts_entries, is_letter, is_db_name, IsPart, AreParts}
use Rattle.mm_section.specs.Reading.{HasNoZero, CanEntry, AllCan, AreShort, PartsShort, is_part}

pub both : (a b : Bool) → (a && b) ≡ true → (a ≡ true) × (b ≡ true)
both true b h = (refl, h)
both false b h = absurd cc

letters_no_zero : (name : List ℕ) → list_all is_letter name ≡ true → HasNoZero name
letters_no_zero [] all = tt
letters_no_zero (b ∷ name) all =
    let p = both (is_letter b) (list_all is_letter name) all in
    (λ zero. let no : is_letter 0 ≡ true = sym (ap is_letter zero) ∙ p.0 in cc, letters_no_zero name p.1)

pub name_no_zero : (name : List ℕ) → is_db_name name ≡ true → HasNoZero name
name_no_zero name is = letters_no_zero name (both (nat_le (length name) 16) (list_all is_letter name) (both (nat_lt 0 (length name)) (nat_le (length name) 16 && list_all is_letter name) is).1).1

file_small : (n : ℕ) → is_file n ≡ true → n < 2 ^ 32
file_small n is = grind (arith, nat_tests)

most_small : (n : ℕ) → most_of n ≤ 67108864
most_small n = grind (arith, nat_tests)

made_can : (m : Made) → may_be_made m ≡ true → CanEntry (make_of m)
made_can m is =
    let p = both (is_file m.file) (m.len % page_len == 0 && nat_le m.len (most_of m.file)) is in
    let q = both (m.len % page_len == 0) (nat_le m.len (most_of m.file)) p.1 in
    let short : m.len ≤ most_of m.file = grind (arith, nat_tests) in
    (file_small m.file p.0, omega (arith, short, most_small m.file))

all_made_can : (ms : List Made) → list_all may_be_made ms ≡ true → AllCan (map make_of ms)
all_made_can [] all = tt
all_made_can (m ∷ ms) all = let p = both (may_be_made m) (list_all may_be_made ms) all in (made_can m p.0, all_made_can ms p.1)

piece_can : (p : Piece) → is_range (p.file, p.at, length p.bytes) ≡ true → is_allowed (p.file, p.at, length p.bytes) ≡ true → CanEntry (put_of p)
piece_can p range allowed =
    let a = both (nat_lt 0 (length p.bytes)) (is_span (p.file, p.at, length p.bytes)) range in
    let b = both (nat_lt p.file (2 ^ 32)) (nat_lt (p.at + length p.bytes) (2 ^ 32)) a.1 in
    let c = both (is_file p.file) (nat_le (p.at + length p.bytes) (most_of p.file)) allowed in
    let some : 0 < length p.bytes = grind (arith, nat_tests) in
    let file : p.file < 2 ^ 32 = grind (arith, nat_tests) in
    let end : p.at + length p.bytes ≤ most_of p.file = grind (arith, nat_tests) in
    ((file, omega (arith, end, most_small p.file)), (some, omega (arith, end, most_small p.file)))

all_pieces_can : (ps : List Piece) → is_normal (ranges_of ps) ≡ true → list_all is_allowed (ranges_of ps) ≡ true → AllCan (map put_of ps)
all_pieces_can [] normal all = tt
all_pieces_can (p ∷ ps) normal all =
    let r : Range = (p.file, p.at, length p.bytes) in
    let a = both (is_range r) (places.is_first r (ranges_of ps) && is_normal (ranges_of ps)) normal in
    let b = both (places.is_first r (ranges_of ps)) (is_normal (ranges_of ps)) a.1 in
    let c = both (is_allowed r) (list_all is_allowed (ranges_of ps)) all in
    (piece_can p a.0 c.0, all_pieces_can ps b.1 c.1)

pub can_append : (a b : List Entry) → AllCan a → AllCan b → AllCan (a ++ b)
can_append [] b ca cb = cb
can_append (e ∷ a) b ca cb = (ca.0, can_append a b ca.1 cb)

pub part_can : (p : Part) → IsPart p → AllCan (part_entries p)
part_can p is =
    (name_no_zero p.name is.name, can_append (map make_of p.made) (map put_of p.pieces) (all_made_can p.made is.allowed.made_allowed) (all_pieces_can p.pieces is.allowed.ranges_normal is.allowed.ranges_allowed))

pub parts_can : (ps : List Part) → AreParts ps → AllCan (parts_entries ps)
parts_can [] are = tt
parts_can (p ∷ ps) are = can_append (part_entries p) (parts_entries ps) (part_can p are.0) (parts_can ps are.1)

-- ---- for the writer

short_pieces : (ps : List Piece) → AllCan (map put_of ps) → AreShort ps
short_pieces [] can = tt
short_pieces (p ∷ ps) can = (omega (arith, can.0.1.1), short_pieces ps can.1)

pub parts_short : (ps : List Part) → AreParts ps → PartsShort ps
parts_short [] are = tt
parts_short (p ∷ ps) are = (short_pieces p.pieces (all_pieces_can p.pieces are.0.allowed.ranges_normal are.0.allowed.ranges_allowed), parts_short ps are.1)

-- ---- for the reader

-- one turn of the test of ranges
pub pieces_turn : (r : Range) (rs : List Range) → (is_normal (r ∷ rs) && list_all is_allowed (r ∷ rs)) ≡ ((is_range r && (places.is_first r rs && is_allowed r)) && (is_normal rs && list_all is_allowed rs))
pieces_turn r rs = turned (is_range r) (places.is_first r rs) (is_normal rs) (is_allowed r) (list_all is_allowed rs)
  where
    turned : (a b n c l : Bool) → ((a && (b && n)) && (c && l)) ≡ ((a && (b && c)) && (n && l))
    turned false b n c l = refl
    turned true false n c l = refl
    turned true true false false l = refl
    turned true true false true l = refl
    turned true true true false l = refl
    turned true true true true l = refl

-- the test of a part says that it may stand in a section
pub part_if : (p : Part) → is_part p ≡ true → IsPart p
part_if p is =
    let a = both (is_db_name p.name) (nat_lt 0 (length p.made + length p.pieces) && (is_rising p.made && (list_all may_be_made p.made && (is_normal (ranges_of p.pieces) && list_all is_allowed (ranges_of p.pieces))))) is in
    let b = both (nat_lt 0 (length p.made + length p.pieces)) (is_rising p.made && (list_all may_be_made p.made && (is_normal (ranges_of p.pieces) && list_all is_allowed (ranges_of p.pieces)))) a.1 in
    let c = both (is_rising p.made) (list_all may_be_made p.made && (is_normal (ranges_of p.pieces) && list_all is_allowed (ranges_of p.pieces))) b.1 in
    let d = both (list_all may_be_made p.made) (is_normal (ranges_of p.pieces) && list_all is_allowed (ranges_of p.pieces)) c.1 in
    let e = both (is_normal (ranges_of p.pieces)) (list_all is_allowed (ranges_of p.pieces)) d.1 in
    let some : 0 < length p.made + length p.pieces = grind (arith, nat_tests) in
    record { name = a.0; some = some; allowed = record { made_rising = c.0; made_allowed = d.0; ranges_normal = e.0; ranges_allowed = e.1 } }

pub part_only : (p : Part) → IsPart p → is_part p ≡ true
part_only p is =
    let some : nat_lt 0 (length p.made + length p.pieces) ≡ true = let lt = is.some in grind (arith, nat_tests) in
    rw (is.name, some, is.allowed.made_rising, is.allowed.made_allowed, is.allowed.ranges_normal, is.allowed.ranges_allowed) refl
