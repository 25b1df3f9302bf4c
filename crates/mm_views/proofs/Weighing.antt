-- What may be opened or declared weighs little: the files are few, and short.
use Rattle.std.proofs.Common.{◌≡◌, ℕ, ◌+◌, ◌*◌, ◌^◌, ◌<◌, ◌≤◌, true, List, [], ◌∷◌, length, arith, sum_by, lit<}
use Rattle.std.proofs.lemmas.Bool.{and_parts}
use Rattle.std.proofs.lemmas.Bool.Decides.{nat_tests}
use Rattle.std.proofs.lemmas.List.Sums.{sum_by-cons}
use Rattle.std.specs.List.{list_all}
use Rattle.std.specs.Prelude.{nat_lt}
use Rattle.mm_ranges.specs.declared.limits.TheConstants.{MAX_FILE_LEN}
use Rattle.mm_ranges.specs.Places.{Range, is_range, is_before, is_normal, weight_of}
use Rattle.mm_ranges.specs.Limits.{is_allowed, is_rising, may_be_made}
use Rattle.mm_ranges.specs.declared.part.Made.{Made}
use Rattle.mm_ranges.proofs.Order.{normal_parts}
use Rattle.mm_views.specs.Files.{slot_of}
use Rattle.mm_ranges.specs.declared.part.Piece.{Piece}
use Rattle.mm_views.specs.State.{State, Drafting, IsSound, IsDraft, weight_in}
use Rattle.mm_views.proofs.Lengths.{allowed_inside}

-- the files one behind another, each as long as a file may be
abbrev pub line : ℕ → ℕ → ℕ
line file at = slot_of file * MAX_FILE_LEN + at

ends_early : (r : Range) → is_allowed r ≡ true → line r.0 (r.1 + r.2) ≤ 9 * MAX_FILE_LEN
ends_early r h = grind (arith, nat_tests)

comes_before : (r s : Range) → is_allowed r ≡ true → is_allowed s ≡ true → is_before r s ≡ true → line r.0 (r.1 + r.2) ≤ line s.0 s.1
comes_before r s h k before = grind (arith, nat_tests)

some_places : (r : Range) → is_range r ≡ true → weight_of r ≤ 13 * r.2
some_places r h = grind (arith, nat_tests)

ranges_weigh : (r : Range) (rs : List Range) → is_normal (r ∷ rs) ≡ true → list_all is_allowed (r ∷ rs) ≡ true → sum_by weight_of (r ∷ rs) + 13 * line r.0 r.1 ≤ 13 * (9 * MAX_FILE_LEN)
ranges_weigh r [] n a =
    let own = some_places r (normal_parts r [] n).range in
    let ends = ends_early r (and_parts (is_allowed r) true a).0 in
    let all = sum_by-cons weight_of r [] in
    omega arith
ranges_weigh r (s ∷ rs) n a =
    let parts = normal_parts r (s ∷ rs) n in
    let allowed = and_parts (is_allowed r) (list_all is_allowed (s ∷ rs)) a in
    let own = some_places r parts.range in
    let next = comes_before r s allowed.0 (and_parts (is_allowed s) (list_all is_allowed rs) allowed.1).0 parts.first in
    let rest = ranges_weigh s rs parts.rest allowed.1 in
    let all = sum_by-cons weight_of r (s ∷ rs) in
    omega arith

slot_made : (m : Made) → may_be_made m ≡ true → slot_of m.file ≤ 8
slot_made m h = grind (arith, nat_tests)

slot_rises : (m n : Made) → may_be_made m ≡ true → may_be_made n ≡ true → nat_lt m.file n.file ≡ true → slot_of m.file + 1 ≤ slot_of n.file
slot_rises m n h k lt = grind (arith, nat_tests)

few_made : (m : Made) (ms : List Made) → is_rising (m ∷ ms) ≡ true → list_all may_be_made (m ∷ ms) ≡ true → length (m ∷ ms) + slot_of m.file ≤ 9
few_made m [] n a = let own = slot_made m (and_parts (may_be_made m) true a).0 in omega arith
few_made m (n ∷ ms) rises a =
    let parts = and_parts (nat_lt m.file n.file) (is_rising (n ∷ ms)) rises in
    let allowed = and_parts (may_be_made m) (list_all may_be_made (n ∷ ms)) a in
    let next = slot_rises m n allowed.0 (and_parts (may_be_made n) (list_all may_be_made ms) allowed.1).0 parts.0 in
    let rest = few_made n ms parts.1 allowed.1 in
    omega arith

ranges_light : (rs : List Range) → is_normal rs ≡ true → list_all is_allowed rs ≡ true → sum_by weight_of rs ≤ 13 * (9 * MAX_FILE_LEN)
ranges_light [] n a = omega arith
ranges_light (r ∷ rs) n a = let all = ranges_weigh r rs n a in omega (arith, all)

made_light : (ms : List Made) → is_rising ms ≡ true → list_all may_be_made ms ≡ true → length ms ≤ 9
made_light [] n a = omega arith
made_light (m ∷ ms) n a = let all = few_made m ms n a in omega (arith, all)

light : (ms : List Made) (rs : List Range) → is_rising ms ≡ true → list_all may_be_made ms ≡ true → is_normal rs ≡ true → list_all is_allowed rs ≡ true → weight_in ms rs < 2 ^ 33
light ms rs rises may normal allowed =
    let ranges = ranges_light rs normal allowed in
    let made = made_light ms rises may in
    let most : 13 * (9 * MAX_FILE_LEN) + 12 * 9 < 2 ^ 33 = lit< tt in
    omega (arith, ranges, made, most)

-- what is made and opened weighs less
pub views_light : (s : State) → IsSound s → weight_in s.made s.opened < 2 ^ 33
views_light s h = light s.made s.opened h.made.rising h.made.allowed h.normal (allowed_inside s.private s.opened h.limits h.inside)

-- and so does what a draft makes and declares
pub draft_light : (saved : List Piece) (d : Drafting) → IsDraft saved d → weight_in d.made d.declared < 2 ^ 33
draft_light saved d h = light d.made d.declared h.made.rising h.made.allowed h.normal (allowed_inside d.image d.declared h.limits h.inside)
