-- The section of what at most four databases gave is spelled.
use Rattle.std.proofs.Common.{◌≡◌, ℕ, ◌+◌, ◌-◌, ◌*◌, ◌^◌, ◌<◌, ◌≤◌, Bool, true, false, cond, ◌&&◌, List, [], ◌∷◌, ◌++◌, length, map, sum_by, refl, arith}
use Rattle.std.specs.Prelude.{nat_lt, nat_le}
use Rattle.std.specs.List.{list_all}
use Rattle.std.proofs.lemmas.Bool.{and_from, and_parts}
use Rattle.std.proofs.lemmas.Bool.Decides.{nat_tests}
use Rattle.std.proofs.lemmas.List.{length-append}
use Rattle.std.proofs.lemmas.List.Sums.{sum_by-append}
use Rattle.mm_base.proofs.Numbers.{length-u32_bytes}
use Rattle.mm_base.specs.Fields.{u32_bytes}
use Rattle.mm_frames.specs.EntryHead.{entry_head_bytes}
use Rattle.mm_frames.proofs.JournalFrames.{length-entry_head_bytes, length-made_entry_bytes}
use Rattle.mm_ranges.specs.Places.{weight_of}
use Rattle.mm_ranges.specs.Overlay.{ranges_of}
use Rattle.mm_ranges.specs.declared.part.Made.{Made}
use Rattle.mm_ranges.specs.declared.part.Piece.{Piece}
use Rattle.mm_ranges.specs.declared.part.Part.{Part}
use Rattle.mm_section.specs.declared.section.Section.{Section}
use Rattle.mm_section.specs.Spells.{Entry, entry_bytes, entries_bytes, make_of, put_of, part_entries, parts_entries, parts_bytes, sealed_len, is_db_name, is_letter, are_rising}
use Rattle.mm_section.specs.Reading.{is_part}
use Rattle.mm_section.proofs.Limits.{part_only}
use Rattle.mm_views.specs.State.{weight_in}
use Rattle.mm_journal.proofs.Real.{the_format}
use Rattle.mm_items.specs.Given.{Given, sealed_part, has_content, sealed_parts, Taken, AllFollow}

both_lengths : (a b : List Entry) → length (entries_bytes (a ++ b)) ≡ length (entries_bytes a) + length (entries_bytes b)
both_lengths [] b = omega arith
both_lengths (e ∷ a) b =
    let front = length-append (entry_bytes e) (entries_bytes (a ++ b)) in
    let back = length-append (entry_bytes e) (entries_bytes a) in
    omega (arith, front, back, both_lengths a b)

made_length : (ms : List Made) → length (entries_bytes (map make_of ms)) ≡ 12 * length ms
made_length [] = refl
made_length (m ∷ ms) = omega (arith, length-append (entry_bytes (make_of m)) (entries_bytes (map make_of ms)), length-made_entry_bytes (record { file = m.file; len = m.len }), made_length ms)

pieces_length : (ps : List Piece) → length (entries_bytes (map put_of ps)) ≡ sum_by weight_of (ranges_of ps)
pieces_length [] = refl
pieces_length (p ∷ ps) =
    let head = length-entry_head_bytes (record { len = length p.bytes; ofs = p.at; file = p.file }) in
    let own = length-append (entry_head_bytes (record { len = length p.bytes; ofs = p.at; file = p.file })) p.bytes in
    let step : sum_by weight_of (ranges_of (p ∷ ps)) ≡ 0 + (length p.bytes + 12) + sum_by weight_of (ranges_of ps) = sum_by-append weight_of ((p.file, p.at, length p.bytes) ∷ []) (ranges_of ps) in
    omega (arith, length-append (entry_bytes (put_of p)) (entries_bytes (map put_of ps)), head, own, step, pieces_length ps)

name_short : (n : List ℕ) → is_db_name n ≡ true → length n ≤ 16
name_short n is =
    let rest = (and_parts (nat_lt 0 (length n)) (nat_le (length n) 16 && list_all is_letter n) is).1 in
    let test = (and_parts (nat_le (length n) 16) (list_all is_letter n) rest).0 in
    grind (arith, nat_tests)

-- a part is as long as its database's name and what it weighs
part_length : (part : Part) → is_db_name part.name ≡ true → weight_in part.made (ranges_of part.pieces) ≤ 134217728 → length (entries_bytes (part_entries part)) ≤ 134217749
part_length part is light =
    let name = length-append (u32_bytes 0xfffffffe) (part.name ++ 0 ∷ []) in
    let word = length-u32_bytes 0xfffffffe in
    let zero_behind = length-append part.name (0 ∷ []) in
    let own = length-append (u32_bytes 0xfffffffe ++ (part.name ++ 0 ∷ [])) (entries_bytes (map make_of part.made ++ map put_of part.pieces)) in
    omega (arith, light, name_short part.name is, name, word, zero_behind, own, both_lengths (map make_of part.made) (map put_of part.pieces), made_length part.made, pieces_length part.pieces)

module _ (taken : Taken) where
  parts_length : (given : List Given) → AllFollow is_db_name taken given → length (parts_bytes (sealed_parts given)) ≤ 134217749 * length given
  parts_length [] follow = omega arith
  parts_length (g ∷ more) follow = by (has_content (sealed_part g)) (part_length (sealed_part g) follow.0 follow.1.0.light) (parts_length more follow.1.1)
    where
      by : (b : Bool) → length (entries_bytes (part_entries (sealed_part g))) ≤ 134217749 → length (parts_bytes (sealed_parts more)) ≤ 134217749 * length more → length (parts_bytes (cond b (sealed_part g ∷ sealed_parts more) (sealed_parts more))) ≤ 134217749 * length (g ∷ more)
      by true own rest = omega (arith, own, rest, both_lengths (part_entries (sealed_part g)) (parts_entries (sealed_parts more)))
      by false own rest = omega (arith, rest)

  are_parts : (given : List Given) → AllFollow is_db_name taken given → list_all is_part (sealed_parts given) ≡ true
  are_parts [] follow = refl
  are_parts (g ∷ more) follow = by (has_content (sealed_part g)) refl (are_parts more follow.1.1)
    where
      one : has_content (sealed_part g) ≡ true → is_part (sealed_part g) ≡ true
      one some = let lt : 0 < length g.1.part.made + length g.1.part.pieces = grind (arith, nat_tests) in part_only (sealed_part g) (record { name = follow.0; some = lt; allowed = record { made_rising = follow.1.0.allowed.made_rising; made_allowed = follow.1.0.allowed.made_allowed; ranges_normal = follow.1.0.allowed.ranges_normal; ranges_allowed = follow.1.0.allowed.ranges_allowed } })

      by : (b : Bool) → has_content (sealed_part g) ≡ b → list_all is_part (sealed_parts more) ≡ true → list_all is_part (cond b (sealed_part g ∷ sealed_parts more) (sealed_parts more)) ≡ true
      by true some rest = and_from (is_part (sealed_part g)) (list_all is_part (sealed_parts more)) (one some) rest
      by false none rest = rest

  -- the section of at most four databases, with their names in rising order
  pub can_seal : (given : List Given) → AllFollow is_db_name taken given → length given ≤ 4 → are_rising (sealed_parts given) ≡ true → (number : ℕ) → number < 2 ^ 64 - 1 → (let x : Section = record { number = number; parts = sealed_parts given } in the_format.can x) ≡ true
  unfolding the_format
  can_seal given follow few rising number small =
      let first : nat_lt number (2 ^ 64 - 1) ≡ true = grind (arith, nat_tests) in
      let long : length (parts_bytes (sealed_parts given)) < 2 ^ 32 - 52 = omega (arith, parts_length given follow, few) in
      let short : nat_lt (sealed_len (parts_bytes (sealed_parts given))) (2 ^ 32) ≡ true = grind (arith, nat_tests) in
      and_from _ _ first (and_from _ _ (are_parts given follow) (and_from _ _ rising short))
