-- What a flush writes fits a number of 64 bits, and is counted range by range.
use Rattle.std.proofs.Common.{◌≡◌, ℕ, zero, suc, ◌+◌, ◌-◌, ◌*◌, ◌^◌, ◌<◌, ◌≤◌, Bool, true, false, cond, List, [], ◌∷◌, ◌++◌, length, get_or, take, drop, set, max, map, sum_by, Option, refl, sym, ◌∙◌, ap, subst, arith}
use Rattle.std.specs.Ordering.{eq_by_cmp}
use Rattle.std.proofs.lemmas.List.{length-append, length-drop, take_all, get_or-set_same, get_or-set_other}
use Rattle.std.proofs.lemmas.List.Sums.{sum_by-cons, sum_by_more, sum_by_more_le}
use Rattle.mm_outside.specs.Told.{Told}
use Rattle.mm_outside.specs.Image.{name_cmp}
use Rattle.mm_frames.specs.EntryHead.{entry_head_bytes}
use Rattle.mm_ranges.specs.declared.part.Piece.{Piece}
use Rattle.mm_ranges.specs.declared.part.Part.{Part}
use Rattle.mm_section.specs.declared.section.Section.{Section}
use Rattle.mm_section.specs.Spells.{Entry, entry_bytes, entries_bytes, make_of, put_of, part_entries, parts_entries, parts_bytes}
use Rattle.mm_crash.specs.Journal.{AllCan}
use Rattle.mm_journal.proofs.Real.{the_format}
use Rattle.mm_outside.specs.Ask.{Makes}
use Rattle.mm_jfiles.proofs.Asking.{made_none}
use Rattle.mm_crash.specs.Asks.{lay_asks}
use Rattle.mm_durable.specs.Log.{IsSound, HasFlushed}
use Rattle.mm_durable.specs.declared.log.Log.{Log}
use Rattle.mm_durable.specs.Own.{own_of_sections}
use Rattle.mm_durable.specs.Flushed.{range_bytes, own_bytes, own_bytes_in, flushed_bytes, flush_asks}
use Rattle.mm_durable.proofs.Logs.{spellable}
use Rattle.mm_durable.proofs.Syncs.{can_take, can_drop}

-- ---- a loop that counts

-- the count so far and one item's are no more than all
pub still_fits : {X : Type 0} (f : X → ℕ) (xs : List X) (i : ℕ) (x : X) (count n : ℕ) → i < length xs → x ≡ get_or xs i x → count ≡ sum_by f (take i xs) → n ≡ f x → sum_by f xs < 2 ^ 64 → count + n < 2 ^ 64
still_fits f xs i x count n lt at so is small = omega (arith, sum_by_more_le f xs i x lt, so, is, ap f at, small)

pub one_fits : {X : Type 0} (f : X → ℕ) (xs : List X) (i : ℕ) (x : X) → i < length xs → x ≡ get_or xs i x → sum_by f xs < 2 ^ 64 → f x < 2 ^ 64
one_fits f xs i x lt at small = omega (arith, sum_by_more_le f xs i x lt, ap f at, small)

pub more_counts : {X : Type 0} (f : X → ℕ) (xs : List X) (i : ℕ) (x : X) (count n : ℕ) → i < length xs → x ≡ get_or xs i x → count ≡ sum_by f (take i xs) → n ≡ f x → count + n ≡ sum_by f (take (i + 1) xs)
more_counts f xs i x count n lt at so is = omega (arith, sum_by_more f xs i x lt, so, is, ap f at)

pub all_counted : {X : Type 0} (f : X → ℕ) (xs : List X) (i count : ℕ) → length xs ≤ i → count ≡ sum_by f (take i xs) → count ≡ sum_by f xs
all_counted f xs i count past so = so ∙ ap (sum_by f) (take_all i xs past)

-- ---- what is spelled is longer than what its ranges hold

entries_both : (a b : List Entry) → length (entries_bytes (a ++ b)) ≡ length (entries_bytes a) + length (entries_bytes b)
entries_both [] b = omega arith
entries_both (e ∷ a) b =
    let front = length-append (entry_bytes e) (entries_bytes (a ++ b)) in
    let back = length-append (entry_bytes e) (entries_bytes a) in
    omega (arith, front, back, entries_both a b)

ranges_within : (ps : List Piece) → range_bytes ps ≤ length (entries_bytes (map put_of ps))
ranges_within [] = omega arith
ranges_within (p ∷ ps) =
    let own = length-append (entry_head_bytes (record { len = length p.bytes; ofs = p.at; file = p.file })) p.bytes in
    omega (arith, length-append (entry_bytes (put_of p)) (entries_bytes (map put_of ps)), own, sum_by-cons (λ (q : Piece). length q.bytes) p ps, ranges_within ps)

part_within : (part : Part) → range_bytes part.pieces ≤ length (entries_bytes (part_entries part))
part_within part =
    let name = length-append (entry_bytes (Rattle.mm_section.specs.Spells.Names part.name)) (entries_bytes (map make_of part.made ++ map put_of part.pieces)) in
    omega (arith, name, entries_both (map make_of part.made) (map put_of part.pieces), ranges_within part.pieces)

own_within_part : (name : List ℕ) (part : Part) → own_bytes name part ≤ length (entries_bytes (part_entries part))
own_within_part name part = by (eq_by_cmp name_cmp part.name name)
  where
    by : (b : Bool) → cond b (range_bytes part.pieces) 0 ≤ length (entries_bytes (part_entries part))
    by true = part_within part
    by false = omega arith

parts_within : (name : List ℕ) (parts : List Part) → sum_by (own_bytes name) parts ≤ length (parts_bytes parts)
parts_within name [] = omega arith
parts_within name (p ∷ parts) = omega (arith, sum_by-cons (own_bytes name) p parts, own_within_part name p, entries_both (part_entries p) (parts_entries parts), parts_within name parts)

section_small : (name : List ℕ) (s : Section) → the_format.can s ≡ true → own_bytes_in name s < 2 ^ 32
section_small name s can = omega (arith, parts_within name s.parts, (spellable s can).short)

sections_within : (name : List ℕ) (sections : List Section) → AllCan the_format sections → flushed_bytes name sections ≤ 2 ^ 32 * length sections
sections_within name [] can = omega arith
sections_within name (s ∷ sections) can = omega (arith, sum_by-cons (own_bytes_in name) s sections, section_small name s can.0, sections_within name sections can.1)

pub sections_small : (name : List ℕ) (sections : List Section) → AllCan the_format sections → length sections < 2 ^ 32 → flushed_bytes name sections < 2 ^ 64
sections_small name sections can few = omega (arith, sections_within name sections can, few)

-- ---- of one part

pub own_has : (name : List ℕ) (part : Part) → true ≡ eq_by_cmp name_cmp part.name name → own_bytes name part ≡ range_bytes part.pieces
own_has name part e = ap (λ (b : Bool). cond b (range_bytes part.pieces) 0) (sym e)

pub own_hasnt : (name : List ℕ) (part : Part) → false ≡ eq_by_cmp name_cmp part.name name → own_bytes name part ≡ 0
own_hasnt name part e = ap (λ (b : Bool). cond b (range_bytes part.pieces) 0) (sym e)

-- ---- of the sections that a flush lays

pub none_left : (name : List ℕ) (sections : List Section) (from dropped upto last : ℕ) → upto ≤ last + from → 0 ≡ flushed_bytes name (take (upto - last - dropped - (from - dropped)) (drop (from - dropped) sections))
none_left name sections from dropped upto last le =
    let none : upto - last - dropped - (from - dropped) ≡ 0 = omega (arith, le) in
    sym (ap (λ (n : ℕ). flushed_bytes name (take n (drop (from - dropped) sections))) none)

pub asks_none : (log : Log) (db upto : ℕ) → upto ≤ log.last + get_or log.flushed.items db 0 → (before : Option Told) → Makes (flush_asks log db upto) before before
asks_none log db upto le before =
    let from = get_or log.flushed.items db 0 in
    let none : upto - log.last - log.dropped - (from - log.dropped) ≡ 0 = omega (arith, le) in
    subst (λ (n : ℕ). Makes (lay_asks (own_of_sections (get_or log.names.items db []) (take n (drop (from - log.dropped) log.sections.items)))) before before) (sym none) (made_none before)

pub slice_can : (log : Log) → IsSound log → (k from : ℕ) (kept : List Section) → kept ≡ log.sections.items → AllCan the_format (take (k - log.dropped - (from - log.dropped)) (drop (from - log.dropped) kept))
slice_can log sound k from kept is = can_take (k - log.dropped - (from - log.dropped)) (drop (from - log.dropped) kept) (can_drop (from - log.dropped) kept (subst (AllCan the_format) (sym is) sound.can))

pub slice_few : (log : Log) → IsSound log → (k from : ℕ) (kept : List Section) → kept ≡ log.sections.items → length (take (k - log.dropped - (from - log.dropped)) (drop (from - log.dropped) kept)) < 2 ^ 32
slice_few log sound k from kept is =
    let rest = drop (from - log.dropped) kept in
    omega (arith, sound.few, ap length is, length-drop (from - log.dropped) kept, short_take (k - log.dropped - (from - log.dropped)) rest)
  where
    short_take : (n : ℕ) (xs : List Section) → length (take n xs) ≤ length xs
    short_take n [] = by n
      where
        by : (n : ℕ) → length (take {A = Section} n []) ≤ 0
        by zero = omega arith
        by (suc n) = omega arith
    short_take zero (x ∷ xs) = omega arith
    short_take (suc n) (x ∷ xs) = omega (arith, short_take n xs)

-- ---- how far a database is flushed

less_is : (a b : ℕ) → b ≤ a → a ≡ max a b
less_is a b le = sym (max_left a b le)
  where
    max_left : (a b : ℕ) → b ≤ a → max a b ≡ a
    max_left a b le = omega (arith, le)

more_is : (a b : ℕ) → a ≤ b → b ≡ max a b
more_is a b le = omega (arith, le)

pub flushed_before : (log : Log) (db upto : ℕ) → upto ≤ log.last + get_or log.flushed.items db 0 → HasFlushed db upto log log
flushed_before log db upto le = record {
  own = less_is (get_or log.flushed.items db 0) (upto - log.last) (omega (arith, le));
  others = λ d other. refl;
  receipts_kept = refl;
  floor_kept = refl;
  mark_kept = refl;
}

pub flushed_farther : (old : Log) → IsSound old → (db : ℕ) → db < length old.names.items → (upto : ℕ) → old.last + get_or old.flushed.items db 0 < upto → («new» : Log) → «new».flushed.items ≡ set old.flushed.items db (upto - old.last) → «new».receipts.items ≡ old.receipts.items → «new».floor ≡ old.floor → «new».mark ≡ old.mark → HasFlushed db upto old «new»
flushed_farther old sound db lt upto far «new» flushed receipts floor mark = record {
  own = ap (λ (l : List ℕ). get_or l db 0) flushed ∙ get_or-set_same old.flushed.items db (upto - old.last) 0 (omega (arith, lt, sound.each)) ∙ more_is (get_or old.flushed.items db 0) (upto - old.last) (omega (arith, far));
  others = λ d other. ap (λ (l : List ℕ). get_or l d 0) flushed ∙ get_or-set_other old.flushed.items db d (upto - old.last) 0 other;
  receipts_kept = receipts;
  floor_kept = floor;
  mark_kept = mark;
}
