-- One record more behind those of a file.
use Rattle.std.proofs.Common.{◌≡◌, ℕ, ℤ, pos, negsuc, ◌+◌, ◌-◌, ◌≤◌, ◌⊎◌, inl, inr, List, [], ◌∷◌, ◌++◌, length, refl, sym, ap, ◌∙◌, arith, subst, Option, Some, None}
use Rattle.std.specs.Prelude.{Result, Ok, Err, OnOk, IfOk}
use Rattle.mm_base.specs.declared.memory.NoMemory.{NoMemory}
use Rattle.mm_base.specs.Bytes.{part}
use Rattle.mm_base.specs.Tables.{HasAll}
use Rattle.mm_frames.specs.RecHeader.{rec_header_table}
use Rattle.mm_main.specs.declared.file.Chain.{Chain}
use Rattle.mm_main.specs.DataFile.{linked, HasFileHeader, HasExtentHeader, IsRecord, IsRest, AreRecords, Fit, last_from}
use Rattle.mm_main.specs.Drafted.{end_from, link_of_last, HoldsUpTo, LeadsOn, SameBetween}
use Rattle.mm_main.specs.Room.{file_len, extent_at, first_at, request, block_len}
use Rattle.mm_main.specs.Written.{SameBefore, SameBehind}
use Rattle.mm_main.proofs.FileSteps.{header_stays_before, block_inside}
use Rattle.mm_main.proofs.LiveSteps.{block_enough}

-- ---- where the blocks end

pub end_push : (at : ℕ) (ps : List (List ℕ)) (p : List ℕ) → end_from at (ps ++ p ∷ []) ≡ end_from at ps + block_len (end_from at ps) (length p)
end_push at [] p = refl
end_push at (x ∷ ps) p = end_push (at + block_len at (length x)) ps p

pub last_push : (at : ℕ) (prev : ℤ) (ps : List (List ℕ)) (p : List ℕ) → last_from at prev (ps ++ p ∷ []) ≡ pos (end_from at ps)
last_push at prev [] p = refl
last_push at prev (x ∷ ps) p = last_push (at + block_len at (length x)) (pos at) ps p

fit_push : (at : ℕ) (ps : List (List ℕ)) (p : List ℕ) → Fit at ps → request (length p) ≤ file_len - end_from at ps → Fit at (ps ++ p ∷ [])
fit_push at [] p fit room = (room, tt)
fit_push at (x ∷ ps) p fit room = (fit.0, fit_push (at + block_len at (length x)) ps p fit.1 room)

pub end_inside : (at : ℕ) (ps : List (List ℕ)) → Fit at ps → at ≤ file_len → (at ≤ end_from at ps) × (end_from at ps ≤ file_len)
end_inside at [] fit inside = (omega arith, inside)
end_inside at (x ∷ ps) fit inside =
    let rest = end_inside (at + block_len at (length x)) ps fit.1 (block_inside at (length x) inside fit.0) in
    (omega (arith, rest.0), rest.1)

-- the last record of some ends before their end
pub last_before : (at prev last : ℕ) (ps : List (List ℕ)) → Fit at ps → at ≤ file_len → prev + 16 ≤ at → last_from at (pos prev) ps ≡ pos last → (prev ≤ last) × (last + 16 ≤ end_from at ps)
last_before at prev last [] fit inside before is = let same : prev ≡ last = cc in (omega (arith, same), omega (arith, same))
last_before at prev last (x ∷ ps) fit inside before is =
    let rest = last_before (at + block_len at (length x)) at last ps fit.1 (block_inside at (length x) inside fit.0) (omega (arith, block_enough at (length x) fit.0)) is in
    (omega (arith, rest.0), rest.1)

-- ---- the records

-- between an offset and an end, what lies apart from the last record's header is the same, and that header leads on to the end
record Follows (old new : List ℕ) (at last end : ℕ) : Type 0 where
  pub same : (q m : ℕ) → at ≤ q → q + m ≤ end → (q + m ≤ last) ⊎ (last + 16 ≤ q) → part q m new ≡ part q m old
  pub leads : LeadsOn last end old new

later : (old new : List ℕ) (at next last end : ℕ) → at ≤ next → Follows old new at last end → Follows old new next last end
later old new at next last end more f = record { same = λ q m behind. f.same q m (omega (arith, more, behind)); leads = f.leads }

-- a record behind others, which are as they were but that the last one leads on to it
records_more : (old new : List ℕ) (at last : ℕ) (prev : ℤ) (x : List ℕ) (ps : List (List ℕ)) (p : List ℕ) → Fit at (x ∷ ps) → at ≤ file_len → AreRecords old at prev (x ∷ ps) → last_from at prev (x ∷ ps) ≡ pos last
    → Follows old new at last (end_from at (x ∷ ps)) → AreRecords new (end_from at (x ∷ ps)) (pos last) (p ∷ []) → AreRecords new at prev (x ∷ ps ++ p ∷ [])
records_more old new at last prev x [] p fit inside records is f more =
    let here : at ≡ last = cc in
    let len = block_len at (length x) in
    let enough = block_enough at (length x) fit.0 in
    let leads = subst (λ (n : ℕ). LeadsOn n (at + len) old new) (sym here) f.leads in (
      record {
        header = leads len prev records.0.header;
        holds = f.same (at + 16) (length x) (omega arith) (omega (arith, enough)) (inr (omega (arith, here))) ∙ records.0.holds;
      },
      subst (λ (n : ℕ). AreRecords new (at + len) (pos n) (p ∷ [])) (sym here) more,
    )
records_more old new at last prev x (y ∷ ps) p fit inside records is f more =
    let len = block_len at (length x) in
    let enough = block_enough at (length x) fit.0 in
    let next_inside = block_inside at (length x) inside fit.0 in
    let behind = last_before (at + len) at last (y ∷ ps) fit.1 next_inside (omega (arith, enough)) is in
    let apart : at + len ≤ last = after (at + len) (pos at) last y ps fit.1 next_inside is in
    let ends = end_inside (at + len) (y ∷ ps) fit.1 next_inside in (
      record {
        header = subst (λ (bytes : List ℕ). HasAll bytes (rec_header_table (linked len prev (pos (at + len))))) (sym (f.same at 16 (omega arith) (omega (arith, enough, ends.0)) (inl (omega (arith, enough, apart))))) records.0.header;
        holds = f.same (at + 16) (length x) (omega arith) (omega (arith, enough, ends.0)) (inl (omega (arith, enough, apart))) ∙ records.0.holds;
      },
      records_more old new (at + len) last (pos at) y ps p fit.1 next_inside records.1 is (later old new at (at + len) last _ (omega arith) f) more,
    )
  where
    after : (from : ℕ) (before : ℤ) (end : ℕ) (z : List ℕ) (zs : List (List ℕ)) → Fit from (z ∷ zs) → from ≤ file_len → last_from from before (z ∷ zs) ≡ pos end → from ≤ end
    after from before end z zs fits within ends = (last_before (from + block_len from (length z)) from end zs fits.1 (block_inside from (length z) within fits.0) (omega (arith, block_enough from (length z) fits.0)) ends).0

-- ---- the file

-- a file's first record
pub stands_first : (collection p headed file : List ℕ) (end : ℕ) (last : Option ℕ) → length file ≡ file_len → request (length p) ≤ file_len - first_at → HasFileHeader headed file_len → SameBefore extent_at headed file
    → HasExtentHeader file collection (pos first_at) → IsRecord file first_at (block_len first_at (length p)) (negsuc 0) (negsuc 0) p → IsRest file (first_at + block_len first_at (length p))
    → end ≡ first_at + block_len first_at (length p) → last ≡ Some first_at → HoldsUpTo collection (p ∷ []) file end last
stands_first collection p headed file end last size room header same extent written rest end_is last_is = record {
  written = record { size = size; fit = (room, tt); holds = (header_stays_before headed file file_len same header, extent, (written, rest)) };
  at_is = end_is;
  last_is = ap link_of_last last_is;
}

-- one record more
pub stands_more : (collection : List ℕ) (payloads : List (List ℕ)) (p old linking file : List ℕ) (at last end : ℕ) (end_last : Option ℕ) → HoldsUpTo collection payloads old at (Some last) → length file ≡ file_len → request (length p) ≤ file_len - at
    → LeadsOn last at old linking → SameBefore last old linking → SameBehind (last + 16) old linking → SameBefore extent_at linking file → SameBetween first_at at linking file
    → HasExtentHeader file collection (pos at) → IsRecord file at (block_len at (length p)) (pos last) (negsuc 0) p → IsRest file (at + block_len at (length p))
    → end ≡ at + block_len at (length p) → end_last ≡ Some at → HoldsUpTo collection (payloads ++ p ∷ []) file end end_last
stands_more collection [] p old linking file at last end end_last s size room leads before behind front between extent written rest end_is last_is = absurd (let never : pos last ≡ negsuc 0 = s.last_is in cc)
stands_more collection (x ∷ ps) p old linking file at last end end_last s size room leads before behind front between extent written rest end_is last_is =
    let fit = s.written.fit in
    let holds = s.written.holds in
    let chain = last_before (first_at + block_len first_at (length x)) first_at last ps fit.1 (block_inside first_at (length x) (omega arith) fit.0) (omega (arith, block_enough first_at (length x) fit.0)) (sym s.last_is) in
    let short : last + 16 ≤ at = omega (arith, chain.1, s.at_is) in
    let low : first_at ≤ last = chain.0 in
    let f : Follows old file first_at last at = record {
      same = λ q m low_q high apart. between q m low_q high ∙ around q m apart;
      leads = λ len prev has. subst (λ (bytes : List ℕ). HasAll bytes (rec_header_table (linked len prev (pos at)))) (sym (between last 16 low short)) (leads len prev has);
    } in
    let last_record : AreRecords file at (pos last) (p ∷ []) = (written, rest) in
    let all = records_more old file first_at last (negsuc 0) x ps p fit (omega arith) holds.2 (sym s.last_is) (subst (λ (n : ℕ). Follows old file first_at last n) s.at_is f) (subst (λ (n : ℕ). AreRecords file n (pos last) (p ∷ [])) s.at_is last_record) in
    record {
      written = record {
        size = size;
        fit = fit_push first_at (x ∷ ps) p fit (subst (λ (n : ℕ). request (length p) ≤ file_len - n) s.at_is room);
        holds = (
          header_stays_before linking file file_len front (header_stays_before old linking file_len (λ q m bound. before q m (omega (arith, low, bound))) holds.0),
          subst (λ (z : ℤ). HasExtentHeader file collection z) (ap pos s.at_is ∙ sym (last_push first_at (negsuc 0) (x ∷ ps) p)) extent,
          all,
        );
      };
      at_is = end_is ∙ ap (λ (n : ℕ). n + block_len n (length p)) s.at_is ∙ sym (end_push first_at (x ∷ ps) p);
      last_is = ap link_of_last last_is ∙ ap pos s.at_is ∙ sym (last_push first_at (negsuc 0) (x ∷ ps) p);
    }
  where
    around : (q m : ℕ) → (q + m ≤ last) ⊎ (last + 16 ≤ q) → part q m linking ≡ part q m old
    around q m (inl low) = before q m low
    around q m (inr high) = behind q m high

-- ---- where the block was put, if memory sufficed

pub first_of : (collection p headed file : List ℕ) (r : Result Chain NoMemory) → length file ≡ file_len → request (length p) ≤ file_len - first_at → HasFileHeader headed file_len → OnOk r (SameBefore extent_at headed file)
    → OnOk r (HasExtentHeader file collection (pos first_at)) → OnOk r (IsRecord file first_at (block_len first_at (length p)) (negsuc 0) (negsuc 0) p) → OnOk r (IsRest file (first_at + block_len first_at (length p)))
    → IfOk r (λ chain. (chain.end ≡ first_at + block_len first_at (length p)) × (chain.last ≡ Some first_at)) → IfOk r (λ chain. HoldsUpTo collection (p ∷ []) file chain.end chain.last)
first_of collection p headed file (Ok chain) size room header same extent written rest is = stands_first collection p headed file chain.end chain.last size room header same extent written rest is.0 is.1
first_of collection p headed file (Err e) size room header same extent written rest is = tt

pub more_of : (collection : List ℕ) (payloads : List (List ℕ)) (p old linking file : List ℕ) (at last : ℕ) (r : Result Chain NoMemory) → HoldsUpTo collection payloads old at (Some last) → length file ≡ file_len → request (length p) ≤ file_len - at
    → LeadsOn last at old linking → SameBefore last old linking → SameBehind (last + 16) old linking → OnOk r (SameBefore extent_at linking file) → OnOk r (SameBetween first_at at linking file)
    → OnOk r (HasExtentHeader file collection (pos at)) → OnOk r (IsRecord file at (block_len at (length p)) (pos last) (negsuc 0) p) → OnOk r (IsRest file (at + block_len at (length p)))
    → IfOk r (λ chain. (chain.end ≡ at + block_len at (length p)) × (chain.last ≡ Some at)) → IfOk r (λ chain. HoldsUpTo collection (payloads ++ p ∷ []) file chain.end chain.last)
more_of collection payloads p old linking file at last (Ok chain) s size room leads before behind front between extent written rest is = stands_more collection payloads p old linking file at last chain.end chain.last s size room leads before behind front between extent written rest is.0 is.1
more_of collection payloads p old linking file at last (Err e) s size room leads before behind front between extent written rest is = tt

-- ---- where a chain ends

-- without a last record the chain holds nothing yet
pub none_stands : (collection : List ℕ) (payloads : List (List ℕ)) (file : List ℕ) (at : ℕ) → HoldsUpTo collection payloads file at None → (payloads ≡ []) × (at ≡ first_at)
none_stands collection [] file at s = (refl, s.at_is)
none_stands collection (x ∷ ps) file at s = absurd (never (first_at + block_len first_at (length x)) first_at ps (sym s.last_is))
  where
    never : (from before : ℕ) (qs : List (List ℕ)) → last_from from (pos before) qs ≡ negsuc 0 → ⊥
    never from before [] is = cc
    never from before (y ∷ qs) is = never (from + block_len from (length y)) from qs is

-- the last record lies in the extent, and ends before what is behind
pub record Placed (at last : ℕ) : Type 0 where
  pub low : first_at ≤ last
  pub apart : last + 16 ≤ at

pub last_placed : (collection : List ℕ) (payloads : List (List ℕ)) (file : List ℕ) (at last : ℕ) → HoldsUpTo collection payloads file at (Some last) → Placed at last
last_placed collection [] file at last s = absurd (let never : pos last ≡ negsuc 0 = s.last_is in cc)
last_placed collection (x ∷ ps) file at last s =
    let fit = s.written.fit in
    let within = block_inside first_at (length x) (omega arith) fit.0 in
    let chain = last_before (first_at + block_len first_at (length x)) first_at last ps fit.1 within (omega (arith, block_enough first_at (length x) fit.0)) (sym s.last_is) in
    record { low = chain.0; apart = omega (arith, chain.1, s.at_is) }

pub stands_inside : (collection : List ℕ) (payloads : List (List ℕ)) (file : List ℕ) (at : ℕ) (last : Option ℕ) → HoldsUpTo collection payloads file at last → (first_at ≤ at) × (at ≤ file_len)
stands_inside collection payloads file at last s =
    let ends = end_inside first_at payloads s.written.fit (omega arith) in
    (omega (arith, ends.0, s.at_is), omega (arith, ends.1, s.at_is))

pub first_stands : (collection : List ℕ) (payloads : List (List ℕ)) (file new p : List ℕ) (at : ℕ) (last : Option ℕ) (r : Result Chain NoMemory) → last ≡ None → HoldsUpTo collection payloads file at last
    → IfOk r (λ chain. HoldsUpTo collection (p ∷ []) new chain.end chain.last) → IfOk r (λ chain. HoldsUpTo collection (payloads ++ p ∷ []) new chain.end chain.last)
first_stands collection payloads file new p at last r none s stands =
    let empty = (none_stands collection payloads file at (subst (λ (o : Option ℕ). HoldsUpTo collection payloads file at o) none s)).0 in
    subst (λ (ps : List (List ℕ)). IfOk r (λ chain. HoldsUpTo collection (ps ++ p ∷ []) new chain.end chain.last)) (sym empty) stands

pub empty_end : (collection : List ℕ) (payloads : List (List ℕ)) (file : List ℕ) (at : ℕ) (last : Option ℕ) → last ≡ None → HoldsUpTo collection payloads file at last → at ≡ first_at
empty_end collection payloads file at last none s = (none_stands collection payloads file at (subst (λ (o : Option ℕ). HoldsUpTo collection payloads file at o) none s)).1

pub some_placed : (collection : List ℕ) (payloads : List (List ℕ)) (file : List ℕ) (at place : ℕ) (last : Option ℕ) → last ≡ Some place → HoldsUpTo collection payloads file at last → Placed at place
some_placed collection payloads file at place last some s = last_placed collection payloads file at place (subst (λ (o : Option ℕ). HoldsUpTo collection payloads file at o) some s)
