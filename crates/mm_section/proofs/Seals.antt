-- What stands round a section's entries.
use Rattle.std.proofs.Common.{◌≡◌, ℕ, zero, suc, Bool, true, false, ◌+◌, ◌-◌, ◌*◌, ◌^◌, ◌<◌, ◌≤◌, List, [], ◌∷◌, ◌++◌, length, take, drop, refl, sym, ◌∙◌, ap, subst, arith, append_assoc, length-append, length-drop}
use Rattle.std.specs.Prelude.{◌==◌, ◌&&◌, nat_lt, nat_le, IsTrue, slice_index}
use Rattle.std.proofs.lemmas.Bool.{eqb-true, eq-eqb}
use Rattle.std.proofs.lemmas.Bool.Decides.{nat_tests}
use Rattle.std.proofs.lemmas.List.{take-append-drop, drop-drop, drop_at, take_at, take_all, length-take-le, take-append-le, take-take, drop-take}
use Rattle.mm_base.specs.Bytes.{part, zeros}
use Rattle.mm_base.proofs.Numbers.{length-zeros}
use Rattle.mm_base.proofs.Parts.{length-part, part_first}
use Rattle.mm_base.proofs.Spelled.{AreBytes, bytes_of_part}
use Rattle.mm_frames.specs.Footer.{footer_bytes}
use Rattle.mm_frames.specs.SectionHeader.{section_header_bytes, section_header_of}
use Rattle.mm_frames.specs.declared.footer.Footer.{Footer}
use Rattle.mm_frames.specs.declared.section_header.SectionHeader.{SectionHeader}
use Rattle.mm_frames.proofs.JournalFrames.{length-section_header_bytes, section_header_again, section_header_spelled, length-footer_bytes}
use Rattle.md5.specs.Md5.{md5, digest_bytes}
use Rattle.std.specs.Int.{w32, to_le_bytes}
use Rattle.mm_ranges.specs.declared.part.Part.{Part}
use Rattle.mm_section.specs.declared.section.Section.{Section}
use Rattle.mm_section.specs.Spells.{hash_of, sealed_len, padding, front_bytes, back_bytes, sealed, section_bytes, parts_bytes, Spells, Begins, IsSpellable, HasNone}
use Rattle.mm_section.specs.Reading.{IsWhole, IsSealed, is_possible, entries_in, HasNoSeal, AreSpelled}
use Rattle.mm_section.proofs.Limits.{both}

-- the footer that belongs to what stands in front of it
abbrev footer_in : ℕ → List ℕ → List ℕ
footer_in len input = footer_bytes (record { hash = hash_of (take (len - 32) input) })

length-digest : (h : List ℕ) (n : ℕ) → length (digest_bytes h n) ≡ 4 * n
unfolding digest_bytes
length-digest h zero = refl
length-digest h (suc n) =
    let word_len : length (to_le_bytes w32 (slice_index h n)) ≡ 4 = refl in
    omega (arith, length-append (digest_bytes h n) (to_le_bytes w32 (slice_index h n)), word_len, length-digest h n)

-- a hash is 16 bytes long
length-md5 : (m : List ℕ) → length (md5 m) ≡ 16
unfolding md5
length-md5 m = length-digest _ 4

-- a footer is 32 bytes long
length-foot : (front : List ℕ) → length (footer_bytes (record { hash = hash_of front })) ≡ 32
unfolding hash_of
length-foot front = length-footer_bytes (record { hash = md5 front }) (length-md5 front)

possible : (id : ℕ) (h : SectionHeader) → is_possible id h ≡ true → (h.file_id ≡ id) × (h.number < 2 ^ 64 - 1) × (52 ≤ h.len)
possible id h is =
    let a = both (h.file_id == id) (nat_lt h.number (2 ^ 64 - 1) && nat_le 52 h.len) is in
    let b = both (nat_lt h.number (2 ^ 64 - 1)) (nat_le 52 h.len) a.1 in
    (eqb-true h.file_id id a.0, grind (arith, nat_tests), grind (arith, nat_tests))

take_add : (a b : ℕ) (xs : List ℕ) → take (a + b) xs ≡ take a xs ++ take b (drop a xs)
take_add a b xs =
    sym (take-append-drop a (take (a + b) xs)) ∙ ap (λ (l : List ℕ). l ++ drop a (take (a + b) xs)) (take-take a (a + b) xs (omega arith)) ∙ ap (λ (l : List ℕ). take a xs ++ l) (drop-take a b xs)

-- ---- what is sealed is spelled

pub sealed_if : (id : ℕ) (h : SectionHeader) (input : List ℕ) → AreBytes input → IsSealed id h input → take (h.len + padding h.len) input ≡ sealed h.number id (entries_in h input)
unfolding part
sealed_if id h input are seal =
    let p = possible id h seal.possible in
    let fe = h.len - 32 in
    let es = take (h.len - 52) (drop 20 input) in
    let whole = seal.whole in
    let long : h.len + padding h.len ≤ length input = whole.inside in
    let esl : length es ≡ h.len - 52 = length-take-le (h.len - 52) (drop 20 input) (omega (arith, length-drop 20 input, long, p.2)) in
    let h_is : h ≡ record { len = sealed_len es; number = h.number; file_id = id } =
    ap (λ n. let x : SectionHeader = record { len = n; number = h.number; file_id = h.file_id } in x) (omega (arith, esl, p.2)) ∙ ap (λ n. let x : SectionHeader = record { len = sealed_len es; number = h.number; file_id = n } in x) p.0 in
    let head : take 20 input ≡ section_header_bytes (record { len = sealed_len es; number = h.number; file_id = id }) =
    sym (section_header_spelled (take 20 input) (length-take-le 20 input (omega (arith, long, p.2))) (bytes_of_part 0 20 input are)) ∙ ap section_header_bytes (sym seal.head ∙ h_is) in
    let front : take fe input ≡ front_bytes h.number id es = cut 20 (h.len - 52) fe input (omega (arith, p.2)) ∙ ap (λ (l : List ℕ). l ++ es) head in
    let upto : take h.len input ≡ front_bytes h.number id es ++ footer_bytes (record { hash = hash_of (front_bytes h.number id es) }) =
    cut fe 32 h.len input (omega (arith, p.2)) ∙ ap (λ (l : List ℕ). l ++ take 32 (drop fe input)) front ∙ ap (λ (l : List ℕ). front_bytes h.number id es ++ l) (whole.footer ∙ ap (λ (l : List ℕ). footer_bytes (record { hash = hash_of l })) front) in
    cut h.len (padding h.len) (h.len + padding h.len) input refl
    ∙ ap (λ (l : List ℕ). l ++ take (padding h.len) (drop h.len input)) upto
    ∙ ap (λ (l : List ℕ). (front_bytes h.number id es ++ footer_bytes (record { hash = hash_of (front_bytes h.number id es) })) ++ l) (whole.zero ∙ ap (λ n. zeros (padding n)) (omega (arith, esl, p.2)))
    ∙ append_assoc (front_bytes h.number id es) (footer_bytes (record { hash = hash_of (front_bytes h.number id es) })) (zeros (padding (sealed_len es)))
  where
    cut : (a b n : ℕ) (xs : List ℕ) → n ≡ a + b → take n xs ≡ take a xs ++ take b (drop a xs)
    cut a b n xs is = ap (λ k. take k xs) is ∙ take_add a b xs

-- ---- what is spelled is sealed

pub record Unsealed (id number : ℕ) (entries input : List ℕ) (h : SectionHeader) : Type 0 where
  pub head : h ≡ record { len = sealed_len entries; number = number; file_id = id }
  pub is_sealed : IsSealed id h input
  pub entries_there : entries_in h input ≡ entries

pub sealed_only : (id number : ℕ) (entries rest input : List ℕ) (h : SectionHeader) → id < 2 ^ 64 → number < 2 ^ 64 - 1 → sealed_len entries < 2 ^ 32 → input ≡ sealed number id entries ++ rest → h ≡ section_header_of (part 0 20 input) → Unsealed id number entries input h
unfolding part
sealed_only id number entries rest input h fits small short is read =
    let k : SectionHeader = record { len = sealed_len entries; number = number; file_id = id } in
    let a = section_header_bytes k in
    let front = front_bytes number id entries in
    let foot = footer_bytes (record { hash = hash_of front }) in
    let pad_bytes = zeros (padding (sealed_len entries)) in
    let alen = length-section_header_bytes k in
    let flen : length front ≡ 20 + length entries = omega (arith, length-append a entries, alen) in
    let hlen : length foot ≡ 32 = length-foot front in
    let zlen : length pad_bytes ≡ padding (sealed_len entries) = length-zeros (padding (sealed_len entries)) in
    let whole : input ≡ front ++ (foot ++ (pad_bytes ++ rest)) = is ∙ append_assoc front (foot ++ pad_bytes) rest ∙ ap (λ (l : List ℕ). front ++ l) (append_assoc foot pad_bytes rest) in
    let whole_a : input ≡ a ++ (entries ++ (foot ++ (pad_bytes ++ rest))) = whole ∙ append_assoc a entries (foot ++ (pad_bytes ++ rest)) in
    let head : h ≡ k = read ∙ ap section_header_of (ap (take 20) whole_a ∙ take_at a (entries ++ (foot ++ (pad_bytes ++ rest))) 20 alen) ∙ section_header_again k short (omega (arith, small)) fits in
    let len : h.len ≡ sealed_len entries = ap (λ (x : SectionHeader). x.len) head in
    let long : length input ≡ length front + (32 + (padding (sealed_len entries) + length rest)) =
    omega (arith, ap length whole, length-append front (foot ++ (pad_bytes ++ rest)), length-append foot (pad_bytes ++ rest), length-append pad_bytes rest, hlen, zlen) in
    let upto : take (h.len - 32) input ≡ front = ap (take (h.len - 32)) whole ∙ take_at front (foot ++ (pad_bytes ++ rest)) (h.len - 32) (omega (arith, flen, len)) in
    let behind : drop (h.len - 32) input ≡ foot ++ (pad_bytes ++ rest) = ap (drop (h.len - 32)) whole ∙ drop_at front (foot ++ (pad_bytes ++ rest)) (h.len - 32) (omega (arith, flen, len)) in
    let last : drop h.len input ≡ pad_bytes ++ rest = ap (λ n. drop n input) (omega (arith, len)) ∙ sym (drop-drop 32 (h.len - 32) input) ∙ ap (drop 32) behind ∙ drop_at foot (pad_bytes ++ rest) 32 hlen in
    let pad : padding h.len ≡ padding (sealed_len entries) = ap padding len in
    record {
      head = head;
      is_sealed = record {
        head = read;
        short = omega (arith, len, short);
        possible = rw (ap (λ (x : SectionHeader). x.file_id) head, ap (λ (x : SectionHeader). x.number) head, len) (possible_if id number (sealed_len entries) small (omega arith));
        whole = record {
          inside = omega (arith, long, pad, len, flen);
          footer = ap (take 32) behind ∙ take_at foot (pad_bytes ++ rest) 32 hlen ∙ ap (λ (l : List ℕ). footer_bytes (record { hash = hash_of l })) (sym upto);
          zero = ap (take (padding h.len)) last ∙ take_at pad_bytes rest (padding h.len) (zlen ∙ sym pad) ∙ ap zeros (sym pad);
        };
      };
      entries_there =
          ap (λ n. take n (drop 20 input)) (omega (arith, len))
          ∙ ap (take (length entries)) (ap (drop 20) whole_a ∙ drop_at a (entries ++ (foot ++ (pad_bytes ++ rest))) 20 alen)
          ∙ take_at entries (foot ++ (pad_bytes ++ rest)) (length entries) refl;
    }
  where
    possible_if : (id n len : ℕ) → n < 2 ^ 64 - 1 → 52 ≤ len → is_possible id (record { len = len; number = n; file_id = id }) ≡ true
    possible_if id n len small long = grind (arith, nat_tests, eq-eqb)

-- ---- the section

length-sealed : (number id : ℕ) (entries : List ℕ) → length (sealed number id entries) ≡ sealed_len entries + padding (sealed_len entries)
length-sealed number id entries =
    let k : SectionHeader = record { len = sealed_len entries; number = number; file_id = id } in
    let front = front_bytes number id entries in
    let foot = footer_bytes (record { hash = hash_of front }) in
    let pad_bytes = zeros (padding (sealed_len entries)) in
    omega (arith, length-append front (foot ++ pad_bytes), length-append (section_header_bytes k) entries, length-section_header_bytes k, length-append foot pad_bytes, length-foot front, length-zeros (padding (sealed_len entries)))

pub section_found : (id : ℕ) (h : SectionHeader) (parts : List Part) (input : List ℕ) → AreBytes input → IsSealed id h input → AreSpelled parts (entries_in h input) → Begins (record { number = h.number; parts = parts }) id (h.len + padding h.len) input
section_found id h parts input are seal spelled =
    let p = possible id h seal.possible in
    let es = entries_in h input in
    let esl : length es ≡ h.len - 52 = length-part 20 (h.len - 52) input (omega (arith, seal.whole.inside, p.2)) in
    record {
      inside = seal.whole.inside;
      spells = record {
        spellable = record { number = p.1; parts = spelled.each; rising = spelled.rising; short = omega (arith, ap length spelled.is, esl, seal.short, p.2) };
        is = sealed_if id h input are seal ∙ ap (sealed h.number id) spelled.is;
      };
    }

begins_with : (s : Section) (id n : ℕ) (input : List ℕ) → Begins s id n input → input ≡ section_bytes id s ++ drop n input
begins_with s id n input begins = sym (take-append-drop n input) ∙ ap (λ (l : List ℕ). l ++ drop n input) begins.spells.is

pub no_seal : (id : ℕ) (input : List ℕ) → HasNoSeal id input → HasNone id input
no_seal id input none = λ s n begins. none s.number (parts_bytes s.parts) (drop n input) begins.spells.spellable.number begins.spells.spellable.short (begins_with s id n input begins)

pub no_parts : (id : ℕ) (h : SectionHeader) (input : List ℕ) → id < 2 ^ 64 → IsSealed id h input → ((parts : List Part) → AreSpelled parts (entries_in h input) → ⊥) → HasNone id input
no_parts id h input fits seal none = λ s n begins.
    let can = begins.spells.spellable in
    let is = sealed_only id s.number (parts_bytes s.parts) (drop n input) input h fits can.number can.short (begins_with s id n input begins) seal.head in
    none s.parts (record { each = can.parts; rising = can.rising; is = is.entries_there })

pub too_short : (id : ℕ) (input : List ℕ) → length input < 20 → HasNoSeal id input
too_short id input short = λ number entries rest small fits is.
    omega (arith, ap length is, length-append (sealed number id entries) rest, length-sealed number id entries)
