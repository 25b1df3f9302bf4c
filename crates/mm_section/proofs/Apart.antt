-- A section has one spelling for an id, and none begins with another's.
use Rattle.std.proofs.Common.{◌≡◌, ◌≢◌, ℕ, ◌+◌, ◌-◌, ◌^◌, ◌<◌, ◌≤◌, List, [], ◌∷◌, ◌++◌, length, map, refl, sym, ◌∙◌, ap, arith, append_assoc, length-append}
use Rattle.mm_base.specs.Bytes.{part}
use Rattle.mm_base.specs.Fields.{u32_bytes, u32_of, u64_bytes, u64_of}
use Rattle.mm_base.specs.Tables.{joined}
use Rattle.mm_base.proofs.Numbers.{length-u32_bytes, length-u64_bytes, u32_again, u64_again}
use Rattle.mm_base.proofs.Parts.{part_first, part_left}
use Rattle.mm_frames.specs.EntryHead.{entry_head_bytes, entry_head_of, made_entry_bytes, made_entry_of}
use Rattle.mm_frames.specs.SectionHeader.{section_header_bytes}
use Rattle.mm_frames.specs.declared.entry_head.EntryHead.{EntryHead}
use Rattle.mm_frames.specs.declared.entry_head.MadeEntry.{MadeEntry}
use Rattle.mm_frames.specs.declared.section_header.SectionHeader.{SectionHeader}
use Rattle.mm_frames.proofs.JournalFrames.{length-section_header_bytes, length-entry_head_bytes, entry_head_again, entry_head_word, length-made_entry_bytes, made_entry_again, made_entry_word}
use Rattle.mm_ranges.specs.declared.part.Piece.{Piece}
use Rattle.mm_ranges.specs.declared.part.Made.{Made}
use Rattle.mm_ranges.specs.declared.part.Part.{Part}
use Rattle.mm_section.specs.declared.section.Section.{Section}
use Rattle.mm_section.specs.Spells.{Entry, Names, Makes, Puts, entry_bytes, entries_bytes, make_of, put_of, part_entries, parts_entries, parts_bytes, sealed_len, front_bytes, back_bytes, sealed, section_bytes, IsSpellable}
use Rattle.mm_section.specs.Reading.{HasNoZero, CanEntry, AllCan}
use Rattle.mm_section.proofs.Limits.{parts_can}

-- ---- lists in two parts

pub same_parts : (p q s t : List ℕ) → length p ≡ length q → p ++ s ≡ q ++ t → (p ≡ q) × (s ≡ t)
same_parts [] [] s t e is = (refl, is)
same_parts [] (y ∷ q) s t e is = absurd (omega (arith, e))
same_parts (x ∷ p) [] s t e is = absurd (omega (arith, e))
same_parts (x ∷ p) (y ∷ q) s t e is =
    let head : x ≡ y = ap (λ (l : List ℕ). first x l) is in
    let rest = same_parts p q s t (omega (arith, e)) (ap tail is) in
    (ap (λ a. a ∷ p) head ∙ ap (λ (l : List ℕ). y ∷ l) rest.0, rest.1)
  where
    first : ℕ → List ℕ → ℕ
    first d [] = d
    first d (a ∷ l) = a

    tail : List ℕ → List ℕ
    tail [] = []
    tail (a ∷ l) = l

-- ---- entries

-- the first word of an entry tells its kind
abbrev pub word : Entry → ℕ
word (Names name) = 0xfffffffe
word (Makes file len) = 0xfffffffd
word (Puts file at bytes) = length bytes

abbrev pub word_of : List ℕ → ℕ
word_of bytes = u32_of (part 0 4 bytes)

name_word : (rest : List ℕ) → word_of (u32_bytes 0xfffffffe ++ rest) ≡ 0xfffffffe
name_word rest = ap u32_of (part_first 4 (u32_bytes 0xfffffffe) rest (length-u32_bytes 0xfffffffe)) ∙ u32_again 0xfffffffe (omega arith)

pub word_is : (e : Entry) (s : List ℕ) → CanEntry e → word_of (entry_bytes e ++ s) ≡ word e
word_is (Names a) s can = ap word_of (append_assoc (u32_bytes 0xfffffffe) (a ++ 0 ∷ []) s) ∙ name_word ((a ++ 0 ∷ []) ++ s)
word_is (Makes f l) s can =
    let m : MadeEntry = record { file = f; len = l } in
    ap u32_of (part_left 0 4 (made_entry_bytes m) s (omega (arith, length-made_entry_bytes m))) ∙ made_entry_word m
word_is (Puts f a b) s can =
    let h : EntryHead = record { len = length b; ofs = a; file = f } in
    ap word_of (append_assoc (entry_head_bytes h) b s)
    ∙ ap u32_of (part_left 0 4 (entry_head_bytes h) (b ++ s) (omega (arith, length-entry_head_bytes h)))
    ∙ entry_head_word h (omega (arith, can.1.1))

abbrev first_of : ℕ → List ℕ → ℕ
first_of d [] = d
first_of d (a ∷ l) = a

abbrev tail_of : List ℕ → List ℕ
tail_of [] = []
tail_of (a ∷ l) = l

name_apart : (a b s t : List ℕ) → HasNoZero a → HasNoZero b → a ++ 0 ∷ s ≡ b ++ 0 ∷ t → (a ≡ b) × (s ≡ t)
name_apart [] [] s t ha hb e = (refl, ap tail_of e)
name_apart [] (y ∷ b) s t ha hb e = absurd (hb.0 (sym (ap (first_of 0) e)))
name_apart (x ∷ a) [] s t ha hb e = absurd (ha.0 (ap (first_of 0) e))
name_apart (x ∷ a) (y ∷ b) s t ha hb e =
    let rest = name_apart a b s t ha.1 hb.1 (ap tail_of e) in
    (ap (λ c. c ∷ a) (ap (first_of 0) e) ∙ ap (λ (l : List ℕ). y ∷ l) rest.0, rest.1)

-- entries with one first word
pub same_word : (e d : Entry) (s t : List ℕ) → CanEntry e → CanEntry d → entry_bytes e ++ s ≡ entry_bytes d ++ t → word e ≡ word d
same_word e d s t ce cd is = sym (word_is e s ce) ∙ ap word_of is ∙ word_is d t cd

names_apart : (a b s t : List ℕ) → HasNoZero a → HasNoZero b → entry_bytes (Names a) ++ s ≡ entry_bytes (Names b) ++ t → (a ≡ b) × (s ≡ t)
names_apart a b s t ca cb is =
    let w = u32_bytes 0xfffffffe in
    let rest = (same_parts w w ((a ++ 0 ∷ []) ++ s) ((b ++ 0 ∷ []) ++ t) refl (sym (append_assoc w (a ++ 0 ∷ []) s) ∙ is ∙ append_assoc w (b ++ 0 ∷ []) t)).1 in
    name_apart a b s t ca cb (sym (append_assoc a (0 ∷ []) s) ∙ rest ∙ append_assoc b (0 ∷ []) t)

made_apart : (m n : MadeEntry) (s t : List ℕ) → m.file < 2 ^ 32 → m.len < 2 ^ 32 → n.file < 2 ^ 32 → n.len < 2 ^ 32 → made_entry_bytes m ++ s ≡ made_entry_bytes n ++ t → (m ≡ n) × (s ≡ t)
made_apart m n s t mf ml nf nl is =
    let parts = same_parts (made_entry_bytes m) (made_entry_bytes n) s t (length-made_entry_bytes m ∙ sym (length-made_entry_bytes n)) is in
    (sym (made_entry_again m mf ml) ∙ ap made_entry_of parts.0 ∙ made_entry_again n nf nl, parts.1)

heads_apart : (h k : EntryHead) (s t : List ℕ) → h.len < 2 ^ 32 → h.ofs < 2 ^ 32 → h.file < 2 ^ 32 → k.len < 2 ^ 32 → k.ofs < 2 ^ 32 → k.file < 2 ^ 32 → entry_head_bytes h ++ s ≡ entry_head_bytes k ++ t → (h ≡ k) × (s ≡ t)
heads_apart h k s t hl ho hf kl ko kf is =
    let parts = same_parts (entry_head_bytes h) (entry_head_bytes k) s t (length-entry_head_bytes h ∙ sym (length-entry_head_bytes k)) is in
    (sym (entry_head_again h hl ho hf) ∙ ap entry_head_of parts.0 ∙ entry_head_again k kl ko kf, parts.1)

pub entry_apart : (e d : Entry) (s t : List ℕ) → CanEntry e → CanEntry d → entry_bytes e ++ s ≡ entry_bytes d ++ t → (e ≡ d) × (s ≡ t)
entry_apart (Names a) (Names b) s t ce cd is = let name = names_apart a b s t ce cd is in (ap Names name.0, name.1)
entry_apart (Makes f l) (Makes g m) s t ce cd is =
    let made = made_apart (record { file = f; len = l }) (record { file = g; len = m }) s t ce.0 ce.1 cd.0 cd.1 is in
    (ap (λ (x : MadeEntry). Makes x.file x.len) made.0, made.1)
entry_apart (Puts f a b) (Puts g c d) s t ce cd is =
    let h : EntryHead = record { len = length b; ofs = a; file = f } in
    let k : EntryHead = record { len = length d; ofs = c; file = g } in
    let head = heads_apart h k (b ++ s) (d ++ t) (omega (arith, ce.1.1)) ce.0.1 ce.0.0 (omega (arith, cd.1.1)) cd.0.1 cd.0.0 (sym (append_assoc (entry_head_bytes h) b s) ∙ is ∙ append_assoc (entry_head_bytes k) d t) in
    let bytes = same_parts b d s t (ap (λ (x : EntryHead). x.len) head.0) head.1 in
    (ap (λ (x : EntryHead). Puts x.file x.ofs b) head.0 ∙ ap (Puts g c) bytes.0, bytes.1)
entry_apart (Names a) (Makes g m) s t ce cd is = absurd (omega (arith, same_word (Names a) (Makes g m) s t ce cd is))
entry_apart (Makes g m) (Names a) s t ce cd is = absurd (omega (arith, same_word (Makes g m) (Names a) s t ce cd is))
entry_apart (Names a) (Puts g c d) s t ce cd is = absurd (omega (arith, same_word (Names a) (Puts g c d) s t ce cd is, cd.1.1))
entry_apart (Puts g c d) (Names a) s t ce cd is = absurd (omega (arith, same_word (Puts g c d) (Names a) s t ce cd is, ce.1.1))
entry_apart (Makes f l) (Puts g c d) s t ce cd is = absurd (omega (arith, same_word (Makes f l) (Puts g c d) s t ce cd is, cd.1.1))
entry_apart (Puts g c d) (Makes f l) s t ce cd is = absurd (omega (arith, same_word (Puts g c d) (Makes f l) s t ce cd is, ce.1.1))

pub some_bytes : (e : Entry) → 0 < length (entry_bytes e)
some_bytes (Names a) = omega (arith, length-append (u32_bytes 0xfffffffe) (a ++ 0 ∷ []), length-u32_bytes 0xfffffffe)
some_bytes (Makes f l) = omega (arith, length-made_entry_bytes (record { file = f; len = l }))
some_bytes (Puts f a b) = let h : EntryHead = record { len = length b; ofs = a; file = f } in omega (arith, length-append (entry_head_bytes h) b, length-entry_head_bytes h)

pub entries_apart : (es ds : List Entry) → AllCan es → AllCan ds → entries_bytes es ≡ entries_bytes ds → es ≡ ds
entries_apart [] [] ce cd is = refl
entries_apart [] (d ∷ ds) ce cd is = absurd (omega (arith, ap length is, length-append (entry_bytes d) (entries_bytes ds), some_bytes d))
entries_apart (e ∷ es) [] ce cd is = absurd (omega (arith, ap length is, length-append (entry_bytes e) (entries_bytes es), some_bytes e))
entries_apart (e ∷ es) (d ∷ ds) ce cd is =
    let one = entry_apart e d (entries_bytes es) (entries_bytes ds) ce.0 cd.0 is in
    ap (λ (x : Entry). x ∷ es) one.0 ∙ ap (λ (l : List Entry). d ∷ l) (entries_apart es ds ce.1 cd.1 one.1)

-- ---- parts

abbrev kind : Entry → ℕ
kind (Names a) = 0
kind (Makes f l) = 1
kind (Puts f a b) = 2

abbrev made_of : Made → Entry → Made
made_of m (Names a) = m
made_of m (Makes f l) = record { file = f; len = l }
made_of m (Puts f a b) = m

abbrev piece_of : Piece → Entry → Piece
piece_of p (Names a) = p
piece_of p (Makes f l) = p
piece_of p (Puts f a b) = record { file = f; at = a; bytes = b }

abbrev name_of : Entry → List ℕ
name_of (Names a) = a
name_of (Makes f l) = []
name_of (Puts f a b) = []

abbrev head_or : Entry → List Entry → Entry
head_or d [] = d
head_or d (e ∷ es) = e

abbrev rest_of : List Entry → List Entry
rest_of [] = []
rest_of (e ∷ es) = es

-- nothing stands there, or a name
abbrev Ends : List Entry → Type 0
Ends [] = Unit {0}
Ends (e ∷ es) = kind e ≡ 0

some_entry : (d : Entry) (xs : List Entry) → 0 < length xs → Ends xs → kind (head_or d xs) ≡ 0
some_entry d [] lt h = absurd (omega arith)
some_entry d (x ∷ xs) lt h = h

pieces_apart : (ps qs : List Piece) (r t : List Entry) → Ends r → Ends t → map put_of ps ++ r ≡ map put_of qs ++ t → (ps ≡ qs) × (r ≡ t)
pieces_apart [] [] r t hr ht e = (refl, e)
pieces_apart [] (q ∷ qs) r t hr ht e =
    let kinds : kind (head_or (Names []) r) ≡ 2 = ap (λ l. kind (head_or (Names []) l)) e in
    absurd (omega (arith, kinds, some_entry (Names []) r (omega (arith, ap length e)) hr))
pieces_apart (p ∷ ps) [] r t hr ht e =
    let kinds : 2 ≡ kind (head_or (Names []) t) = ap (λ l. kind (head_or (Names []) l)) e in
    absurd (omega (arith, kinds, some_entry (Names []) t (omega (arith, ap length e)) ht))
pieces_apart (p ∷ ps) (q ∷ qs) r t hr ht e =
    let rest = pieces_apart ps qs r t hr ht (ap rest_of e) in
    let head : p ≡ q = ap (λ l. piece_of p (head_or (Names []) l)) e in
    (ap (λ (x : Piece). x ∷ ps) head ∙ ap (λ (l : List Piece). q ∷ l) rest.0, rest.1)

-- no made file stands first
abbrev NoMade : List Entry → Type 0
NoMade [] = Unit {0}
NoMade (e ∷ es) = kind e ≢ 1

no_made : (d : Entry) (xs : List Entry) → 0 < length xs → NoMade xs → kind (head_or d xs) ≢ 1
no_made d [] lt h = absurd (omega arith)
no_made d (x ∷ xs) lt h = h

mades_apart : (ms ns : List Made) (r t : List Entry) → NoMade r → NoMade t → map make_of ms ++ r ≡ map make_of ns ++ t → (ms ≡ ns) × (r ≡ t)
mades_apart [] [] r t hr ht e = (refl, e)
mades_apart [] (n ∷ ns) r t hr ht e = absurd (no_made (Names []) r (omega (arith, ap length e)) hr (ap (λ l. kind (head_or (Names []) l)) e))
mades_apart (m ∷ ms) [] r t hr ht e = absurd (no_made (Names []) t (omega (arith, ap length e)) ht (sym (ap (λ l. kind (head_or (Names []) l)) e)))
mades_apart (m ∷ ms) (n ∷ ns) r t hr ht e =
    let rest = mades_apart ms ns r t hr ht (ap rest_of e) in
    let head : m ≡ n = ap (λ l. made_of m (head_or (Names []) l)) e in
    (ap (λ (x : Made). x ∷ ms) head ∙ ap (λ (l : List Made). n ∷ l) rest.0, rest.1)

ends_parts : (ps : List Part) → Ends (parts_entries ps)
ends_parts [] = tt
ends_parts (p ∷ ps) = refl

no_made_there : (ps : List Piece) (r : List Entry) → Ends r → NoMade (map put_of ps ++ r)
no_made_there [] [] h = tt
no_made_there [] (e ∷ es) h = λ is. omega (arith, is, h)
no_made_there (p ∷ ps) r h = λ is. omega (arith, is)

pub parts_apart : (ps qs : List Part) → parts_entries ps ≡ parts_entries qs → ps ≡ qs
parts_apart [] [] e = refl
parts_apart [] (q ∷ qs) e = absurd (omega (arith, ap length e))
parts_apart (p ∷ ps) [] e = absurd (omega (arith, ap length e))
parts_apart (p ∷ ps) (q ∷ qs) e =
    let name : p.name ≡ q.name = ap (λ l. name_of (head_or (Names []) l)) e in
    let rest : (map make_of p.made ++ map put_of p.pieces) ++ parts_entries ps ≡ (map make_of q.made ++ map put_of q.pieces) ++ parts_entries qs = ap rest_of e in
    let made = mades_apart p.made q.made (map put_of p.pieces ++ parts_entries ps) (map put_of q.pieces ++ parts_entries qs) (no_made_there p.pieces (parts_entries ps) (ends_parts ps)) (no_made_there q.pieces (parts_entries qs) (ends_parts qs))
    (sym (append_assoc (map make_of p.made) (map put_of p.pieces) (parts_entries ps)) ∙ rest ∙ append_assoc (map make_of q.made) (map put_of q.pieces) (parts_entries qs)) in
    let pieces = pieces_apart p.pieces q.pieces (parts_entries ps) (parts_entries qs) (ends_parts ps) (ends_parts qs) made.1 in
    let tails : ps ≡ qs = parts_apart ps qs pieces.1 in
    ap (λ (x : Part). x ∷ ps) (same_part p q name made.0 pieces.0) ∙ ap (λ (l : List Part). q ∷ l) tails
  where
    same_part : (p q : Part) → p.name ≡ q.name → p.made ≡ q.made → p.pieces ≡ q.pieces → p ≡ q
    same_part p q a b c = ap (λ n. let x : Part = record { name = n; made = p.made; pieces = p.pieces } in x) a ∙ ap (λ m. let x : Part = record { name = q.name; made = m; pieces = p.pieces } in x) b ∙ ap (λ k. let x : Part = record { name = q.name; made = q.made; pieces = k } in x) c

-- ---- sections

-- headers with the same bytes have one length and one number, whatever their ids
head_fields : (h k : SectionHeader) → h.len < 2 ^ 32 → k.len < 2 ^ 32 → h.number < 2 ^ 64 → k.number < 2 ^ 64 → section_header_bytes h ≡ section_header_bytes k → (h.len ≡ k.len) × (h.number ≡ k.number)
unfolding section_header_bytes joined
head_fields h k short_h short_k small_h small_k is =
    let rest_h = u64_bytes h.file_id ++ [] in
    let rest_k = u64_bytes k.file_id ++ [] in
    let first = same_parts (u32_bytes h.len) (u32_bytes k.len) (u64_bytes h.number ++ rest_h) (u64_bytes k.number ++ rest_k) (length-u32_bytes h.len ∙ sym (length-u32_bytes k.len)) is in
    let second = same_parts (u64_bytes h.number) (u64_bytes k.number) rest_h rest_k (length-u64_bytes h.number ∙ sym (length-u64_bytes k.number)) first.1 in (
      sym (u32_again h.len short_h) ∙ ap u32_of first.0 ∙ u32_again k.len short_k,
      sym (u64_again h.number small_h) ∙ ap u64_of second.0 ∙ u64_again k.number small_k,
    )

-- entries that stand sealed at the front of the same bytes are the same
pub sealed_apart : (id m n : ℕ) (es ds x y : List ℕ) → m < 2 ^ 64 → n < 2 ^ 64 → sealed_len es < 2 ^ 32 → sealed_len ds < 2 ^ 32 → sealed m id es ++ x ≡ sealed n id ds ++ y → (m ≡ n) × (es ≡ ds)
sealed_apart id m n es ds x y fits_m fits_n short_e short_d is =
    let h : SectionHeader = record { len = sealed_len es; number = m; file_id = id } in
    let k : SectionHeader = record { len = sealed_len ds; number = n; file_id = id } in
    let a = section_header_bytes h in
    let b = section_header_bytes k in
    let back_e = back_bytes (front_bytes m id es) (sealed_len es) in
    let back_d = back_bytes (front_bytes n id ds) (sealed_len ds) in
    let whole : a ++ (es ++ (back_e ++ x)) ≡ b ++ (ds ++ (back_d ++ y)) =
    sym (append_assoc a es (back_e ++ x)) ∙ sym (append_assoc (a ++ es) back_e x) ∙ is ∙ append_assoc (b ++ ds) back_d y ∙ append_assoc b ds (back_d ++ y) in
    let heads = same_parts a b (es ++ (back_e ++ x)) (ds ++ (back_d ++ y)) (length-section_header_bytes h ∙ sym (length-section_header_bytes k)) whole in
    let fields = head_fields h k short_e short_d fits_m fits_n heads.0 in
    let sized : length es ≡ length ds = omega (arith, fields.0) in
    (fields.1, (same_parts es ds (back_e ++ x) (back_d ++ y) sized heads.1).0)

-- no spelled section begins with another's
pub section_apart : (id : ℕ) (s t : Section) (x y : List ℕ) → IsSpellable s → IsSpellable t → section_bytes id s ++ x ≡ section_bytes id t ++ y → s ≡ t
section_apart id s t x y cs ct is =
    let same = sealed_apart id s.number t.number (parts_bytes s.parts) (parts_bytes t.parts) x y (omega (arith, cs.number)) (omega (arith, ct.number)) cs.short ct.short is in
    let parts : s.parts ≡ t.parts = parts_apart s.parts t.parts (entries_apart (parts_entries s.parts) (parts_entries t.parts) (parts_can s.parts cs.parts) (parts_can t.parts ct.parts) same.1) in
    ap (λ m. let z : Section = record { number = m; parts = s.parts } in z) same.0 ∙ ap (λ (l : List Part). let z : Section = record { number = t.number; parts = l } in z) parts

pub some_section : (id : ℕ) (s : Section) → 0 < length (section_bytes id s)
some_section id s =
    let h : SectionHeader = record { len = sealed_len (parts_bytes s.parts); number = s.number; file_id = id } in
    let front = front_bytes s.number id (parts_bytes s.parts) in
    omega (arith, length-append front (back_bytes front (sealed_len (parts_bytes s.parts))), length-append (section_header_bytes h) (parts_bytes s.parts), length-section_header_bytes h)
