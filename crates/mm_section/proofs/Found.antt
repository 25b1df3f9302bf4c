-- What the steps of the reader find, and that nothing else can stand there.
use Rattle.std.proofs.Common.{◌≡◌, ◌≢◌, ℕ, zero, suc, Bool, true, false, cond, ◌+◌, ◌-◌, ◌^◌, ◌<◌, ◌≤◌, List, [], ◌∷◌, ◌++◌, length, map, take, drop, refl, sym, ◌∙◌, ap, subst, arith, append_assoc, length-append, length-drop}
use Rattle.std.specs.Prelude.{◌==◌, not, IsTrue}
use Rattle.std.specs.List.{prefix_len}
use Rattle.std.proofs.Math.Dec.{eqb-suc-zero}
use Rattle.std.proofs.lemmas.List.{append-nil, take-append-drop, drop-drop, drop_at, drop_all, length-take-le, get_or-drop}
use Rattle.mm_base.specs.Bytes.{part}
use Rattle.mm_base.specs.Fields.{u32_of, u32_bytes}
use Rattle.mm_base.proofs.Numbers.{length-u32_bytes}
use Rattle.mm_base.proofs.Parts.{length-part, part_left, part_whole}
use Rattle.mm_base.proofs.Spelled.{AreBytes, bytes_of_part, u32_spelled, u32_below}
use Rattle.mm_frames.specs.EntryHead.{entry_head_bytes, entry_head_of, made_entry_bytes, made_entry_of}
use Rattle.mm_frames.specs.declared.entry_head.EntryHead.{EntryHead}
use Rattle.mm_frames.specs.declared.entry_head.MadeEntry.{MadeEntry}
use Rattle.mm_frames.proofs.JournalFrames.{length-entry_head_bytes, entry_head_again, entry_head_spelled, length-made_entry_bytes, made_entry_spelled}
use Rattle.mm_ranges.specs.declared.part.Piece.{Piece}
use Rattle.mm_ranges.specs.declared.part.Made.{Made}
use Rattle.mm_ranges.specs.declared.part.Part.{Part}
use Rattle.mm_section.specs.Spells.{Entry, Names, Makes, Puts, entry_bytes, entries_bytes, make_of, put_of, part_entries, parts_entries, parts_bytes, is_db_name, IsPart, AreParts, are_rising}
use Rattle.mm_section.specs.Reading.{HasNoZero, CanEntry, AllCan, Reads, HasNoName, HasNoMade, HasNoPiece, ReadsMade, ReadsPieces, ReadsPart, IsHead, HasNoPart, AreSpelled}
use Rattle.mm_section.proofs.Apart.{word, word_of, word_is, same_word, entry_apart, some_bytes}
use Rattle.mm_section.proofs.Limits.{name_no_zero, can_append, part_can, parts_can}
use Rattle.mm_section.proofs.Loops.{entries-append}

-- ---- entries one behind the other

pub reads_both : (es ds : List Entry) (n m : ℕ) (bytes : List ℕ) → Reads es n bytes → Reads ds m (drop n bytes) → Reads (es ++ ds) (n + m) bytes
reads_both es ds n m bytes r s = record {
  inside = omega (arith, r.inside, s.inside, length-drop n bytes);
  is =
      r.is ∙ ap (λ (l : List ℕ). entries_bytes es ++ l) s.is ∙ sym (append_assoc (entries_bytes es) (entries_bytes ds) (drop m (drop n bytes)))
      ∙ ap (λ (l : List ℕ). l ++ drop m (drop n bytes)) (sym (entries-append es ds)) ∙ ap (λ (l : List ℕ). entries_bytes (es ++ ds) ++ l) (drop-drop m n bytes);
  can = can_append es ds r.can s.can;
}

pub reads_none : (bytes : List ℕ) → Reads [] 0 bytes
reads_none bytes = record { inside = omega arith; is = refl; can = tt }

map_more : {X : Type 0} (f : X → Entry) (xs : List X) (x : X) → map f (xs ++ x ∷ []) ≡ map f xs ++ f x ∷ []
map_more f [] x = refl
map_more f (y ∷ xs) x = ap (λ (l : List Entry). f y ∷ l) (map_more f xs x)

-- one entry more of a kind
pub reads_more : {X : Type 0} (f : X → Entry) (xs : List X) (x : X) (n m : ℕ) (bytes : List ℕ) → Reads (map f xs) n bytes → Reads (f x ∷ []) m (drop n bytes) → Reads (map f (xs ++ x ∷ [])) (n + m) bytes
reads_more f xs x n m bytes r s = subst (λ (es : List Entry). Reads es (n + m) bytes) (sym (map_more f xs x)) (reads_both (map f xs) (f x ∷ []) n m bytes r s)

-- an entry that is the first n bytes
one_entry : (e : Entry) (n : ℕ) (bytes : List ℕ) → n ≤ length bytes → take n bytes ≡ entry_bytes e → CanEntry e → Reads (e ∷ []) n bytes
one_entry e n bytes inside is can = record {
  inside = inside;
  is = sym (take-append-drop n bytes) ∙ ap (λ (l : List ℕ). l ++ drop n bytes) (is ∙ sym (append-nil (entry_bytes e)));
  can = (can, tt);
}

-- ---- made files

made_small : (bytes : List ℕ) → AreBytes bytes → ((made_entry_of bytes).file < 2 ^ 32) × ((made_entry_of bytes).len < 2 ^ 32)
unfolding made_entry_of
made_small bytes are = (u32_below (part 4 4 bytes) (bytes_of_part 4 4 bytes are), u32_below (part 8 4 bytes) (bytes_of_part 8 4 bytes are))

pub made_found : (bytes : List ℕ) (e : MadeEntry) → 12 ≤ length bytes → AreBytes bytes → u32_of (part 0 4 bytes) ≡ 0xfffffffd → e ≡ made_entry_of (part 0 12 bytes) → Reads (Makes e.file e.len ∷ []) 12 bytes
unfolding part
made_found bytes e long are word_there is =
    let frame = take 12 bytes in
    let len : length frame ≡ 12 = length-take-le 12 bytes long in
    let bytes_are : AreBytes frame = bytes_of_part 0 12 bytes are in
    let same_word_there : u32_of (take 4 frame) ≡ 0xfffffffd = sym (ap u32_of (part_left 0 4 frame (drop 12 bytes) (omega (arith, len)))) ∙ ap (λ (l : List ℕ). u32_of (take 4 l)) (take-append-drop 12 bytes) ∙ word_there in
    let spelled : frame ≡ made_entry_bytes e = sym (made_entry_spelled frame len bytes_are same_word_there) ∙ ap made_entry_bytes (sym is) in
    let small = made_small frame bytes_are in
    let file : e.file < 2 ^ 32 = omega (arith, ap (λ (x : MadeEntry). x.file) is, small.0) in
    let size : e.len < 2 ^ 32 = omega (arith, ap (λ (x : MadeEntry). x.len) is, small.1) in
    one_entry (Makes e.file e.len) 12 bytes long spelled (file, size)

pub made_too_long : (bytes : List ℕ) → length bytes < 12 → HasNoMade bytes
made_too_long bytes short = λ m rest can is. omega (arith, ap length is, length-append (entry_bytes (make_of m)) rest, length-made_entry_bytes (record { file = m.file; len = m.len }))

pub made_other_word : (bytes : List ℕ) → u32_of (part 0 4 bytes) ≢ 0xfffffffd → HasNoMade bytes
made_other_word bytes other = λ m rest can is. other (ap word_of is ∙ word_is (make_of m) rest can)

-- ---- ranges

-- what the head of a range says, where one stands
pub head_seen : (bytes : List ℕ) (p : Piece) (rest : List ℕ) → CanEntry (put_of p) → bytes ≡ entry_bytes (put_of p) ++ rest → (entry_head_of (part 0 12 bytes) ≡ record { len = length p.bytes; ofs = p.at; file = p.file }) × (length p.bytes + 12 ≤ length bytes)
head_seen bytes p rest can is =
    let h : EntryHead = record { len = length p.bytes; ofs = p.at; file = p.file } in
    let len = length-entry_head_bytes h in
    let whole : bytes ≡ entry_head_bytes h ++ (p.bytes ++ rest) = is ∙ append_assoc (entry_head_bytes h) p.bytes rest in
    let front : part 0 12 bytes ≡ entry_head_bytes h = ap (part 0 12) whole ∙ part_left 0 12 (entry_head_bytes h) (p.bytes ++ rest) (omega (arith, len)) ∙ part_whole 12 (entry_head_bytes h) len in (
      ap entry_head_of front ∙ entry_head_again h (omega (arith, can.1.1)) can.0.1 can.0.0,
      omega (arith, ap length whole, length-append (entry_head_bytes h) (p.bytes ++ rest), length-append p.bytes rest, len),
    )

pub piece_too_long : (bytes : List ℕ) → length bytes < 12 → HasNoPiece bytes
piece_too_long bytes short = λ p rest can is. omega (arith, (head_seen bytes p rest can is).1)

pub piece_other : (bytes : List ℕ) (h : EntryHead) → h ≡ entry_head_of (part 0 12 bytes) → (0 < h.len → h.len ≤ 67108864 → h.len + 12 ≤ length bytes → ⊥) → HasNoPiece bytes
piece_other bytes h is never = λ p rest can e.
    let seen = head_seen bytes p rest can e in
    let len : h.len ≡ length p.bytes = ap (λ (x : EntryHead). x.len) (is ∙ seen.0) in
    never (omega (arith, len, can.1.0)) (omega (arith, len, can.1.1)) (omega (arith, len, seen.1))

head_small : (bytes : List ℕ) → AreBytes bytes → ((entry_head_of bytes).file < 2 ^ 32) × ((entry_head_of bytes).ofs < 2 ^ 32)
unfolding entry_head_of
head_small bytes are = (u32_below (part 8 4 bytes) (bytes_of_part 8 4 bytes are), u32_below (part 4 4 bytes) (bytes_of_part 4 4 bytes are))

pub piece_found : (bytes : List ℕ) (h : EntryHead) (there : List ℕ) → AreBytes bytes → IsHead h bytes → there ≡ part 12 h.len bytes → Reads (Puts h.file h.ofs there ∷ []) (length there + 12) bytes
unfolding part
piece_found bytes h there are head is =
    let frame = take 12 bytes in
    let flen : length frame ≡ 12 = length-take-le 12 bytes (omega (arith, head.inside)) in
    let bytes_are : AreBytes frame = bytes_of_part 0 12 bytes are in
    let len : length there ≡ h.len = ap length is ∙ length-take-le h.len (drop 12 bytes) (omega (arith, length-drop 12 bytes, head.inside)) in
    let small = head_small frame bytes_are in
    let file : h.file < 2 ^ 32 = omega (arith, ap (λ (x : EntryHead). x.file) head.is, small.0) in
    let ofs : h.ofs < 2 ^ 32 = omega (arith, ap (λ (x : EntryHead). x.ofs) head.is, small.1) in
    let h_is : record { len = length there; ofs = h.ofs; file = h.file } ≡ h = ap (λ n. let x : EntryHead = record { len = n; ofs = h.ofs; file = h.file } in x) len in
    let spelled : entry_head_bytes (record { len = length there; ofs = h.ofs; file = h.file }) ≡ frame = ap entry_head_bytes (h_is ∙ head.is) ∙ entry_head_spelled frame flen bytes_are in
    let e : Entry = Puts h.file h.ofs there in
    let rest : drop h.len (drop 12 bytes) ≡ drop (length there + 12) bytes = drop-drop h.len 12 bytes ∙ ap (λ n. drop n bytes) (omega (arith, len)) in
    record {
      inside = omega (arith, len, head.inside);
      is =
          sym (take-append-drop 12 bytes) ∙ ap (λ (l : List ℕ). l ++ drop 12 bytes) (sym spelled)
          ∙ ap (λ (l : List ℕ). entry_head_bytes (record { len = length there; ofs = h.ofs; file = h.file }) ++ l) (sym (take-append-drop h.len (drop 12 bytes)) ∙ ap (λ (l : List ℕ). l ++ drop h.len (drop 12 bytes)) (sym is) ∙ ap (λ (l : List ℕ). there ++ l) rest)
          ∙ sym (append_assoc (entry_head_bytes (record { len = length there; ofs = h.ofs; file = h.file })) there (drop (length there + 12) bytes))
          ∙ ap (λ (l : List ℕ). l ++ drop (length there + 12) bytes) (sym (append-nil (entry_bytes e)));
      can = (((file, ofs), (omega (arith, len, head.some), omega (arith, len, head.short))), tt);
    }

-- ---- names

abbrev pub passes : ℕ → Bool
passes b = not (b == 0)

passes_if : (b : ℕ) → (b ≡ 0 → ⊥) → passes b ≡ true
passes_if zero other = absurd (other refl)
passes_if (suc b) other = ap not (eqb-suc-zero b)

prefix_of : (name rest : List ℕ) → HasNoZero name → prefix_len passes (name ++ 0 ∷ rest) ≡ length name
prefix_of [] rest none = refl
prefix_of (b ∷ name) rest none = rw (passes_if b none.0) (omega (arith, prefix_of name rest none.1))

-- the bytes before the first zero
record Before (n : ℕ) (bytes : List ℕ) : Type 0 where
  is : bytes ≡ take n bytes ++ 0 ∷ drop (n + 1) bytes
  none : HasNoZero (take n bytes)

before_zero : (bytes : List ℕ) → prefix_len passes bytes < length bytes → Before (prefix_len passes bytes) bytes
before_zero [] lt = absurd (omega arith)
before_zero (zero ∷ bytes) lt = record { is = refl; none = tt }
before_zero (suc b ∷ bytes) lt =
    let pass : passes (suc b) ≡ true = ap not (eqb-suc-zero b) in
    let n = prefix_len passes bytes in
    let count : prefix_len passes (suc b ∷ bytes) ≡ suc n = ap (λ t. cond t (1 + n) 0) pass ∙ omega arith in
    let rest = before_zero bytes (omega (arith, count, lt)) in
    let next : suc n + 1 ≡ suc (n + 1) = omega arith in
    subst (λ k. Before k (suc b ∷ bytes)) (sym count) (record {
      is = ap (λ (l : List ℕ). suc b ∷ l) rest.is ∙ ap (λ k. suc b ∷ take n bytes ++ 0 ∷ drop k (suc b ∷ bytes)) (sym next);
      none = ((λ e. omega (arith, e)), rest.none);
    })

pub name_found : (bytes name : List ℕ) (n : ℕ) → 4 ≤ length bytes → AreBytes bytes → u32_of (part 0 4 bytes) ≡ 0xfffffffe → n ≡ prefix_len passes (drop 4 bytes) → n < length (drop 4 bytes) → name ≡ take n (drop 4 bytes) → Reads (Names name ∷ []) (length name + 5) bytes
unfolding part
name_found bytes name n long are word_there found inside is =
    let rest = drop 4 bytes in
    let before : Before n rest = subst (λ k. Before k rest) (sym found) (before_zero rest (omega (arith, found, inside))) in
    let len : length name ≡ n = ap length is ∙ length-take-le n rest (omega (arith, inside)) in
    let front : take 4 bytes ≡ u32_bytes 0xfffffffe = sym (u32_spelled (take 4 bytes) (length-take-le 4 bytes long) (bytes_of_part 0 4 bytes are)) ∙ ap u32_bytes word_there in
    let behind : drop (n + 1) rest ≡ drop (length name + 5) bytes = drop-drop (n + 1) 4 bytes ∙ ap (λ k. drop k bytes) (omega (arith, len)) in
    let w = u32_bytes 0xfffffffe in
    record {
      inside = omega (arith, len, inside, length-drop 4 bytes);
      is =
          sym (take-append-drop 4 bytes) ∙ ap (λ (l : List ℕ). l ++ rest) front
          ∙ ap (λ (l : List ℕ). w ++ l) (before.is ∙ ap (λ (l : List ℕ). l ++ 0 ∷ drop (n + 1) rest) (sym is) ∙ ap (λ (l : List ℕ). name ++ 0 ∷ l) behind ∙ sym (append_assoc name (0 ∷ []) (drop (length name + 5) bytes)))
          ∙ sym (append_assoc w (name ++ 0 ∷ []) (drop (length name + 5) bytes))
          ∙ ap (λ (l : List ℕ). l ++ drop (length name + 5) bytes) (sym (append-nil (w ++ (name ++ 0 ∷ []))));
      can = (subst HasNoZero (sym is) before.none, tt);
    }

pub name_too_long : (bytes : List ℕ) → length bytes < 4 → HasNoName bytes
name_too_long bytes short = λ name rest db is. omega (arith, ap length is, length-append (u32_bytes 0xfffffffe ++ (name ++ 0 ∷ [])) rest, length-append (u32_bytes 0xfffffffe) (name ++ 0 ∷ []), length-u32_bytes 0xfffffffe)

pub name_other_word : (bytes : List ℕ) → u32_of (part 0 4 bytes) ≢ 0xfffffffe → HasNoName bytes
name_other_word bytes other = λ name rest db is. other (ap word_of is ∙ word_is (Names name) rest (name_no_zero name db))

pub name_endless : (bytes : List ℕ) (n : ℕ) → n ≡ prefix_len passes (drop 4 bytes) → length (drop 4 bytes) ≤ n → HasNoName bytes
name_endless bytes n found past = λ name rest db is.
    let w = u32_bytes 0xfffffffe in
    let there : drop 4 bytes ≡ name ++ 0 ∷ rest = ap (drop 4) (is ∙ append_assoc w (name ++ 0 ∷ []) rest) ∙ drop_at w ((name ++ 0 ∷ []) ++ rest) 4 (length-u32_bytes 0xfffffffe) ∙ append_assoc name (0 ∷ []) rest in
    omega (arith, found, past, ap (prefix_len passes) there, prefix_of name rest (name_no_zero name db), ap length there, length-append name (0 ∷ rest))

-- ---- parts

pub entries_found : (name : List ℕ) (made : List Made) (pieces : List Piece) (at k j : ℕ) (bytes : List ℕ) → at ≡ length name + 5 → Reads (Names name ∷ []) (length name + 5) bytes → ReadsMade made k (drop at bytes) → ReadsPieces pieces j (drop (at + k) bytes)
    → ReadsPart (record { name = name; made = made; pieces = pieces }) (at + k + j) bytes
entries_found name made pieces at k j bytes place first m p =
    let named : Reads (Names name ∷ []) at bytes = subst (λ n. Reads (Names name ∷ []) n bytes) (sym place) first in
    let front = reads_both (Names name ∷ []) (map make_of made) at k bytes named m.reads in
    let whole = reads_both (Names name ∷ map make_of made) (map put_of pieces) (at + k) j bytes front p.reads in
    let rest : drop k (drop at bytes) ≡ entries_bytes (map put_of pieces) ++ drop (at + k + j) bytes =
    drop-drop k at bytes ∙ p.reads.is ∙ ap (λ (l : List ℕ). entries_bytes (map put_of pieces) ++ l) (drop-drop j (at + k) bytes) in
    record {
      some = omega (arith, place);
      reads = whole;
      no_made = subst HasNoMade rest m.no_more;
      no_piece = subst HasNoPiece (drop-drop j (at + k) bytes) p.no_more;
    }

-- as many entries of a kind as there are
longest : {X : Type 0} (f : X → Entry) (inj : (x y : X) → f x ≡ f y → x ≡ y) (xs ys : List X) (r t : List ℕ) → AllCan (map f xs) → AllCan (map f ys)
    → ((x : X) (rest : List ℕ) → CanEntry (f x) → r ≡ entry_bytes (f x) ++ rest → ⊥) → ((x : X) (rest : List ℕ) → CanEntry (f x) → t ≡ entry_bytes (f x) ++ rest → ⊥)
    → entries_bytes (map f xs) ++ r ≡ entries_bytes (map f ys) ++ t → (xs ≡ ys) × (r ≡ t)
longest f inj [] [] r t cx cy nr nt is = (refl, is)
longest f inj [] (y ∷ ys) r t cx cy nr nt is = absurd (nr y (entries_bytes (map f ys) ++ t) cy.0 (is ∙ append_assoc (entry_bytes (f y)) (entries_bytes (map f ys)) t))
longest f inj (x ∷ xs) [] r t cx cy nr nt is = absurd (nt x (entries_bytes (map f xs) ++ r) cx.0 (sym is ∙ append_assoc (entry_bytes (f x)) (entries_bytes (map f xs)) r))
longest {X} f inj (x ∷ xs) (y ∷ ys) r t cx cy nr nt is =
    let one = entry_apart (f x) (f y) (entries_bytes (map f xs) ++ r) (entries_bytes (map f ys) ++ t) cx.0 cy.0 (sym (append_assoc (entry_bytes (f x)) (entries_bytes (map f xs)) r) ∙ is ∙ append_assoc (entry_bytes (f y)) (entries_bytes (map f ys)) t) in
    let rest = longest f inj xs ys r t cx.1 cy.1 nr nt one.1 in
    (ap (λ (z : X). z ∷ xs) (inj x y one.0) ∙ ap (λ (l : List X). y ∷ l) rest.0, rest.1)

abbrev made_in : Entry → Made
made_in (Names a) = record { file = 0; len = 0 }
made_in (Makes f l) = record { file = f; len = l }
made_in (Puts f a b) = record { file = 0; len = 0 }

abbrev piece_in : Entry → Piece
piece_in (Names a) = record { file = 0; at = 0; bytes = [] }
piece_in (Makes f l) = record { file = 0; at = 0; bytes = [] }
piece_in (Puts f a b) = record { file = f; at = a; bytes = b }

-- where parts begin, no made file and no range stands
no_made_parts : (qs : List Part) → AreParts qs → HasNoMade (parts_bytes qs)
no_made_parts [] are = λ m rest can is. omega (arith, ap length is, length-append (entry_bytes (make_of m)) rest, some_bytes (make_of m))
no_made_parts (q ∷ qs) are = λ m rest can is.
    let rest_q = entries_bytes ((map make_of q.made ++ map put_of q.pieces) ++ parts_entries qs) in
    omega (arith, same_word (Names q.name) (make_of m) rest_q rest (name_no_zero q.name are.0.name) can is)

no_piece_parts : (qs : List Part) → AreParts qs → HasNoPiece (parts_bytes qs)
no_piece_parts [] are = λ p rest can is. omega (arith, ap length is, length-append (entry_bytes (put_of p)) rest, some_bytes (put_of p))
no_piece_parts (q ∷ qs) are = λ p rest can is.
    let rest_q = entries_bytes ((map make_of q.made ++ map put_of q.pieces) ++ parts_entries qs) in
    omega (arith, can.1.1, same_word (Names q.name) (put_of p) rest_q rest (name_no_zero q.name are.0.name) can is)

no_made_pieces : (ps : List Piece) (rest : List ℕ) → AllCan (map put_of ps) → HasNoMade rest → HasNoMade (entries_bytes (map put_of ps) ++ rest)
no_made_pieces [] rest can none = none
no_made_pieces (p ∷ ps) rest can none = λ m more can_m is.
    omega (arith, can.0.1.1, same_word (put_of p) (make_of m) (entries_bytes (map put_of ps) ++ rest) more can.0 can_m (sym (append_assoc (entry_bytes (put_of p)) (entries_bytes (map put_of ps)) rest) ∙ is))

front_can : (a b : List Entry) → AllCan (a ++ b) → AllCan a
front_can [] b can = tt
front_can (e ∷ a) b can = (can.0, front_can a b can.1)

back_can : (a b : List Entry) → AllCan (a ++ b) → AllCan b
back_can [] b can = can
back_can (e ∷ a) b can = back_can a b can.1

-- no other part stands there
pub part_only : (p : Part) (n : ℕ) (bytes : List ℕ) (q : Part) (qs : List Part) → ReadsPart p n bytes → IsPart q → AreParts qs → bytes ≡ parts_bytes (q ∷ qs) → (q ≡ p) × (drop n bytes ≡ parts_bytes qs)
part_only p n bytes q qs reads is_q are is =
    let r = drop n bytes in
    let t = parts_bytes qs in
    let pm = map make_of p.made in
    let pp = map put_of p.pieces in
    let qm = map make_of q.made in
    let qp = map put_of q.pieces in
    let can_q = part_can q is_q in
    let can_p = reads.reads.can in
    let left : bytes ≡ entry_bytes (Names p.name) ++ (entries_bytes (pm ++ pp) ++ r) = reads.reads.is ∙ append_assoc (entry_bytes (Names p.name)) (entries_bytes (pm ++ pp)) r in
    let names = entry_apart (Names p.name) (Names q.name) (entries_bytes (pm ++ pp) ++ r) (entries_bytes ((qm ++ qp) ++ parts_entries qs)) can_p.0 can_q.0 (sym left ∙ is) in
    let grouped_p : entries_bytes (pm ++ pp) ++ r ≡ entries_bytes pm ++ (entries_bytes pp ++ r) = ap (λ (l : List ℕ). l ++ r) (entries-append pm pp) ∙ append_assoc (entries_bytes pm) (entries_bytes pp) r in
    let grouped_q : entries_bytes ((qm ++ qp) ++ parts_entries qs) ≡ entries_bytes qm ++ (entries_bytes qp ++ t) =
    entries-append (qm ++ qp) (parts_entries qs) ∙ ap (λ (l : List ℕ). l ++ t) (entries-append qm qp) ∙ append_assoc (entries_bytes qm) (entries_bytes qp) t in
    let made = longest make_of (λ x y e. ap made_in e) p.made q.made (entries_bytes pp ++ r) (entries_bytes qp ++ t) (front_can pm pp can_p.1) (front_can qm qp can_q.1)
    reads.no_made (no_made_pieces q.pieces t (back_can qm qp can_q.1) (no_made_parts qs are)) (sym grouped_p ∙ names.1 ∙ grouped_q) in
    let pieces = longest put_of (λ x y e. ap piece_in e) p.pieces q.pieces r t (back_can pm pp can_p.1) (back_can qm qp can_q.1) reads.no_piece (no_piece_parts qs are) made.1 in
    let name : p.name ≡ q.name = ap name_in names.0 in
    (sym (same_part p q name made.0 pieces.0), pieces.1)
  where
    name_in : Entry → List ℕ
    name_in (Names a) = a
    name_in (Makes f l) = []
    name_in (Puts f a b) = []

    same_part : (p q : Part) → p.name ≡ q.name → p.made ≡ q.made → p.pieces ≡ q.pieces → p ≡ q
    same_part p q a b c = ap (λ n. let x : Part = record { name = n; made = p.made; pieces = p.pieces } in x) a ∙ ap (λ m. let x : Part = record { name = q.name; made = m; pieces = p.pieces } in x) b ∙ ap (λ k. let x : Part = record { name = q.name; made = q.made; pieces = k } in x) c

pub no_name_no_part : (bytes : List ℕ) → HasNoName bytes → HasNoPart bytes
no_name_no_part bytes none = λ q qs is_q are is. none q.name (entries_bytes ((map make_of q.made ++ map put_of q.pieces) ++ parts_entries qs)) is_q.name is

pub wrong_part : (p : Part) (n : ℕ) (bytes : List ℕ) → ReadsPart p n bytes → (IsPart p → ⊥) → HasNoPart bytes
wrong_part p n bytes reads wrong = λ q qs is_q are is. wrong (subst IsPart (part_only p n bytes q qs reads is_q are is).0 is_q)

-- ---- all parts

-- the parts that were read, and that no others are spelled
pub record SoFar (parts : List Part) (at : ℕ) (bytes : List ℕ) : Type 0 where
  pub inside : at ≤ length bytes
  pub is : bytes ≡ parts_bytes parts ++ drop at bytes
  pub each : AreParts parts
  pub only : (ps : List Part) → AreParts ps → bytes ≡ parts_bytes ps → (qs : List Part) × AreParts qs × (ps ≡ parts ++ qs) × (drop at bytes ≡ parts_bytes qs)

pub so_far_none : (bytes : List ℕ) → SoFar [] 0 bytes
so_far_none bytes = record { inside = omega arith; is = refl; each = tt; only = λ ps are is. (ps, are, refl, is) }

parts-append : (a b : List Part) → parts_entries (a ++ b) ≡ parts_entries a ++ parts_entries b
parts-append [] b = refl
parts-append (p ∷ a) b = ap (λ (l : List Entry). part_entries p ++ l) (parts-append a b) ∙ sym (assoc (part_entries p) (parts_entries a) (parts_entries b))
  where
    assoc : (x y z : List Entry) → (x ++ y) ++ z ≡ x ++ (y ++ z)
    assoc [] y z = refl
    assoc (e ∷ x) y z = ap (λ (l : List Entry). e ∷ l) (assoc x y z)

nil-entries : (x : List Entry) → x ++ [] ≡ x
nil-entries [] = refl
nil-entries (e ∷ x) = ap (λ (l : List Entry). e ∷ l) (nil-entries x)

parts_more : (a : List Part) (p : Part) → parts_bytes (a ++ p ∷ []) ≡ parts_bytes a ++ entries_bytes (part_entries p)
parts_more a p = ap entries_bytes (parts-append a (p ∷ [])) ∙ entries-append (parts_entries a) (part_entries p ++ []) ∙ ap (λ (l : List Entry). parts_bytes a ++ entries_bytes l) (nil-entries (part_entries p))

are_append : (a b : List Part) → AreParts a → AreParts b → AreParts (a ++ b)
are_append [] b x y = y
are_append (p ∷ a) b x y = (x.0, are_append a b x.1 y)

assoc_parts : (x y z : List Part) → (x ++ y) ++ z ≡ x ++ (y ++ z)
assoc_parts [] y z = refl
assoc_parts (p ∷ x) y z = ap (λ (l : List Part). p ∷ l) (assoc_parts x y z)

-- what is left is a part and others
pub record Splits (bytes : List ℕ) (qs : List Part) : Type 0 where
  pub first : Part
  pub others : List Part
  pub is : qs ≡ first ∷ others
  pub is_first : IsPart first
  pub are : AreParts others
  pub spelled : bytes ≡ parts_bytes (first ∷ others)

splits : (bytes : List ℕ) (qs : List Part) → 0 < length bytes → AreParts qs → bytes ≡ parts_bytes qs → Splits bytes qs
splits bytes [] some are is = absurd (omega (arith, some, ap length is))
splits bytes (q ∷ qs) some are is = record { first = q; others = qs; is = refl; is_first = are.0; are = are.1; spelled = is }

pub so_far_more : (parts : List Part) (at : ℕ) (bytes : List ℕ) (p : Part) (n : ℕ) → SoFar parts at bytes → at < length bytes → IsPart p → ReadsPart p n (drop at bytes) → SoFar (parts ++ p ∷ []) (at + n) bytes
so_far_more parts at bytes p n so lt is_p reads = record {
  inside = omega (arith, reads.reads.inside, length-drop at bytes, lt);
  is =
      so.is ∙ ap (λ (l : List ℕ). parts_bytes parts ++ l) reads.reads.is ∙ sym (append_assoc (parts_bytes parts) (entries_bytes (part_entries p)) (drop n (drop at bytes)))
      ∙ ap (λ (l : List ℕ). l ++ drop n (drop at bytes)) (sym (parts_more parts p)) ∙ ap (λ (l : List ℕ). parts_bytes (parts ++ p ∷ []) ++ l) (drop-drop n at bytes);
  each = are_append parts (p ∷ []) so.each (is_p, tt);
  only = λ ps are is.
      let old = so.only ps are is in
      let s = splits (drop at bytes) old.0 (omega (arith, length-drop at bytes, lt)) old.1 old.3 in
      let one = part_only p n (drop at bytes) s.first s.others reads s.is_first s.are s.spelled in (
        s.others,
        s.are,
        old.2 ∙ ap (λ (l : List Part). parts ++ l) (s.is ∙ ap (λ (x : Part). x ∷ s.others) one.0) ∙ sym (assoc_parts parts (p ∷ []) s.others),
        sym (drop-drop n at bytes) ∙ one.1,
      );
}

pub no_more_parts : (parts : List Part) (at : ℕ) (bytes : List ℕ) → SoFar parts at bytes → at < length bytes → HasNoPart (drop at bytes) → (ps : List Part) → AreSpelled ps bytes → ⊥
no_more_parts parts at bytes so lt none ps spelled =
    let old = so.only ps spelled.each spelled.is in
    let s = splits (drop at bytes) old.0 (omega (arith, length-drop at bytes, lt)) old.1 old.3 in
    none s.first s.others s.is_first s.are s.spelled

pub all_parts : (parts : List Part) (at : ℕ) (bytes : List ℕ) → SoFar parts at bytes → length bytes ≤ at → are_rising parts ≡ true → AreSpelled parts bytes
all_parts parts at bytes so end rising = record {
  each = so.each;
  rising = rising;
  is = so.is ∙ ap (λ (l : List ℕ). parts_bytes parts ++ l) (drop_all at bytes end) ∙ append-nil (parts_bytes parts);
}

empty_parts : (qs : List Part) → [] ≡ parts_bytes qs → qs ≡ []
empty_parts [] is = refl
empty_parts (q ∷ qs) is = absurd (omega (arith, ap length is, length-append (entry_bytes (Names q.name)) (entries_bytes ((map make_of q.made ++ map put_of q.pieces) ++ parts_entries qs)), some_bytes (Names q.name)))

nil-parts : (x : List Part) → x ++ [] ≡ x
nil-parts [] = refl
nil-parts (p ∷ x) = ap (λ (l : List Part). p ∷ l) (nil-parts x)

pub not_rising : (parts : List Part) (at : ℕ) (bytes : List ℕ) → SoFar parts at bytes → length bytes ≤ at → are_rising parts ≡ false → (ps : List Part) → AreSpelled ps bytes → ⊥
not_rising parts at bytes so end falls ps spelled =
    let old = so.only ps spelled.each spelled.is in
    let same : ps ≡ parts = old.2 ∙ ap (λ (l : List Part). parts ++ l) (empty_parts old.0 (sym (drop_all at bytes end) ∙ old.3)) ∙ nil-parts parts in
    let both_ways : true ≡ false = sym spelled.rising ∙ ap are_rising same ∙ falls in
    absurd cc

pub bytes_from : (at : ℕ) (bytes : List ℕ) → AreBytes bytes → AreBytes (drop at bytes)
bytes_from at bytes are = λ i. omega (arith, get_or-drop at bytes i 0, are (at + i))

abbrev pub PartOf : List ℕ → List Made → List Piece → Part
PartOf name made pieces = record { name = name; made = made; pieces = pieces }

pub part_same : (a b : List ℕ) (m n : List Made) (p q : List Piece) → a ≡ b → m ≡ n → p ≡ q → PartOf a m p ≡ PartOf b n q
part_same a b m n p q names made pieces =
    ap (λ l. let x : Part = record { name = l; made = m; pieces = p } in x) names ∙ ap (λ l. let x : Part = record { name = b; made = l; pieces = p } in x) made ∙ ap (λ l. let x : Part = record { name = b; made = n; pieces = l } in x) pieces
