-- Entries are written one after another.
use Rattle.std.proofs.Common.{◌≡◌, ℕ, zero, suc, ◌+◌, ◌^◌, ◌<◌, ◌≤◌, List, [], ◌∷◌, ◌++◌, length, get_or, map, take, drop, refl, sym, ◌∙◌, ap, arith, append_assoc}
use Rattle.std.proofs.lemmas.List.{append-nil, take_at, take_all, take-take, length-take, drop_at}
use Rattle.mm_base.specs.Bytes.{overwritten}
use Rattle.mm_ranges.specs.declared.part.Piece.{Piece}
use Rattle.mm_ranges.specs.declared.part.Part.{Part}
use Rattle.mm_section.specs.Spells.{Entry, Names, make_of, put_of, entry_bytes, entries_bytes, part_entries, parts_entries}
use Rattle.mm_section.specs.Reading.{AreShort, PartsShort, IsKept}

pub entries-append : (a b : List Entry) → entries_bytes (a ++ b) ≡ entries_bytes a ++ entries_bytes b
entries-append [] b = refl
entries-append (e ∷ a) b = ap (λ (l : List ℕ). entry_bytes e ++ l) (entries-append a b) ∙ sym (append_assoc (entry_bytes e) (entries_bytes a) (entries_bytes b))

pub next_entry : {X : Type 0} (f : X → Entry) (xs : List X) (i : ℕ) (d : X) → i < length xs → entries_bytes (map f (take (i + 1) xs)) ≡ entries_bytes (map f (take i xs)) ++ entry_bytes (f (get_or xs i d))
next_entry f [] i d lt = absurd (omega arith)
next_entry f (x ∷ xs) zero d lt = append-nil (entry_bytes (f x))
next_entry f (x ∷ xs) (suc i) d lt =
    let next : suc i + 1 ≡ suc (i + 1) = omega arith in
    ap (λ n. entries_bytes (map f (take n (x ∷ xs)))) next
    ∙ ap (λ (l : List ℕ). entry_bytes (f x) ++ l) (next_entry f xs i d (omega arith))
    ∙ sym (append_assoc (entry_bytes (f x)) (entries_bytes (map f (take i xs))) (entry_bytes (f (get_or xs i d))))

pub next_part : (ps : List Part) (i : ℕ) (d : Part) → i < length ps → entries_bytes (parts_entries (take (i + 1) ps)) ≡ entries_bytes (parts_entries (take i ps)) ++ entries_bytes (part_entries (get_or ps i d))
next_part [] i d lt = absurd (omega arith)
next_part (p ∷ ps) zero d lt = ap entries_bytes (append-nil (part_entries p))
next_part (p ∷ ps) (suc i) d lt =
    let next : suc i + 1 ≡ suc (i + 1) = omega arith in
    ap (λ n. entries_bytes (parts_entries (take n (p ∷ ps)))) next
    ∙ entries-append (part_entries p) (parts_entries (take (i + 1) ps))
    ∙ ap (λ (l : List ℕ). entries_bytes (part_entries p) ++ l) (next_part ps i d (omega arith))
    ∙ sym (append_assoc (entries_bytes (part_entries p)) (entries_bytes (parts_entries (take i ps))) (entries_bytes (part_entries (get_or ps i d))))
    ∙ ap (λ (l : List ℕ). l ++ entries_bytes (part_entries (get_or ps i d))) (sym (entries-append (part_entries p) (parts_entries (take i ps))))

pub short_at : (ps : List Piece) (i : ℕ) (d : Piece) → AreShort ps → i < length ps → length (get_or ps i d).bytes < 2 ^ 32
short_at [] i d h lt = absurd (omega arith)
short_at (p ∷ ps) zero d h lt = h.0
short_at (p ∷ ps) (suc i) d h lt = short_at ps i d h.1 (omega arith)

pub part_short_at : (ps : List Part) (i : ℕ) (d : Part) → PartsShort ps → i < length ps → AreShort (get_or ps i d).pieces
part_short_at [] i d h lt = absurd (omega arith)
part_short_at (p ∷ ps) zero d h lt = h.0
part_short_at (p ∷ ps) (suc i) d h lt = part_short_at ps i d h.1 (omega arith)

-- one turn of a loop over entries, and over parts
pub entry_step : {X : Type 0} (f : X → Entry) (xs : List X) (i : ℕ) (x : X) (a b new : List ℕ) → i < length xs → get_or xs i x ≡ x → new ≡ b ++ entry_bytes (f x) → b ≡ a ++ entries_bytes (map f (take i xs)) → new ≡ a ++ entries_bytes (map f (take (i + 1) xs))
entry_step f xs i x a b new lt is e so_far =
    e ∙ ap (λ (l : List ℕ). l ++ entry_bytes (f x)) so_far ∙ append_assoc a (entries_bytes (map f (take i xs))) (entry_bytes (f x))
    ∙ ap (λ (l : List ℕ). a ++ l) (ap (λ y. entries_bytes (map f (take i xs)) ++ entry_bytes (f y)) (sym is) ∙ sym (next_entry f xs i x lt))

pub part_step : (ps : List Part) (i : ℕ) (p : Part) (a b new : List ℕ) → i < length ps → get_or ps i p ≡ p → new ≡ b ++ entries_bytes (part_entries p) → b ≡ a ++ entries_bytes (parts_entries (take i ps)) → new ≡ a ++ entries_bytes (parts_entries (take (i + 1) ps))
part_step ps i p a b new lt is e so_far =
    e ∙ ap (λ (l : List ℕ). l ++ entries_bytes (part_entries p)) so_far ∙ append_assoc a (entries_bytes (parts_entries (take i ps))) (entries_bytes (part_entries p))
    ∙ ap (λ (l : List ℕ). a ++ l) (ap (λ y. entries_bytes (parts_entries (take i ps)) ++ entries_bytes (part_entries y)) (sym is) ∙ sym (next_part ps i p lt))

-- the entries of a part, one kind after another
pub part_done : (part : Part) (a b c new : List ℕ) → b ≡ a ++ entry_bytes (Names part.name) → c ≡ b ++ entries_bytes (map make_of part.made) → new ≡ c ++ entries_bytes (map put_of part.pieces) → new ≡ a ++ entries_bytes (part_entries part)
part_done part a b c new eb ec en =
    en ∙ ap (λ (l : List ℕ). l ++ entries_bytes (map put_of part.pieces)) (ec ∙ ap (λ (l : List ℕ). l ++ entries_bytes (map make_of part.made)) eb)
    ∙ append_assoc (a ++ entry_bytes (Names part.name)) (entries_bytes (map make_of part.made)) (entries_bytes (map put_of part.pieces))
    ∙ append_assoc a (entry_bytes (Names part.name)) (entries_bytes (map make_of part.made) ++ entries_bytes (map put_of part.pieces))
    ∙ ap (λ (l : List ℕ). a ++ (entry_bytes (Names part.name) ++ l)) (sym (entries-append (map make_of part.made) (map put_of part.pieces)))

-- ---- what was there first is there still

pub kept_append : (a b new : List ℕ) → new ≡ a ++ b → IsKept a new
kept_append a b new is = ap (take (length a)) is ∙ take_at a b (length a) refl

pub kept_same : (a : List ℕ) → IsKept a a
kept_same a = take_all (length a) a (omega arith)

pub kept_then : (a b c : List ℕ) → IsKept a b → IsKept b c → IsKept a c
kept_then a b c first second =
    let shorter : length a ≤ length b = omega (arith, ap length first, length-take (length a) b) in
    sym (take-take (length a) (length b) c shorter) ∙ ap (take (length a)) second ∙ first

-- what was appended may be followed by more, or by less than all
pub kept_appended : (a b mid new : List ℕ) → mid ≡ a ++ b → IsKept mid new → IsKept a new
kept_appended a b mid new is kept = kept_then a mid new (kept_append a b mid is) kept

-- ---- a section, put together

-- the header is written over the one that stood for it
pub front_done : (a h n es b c new : List ℕ) → length h ≡ length n → b ≡ a ++ h → c ≡ b ++ es → new ≡ overwritten (length a) n c → new ≡ a ++ (n ++ es)
unfolding overwritten
front_done a h n es b c new len eb ec en =
    let whole : c ≡ a ++ (h ++ es) = ec ∙ ap (λ (l : List ℕ). l ++ es) eb ∙ append_assoc a h es in
    let front : take (length a) c ≡ a = ap (take (length a)) whole ∙ take_at a (h ++ es) (length a) refl in
    let rest : drop (length a) c ≡ h ++ es = ap (drop (length a)) whole ∙ drop_at a (h ++ es) (length a) refl in
    let behind : drop (length n) (drop (length a) c) ≡ es = ap (drop (length n)) rest ∙ drop_at h es (length n) len in
    en ∙ ap (λ (l : List ℕ). l ++ (n ++ drop (length n) (drop (length a) c))) front ∙ ap (λ (l : List ℕ). a ++ (n ++ l)) behind

pub section_done : (a front footer zeros b c new : List ℕ) → b ≡ a ++ front → c ≡ b ++ footer → new ≡ c ++ zeros → new ≡ a ++ (front ++ (footer ++ zeros))
section_done a front footer zeros b c new eb ec en =
    en ∙ ap (λ (l : List ℕ). l ++ zeros) (ec ∙ ap (λ (l : List ℕ). l ++ footer) eb)
    ∙ append_assoc (a ++ front) footer zeros ∙ append_assoc a front (footer ++ zeros)

-- what was appended
pub appended_is : (a b new : List ℕ) → new ≡ a ++ b → drop (length a) new ≡ b
appended_is a b new is = ap (drop (length a)) is ∙ drop_at a b (length a) refl

-- what a slice of a vector leaves in it
pub written_back : (n : ℕ) (new old : List ℕ) → length new ≡ length old → n ≡ length old → take n (new ++ drop (length new) old) ≡ new
written_back n new old len at = take_at new (drop (length new) old) n (len ∙ sym at)
