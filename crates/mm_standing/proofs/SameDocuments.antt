-- The records of a namespace hold one list of documents: bytes begin with one document, and in rising order of _id documents stand in one order.
use Rattle.std.proofs.Common.{◌≡◌, ◌⊎◌, inl, inr, ℕ, ◌^◌, true, List, [], ◌∷◌, ◌++◌, length, take, Some, Ok, refl, sym, ap, subst, ◌∙◌, arith}
use Rattle.std.specs.declared.cmp.Ordering.TheVariants.{Less, Greater}
use Rattle.std.specs.Ordering.{ordering_reverse}
use Rattle.std.specs.Int.{w32}
use Rattle.std.specs.List.{AllByRecursion}
use Rattle.std.proofs.lemmas.Bool.{false≢true}
use Rattle.std.proofs.lemmas.List.{take_at}
use Rattle.mm_bson.specs.Tree.{Elements}
use Rattle.mm_bson.specs.Spelling.{IsDocument, spelling, elements_spelling}
use Rattle.mm_bson.specs.Order.{compare}
use Rattle.mm_bson.specs.Reading.{number_at}
use Rattle.mm_bson.proofs.Bytes.{ok_is, wide32, number_again}
use Rattle.mm_bson.proofs.Again.{spelling_parts, spelled_once}
use Rattle.mm_bson.proofs.Orders.{compare_total}
use Rattle.mm_links.specs.Links.{Place, same, has}
use Rattle.mm_links.proofs.LinkLaws.{either, same_is}
use Rattle.mm_records.specs.Shape.{Shape}
use Rattle.mm_records.specs.Map.{live_at}
use Rattle.mm_model.specs.Database.{id_of}
use Rattle.mm_model.specs.Laws.{AllAbove, AreRising}
use Rattle.mm_standing.specs.Documents.{Laid, Begins, IsLaid, Holds, places, documents}

-- ---- the document at the front of a room

-- the number in front of a document, and what stands behind this
front_read : (d : Elements) (behind : List ℕ) → IsDocument d
    → number_at w32 0 (spelling d ++ behind) ≡ Ok (length (spelling d), (elements_spelling d ++ 0 ∷ []) ++ behind)
front_read d behind is =
    ap (number_at w32 0) (spelling_parts d behind)
    ∙ number_again w32 (2 ^ 32) wide32 0 (length (spelling d)) ((elements_spelling d ++ 0 ∷ []) ++ behind) (omega (arith, is.short))

-- bytes have one number in front
one_number : (bytes : List ℕ) (m n : ℕ × List ℕ) → number_at w32 0 bytes ≡ Ok m → number_at w32 0 bytes ≡ Ok n → m.0 ≡ n.0
one_number bytes m n e f = ap (λ (r : ℕ × List ℕ). r.0) (ok_is m n (sym e ∙ f))

-- two documents in front of the same bytes are one
pub same_begin : (room : List ℕ) (a b : Elements) → Begins room a → Begins room b → a ≡ b
same_begin room a b f g =
    let read_a = ap (number_at w32 0) f.bytes ∙ front_read a f.behind f.is_document in
    let read_b = ap (number_at w32 0) g.bytes ∙ front_read b g.behind g.is_document in
    let many : length (spelling b) ≡ length (spelling a) = one_number room (length (spelling b), (elements_spelling b ++ 0 ∷ []) ++ g.behind) (length (spelling a), (elements_spelling a ++ 0 ∷ []) ++ f.behind) read_b read_a in
    spelled_once a b f.is_document g.is_document
    (sym (take_at (spelling a) f.behind (length (spelling a)) refl)
    ∙ ap (take (length (spelling a))) (sym f.bytes ∙ g.bytes)
    ∙ take_at (spelling b) g.behind (length (spelling a)) many)

-- ---- lists in rising order

-- it is one of these
abbrev Among : Laid → List Laid → Type 0
Among l [] = ⊥
Among l (m ∷ ms) = (l ≡ m) ⊎ Among l ms

abbrev AllAmong : List Laid → List Laid → Type 0
AllAmong ls ms = AllByRecursion (λ l. Among l ms) ls

abbrev Before : Laid → Laid → Type 0
Before l m = compare (id_of l.document) (id_of m.document) ≡ Less

not_itself : (l : Laid) → Before l l → ⊥
not_itself l h = turned (sym h ∙ compare_total.antisymm (id_of l.document) (id_of l.document) ∙ ap ordering_reverse h)
  where
    turned : Less ≡ Greater → ⊥
    turned e = cc

not_both : (l m : Laid) → Before l m → Before m l → ⊥
not_both l m h g = not_itself l (compare_total.trans (id_of l.document) (id_of m.document) (id_of l.document) h g)

-- those above are behind
above_before : (l m : Laid) (ms : List Laid) → AllAbove (id_of l.document) (documents ms) → Among m ms → Before l m
above_before l m [] above h = absurd h
above_before l m (x ∷ xs) above h = elim h [
  | inl e ↦ subst (λ (y : Laid). Before l y) (sym e) above.0
  | inr more ↦ above_before l m xs above.1 more
]

-- what stands behind the first is among what stands behind the first
behind_first : (l : Laid) (ls ms : List Laid) → AllAbove (id_of l.document) (documents ls) → AllAmong ls (l ∷ ms) → AllAmong ls ms
behind_first l [] ms above h = tt
behind_first l (x ∷ xs) ms above h = (one h.0, behind_first l xs ms above.1 h.1)
  where
    one : (x ≡ l) ⊎ Among x ms → Among x ms
    one (inl e) = absurd (not_itself l (subst (λ (y : Laid). Before l y) e above.0))
    one (inr more) = more

-- two lists in rising order with the same members are one
same_rising : (ls ms : List Laid) → AreRising (documents ls) → AreRising (documents ms) → AllAmong ls ms → AllAmong ms ls → ls ≡ ms
same_rising [] [] r s h g = refl
same_rising [] (m ∷ ms) r s h g = absurd g.0
same_rising (l ∷ ls) [] r s h g = absurd h.0
same_rising (l ∷ ls) (m ∷ ms) r s h g =
    let first : l ≡ m = heads h.0 g.0 in
    let left : AllAmong ls ms = behind_first l ls ms r.0 (subst (λ (y : Laid). AllAmong ls (y ∷ ms)) (sym first) h.1) in
    let right : AllAmong ms ls = behind_first m ms ls s.0 (subst (λ (y : Laid). AllAmong ms (y ∷ ls)) first g.1) in
    λ i. first i ∷ same_rising ls ms r.1 s.1 left right i
  where
    heads : (l ≡ m) ⊎ Among l ms → (m ≡ l) ⊎ Among m ls → l ≡ m
    heads (inl e) g = e
    heads (inr p) (inl e) = sym e
    heads (inr p) (inr q) = absurd (not_both l m (above_before l m ls r.0 q) (above_before m l ms s.0 p))

-- ---- the documents of a namespace

-- the namespaces of the name have the same rooms
abbrev SameRooms : Shape → Shape → List ℕ → Type 0
SameRooms s t name = (p : Place) → live_at t name p ≡ live_at s name p

-- what lies at the same place is the same
same_one : (s t : Shape) (name : List ℕ) → SameRooms s t name → (l m : Laid) → IsLaid s name l → IsLaid t name m → m.at ≡ l.at → l ≡ m
same_one s t name rooms l m f g at =
    let room : Some f.room ≡ Some g.room = sym f.live ∙ sym (rooms l.at) ∙ ap (live_at t name) (sym at) ∙ g.live in
    let document : l.document ≡ m.document = same_begin g.room l.document m.document (subst (λ (r : List ℕ). Begins r l.document) (one f.room g.room room) f.begins) g.begins in
    λ i. record { at = sym at i; document = document i }
  where
    one : (x y : List ℕ) → Some x ≡ Some y → x ≡ y
    one x y e = cc

-- a record whose place is among those of others is one of them
among_places : (s t : Shape) (name : List ℕ) → SameRooms s t name → (l : Laid) → IsLaid s name l → (ms : List Laid) → AllByRecursion (IsLaid t name) ms → has (places ms) l.at ≡ true → Among l ms
among_places s t name rooms l f [] laid h = absurd (false≢true h)
among_places s t name rooms l f (m ∷ ms) laid h = elim (either (same m.at l.at) (has (places ms) l.at) h) [
  | inl here ↦ inl (same_one s t name rooms l m f laid.0 (same_is m.at l.at here))
  | inr more ↦ inr (among_places s t name rooms l f ms laid.1 more)
]

all_among : (s t : Shape) (name : List ℕ) → SameRooms s t name → (ms : List Laid) → Holds t name ms → (ls : List Laid) → AllByRecursion (IsLaid s name) ls → AllAmong ls ms
all_among s t name rooms ms holds [] laid = tt
all_among s t name rooms ms holds (l ∷ ls) laid =
    let f = laid.0 in
    (among_places s t name rooms l f ms holds.laid (holds.all l.at f.room (rooms l.at ∙ f.live)), all_among s t name rooms ms holds ls laid.1)

-- the same rooms hold the same documents at the same places, in one order
pub same_laid : (s t : Shape) (name : List ℕ) → ((p : Place) → live_at t name p ≡ live_at s name p) → (ls ms : List Laid) → Holds s name ls → Holds t name ms
    → AreRising (documents ls) → AreRising (documents ms) → ls ≡ ms
same_laid s t name rooms ls ms f g r q =
    same_rising ls ms r q (all_among s t name rooms ms g ls f.laid) (all_among t s name (λ p. sym (rooms p)) ls f ms g.laid)

pub same_documents : (s t : Shape) (name : List ℕ) → ((p : Place) → live_at t name p ≡ live_at s name p) → (ls ms : List Laid) → Holds s name ls → Holds t name ms
    → AreRising (documents ls) → AreRising (documents ms) → documents ls ≡ documents ms
same_documents s t name rooms ls ms f g r q = ap documents (same_laid s t name rooms ls ms f g r q)
