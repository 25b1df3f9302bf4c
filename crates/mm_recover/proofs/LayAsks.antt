-- Entries are laid one after another.
use Rattle.std.proofs.Common.{◌≡◌, ℕ, zero, suc, ◌+◌, ◌<◌, ◌≤◌, List, [], ◌∷◌, ◌++◌, length, get_or, take, drop, map, Option, refl, sym, ◌∙◌, ap, subst, arith, append_assoc, add-one, drop-cons}
use Rattle.std.proofs.lemmas.List.{take_more, take_all, take-append-drop, append-nil}
use Rattle.mm_outside.specs.Told.{Told}
use Rattle.mm_outside.specs.Ask.{Ask, Makes, MakesSome}
use Rattle.mm_ranges.specs.declared.part.Made.{Made}
use Rattle.mm_ranges.specs.declared.part.Piece.{Piece}
use Rattle.mm_ranges.specs.declared.part.Part.{Part}
use Rattle.mm_crash.specs.Overlay.{Entry}
use Rattle.mm_crash.specs.Asks.{act_asks, lay_asks}
use Rattle.mm_jfiles.proofs.Asking.{some_then, some_first, made_then}
use Rattle.mm_recover.specs.Laying.{made_entries, piece_entries, part_entries, parts_entries, AreNamed}

pub lay_asks-append : (a b : List Entry) → lay_asks (a ++ b) ≡ lay_asks a ++ lay_asks b
lay_asks-append [] b = refl
lay_asks-append (e ∷ a) b = ap (λ (l : List Ask). act_asks e.file e.act ++ l) (lay_asks-append a b) ∙ sym (append_assoc (act_asks e.file e.act) (lay_asks a) (lay_asks b))

module _ {X : Type 0} (f : X → List Entry) where
  -- the entries of each, one after another
  abbrev pub all_entries : List X → List Entry
  all_entries [] = []
  all_entries (x ∷ xs) = f x ++ all_entries xs

  pub all-append : (xs ys : List X) → all_entries (xs ++ ys) ≡ all_entries xs ++ all_entries ys
  all-append [] ys = refl
  all-append (x ∷ xs) ys = ap (λ (l : List Entry). f x ++ l) (all-append xs ys) ∙ sym (append_assoc (f x) (all_entries xs) (all_entries ys))

  module _ (xs : List X) (i : ℕ) (x : X) (lt : i < length xs) (is : x ≡ get_or xs i x) where
    next_asks : lay_asks (all_entries (take (i + 1) xs)) ≡ lay_asks (all_entries (take i xs)) ++ lay_asks (f x)
    next_asks =
        let more : take (i + 1) xs ≡ take i xs ++ x ∷ [] = take_more xs i x lt ∙ ap (λ (y : X). take i xs ++ y ∷ []) (sym is) in
        ap (λ (l : List X). lay_asks (all_entries l)) more ∙ ap lay_asks (all-append (take i xs) (x ∷ []) ∙ ap (λ (l : List Entry). all_entries (take i xs) ++ l) (append-nil (f x))) ∙ lay_asks-append (all_entries (take i xs)) (f x)

    pub laid_next : (old mid new : Option Told) → Makes (lay_asks (all_entries (take i xs))) old mid → Makes (lay_asks (f x)) mid new → Makes (lay_asks (all_entries (take (i + 1) xs))) old new
    laid_next old mid new first one = subst (λ (l : List Ask). Makes l old new) (sym next_asks) (made_then (lay_asks (all_entries (take i xs))) (lay_asks (f x)) old mid new first one)

    rest_asks : lay_asks (all_entries xs) ≡ lay_asks (all_entries (take i xs)) ++ (lay_asks (f x) ++ lay_asks (all_entries (drop (i + 1) xs)))
    rest_asks =
        let next : drop i xs ≡ get_or xs i x ∷ drop (i + 1) xs = rw add-one (drop-cons xs i x lt) in
        let parts : xs ≡ take i xs ++ (x ∷ drop (i + 1) xs) = sym (take-append-drop i xs) ∙ ap (λ (l : List X). take i xs ++ l) (next ∙ ap (λ (y : X). y ∷ drop (i + 1) xs) (sym is)) in
        ap (λ (l : List X). lay_asks (all_entries l)) parts ∙ ap lay_asks (all-append (take i xs) (x ∷ drop (i + 1) xs)) ∙ lay_asks-append (all_entries (take i xs)) (f x ++ all_entries (drop (i + 1) xs))
        ∙ ap (λ (l : List Ask). lay_asks (all_entries (take i xs)) ++ l) (lay_asks-append (f x) (all_entries (drop (i + 1) xs)))

    pub laid_cut : (old mid new : Option Told) → Makes (lay_asks (all_entries (take i xs))) old mid → MakesSome (lay_asks (f x)) mid new → MakesSome (lay_asks (all_entries xs)) old new
    laid_cut old mid new first one = subst (λ (l : List Ask). MakesSome l old new) (sym rest_asks)
        (some_then (lay_asks (all_entries (take i xs))) _ old mid new first (some_first (lay_asks (f x)) (lay_asks (all_entries (drop (i + 1) xs))) mid new one))

  pub same_at : (xs : List X) (i : ℕ) (d e : X) → i < length xs → get_or xs i d ≡ get_or xs i e
  same_at [] i d e lt = absurd (omega arith)
  same_at (x ∷ xs) zero d e lt = refl
  same_at (x ∷ xs) (suc i) d e lt = same_at xs i d e (omega (arith, lt))

  -- the same of elements that are copied
  pub laid_next_at : (xs : List X) (i : ℕ) (d : X) → i < length xs → (old mid new : Option Told) → Makes (lay_asks (all_entries (take i xs))) old mid → Makes (lay_asks (f (get_or xs i d))) mid new → Makes (lay_asks (all_entries (take (i + 1) xs))) old new
  laid_next_at xs i d lt = laid_next xs i (get_or xs i d) lt (same_at xs i d (get_or xs i d) lt)

  pub laid_cut_at : (xs : List X) (i : ℕ) (d : X) → i < length xs → (old mid new : Option Told) → Makes (lay_asks (all_entries (take i xs))) old mid → MakesSome (lay_asks (f (get_or xs i d))) mid new → MakesSome (lay_asks (all_entries xs)) old new
  laid_cut_at xs i d lt = laid_cut xs i (get_or xs i d) lt (same_at xs i d (get_or xs i d) lt)

  pub laid_done : (xs : List X) (i : ℕ) (old new : Option Told) → length xs ≤ i → Makes (lay_asks (all_entries (take i xs))) old new → Makes (lay_asks (all_entries xs)) old new
  laid_done xs i old new le made = subst (λ (l : List X). Makes (lay_asks (all_entries l)) old new) (take_all i xs le) made

-- one entry each
pub map_all : {X : Type 0} (f : X → Entry) (xs : List X) → all_entries (λ (x : X). f x ∷ []) xs ≡ map f xs
map_all f [] = refl
map_all f (x ∷ xs) = ap (λ (l : List Entry). f x ∷ l) (map_all f xs)

pub parts_all : (parts : List Part) → all_entries part_entries parts ≡ parts_entries parts
parts_all [] = refl
parts_all (p ∷ parts) = ap (λ (l : List Entry). part_entries p ++ l) (parts_all parts)

pub made_as : (a b : List Entry) (old new : Option Told) → a ≡ b → Makes (lay_asks a) old new → Makes (lay_asks b) old new
made_as a b old new e made = subst (λ (l : List Entry). Makes (lay_asks l) old new) e made

pub some_as : (a b : List Entry) (old new : Option Told) → a ≡ b → MakesSome (lay_asks a) old new → MakesSome (lay_asks b) old new
some_as a b old new e some = subst (λ (l : List Entry). MakesSome (lay_asks l) old new) e some

-- made files first, then ranges
module _ (part : Part) (name : List ℕ) (made : List Made) (pieces : List Piece) where
  pub part_as : name ≡ part.name → made ≡ part.made → pieces ≡ part.pieces → lay_asks (part_entries part) ≡ lay_asks (made_entries name made) ++ lay_asks (piece_entries name pieces)
  part_as e f h =
      ap (λ (n : List ℕ). lay_asks (made_entries n part.made ++ piece_entries n part.pieces)) (sym e)
      ∙ ap (λ (l : List Made). lay_asks (made_entries name l ++ piece_entries name part.pieces)) (sym f)
      ∙ ap (λ (l : List Piece). lay_asks (made_entries name made ++ piece_entries name l)) (sym h)
      ∙ lay_asks-append (made_entries name made) (piece_entries name pieces)

  pub made_two : (old mid new : Option Told) → name ≡ part.name → made ≡ part.made → pieces ≡ part.pieces → Makes (lay_asks (made_entries name made)) old mid → Makes (lay_asks (piece_entries name pieces)) mid new → Makes (lay_asks (part_entries part)) old new
  made_two old mid new e f h a b = subst (λ (l : List Ask). Makes l old new) (sym (part_as e f h)) (made_then (lay_asks (made_entries name made)) (lay_asks (piece_entries name pieces)) old mid new a b)

  pub some_two : (old mid new : Option Told) → name ≡ part.name → made ≡ part.made → pieces ≡ part.pieces → Makes (lay_asks (made_entries name made)) old mid → MakesSome (lay_asks (piece_entries name pieces)) mid new → MakesSome (lay_asks (part_entries part)) old new
  some_two old mid new e f h a b = subst (λ (l : List Ask). MakesSome l old new) (sym (part_as e f h)) (some_then (lay_asks (made_entries name made)) (lay_asks (piece_entries name pieces)) old mid new a b)

pub two_cut : (part : Part) (name : List ℕ) (made : List Made) (old new : Option Told) → name ≡ part.name → made ≡ part.made → MakesSome (lay_asks (made_entries name made)) old new → MakesSome (lay_asks (part_entries part)) old new
two_cut part name made old new e f a = subst (λ (l : List Ask). MakesSome l old new) (sym (part_as part name made part.pieces e f refl)) (some_first (lay_asks (made_entries name made)) (lay_asks (piece_entries name part.pieces)) old new a)

pub named_at : (parts : List Part) (i : ℕ) (p : Part) → i < length parts → p ≡ get_or parts i p → AreNamed parts → Rattle.std.specs.Prelude.IsTrue (Rattle.mm_section.specs.Spells.is_db_name p.name)
named_at [] i p lt is named = absurd (omega arith)
named_at (q ∷ parts) zero p lt is named = subst (λ (r : Part). Rattle.std.specs.Prelude.IsTrue (Rattle.mm_section.specs.Spells.is_db_name r.name)) (sym is) named.0
named_at (q ∷ parts) (suc i) p lt is named = named_at parts i p (omega (arith, lt)) is named.1
