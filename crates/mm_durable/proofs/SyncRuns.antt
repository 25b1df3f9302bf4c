-- Files are synced, one list after another.
use Rattle.std.proofs.Common.{◌≡◌, ℕ, zero, suc, ◌+◌, ◌<◌, ◌≤◌, List, [], ◌∷◌, ◌++◌, length, get_or, take, drop, Option, refl, sym, ◌∙◌, ap, subst, arith, append_assoc, add-one, drop-cons}
use Rattle.std.specs.Prelude.{IsTrue}
use Rattle.std.proofs.lemmas.List.{take_more, take_all, take-append-drop, append-nil}
use Rattle.mm_outside.specs.Told.{Told, Syncs}
use Rattle.mm_outside.specs.Ask.{Ask, Makes, MakesSome}
use Rattle.mm_section.specs.Spells.{is_db_name}
use Rattle.mm_crash.specs.Asks.{sync_asks}
use Rattle.mm_jfiles.proofs.Asking.{some_then, some_first, made_then}
use Rattle.mm_durable.specs.Names.{AreDatabases, files_of, names_of, all_files}

pub sync_asks-append : (a b : List (List ℕ)) → sync_asks (a ++ b) ≡ sync_asks a ++ sync_asks b
sync_asks-append [] b = refl
sync_asks-append (n ∷ a) b = ap (λ (l : List Ask). record { name = n; change = Syncs } ∷ l) (sync_asks-append a b)

module _ {X : Type 0} (f : X → List (List ℕ)) where
  -- the names of each, one list after another
  abbrev pub all_names : List X → List (List ℕ)
  all_names [] = []
  all_names (x ∷ xs) = f x ++ all_names xs

  all-append : (xs ys : List X) → all_names (xs ++ ys) ≡ all_names xs ++ all_names ys
  all-append [] ys = refl
  all-append (x ∷ xs) ys = ap (λ (l : List (List ℕ)). f x ++ l) (all-append xs ys) ∙ sym (append_assoc (f x) (all_names xs) (all_names ys))

  module _ (xs : List X) (i : ℕ) (x : X) (lt : i < length xs) (is : x ≡ get_or xs i x) where
    next_asks : sync_asks (all_names (take (i + 1) xs)) ≡ sync_asks (all_names (take i xs)) ++ sync_asks (f x)
    next_asks =
        let more : take (i + 1) xs ≡ take i xs ++ x ∷ [] = take_more xs i x lt ∙ ap (λ (y : X). take i xs ++ y ∷ []) (sym is) in
        ap (λ (l : List X). sync_asks (all_names l)) more ∙ ap sync_asks (all-append (take i xs) (x ∷ []) ∙ ap (λ (l : List (List ℕ)). all_names (take i xs) ++ l) (append-nil (f x))) ∙ sync_asks-append (all_names (take i xs)) (f x)

    pub synced_next : (old mid new : Option Told) → Makes (sync_asks (all_names (take i xs))) old mid → Makes (sync_asks (f x)) mid new → Makes (sync_asks (all_names (take (i + 1) xs))) old new
    synced_next old mid new first one = subst (λ (l : List Ask). Makes l old new) (sym next_asks) (made_then (sync_asks (all_names (take i xs))) (sync_asks (f x)) old mid new first one)

    rest_asks : sync_asks (all_names xs) ≡ sync_asks (all_names (take i xs)) ++ (sync_asks (f x) ++ sync_asks (all_names (drop (i + 1) xs)))
    rest_asks =
        let next : drop i xs ≡ get_or xs i x ∷ drop (i + 1) xs = rw add-one (drop-cons xs i x lt) in
        let parts : xs ≡ take i xs ++ (x ∷ drop (i + 1) xs) = sym (take-append-drop i xs) ∙ ap (λ (l : List X). take i xs ++ l) (next ∙ ap (λ (y : X). y ∷ drop (i + 1) xs) (sym is)) in
        ap (λ (l : List X). sync_asks (all_names l)) parts ∙ ap sync_asks (all-append (take i xs) (x ∷ drop (i + 1) xs)) ∙ sync_asks-append (all_names (take i xs)) (f x ++ all_names (drop (i + 1) xs))
        ∙ ap (λ (l : List Ask). sync_asks (all_names (take i xs)) ++ l) (sync_asks-append (f x) (all_names (drop (i + 1) xs)))

    pub synced_cut : (old mid new : Option Told) → Makes (sync_asks (all_names (take i xs))) old mid → MakesSome (sync_asks (f x)) mid new → MakesSome (sync_asks (all_names xs)) old new
    synced_cut old mid new first one = subst (λ (l : List Ask). MakesSome l old new) (sym rest_asks)
        (some_then (sync_asks (all_names (take i xs))) _ old mid new first (some_first (sync_asks (f x)) (sync_asks (all_names (drop (i + 1) xs))) mid new one))

  pub synced_done : (xs : List X) (i : ℕ) (old new : Option Told) → length xs ≤ i → Makes (sync_asks (all_names (take i xs))) old new → Makes (sync_asks (all_names xs)) old new
  synced_done xs i old new le made = subst (λ (l : List X). Makes (sync_asks (all_names l)) old new) (take_all i xs le) made

  same_at : (xs : List X) (i : ℕ) (d e : X) → i < length xs → get_or xs i d ≡ get_or xs i e
  same_at [] i d e lt = absurd (omega arith)
  same_at (x ∷ xs) zero d e lt = refl
  same_at (x ∷ xs) (suc i) d e lt = same_at xs i d e (omega (arith, lt))

  -- the same of elements that are copied
  pub synced_next_at : (xs : List X) (i : ℕ) (d : X) → i < length xs → (old mid new : Option Told) → Makes (sync_asks (all_names (take i xs))) old mid → Makes (sync_asks (f (get_or xs i d))) mid new → Makes (sync_asks (all_names (take (i + 1) xs))) old new
  synced_next_at xs i d lt = synced_next xs i (get_or xs i d) lt (same_at xs i d (get_or xs i d) lt)

  pub synced_cut_at : (xs : List X) (i : ℕ) (d : X) → i < length xs → (old mid new : Option Told) → Makes (sync_asks (all_names (take i xs))) old mid → MakesSome (sync_asks (f (get_or xs i d))) mid new → MakesSome (sync_asks (all_names xs)) old new
  synced_cut_at xs i d lt = synced_cut xs i (get_or xs i d) lt (same_at xs i d (get_or xs i d) lt)

pub made_syncs : (a b : List (List ℕ)) (old new : Option Told) → a ≡ b → Makes (sync_asks a) old new → Makes (sync_asks b) old new
made_syncs a b old new e made = subst (λ (l : List (List ℕ)). Makes (sync_asks l) old new) e made

pub some_syncs : (a b : List (List ℕ)) (old new : Option Told) → a ≡ b → MakesSome (sync_asks a) old new → MakesSome (sync_asks b) old new
some_syncs a b old new e some = subst (λ (l : List (List ℕ)). MakesSome (sync_asks l) old new) e some

-- one name each
abbrev pub one_of : List ℕ → ℕ → List (List ℕ)
one_of name file = names_of name (file ∷ [])

pub names_are : (name files : List ℕ) → all_names (one_of name) files ≡ names_of name files
names_are name [] = refl
names_are name (n ∷ files) = ap (λ (l : List (List ℕ)). one_of name n ++ l) (names_are name files)

pub databases_are : (names : List (List ℕ)) → all_names files_of names ≡ all_files names
databases_are [] = refl
databases_are (n ∷ names) = ap (λ (l : List (List ℕ)). files_of n ++ l) (databases_are names)

pub name_at : (names : List (List ℕ)) (i : ℕ) (n : List ℕ) → i < length names → n ≡ get_or names i n → AreDatabases names → IsTrue (is_db_name n)
name_at [] i n lt is are = absurd (omega arith)
name_at (m ∷ names) zero n lt is are = subst (λ (x : List ℕ). IsTrue (is_db_name x)) (sym is) are.0
name_at (m ∷ names) (suc i) n lt is are = name_at names i n (omega (arith, lt)) is are.1.1

pub same_db : (bytes name : List ℕ) → bytes ≡ name → IsTrue (is_db_name name) → IsTrue (is_db_name bytes)
same_db bytes name e is = subst (λ (x : List ℕ). IsTrue (is_db_name x)) (sym e) is
