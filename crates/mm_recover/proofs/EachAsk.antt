-- Calls of one kind, one after another.
use Rattle.std.proofs.Common.{◌≡◌, ℕ, zero, suc, ◌+◌, ◌<◌, ◌≤◌, ◌^◌, List, [], ◌∷◌, ◌++◌, length, get_or, take, drop, map, String, string_bytes, Option, refl, sym, ◌∙◌, ap, subst, arith, add-one, drop-cons}
use Rattle.std.proofs.lemmas.List.{take_more, take_all, take-append-drop, map-append}
use Rattle.std.specs.declared.alloc.Global.{Global}
use Rattle.mm_outside.specs.Told.{Told, Syncs, Removes}
use Rattle.mm_outside.specs.Ask.{Ask, Makes, MakesSome}
use Rattle.mm_crash.specs.Asks.{sync_asks, remove_asks}
use Rattle.mm_jfiles.proofs.Asking.{some_then, some_first, made_then}
use Rattle.mm_jfiles.specs.Names.{journal_name}
use Rattle.mm_journal.proofs.Real.{the_names, speaks}
use Rattle.mm_recover.specs.Closing.{AreNumbersOfFiles}

module _ {X : Type 0} (f : X → Ask) (xs : List X) (i : ℕ) (d : X) (lt : i < length xs) where
  pub next_map : map f (take (i + 1) xs) ≡ map f (take i xs) ++ f (get_or xs i d) ∷ []
  next_map = ap (map f) (take_more xs i d lt) ∙ map-append f (take i xs) (get_or xs i d ∷ [])

  rest_map : map f xs ≡ map f (take i xs) ++ (f (get_or xs i d) ∷ map f (drop (i + 1) xs))
  rest_map =
      let next : drop i xs ≡ get_or xs i d ∷ drop (i + 1) xs = rw add-one (drop-cons xs i d lt) in
      ap (map f) (sym (take-append-drop i xs)) ∙ map-append f (take i xs) (drop i xs) ∙ ap (λ (l : List X). map f (take i xs) ++ map f l) next

  pub each_next : (old mid new : Option Told) → Makes (map f (take i xs)) old mid → Makes (f (get_or xs i d) ∷ []) mid new → Makes (map f (take (i + 1) xs)) old new
  each_next old mid new first one = subst (λ (l : List Ask). Makes l old new) (sym next_map) (made_then (map f (take i xs)) (f (get_or xs i d) ∷ []) old mid new first one)

  pub each_cut : (old mid new : Option Told) → Makes (map f (take i xs)) old mid → MakesSome (f (get_or xs i d) ∷ []) mid new → MakesSome (map f xs) old new
  each_cut old mid new first one = subst (λ (l : List Ask). MakesSome l old new) (sym rest_map) (some_then (map f (take i xs)) _ old mid new first (some_first (f (get_or xs i d) ∷ []) (map f (drop (i + 1) xs)) mid new one))

pub each_done : {X : Type 0} (f : X → Ask) (xs : List X) (i : ℕ) (old new : Option Told) → length xs ≤ i → Makes (map f (take i xs)) old new → Makes (map f xs) old new
each_done {X} f xs i old new le made = subst (λ (l : List X). Makes (map f l) old new) (take_all i xs le) made

abbrev pub sync_of : String Global → Ask
sync_of name = record { name = string_bytes name; change = Syncs }

abbrev pub removal_of : ℕ → Ask
removal_of n = record { name = the_names.journal n; change = Removes }

pub syncs_are : (names : List (String Global)) → map sync_of names ≡ sync_asks (map string_bytes names)
syncs_are [] = refl
syncs_are (n ∷ names) = ap (λ (l : List Ask). sync_of n ∷ l) (syncs_are names)

pub removals_are : (numbers : List ℕ) → map removal_of numbers ≡ remove_asks the_names numbers
removals_are [] = refl
removals_are (n ∷ numbers) = ap (λ (l : List Ask). removal_of n ∷ l) (removals_are numbers)

pub made_by : (a b : List Ask) (old new : Option Told) → a ≡ b → Makes a old new → Makes b old new
made_by a b old new e made = subst (λ (l : List Ask). Makes l old new) e made

pub some_by : (a b : List Ask) (old new : Option Told) → a ≡ b → MakesSome a old new → MakesSome b old new
some_by a b old new e some = subst (λ (l : List Ask). MakesSome l old new) e some

pub file_named : (n : ℕ) → n < 2 ^ 32 → journal_name n ≡ the_names.journal n
file_named n lt = sym (speaks.journal n lt)

pub number_at : (numbers : List ℕ) (i d : ℕ) → i < length numbers → AreNumbersOfFiles numbers → get_or numbers i d < 2 ^ 32
number_at [] i d lt are = absurd (omega arith)
number_at (n ∷ numbers) zero d lt are = are.0
number_at (n ∷ numbers) (suc i) d lt are = number_at numbers i d (omega (arith, lt)) are.1
