-- What a search finds among the used nodes.
use Rattle.std.proofs.Common.{◌≡◌, ◌≢◌, ℕ, zero, suc, ◌+◌, ◌<◌, ◌≤◌, ◌⊎◌, inl, inr, Bool, true, false, cond, List, [], ◌∷◌, ◌++◌, length, map, take, get_or, Option, Some, None, refl, sym, ◌∙◌, ap, subst, arith}
use Rattle.std.proofs.lemmas.Bool.{cases_Bool, false≢true}
use Rattle.std.proofs.lemmas.List.{append-nil, map-append, take_more, length-take-le}
use Rattle.std.specs.Prelude.{slice_set, if◌then◌else◌}
use Rattle.std.specs.Ordering.{nat_cmp, eq_by_cmp, is_eq}
use Rattle.std.specs.Cmp.Lexicographic.{slice_cmp, nat_list_cmp_total}
use Rattle.std.proofs.lemmas.Cmp.{eq_by_cmp_equiv}
use Rattle.std.specs.declared.cmp.Ordering.{Ordering}
use Rattle.std.specs.declared.cmp.Ordering.TheVariants.{Less, Equal, Greater}
use Rattle.std.specs.FinMap.{find, slice_cmp-IsAntisymmetric, nat_cmp-IsAntisymmetric}
use Rattle.mm_nstable.specs.Nodes.{name_in, details_in, is_free}
use Rattle.mm_nstable.specs.Table.{Held, entries_from}

-- whether two names are one
abbrev pub is_name : List ℕ → List ℕ → Bool
is_name q m = eq_by_cmp (slice_cmp nat_cmp) q m

abbrev pub found : List ℕ → List (List ℕ × Held) → Option Held
found q es = find (slice_cmp nat_cmp) q es

equal : (r : Ordering) → is_eq r ≡ true → r ≡ Equal
equal Less e = absurd (false≢true e)
equal Equal e = refl
equal Greater e = absurd (false≢true e)

pub same_name : (q m : List ℕ) → is_name q m ≡ true → q ≡ m
same_name q m e = slice_cmp-IsAntisymmetric nat_cmp-IsAntisymmetric q m (equal (slice_cmp nat_cmp q m) e)

pub own_name : (q m : List ℕ) → q ≡ m → is_name q m ≡ true
own_name q m e = subst (λ (n : List ℕ). is_name q n ≡ true) e ((eq_by_cmp_equiv nat_list_cmp_total).refl q)

pub other_name : (q m : List ℕ) → q ≢ m → is_name q m ≡ false
other_name q m ne = elim (cases_Bool (is_name q m)) [ inl yes' ↦ absurd (ne (same_name q m yes')) | inr no' ↦ no' ]

entries_free : (k : ℕ) (n : List ℕ) (ns : List (List ℕ)) → is_free n ≡ true → entries_from k (n ∷ ns) ≡ entries_from (suc k) ns
entries_free k n ns e = ap (λ (b : Bool). if b then entries_from (suc k) ns else (name_in n, record { node = k; details = details_in n }) ∷ entries_from (suc k) ns) e

entries_used : (k : ℕ) (n : List ℕ) (ns : List (List ℕ)) → is_free n ≡ false → entries_from k (n ∷ ns) ≡ (name_in n, record { node = k; details = details_in n }) ∷ entries_from (suc k) ns
entries_used k n ns e = ap (λ (b : Bool). if b then entries_from (suc k) ns else (name_in n, record { node = k; details = details_in n }) ∷ entries_from (suc k) ns) e

-- what is found where the first node is free, and where it is used
found_free : (q : List ℕ) (k : ℕ) (n : List ℕ) (ns : List (List ℕ)) → is_free n ≡ true → found q (entries_from k (n ∷ ns)) ≡ found q (entries_from (suc k) ns)
found_free q k n ns e = ap (found q) (entries_free k n ns e)

found_used : (q : List ℕ) (k : ℕ) (n : List ℕ) (ns : List (List ℕ)) → is_free n ≡ false
    → found q (entries_from k (n ∷ ns)) ≡ cond (is_name q (name_in n)) (Some (record { node = k; details = details_in n })) (found q (entries_from (suc k) ns))
found_used q k n ns e = ap (found q) (entries_used k n ns e)

-- the node at an index is used and has the name
pub record HasName (ns : List (List ℕ)) (i : ℕ) (m : List ℕ) : Type 0 where
  pub there : i < length ns
  pub used : is_free (get_or ns i []) ≡ false
  pub named : name_in (get_or ns i []) ≡ m

-- at most the node at this index has the name
abbrev pub OnlyAt : List (List ℕ) → ℕ → List ℕ → Type 0
OnlyAt ns j m = (i : ℕ) → HasName ns i m → i ≡ j

later : (n : List ℕ) (ns : List (List ℕ)) (i : ℕ) (m : List ℕ) → HasName ns i m → HasName (n ∷ ns) (suc i) m
later n ns i m h = record { there = let lt = h.there in omega (arith, lt); used = h.used; named = h.named }

first : (n : List ℕ) (ns : List (List ℕ)) (m : List ℕ) → is_free n ≡ false → name_in n ≡ m → HasName (n ∷ ns) zero m
first n ns m used named = record { there = omega arith; used = used; named = named }

only_later : (n : List ℕ) (ns : List (List ℕ)) (j : ℕ) (m : List ℕ) → OnlyAt (n ∷ ns) (suc j) m → OnlyAt ns j m
only_later n ns j m only i h = let e : suc i ≡ suc j = only (suc i) (later n ns i m h) in omega arith

not_first : (n : List ℕ) (ns : List (List ℕ)) (j : ℕ) (m : List ℕ) → is_free n ≡ false → OnlyAt (n ∷ ns) (suc j) m → name_in n ≢ m
not_first n ns j m used only named = let e : zero ≡ suc j = only zero (first n ns m used named) in omega arith

-- a name that no node has isn't found
pub found_none : (q : List ℕ) (k : ℕ) (ns : List (List ℕ)) → ((i : ℕ) → ¬ HasName ns i q) → found q (entries_from k ns) ≡ None
found_none q k [] none = refl
found_none q k (n ∷ ns) none =
    let rest : found q (entries_from (suc k) ns) ≡ None = found_none q (suc k) ns (λ i h. none (suc i) (later n ns i q h)) in
    elim (cases_Bool (is_free n)) [
      | inl free ↦ found_free q k n ns free ∙ rest
      | inr used ↦ found_used q k n ns used ∙ ap (λ (b : Bool). cond b (Some (record { node = k; details = details_in n })) (found q (entries_from (suc k) ns))) (other_name q (name_in n) (λ e. none zero (first n ns q used (sym e)))) ∙ rest
    ]

abbrev pub held_at : ℕ → List ℕ → Option Held
held_at k n = Some (record { node = k; details = details_in n })

moved : (k k' : ℕ) (n : List ℕ) → k ≡ k' → held_at k n ≡ held_at k' n
moved k k' n e = ap (λ (i : ℕ). held_at i n) e

-- the one node that has the name is found
pub found_at : (q : List ℕ) (k : ℕ) (ns : List (List ℕ)) (j : ℕ) → HasName ns j q → OnlyAt ns j q → found q (entries_from k ns) ≡ Some (record { node = k + j; details = details_in (get_or ns j []) })
found_at q k [] j h only = absurd (let lt = h.there in omega (arith, lt))
found_at q k (n ∷ ns) zero h only =
    found_used q k n ns h.used ∙ ap (λ (b : Bool). cond b (Some (record { node = k; details = details_in n })) (found q (entries_from (suc k) ns))) (own_name q (name_in n) (sym h.named)) ∙ moved k (k + 0) n (omega arith)
found_at q k (n ∷ ns) (suc j) h only =
    let here : HasName ns j q = record { there = let lt = h.there in omega (arith, lt); used = h.used; named = h.named } in
    let rest : found q (entries_from (suc k) ns) ≡ Some (record { node = suc k + j; details = details_in (get_or ns j []) }) = found_at q (suc k) ns j here (only_later n ns j q only) in
    let same = moved (suc k + j) (k + suc j) (get_or ns j []) (omega arith) in
    elim (cases_Bool (is_free n)) [
      | inl free ↦ found_free q k n ns free ∙ rest ∙ same
      | inr used ↦
          found_used q k n ns used ∙ ap (λ (b : Bool). cond b (Some (record { node = k; details = details_in n })) (found q (entries_from (suc k) ns))) (other_name q (name_in n) (λ e. not_first n ns j q used only (sym e))) ∙ rest ∙ same
    ]

-- two tests that don't both hold stand in either order
swapped : {A : Type 0} (s t : Bool) (a b c : A) → (s ≡ true → t ≡ true → ⊥) → cond s a (cond t b c) ≡ cond t b (cond s a c)
swapped true true a b c apart = absurd (apart refl refl)
swapped true false a b c apart = refl
swapped false t a b c apart = refl

shadowed : {A : Type 0} (t : Bool) (a b c : A) → cond t a c ≡ cond t a (cond t b c)
shadowed true a b c = refl
shadowed false a b c = refl

names_apart : (q x m : List ℕ) → x ≢ m → is_name q x ≡ true → is_name q m ≡ true → ⊥
names_apart q x m ne e f = ne (sym (same_name q x e) ∙ same_name q m f)

-- a node that is free, or has the name, takes the name with other details
pub found_put : (q m : List ℕ) (k : ℕ) (ns : List (List ℕ)) (j : ℕ) (n' : List ℕ) → j < length ns → is_free n' ≡ false → name_in n' ≡ m → (is_free (get_or ns j []) ≡ true) ⊎ (name_in (get_or ns j []) ≡ m) → OnlyAt ns j m
    → found q (entries_from k (slice_set ns j n')) ≡ cond (is_name q m) (Some (record { node = k + j; details = details_in n' })) (found q (entries_from k ns))
found_put q m k [] j n' lt used' named' was only = absurd (omega arith)
found_put q m k (n ∷ ns) zero n' lt used' named' was only =
    let rest = found q (entries_from (suc k) ns) in
    let new : found q (entries_from k (n' ∷ ns)) ≡ cond (is_name q m) (Some (record { node = k + 0; details = details_in n' })) rest =
    found_used q k n' ns used' ∙ ap (λ (x : List ℕ). cond (is_name q x) (Some (record { node = k; details = details_in n' })) rest) named' ∙ ap (λ (o : Option Held). cond (is_name q m) o rest) (moved k (k + 0) n' (omega arith)) in
    elim (cases_Bool (is_free n)) [
      | inl free ↦ new ∙ ap (λ (o : Option Held). cond (is_name q m) (Some (record { node = k + 0; details = details_in n' })) o) (sym (found_free q k n ns free))
      | inr used ↦
          new ∙ shadowed (is_name q m) (Some (record { node = k + 0; details = details_in n' })) (Some (record { node = k; details = details_in n })) rest
          ∙ ap (λ (o : Option Held). cond (is_name q m) (Some (record { node = k + 0; details = details_in n' })) o) (sym (found_used q k n ns used ∙ ap (λ (x : List ℕ). cond (is_name q x) (Some (record { node = k; details = details_in n })) rest) (its_name used was)))
    ]
  where
    its_name : is_free n ≡ false → (is_free n ≡ true) ⊎ (name_in n ≡ m) → name_in n ≡ m
    its_name used (inl free) = absurd (false≢true (sym used ∙ free))
    its_name used (inr named) = named
found_put q m k (n ∷ ns) (suc j) n' lt used' named' was only =
    let v = held_at (suc k + j) n' in
    let rest : found q (entries_from (suc k) (slice_set ns j n')) ≡ cond (is_name q m) v (found q (entries_from (suc k) ns)) = found_put q m (suc k) ns j n' (omega arith) used' named' was (only_later n ns j m only) in
    let same = moved (suc k + j) (k + suc j) n' (omega arith) in
    elim (cases_Bool (is_free n)) [
      | inl free ↦ found_free q k n (slice_set ns j n') free ∙ rest ∙ ap (λ (o : Option Held). cond (is_name q m) o (found q (entries_from (suc k) ns))) same ∙ ap (λ (o : Option Held). cond (is_name q m) (Some (record { node = k + suc j; details = details_in n' })) o) (sym (found_free q k n ns free))
      | inr used ↦
          found_used q k n (slice_set ns j n') used ∙ ap (λ (o : Option Held). cond (is_name q (name_in n)) (Some (record { node = k; details = details_in n })) o) rest
          ∙ swapped (is_name q (name_in n)) (is_name q m) (Some (record { node = k; details = details_in n })) v (found q (entries_from (suc k) ns)) (names_apart q (name_in n) m (not_first n ns j m used only))
          ∙ ap (λ (o : Option Held). cond (is_name q m) o (cond (is_name q (name_in n)) (Some (record { node = k; details = details_in n })) (found q (entries_from (suc k) ns)))) same
          ∙ ap (λ (o : Option Held). cond (is_name q m) (Some (record { node = k + suc j; details = details_in n' })) o) (sym (found_used q k n ns used))
    ]

-- the node that has the name becomes free
pub found_cleared : (q m : List ℕ) (k : ℕ) (ns : List (List ℕ)) (j : ℕ) (n' : List ℕ) → is_free n' ≡ true → HasName ns j m → OnlyAt ns j m
    → found q (entries_from k (slice_set ns j n')) ≡ cond (is_name q m) None (found q (entries_from k ns))
found_cleared q m k [] j n' free' h only = absurd (let lt = h.there in omega (arith, lt))
found_cleared q m k (n ∷ ns) zero n' free' h only =
    let rest = found q (entries_from (suc k) ns) in
    let old : found q (entries_from k (n ∷ ns)) ≡ cond (is_name q m) (Some (record { node = k; details = details_in n })) rest = found_used q k n ns h.used ∙ ap (λ (x : List ℕ). cond (is_name q x) (Some (record { node = k; details = details_in n })) rest) h.named in
    found_free q k n' ns free' ∙ by_test (is_name q m) refl (Some (record { node = k; details = details_in n })) ∙ ap (λ (o : Option Held). cond (is_name q m) None o) (sym old)
  where
    by_test : (t : Bool) → is_name q m ≡ t → (v : Option Held) → found q (entries_from (suc k) ns) ≡ cond t None (cond t v (found q (entries_from (suc k) ns)))
    by_test true e v = found_none q (suc k) ns (λ i has.
        let e' : suc i ≡ zero = only (suc i) (later n ns i m (subst (λ (x : List ℕ). HasName ns i x) (same_name q m e) has)) in omega arith)
    by_test false e v = refl
found_cleared q m k (n ∷ ns) (suc j) n' free' h only =
    let here : HasName ns j m = record { there = let lt = h.there in omega (arith, lt); used = h.used; named = h.named } in
    let rest : found q (entries_from (suc k) (slice_set ns j n')) ≡ cond (is_name q m) None (found q (entries_from (suc k) ns)) = found_cleared q m (suc k) ns j n' free' here (only_later n ns j m only) in
    elim (cases_Bool (is_free n)) [
      | inl free ↦ found_free q k n (slice_set ns j n') free ∙ rest ∙ ap (λ (o : Option Held). cond (is_name q m) None o) (sym (found_free q k n ns free))
      | inr used ↦
          found_used q k n (slice_set ns j n') used ∙ ap (λ (o : Option Held). cond (is_name q (name_in n)) (Some (record { node = k; details = details_in n })) o) rest
          ∙ swapped (is_name q (name_in n)) (is_name q m) (Some (record { node = k; details = details_in n })) None (found q (entries_from (suc k) ns)) (names_apart q (name_in n) m (not_first n ns j m used only))
          ∙ ap (λ (o : Option Held). cond (is_name q m) None o) (sym (found_used q k n ns used))
    ]

-- the entries of some nodes and of those behind them
pub entries-append : (k : ℕ) (xs ys : List (List ℕ)) → entries_from k (xs ++ ys) ≡ entries_from k xs ++ entries_from (k + length xs) ys
entries-append k [] ys = ap (λ (n : ℕ). entries_from n ys) (omega arith)
entries-append k (x ∷ xs) ys =
    let rest = entries-append (suc k) xs ys ∙ ap (λ (n : ℕ). entries_from (suc k) xs ++ entries_from n ys) (omega arith) in
    elim (cases_Bool (is_free x)) [
      | inl free ↦ entries_free k x (xs ++ ys) free ∙ rest ∙ ap (λ (es : List (List ℕ × Held)). es ++ entries_from (k + length (x ∷ xs)) ys) (sym (entries_free k x xs free))
      | inr used ↦ entries_used k x (xs ++ ys) used ∙ ap (λ (es : List (List ℕ × Held)). (name_in x, record { node = k; details = details_in x }) ∷ es) rest ∙ ap (λ (es : List (List ℕ × Held)). es ++ entries_from (k + length (x ∷ xs)) ys) (sym (entries_used k x xs used))
    ]

abbrev pub listed : List (List ℕ × Held) → List (List ℕ × ℕ)
listed es = map (λ entry. (entry.0, entry.1.node)) es

-- one node more
module _ (ns : List (List ℕ)) (i : ℕ) (lt : i < length ns) where
  more : entries_from 0 (take (i + 1) ns) ≡ entries_from 0 (take i ns) ++ entries_from i (get_or ns i [] ∷ [])
  more =
      let below : i ≤ length ns = omega arith in
      ap (entries_from 0) (take_more ns i [] lt) ∙ entries-append 0 (take i ns) (get_or ns i [] ∷ [])
      ∙ ap (λ (k : ℕ). entries_from 0 (take i ns) ++ entries_from k (get_or ns i [] ∷ [])) (ap (λ (k : ℕ). 0 + k) (length-take-le i ns below) ∙ omega arith)

  pub listed_free : is_free (get_or ns i []) ≡ true → listed (entries_from 0 (take (i + 1) ns)) ≡ listed (entries_from 0 (take i ns))
  listed_free free = ap listed (more ∙ ap (λ (es : List (List ℕ × Held)). entries_from 0 (take i ns) ++ es) (entries_free i (get_or ns i []) [] free) ∙ append-nil (entries_from 0 (take i ns)))

  pub listed_used : is_free (get_or ns i []) ≡ false → listed (entries_from 0 (take (i + 1) ns)) ≡ listed (entries_from 0 (take i ns)) ++ (name_in (get_or ns i []), i) ∷ []
  listed_used used =
      ap listed (more ∙ ap (λ (es : List (List ℕ × Held)). entries_from 0 (take i ns) ++ es) (entries_used i (get_or ns i []) [] used))
      ∙ map-append (λ (entry : List ℕ × Held). (entry.0, entry.1.node)) (entries_from 0 (take i ns)) ((name_in (get_or ns i []), record { node = i; details = details_in (get_or ns i []) }) ∷ [])
