-- The names of the used nodes.
use Rattle.std.proofs.Common.{◌≡◌, ℕ, zero, suc, ◌+◌, inl, inr, Bool, true, false, cond, List, [], ◌∷◌, length, refl, sym, ◌∙◌, ap, subst, arith}
use Rattle.std.specs.Prelude.{if◌then◌else◌, count_by}
use Rattle.std.proofs.lemmas.Bool.{cases_Bool}
use Rattle.std.proofs.lemmas.List.Sums.{sum_by-cons}
use Rattle.mm_nstable.specs.Nodes.{name_in, is_free}
use Rattle.mm_nstable.proofs.Entries.{HasName}
use Rattle.mm_check.proofs.RecordLaws.{if_yes, if_no}
use Rattle.mm_standing.proofs.NameLists.{In, Differ}

abbrev pub names_of : List (List ℕ) → List (List ℕ)
names_of [] = []
names_of (n ∷ ns) = if is_free n then names_of ns else name_in n ∷ names_of ns

freed : (n : List ℕ) (ns : List (List ℕ)) → is_free n ≡ true → names_of (n ∷ ns) ≡ names_of ns
freed n ns e = if_yes (is_free n) (names_of ns) (name_in n ∷ names_of ns) e

kept : (n : List ℕ) (ns : List (List ℕ)) → is_free n ≡ false → names_of (n ∷ ns) ≡ name_in n ∷ names_of ns
kept n ns e = if_no (is_free n) (names_of ns) (name_in n ∷ names_of ns) e

-- a node is free, or has a name
pub names_count : (ns : List (List ℕ)) → length (names_of ns) + count_by is_free ns ≡ length ns
names_count [] = refl
names_count (n ∷ ns) = ap (λ (k : ℕ). length (names_of (n ∷ ns)) + k) (sum_by-cons (λ x. cond (is_free x) 1 0) n ns) ∙ by (is_free n) (names_count ns)
  where
    by : (b : Bool) → length (names_of ns) + count_by is_free ns ≡ length ns → length (if b then names_of ns else name_in n ∷ names_of ns) + (cond b 1 0 + count_by is_free ns) ≡ suc (length ns)
    by true h = omega (arith, h)
    by false h = omega (arith, h)

later : (n : List ℕ) (ns : List (List ℕ)) (i : ℕ) (m : List ℕ) → HasName ns i m → HasName (n ∷ ns) (suc i) m
later n ns i m h = record { there = let lt = h.there in omega (arith, lt); used = h.used; named = h.named }

first : (n : List ℕ) (ns : List (List ℕ)) → is_free n ≡ false → HasName (n ∷ ns) zero (name_in n)
first n ns u = record { there = omega arith; used = u; named = refl }

pub names_there : (ns : List (List ℕ)) (m : List ℕ) → In m (names_of ns) → (i : ℕ) × HasName ns i m
names_there [] m i = absurd i
names_there (n ∷ ns) m i = elim (cases_Bool (is_free n)) [
  | inl y ↦ let t = names_there ns m (subst (In m) (freed n ns y) i) in (suc t.0, later n ns t.0 m t.1)
  | inr u ↦ elim (subst (In m) (kept n ns u) i) [
    | inl e ↦ (zero, subst (HasName (n ∷ ns) zero) (sym e) (first n ns u))
    | inr j ↦ let t = names_there ns m j in (suc t.0, later n ns t.0 m t.1)
  ]
]

pub there_names : (ns : List (List ℕ)) (i : ℕ) (m : List ℕ) → HasName ns i m → In m (names_of ns)
there_names [] i m h = absurd (let lt = h.there in omega (arith, lt))
there_names (n ∷ ns) zero m h = subst (In m) (sym (kept n ns h.used)) (inl (sym h.named))
there_names (n ∷ ns) (suc i) m h =
    let t = there_names ns i m (record { there = let lt = h.there in omega (arith, lt); used = h.used; named = h.named }) in
    elim (cases_Bool (is_free n)) [ inl y ↦ subst (In m) (sym (freed n ns y)) t | inr u ↦ subst (In m) (sym (kept n ns u)) (inr t) ]

-- no two nodes have one name
abbrev pub OneEach : List (List ℕ) → Type 0
OneEach ns = (i j : ℕ) (m : List ℕ) → HasName ns i m → HasName ns j m → i ≡ j

pub names_differ : (ns : List (List ℕ)) → OneEach ns → Differ (names_of ns)
names_differ [] f = tt
names_differ (n ∷ ns) f =
    let rest = names_differ ns (λ i j m a b. let e = f (suc i) (suc j) m (later n ns i m a) (later n ns j m b) in omega (arith, e)) in
    elim (cases_Bool (is_free n)) [
      | inl y ↦ subst Differ (sym (freed n ns y)) rest
      | inr u ↦ subst Differ (sym (kept n ns u)) (
        λ i. (let t = names_there ns (name_in n) i in let e = f zero (suc t.0) (name_in n) (first n ns u) (later n ns t.0 (name_in n) t.1) in omega (arith, e)),
        rest,
      )
    ]
