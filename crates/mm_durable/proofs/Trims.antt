-- The files whose sections are all marked.
use Rattle.std.proofs.Common.{◌≡◌, inr, ℕ, suc, ◌+◌, ◌≤◌, Bool, true, false, cond, List, [], ◌∷◌, ◌++◌, length, take, map, refl, sym, ◌∙◌, ap, subst, arith}
use Rattle.std.specs.Prelude.{nat_le}
use Rattle.std.proofs.lemmas.Bool.Decides.{nat_tests}
use Rattle.std.proofs.lemmas.List.{length-append, length-map, length-drop}
use Rattle.mm_section.specs.declared.section.Section.{Section}
use Rattle.mm_jfiles.specs.Files.{Files, how_many, dropped, next_number}
use Rattle.mm_crash.specs.Journal.{IsNumbered}
use Rattle.mm_crash.specs.Rest.{Counts, all_of}
use Rattle.mm_crash.proofs.Runs.{numbered_take, numbered_drop}
use Rattle.mm_journal.specs.Tracks.{last_of}
use Rattle.mm_durable.specs.Log.{IsSound, GoesOn}
use Rattle.mm_durable.specs.declared.log.Log.{Log}
use Rattle.mm_durable.proofs.Clears.{MayGo}

numbered_behind : (n : ℕ) (a b : List Section) → IsNumbered n (a ++ b) → IsNumbered (n + length a) b
numbered_behind n [] b h = let same : n ≡ n + 0 = omega arith in subst (λ m. IsNumbered m b) same h
numbered_behind n (x ∷ a) b h = let along : n + 1 + length a ≡ n + length (x ∷ a) = omega arith in subst (λ m. IsNumbered m b) along (numbered_behind (n + 1) a b h.1)

last_numbered : (n : ℕ) (x : Section) (a b : List Section) → IsNumbered n ((x ∷ a) ++ b) → last_of (x ∷ a) ≡ n + length (x ∷ a)
last_numbered n x [] b h = h.0 ∙ omega arith
last_numbered n x (y ∷ a) b h = last_numbered (n + 1) y a b h.1 ∙ omega arith

-- of a file whose last section is at most the marked one, all are marked
run_marked : (last from mark upto : ℕ) (r b : List Section) → upto ≡ last + mark → from ≤ mark → IsNumbered (last + from) (r ++ b) → nat_le (last_of r) upto ≡ true → from + length r ≤ mark
run_marked last from mark upto [] b e le h test = omega (arith, le)
run_marked last from mark upto (x ∷ a) b e le h test = let at_most : last_of (x ∷ a) ≤ upto = grind (arith, nat_tests) in omega (arith, at_most, e, last_numbered (last + from) x a b h)

one_more : (more : ℕ) (r : List Section) (runs : List (List Section)) (from mark : ℕ) (b : Bool) → from ≤ mark → (b ≡ true → from + length r + length (all_of (take more runs)) ≤ mark) → from + length (all_of (take (cond b (1 + more) 0) (r ∷ runs))) ≤ mark
one_more more r runs from mark false le rest = omega (arith, le)
one_more more r runs from mark true le rest =
    let one : 1 + more ≡ suc more = omega arith in
    let sized : length (all_of (take (suc more) (r ∷ runs))) ≡ length r + length (all_of (take more runs)) = length-append r (all_of (take more runs)) in
    omega (arith, rest refl, sized, ap (λ n. length (all_of (take n (r ∷ runs)))) one)

goes : (last mark upto : ℕ) → upto ≡ last + mark → (runs : List (List Section)) (from : ℕ) → from ≤ mark → IsNumbered (last + from) (all_of runs) → from + length (all_of (take (how_many upto (map last_of runs)) runs)) ≤ mark
goes last mark upto e [] from le h = omega (arith, le)
goes last mark upto e (r ∷ []) from le h = omega (arith, le)
goes last mark upto e (r ∷ s ∷ runs) from le h =
    let along : last + from + length r ≡ last + (from + length r) = omega arith in
    one_more (how_many upto (map last_of (s ∷ runs))) r (s ∷ runs) from mark (nat_le (last_of r) upto) le
    (λ test.
    let front : from + length r ≤ mark = run_marked last from mark upto r (all_of (s ∷ runs)) e le h test in
    goes last mark upto e (s ∷ runs) (from + length r) front (subst (λ n. IsNumbered n (all_of (s ∷ runs))) along (numbered_behind (last + from) r (all_of (s ∷ runs)) h)))

few : (upto : ℕ) (xs : List ℕ) → how_many upto xs ≤ length xs
few upto [] = omega arith
few upto (x ∷ []) = omega arith
few upto (x ∷ y ∷ ys) = at_most (nat_le x upto) (how_many upto (y ∷ ys)) (length (y ∷ ys)) (few upto (y ∷ ys))
  where
    at_most : (b : Bool) (n k : ℕ) → n ≤ k → cond b (1 + n) 0 ≤ suc k
    at_most true n k le = omega (arith, le)
    at_most false n k le = omega arith

-- without them the journal goes on as before
pub still_goes : (old : Log) → GoesOn old → (f : Files) → f ≡ dropped (how_many (old.last + old.mark) old.journal.lasts) old.journal → GoesOn (record old { journal = f })
still_goes old s f is =
    let k : ℕ = how_many (old.last + old.mark) old.journal.lasts in
    record {
      limit = omega (arith, s.limit, ap (λ (g : Files). g.limit) is);
      begun = omega (arith, s.begun, ap next_number is, length-drop k old.journal.lasts, few (old.last + old.mark) old.journal.lasts);
    }

-- the first files whose last section is at most the marked one may go
pub marked_may_go : (old : Log) (sound : IsSound old) → MayGo old sound (how_many (old.last + old.mark) old.journal.lasts)
marked_may_go old sound t u story history x =
    let c : Counts = x.counts in
    let upto : ℕ = old.last + old.mark in
    let r = x.durable.rest in
    let same : how_many upto old.journal.lasts ≡ how_many upto (map last_of c.runs) = ap (how_many upto) x.tracks.lasts in
    let mark_is : upto ≡ story.last + c.mark = omega (arith, x.last, x.mark) in
    let numbered : IsNumbered (story.last + c.from) (all_of c.runs) = subst (IsNumbered (story.last + c.from)) (sym r.journal.all) (numbered_drop story.last c.from (take c.s story.sections) (numbered_take story.last c.s story.sections x.durable.sound.numbered)) in
    (omega (arith, few upto old.journal.lasts, ap length x.tracks.lasts, length-map c.runs last_of), inr (subst (λ n. c.from + length (all_of (take n c.runs)) ≤ c.mark) (sym same) (goes story.last c.mark upto mark_is c.runs c.from r.journal.from_mark numbered)))
