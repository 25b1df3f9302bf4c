-- A stream that is read or written in several calls.
use Rattle.std.proofs.Common.{◌≡◌, ℕ, ◌+◌, ◌≤◌, List, [], ◌++◌, length, take, drop, Option, Some, sym, ap, ◌∙◌, append-nil, append_assoc, length-append, length-drop, arith, subst, refl}
use Rattle.std.proofs.Math.Seq.{take-add}
use Rattle.std.proofs.lemmas.List.{drop-drop, take_all, drop_all, take_at, length-take-le}
use Rattle.mm_outside.specs.Stream.{ReadsOf, Takes}
use Rattle.mm_main.specs.Streams.{Says, Gave, ReadsMore, ReadsUpTo}

-- a front of the text was taken, and this rest is behind it
pub record Printing (text rest : List ℕ) (before now : Option (List ℕ)) : Type 0 where
  pub at : ℕ
  pub behind : rest ≡ drop at text
  pub said : Says (take at text) before now

pub printing_first : (text : List ℕ) (taken : Option (List ℕ)) → Printing text text taken taken
printing_first text taken = record {
  at = 0;
  behind = refl;
  said = λ xs is. is ∙ ap (λ ys. Some ys) (sym (append-nil xs));
}

pub printing_more : (text rest : List ℕ) (before now next : Option (List ℕ)) (n : ℕ) → Printing text rest before now → Takes n rest now next → Printing text (drop n rest) before next
printing_more text rest before now next n p took = record {
  at = p.at + n;
  behind = ap (drop n) p.behind ∙ drop-drop n p.at text;
  said = λ xs is. took _ (p.said xs is) ∙ ap (λ ys. Some ys) (append_assoc xs (take p.at text) (take n rest) ∙ ap (λ ys. xs ++ ys) (ap (λ r. take p.at text ++ take n r) p.behind ∙ sym (take-add p.at n text)));
}

-- with nothing left, all of the text was taken
pub printing_all : (text rest : List ℕ) (before now : Option (List ℕ)) → Printing text rest before now → length rest ≡ 0 → Says text before now
printing_all text rest before now p none = λ xs is. p.said xs is ∙ ap (λ ys. Some (xs ++ ys)) (take_all p.at text (omega (arith, ap length p.behind, length-drop {A = ℕ})))

-- what was read in one call, behind what was there
pub gave : (n : ℕ) (old filled new zeros coming : List ℕ) (left : Option (List ℕ)) → ReadsOf n zeros filled coming left → new ≡ take (length old + n) (old ++ filled) → Gave n old new coming left
gave n old filled new zeros coming left r is = record {
  few = r.few;
  more = is ∙ ap (λ xs. take (length old + n) (old ++ xs)) r.front ∙ ap (take (length old + n)) (sym (append_assoc old (take n coming) (drop n zeros))) ∙ take_at (old ++ take n coming) (drop n zeros) (length old + n) (omega (arith, length-append {A = ℕ}, length-take-le n coming r.few));
  rest = r.rest;
  end = r.end;
}

-- these are the first bytes of what was to come, and the others are still to come
abbrev pub ReadSoFar : List ℕ → Option (List ℕ) → Option (List ℕ) → Type 0
ReadSoFar bytes before now = (coming : List ℕ) → before ≡ Some coming → (bytes ≡ take (length bytes) coming) × (now ≡ Some (drop (length bytes) coming))

pub read_none : (source : Option (List ℕ)) → ReadSoFar [] source source
read_none source = λ coming is. (refl, is)

pub read_more : (n : ℕ) (old new : List ℕ) (before now next : Option (List ℕ)) → length new ≡ length old + n → ReadSoFar old before now → ReadsMore n old new now next → ReadSoFar new before next
read_more n old new before now next len so_far more = λ coming is.
    let first = so_far coming is in
    let then = more _ first.1 in (
      then.more ∙ ap (λ xs. xs ++ take n (drop (length old) coming)) first.0 ∙ sym (take-add (length old) n coming) ∙ ap (λ k. take k coming) (sym len),
      then.rest ∙ ap (λ xs. Some xs) (drop-drop n (length old) coming ∙ ap (λ k. drop k coming) (sym len)),
    )

-- at the end of the source, or with as many bytes as were wanted, all was read
pub read_up_to : (most : ℕ) (bytes : List ℕ) (before now : Option (List ℕ)) → length bytes ≡ most → ReadSoFar bytes before now → ReadsUpTo most bytes before now
read_up_to most bytes before now len so_far = λ coming is.
    let all = so_far coming is in
    (all.0 ∙ ap (λ k. take k coming) len, all.1 ∙ ap (λ k. Some (drop k coming)) len)

pub read_to_end : (most n : ℕ) (old new : List ℕ) (before now next : Option (List ℕ)) → n ≡ 0 → length old ≤ most → ReadSoFar old before now → ReadsMore n old new now next → ReadsUpTo most new before next
read_to_end most n old new before now next end short so_far some = λ coming is.
    let more : ReadsMore 0 old new now next = subst (λ (k : ℕ). ReadsMore k old new now next) end some in
    let first = so_far coming is in
    let then = more _ first.1 in
    let none : drop (length old) coming ≡ [] = then.end refl in
    let fits : length coming ≤ length old = omega (arith, ap length none, length-drop {A = ℕ}) in
    let all : length coming ≤ most = omega arith in
    (then.more ∙ append-nil old ∙ first.0 ∙ take_all (length old) coming fits ∙ sym (take_all most coming all), then.rest ∙ ap (λ xs. Some xs) (none ∙ sym (drop_all most coming all)))
