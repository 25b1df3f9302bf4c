-- What the first bytes decide of a reader: that it goes on, or that it stops, and at which field.
use Rattle.std.proofs.Common.{◌≡◌, ℕ, zero, suc, ◌+◌, ◌-◌, ◌<◌, ◌≤◌, List, [], ◌∷◌, ◌++◌, length, get_or, take, drop, Result, Ok, Err, refl, sym, ap, subst, ◌∙◌, ◌⊎◌, inl, inr, arith}
use Rattle.std.proofs.lemmas.List.{take-take, take_all, take_at, drop_at, drop-take, take-append-drop, length-append, length-drop, length-take, get_or-take}
use Rattle.mm_bson.specs.declared.fault.BsonFault.{BsonFault}
use Rattle.mm_bson.specs.Reading.{◌>>=◌}
use Rattle.mm_bson.specs.Faults.{Stands}
use Rattle.mm_bson.specs.Walk.{EndsAt}
use Rattle.mm_bson.proofs.Ends.{last_ends, part_is, part_fits}
use Rattle.mm_laws.specs.Fields.{Field, fault_of, end_of, IsFaulty}

-- ---- lists of one length that begin alike

pub record Alike (m : ℕ) (x y : List ℕ) : Type 0 where
  pub long : length y ≡ length x
  pub front : take m y ≡ take m x

pub alike_less : (k m : ℕ) (x y : List ℕ) → k ≤ m → Alike m x y → Alike k x y
alike_less k m x y few h = record { long = h.long; front = sym (take-take k m y few) ∙ ap (take k) h.front ∙ take-take k m x few }

pub alike_drop : (k m : ℕ) (x y : List ℕ) → Alike (k + m) x y → Alike m (drop k x) (drop k y)
alike_drop k m x y h = record { long = omega (arith, length-drop k x, length-drop k y, h.long); front = sym (drop-take k m y) ∙ ap (drop k) h.front ∙ drop-take k m x }

take_swap : (a b : ℕ) (x : List ℕ) → take a (take b x) ≡ take b (take a x)
take_swap zero zero x = refl
take_swap zero (suc b) x = refl
take_swap (suc a) zero x = refl
take_swap (suc a) (suc b) [] = refl
take_swap (suc a) (suc b) (c ∷ x) = ap (λ (l : List ℕ). c ∷ l) (take_swap a b x)

pub alike_take : (n m : ℕ) (x y : List ℕ) → Alike m x y → Alike m (take n x) (take n y)
alike_take n m x y h = record { long = omega (arith, length-take n x, length-take n y, h.long); front = take_swap m n y ∙ ap (take n) h.front ∙ take_swap n m x }

pub alike_at : (i m : ℕ) (x y : List ℕ) → i < m → Alike m x y → get_or y i 0 ≡ get_or x i 0
alike_at i m x y lt h = sym (get_or-take m y i 0 lt) ∙ ap (λ (l : List ℕ). get_or l i 0) h.front ∙ get_or-take m x i 0 lt

pub alike_all : (x y : List ℕ) → Alike (length x) x y → y ≡ x
alike_all x y h = sym (take_all (length x) y (omega (arith, h.long))) ∙ h.front ∙ take_all (length x) x (omega arith)

-- the other goes on with the same text
pub alike_text : (text rest x y : List ℕ) → x ≡ text ++ rest → Alike (length text) x y → y ≡ text ++ drop (length text) y
alike_text text rest x y parts h =
    sym (take-append-drop (length text) y) ∙ ap (λ (l : List ℕ). l ++ drop (length text) y) (h.front ∙ ap (take (length text)) parts ∙ take_at text rest (length text) refl)

-- ---- what stands where

-- a text at the front of bytes that end there
pub front_stands : (end : ℕ) (text rest x all : List ℕ) → EndsAt end x all → x ≡ text ++ rest → Stands (end - length x) text all
front_stands end text rest x all h parts =
    let few : length text ≤ length x = omega (arith, ap length parts, length-append text rest) in
    sym (take-take (length text) (length x) (drop (end - length x) all) few) ∙ ap (take (length text)) (part_is end x all h ∙ parts) ∙ take_at text rest (length text) refl

-- a text behind another
pub second_stands : (end : ℕ) (first text rest x all : List ℕ) → EndsAt end x all → x ≡ first ++ (text ++ rest) → Stands (end - length x + length first) text all
second_stands end first text rest x all h parts =
    let behind : EndsAt end (text ++ rest) all = last_ends end first (text ++ rest) all (subst (λ (b : List ℕ). EndsAt end b all) parts h) in
    let place : end - length (text ++ rest) ≡ end - length x + length first = omega (arith, ap length parts, length-append first (text ++ rest), (part_fits end x all h).0) in
    subst (λ (at : ℕ). Stands at text all) place (front_stands end text rest (text ++ rest) all behind refl)

-- ---- readers

abbrev pub failed : (A : Type 0) → BsonFault → Result A BsonFault
failed A e = Err e

pub same_fault : (A : Type 0) (d e : BsonFault) → failed A d ≡ Err e → d ≡ e
same_fault A d e h = cc

pub bind_err : (A B : Type 0) (r : Result A BsonFault) (f : A → Result B BsonFault) (e : BsonFault) → (r >>= f) ≡ Err e → (r ≡ Err e) ⊎ ((x : A) × (r ≡ Ok x) × (f x ≡ Err e))
bind_err A B (Ok x) f e h = inr (x, refl, h)
bind_err A B (Err d) f e h = inl (ap (failed A) (same_fault B d e h))

-- It takes the first bytes for a value, whatever comes after them.
pub record Goes (A : Type 0) (r : List ℕ → Result (A × List ℕ) BsonFault) (x : List ℕ) (a : A) (rest : List ℕ) : Type 0 where
  pub seen : ℕ
  pub few : seen ≤ length x
  pub left : rest ≡ drop seen x
  pub again : (y : List ℕ) → Alike seen x y → r y ≡ Ok (a, drop seen y)

pub goes_from : (A : Type 0) (r : List ℕ → Result (A × List ℕ) BsonFault) (x : List ℕ) (a : A) (text rest : List ℕ) → x ≡ text ++ rest → ((z : List ℕ) → r (text ++ z) ≡ Ok (a, z)) → Goes A r x a rest
goes_from A r x a text rest parts reads = record {
  seen = length text;
  few = omega (arith, ap length parts, length-append text rest);
  left = sym (ap (drop (length text)) parts ∙ drop_at text rest (length text) refl);
  again = λ y h. ap r (alike_text text rest x y parts h) ∙ reads (drop (length text) y);
}

-- It stops at a field, whatever comes behind the field's end. The bytes that it reads end at end.
pub record Stops (A : Type 0) (all : List ℕ) (end : ℕ) (r : List ℕ → Result A BsonFault) (x : List ℕ) (e : BsonFault) : Type 0 where
  pub found : Field
  pub names : fault_of found ≡ e
  pub faulty : IsFaulty all found
  pub seen : ℕ
  pub place : end_of found ≡ end - length x + seen
  pub again : (y : List ℕ) → Alike seen x y → r y ≡ Err e

pub stops_with : (A : Type 0) (all : List ℕ) (end : ℕ) (r : List ℕ → Result A BsonFault) (x : List ℕ) (d e : BsonFault) → failed A d ≡ Err e → Stops A all end r x d → Stops A all end r x e
stops_with A all end r x d e h s = subst (λ (f : BsonFault). Stops A all end r x f) (same_fault A d e h) s

-- the first step stops
pub first_stops : (A B : Type 0) (all : List ℕ) (end : ℕ) (r : List ℕ → Result A BsonFault) (f : List ℕ → A → Result B BsonFault) (x : List ℕ) (e : BsonFault) → Stops A all end r x e
    → Stops B all end (λ y. r y >>= f y) x e
first_stops A B all end r f x e s = record { found = s.found; names = s.names; faulty = s.faulty; seen = s.seen; place = s.place; again = λ y h. ap (λ (q : Result A BsonFault). q >>= f y) (s.again y h) }

-- the first step goes on, and the next one stops
pub then_stops : (A B : Type 0) (all : List ℕ) (end : ℕ) (r : List ℕ → Result (A × List ℕ) BsonFault) (f : A × List ℕ → Result B BsonFault) (x : List ℕ) (a : A) (rest : List ℕ) (e : BsonFault) → length x ≤ end
    → Goes A r x a rest → Stops B all end (λ y. f (a, y)) rest e → Stops B all end (λ y. r y >>= f) x e
then_stops A B all end r f x a rest e within g s = record {
  found = s.found;
  names = s.names;
  faulty = s.faulty;
  seen = g.seen + s.seen;
  place = s.place ∙ omega (arith, ap length g.left, length-drop g.seen x, g.few, within);
  again = λ y h. ap (λ (q : Result (A × List ℕ) BsonFault). q >>= f) (g.again y (alike_less g.seen (g.seen + s.seen) x y (omega arith) h)) ∙ s.again (drop g.seen y) (subst (λ (l : List ℕ). Alike s.seen l (drop g.seen y)) (sym g.left) (alike_drop g.seen s.seen x y h));
}
