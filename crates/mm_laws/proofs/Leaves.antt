-- Where the readers of numbers, texts and names stop.
use Rattle.std.proofs.Common.{◌≡◌, ◌≢◌, ℕ, zero, suc, ◌+◌, ◌-◌, ◌^◌, ◌<◌, ◌≤◌, Bool, true, false, cond, eqb, ltb, ◌||◌, List, [], ◌∷◌, ◌++◌, length, get_or, take, drop, Option, Some, None, Result, Ok, Err, refl, sym, ap, subst, ◌∙◌, ◌⊎◌, inl, inr, append_assoc, arith}
use Rattle.std.specs.List.{prefix_len}
use Rattle.std.specs.Int.{Width, w32, byte_len, from_le_bytes, to_le_bytes}
use Rattle.std.specs.Str.{is_utf8, bytes_eq}
use Rattle.std.specs.Fmt.{decimal}
use Rattle.std.proofs.lemmas.Bool.{ltb-true, ltb-false, lt-ltb, eqb-true}
use Rattle.std.proofs.lemmas.Bool.Decides.{nat_tests}
use Rattle.std.proofs.lemmas.List.{append-nil, take_at, drop_at, take_more, take-append-drop, length-append, length-drop, length-take-le}
use Rattle.mm_bson.specs.declared.fault.BsonFault.{BsonFault}
use Rattle.mm_bson.specs.declared.fault.BsonFault.TheVariants.{BadLength, BadType, BadUtf8, BadName}
use Rattle.mm_bson.specs.Tree.{Elements}
use Rattle.mm_bson.specs.Spelling.{HasNoZero}
use Rattle.mm_bson.specs.Reading.{◌>>=◌, is_due, number_at, bytes_at, boolean_at, text_to, string_at, binary_at, name_to, name_at, len_at}
use Rattle.mm_bson.specs.Faults.{Stands}
use Rattle.mm_bson.specs.Walk.{EndsAt, size}
use Rattle.mm_bson.proofs.Bytes.{IsBytes, wide32, number_takes, number_again}
use Rattle.mm_bson.proofs.Again.{not_zero, name_len}
use Rattle.mm_bson.proofs.Numbered.{is_itself}
use Rattle.mm_bson.proofs.Ends.{part_fits}
use Rattle.mm_laws.specs.Fields.{wrong_document, wrong_text, wrong_binary, cut_off, open_name, open_text, no_boolean, bad_name, other_name, bad_text, IsWithin, IsBehind}
use Rattle.mm_laws.proofs.Alike.{Alike, alike_less, alike_drop, alike_at, alike_all, alike_text, front_stands, second_stands, same_fault, bind_err, Stops, stops_with, first_stops}

pub not_that : (b k : ℕ) → eqb b k ≡ false → b ≢ k
not_that b k t is = grind (arith, nat_tests, t, is)

pub within_more : (at more last : ℕ) (all : List ℕ) → at ≤ more → IsWithin at last all → IsWithin more last all
within_more at more last all le h = record { start = h.start; len = h.len; stands = h.stands; behind = omega (arith, h.behind); ends = h.ends }

-- ---- names, by their 00

abbrev name_len_of : List ℕ → ℕ
name_len_of x = prefix_len not_zero x

abbrev first_name : List ℕ → List ℕ
first_name x = take (name_len_of x) x

no_zero : (x : List ℕ) → length x ≤ name_len_of x → HasNoZero x
no_zero [] h = tt
no_zero (zero ∷ x) h = absurd (omega arith)
no_zero (suc b ∷ x) h =
    let e : eqb (suc b) 0 ≡ false = grind (arith, nat_tests) in
    let one : name_len_of (suc b ∷ x) ≡ suc (name_len_of x) = rw e (omega arith) in
    ((λ is. cc), no_zero x (omega (arith, one, h)))

name_cut : (x : List ℕ) → name_len_of x < length x → HasNoZero (take (name_len_of x) x) × (x ≡ (take (name_len_of x) x ++ 0 ∷ []) ++ drop (name_len_of x + 1) x)
name_cut [] lt = absurd (omega arith)
name_cut (zero ∷ x) lt = (tt, refl)
name_cut (suc b ∷ x) lt =
    let e : eqb (suc b) 0 ≡ false = grind (arith, nat_tests) in
    let n : ℕ = name_len_of x in
    let one : name_len_of (suc b ∷ x) ≡ suc n = rw e (omega arith) in
    let two : suc n + 1 ≡ suc (n + 1) = omega arith in
    let rest = name_cut x (omega (arith, one)) in
    rw (one, two) (((λ is. cc), rest.0), ap (λ (l : List ℕ). suc b ∷ l) rest.1)

-- a name that isn't UTF-8, or isn't due, whatever comes after its 00
name_found : (due : Option ℕ) (end : ℕ) (name rest : List ℕ) → HasNoZero name → name_at due end ((name ++ 0 ∷ []) ++ rest)
    ≡ cond (is_utf8 name) (cond (is_due due name) (Ok (name, rest)) (Err (BadName (end - length ((name ++ 0 ∷ []) ++ rest))))) (Err (BadUtf8 (end - length ((name ++ 0 ∷ []) ++ rest))))
unfolding name_at
name_found due end name rest h =
    let joined : (name ++ 0 ∷ []) ++ rest ≡ name ++ 0 ∷ rest = append_assoc name (0 ∷ []) rest in
    let n : prefix_len not_zero (name ++ 0 ∷ rest) ≡ length name = name_len name rest h in
    let within : ltb (length name) (length (name ++ 0 ∷ rest)) ≡ true = lt-ltb _ _ (omega (arith, length-append name (0 ∷ rest))) in
    let after : drop (length name + 1) (name ++ 0 ∷ rest) ≡ rest = ap (drop (length name + 1)) (sym joined) ∙ drop_at (name ++ 0 ∷ []) rest (length name + 1) (omega (arith, length-append name (0 ∷ []))) in
    rw (joined, n, within, take_at name (0 ∷ rest) (length name) refl, after) refl

-- ---- texts

text_cut : (n : ℕ) (rest : List ℕ) → 0 < n → n ≤ length rest → rest ≡ (take (n - 1) rest ++ get_or rest (n - 1) 0 ∷ []) ++ drop n rest
text_cut n rest some long =
    let back : n ≡ n - 1 + 1 = omega arith in
    sym (take-append-drop n rest) ∙ ap (λ (l : List ℕ). l ++ drop n rest) (ap (λ (k : ℕ). take k rest) back ∙ take_more rest (n - 1) 0 (omega arith))

-- what is done behind the length of a text, a binary, a document
abbrev after_text : ℕ → List ℕ → ℕ × List ℕ → Result (List ℕ × List ℕ) BsonFault
after_text end y n = cond (eqb n.0 0 || ltb (length n.1) n.0) (Err (BadLength (end - length y))) (cond (eqb (get_or n.1 (n.0 - 1) 0) 0) (text_to end n.1 n.0) (Err (BadLength (end - length y))))

abbrev after_binary : ℕ → List ℕ → ℕ × List ℕ → Result ((ℕ × List ℕ) × List ℕ) BsonFault
after_binary end y n = cond (ltb (length n.1) (n.0 + 1)) (Err (BadLength (end - length y))) (Ok ((get_or n.1 0 0, take n.0 (drop 1 n.1)), drop n.0 (drop 1 n.1)))

abbrev pub after_len : ℕ → List ℕ → ℕ × List ℕ → Result ℕ BsonFault
after_len end y n = cond (ltb n.0 5 || ltb (length y) n.0) (Err (BadLength (end - length y))) (Ok n.0)

-- the same number stands at the front of the other
pub number_same : (end m : ℕ) (x y : List ℕ) (n : ℕ) (rest : List ℕ) → IsBytes x → number_at w32 end x ≡ Ok (n, rest) → Alike (4 + m) x y → (number_at w32 end y ≡ Ok (n, drop 4 y)) × Alike m rest (drop 4 y)
number_same end m x y n rest fits num h =
    let t = number_takes w32 (2 ^ 32) wide32 end x n rest fits num in
    let left : drop 4 x ≡ rest = ap (drop 4) t.0.parts ∙ drop_at (to_le_bytes w32 n) rest 4 refl in (
      ap (number_at w32 end) (alike_text (to_le_bytes w32 n) rest x y t.0.parts (alike_less 4 (4 + m) x y (omega arith) h)) ∙ number_again w32 (2 ^ 32) wide32 end n (drop 4 y) t.1,
      subst (λ (l : List ℕ). Alike m l (drop 4 y)) left (alike_drop 4 m x y h),
    )

-- the number that is due in an array is how many values come before
abbrev pub Counts : Option ℕ → Elements → Type 0
Counts None done = Unit {0}
Counts (Some i) done = i ≡ size done

module _ (all : List ℕ) (end : ℕ) where
  -- a field for which there are too few bytes
  cut_short : (A : Type 0) (r : List ℕ → Result A BsonFault) (many : ℕ) (x : List ℕ) → EndsAt end x all → IsWithin (end - length x) end all → length x < many → many ≤ 12
      → ((y : List ℕ) → length y ≡ length x → r y ≡ Err (BadLength (end - length x))) → Stops A all end r x (BadLength (end - length x))
  cut_short A r many x at within short few stops = record {
    found = cut_off (end - length x) many end;
    names = refl;
    faulty = (within, omega arith, omega (arith, short, (part_fits end x all at).0), few);
    seen = 0;
    place = omega arith;
    again = λ y h. stops y h.long;
  }

  pub number_stops : (w : Width) (x : List ℕ) (e : BsonFault) → byte_len w ≤ 12 → EndsAt end x all → IsWithin (end - length x) end all → number_at w end x ≡ Err e → Stops (ℕ × List ℕ) all end (number_at w end) x e
  number_stops w x e few at within h = by (ltb (length x) (byte_len w)) refl h
    where
      by : (b : Bool) → ltb (length x) (byte_len w) ≡ b → cond {A = Result (ℕ × List ℕ) BsonFault} b (Err (BadLength (end - length x))) (Ok (from_le_bytes w (take (byte_len w) x), drop (byte_len w) x)) ≡ Err e → Stops (ℕ × List ℕ) all end (number_at w end) x e
      by true t p = stops_with (ℕ × List ℕ) all end (number_at w end) x (BadLength (end - length x)) e p (cut_short (ℕ × List ℕ) (number_at w end) (byte_len w) x at within (ltb-true _ _ t) few (λ y long. rw (long, t) refl))
      by false t p = absurd cc

  pub bytes_stop : (n : ℕ) (x : List ℕ) (e : BsonFault) → n ≤ 12 → EndsAt end x all → IsWithin (end - length x) end all → bytes_at n end x ≡ Err e → Stops (List ℕ × List ℕ) all end (bytes_at n end) x e
  bytes_stop n x e few at within h = by (ltb (length x) n) refl h
    where
      by : (b : Bool) → ltb (length x) n ≡ b → cond {A = Result (List ℕ × List ℕ) BsonFault} b (Err (BadLength (end - length x))) (Ok (take n x, drop n x)) ≡ Err e → Stops (List ℕ × List ℕ) all end (bytes_at n end) x e
      by true t p = stops_with (List ℕ × List ℕ) all end (bytes_at n end) x (BadLength (end - length x)) e p (cut_short (List ℕ × List ℕ) (bytes_at n end) n x at within (ltb-true _ _ t) few (λ y long. rw (long, t) refl))
      by false t p = absurd cc

  pub boolean_stops : (x : List ℕ) (e : BsonFault) → EndsAt end x all → IsWithin (end - length x) end all → boolean_at end x ≡ Err e → Stops (Bool × List ℕ) all end (boolean_at end) x e
  unfolding boolean_at
  boolean_stops [] e at within h = stops_with (Bool × List ℕ) all end (boolean_at end) [] (BadLength (end - 0)) e h (cut_short (Bool × List ℕ) (boolean_at end) 1 [] at within (omega arith) (omega arith) (λ y long. empty y long))
    where
      empty : (y : List ℕ) → length y ≡ 0 → boolean_at end y ≡ Err (BadLength (end - 0))
      empty [] long = refl
      empty (c ∷ y) long = absurd (omega (arith, long))
  boolean_stops (b ∷ x) e at within h = by (eqb b 0) (eqb b 1) refl refl h
    where
      same : (z : List ℕ) → eqb b 0 ≡ false → eqb b 1 ≡ false → length z ≡ length x → boolean_at end (b ∷ z) ≡ Err (BadType (end - length (b ∷ x)) b)
      same z t u long = rw (t, u, long) refl

      by : (p q : Bool) → eqb b 0 ≡ p → eqb b 1 ≡ q → cond {A = Result (Bool × List ℕ) BsonFault} p (Ok (false, x)) (cond {A = Result (Bool × List ℕ) BsonFault} q (Ok (true, x)) (Err (BadType (end - length (b ∷ x)) b))) ≡ Err e
          → Stops (Bool × List ℕ) all end (boolean_at end) (b ∷ x) e
      by true q t u wrong = absurd cc
      by false true t u wrong = absurd cc
      by false false t u wrong = stops_with (Bool × List ℕ) all end (boolean_at end) (b ∷ x) (BadType (end - length (b ∷ x)) b) e wrong (record {
        found = no_boolean (end - length (b ∷ x)) b;
        names = refl;
        faulty = (front_stands end (b ∷ []) x (b ∷ x) all at refl, not_that b 0 t, not_that b 1 u);
        seen = 1;
        place = refl;
        again = λ y g. ap (boolean_at end) (alike_text (b ∷ []) x (b ∷ x) y refl g) ∙ same (drop 1 y) t u (omega (arith, length-drop 1 y, g.long));
      })

  -- ---- texts

  text_stops : (x : List ℕ) (n : ℕ) (rest : List ℕ) (e : BsonFault) → IsBytes x → EndsAt end x all → IsWithin (end - length x) end all → number_at w32 end x ≡ Ok (n, rest) → after_text end x (n, rest) ≡ Err e
      → Stops (List ℕ × List ℕ) all end (λ y. number_at w32 end y >>= after_text end y) x e
  text_stops x n rest e fits at within num h = by (eqb n 0) (ltb (length rest) n) (eqb (get_or rest (n - 1) 0) 0) (is_utf8 (take (n - 1) rest)) refl refl refl refl h
    where
      parts : x ≡ to_le_bytes w32 n ++ rest
      parts = (number_takes w32 (2 ^ 32) wide32 end x n rest fits num).0.parts

      long : length x ≡ 4 + length rest
      long = omega (arith, ap length parts, length-append (to_le_bytes w32 n) rest)

      here : length x ≤ end
      here = (part_fits end x all at).0

      wrong : (eqb n 0 || ltb (length rest) n) ≡ true → ((n ≡ 0) ⊎ (end < end - length x + 4 + n)) → Stops (List ℕ × List ℕ) all end (λ y. number_at w32 end y >>= after_text end y) x (BadLength (end - length x))
      wrong t why = record {
        found = wrong_text (end - length x) n end;
        names = refl;
        faulty = (within, front_stands end (to_le_bytes w32 n) rest x all at parts, why);
        seen = 4;
        place = refl;
        again = λ y g. let b = number_same end 0 x y n rest fits num g in ap (λ (q : Result (ℕ × List ℕ) BsonFault). q >>= after_text end y) b.0 ∙ rw (b.1.long, g.long, t) refl;
      }

      -- the text and the byte behind it
      cut : eqb n 0 ≡ false → ltb (length rest) n ≡ false → rest ≡ (take (n - 1) rest ++ get_or rest (n - 1) 0 ∷ []) ++ drop n rest
      cut z s = text_cut n rest (grind (arith, nat_tests, z)) (ltb-false _ _ s)

      counted : eqb n 0 ≡ false → ltb (length rest) n ≡ false → length (take (n - 1) rest) + 1 ≡ n
      counted z s =
          let some : 0 < n = grind (arith, nat_tests, z) in
          omega (arith, some, length-take-le (n - 1) rest (omega (arith, ltb-false _ _ s)))

      stands : (byte : ℕ) → get_or rest (n - 1) 0 ≡ byte → eqb n 0 ≡ false → ltb (length rest) n ≡ false
          → Stands (end - length x) (to_le_bytes w32 (length (take (n - 1) rest) + 1)) all × Stands (end - length x + 4) (take (n - 1) rest ++ byte ∷ []) all
      stands byte is z s = (
        subst (λ (k : ℕ). Stands (end - length x) (to_le_bytes w32 k) all) (sym (counted z s)) (front_stands end (to_le_bytes w32 n) rest x all at parts),
        subst (λ (c : ℕ). Stands (end - length x + 4) (take (n - 1) rest ++ c ∷ []) all) is
            (second_stands end (to_le_bytes w32 n) (take (n - 1) rest ++ get_or rest (n - 1) 0 ∷ []) (drop n rest) x all at (parts ∙ ap (λ (l : List ℕ). to_le_bytes w32 n ++ l) (cut z s))),
      )

      -- all that is looked at, where the number fits
      same : (y : List ℕ) → Alike (4 + n) x y → eqb n 0 ≡ false → ltb (length rest) n ≡ false
          → (number_at w32 end y ≡ Ok (n, drop 4 y)) × (length (drop 4 y) ≡ length rest) × (get_or (drop 4 y) (n - 1) 0 ≡ get_or rest (n - 1) 0) × (take (n - 1) (drop 4 y) ≡ take (n - 1) rest)
      same y g z s =
          let b = number_same end n x y n rest fits num g in
          let some : 0 < n = grind (arith, nat_tests, z) in
          (b.0, b.1.long, alike_at (n - 1) n rest (drop 4 y) (omega (arith, some)) b.1, (alike_less (n - 1) n rest (drop 4 y) (omega arith) b.1).front)

      open_one : eqb n 0 ≡ false → ltb (length rest) n ≡ false → eqb (get_or rest (n - 1) 0) 0 ≡ false → Stops (List ℕ × List ℕ) all end (λ y. number_at w32 end y >>= after_text end y) x (BadLength (end - length x))
      open_one z s l =
          let there = stands (get_or rest (n - 1) 0) refl z s in
          record {
            found = open_text (end - length x) (take (n - 1) rest) (get_or rest (n - 1) 0);
            names = refl;
            faulty = (there.0, there.1, not_that (get_or rest (n - 1) 0) 0 l);
            seen = 4 + n;
            place = omega (arith, counted z s);
            again = λ y g. let b = same y g z s in ap (λ (q : Result (ℕ × List ℕ) BsonFault). q >>= after_text end y) b.0 ∙ rw (b.1, b.2, z, s, l, g.long) refl;
          }

      bad_one : eqb n 0 ≡ false → ltb (length rest) n ≡ false → eqb (get_or rest (n - 1) 0) 0 ≡ true → is_utf8 (take (n - 1) rest) ≡ false → Stops (List ℕ × List ℕ) all end (λ y. number_at w32 end y >>= after_text end y) x (BadUtf8 (end - length rest))
      bad_one z s l u =
          let there = stands 0 (eqb-true _ _ l) z s in
          record {
            found = bad_text (end - length x) (take (n - 1) rest);
            names = ap (λ (i : ℕ). BadUtf8 i) (omega (arith, long, here));
            faulty = (there.0, there.1, u);
            seen = 4 + n;
            place = omega (arith, counted z s);
            again = λ y g. let b = same y g z s in ap (λ (q : Result (ℕ × List ℕ) BsonFault). q >>= after_text end y) b.0 ∙ rw (b.1, b.2, b.3, z, s, l, u) refl;
          }

      by : (z s l u : Bool) → eqb n 0 ≡ z → ltb (length rest) n ≡ s → eqb (get_or rest (n - 1) 0) 0 ≡ l → is_utf8 (take (n - 1) rest) ≡ u
          → cond {A = Result (List ℕ × List ℕ) BsonFault} (z || s) (Err (BadLength (end - length x))) (cond {A = Result (List ℕ × List ℕ) BsonFault} l (cond {A = Result (List ℕ × List ℕ) BsonFault} u (Ok (take (n - 1) rest, drop n rest)) (Err (BadUtf8 (end - length rest)))) (Err (BadLength (end - length x)))) ≡ Err e
          → Stops (List ℕ × List ℕ) all end (λ y. number_at w32 end y >>= after_text end y) x e
      by true s l u tz ts tl tu p = stops_with (List ℕ × List ℕ) all end (λ y. number_at w32 end y >>= after_text end y) x (BadLength (end - length x)) e p (wrong (rw tz refl) (inl (eqb-true _ _ tz)))
      by false true l u tz ts tl tu p = stops_with (List ℕ × List ℕ) all end (λ y. number_at w32 end y >>= after_text end y) x (BadLength (end - length x)) e p (wrong (rw (tz, ts) refl) (inr (omega (arith, long, here, ltb-true _ _ ts))))
      by false false false u tz ts tl tu p = stops_with (List ℕ × List ℕ) all end (λ y. number_at w32 end y >>= after_text end y) x (BadLength (end - length x)) e p (open_one tz ts tl)
      by false false true false tz ts tl tu p = stops_with (List ℕ × List ℕ) all end (λ y. number_at w32 end y >>= after_text end y) x (BadUtf8 (end - length rest)) e p (bad_one tz ts tl tu)
      by false false true true tz ts tl tu p = absurd cc

  pub string_stops : (x : List ℕ) (e : BsonFault) → IsBytes x → EndsAt end x all → IsWithin (end - length x) end all → string_at end x ≡ Err e → Stops (List ℕ × List ℕ) all end (string_at end) x e
  unfolding string_at
  string_stops x e fits at within h = elim (bind_err (ℕ × List ℕ) (List ℕ × List ℕ) (number_at w32 end x) (after_text end x) e h) [
    | inl p ↦ first_stops (ℕ × List ℕ) (List ℕ × List ℕ) all end (number_at w32 end) (after_text end) x e (number_stops w32 x e (omega arith) at within p)
    | inr q ↦ text_stops x q.0.0 q.0.1 e fits at within q.1 q.2
  ]

  -- ---- binaries, and the lengths of documents

  pub binary_stops : (x : List ℕ) (e : BsonFault) → IsBytes x → EndsAt end x all → IsWithin (end - length x) end all → binary_at end x ≡ Err e → Stops ((ℕ × List ℕ) × List ℕ) all end (binary_at end) x e
  unfolding binary_at
  binary_stops x e fits at within h = elim (bind_err (ℕ × List ℕ) ((ℕ × List ℕ) × List ℕ) (number_at w32 end x) (after_binary end x) e h) [
    | inl p ↦ first_stops (ℕ × List ℕ) ((ℕ × List ℕ) × List ℕ) all end (number_at w32 end) (after_binary end) x e (number_stops w32 x e (omega arith) at within p)
    | inr q ↦ wrong q.0.0 q.0.1 q.1 (ltb (length q.0.1) (q.0.0 + 1)) refl q.2
  ]
    where
      wrong : (n : ℕ) (rest : List ℕ) → number_at w32 end x ≡ Ok (n, rest) → (b : Bool) → ltb (length rest) (n + 1) ≡ b
          → cond {A = Result ((ℕ × List ℕ) × List ℕ) BsonFault} b (Err (BadLength (end - length x))) (Ok ((get_or rest 0 0, take n (drop 1 rest)), drop n (drop 1 rest))) ≡ Err e
          → Stops ((ℕ × List ℕ) × List ℕ) all end (λ y. number_at w32 end y >>= after_binary end y) x e
      wrong n rest num false t p = absurd cc
      wrong n rest num true t p =
          let parts = (number_takes w32 (2 ^ 32) wide32 end x n rest fits num).0.parts in
          stops_with ((ℕ × List ℕ) × List ℕ) all end (λ y. number_at w32 end y >>= after_binary end y) x (BadLength (end - length x)) e p (record {
            found = wrong_binary (end - length x) n end;
            names = refl;
            faulty = (within, front_stands end (to_le_bytes w32 n) rest x all at parts, omega (arith, ap length parts, length-append (to_le_bytes w32 n) rest, (part_fits end x all at).0, ltb-true _ _ t));
            seen = 4;
            place = refl;
            again = λ y g. let b = number_same end 0 x y n rest fits num g in ap (λ (q : Result (ℕ × List ℕ) BsonFault). q >>= after_binary end y) b.0 ∙ rw (b.1.long, g.long, t) refl;
          })

  pub len_stops : (x : List ℕ) (e : BsonFault) → IsBytes x → EndsAt end x all → IsWithin (end - length x) end all → len_at end x ≡ Err e → Stops ℕ all end (len_at end) x e
  unfolding len_at
  len_stops x e fits at within h = elim (bind_err (ℕ × List ℕ) ℕ (number_at w32 end x) (after_len end x) e h) [
    | inl p ↦ first_stops (ℕ × List ℕ) ℕ all end (number_at w32 end) (after_len end) x e (number_stops w32 x e (omega arith) at within p)
    | inr q ↦ by q.0.0 q.0.1 q.1 (ltb q.0.0 5) (ltb (length x) q.0.0) refl refl q.2
  ]
    where
      wrong : (n : ℕ) (rest : List ℕ) → number_at w32 end x ≡ Ok (n, rest) → (ltb n 5 || ltb (length x) n) ≡ true → ((n < 5) ⊎ (end < end - length x + n)) → Stops ℕ all end (λ y. number_at w32 end y >>= after_len end y) x (BadLength (end - length x))
      wrong n rest num t why =
          let parts = (number_takes w32 (2 ^ 32) wide32 end x n rest fits num).0.parts in
          record {
            found = wrong_document (end - length x) n end;
            names = refl;
            faulty = (within, front_stands end (to_le_bytes w32 n) rest x all at parts, why);
            seen = 4;
            place = refl;
            again = λ y g. let b = number_same end 0 x y n rest fits num g in ap (λ (q : Result (ℕ × List ℕ) BsonFault). q >>= after_len end y) b.0 ∙ rw (g.long, t) refl;
          }

      by : (n : ℕ) (rest : List ℕ) → number_at w32 end x ≡ Ok (n, rest) → (s l : Bool) → ltb n 5 ≡ s → ltb (length x) n ≡ l → cond {A = Result ℕ BsonFault} (s || l) (Err (BadLength (end - length x))) (Ok n) ≡ Err e
          → Stops ℕ all end (λ y. number_at w32 end y >>= after_len end y) x e
      by n rest num true l ts tl p = stops_with ℕ all end (λ y. number_at w32 end y >>= after_len end y) x (BadLength (end - length x)) e p (wrong n rest num (rw ts refl) (inl (ltb-true _ _ ts)))
      by n rest num false true ts tl p = stops_with ℕ all end (λ y. number_at w32 end y >>= after_len end y) x (BadLength (end - length x)) e p (wrong n rest num (rw (ts, tl) refl) (inr (omega (arith, (part_fits end x all at).0, ltb-true _ _ tl))))
      by n rest num false false ts tl p = absurd cc

  -- ---- names

  pub name_stops : (due : Option ℕ) (done : Elements) (x : List ℕ) (e : BsonFault) → Counts due done → IsBehind (end - length x) done all → EndsAt end x all → IsWithin (end - length x) end all → name_at due end x ≡ Err e
      → Stops (List ℕ × List ℕ) all end (name_at due end) x e
  unfolding name_at
  name_stops due done x e counts behind at within h = by (ltb (name_len_of x) (length x)) refl h
    where
      not_due : (due : Option ℕ) → Counts due done → is_due due (first_name x) ≡ false → (first_name x) ≢ decimal (size done)
      not_due None c f is = absurd cc
      not_due (Some i) c f is =
          let same : (first_name x) ≡ decimal i = is ∙ ap decimal (sym c) in
          differ (bytes_eq (first_name x) (first_name x)) (is_itself (first_name x)) (subst (λ (d : List ℕ). bytes_eq (first_name x) d ≡ false) (sym same) f)
        where
          differ : (b : Bool) → b ≡ true → b ≡ false → ⊥
          differ b p q = cc

      -- the same (first_name x) stands in the other, before its 00
      again : (d : BsonFault) (y : List ℕ) → HasNoZero (first_name x) → x ≡ ((first_name x) ++ 0 ∷ []) ++ drop (name_len_of x + 1) x → Alike (length ((first_name x) ++ 0 ∷ [])) x y
          → ((n : ℕ) (z : List ℕ) → n ≡ length x → cond {A = Result (List ℕ × List ℕ) BsonFault} (is_utf8 (first_name x)) (cond {A = Result (List ℕ × List ℕ) BsonFault} (is_due due (first_name x)) (Ok ((first_name x), z)) (Err (BadName (end - n)))) (Err (BadUtf8 (end - n))) ≡ Err d)
          → name_at due end y ≡ Err d
      again d y good parts g stops =
          let z : List ℕ = drop (length ((first_name x) ++ 0 ∷ [])) y in
          let there : y ≡ ((first_name x) ++ 0 ∷ []) ++ z = alike_text ((first_name x) ++ 0 ∷ []) (drop (name_len_of x + 1) x) x y parts g in
          ap (name_at due end) there ∙ name_found due end (first_name x) z good ∙ stops (length (((first_name x) ++ 0 ∷ []) ++ z)) z (ap length (sym there) ∙ g.long)

      named : (u d : Bool) → is_utf8 (first_name x) ≡ u → is_due due (first_name x) ≡ d → HasNoZero (first_name x) → x ≡ ((first_name x) ++ 0 ∷ []) ++ drop (name_len_of x + 1) x
          → cond {A = Result (List ℕ × List ℕ) BsonFault} u (cond {A = Result (List ℕ × List ℕ) BsonFault} d (Ok ((first_name x), drop (name_len_of x + 1) x)) (Err (BadName (end - length x)))) (Err (BadUtf8 (end - length x))) ≡ Err e
          → Stops (List ℕ × List ℕ) all end (name_at due end) x e
      named false d tu td good parts p = stops_with (List ℕ × List ℕ) all end (name_at due end) x (BadUtf8 (end - length x)) e p (record {
        found = bad_name (end - length x) (first_name x);
        names = refl;
        faulty = (front_stands end ((first_name x) ++ 0 ∷ []) (drop (name_len_of x + 1) x) x all at parts, good, tu);
        seen = length ((first_name x) ++ 0 ∷ []);
        place = omega (arith, length-append (first_name x) (0 ∷ []));
        again = λ y g. again (BadUtf8 (end - length x)) y good parts g (λ n z is. rw (tu, is) refl);
      })
      named true false tu td good parts p = stops_with (List ℕ × List ℕ) all end (name_at due end) x (BadName (end - length x)) e p (record {
        found = other_name (end - length x) (first_name x) done;
        names = refl;
        faulty = (front_stands end ((first_name x) ++ 0 ∷ []) (drop (name_len_of x + 1) x) x all at parts, good, tu, behind, not_due due counts td);
        seen = length ((first_name x) ++ 0 ∷ []);
        place = omega (arith, length-append (first_name x) (0 ∷ []));
        again = λ y g. again (BadName (end - length x)) y good parts g (λ n z is. rw (tu, td, is) refl);
      })
      named true true tu td good parts p = absurd cc

      by : (b : Bool) → ltb (name_len_of x) (length x) ≡ b → name_to due end x (cond {A = Option ℕ} b (Some (name_len_of x)) None) ≡ Err e → Stops (List ℕ × List ℕ) all end (name_at due end) x e
      by false t p = record {
        found = open_name (end - length x) x end;
        names = same_fault (List ℕ × List ℕ) (BadLength (end - length x)) e p;
        faulty = (within, front_stands end x [] x all at (sym (append-nil x)), no_zero x (ltb-false _ _ t), omega (arith, (part_fits end x all at).0));
        seen = length x;
        place = refl;
        again = λ y g. ap (name_at due end) (alike_all x y g) ∙ h;
      }
      by true t p = let c = name_cut x (ltb-true _ _ t) in named (is_utf8 (first_name x)) (is_due due (first_name x)) refl refl c.0 c.1 p
