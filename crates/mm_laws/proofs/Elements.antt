-- Where the readers of values, elements and documents stop.
use Rattle.std.proofs.Common.{◌≡◌, ℕ, zero, suc, ◌+◌, ◌-◌, ◌^◌, ◌<◌, ◌≤◌, Bool, true, false, cond, eqb, ltb, ◌||◌, List, [], ◌∷◌, ◌++◌, length, get_or, take, drop, Option, Some, None, Result, Ok, Err, refl, sym, ap, subst, ◌∙◌, inl, inr, append_assoc, arith}
use Rattle.std.specs.Int.{w32, w64, to_le_bytes, cast_signed}
use Rattle.std.proofs.lemmas.Bool.{eqb-true}
use Rattle.std.proofs.lemmas.List.{append-nil, take_all, take_more, take-append-drop, length-append, length-take, length-drop, length-take-le, get_or-drop}
use Rattle.mm_bson.specs.declared.fault.BsonFault.{BsonFault}
use Rattle.mm_bson.specs.declared.fault.BsonFault.TheVariants.{BadLength, BadType, TooDeep}
use Rattle.mm_bson.specs.Tree.{Tree, int32, int64, string, document, array, binary, object_id, boolean, date, timestamp, Elements, no_elements, element, append}
use Rattle.mm_bson.specs.Named.{unnamed}
use Rattle.mm_bson.specs.Spelling.{type_byte, value_spelling, elements_spelling}
use Rattle.mm_bson.specs.Reading.{◌>>=◌, next_due, kind_of, kind_at, type_at, number_at, name_at, bytes_at, binary_at, boolean_at, string_at, len_at, document_at, value_at, element_at, elements_at, body, ended, nested_at, IsFramed}
use Rattle.mm_bson.specs.Faults.{Stands}
use Rattle.mm_bson.specs.Walk.{EndsAt, size}
use Rattle.mm_bson.proofs.Bytes.{IsBytes, IsBytes-take, IsBytes-drop, bind_ok, guard_ok, ok_is, wide32, number_takes, number_again}
use Rattle.mm_bson.proofs.Takes.{Reads, type_takes, name_takes, len_ok, element_takes, elements_take, nested_takes}
use Rattle.mm_bson.proofs.Again.{type_again, name_again, value_again}
use Rattle.mm_bson.proofs.Ends.{last_ends, first_ends, part_fits}
use Rattle.mm_laws.specs.Fields.{too_deep, early_end, open_end, no_type, IsWithin, IsBehind}
use Rattle.mm_laws.proofs.Alike.{Alike, alike_less, alike_drop, alike_take, alike_all, alike_text, front_stands, second_stands, failed, same_fault, bind_err, Goes, goes_from, Stops, stops_with, first_stops, then_stops}
use Rattle.mm_laws.proofs.ByKind.{Kind, OfEach, of_kind}
use Rattle.mm_laws.proofs.Leaves.{not_that, number_same, after_len, Counts, number_stops, bytes_stop, boolean_stops, string_stops, binary_stops, len_stops, name_stops}

-- ---- steps

-- a step whose value is only put together
map_stops : (A B : Type 0) (all : List ℕ) (end : ℕ) (r : List ℕ → Result A BsonFault) (g : A → B) (x : List ℕ) (e : BsonFault) → (r x >>= λ a. Ok (g a)) ≡ Err e → (r x ≡ Err e → Stops A all end r x e)
    → Stops B all end (λ y. r y >>= λ a. Ok (g a)) x e
map_stops A B all end r g x e h inner = first_stops A B all end r (λ y a. Ok (g a)) x e (inner (by (r x) h))
  where
    by : (q : Result A BsonFault) → (q >>= λ a. Ok (g a)) ≡ Err e → q ≡ Err e
    by (Ok a) p = absurd cc
    by (Err d) p = ap (failed A) (same_fault B d e p)

number_goes : (end : ℕ) (x : List ℕ) (a : ℕ × List ℕ) → IsBytes x → number_at w32 end x ≡ Ok a → Goes ℕ (number_at w32 end) x a.0 a.1
number_goes end x a fits h =
    let t = number_takes w32 (2 ^ 32) wide32 end x a.0 a.1 fits h in
    goes_from ℕ (number_at w32 end) x a.0 (to_le_bytes w32 a.0) a.1 t.0.parts (λ z. number_again w32 (2 ^ 32) wide32 end a.0 z t.1)

name_goes : (due : Option ℕ) (end : ℕ) (x : List ℕ) (a : List ℕ × List ℕ) → IsBytes x → name_at due end x ≡ Ok a → Goes (List ℕ) (name_at due end) x a.0 a.1
name_goes due end x a fits h =
    let t = name_takes due end x a fits h in
    goes_from (List ℕ) (name_at due end) x a.0 (a.0 ++ 0 ∷ []) a.1 t.takes.parts (λ z. name_again due end a.0 z t.named t.is_it)

abbrev kinds : Kind → List ℕ → Result (Kind × List ℕ) BsonFault
kinds k z = Ok (k, z)

type_goes : (start end : ℕ) (x : List ℕ) (a : Kind × List ℕ) → IsBytes x → type_at start end x ≡ Ok a → Goes Kind (type_at start end) x a.0 a.1
type_goes start end [] a fits h = absurd cc
type_goes start end (b ∷ x) a fits h =
    let g = guard_ok (eqb b 0) (BadLength start) (kind_at end b (b ∷ x) (kind_of b) >>= λ k. kinds k x) a h in
    let left : x ≡ a.1 = by (kind_of b) g.1 in
    goes_from Kind (type_at start end) (b ∷ x) a.0 (b ∷ []) a.1 (ap (λ (l : List ℕ). b ∷ l) left) (λ z. rw g.0 (again (kind_of b) z g.1))
  where
    by : (o : Option Kind) → (kind_at end b (b ∷ x) o >>= λ k. kinds k x) ≡ Ok a → x ≡ a.1
    by None p = absurd cc
    by (Some k) p = ap (λ (q : Kind × List ℕ). q.1) (ok_is (k, x) a p)

    again : (o : Option Kind) (z : List ℕ) → (kind_at end b (b ∷ x) o >>= λ k. kinds k x) ≡ Ok a → (kind_at end b (b ∷ z) o >>= λ k. kinds k z) ≡ Ok (a.0, z)
    again None z p = absurd cc
    again (Some k) z p = ap (λ (j : Kind). kinds j z) (ap (λ (q : Kind × List ℕ). q.0) (ok_is (k, x) a p))

reads_nested : (levels : ℕ) → Reads (nested_at levels) levels
reads_nested levels = record { gives = λ d at bs ds h g r. nested_takes levels d at bs ds h g r }

-- a whole element, whatever comes after it
element_goes : (levels : ℕ) (due : Option ℕ) (start end : ℕ) (x : List ℕ) (a : (List ℕ × Tree) × List ℕ) → IsBytes x → length x < 2 ^ 32 → element_at (nested_at levels) due start end x ≡ Ok a
    → Goes (List ℕ × Tree) (element_at (nested_at levels) due start end) x a.0 a.1
unfolding element_at
element_goes levels due start end x a fits small h =
    let t = element_takes (nested_at levels) levels due start end x a (reads_nested levels) fits h in
    let name : List ℕ = a.0.0 in
    let tree : Tree = a.0.1 in
    let text : List ℕ = type_byte tree ∷ ((name ++ 0 ∷ []) ++ value_spelling tree) in
    let short : length (value_spelling tree) < 2 ^ 32 = omega (arith, small, ap length t.takes.parts, length-append text a.1, length-append (name ++ 0 ∷ []) (value_spelling tree)) in
    goes_from (List ℕ × Tree) (element_at (nested_at levels) due start end) x a.0 text a.1 t.takes.parts (λ z.
    rw (append_assoc (name ++ 0 ∷ []) (value_spelling tree) z, type_again start end tree ((name ++ 0 ∷ []) ++ (value_spelling tree ++ z)), name_again due end name (value_spelling tree ++ z) t.named t.is_it, value_again tree levels end z t.value t.shallow short) refl)

-- ---- elements that were read, one more

spelling_more : (done : Elements) (name : List ℕ) (t : Tree) → elements_spelling (append done (element name t no_elements)) ≡ elements_spelling done ++ (type_byte t ∷ ((name ++ 0 ∷ []) ++ value_spelling t))
spelling_more no_elements name t = ap (λ (l : List ℕ). type_byte t ∷ ((name ++ 0 ∷ []) ++ l)) (append-nil (value_spelling t))
spelling_more (element m u es) name t =
    let text : List ℕ = type_byte t ∷ ((name ++ 0 ∷ []) ++ value_spelling t) in
    ap (λ (l : List ℕ). type_byte u ∷ ((m ++ 0 ∷ []) ++ (value_spelling u ++ l))) (spelling_more es name t)
    ∙ ap (λ (l : List ℕ). type_byte u ∷ ((m ++ 0 ∷ []) ++ l)) (sym (append_assoc (value_spelling u) (elements_spelling es) text))
    ∙ ap (λ (l : List ℕ). type_byte u ∷ l) (sym (append_assoc (m ++ 0 ∷ []) (value_spelling u ++ elements_spelling es) text))

size_more : (done : Elements) (name : List ℕ) (t : Tree) → size (append done (element name t no_elements)) ≡ size done + 1
size_more no_elements name t = refl
size_more (element m u es) name t = omega (arith, size_more es name t)

counts_more : (due : Option ℕ) (done : Elements) (name : List ℕ) (t : Tree) → Counts due done → Counts (next_due due) (append done (element name t no_elements))
counts_more None done name t h = tt
counts_more (Some i) done name t h = omega (arith, h, size_more done name t)

-- ---- documents inside

-- where one stops that begins there, whatever lies behind it
pub record Inner (levels : ℕ) (all : List ℕ) : Type 0 where
  pub stops : (due : Option ℕ) (start : ℕ) (bytes : List ℕ) (e : BsonFault) → IsBytes bytes → IsFramed bytes → Counts due no_elements → EndsAt (start + length bytes) bytes all → start + length bytes < 2 ^ 32
      → nested_at levels due start bytes ≡ Err e → (s : Stops Elements all (start + length bytes) (nested_at levels due start) bytes e) × (4 ≤ s.seen)

abbrev read_elements : Elements → List ℕ → Result (Elements × List ℕ) BsonFault
read_elements es rest = Ok (es, rest)

-- a length that is good stays so
len_same : (end : ℕ) (x y : List ℕ) (n : ℕ) → IsBytes x → len_at end x ≡ Ok n → Alike 4 x y → len_at end y ≡ Ok n
unfolding len_at
len_same end x y n fits h g =
    let b = bind_ok (number_at w32 end x) (after_len end x) n h in
    let same = number_same end 0 x y b.0.0 b.0.1 fits b.1 g in
    ap (λ (q : Result (ℕ × List ℕ) BsonFault). q >>= after_len end y) same.0 ∙ again (length y) b.0.0 g.long ∙ b.2
  where
    again : (l m : ℕ) → l ≡ length x
        → cond {A = Result ℕ BsonFault} (ltb m 5 || ltb l m) (Err (BadLength (end - l))) (Ok m) ≡ cond {A = Result ℕ BsonFault} (ltb m 5 || ltb (length x) m) (Err (BadLength (end - length x))) (Ok m)
    again l m is = ap (λ (i : ℕ). cond {A = Result ℕ BsonFault} (ltb m 5 || ltb i m) (Err (BadLength (end - i))) (Ok m)) is

document_fails : (read : ℕ → List ℕ → Result Elements BsonFault) (end : ℕ) (y : List ℕ) (n : ℕ) (e : BsonFault) → len_at end y ≡ Ok n → read (end - length y) (take n y) ≡ Err e → document_at read end y ≡ Err e
unfolding document_at
document_fails read end y n e long inside =
    let first : document_at read end y ≡ (read (end - length y) (take n y) >>= λ es. read_elements es (drop n y)) = ap (λ (q : Result ℕ BsonFault). q >>= λ m. read (end - length y) (take m y) >>= λ es. read_elements es (drop m y)) long in
    first ∙ ap (λ (q : Result Elements BsonFault). q >>= λ es. read_elements es (drop n y)) inside

-- what comes behind the first number of a timestamp
abbrev after_first : ℕ → ℕ × List ℕ → Result (Tree × List ℕ) BsonFault
after_first end i = number_at w32 end i.1 >>= λ s. Ok (timestamp s.0 i.0, s.1)

module _ (levels : ℕ) (all : List ℕ) (inner : Inner levels all) (outer len end : ℕ) (long : Stands outer (to_le_bytes w32 len) all) (ends : outer + len ≡ end + 1) (small : end < 2 ^ 32) where
  within : (at : ℕ) → outer + 4 < at → IsWithin at end all
  within at behind = record { start = outer; len = len; stands = long; behind = behind; ends = ends }

  document_stops : (due : Option ℕ) (x : List ℕ) (e : BsonFault) → Counts due no_elements → IsBytes x → EndsAt end x all → outer + 4 < end - length x → document_at (nested_at levels due) end x ≡ Err e
      → Stops (Elements × List ℕ) all end (document_at (nested_at levels due) end) x e
  unfolding document_at
  document_stops due x e counts fits at behind h = elim (bind_err ℕ (Elements × List ℕ) (len_at end x) (λ n. nested_at levels due (end - length x) (take n x) >>= λ es. Ok (es, drop n x)) e h) [
    | inl p ↦ first_stops ℕ (Elements × List ℕ) all end (len_at end) (λ y n. nested_at levels due (end - length y) (take n y) >>= λ es. Ok (es, drop n y)) x e (len_stops all end x e fits at (within (end - length x) behind) p)
    | inr q ↦ found q.0 q.1 (by (nested_at levels due (end - length x) (take q.0 x)) q.0 q.2)
  ]
    where
      by : (r : Result Elements BsonFault) (n : ℕ) → (r >>= λ es. Ok (es, drop n x)) ≡ failed (Elements × List ℕ) e → r ≡ Err e
      by (Ok es) n p = absurd cc
      by (Err d) n p = ap (failed Elements) (same_fault (Elements × List ℕ) d e p)

      found : (n : ℕ) → len_at end x ≡ Ok n → nested_at levels due (end - length x) (take n x) ≡ Err e
          → Stops (Elements × List ℕ) all end (λ y. len_at end y >>= λ m. nested_at levels due (end - length y) (take m y) >>= λ es. Ok (es, drop m y)) x e
      found n ok p =
          let framed = len_ok end x n ok in
          let fit = part_fits end x all at in
          let counted : length (take n x) ≡ n = length-take-le n x framed.1 in
          let split : EndsAt end (take n x ++ drop n x) all = subst (λ (b : List ℕ). EndsAt end b all) (sym (take-append-drop n x)) at in
          let place : end - length (drop n x) ≡ end - length x + length (take n x) = omega (arith, length-drop n x, counted, framed.1, fit.0) in
          let here : EndsAt (end - length x + length (take n x)) (take n x) all = subst (λ (i : ℕ). EndsAt i (take n x) all) place (first_ends end (take n x) (drop n x) all split) in
          let s = inner.stops due (end - length x) (take n x) e (IsBytes-take n x fits) framed.0 counts here (omega (arith, counted, framed.1, fit.0, small)) p in
          record {
            found = s.0.found;
            names = s.0.names;
            faulty = s.0.faulty;
            seen = s.0.seen;
            place = s.0.place ∙ omega (arith, counted, fit.0);
            again = λ y g.
                let len_is : len_at end y ≡ Ok n = len_same end x y n fits ok (alike_less 4 s.0.seen x y s.1 g) in
                let inside : nested_at levels due (end - length x) (take n y) ≡ Err e = s.0.again (take n y) (alike_take n s.0.seen x y g) in
                let moved : nested_at levels due (end - length y) (take n y) ≡ Err e = ap (λ (i : ℕ). nested_at levels due (end - i) (take n y)) g.long ∙ inside in
                document_fails (nested_at levels due) end y n e len_is moved;
          }

  -- ---- values

  stamps_stop : (x : List ℕ) (e : BsonFault) → IsBytes x → EndsAt end x all → outer + 4 < end - length x → (number_at w32 end x >>= after_first end) ≡ Err e → Stops (Tree × List ℕ) all end (λ y. number_at w32 end y >>= after_first end) x e
  stamps_stop x e fits at behind h = elim (bind_err (ℕ × List ℕ) (Tree × List ℕ) (number_at w32 end x) (after_first end) e h) [
    | inl p ↦ first_stops (ℕ × List ℕ) (Tree × List ℕ) all end (number_at w32 end) (λ y. after_first end) x e (number_stops all end w32 x e (omega arith) at (within (end - length x) behind) p)
    | inr q ↦ second q.0 q.1 q.2
  ]
    where
      second : (i : ℕ × List ℕ) → number_at w32 end x ≡ Ok i → after_first end i ≡ Err e → Stops (Tree × List ℕ) all end (λ y. number_at w32 end y >>= after_first end) x e
      second i ok p =
          let t = number_takes w32 (2 ^ 32) wide32 end x i.0 i.1 fits ok in
          let here : EndsAt end i.1 all = last_ends end (to_le_bytes w32 i.0) i.1 all (subst (λ (b : List ℕ). EndsAt end b all) t.0.parts at) in
          let less : outer + 4 < end - length i.1 = omega (arith, behind, ap length t.0.parts, length-append (to_le_bytes w32 i.0) i.1) in
          then_stops ℕ (Tree × List ℕ) all end (number_at w32 end) (after_first end) x i.0 i.1 e (part_fits end x all at).0 (number_goes end x i fits ok)
          (map_stops (ℕ × List ℕ) (Tree × List ℕ) all end (number_at w32 end) (λ s. (timestamp s.0 i.0, s.1)) i.1 e p (λ q. number_stops all end w32 i.1 e (omega arith) here (within (end - length i.1) less) q))

  abbrev ValueStops : Kind → Type 0
  ValueStops k = (x : List ℕ) (e : BsonFault) → IsBytes x → EndsAt end x all → outer + 4 < end - length x → value_at (nested_at levels) k end x ≡ Err e → Stops (Tree × List ℕ) all end (value_at (nested_at levels) k end) x e

  each_value : OfEach ValueStops
  unfolding value_at
  each_value = record {
    strings = λ x e fits at behind h. map_stops (List ℕ × List ℕ) (Tree × List ℕ) all end (string_at end) (λ s. (string s.0, s.1)) x e h (λ p. string_stops all end x e fits at (within (end - length x) behind) p);
    documents = λ x e fits at behind h. map_stops (Elements × List ℕ) (Tree × List ℕ) all end (document_at (nested_at levels None) end) (λ d. (document d.0, d.1)) x e h (λ p. document_stops None x e tt fits at behind p);
    arrays = λ x e fits at behind h. map_stops (Elements × List ℕ) (Tree × List ℕ) all end (document_at (nested_at levels (Some 0)) end) (λ d. (array (unnamed d.0), d.1)) x e h (λ p. document_stops (Some 0) x e refl fits at behind p);
    binaries = λ x e fits at behind h. map_stops ((ℕ × List ℕ) × List ℕ) (Tree × List ℕ) all end (binary_at end) (λ b. (binary b.0.0 b.0.1, b.1)) x e h (λ p. binary_stops all end x e fits at (within (end - length x) behind) p);
    ids = λ x e fits at behind h. map_stops (List ℕ × List ℕ) (Tree × List ℕ) all end (bytes_at 12 end) (λ b. (object_id b.0, b.1)) x e h (λ p. bytes_stop all end 12 x e (omega arith) at (within (end - length x) behind) p);
    booleans = λ x e fits at behind h. map_stops (Bool × List ℕ) (Tree × List ℕ) all end (boolean_at end) (λ b. (boolean b.0, b.1)) x e h (λ p. boolean_stops all end x e at (within (end - length x) behind) p);
    dates = λ x e fits at behind h. map_stops (ℕ × List ℕ) (Tree × List ℕ) all end (number_at w64 end) (λ n. (date (cast_signed w64 n.0), n.1)) x e h (λ p. number_stops all end w64 x e (omega arith) at (within (end - length x) behind) p);
    nulls = λ x e fits at behind h. absurd cc;
    ints = λ x e fits at behind h. map_stops (ℕ × List ℕ) (Tree × List ℕ) all end (number_at w32 end) (λ n. (int32 (cast_signed w32 n.0), n.1)) x e h (λ p. number_stops all end w32 x e (omega arith) at (within (end - length x) behind) p);
    timestamps = λ x e fits at behind h. stamps_stop x e fits at behind h;
    longs = λ x e fits at behind h. map_stops (ℕ × List ℕ) (Tree × List ℕ) all end (number_at w64 end) (λ n. (int64 (cast_signed w64 n.0), n.1)) x e h (λ p. number_stops all end w64 x e (omega arith) at (within (end - length x) behind) p);
    lasts = λ x e fits at behind h. absurd cc;
    firsts = λ x e fits at behind h. absurd cc;
  }

  value_stops : (b : ℕ) (k : Kind) → kind_of b ≡ Some k → ValueStops k
  value_stops b k is = of_kind ValueStops b k is each_value

  -- ---- elements: these are done

  type_stops : (done : Elements) (b : ℕ) (x : List ℕ) (e : BsonFault) → EndsAt end (elements_spelling done ++ (b ∷ x)) all → outer + 4 + length (elements_spelling done ++ (b ∷ x)) ≡ end → type_at outer end (b ∷ x) ≡ Err e
      → Stops (Kind × List ℕ) all end (type_at outer end) (b ∷ x) e
  type_stops done b x e at sum h = by (eqb b 0) refl h
    where
      here : end - length (b ∷ x) ≡ outer + 4 + length (elements_spelling done)
      here = omega (arith, sum, length-append (elements_spelling done) (b ∷ x))

      there : EndsAt end (b ∷ x) all
      there = last_ends end (elements_spelling done) (b ∷ x) all at

      read : (y : List ℕ) → Alike 1 (b ∷ x) y → y ≡ b ∷ drop 1 y
      read y g = alike_text (b ∷ []) x (b ∷ x) y refl g

      -- no byte of a type
      none : (o : Option Kind) (n : ℕ) (z : List ℕ) → o ≡ None → kind_at end b (b ∷ z) o ≡ failed Kind (BadType (end - length (b ∷ z)) b)
      none None n z is = refl
      none (Some k) n z is = absurd cc

      wrong : (o : Option Kind) → kind_of b ≡ o → eqb b 0 ≡ false → (kind_at end b (b ∷ x) o >>= λ k. kinds k x) ≡ Err e → Stops (Kind × List ℕ) all end (type_at outer end) (b ∷ x) e
      wrong (Some k) is t p = absurd cc
      wrong None is t p = stops_with (Kind × List ℕ) all end (type_at outer end) (b ∷ x) (BadType (end - length (b ∷ x)) b) e p (record {
        found = no_type (end - length (b ∷ x)) b;
        names = refl;
        faulty = (front_stands end (b ∷ []) x (b ∷ x) all there refl, not_that b 0 t, is);
        seen = 1;
        place = refl;
        again = λ y g.
            let fails = ap (λ (q : Result Kind BsonFault). q >>= λ k. kinds k (drop 1 y)) (none (kind_of b) 0 (drop 1 y) is) in
            let same : failed (Kind × List ℕ) (BadType (end - length (b ∷ drop 1 y)) b) ≡ failed (Kind × List ℕ) (BadType (end - length (b ∷ x)) b) = ap (λ (i : ℕ). failed (Kind × List ℕ) (BadType (end - i) b)) (sym (ap length (read y g)) ∙ g.long) in
            ap (type_at outer end) (read y g) ∙ rw t (fails ∙ same);
      })

      by : (t : Bool) → eqb b 0 ≡ t → cond {A = Result (Kind × List ℕ) BsonFault} t (Err (BadLength outer)) (kind_at end b (b ∷ x) (kind_of b) >>= λ k. kinds k x) ≡ Err e → Stops (Kind × List ℕ) all end (type_at outer end) (b ∷ x) e
      by true t p =
          let text : List ℕ = elements_spelling done ++ b ∷ [] in
          let parts : elements_spelling done ++ (b ∷ x) ≡ text ++ x = sym (append_assoc (elements_spelling done) (b ∷ []) x) in
          let start : end - length (elements_spelling done ++ (b ∷ x)) ≡ outer + 4 = omega (arith, sum) in
          let stands : Stands (outer + 4) text all = subst (λ (i : ℕ). Stands i text all) start (front_stands end text x (elements_spelling done ++ (b ∷ x)) all at parts) in
          stops_with (Kind × List ℕ) all end (type_at outer end) (b ∷ x) (BadLength outer) e p (record {
            found = early_end outer len done;
            names = refl;
            faulty = (long, subst (λ (c : ℕ). Stands (outer + 4) (elements_spelling done ++ c ∷ []) all) (eqb-true _ _ t) stands, omega (arith, ends, sum, length-append (elements_spelling done) (b ∷ x)));
            seen = 1;
            place = omega (arith, here);
            again = λ y g. ap (type_at outer end) (read y g) ∙ rw t refl;
          })
      by false t p = wrong (kind_of b) refl t p

  element_stops : (due : Option ℕ) (done : Elements) (b : ℕ) (x : List ℕ) (e : BsonFault) → Counts due done → IsBytes (b ∷ x) → EndsAt end (elements_spelling done ++ (b ∷ x)) all → outer + 4 + length (elements_spelling done ++ (b ∷ x)) ≡ end
      → element_at (nested_at levels) due outer end (b ∷ x) ≡ Err e → Stops ((List ℕ × Tree) × List ℕ) all end (element_at (nested_at levels) due outer end) (b ∷ x) e
  unfolding element_at
  element_stops due done b x e counts fits at sum h = elim (bind_err (Kind × List ℕ) ((List ℕ × Tree) × List ℕ) (type_at outer end (b ∷ x)) after_type e h) [
    | inl p ↦ first_stops (Kind × List ℕ) ((List ℕ × Tree) × List ℕ) all end (type_at outer end) (λ y. after_type) (b ∷ x) e (type_stops done b x e at sum p)
    | inr q ↦ typed q.0 q.1 q.2
  ]
    where
      after_name : Kind → List ℕ × List ℕ → Result ((List ℕ × Tree) × List ℕ) BsonFault
      after_name k name = value_at (nested_at levels) k end name.1 >>= λ value. Ok ((name.0, value.0), value.1)

      after_type : Kind × List ℕ → Result ((List ℕ × Tree) × List ℕ) BsonFault
      after_type k = name_at due end k.1 >>= after_name k.0

      named : (k : Kind) (byte : ℕ) → kind_of byte ≡ Some k → (z : List ℕ) → IsBytes z → EndsAt end z all → outer + 4 < end - length z → (name : List ℕ × List ℕ) → name_at due end z ≡ Ok name → after_name k name ≡ Err e
          → Stops ((List ℕ × Tree) × List ℕ) all end (λ y. name_at due end y >>= after_name k) z e
      named k byte is z good here less name ok p =
          let second = name_takes due end z name good ok in
          let there : EndsAt end name.1 all = last_ends end (name.0 ++ 0 ∷ []) name.1 all (subst (λ (l : List ℕ). EndsAt end l all) second.takes.parts here) in
          let more : outer + 4 < end - length name.1 = omega (arith, less, ap length second.takes.parts, length-append (name.0 ++ 0 ∷ []) name.1) in
          then_stops (List ℕ) ((List ℕ × Tree) × List ℕ) all end (name_at due end) (after_name k) z name.0 name.1 e (part_fits end z all here).0 (name_goes due end z name good ok)
          (map_stops (Tree × List ℕ) ((List ℕ × Tree) × List ℕ) all end (value_at (nested_at levels) k end) (λ value. ((name.0, value.0), value.1)) name.1 e p (λ q. value_stops byte k is name.1 e second.takes.rest_fits there more q))

      typed : (k : Kind × List ℕ) → type_at outer end (b ∷ x) ≡ Ok k → after_type k ≡ Err e → Stops ((List ℕ × Tree) × List ℕ) all end (λ y. type_at outer end y >>= after_type) (b ∷ x) e
      typed k ok p =
          let first = type_takes outer end (b ∷ x) k fits ok in
          let there : EndsAt end (b ∷ x) all = last_ends end (elements_spelling done) (b ∷ x) all at in
          let here : EndsAt end k.1 all = last_ends end (first.0 ∷ []) k.1 all (subst (λ (l : List ℕ). EndsAt end l all) first.1.parts there) in
          let size_of : length (b ∷ x) ≡ 1 + length k.1 = omega (arith, ap length first.1.parts, length-append (first.0 ∷ []) k.1) in
          let place : end - length k.1 ≡ outer + 4 + length (elements_spelling done) + 1 = omega (arith, sum, size_of, length-append (elements_spelling done) (b ∷ x)) in
          let start : end - length (elements_spelling done ++ (b ∷ x)) ≡ outer + 4 = omega (arith, sum) in
          let before : Stands (outer + 4) (elements_spelling done) all = subst (λ (i : ℕ). Stands i (elements_spelling done) all) start (front_stands end (elements_spelling done) (b ∷ x) (elements_spelling done ++ (b ∷ x)) all at refl) in
          let behind : IsBehind (end - length k.1) done all = record { start = outer; stands = before; place = place } in
          let less : outer + 4 < end - length k.1 = omega (arith, place) in
          then_stops Kind ((List ℕ × Tree) × List ℕ) all end (type_at outer end) after_type (b ∷ x) k.0 k.1 e (part_fits end (b ∷ x) all there).0 (type_goes outer end (b ∷ x) k fits ok)
          (elim (bind_err (List ℕ × List ℕ) ((List ℕ × Tree) × List ℕ) (name_at due end k.1) (after_name k.0) e p) [
            | inl q ↦ first_stops (List ℕ × List ℕ) ((List ℕ × Tree) × List ℕ) all end (name_at due end) (λ y. after_name k.0) k.1 e (name_stops all end due done k.1 e counts behind here (within (end - length k.1) less) q)
            | inr q ↦ named k.0 first.0 first.2 k.1 first.1.rest_fits here less q.0 q.1 q.2
          ])

  abbrev after_element : Option ℕ → ℕ → (List ℕ × Tree) × List ℕ → Result Elements BsonFault
  after_element due most a = elements_at (nested_at levels) (next_due due) outer end most a.1 >>= λ es. Ok (element a.0.0 a.0.1 es)

  -- reading one element more, of bytes that aren't at their end
  elements_step : (due : Option ℕ) (most : ℕ) (y : List ℕ) → 0 < length y → elements_at (nested_at levels) due outer end (suc most) y ≡ (element_at (nested_at levels) due outer end y >>= after_element due most)
  unfolding elements_at
  elements_step due most [] h = absurd (omega (arith, h))
  elements_step due most (c ∷ y) h = refl

  abbrev ElementsStop : ℕ → Type 0
  ElementsStop most = (due : Option ℕ) (done : Elements) (x : List ℕ) (e : BsonFault) → Counts due done → IsBytes x → length x ≤ most → EndsAt end (elements_spelling done ++ x) all → outer + 4 + length (elements_spelling done ++ x) ≡ end
      → elements_at (nested_at levels) due outer end most x ≡ Err e → Stops Elements all end (elements_at (nested_at levels) due outer end most) x e

  elements_more : (due : Option ℕ) (most : ℕ) (done : Elements) (b : ℕ) (x : List ℕ) (e : BsonFault) → ElementsStop most → Counts due done → IsBytes (b ∷ x) → length (b ∷ x) ≤ suc most → EndsAt end (elements_spelling done ++ (b ∷ x)) all
      → outer + 4 + length (elements_spelling done ++ (b ∷ x)) ≡ end → (a : (List ℕ × Tree) × List ℕ) → element_at (nested_at levels) due outer end (b ∷ x) ≡ Ok a → after_element due most a ≡ Err e
      → Stops Elements all end (λ y. element_at (nested_at levels) due outer end y >>= after_element due most) (b ∷ x) e
  elements_more due most done b x e others counts fits few at sum a ok p =
      let there : EndsAt end (b ∷ x) all = last_ends end (elements_spelling done) (b ∷ x) all at in
      let fit = (part_fits end (b ∷ x) all there).0 in
      let first = element_takes (nested_at levels) levels due outer end (b ∷ x) a (reads_nested levels) fits ok in
      let text : List ℕ = type_byte a.0.1 ∷ ((a.0.0 ++ 0 ∷ []) ++ value_spelling a.0.1) in
      let now : Elements = append done (element a.0.0 a.0.1 no_elements) in
      let parts : elements_spelling done ++ (b ∷ x) ≡ elements_spelling now ++ a.1 =
      ap (λ (l : List ℕ). elements_spelling done ++ l) first.takes.parts ∙ sym (append_assoc (elements_spelling done) text a.1) ∙ ap (λ (l : List ℕ). l ++ a.1) (sym (spelling_more done a.0.0 a.0.1)) in
      let left : length a.1 < length (b ∷ x) = omega (arith, ap length first.takes.parts, length-append text a.1) in
      then_stops (List ℕ × Tree) Elements all end (element_at (nested_at levels) due outer end) (after_element due most) (b ∷ x) a.0 a.1 e fit (element_goes levels due outer end (b ∷ x) a fits (omega (arith, fit, small)) ok)
      (map_stops Elements Elements all end (elements_at (nested_at levels) (next_due due) outer end most) (λ es. element a.0.0 a.0.1 es) a.1 e p
      (λ q. others (next_due due) now a.1 e (counts_more due done a.0.0 a.0.1 counts) first.takes.rest_fits (omega (arith, left, few)) (subst (λ (l : List ℕ). EndsAt end l all) parts at) (omega (arith, sum, ap length parts)) q))

  stepped : (due : Option ℕ) (most b : ℕ) (x : List ℕ) (e : BsonFault) → Stops Elements all end (λ y. element_at (nested_at levels) due outer end y >>= after_element due most) (b ∷ x) e
      → Stops Elements all end (elements_at (nested_at levels) due outer end (suc most)) (b ∷ x) e
  stepped due most b x e s = record { found = s.found; names = s.names; faulty = s.faulty; seen = s.seen; place = s.place; again = λ y g. elements_step due most y (omega (arith, g.long)) ∙ s.again y g }

  elements_stop : (most : ℕ) → ElementsStop most
  unfolding elements_at
  elements_stop most due done [] e counts fits few at sum h = absurd cc
  elements_stop zero due done (b ∷ x) e counts fits few at sum h = absurd (omega arith)
  elements_stop (suc most) due done (b ∷ x) e counts fits few at sum h = stepped due most b x e (elim (bind_err ((List ℕ × Tree) × List ℕ) Elements (element_at (nested_at levels) due outer end (b ∷ x)) (after_element due most) e h) [
    | inl p ↦ first_stops ((List ℕ × Tree) × List ℕ) Elements all end (element_at (nested_at levels) due outer end) (λ y. after_element due most) (b ∷ x) e (element_stops due done b x e counts fits at sum p)
    | inr q ↦ elements_more due most done b x e (λ d es z f c g l a m r. elements_stop most d es z f c g l a m r) counts fits few at sum q.0 q.1 q.2
  ])

-- ---- documents

length_stands : (start : ℕ) (bytes all : List ℕ) → EndsAt (start + length bytes) bytes all → IsBytes bytes → IsFramed bytes → Stands start (to_le_bytes w32 (length bytes)) all
length_stands start bytes all h fits f =
    let here : start + length bytes - length bytes ≡ start = omega arith in
    let four : length (take 4 bytes) ≡ 4 = length-take-le 4 bytes (omega (arith, f.long)) in
    let counted : take 4 bytes ≡ to_le_bytes w32 (length bytes) = sym (wide32.back (take 4 bytes) four (IsBytes-take 4 bytes fits)) ∙ ap (to_le_bytes w32) f.counted in
    let parts : bytes ≡ to_le_bytes w32 (length bytes) ++ drop 4 bytes = sym (take-append-drop 4 bytes) ∙ ap (λ (l : List ℕ). l ++ drop 4 bytes) counted in
    subst (λ (at : ℕ). Stands at (to_le_bytes w32 (length bytes)) all) here (front_stands (start + length bytes) (to_le_bytes w32 (length bytes)) (drop 4 bytes) bytes all h parts)

-- how many bytes lie between a document's length and its last byte
body_len : (bytes : List ℕ) → 5 ≤ length bytes → length (body bytes) + 5 ≡ length bytes
body_len bytes long = omega (arith, long, length-take (length bytes - 1 - 4) (drop 4 bytes), length-drop 4 bytes)

-- its length, what lies between, and its last byte
parted : (bytes : List ℕ) → 5 ≤ length bytes → bytes ≡ take 4 bytes ++ ((body bytes ++ get_or bytes (length bytes - 1) 0 ∷ []) ++ [])
parted bytes long =
    let tail : List ℕ = drop 4 bytes in
    let k : ℕ = length bytes - 1 - 4 in
    let tail_len : length tail ≡ k + 1 = omega (arith, length-drop 4 bytes, long) in
    let last : get_or tail k 0 ≡ get_or bytes (length bytes - 1) 0 = rw get_or-drop (ap (λ (i : ℕ). get_or bytes i 0) (omega (arith, long))) in
    let cut : tail ≡ body bytes ++ get_or bytes (length bytes - 1) 0 ∷ [] = sym (take_all (k + 1) tail (omega (arith, tail_len))) ∙ take_more tail k 0 (omega (arith, tail_len)) ∙ ap (λ (c : ℕ). take k tail ++ c ∷ []) last in
    sym (take-append-drop 4 bytes) ∙ ap (λ (l : List ℕ). take 4 bytes ++ l) (cut ∙ sym (append-nil (body bytes ++ get_or bytes (length bytes - 1) 0 ∷ [])))

body_alike : (m : ℕ) (x y : List ℕ) → Alike (4 + m) x y → Alike m (body x) (body y)
body_alike m x y g =
    subst (λ (k : ℕ). Alike m (body x) (take (k - 1 - 4) (drop 4 y))) (sym g.long) (alike_take (length x - 1 - 4) m (drop 4 x) (drop 4 y) (alike_drop 4 m x y g))

body_ends : (start : ℕ) (bytes all : List ℕ) → IsFramed bytes → EndsAt (start + length bytes) bytes all → EndsAt (start + (length bytes - 1)) (body bytes) all
body_ends start bytes all f at =
    let last : List ℕ = get_or bytes (length bytes - 1) 0 ∷ [] in
    let opened : bytes ≡ take 4 bytes ++ (body bytes ++ last) = parted bytes f.long ∙ ap (λ (l : List ℕ). take 4 bytes ++ l) (append-nil (body bytes ++ last)) in
    let behind : EndsAt (start + length bytes) (body bytes ++ last) all = last_ends (start + length bytes) (take 4 bytes) (body bytes ++ last) all (subst (λ (b : List ℕ). EndsAt (start + length bytes) b all) opened at) in
    let place : start + length bytes - 1 ≡ start + (length bytes - 1) = omega (arith, f.long) in
    subst (λ (i : ℕ). EndsAt i (body bytes) all) place (first_ends (start + length bytes) (body bytes) last all behind)

-- what is read of a document before its last byte is looked at
abbrev inside : ℕ → Option ℕ → ℕ → ℕ → ℕ → List ℕ → Result Elements BsonFault
inside levels due start n most b = elements_at (nested_at levels) due start (start + (n - 1)) most b

module _ (all : List ℕ) (levels : ℕ) (due : Option ℕ) (start : ℕ) (bytes : List ℕ) (fits : IsBytes bytes) (f : IsFramed bytes) (at : EndsAt (start + length bytes) bytes all) where
  -- a fault before the last byte
  body_stops : (e : BsonFault) → Stops Elements all (start + (length bytes - 1)) (inside levels due start (length bytes) (length (body bytes))) (body bytes) e
      → (s : Stops Elements all (start + length bytes) (nested_at (suc levels) due start) bytes e) × (4 ≤ s.seen)
  unfolding nested_at
  body_stops e s = (
    record {
      found = s.found;
      names = s.names;
      faulty = s.faulty;
      seen = 4 + s.seen;
      place = s.place ∙ omega (arith, body_len bytes f.long, f.long);
      again = λ y g.
          let same : Alike s.seen (body bytes) (body y) = body_alike s.seen bytes y g in
          let one : inside levels due start (length y) (length (body y)) (body y) ≡ inside levels due start (length bytes) (length (body y)) (body y) = ap (λ (n : ℕ). inside levels due start n (length (body y)) (body y)) g.long in
          let two : inside levels due start (length bytes) (length (body y)) (body y) ≡ inside levels due start (length bytes) (length (body bytes)) (body y) = ap (λ (m : ℕ). inside levels due start (length bytes) m (body y)) same.long in
          ap (λ (q : Result Elements BsonFault). q >>= ended start y) (one ∙ two ∙ s.again (body y) same);
    },
    omega arith,
  )

  -- another byte than 00 at the end
  last_stops : (es : Elements) (e : BsonFault) → body bytes ≡ elements_spelling es → ended start bytes es ≡ Err e → nested_at (suc levels) due start bytes ≡ Err e
      → (s : Stops Elements all (start + length bytes) (nested_at (suc levels) due start) bytes e) × (4 ≤ s.seen)
  last_stops es e spelled h whole = by (eqb (get_or bytes (length bytes - 1) 0) 0) refl h
    where
      counted : length (elements_spelling es) + 5 ≡ length bytes
      counted = omega (arith, ap length spelled, body_len bytes f.long)

      stands : Stands (start + 4) (elements_spelling es ++ get_or bytes (length bytes - 1) 0 ∷ []) all
      stands =
          let four : length (take 4 bytes) ≡ 4 = length-take-le 4 bytes (omega (arith, f.long)) in
          let place : start + length bytes - length bytes + length (take 4 bytes) ≡ start + 4 = omega (arith, four) in
          let there = second_stands (start + length bytes) (take 4 bytes) (body bytes ++ get_or bytes (length bytes - 1) 0 ∷ []) [] bytes all at (parted bytes f.long) in
          subst (λ (l : List ℕ). Stands (start + 4) (l ++ get_or bytes (length bytes - 1) 0 ∷ []) all) spelled (subst (λ (i : ℕ). Stands i (body bytes ++ get_or bytes (length bytes - 1) 0 ∷ []) all) place there)

      by : (t : Bool) → eqb (get_or bytes (length bytes - 1) 0) 0 ≡ t → cond {A = Result Elements BsonFault} t (Ok es) (Err (BadLength start)) ≡ Err e
          → (s : Stops Elements all (start + length bytes) (nested_at (suc levels) due start) bytes e) × (4 ≤ s.seen)
      by true t p = absurd cc
      by false t p = (
        record {
          found = open_end start es (get_or bytes (length bytes - 1) 0);
          names = same_fault Elements (BadLength start) e p;
          faulty = (subst (λ (n : ℕ). Stands start (to_le_bytes w32 n) all) (sym counted) (length_stands start bytes all at fits f), stands, not_that (get_or bytes (length bytes - 1) 0) 0 t);
          seen = length bytes;
          place = omega (arith, counted);
          again = λ y g. ap (nested_at (suc levels) due start) (alike_all bytes y g) ∙ whole;
        },
        omega (arith, f.long),
      )

pub nested_stops : (levels : ℕ) (all : List ℕ) → Inner levels all
unfolding nested_at
nested_stops zero all = record {
  stops = λ due start bytes e fits f counts at small h. (
    record {
      found = too_deep start (length bytes);
      names = same_fault Elements (TooDeep start) e h;
      faulty = length_stands start bytes all at fits f;
      seen = 4;
      place = omega arith;
      again = λ y g. h;
    },
    omega arith,
  );
}
nested_stops (suc levels) all = record {
  stops = λ due start bytes e fits f counts at small h.
      let end : ℕ = start + (length bytes - 1) in
      let ends : start + length bytes ≡ end + 1 = omega (arith, f.long) in
      let within = body_len bytes f.long in
      let good : IsBytes (body bytes) = IsBytes-take (length bytes - 1 - 4) (drop 4 bytes) (IsBytes-drop 4 bytes fits) in
      elim (bind_err Elements Elements (inside levels due start (length bytes) (length (body bytes)) (body bytes)) (ended start bytes) e h) [
        | inl p ↦ body_stops all levels due start bytes fits f at e
            (elements_stop levels all (nested_stops levels all) start (length bytes) end (length_stands start bytes all at fits f) ends (omega (arith, small)) (length (body bytes)) due no_elements (body bytes) e counts good (omega arith)
            (body_ends start bytes all f at) (omega (arith, within)) p)
        | inr q ↦ last_stops all levels due start bytes fits f at q.0 e (elements_take (nested_at levels) levels due start end (length (body bytes)) (body bytes) q.0 (reads_nested levels) good q.1).spelled q.2 h
      ];
}
