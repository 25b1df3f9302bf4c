-- What stands where a fault is.
use Rattle.std.proofs.Common.{◌≡◌, ℕ, zero, suc, ◌+◌, ◌-◌, ◌<◌, ◌≤◌, Bool, true, false, cond, eqb, ltb, ◌||◌, List, [], ◌∷◌, ◌++◌, length, get_or, take, drop, Option, Some, None, Result, Ok, Err, refl, sym, ap, subst, ◌∙◌, arith}
use Rattle.std.specs.Prelude.{position}
use Rattle.std.specs.Int.{Width, w32, w64, byte_len, from_le_bytes, to_le_bytes, cast_signed}
use Rattle.std.specs.Str.{is_utf8}
use Rattle.std.proofs.lemmas.Bool.{ltb-true, ltb-false}
use Rattle.std.proofs.lemmas.List.{take-take, take_all, take-append-drop, length-append, length-take, length-take-le, length-drop}
use Rattle.mm_bson.specs.declared.fault.BsonFault.{BsonFault}
use Rattle.mm_bson.specs.declared.fault.BsonFault.TheVariants.{BadLength, BadType, BadUtf8, BadName, TooDeep, TooLong, NoMemory}
use Rattle.mm_bson.specs.declared.kind.Kind.{Kind}
use Rattle.mm_bson.specs.declared.kind.Kind.TheVariants as kind
use Rattle.mm_bson.specs.Tree.{int32, int64, string, document, array, binary, object_id, boolean, date, timestamp, Elements, element}
use Rattle.mm_bson.specs.Named.{unnamed}
use Rattle.mm_bson.specs.Spelling.{type_byte, value_spelling}
use Rattle.mm_bson.specs.Reading.{◌>>=◌, Reader, is_due, next_due, kind_of, kind_at, type_at, number_at, name_to, name_at, text_to, bytes_at, binary_at, boolean_at, string_at, len_at, document_at, value_at, element_at, elements_at, body, ended, nested_at, IsFramed, whole}
use Rattle.mm_bson.specs.Faults.{Stands, IsInside, IsDown, IsShown}
use Rattle.mm_bson.specs.Walk.{EndsAt}
use Rattle.mm_bson.proofs.Bytes.{IsBytes, IsBytes-take, IsBytes-drop, wide32}
use Rattle.mm_bson.proofs.Takes.{Reads, type_takes, name_takes, or_false, number_ok, len_ok, element_takes, nested_takes}
use Rattle.mm_bson.proofs.Ends.{whole_ends, end_is, last_ends, first_ends, part_is}

abbrev failed : {A : Type 0} → BsonFault → Result A BsonFault
failed e = Err e

same_fault : {A : Type 0} (d e : BsonFault) → failed {A = A} d ≡ Err e → d ≡ e
same_fault d e h = cc

-- ---- where bytes lie

ends_drop : (end k : ℕ) (bytes all : List ℕ) → EndsAt end bytes all → EndsAt end (drop k bytes) all
ends_drop end k bytes all h = last_ends end (take k bytes) (drop k bytes) all (subst (λ (b : List ℕ). EndsAt end b all) (sym (take-append-drop k bytes)) h)

-- what begins at their first byte
stands : (end n : ℕ) (bytes all : List ℕ) → EndsAt end bytes all → n ≤ length bytes → take n (drop (end - length bytes) all) ≡ take n bytes
stands end n bytes all h few = sym (take-take n (length bytes) (drop (end - length bytes) all) few) ∙ ap (take n) (part_is end bytes all h)

text_stands : (end n : ℕ) (bytes all : List ℕ) → EndsAt end bytes all → n ≤ length bytes → Stands (end - length bytes) (take n bytes) all
text_stands end n bytes all h few = ap (λ (i : ℕ). take i (drop (end - length bytes) all)) (length-take-le n bytes few) ∙ stands end n bytes all h few

-- a length that a document begins with
length_stands : (start : ℕ) (bytes all : List ℕ) → EndsAt (start + length bytes) bytes all → IsBytes bytes → IsFramed bytes → Stands start (to_le_bytes w32 (length bytes)) all
length_stands start bytes all h fits f =
    let here : start + length bytes - length bytes ≡ start = omega arith in
    let four : length (take 4 bytes) ≡ 4 = length-take-le 4 bytes (omega (arith, f.long)) in
    let counted : take 4 bytes ≡ to_le_bytes w32 (length bytes) = sym (wide32.back (take 4 bytes) four (IsBytes-take 4 bytes fits)) ∙ ap (to_le_bytes w32) f.counted in
    subst (λ (t : List ℕ). Stands start t all) counted (subst (λ (at : ℕ). Stands at (take 4 bytes) all) here (text_stands (start + length bytes) 4 bytes all h (omega (arith, f.long))))

module _ (all : List ℕ) (end : ℕ) where
  known : {A : Type 0} (d e : BsonFault) → failed {A = A} d ≡ Err e → IsShown all d → IsShown all e
  known {A} d e h shown = subst (IsShown all) (same_fault {A = A} d e h) shown

  shown_bind : {A B : Type 0} (r : Result A BsonFault) (f : A → Result B BsonFault) (e : BsonFault) → (r >>= f) ≡ Err e → (r ≡ Err e → IsShown all e) → ((x : A) → r ≡ Ok x → f x ≡ Err e → IsShown all e) → IsShown all e
  shown_bind (Ok x) f e h first then = then x refl h
  shown_bind {A} {B} (Err d) f e h first then = first (ap (λ (x : BsonFault). failed {A = A} x) (same_fault {A = B} d e h))

  shown_map : {A B : Type 0} (r : Result A BsonFault) (g : A → B) (e : BsonFault) → (r >>= λ x. Ok (g x)) ≡ Err e → (r ≡ Err e → IsShown all e) → IsShown all e
  shown_map r g e h first = shown_bind r (λ x. Ok (g x)) e h first (λ x ok no. absurd cc)

  shown_guard : {A : Type 0} (b : Bool) (d : BsonFault) (r : Result A BsonFault) (e : BsonFault) → cond b (Err d) r ≡ Err e → IsShown all d → (b ≡ false → r ≡ Err e → IsShown all e) → IsShown all e
  shown_guard {A} true d r e h shown then = known {A = A} d e h shown
  shown_guard false d r e h shown then = then refl h

  shown_passed : {A : Type 0} (b : Bool) (d : BsonFault) (r : Result A BsonFault) (e : BsonFault) → cond b r (Err d) ≡ Err e → (b ≡ false → IsShown all d) → (b ≡ true → r ≡ Err e → IsShown all e) → IsShown all e
  shown_passed true d r e h shown then = then refl h
  shown_passed {A} false d r e h shown then = known {A = A} d e h (shown refl)

  number_shown : (w : Width) (bytes : List ℕ) (e : BsonFault) → number_at w end bytes ≡ Err e → IsShown all e
  number_shown w bytes e h = shown_guard (ltb (length bytes) (byte_len w)) (BadLength (end - length bytes)) (Ok (from_le_bytes w (take (byte_len w) bytes), drop (byte_len w) bytes)) e h tt (λ t no. absurd cc)

  -- what is left after a number
  number_ends : (w : Width) (bytes : List ℕ) (x : ℕ × List ℕ) → number_at w end bytes ≡ Ok x → EndsAt end bytes all → EndsAt end x.1 all
  number_ends w bytes x h at = by (ltb (length bytes) (byte_len w)) h
    where
      by : (b : Bool) → cond b (Err (BadLength (end - length bytes))) (Ok (from_le_bytes w (take (byte_len w) bytes), drop (byte_len w) bytes)) ≡ Ok x → EndsAt end x.1 all
      by true e = absurd cc
      by false e =
          let rest : drop (byte_len w) bytes ≡ x.1 = cc in
          subst (λ (b : List ℕ). EndsAt end b all) rest (ends_drop end (byte_len w) bytes all at)

  boolean_shown : (bytes : List ℕ) (e : BsonFault) → boolean_at end bytes ≡ Err e → EndsAt end bytes all → IsShown all e
  unfolding boolean_at
  boolean_shown [] e h at = known {A = Bool × List ℕ} (BadLength (end - 0)) e h tt
  boolean_shown (b ∷ bytes) e h at = by (eqb b 0) (eqb b 1) h
    where
      by : (p q : Bool) → cond {A = Result (Bool × List ℕ) BsonFault} p (Ok (false, bytes)) (cond {A = Result (Bool × List ℕ) BsonFault} q (Ok (true, bytes)) (Err (BadType (end - length (b ∷ bytes)) b))) ≡ Err e → IsShown all e
      by true q wrong = absurd cc
      by false true wrong = absurd cc
      by false false found = known {A = Bool × List ℕ} (BadType (end - length (b ∷ bytes)) b) e found (stands end 1 (b ∷ bytes) all at (omega arith))

  string_shown : (bytes : List ℕ) (e : BsonFault) → string_at end bytes ≡ Err e → EndsAt end bytes all → IsShown all e
  unfolding string_at
  string_shown bytes e h at =
      let bad : BsonFault = BadLength (end - length bytes) in
      shown_bind (number_at w32 end bytes) (λ n. cond (eqb n.0 0 || ltb (length n.1) n.0) (Err bad) (cond (eqb (get_or n.1 (n.0 - 1) 0) 0) (text_to end n.1 n.0) (Err bad))) e h
      (λ p. number_shown w32 bytes e p)
      (λ n ok p. shown_guard (eqb n.0 0 || ltb (length n.1) n.0) bad (cond (eqb (get_or n.1 (n.0 - 1) 0) 0) (text_to end n.1 n.0) (Err bad)) e p tt
      (λ t q. shown_passed (eqb (get_or n.1 (n.0 - 1) 0) 0) bad (text_to end n.1 n.0) e q (λ no. tt)
      (λ u r. shown_passed (is_utf8 (take (n.0 - 1) n.1)) (BadUtf8 (end - length n.1)) (Ok (take (n.0 - 1) n.1, drop n.0 n.1)) e r
      (λ wrong. let long : n.0 ≤ length n.1 = ltb-false _ _ (or_false (eqb n.0 0) (ltb (length n.1) n.0) t).1 in (take (n.0 - 1) n.1, text_stands end (n.0 - 1) n.1 all (number_ends w32 bytes n ok at) (omega arith), wrong)) (λ v no. absurd cc))))

  binary_shown : (bytes : List ℕ) (e : BsonFault) → binary_at end bytes ≡ Err e → IsShown all e
  unfolding binary_at
  binary_shown bytes e h =
      let bad : BsonFault = BadLength (end - length bytes) in
      shown_bind (number_at w32 end bytes) (λ n. cond (ltb (length n.1) (n.0 + 1)) (Err bad) (Ok ((get_or n.1 0 0, take n.0 (drop 1 n.1)), drop n.0 (drop 1 n.1)))) e h
      (λ p. number_shown w32 bytes e p)
      (λ n ok p. shown_guard (ltb (length n.1) (n.0 + 1)) bad (Ok ((get_or n.1 0 0, take n.0 (drop 1 n.1)), drop n.0 (drop 1 n.1))) e p tt (λ t no. absurd cc))

  name_shown : (due : Option ℕ) (bytes : List ℕ) (e : BsonFault) → name_at due end bytes ≡ Err e → EndsAt end bytes all → IsShown all e
  unfolding name_at
  name_shown due bytes e h at = by (position (λ b. eqb b 0) bytes) h
    where
      by : (o : Option ℕ) → name_to due end bytes o ≡ Err e → IsShown all e
      by None p = known {A = List ℕ × List ℕ} (BadLength (end - length bytes)) e p tt
      by (Some n) p =
          shown_passed (is_utf8 (take n bytes)) (BadUtf8 (end - length bytes)) (cond (is_due due (take n bytes)) (Ok (take n bytes, drop (n + 1) bytes)) (Err (BadName (end - length bytes)))) e p
          (λ wrong. (take n bytes, text_front n, wrong))
          (λ t q. shown_passed (is_due due (take n bytes)) (BadName (end - length bytes)) (Ok (take n bytes, drop (n + 1) bytes)) e q (λ no. tt) (λ u no. absurd cc))
        where
          text_front : (n : ℕ) → Stands (end - length bytes) (take n bytes) all
          text_front n =
              let few : length (take n bytes) ≤ length bytes = omega (arith, length-take n bytes) in
              stands end (length (take n bytes)) bytes all at few ∙ cut n bytes
            where
              cut : (n : ℕ) (bytes : List ℕ) → take (length (take n bytes)) bytes ≡ take n bytes
              cut zero bytes = refl
              cut (suc n) [] = refl
              cut (suc n) (b ∷ bytes) = ap (λ (x : List ℕ). b ∷ x) (cut n bytes)

  type_shown : (start : ℕ) (bytes : List ℕ) (e : BsonFault) → type_at start end bytes ≡ Err e → EndsAt end bytes all → IsShown all e
  type_shown start [] e h at = known {A = Kind × List ℕ} (BadLength start) e h tt
  type_shown start (b ∷ bytes) e h at =
      shown_guard (eqb b 0) (BadLength start) (kind_at end b (b ∷ bytes) (kind_of b) >>= λ k. Ok (k, bytes)) e h tt
      (λ t p. shown_map (kind_at end b (b ∷ bytes) (kind_of b)) (λ k. (k, bytes)) e p (λ q. by (kind_of b) q))
    where
      by : (o : Option Kind) → kind_at end b (b ∷ bytes) o ≡ Err e → IsShown all e
      by None q = known {A = Kind} (BadType (end - length (b ∷ bytes)) b) e q (stands end 1 (b ∷ bytes) all at (omega arith))
      by (Some k) q = absurd cc

  len_shown : (bytes : List ℕ) (e : BsonFault) → len_at end bytes ≡ Err e → IsShown all e
  unfolding len_at
  len_shown bytes e h =
      let bad : BsonFault = BadLength (end - length bytes) in
      shown_bind (number_at w32 end bytes) (λ n. cond (ltb n.0 5 || ltb (length bytes) n.0) (Err bad) (Ok n.0)) e h
      (λ p. number_shown w32 bytes e p)
      (λ n ok p. shown_guard (ltb n.0 5 || ltb (length bytes) n.0) bad (Ok n.0) e p tt (λ t no. absurd cc))

-- the faults of documents inside the one that begins at outer
record Shows (read : Reader) (outer : ℕ) (all : List ℕ) : Type 0 where
  shows : (due : Option ℕ) (start : ℕ) (bytes : List ℕ) (e : BsonFault) → IsBytes bytes → IsFramed bytes → EndsAt (start + length bytes) bytes all → IsInside outer start all → read due start bytes ≡ Err e → IsShown all e

module _ (read : Reader) (levels : ℕ) (reads : Reads read levels) (outer len : ℕ) (all : List ℕ) (inner : Shows read outer all) (long : Stands outer (to_le_bytes w32 len) all) (end : ℕ) (last : end < outer + len) where
  document_shown : (due : Option ℕ) (bytes : List ℕ) (e : BsonFault) → IsBytes bytes → document_at (read due) end bytes ≡ Err e → EndsAt end bytes all → outer + 4 + length bytes < end → IsShown all e
  unfolding document_at
  document_shown due bytes e fits h at behind =
      shown_bind all end (len_at end bytes) (λ n. read due (end - length bytes) (take n bytes) >>= λ es. Ok (es, drop n bytes)) e h
      (λ p. len_shown all end bytes e p)
      (λ n ok p. shown_map all end (read due (end - length bytes) (take n bytes)) (λ es. (es, drop n bytes)) e p
      (λ q. let framed = len_ok end bytes n ok in
      let counted : length (take n bytes) ≡ n = length-take-le n bytes framed.1 in
      let split : EndsAt end (take n bytes ++ drop n bytes) all = subst (λ (b : List ℕ). EndsAt end b all) (sym (take-append-drop n bytes)) at in
      let place : end - length (drop n bytes) ≡ end - length bytes + length (take n bytes) = omega (arith, length-drop n bytes, counted, framed.1, behind) in
      inner.shows due (end - length bytes) (take n bytes) e (IsBytes-take n bytes fits) framed.0
      (subst (λ (i : ℕ). EndsAt i (take n bytes) all) place (first_ends end (take n bytes) (drop n bytes) all split))
      (record { len = len; stands = long; behind = omega (arith, behind); before = omega (arith, counted, framed.0.long, framed.1, last, behind) }) q))

  value_shown : (k : Kind) (bytes : List ℕ) (e : BsonFault) → IsBytes bytes → value_at read k end bytes ≡ Err e → EndsAt end bytes all → outer + 4 + length bytes < end → IsShown all e
  unfolding value_at
  value_shown kind.Int32 bytes e fits h at behind = shown_map all end (number_at w32 end bytes) (λ n. (int32 (cast_signed w32 n.0), n.1)) e h (λ p. number_shown all end w32 bytes e p)
  value_shown kind.Int64 bytes e fits h at behind = shown_map all end (number_at w64 end bytes) (λ n. (int64 (cast_signed w64 n.0), n.1)) e h (λ p. number_shown all end w64 bytes e p)
  value_shown kind.Date bytes e fits h at behind = shown_map all end (number_at w64 end bytes) (λ n. (date (cast_signed w64 n.0), n.1)) e h (λ p. number_shown all end w64 bytes e p)
  value_shown kind.Timestamp bytes e fits h at behind =
      shown_bind all end (number_at w32 end bytes) (λ i. number_at w32 end i.1 >>= λ s. Ok (timestamp s.0 i.0, s.1)) e h
      (λ p. number_shown all end w32 bytes e p)
      (λ i ok p. shown_map all end (number_at w32 end i.1) (λ s. (timestamp s.0 i.0, s.1)) e p (λ q. number_shown all end w32 i.1 e q))
  value_shown kind.ObjectId bytes e fits h at behind = shown_map all end (bytes_at 12 end bytes) (λ b. (object_id b.0, b.1)) e h (λ p. shown_guard all end (ltb (length bytes) 12) (BadLength (end - length bytes)) (Ok (take 12 bytes, drop 12 bytes)) e p tt (λ t no. absurd cc))
  value_shown kind.Binary bytes e fits h at behind = shown_map all end (binary_at end bytes) (λ b. (binary b.0.0 b.0.1, b.1)) e h (λ p. binary_shown all end bytes e p)
  value_shown kind.Boolean bytes e fits h at behind = shown_map all end (boolean_at end bytes) (λ b. (boolean b.0, b.1)) e h (λ p. boolean_shown all end bytes e p at)
  value_shown kind.Null bytes e fits h at behind = absurd cc
  value_shown kind.MinKey bytes e fits h at behind = absurd cc
  value_shown kind.MaxKey bytes e fits h at behind = absurd cc
  value_shown kind.String bytes e fits h at behind = shown_map all end (string_at end bytes) (λ s. (string s.0, s.1)) e h (λ p. string_shown all end bytes e p at)
  value_shown kind.Document bytes e fits h at behind = shown_map all end (document_at (read None) end bytes) (λ d. (document d.0, d.1)) e h (λ p. document_shown None bytes e fits p at behind)
  value_shown kind.Array bytes e fits h at behind = shown_map all end (document_at (read (Some 0)) end bytes) (λ d. (array (unnamed d.0), d.1)) e h (λ p. document_shown (Some 0) bytes e fits p at behind)

  element_shown : (due : Option ℕ) (bytes : List ℕ) (e : BsonFault) → IsBytes bytes → element_at read due outer end bytes ≡ Err e → EndsAt end bytes all → outer + 4 + length bytes ≤ end → IsShown all e
  unfolding element_at
  element_shown due bytes e fits h at behind =
      shown_bind all end (type_at outer end bytes) (λ k. name_at due end k.1 >>= λ name. value_at read k.0 end name.1 >>= λ value. Ok ((name.0, value.0), value.1)) e h
      (λ p. type_shown all end outer bytes e p at)
      (λ k ok p. let first = type_takes outer end bytes k fits ok in
      let here : EndsAt end k.1 all = last_ends end (first.0 ∷ []) k.1 all (subst (λ (b : List ℕ). EndsAt end b all) first.1.parts at) in
      let left : outer + 4 + length k.1 < end = omega (arith, ap length first.1.parts, length-append (first.0 ∷ []) k.1, behind) in
      shown_bind all end (name_at due end k.1) (λ name. value_at read k.0 end name.1 >>= λ value. Ok ((name.0, value.0), value.1)) e p
      (λ q. name_shown all end due k.1 e q here)
      (λ name named q. let second = name_takes due end k.1 name first.1.rest_fits named in
      shown_map all end (value_at read k.0 end name.1) (λ value. ((name.0, value.0), value.1)) e q
      (λ r. value_shown k.0 name.1 e second.takes.rest_fits r (last_ends end (name.0 ++ 0 ∷ []) name.1 all (subst (λ (b : List ℕ). EndsAt end b all) second.takes.parts here))
      (omega (arith, left, ap length second.takes.parts, length-append (name.0 ++ 0 ∷ []) name.1)))))

  elements_shown : (due : Option ℕ) (most : ℕ) (bytes : List ℕ) (e : BsonFault) → IsBytes bytes → elements_at read due outer end most bytes ≡ Err e → length bytes ≤ most → EndsAt end bytes all → outer + 4 + length bytes ≤ end → IsShown all e
  unfolding elements_at
  elements_shown due most [] e fits h few at behind = absurd cc
  elements_shown due zero (b ∷ bytes) e fits h few at behind = absurd (omega arith)
  elements_shown due (suc most) (b ∷ bytes) e fits h few at behind =
      shown_bind all end (element_at read due outer end (b ∷ bytes)) (λ x. elements_at read (next_due due) outer end most x.1 >>= λ es. Ok (element x.0.0 x.0.1 es)) e h
      (λ p. element_shown due (b ∷ bytes) e fits p at behind)
      (λ x ok p. let first = element_takes read levels due outer end (b ∷ bytes) x reads fits ok in
      let text : List ℕ = type_byte x.0.1 ∷ ((x.0.0 ++ 0 ∷ []) ++ value_spelling x.0.1) in
      let left : length x.1 < length (b ∷ bytes) = omega (arith, ap length first.takes.parts, length-append text x.1) in
      shown_map all end (elements_at read (next_due due) outer end most x.1) (λ es. element x.0.0 x.0.1 es) e p
      (λ q. elements_shown (next_due due) most x.1 e first.takes.rest_fits q (omega (arith, left, few)) (last_ends end text x.1 all (subst (λ (b : List ℕ). EndsAt end b all) first.takes.parts at)) (omega (arith, left, behind))))

reads_nested : (levels : ℕ) → Reads (nested_at levels) levels
reads_nested levels = record { gives = λ d at bs ds h g r. nested_takes levels d at bs ds h g r }

down : (k outer at : ℕ) (all : List ℕ) → IsDown k outer all → IsInside outer at all → IsDown (suc k) at all
unfolding IsDown
down k outer at all h inside = (outer, h, inside)

nested_shown : (levels k : ℕ) → k + levels ≡ 100 → (due : Option ℕ) (start : ℕ) (bytes all : List ℕ) (e : BsonFault) → IsBytes bytes → IsFramed bytes → EndsAt (start + length bytes) bytes all → IsDown k start all → nested_at levels due start bytes ≡ Err e → IsShown all e
unfolding nested_at
nested_shown zero k sum due start bytes all e fits f at deep h =
    let most : k ≡ 100 = omega arith in
    known all 0 {A = Elements} (TooDeep start) e h (subst (λ (j : ℕ). IsDown j start all) most deep, (length bytes, length_stands start bytes all at fits f))
nested_shown (suc levels) k sum due start bytes all e fits f at deep h =
    let end : ℕ = start + (length bytes - 1) in
    let inner : Shows (nested_at levels) start all = record { shows = λ d s bs x g i p inside r. nested_shown levels (suc k) (omega (arith, sum)) d s bs all x g i p (down k start s all deep inside) r } in
    let ended_at : end ≡ start + length bytes - 1 = omega (arith, f.long) in
    let within : length (body bytes) + 5 ≡ length bytes = omega (arith, f.long, length-take (length bytes - 1 - 4) (drop 4 bytes), length-drop 4 bytes) in
    let front : EndsAt (start + length bytes) (drop 4 bytes) all = ends_drop (start + length bytes) 4 bytes all at in
    let split : EndsAt (start + length bytes) (body bytes ++ drop (length bytes - 1 - 4) (drop 4 bytes)) all = subst (λ (b : List ℕ). EndsAt (start + length bytes) b all) (sym (take-append-drop (length bytes - 1 - 4) (drop 4 bytes))) front in
    let place : start + length bytes - length (drop (length bytes - 1 - 4) (drop 4 bytes)) ≡ end = omega (arith, f.long, length-drop (length bytes - 1 - 4) (drop 4 bytes), length-drop 4 bytes) in
    let here : EndsAt end (body bytes) all = subst (λ (i : ℕ). EndsAt i (body bytes) all) place (first_ends (start + length bytes) (body bytes) (drop (length bytes - 1 - 4) (drop 4 bytes)) all split) in
    shown_bind all end (elements_at (nested_at levels) due start end (length (body bytes)) (body bytes)) (ended start bytes) e h
    (λ p. elements_shown (nested_at levels) levels (reads_nested levels) start (length bytes) all inner (length_stands start bytes all at fits f) end (omega (arith, f.long)) due (length (body bytes)) (body bytes) e (IsBytes-take (length bytes - 1 - 4) (drop 4 bytes) (IsBytes-drop 4 bytes fits)) p (omega arith) here (omega (arith, within)))
    (λ es ok p. shown_passed all end (eqb (get_or bytes (length bytes - 1) 0) 0) (BadLength start) (Ok es) e p (λ no. tt) (λ t no. absurd cc))

outermost : (all : List ℕ) → IsDown 0 0 all
unfolding IsDown
outermost all = refl

pub all_shown : (bytes : List ℕ) (e : BsonFault) → IsBytes bytes → IsFramed bytes → nested_at 100 None 0 bytes ≡ Err e → IsShown bytes e
all_shown bytes e fits f h =
    let here : 0 + length bytes ≡ length bytes = omega arith in
    nested_shown 100 0 refl None 0 bytes bytes e fits f (subst (λ (i : ℕ). EndsAt i bytes bytes) (sym here) (whole_ends bytes)) (outermost bytes) h

pub whole_shown : (bytes : List ℕ) (e : BsonFault) → IsBytes bytes → whole bytes ≡ Err e → IsShown bytes e
unfolding whole
whole_shown bytes e fits h =
    shown_bind bytes (length bytes) (number_at w32 (length bytes) bytes) (λ n. cond (ltb n.0 5 || (ltb n.0 (length bytes) || ltb (length bytes) n.0)) (Err (BadLength 0)) (cond (ltb 0x100_0000 n.0) (Err TooLong) (nested_at 100 None 0 bytes))) e h
    (λ p. number_shown bytes (length bytes) w32 bytes e p)
    (λ n is p. shown_guard bytes (length bytes) (ltb n.0 5 || (ltb n.0 (length bytes) || ltb (length bytes) n.0)) (BadLength 0) (cond (ltb 0x100_0000 n.0) (Err TooLong) (nested_at 100 None 0 bytes)) e p tt
    (λ passed q. shown_guard bytes (length bytes) (ltb 0x100_0000 n.0) TooLong (nested_at 100 None 0 bytes) e q tt (λ short r. all_shown bytes e fits (framed n is passed) r)))
  where
    framed : (n : ℕ × List ℕ) → number_at w32 (length bytes) bytes ≡ Ok n → (ltb n.0 5 || (ltb n.0 (length bytes) || ltb (length bytes) n.0)) ≡ false → IsFramed bytes
    framed n is passed =
        let tests = or_false (ltb n.0 5) (ltb n.0 (length bytes) || ltb (length bytes) n.0) passed in
        let sizes = or_false (ltb n.0 (length bytes)) (ltb (length bytes) n.0) tests.1 in
        let some : 5 ≤ n.0 = ltb-false _ _ tests.0 in
        let least : length bytes ≤ n.0 = ltb-false _ _ sizes.0 in
        let most : n.0 ≤ length bytes = ltb-false _ _ sizes.1 in
        let same : n.0 ≡ length bytes = omega arith in
        record { long = omega arith; counted = (number_ok (length bytes) bytes n.0 n.1 is).1 ∙ same }
