-- A fault lies inside the document that is read.
use Rattle.std.proofs.Common.{◌≡◌, ℕ, zero, suc, ◌+◌, ◌-◌, ◌<◌, ◌≤◌, Bool, true, false, cond, eqb, ltb, ◌||◌, List, [], ◌∷◌, ◌++◌, length, get_or, take, drop, Option, Some, None, Result, Ok, Err, refl, ap, subst, ◌∙◌, ◌⊎◌, inl, inr, arith}
use Rattle.std.specs.Prelude.{position}
use Rattle.std.specs.Int.{Width, w32, w64, byte_len, from_le_bytes, cast_signed}
use Rattle.std.specs.Str.{is_utf8}
use Rattle.std.proofs.lemmas.Bool.{ltb-true, ltb-false}
use Rattle.std.proofs.lemmas.List.{length-append, length-take, length-drop}
use Rattle.mm_bson.specs.declared.fault.BsonFault.{BsonFault}
use Rattle.mm_bson.specs.declared.fault.BsonFault.TheVariants.{BadLength, BadType, BadUtf8, BadName, TooDeep, TooLong, NoMemory}
use Rattle.mm_bson.specs.declared.kind.Kind.{Kind}
use Rattle.mm_bson.specs.declared.kind.Kind.TheVariants as kind
use Rattle.mm_bson.specs.Tree.{int32, int64, string, document, array, binary, object_id, boolean, date, timestamp, Elements, element}
use Rattle.mm_bson.specs.Named.{unnamed}
use Rattle.mm_bson.specs.Spelling.{type_byte, value_spelling}
use Rattle.mm_bson.specs.Reading.{◌>>=◌, Reader, is_due, next_due, kind_of, kind_at, type_at, number_at, name_to, name_at, text_to, bytes_at, binary_at, boolean_at, string_at, len_at, document_at, value_at, element_at, elements_at, body, ended, nested_at, IsFramed, whole}
use Rattle.mm_bson.specs.Faults.{LiesIn, IsExplained}
use Rattle.mm_bson.proofs.Bytes.{IsBytes, IsBytes-take, IsBytes-drop}
use Rattle.mm_bson.proofs.Takes.{Reads, type_takes, name_takes, or_false, number_ok, len_ok, element_takes, nested_takes}

wider : (lo hi lo' hi' : ℕ) (e : BsonFault) → lo' ≤ lo → hi ≤ hi' → LiesIn lo hi e → LiesIn lo' hi' e
wider lo hi lo' hi' (BadLength at) p q h = (omega arith, omega arith)
wider lo hi lo' hi' (BadType at byte) p q h = (omega arith, omega arith)
wider lo hi lo' hi' (BadUtf8 at) p q h = (omega arith, omega arith)
wider lo hi lo' hi' (BadName at) p q h = (omega arith, omega arith)
wider lo hi lo' hi' (TooDeep at) p q h = (omega arith, omega arith)
wider lo hi lo' hi' TooLong p q h = h
wider lo hi lo' hi' NoMemory p q h = h

abbrev failed : {A : Type 0} → BsonFault → Result A BsonFault
failed e = Err e

same_fault : {A : Type 0} (d e : BsonFault) → failed {A = A} d ≡ Err e → d ≡ e
same_fault d e h = cc

module _ (lo end : ℕ) where
  -- a fault that is known
  known : {A : Type 0} (d e : BsonFault) → failed {A = A} d ≡ Err e → LiesIn lo end d → LiesIn lo end e
  known {A} d e h lies = subst (LiesIn lo end) (same_fault {A = A} d e h) lies

  -- a step, and what comes after it
  lies_bind : {A B : Type 0} (r : Result A BsonFault) (f : A → Result B BsonFault) (e : BsonFault) → (r >>= f) ≡ Err e → (r ≡ Err e → LiesIn lo end e) → ((x : A) → r ≡ Ok x → f x ≡ Err e → LiesIn lo end e) → LiesIn lo end e
  lies_bind (Ok x) f e h first then = then x refl h
  lies_bind {A} {B} (Err d) f e h first then = first (ap (λ (x : BsonFault). failed {A = A} x) (same_fault {A = B} d e h))

  lies_map : {A B : Type 0} (r : Result A BsonFault) (g : A → B) (e : BsonFault) → (r >>= λ x. Ok (g x)) ≡ Err e → (r ≡ Err e → LiesIn lo end e) → LiesIn lo end e
  lies_map r g e h first = lies_bind r (λ x. Ok (g x)) e h first (λ x ok no. absurd cc)

  -- a test
  lies_guard : {A : Type 0} (b : Bool) (d : BsonFault) (r : Result A BsonFault) (e : BsonFault) → cond b (Err d) r ≡ Err e → LiesIn lo end d → (b ≡ false → r ≡ Err e → LiesIn lo end e) → LiesIn lo end e
  lies_guard {A} true d r e h lies then = known {A = A} d e h lies
  lies_guard false d r e h lies then = then refl h

  lies_passed : {A : Type 0} (b : Bool) (d : BsonFault) (r : Result A BsonFault) (e : BsonFault) → cond b r (Err d) ≡ Err e → LiesIn lo end d → (b ≡ true → r ≡ Err e → LiesIn lo end e) → LiesIn lo end e
  lies_passed true d r e h lies then = then refl h
  lies_passed {A} false d r e h lies then = known {A = A} d e h lies

  number_lies : (w : Width) (bytes : List ℕ) (e : BsonFault) → number_at w end bytes ≡ Err e → lo + length bytes ≤ end → LiesIn lo end e
  number_lies w bytes e h at = lies_guard (ltb (length bytes) (byte_len w)) (BadLength (end - length bytes)) (Ok (from_le_bytes w (take (byte_len w) bytes), drop (byte_len w) bytes)) e h (omega arith, omega arith) (λ t no. absurd cc)

  -- what is left after a number
  after_number : (w : Width) (bytes : List ℕ) (x : ℕ × List ℕ) → number_at w end bytes ≡ Ok x → length x.1 ≤ length bytes
  after_number w bytes x h = by (ltb (length bytes) (byte_len w)) h
    where
      by : (b : Bool) → cond b (Err (BadLength (end - length bytes))) (Ok (from_le_bytes w (take (byte_len w) bytes), drop (byte_len w) bytes)) ≡ Ok x → length x.1 ≤ length bytes
      by true e = absurd cc
      by false e =
          let rest : drop (byte_len w) bytes ≡ x.1 = cc in
          omega (arith, length-drop (byte_len w) bytes, ap length rest)

  bytes_lie : (n : ℕ) (bytes : List ℕ) (e : BsonFault) → bytes_at n end bytes ≡ Err e → lo + length bytes ≤ end → LiesIn lo end e
  bytes_lie n bytes e h at = lies_guard (ltb (length bytes) n) (BadLength (end - length bytes)) (Ok (take n bytes, drop n bytes)) e h (omega arith, omega arith) (λ t no. absurd cc)

  boolean_lies : (bytes : List ℕ) (e : BsonFault) → boolean_at end bytes ≡ Err e → lo + length bytes ≤ end → LiesIn lo end e
  unfolding boolean_at
  boolean_lies [] e h at = known {A = Bool × List ℕ} (BadLength (end - 0)) e h (omega arith, omega arith)
  boolean_lies (b ∷ bytes) e h at = by (eqb b 0) (eqb b 1) h
    where
      by : (p q : Bool) → cond {A = Result (Bool × List ℕ) BsonFault} p (Ok (false, bytes)) (cond {A = Result (Bool × List ℕ) BsonFault} q (Ok (true, bytes)) (Err (BadType (end - length (b ∷ bytes)) b))) ≡ Err e → LiesIn lo end e
      by true q wrong = absurd cc
      by false true wrong = absurd cc
      by false false found = known {A = Bool × List ℕ} (BadType (end - length (b ∷ bytes)) b) e found (omega arith, omega arith)

  string_lies : (bytes : List ℕ) (e : BsonFault) → string_at end bytes ≡ Err e → lo + length bytes ≤ end → LiesIn lo end e
  unfolding string_at
  string_lies bytes e h at =
      let bad : BsonFault = BadLength (end - length bytes) in
      let here : LiesIn lo end bad = (omega arith, omega arith) in
      lies_bind (number_at w32 end bytes) (λ n. cond (eqb n.0 0 || ltb (length n.1) n.0) (Err bad) (cond (eqb (get_or n.1 (n.0 - 1) 0) 0) (text_to end n.1 n.0) (Err bad))) e h
      (λ p. number_lies w32 bytes e p at)
      (λ n ok p. lies_guard (eqb n.0 0 || ltb (length n.1) n.0) bad (cond (eqb (get_or n.1 (n.0 - 1) 0) 0) (text_to end n.1 n.0) (Err bad)) e p here
      (λ t q. lies_passed (eqb (get_or n.1 (n.0 - 1) 0) 0) bad (text_to end n.1 n.0) e q here
      (λ u r. lies_passed (is_utf8 (take (n.0 - 1) n.1)) (BadUtf8 (end - length n.1)) (Ok (take (n.0 - 1) n.1, drop n.0 n.1)) e r (omega (arith, after_number w32 bytes n ok), omega arith) (λ v no. absurd cc))))

  binary_lies : (bytes : List ℕ) (e : BsonFault) → binary_at end bytes ≡ Err e → lo + length bytes ≤ end → LiesIn lo end e
  unfolding binary_at
  binary_lies bytes e h at =
      let bad : BsonFault = BadLength (end - length bytes) in
      lies_bind (number_at w32 end bytes) (λ n. cond (ltb (length n.1) (n.0 + 1)) (Err bad) (Ok ((get_or n.1 0 0, take n.0 (drop 1 n.1)), drop n.0 (drop 1 n.1)))) e h
      (λ p. number_lies w32 bytes e p at)
      (λ n ok p. lies_guard (ltb (length n.1) (n.0 + 1)) bad (Ok ((get_or n.1 0 0, take n.0 (drop 1 n.1)), drop n.0 (drop 1 n.1))) e p (omega arith, omega arith) (λ t no. absurd cc))

  name_lies : (due : Option ℕ) (bytes : List ℕ) (e : BsonFault) → name_at due end bytes ≡ Err e → lo + length bytes ≤ end → LiesIn lo end e
  unfolding name_at
  name_lies due bytes e h at = by (position (λ b. eqb b 0) bytes) h
    where
      by : (o : Option ℕ) → name_to due end bytes o ≡ Err e → LiesIn lo end e
      by None p = known {A = List ℕ × List ℕ} (BadLength (end - length bytes)) e p (omega arith, omega arith)
      by (Some n) p =
          lies_passed (is_utf8 (take n bytes)) (BadUtf8 (end - length bytes)) (cond (is_due due (take n bytes)) (Ok (take n bytes, drop (n + 1) bytes)) (Err (BadName (end - length bytes)))) e p (omega arith, omega arith)
          (λ t q. lies_passed (is_due due (take n bytes)) (BadName (end - length bytes)) (Ok (take n bytes, drop (n + 1) bytes)) e q (omega arith, omega arith) (λ u no. absurd cc))

  type_lies : (bytes : List ℕ) (e : BsonFault) → type_at lo end bytes ≡ Err e → lo + length bytes ≤ end → LiesIn lo end e
  type_lies [] e h at = known {A = Kind × List ℕ} (BadLength lo) e h (omega arith, omega arith)
  type_lies (b ∷ bytes) e h at =
      lies_guard (eqb b 0) (BadLength lo) (kind_at end b (b ∷ bytes) (kind_of b) >>= λ k. Ok (k, bytes)) e h (omega arith, omega arith)
      (λ t p. lies_map (kind_at end b (b ∷ bytes) (kind_of b)) (λ k. (k, bytes)) e p (λ q. by (kind_of b) q))
    where
      by : (o : Option Kind) → kind_at end b (b ∷ bytes) o ≡ Err e → LiesIn lo end e
      by None q = known {A = Kind} (BadType (end - length (b ∷ bytes)) b) e q (omega arith, omega arith)
      by (Some k) q = absurd cc

  len_lies : (bytes : List ℕ) (e : BsonFault) → len_at end bytes ≡ Err e → lo + length bytes ≤ end → LiesIn lo end e
  unfolding len_at
  len_lies bytes e h at =
      let bad : BsonFault = BadLength (end - length bytes) in
      lies_bind (number_at w32 end bytes) (λ n. cond (ltb n.0 5 || ltb (length bytes) n.0) (Err bad) (Ok n.0)) e h
      (λ p. number_lies w32 bytes e p at)
      (λ n ok p. lies_guard (ltb n.0 5 || ltb (length bytes) n.0) bad (Ok n.0) e p (omega arith, omega arith) (λ t no. absurd cc))

-- the faults of documents inside
pub record Places (read : Reader) : Type 0 where
  pub lies : (due : Option ℕ) (start : ℕ) (bytes : List ℕ) (e : BsonFault) → IsBytes bytes → IsFramed bytes → read due start bytes ≡ Err e → LiesIn start (start + (length bytes - 1)) e

module _ (read : Reader) (levels : ℕ) (reads : Reads read levels) (places : Places read) (lo end : ℕ) where
  document_lies : (due : Option ℕ) (bytes : List ℕ) (e : BsonFault) → IsBytes bytes → document_at (read due) end bytes ≡ Err e → lo + length bytes ≤ end → LiesIn lo end e
  unfolding document_at
  document_lies due bytes e fits h at =
      lies_bind lo end (len_at end bytes) (λ n. read due (end - length bytes) (take n bytes) >>= λ es. Ok (es, drop n bytes)) e h
      (λ p. len_lies lo end bytes e p at)
      (λ n ok p. lies_map lo end (read due (end - length bytes) (take n bytes)) (λ es. (es, drop n bytes)) e p
      (λ q. wider (end - length bytes) ((end - length bytes) + (length (take n bytes) - 1)) lo end e (omega arith) (omega (arith, length-take n bytes, (len_ok end bytes n ok).0.long, (len_ok end bytes n ok).1))
      (places.lies due (end - length bytes) (take n bytes) e (IsBytes-take n bytes fits) (len_ok end bytes n ok).0 q)))

  value_lies : (k : Kind) (bytes : List ℕ) (e : BsonFault) → IsBytes bytes → value_at read k end bytes ≡ Err e → lo + length bytes ≤ end → LiesIn lo end e
  unfolding value_at
  value_lies kind.Int32 bytes e fits h at = lies_map lo end (number_at w32 end bytes) (λ n. (int32 (cast_signed w32 n.0), n.1)) e h (λ p. number_lies lo end w32 bytes e p at)
  value_lies kind.Int64 bytes e fits h at = lies_map lo end (number_at w64 end bytes) (λ n. (int64 (cast_signed w64 n.0), n.1)) e h (λ p. number_lies lo end w64 bytes e p at)
  value_lies kind.Date bytes e fits h at = lies_map lo end (number_at w64 end bytes) (λ n. (date (cast_signed w64 n.0), n.1)) e h (λ p. number_lies lo end w64 bytes e p at)
  value_lies kind.Timestamp bytes e fits h at =
      lies_bind lo end (number_at w32 end bytes) (λ i. number_at w32 end i.1 >>= λ s. Ok (timestamp s.0 i.0, s.1)) e h
      (λ p. number_lies lo end w32 bytes e p at)
      (λ i ok p. lies_map lo end (number_at w32 end i.1) (λ s. (timestamp s.0 i.0, s.1)) e p (λ q. number_lies lo end w32 i.1 e q (omega (arith, after_number lo end w32 bytes i ok))))
  value_lies kind.ObjectId bytes e fits h at = lies_map lo end (bytes_at 12 end bytes) (λ b. (object_id b.0, b.1)) e h (λ p. bytes_lie lo end 12 bytes e p at)
  value_lies kind.Binary bytes e fits h at = lies_map lo end (binary_at end bytes) (λ b. (binary b.0.0 b.0.1, b.1)) e h (λ p. binary_lies lo end bytes e p at)
  value_lies kind.Boolean bytes e fits h at = lies_map lo end (boolean_at end bytes) (λ b. (boolean b.0, b.1)) e h (λ p. boolean_lies lo end bytes e p at)
  value_lies kind.Null bytes e fits h at = absurd cc
  value_lies kind.MinKey bytes e fits h at = absurd cc
  value_lies kind.MaxKey bytes e fits h at = absurd cc
  value_lies kind.String bytes e fits h at = lies_map lo end (string_at end bytes) (λ s. (string s.0, s.1)) e h (λ p. string_lies lo end bytes e p at)
  value_lies kind.Document bytes e fits h at = lies_map lo end (document_at (read None) end bytes) (λ d. (document d.0, d.1)) e h (λ p. document_lies None bytes e fits p at)
  value_lies kind.Array bytes e fits h at = lies_map lo end (document_at (read (Some 0)) end bytes) (λ d. (array (unnamed d.0), d.1)) e h (λ p. document_lies (Some 0) bytes e fits p at)

  element_lies : (due : Option ℕ) (bytes : List ℕ) (e : BsonFault) → IsBytes bytes → element_at read due lo end bytes ≡ Err e → lo + length bytes ≤ end → LiesIn lo end e
  unfolding element_at
  element_lies due bytes e fits h at =
      lies_bind lo end (type_at lo end bytes) (λ k. name_at due end k.1 >>= λ name. value_at read k.0 end name.1 >>= λ value. Ok ((name.0, value.0), value.1)) e h
      (λ p. type_lies lo end bytes e p at)
      (λ k ok p. let first = type_takes lo end bytes k fits ok in
      let left : lo + length k.1 ≤ end = omega (arith, ap length first.1.parts, length-append (first.0 ∷ []) k.1) in
      lies_bind lo end (name_at due end k.1) (λ name. value_at read k.0 end name.1 >>= λ value. Ok ((name.0, value.0), value.1)) e p
      (λ q. name_lies lo end due k.1 e q left)
      (λ name named q. let second = name_takes due end k.1 name first.1.rest_fits named in
      lies_map lo end (value_at read k.0 end name.1) (λ value. ((name.0, value.0), value.1)) e q
      (λ r. value_lies k.0 name.1 e second.takes.rest_fits r (omega (arith, left, ap length second.takes.parts, length-append (name.0 ++ 0 ∷ []) name.1)))))

  elements_lie : (due : Option ℕ) (most : ℕ) (bytes : List ℕ) (e : BsonFault) → IsBytes bytes → elements_at read due lo end most bytes ≡ Err e → length bytes ≤ most → lo + length bytes ≤ end → LiesIn lo end e
  unfolding elements_at
  elements_lie due most [] e fits h long at = absurd cc
  elements_lie due zero (b ∷ bytes) e fits h long at = absurd (omega arith)
  elements_lie due (suc most) (b ∷ bytes) e fits h long at =
      lies_bind lo end (element_at read due lo end (b ∷ bytes)) (λ x. elements_at read (next_due due) lo end most x.1 >>= λ es. Ok (element x.0.0 x.0.1 es)) e h
      (λ p. element_lies due (b ∷ bytes) e fits p at)
      (λ x ok p. let first = element_takes read levels due lo end (b ∷ bytes) x reads fits ok in
      let left : length x.1 < length (b ∷ bytes) = omega (arith, ap length first.takes.parts, length-append (type_byte x.0.1 ∷ ((x.0.0 ++ 0 ∷ []) ++ value_spelling x.0.1)) x.1) in
      lies_map lo end (elements_at read (next_due due) lo end most x.1) (λ es. element x.0.0 x.0.1 es) e p
      (λ q. elements_lie (next_due due) most x.1 e first.takes.rest_fits q (omega (arith, left)) (omega (arith, left))))

reads_nested : (levels : ℕ) → Reads (nested_at levels) levels
reads_nested levels = record { gives = λ d at bs ds h g r. nested_takes levels d at bs ds h g r }

pub nested_lies : (levels : ℕ) (due : Option ℕ) (start : ℕ) (bytes : List ℕ) (e : BsonFault) → IsBytes bytes → IsFramed bytes → nested_at levels due start bytes ≡ Err e → LiesIn start (start + (length bytes - 1)) e
unfolding nested_at
nested_lies zero due start bytes e fits f h = known start (start + (length bytes - 1)) {A = Elements} (TooDeep start) e h (omega arith, omega arith)
nested_lies (suc levels) due start bytes e fits f h =
    let end : ℕ = start + (length bytes - 1) in
    let places : Places (nested_at levels) = record { lies = λ d at bs x g i r. nested_lies levels d at bs x g i r } in
    let inside : length (body bytes) ≤ length bytes - 1 = omega (arith, length-take (length bytes - 1 - 4) (drop 4 bytes)) in
    lies_bind start end (elements_at (nested_at levels) due start end (length (body bytes)) (body bytes)) (ended start bytes) e h
    (λ p. elements_lie (nested_at levels) levels (reads_nested levels) places start end due (length (body bytes)) (body bytes) e (IsBytes-take (length bytes - 1 - 4) (drop 4 bytes) (IsBytes-drop 4 bytes fits)) p (omega arith) (omega (arith, inside)))
    (λ es ok p. lies_passed start end (eqb (get_or bytes (length bytes - 1) 0) 0) (BadLength start) (Ok es) e p (omega arith, omega arith) (λ t no. absurd cc))

-- ---- all of the bytes

explained : (bytes : List ℕ) (e : BsonFault) → LiesIn 0 (length bytes) e → IsExplained bytes e
explained bytes (BadLength at) h = h
explained bytes (BadType at byte) h = h
explained bytes (BadUtf8 at) h = h
explained bytes (BadName at) h = h
explained bytes (TooDeep at) h = h
explained bytes TooLong h = absurd h
explained bytes NoMemory h = tt

-- which side of a test failed
sides : {A : Type 0} (b : Bool) (d : BsonFault) (r : Result A BsonFault) (e : BsonFault) → cond b (Err d) r ≡ Err e → ((b ≡ true) × (d ≡ e)) ⊎ ((b ≡ false) × (r ≡ Err e))
sides {A} true d r e h = inl (refl, same_fault {A = A} d e h)
sides false d r e h = inr (refl, h)

pub whole_explained : (bytes : List ℕ) (e : BsonFault) → IsBytes bytes → whole bytes ≡ Err e → IsExplained bytes e
unfolding whole
whole_explained bytes e fits h = by (number_at w32 (length bytes) bytes) refl h
  where
    counted : (n : ℕ × List ℕ) → number_at w32 (length bytes) bytes ≡ Ok n → ltb n.0 5 ≡ false → ltb n.0 (length bytes) ≡ false → ltb (length bytes) n.0 ≡ false → (n.0 ≡ length bytes) × IsFramed bytes
    counted n is five below above =
        let some : 5 ≤ n.0 = ltb-false _ _ five in
        let least : length bytes ≤ n.0 = ltb-false _ _ below in
        let most : n.0 ≤ length bytes = ltb-false _ _ above in
        let same : n.0 ≡ length bytes = omega arith in
        (same, record { long = omega arith; counted = (number_ok (length bytes) bytes n.0 n.1 is).1 ∙ same })

    by : (r : Result (ℕ × List ℕ) BsonFault) → number_at w32 (length bytes) bytes ≡ r → (r >>= λ n. cond (ltb n.0 5 || (ltb n.0 (length bytes) || ltb (length bytes) n.0)) (Err (BadLength 0)) (cond (ltb 0x100_0000 n.0) (Err TooLong) (nested_at 100 None 0 bytes))) ≡ Err e → IsExplained bytes e
    by (Err d) is p = explained bytes e (subst (LiesIn 0 (length bytes)) (same_fault {A = Elements} d e p) (number_lies 0 (length bytes) w32 bytes d is (omega arith)))
    by (Ok n) is p =
        elim (sides (ltb n.0 5 || (ltb n.0 (length bytes) || ltb (length bytes) n.0)) (BadLength 0) (cond (ltb 0x100_0000 n.0) (Err TooLong) (nested_at 100 None 0 bytes)) e p) [
          | inl found ↦ explained bytes e (subst (LiesIn 0 (length bytes)) found.1 (omega arith, omega arith))
          | inr passed ↦
              let tests = or_false (ltb n.0 5) (ltb n.0 (length bytes) || ltb (length bytes) n.0) passed.0 in
              let sizes = or_false (ltb n.0 (length bytes)) (ltb (length bytes) n.0) tests.1 in
              let c = counted n is tests.0 sizes.0 sizes.1 in
              elim (sides (ltb 0x100_0000 n.0) TooLong (nested_at 100 None 0 bytes) e passed.1) [
                | inl long ↦ subst (IsExplained bytes) long.1 (c.1, omega (arith, ltb-true _ _ long.0, c.0))
                | inr deep ↦ explained bytes e (wider 0 (0 + (length bytes - 1)) 0 (length bytes) e (omega arith) (omega arith) (nested_lies 100 None 0 bytes e fits c.1 deep.1))
              ]
        ]
