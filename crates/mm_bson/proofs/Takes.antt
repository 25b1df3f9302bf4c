-- What is read is spelled so.
use Rattle.std.proofs.Common.{◌≡◌, ℕ, zero, suc, ◌+◌, ◌-◌, ◌^◌, ◌<◌, ◌≤◌, Bool, true, false, cond, eqb, ltb, ◌||◌, not, ◌⊎◌, List, [], ◌∷◌, ◌++◌, length, get_or, take, drop, Option, Some, None, Ok, Err, refl, sym, ap, subst, ◌∙◌, append_assoc, arith, inl, inr}
use Rattle.std.specs.Str.{is_utf8}
use Rattle.std.specs.List.{prefix_len}
use Rattle.std.specs.Int.{w32, w64, from_le_bytes, to_le_bytes, cast_signed, cast_unsigned}
use Rattle.std.proofs.lemmas.Bool.{ltb-true, ltb-false, eqb-true}
use Rattle.std.proofs.lemmas.Bool.Decides.{nat_tests}
use Rattle.std.proofs.lemmas.Int.{of_z-to_z}
use Rattle.std.proofs.Math.Facts.{sfits_to_z}
use Rattle.std.proofs.Math.Seq.{take-suc}
use Rattle.std.proofs.lemmas.List.{take-append-drop, length-take, length-drop, get_or-drop, take_all}
use Rattle.mm_bson.specs.declared.fault.BsonFault.{BsonFault}
use Rattle.mm_bson.specs.declared.fault.BsonFault.TheVariants.{BadLength, BadUtf8, BadName, TooLong}
use Rattle.mm_bson.specs.declared.kind.Kind.{Kind}
use Rattle.mm_bson.specs.declared.kind.Kind.TheVariants as kind
use Rattle.mm_bson.specs.Tree.{Tree, min_key, null, int32, int64, string, document, array, binary, object_id, boolean, date, timestamp, max_key, Elements, no_elements, element, Values, tree_depth, depth}
use Rattle.mm_bson.specs.Named.{unnamed, AreNumbered}
use Rattle.mm_bson.specs.Spelling.{type_byte, framed, text_spelling, value_spelling, elements_spelling, values_spelling, spelling, IsName, HasNoZero, IsValue, AreElements, IsDocument}
use Rattle.mm_bson.specs.Reading.{◌>>=◌, Reader, is_due, next_due, kind_of, kind_at, type_at, number_at, name_to, name_at, text_to, bytes_at, binary_at, boolean_at, string_at, len_at, document_at, value_at, element_at, elements_at, body, ended, nested_at, IsFramed, whole}
use Rattle.mm_bson.proofs.Bytes.{IsBytes, IsBytes-take, IsBytes-drop, bind_ok, guard_ok, passed_ok, ok_is, ok_gives, Takes, Takes-then, wide32, wide64, number_takes}
use Rattle.mm_bson.proofs.Numbered.{name_is, named_again, numbered_spelling, numbered_depth, numbered_values}

IsBytes-tail : (b : ℕ) (bytes : List ℕ) → IsBytes (b ∷ bytes) → IsBytes bytes
IsBytes-tail b bytes h i = h (suc i)

-- ---- names

abbrev not_zero : ℕ → Bool
not_zero b = not (eqb b 0)

name_split : (bytes : List ℕ) → IsBytes bytes → prefix_len not_zero bytes < length bytes
    → HasNoZero (take (prefix_len not_zero bytes) bytes) × (bytes ≡ (take (prefix_len not_zero bytes) bytes ++ 0 ∷ []) ++ drop (prefix_len not_zero bytes + 1) bytes)
name_split [] fits lt = absurd (omega arith)
name_split (zero ∷ bytes) fits lt = (tt, refl)
name_split (suc b ∷ bytes) fits lt =
    let e : eqb (suc b) 0 ≡ false = grind (arith, nat_tests) in
    let n : ℕ = prefix_len not_zero bytes in
    let one : prefix_len not_zero (suc b ∷ bytes) ≡ suc n = rw e (omega arith) in
    let two : suc n + 1 ≡ suc (n + 1) = omega arith in
    let shorter : n < length bytes = omega (arith, one) in
    let rest = name_split bytes (IsBytes-tail (suc b) bytes fits) shorter in
    rw (one, two) (((λ h. cc), rest.0), ap (λ (x : List ℕ). suc b ∷ x) rest.1)

-- a name that is due
pub record TakesName (due : Option ℕ) (bytes name rest : List ℕ) : Type 0 where
  pub takes : Takes bytes (name ++ 0 ∷ []) rest
  pub named : IsName name
  pub is_it : is_due due name ≡ true

pub name_takes : (due : Option ℕ) (end : ℕ) (bytes : List ℕ) (x : List ℕ × List ℕ) → IsBytes bytes → name_at due end bytes ≡ Ok x → TakesName due bytes x.0 x.1
unfolding name_at
name_takes due end bytes x fits e =
    let n : ℕ = prefix_len not_zero bytes in
    let g = found (ltb n (length bytes)) due n end bytes x e in
    let s = name_split bytes fits (ltb-true _ _ g.0) in
    subst (λ (y : List ℕ × List ℕ). TakesName due bytes y.0 y.1) g.3 (record { takes = record { parts = s.1; rest_fits = IsBytes-drop (n + 1) bytes fits }; named = (g.1, s.0); is_it = g.2 })
  where
    found : (b : Bool) (due : Option ℕ) (n end : ℕ) (bytes : List ℕ) (x : List ℕ × List ℕ) → name_to due end bytes (cond b (Some n) None) ≡ Ok x
        → (b ≡ true) × (is_utf8 (take n bytes) ≡ true) × (is_due due (take n bytes) ≡ true) × ((take n bytes, drop (n + 1) bytes) ≡ x)
    found true due n end bytes x e =
        let p = passed_ok (is_utf8 (take n bytes)) (BadUtf8 (end - length bytes)) (cond (is_due due (take n bytes)) (Ok (take n bytes, drop (n + 1) bytes)) (Err (BadName (end - length bytes)))) x e in
        let q = passed_ok (is_due due (take n bytes)) (BadName (end - length bytes)) (Ok (take n bytes, drop (n + 1) bytes)) x p.1 in
        (refl, p.0, q.0, ok_is (take n bytes, drop (n + 1) bytes) x q.1)
    found false due n end bytes x e = absurd cc

-- ---- texts

last_split : (bytes : List ℕ) (n : ℕ) → 0 < n → n ≤ length bytes → get_or bytes (n - 1) 0 ≡ 0 → take n bytes ≡ take (n - 1) bytes ++ 0 ∷ []
last_split bytes zero some long e = absurd (omega arith)
last_split bytes (suc n) some long e =
    let back : suc n - 1 ≡ n = omega arith in
    let last : get_or bytes n 0 ≡ 0 = rw back at e in
    rw back (take-suc bytes n 0 (omega arith) ∙ ap (λ (x : ℕ). take n bytes ++ x ∷ []) last)

pub or_false : (a b : Bool) → (a || b) ≡ false → (a ≡ false) × (b ≡ false)
or_false false false e = (refl, refl)
or_false false true e = absurd cc
or_false true b e = absurd cc

pub string_takes : (end : ℕ) (bytes : List ℕ) (x : List ℕ × List ℕ) → IsBytes bytes → string_at end bytes ≡ Ok x → Takes bytes (text_spelling x.0) x.1 × (is_utf8 x.0 ≡ true)
unfolding string_at text_spelling
string_takes end bytes x fits e =
    let bad : BsonFault = BadLength (end - length bytes) in
    let b = bind_ok (number_at w32 end bytes) (λ n. cond (eqb n.0 0 || ltb (length n.1) n.0) (Err bad) (cond (eqb (get_or n.1 (n.0 - 1) 0) 0) (text_to end n.1 n.0) (Err bad))) x e in
    let n : ℕ = b.0.0 in
    let rest : List ℕ = b.0.1 in
    let t = number_takes w32 (2 ^ 32) wide32 end bytes n rest fits b.1 in
    let g = guard_ok (eqb n 0 || ltb (length rest) n) bad (cond (eqb (get_or rest (n - 1) 0) 0) (text_to end rest n) (Err bad)) x b.2 in
    let tests = or_false (eqb n 0) (ltb (length rest) n) g.0 in
    let p = passed_ok (eqb (get_or rest (n - 1) 0) 0) bad (text_to end rest n) x g.1 in
    let q = passed_ok (is_utf8 (take (n - 1) rest)) (BadUtf8 (end - length rest)) (Ok (take (n - 1) rest, drop n rest)) x p.1 in
    let some : 0 < n = grind (arith, nat_tests, tests.0) in
    let long : n ≤ length rest = ltb-false _ _ tests.1 in
    let text : List ℕ = take (n - 1) rest in
    let text_len : length text + 1 ≡ n = omega (arith, length-take (n - 1) rest) in
    let cut : take n rest ≡ text ++ 0 ∷ [] = last_split rest n some long (eqb-true _ _ p.0) in
    let second : Takes rest (text ++ 0 ∷ []) (drop n rest) = record { parts = sym (take-append-drop n rest) ∙ ap (λ (y : List ℕ). y ++ drop n rest) cut; rest_fits = IsBytes-drop n rest t.0.rest_fits } in
    let both = Takes-then bytes (to_le_bytes w32 n) rest (text ++ 0 ∷ []) (drop n rest) t.0 second in
    let whole_text : Takes bytes (text_spelling text) (drop n rest) = subst (λ (k : ℕ). Takes bytes (to_le_bytes w32 k ++ (text ++ 0 ∷ [])) (drop n rest)) (sym text_len) both in
    ok_gives (λ (y : List ℕ × List ℕ). Takes bytes (text_spelling y.0) y.1 × (is_utf8 y.0 ≡ true)) (text, drop n rest) x q.1 (whole_text, q.0)

-- ---- values, over what reading inside gives

abbrev pub AreDue : Option ℕ → Elements → Type 0
AreDue None es = Unit {0}
AreDue (Some i) es = AreNumbered i es

due_first : (due : Option ℕ) (name : List ℕ) (t : Tree) (es : Elements) → is_due due name ≡ true → AreDue (next_due due) es → AreDue due (element name t es)
due_first None name t es e h = tt
due_first (Some i) name t es e h = (name_is name i e, h)

due_none : (due : Option ℕ) → AreDue due no_elements
due_none None = tt
due_none (Some i) = tt

-- what was read from all of the bytes of a document or array
pub record IsRead (levels : ℕ) (due : Option ℕ) (bytes : List ℕ) (es : Elements) : Type 0 where
  pub spelled : bytes ≡ spelling es
  pub elements : AreElements es
  pub shallow : depth es < levels
  pub numbered : AreDue due es

-- read takes documents with at most so many levels
pub record Reads (read : Reader) (levels : ℕ) : Type 0 where
  pub gives : (due : Option ℕ) (start : ℕ) (bytes : List ℕ) (es : Elements) → IsBytes bytes → IsFramed bytes → read due start bytes ≡ Ok es → IsRead levels due bytes es

-- what was taken for a value
pub record TakesValue (levels : ℕ) (bytes : List ℕ) (t : Tree) (rest : List ℕ) : Type 0 where
  pub takes : Takes bytes (value_spelling t) rest
  pub value : IsValue t
  pub shallow : tree_depth t ≤ levels

pub number_ok : (end : ℕ) (bytes : List ℕ) (n : ℕ) (rest : List ℕ) → number_at w32 end bytes ≡ Ok (n, rest) → (4 ≤ length bytes) × (from_le_bytes w32 (take 4 bytes) ≡ n)
number_ok end bytes n rest e =
    let g = guard_ok (ltb (length bytes) 4) (BadLength (end - length bytes)) (Ok (from_le_bytes w32 (take 4 bytes), drop 4 bytes)) (n, rest) e in
    (ltb-false _ _ g.0, ap (λ (p : ℕ × List ℕ). p.0) (ok_is (from_le_bytes w32 (take 4 bytes), drop 4 bytes) (n, rest) g.1))

take_take : (m n : ℕ) (bytes : List ℕ) → m ≤ n → take m (take n bytes) ≡ take m bytes
take_take zero n bytes h = refl
take_take (suc m) zero bytes h = absurd (omega arith)
take_take (suc m) (suc n) [] h = refl
take_take (suc m) (suc n) (b ∷ bytes) h = ap (λ (x : List ℕ). b ∷ x) (take_take m n bytes (omega arith))

-- a document or array that was taken from the front
pub record TakesDocument (levels : ℕ) (due : Option ℕ) (bytes : List ℕ) (es : Elements) (rest : List ℕ) : Type 0 where
  pub takes : Takes bytes (spelling es) rest
  pub elements : AreElements es
  pub shallow : depth es < levels
  pub numbered : AreDue due es

pub len_ok : (end : ℕ) (bytes : List ℕ) (n : ℕ) → len_at end bytes ≡ Ok n → (IsFramed (take n bytes)) × (n ≤ length bytes)
unfolding len_at
len_ok end bytes m e =
    let bad : BsonFault = BadLength (end - length bytes) in
    let b = bind_ok (number_at w32 end bytes) (λ n. cond (ltb n.0 5 || ltb (length bytes) n.0) (Err bad) (Ok n.0)) m e in
    let n : ℕ = b.0.0 in
    let g = guard_ok (ltb n 5 || ltb (length bytes) n) bad (Ok n) m b.2 in
    let same : n ≡ m = ok_is n m g.1 in
    let tests = or_false (ltb n 5) (ltb (length bytes) n) g.0 in
    let some : 5 ≤ n = ltb-false _ _ tests.0 in
    let long : n ≤ length bytes = ltb-false _ _ tests.1 in
    let len : length (take n bytes) ≡ n = omega (arith, length-take n bytes) in
    let counted : from_le_bytes w32 (take 4 (take n bytes)) ≡ length (take n bytes) = ap (from_le_bytes w32) (take_take 4 n bytes (omega arith)) ∙ (number_ok end bytes n b.0.1 b.1).1 ∙ sym len in
    subst (λ (k : ℕ). IsFramed (take k bytes) × (k ≤ length bytes)) same (record { long = omega arith; counted = counted }, long)

pub document_takes : (read : Reader) (levels : ℕ) (due : Option ℕ) (end : ℕ) (bytes : List ℕ) (x : Elements × List ℕ) → Reads read levels → IsBytes bytes → document_at (read due) end bytes ≡ Ok x
    → TakesDocument levels due bytes x.0 x.1
unfolding document_at
document_takes read levels due end bytes x reads fits e =
    let b = bind_ok (len_at end bytes) (λ n. read due (end - length bytes) (take n bytes) >>= λ es. Ok (es, drop n bytes)) x e in
    let n : ℕ = b.0 in
    let front = len_ok end bytes n b.1 in
    let r = bind_ok (read due (end - length bytes) (take n bytes)) (λ es. Ok (es, drop n bytes)) x b.2 in
    let es : Elements = r.0 in
    let given = reads.gives due (end - length bytes) (take n bytes) es (IsBytes-take n bytes fits) front.0 r.1 in
    let parts : bytes ≡ spelling es ++ drop n bytes = sym (take-append-drop n bytes) ∙ ap (λ (y : List ℕ). y ++ drop n bytes) given.spelled in
    ok_gives (λ (y : Elements × List ℕ). TakesDocument levels due bytes y.0 y.1) (es, drop n bytes) x r.2
    (record { takes = record { parts = parts; rest_fits = IsBytes-drop n bytes fits }; elements = given.elements; shallow = given.shallow; numbered = given.numbered })

bytes_take : (n end : ℕ) (bytes : List ℕ) (x : List ℕ × List ℕ) → IsBytes bytes → bytes_at n end bytes ≡ Ok x → Takes bytes x.0 x.1 × (length x.0 ≡ n)
bytes_take n end bytes x fits e =
    let g = guard_ok (ltb (length bytes) n) (BadLength (end - length bytes)) (Ok (take n bytes, drop n bytes)) x e in
    let long : n ≤ length bytes = ltb-false _ _ g.0 in
    ok_gives (λ (y : List ℕ × List ℕ). Takes bytes y.0 y.1 × (length y.0 ≡ n)) (take n bytes, drop n bytes) x g.1
    (record { parts = sym (take-append-drop n bytes); rest_fits = IsBytes-drop n bytes fits }, omega (arith, length-take n bytes))

first_byte : (bytes : List ℕ) → 0 < length bytes → bytes ≡ get_or bytes 0 0 ∷ drop 1 bytes
first_byte [] h = absurd (omega arith)
first_byte (b ∷ bytes) h = refl

binary_takes : (end : ℕ) (bytes : List ℕ) (x : (ℕ × List ℕ) × List ℕ) → IsBytes bytes → binary_at end bytes ≡ Ok x → Takes bytes (to_le_bytes w32 (length x.0.1) ++ (x.0.0 ∷ x.0.1)) x.1 × (x.0.0 < 256)
unfolding binary_at
binary_takes end bytes x fits e =
    let bad : BsonFault = BadLength (end - length bytes) in
    let b = bind_ok (number_at w32 end bytes) (λ n. cond (ltb (length n.1) (n.0 + 1)) (Err bad) (Ok ((get_or n.1 0 0, take n.0 (drop 1 n.1)), drop n.0 (drop 1 n.1)))) x e in
    let n : ℕ = b.0.0 in
    let rest : List ℕ = b.0.1 in
    let after : List ℕ = drop 1 rest in
    let t = number_takes w32 (2 ^ 32) wide32 end bytes n rest fits b.1 in
    let g = guard_ok (ltb (length rest) (n + 1)) bad (Ok ((get_or rest 0 0, take n after), drop n after)) x b.2 in
    let long : n + 1 ≤ length rest = ltb-false _ _ g.0 in
    let after_fits = IsBytes-drop 1 rest t.0.rest_fits in
    let first : rest ≡ get_or rest 0 0 ∷ after = first_byte rest (omega arith) in
    let len : length (take n after) ≡ n = omega (arith, length-take n after, length-drop 1 rest) in
    let second : Takes rest (get_or rest 0 0 ∷ take n after) (drop n after) = record { parts = first ∙ ap (λ (y : List ℕ). get_or rest 0 0 ∷ y) (sym (take-append-drop n after)); rest_fits = IsBytes-drop n after after_fits } in
    let both = Takes-then bytes (to_le_bytes w32 n) rest (get_or rest 0 0 ∷ take n after) (drop n after) t.0 second in
    ok_gives (λ (y : (ℕ × List ℕ) × List ℕ). Takes bytes (to_le_bytes w32 (length y.0.1) ++ (y.0.0 ∷ y.0.1)) y.1 × (y.0.0 < 256)) ((get_or rest 0 0, take n after), drop n after) x g.1
    (subst (λ (k : ℕ). Takes bytes (to_le_bytes w32 k ++ (get_or rest 0 0 ∷ take n after)) (drop n after)) (sym len) both, t.0.rest_fits 0)

abbrev bit : Bool → ℕ
bit b = cond b 1 0

boolean_takes : (end : ℕ) (bytes : List ℕ) (x : Bool × List ℕ) → IsBytes bytes → boolean_at end bytes ≡ Ok x → Takes bytes (bit x.0 ∷ []) x.1
unfolding boolean_at
boolean_takes end [] x fits e = absurd cc
boolean_takes end (zero ∷ bytes) x fits e = ok_gives (λ (y : Bool × List ℕ). Takes (0 ∷ bytes) (bit y.0 ∷ []) y.1) (false, bytes) x e (record { parts = refl; rest_fits = IsBytes-tail 0 bytes fits })
boolean_takes end (suc zero ∷ bytes) x fits e = ok_gives (λ (y : Bool × List ℕ). Takes (1 ∷ bytes) (bit y.0 ∷ []) y.1) (true, bytes) x e (record { parts = refl; rest_fits = IsBytes-tail 1 bytes fits })
boolean_takes end (suc (suc b) ∷ bytes) x fits e =
    let not_zero : eqb (suc (suc b)) 0 ≡ false = grind (arith, nat_tests) in
    let not_one : eqb (suc (suc b)) 1 ≡ false = grind (arith, nat_tests) in
    let bad = rw (not_zero, not_one) at e in
    absurd cc

pub value_takes : (read : Reader) (levels : ℕ) (k : Kind) (end : ℕ) (bytes : List ℕ) (x : Tree × List ℕ) → Reads read levels → IsBytes bytes → value_at read k end bytes ≡ Ok x
    → TakesValue levels bytes x.0 x.1 × (kind_of (type_byte x.0) ≡ Some k)
unfolding value_at spelling
value_takes read levels kind.Int32 end bytes x reads fits e =
    let b = bind_ok (number_at w32 end bytes) (λ n. Ok (int32 (cast_signed w32 n.0), n.1)) x e in
    let t = number_takes w32 (2 ^ 32) wide32 end bytes b.0.0 b.0.1 fits b.1 in
    let bits : cast_unsigned w32 (cast_signed w32 b.0.0) ≡ b.0.0 = of_z-to_z w32 b.0.0 t.1 in
    let made : TakesValue levels bytes (int32 (cast_signed w32 b.0.0)) b.0.1 = record {
      takes = subst (λ (m : ℕ). Takes bytes (to_le_bytes w32 m) b.0.1) (sym bits) t.0;
      value = sfits_to_z (record { fits = t.1 });
      shallow = omega arith;
    } in
    ok_gives (λ (y : Tree × List ℕ). TakesValue levels bytes y.0 y.1 × (kind_of (type_byte y.0) ≡ Some kind.Int32)) (int32 (cast_signed w32 b.0.0), b.0.1) x b.2 (made, refl)
value_takes read levels kind.Int64 end bytes x reads fits e =
    let b = bind_ok (number_at w64 end bytes) (λ n. Ok (int64 (cast_signed w64 n.0), n.1)) x e in
    let t = number_takes w64 (2 ^ 64) wide64 end bytes b.0.0 b.0.1 fits b.1 in
    let bits : cast_unsigned w64 (cast_signed w64 b.0.0) ≡ b.0.0 = of_z-to_z w64 b.0.0 t.1 in
    let made : TakesValue levels bytes (int64 (cast_signed w64 b.0.0)) b.0.1 = record {
      takes = subst (λ (m : ℕ). Takes bytes (to_le_bytes w64 m) b.0.1) (sym bits) t.0;
      value = sfits_to_z (record { fits = t.1 });
      shallow = omega arith;
    } in
    ok_gives (λ (y : Tree × List ℕ). TakesValue levels bytes y.0 y.1 × (kind_of (type_byte y.0) ≡ Some kind.Int64)) (int64 (cast_signed w64 b.0.0), b.0.1) x b.2 (made, refl)
value_takes read levels kind.Date end bytes x reads fits e =
    let b = bind_ok (number_at w64 end bytes) (λ n. Ok (date (cast_signed w64 n.0), n.1)) x e in
    let t = number_takes w64 (2 ^ 64) wide64 end bytes b.0.0 b.0.1 fits b.1 in
    let bits : cast_unsigned w64 (cast_signed w64 b.0.0) ≡ b.0.0 = of_z-to_z w64 b.0.0 t.1 in
    let made : TakesValue levels bytes (date (cast_signed w64 b.0.0)) b.0.1 = record {
      takes = subst (λ (m : ℕ). Takes bytes (to_le_bytes w64 m) b.0.1) (sym bits) t.0;
      value = sfits_to_z (record { fits = t.1 });
      shallow = omega arith;
    } in
    ok_gives (λ (y : Tree × List ℕ). TakesValue levels bytes y.0 y.1 × (kind_of (type_byte y.0) ≡ Some kind.Date)) (date (cast_signed w64 b.0.0), b.0.1) x b.2 (made, refl)
value_takes read levels kind.Timestamp end bytes x reads fits e =
    let a = bind_ok (number_at w32 end bytes) (λ i. number_at w32 end i.1 >>= λ s. Ok (timestamp s.0 i.0, s.1)) x e in
    let b = bind_ok (number_at w32 end a.0.1) (λ s. Ok (timestamp s.0 a.0.0, s.1)) x a.2 in
    let t = number_takes w32 (2 ^ 32) wide32 end bytes a.0.0 a.0.1 fits a.1 in
    let u = number_takes w32 (2 ^ 32) wide32 end a.0.1 b.0.0 b.0.1 t.0.rest_fits b.1 in
    let made : TakesValue levels bytes (timestamp b.0.0 a.0.0) b.0.1 = record {
      takes = Takes-then bytes (to_le_bytes w32 a.0.0) a.0.1 (to_le_bytes w32 b.0.0) b.0.1 t.0 u.0;
      value = (u.1, t.1);
      shallow = omega arith;
    } in
    ok_gives (λ (y : Tree × List ℕ). TakesValue levels bytes y.0 y.1 × (kind_of (type_byte y.0) ≡ Some kind.Timestamp)) (timestamp b.0.0 a.0.0, b.0.1) x b.2 (made, refl)
value_takes read levels kind.ObjectId end bytes x reads fits e =
    let b = bind_ok (bytes_at 12 end bytes) (λ b. Ok (object_id b.0, b.1)) x e in
    let t = bytes_take 12 end bytes b.0 fits b.1 in
    let made : TakesValue levels bytes (object_id b.0.0) b.0.1 = record { takes = t.0; value = t.1; shallow = omega arith } in
    ok_gives (λ (y : Tree × List ℕ). TakesValue levels bytes y.0 y.1 × (kind_of (type_byte y.0) ≡ Some kind.ObjectId)) (object_id b.0.0, b.0.1) x b.2 (made, refl)
value_takes read levels kind.Binary end bytes x reads fits e =
    let b = bind_ok (binary_at end bytes) (λ b. Ok (binary b.0.0 b.0.1, b.1)) x e in
    let t = binary_takes end bytes b.0 fits b.1 in
    let made : TakesValue levels bytes (binary b.0.0.0 b.0.0.1) b.0.1 = record { takes = t.0; value = t.1; shallow = omega arith } in
    ok_gives (λ (y : Tree × List ℕ). TakesValue levels bytes y.0 y.1 × (kind_of (type_byte y.0) ≡ Some kind.Binary)) (binary b.0.0.0 b.0.0.1, b.0.1) x b.2 (made, refl)
value_takes read levels kind.Boolean end bytes x reads fits e =
    let b = bind_ok (boolean_at end bytes) (λ b. Ok (boolean b.0, b.1)) x e in
    let made : TakesValue levels bytes (boolean b.0.0) b.0.1 = record { takes = boolean_takes end bytes b.0 fits b.1; value = tt; shallow = omega arith } in
    ok_gives (λ (y : Tree × List ℕ). TakesValue levels bytes y.0 y.1 × (kind_of (type_byte y.0) ≡ Some kind.Boolean)) (boolean b.0.0, b.0.1) x b.2 (made, refl)
value_takes read levels kind.Null end bytes x reads fits e =
    ok_gives (λ (y : Tree × List ℕ). TakesValue levels bytes y.0 y.1 × (kind_of (type_byte y.0) ≡ Some kind.Null)) (null, bytes) x e
    (record { takes = record { parts = refl; rest_fits = fits }; value = tt; shallow = omega arith }, refl)
value_takes read levels kind.MinKey end bytes x reads fits e =
    ok_gives (λ (y : Tree × List ℕ). TakesValue levels bytes y.0 y.1 × (kind_of (type_byte y.0) ≡ Some kind.MinKey)) (min_key, bytes) x e
    (record { takes = record { parts = refl; rest_fits = fits }; value = tt; shallow = omega arith }, refl)
value_takes read levels kind.MaxKey end bytes x reads fits e =
    ok_gives (λ (y : Tree × List ℕ). TakesValue levels bytes y.0 y.1 × (kind_of (type_byte y.0) ≡ Some kind.MaxKey)) (max_key, bytes) x e
    (record { takes = record { parts = refl; rest_fits = fits }; value = tt; shallow = omega arith }, refl)
value_takes read levels kind.String end bytes x reads fits e =
    let b = bind_ok (string_at end bytes) (λ s. Ok (string s.0, s.1)) x e in
    let t = string_takes end bytes b.0 fits b.1 in
    let made : TakesValue levels bytes (string b.0.0) b.0.1 = record { takes = t.0; value = t.1; shallow = omega arith } in
    ok_gives (λ (y : Tree × List ℕ). TakesValue levels bytes y.0 y.1 × (kind_of (type_byte y.0) ≡ Some kind.String)) (string b.0.0, b.0.1) x b.2 (made, refl)
value_takes read levels kind.Document end bytes x reads fits e =
    let b = bind_ok (document_at (read None) end bytes) (λ d. Ok (document d.0, d.1)) x e in
    let t = document_takes read levels None end bytes b.0 reads fits b.1 in
    let made : TakesValue levels bytes (document b.0.0) b.0.1 = record { takes = t.takes; value = t.elements; shallow = omega (arith, t.shallow) } in
    ok_gives (λ (y : Tree × List ℕ). TakesValue levels bytes y.0 y.1 × (kind_of (type_byte y.0) ≡ Some kind.Document)) (document b.0.0, b.0.1) x b.2 (made, refl)
value_takes read levels kind.Array end bytes x reads fits e =
    let b = bind_ok (document_at (read (Some 0)) end bytes) (λ d. Ok (array (unnamed d.0), d.1)) x e in
    let t = document_takes read levels (Some 0) end bytes b.0 reads fits b.1 in
    let es : Elements = b.0.0 in
    let vs : Values = unnamed es in
    let spelled : elements_spelling es ≡ values_spelling 0 vs = ap elements_spelling (sym (named_again 0 es t.numbered)) ∙ numbered_spelling 0 vs in
    let made : TakesValue levels bytes (array vs) b.0.1 = record {
      takes = subst (λ (y : List ℕ). Takes bytes (framed y) b.0.1) spelled t.takes;
      value = numbered_values es t.elements;
      shallow = omega (arith, t.shallow, numbered_depth es);
    } in
    ok_gives (λ (y : Tree × List ℕ). TakesValue levels bytes y.0 y.1 × (kind_of (type_byte y.0) ≡ Some kind.Array)) (array vs, b.0.1) x b.2 (made, refl)

-- ---- elements

kind_ok : (end b : ℕ) (bytes : List ℕ) (o : Option Kind) (k : Kind) → kind_at end b bytes o ≡ Ok k → o ≡ Some k
kind_ok end b bytes None k e = absurd cc
kind_ok end b bytes (Some j) k e = cc

-- each kind has one byte
chosen : {A : Type 0} (b : Bool) (x y z : A) → cond b x y ≡ z → ((b ≡ true) × (x ≡ z)) ⊎ ((b ≡ false) × (y ≡ z))
chosen true x y z e = inl (refl, e)
chosen false x y z e = inr (refl, e)

kind_byte : Kind → ℕ
kind_byte kind.String = 0x02
kind_byte kind.Document = 0x03
kind_byte kind.Array = 0x04
kind_byte kind.Binary = 0x05
kind_byte kind.ObjectId = 0x07
kind_byte kind.Boolean = 0x08
kind_byte kind.Date = 0x09
kind_byte kind.Null = 0x0a
kind_byte kind.Int32 = 0x10
kind_byte kind.Timestamp = 0x11
kind_byte kind.Int64 = 0x12
kind_byte kind.MaxKey = 0x7f
kind_byte kind.MinKey = 0xff

byte_is : (b : ℕ) (k : Kind) → kind_of b ≡ Some k → b ≡ kind_byte k
unfolding kind_byte
byte_is b kind.String e = grind (arith, nat_tests)
byte_is b kind.Document e = grind (arith, nat_tests)
byte_is b kind.Array e = grind (arith, nat_tests)
byte_is b kind.Binary e = grind (arith, nat_tests)
byte_is b kind.ObjectId e = grind (arith, nat_tests)
byte_is b kind.Boolean e = grind (arith, nat_tests)
byte_is b kind.Date e = grind (arith, nat_tests)
byte_is b kind.Null e = grind (arith, nat_tests)
byte_is b kind.Int32 e = grind (arith, nat_tests)
byte_is b kind.Timestamp e = grind (arith, nat_tests)
byte_is b kind.Int64 e = grind (arith, nat_tests)
byte_is b kind.MaxKey e = grind (arith, nat_tests)
byte_is b kind.MinKey e = grind (arith, nat_tests)

same_byte : (b c : ℕ) (k : Kind) → kind_of b ≡ Some k → kind_of c ≡ Some k → b ≡ c
same_byte b c k p q = byte_is b k p ∙ sym (byte_is c k q)

pub type_takes : (start end : ℕ) (bytes : List ℕ) (x : Kind × List ℕ) → IsBytes bytes → type_at start end bytes ≡ Ok x → (b : ℕ) × Takes bytes (b ∷ []) x.1 × (kind_of b ≡ Some x.0)
type_takes start end [] x fits e = absurd cc
type_takes start end (b ∷ bytes) x fits e =
    let g = guard_ok (eqb b 0) (BadLength start) (kind_at end b (b ∷ bytes) (kind_of b) >>= λ k. Ok (k, bytes)) x e in
    let k = bind_ok (kind_at end b (b ∷ bytes) (kind_of b)) (λ k. Ok (k, bytes)) x g.1 in
    ok_gives (λ (y : Kind × List ℕ). (b' : ℕ) × Takes (b ∷ bytes) (b' ∷ []) y.1 × (kind_of b' ≡ Some y.0)) (k.0, bytes) x k.2
    (b, record { parts = refl; rest_fits = IsBytes-tail b bytes fits }, kind_ok end b (b ∷ bytes) (kind_of b) k.0 k.1)

-- what was taken for an element
pub record TakesElement (levels : ℕ) (due : Option ℕ) (bytes name : List ℕ) (t : Tree) (rest : List ℕ) : Type 0 where
  pub takes : Takes bytes (type_byte t ∷ ((name ++ 0 ∷ []) ++ value_spelling t)) rest
  pub named : IsName name
  pub is_it : is_due due name ≡ true
  pub value : IsValue t
  pub shallow : tree_depth t ≤ levels

pub element_takes : (read : Reader) (levels : ℕ) (due : Option ℕ) (start end : ℕ) (bytes : List ℕ) (x : (List ℕ × Tree) × List ℕ) → Reads read levels → IsBytes bytes → element_at read due start end bytes ≡ Ok x
    → TakesElement levels due bytes x.0.0 x.0.1 x.1
unfolding element_at
element_takes read levels due start end bytes x reads fits e =
    let a = bind_ok (type_at start end bytes) (λ k. name_at due end k.1 >>= λ name. value_at read k.0 end name.1 >>= λ value. Ok ((name.0, value.0), value.1)) x e in
    let b = bind_ok (name_at due end a.0.1) (λ name. value_at read a.0.0 end name.1 >>= λ value. Ok ((name.0, value.0), value.1)) x a.2 in
    let c = bind_ok (value_at read a.0.0 end b.0.1) (λ value. Ok ((b.0.0, value.0), value.1)) x b.2 in
    let name : List ℕ = b.0.0 in
    let t : Tree = c.0.0 in
    let first = type_takes start end bytes a.0 fits a.1 in
    let second = name_takes due end a.0.1 b.0 first.1.rest_fits b.1 in
    let third = value_takes read levels a.0.0 end b.0.1 c.0 reads second.takes.rest_fits c.1 in
    let same : first.0 ≡ type_byte t = same_byte first.0 (type_byte t) a.0.0 first.2 third.1 in
    let inner = Takes-then a.0.1 (name ++ 0 ∷ []) b.0.1 (value_spelling t) c.0.1 second.takes third.0.takes in
    let both = Takes-then bytes (first.0 ∷ []) a.0.1 ((name ++ 0 ∷ []) ++ value_spelling t) c.0.1 first.1 inner in
    let made : TakesElement levels due bytes name t c.0.1 = record {
      takes = subst (λ (b : ℕ). Takes bytes (b ∷ ((name ++ 0 ∷ []) ++ value_spelling t)) c.0.1) same both;
      named = second.named;
      is_it = second.is_it;
      value = third.0.value;
      shallow = third.0.shallow;
    } in
    ok_gives (λ (y : (List ℕ × Tree) × List ℕ). TakesElement levels due bytes y.0.0 y.0.1 y.1) ((name, t), c.0.1) x c.2 made

-- bytes that elements spell
pub record TakesElements (levels : ℕ) (due : Option ℕ) (bytes : List ℕ) (es : Elements) : Type 0 where
  pub spelled : bytes ≡ elements_spelling es
  pub elements : AreElements es
  pub shallow : depth es ≤ levels
  pub numbered : AreDue due es

pub elements_take : (read : Reader) (levels : ℕ) (due : Option ℕ) (start end most : ℕ) (bytes : List ℕ) (es : Elements) → Reads read levels → IsBytes bytes → elements_at read due start end most bytes ≡ Ok es → TakesElements levels due bytes es
unfolding elements_at
elements_take read levels due start end most [] es reads fits e =
    ok_gives (λ (y : Elements). TakesElements levels due [] y) no_elements es e (record { spelled = refl; elements = tt; shallow = omega arith; numbered = due_none due })
elements_take read levels due start end zero (b ∷ bytes) es reads fits e = absurd cc
elements_take read levels due start end (suc most) (b ∷ bytes) es reads fits e =
    let a = bind_ok (element_at read due start end (b ∷ bytes)) (λ x. elements_at read (next_due due) start end most x.1 >>= λ others. Ok (element x.0.0 x.0.1 others)) es e in
    let c = bind_ok (elements_at read (next_due due) start end most a.0.1) (λ others. Ok (element a.0.0.0 a.0.0.1 others)) es a.2 in
    let name : List ℕ = a.0.0.0 in
    let t : Tree = a.0.0.1 in
    let others : Elements = c.0 in
    let first = element_takes read levels due start end (b ∷ bytes) a.0 reads fits a.1 in
    let second = elements_take read levels (next_due due) start end most a.0.1 others reads first.takes.rest_fits c.1 in
    let spelled : b ∷ bytes ≡ elements_spelling (element name t others) = first.takes.parts ∙ ap (λ (y : List ℕ). (type_byte t ∷ ((name ++ 0 ∷ []) ++ value_spelling t)) ++ y) second.spelled ∙ ap (λ (y : List ℕ). type_byte t ∷ y) (append_assoc (name ++ 0 ∷ []) (value_spelling t) (elements_spelling others)) in
    ok_gives (λ (y : Elements). TakesElements levels due (b ∷ bytes) y) (element name t others) es c.2
    (record { spelled = spelled; elements = (first.named, first.value, second.elements); shallow = omega (arith, first.shallow, second.shallow); numbered = due_first due name t others first.is_it second.numbered })

-- ---- documents

ended_ok : (start : ℕ) (bytes : List ℕ) (es fs : Elements) → ended start bytes es ≡ Ok fs → (get_or bytes (length bytes - 1) 0 ≡ 0) × (es ≡ fs)
ended_ok start bytes es fs e =
    let p = passed_ok (eqb (get_or bytes (length bytes - 1) 0) 0) (BadLength start) (Ok es) fs e in
    (eqb-true _ _ p.0, ok_is es fs p.1)

-- its length, what lies between and its last byte
parted : (bytes : List ℕ) → IsBytes bytes → IsFramed bytes → get_or bytes (length bytes - 1) 0 ≡ 0 → bytes ≡ framed (body bytes)
unfolding framed
parted bytes fits f last =
    let len : ℕ = length bytes in
    let front : List ℕ = take 4 bytes in
    let tail : List ℕ = drop 4 bytes in
    let tail_len : length tail + 4 ≡ len = omega (arith, length-drop 4 bytes, f.long) in
    let back : length tail - 1 ≡ len - 1 - 4 = omega (arith, f.long) in
    let seen : get_or tail (length tail - 1) 0 ≡ 0 = rw get_or-drop (ap (λ (i : ℕ). get_or bytes i 0) (omega (arith, f.long)) ∙ last) in
    let cut : take (length tail) tail ≡ take (length tail - 1) tail ++ 0 ∷ [] = last_split tail (length tail) (omega (arith, f.long)) (omega arith) seen in
    let inner : tail ≡ body bytes ++ 0 ∷ [] = sym (take_all (length tail) tail (omega arith)) ∙ cut ∙ ap (λ (i : ℕ). take i tail ++ 0 ∷ []) back in
    let counts : length (body bytes) + 5 ≡ len = omega (arith, f.long, length-take (len - 1 - 4) tail) in
    let number : to_le_bytes w32 len ≡ front = ap (to_le_bytes w32) (sym f.counted) ∙ wide32.back front (omega (arith, f.long, length-take 4 bytes)) (IsBytes-take 4 bytes fits) in
    sym (take-append-drop 4 bytes) ∙ ap (λ (x : List ℕ). x ++ tail) (sym number) ∙ ap (λ (x : List ℕ). to_le_bytes w32 len ++ x) inner ∙ ap (λ (i : ℕ). to_le_bytes w32 i ++ (body bytes ++ 0 ∷ [])) (sym counts)

pub nested_takes : (levels : ℕ) (due : Option ℕ) (start : ℕ) (bytes : List ℕ) (es : Elements) → IsBytes bytes → IsFramed bytes → nested_at levels due start bytes ≡ Ok es → IsRead levels due bytes es
unfolding nested_at spelling
nested_takes zero due start bytes es fits f e = absurd cc
nested_takes (suc levels) due start bytes es fits f e =
    let b = bind_ok (elements_at (nested_at levels) due start (start + (length bytes - 1)) (length (body bytes)) (body bytes)) (ended start bytes) es e in
    let end = ended_ok start bytes b.0 es b.2 in
    let reads : Reads (nested_at levels) levels = record { gives = λ d at bs ds h g r. nested_takes levels d at bs ds h g r } in
    let t = elements_take (nested_at levels) levels due start (start + (length bytes - 1)) (length (body bytes)) (body bytes) b.0 reads (IsBytes-take (length bytes - 1 - 4) (drop 4 bytes) (IsBytes-drop 4 bytes fits)) b.1 in
    subst (λ (y : Elements). IsRead (suc levels) due bytes y) end.1
    (record { spelled = parted bytes fits f end.0 ∙ ap framed t.spelled; elements = t.elements; shallow = omega (arith, t.shallow); numbered = t.numbered })

-- ---- all of the bytes

pub whole_takes : (bytes : List ℕ) (es : Elements) → IsBytes bytes → whole bytes ≡ Ok es → (bytes ≡ spelling es) × IsDocument es
unfolding whole
whole_takes bytes es fits e =
    let len : ℕ = length bytes in
    let b = bind_ok (number_at w32 len bytes) (λ n. cond (ltb n.0 5 || (ltb n.0 len || ltb len n.0)) (Err (BadLength 0)) (cond (ltb 0x100_0000 n.0) (Err TooLong) (nested_at 100 None 0 bytes))) es e in
    let n : ℕ = b.0.0 in
    let g = guard_ok (ltb n 5 || (ltb n len || ltb len n)) (BadLength 0) (cond (ltb 0x100_0000 n) (Err TooLong) (nested_at 100 None 0 bytes)) es b.2 in
    let h = guard_ok (ltb 0x100_0000 n) TooLong (nested_at 100 None 0 bytes) es g.1 in
    let tests = or_false (ltb n 5) (ltb n len || ltb len n) g.0 in
    let sizes = or_false (ltb n len) (ltb len n) tests.1 in
    let some : 5 ≤ n = ltb-false _ _ tests.0 in
    let above : len ≤ n = ltb-false _ _ sizes.0 in
    let below : n ≤ len = ltb-false _ _ sizes.1 in
    let short : n ≤ 0x100_0000 = ltb-false _ _ h.0 in
    let same : n ≡ len = omega arith in
    let f : IsFramed bytes = record { long = omega arith; counted = (number_ok len bytes n b.0.1 b.1).1 ∙ same } in
    let t = nested_takes 100 None 0 bytes es fits f h.1 in
    (t.spelled, record { elements = t.elements; levels = t.shallow; short = omega (arith, ap length t.spelled) })
