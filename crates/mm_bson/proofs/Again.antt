-- What is spelled so is read.
use Rattle.std.proofs.Common.{◌≡◌, ℕ, zero, suc, ◌+◌, ◌-◌, ◌^◌, ◌<◌, ◌≤◌, Bool, true, false, eqb, ltb, not, List, [], ◌∷◌, ◌++◌, length, get_or, take, drop, ℤ, Option, Some, None, Result, Ok, refl, sym, ap, subst, ◌∙◌, append_assoc, arith}
use Rattle.std.specs.Str.{is_utf8}
use Rattle.std.specs.List.{prefix_len}
use Rattle.std.specs.Int.{w32, w64, to_le_bytes, cast_unsigned}
use Rattle.std.specs.Int.RustNames.{FitsSigned}
use Rattle.std.proofs.lemmas.Bool.{le-ltb, lt-ltb}
use Rattle.std.proofs.lemmas.Bool.Decides.{nat_tests}
use Rattle.std.proofs.lemmas.Int.{to_z-of_z, ints}
use Rattle.std.proofs.Math.Seq.{get_or-append_seam}
use Rattle.std.proofs.lemmas.List.{take_at, drop_at, length-append}
use Rattle.mm_bson.specs.declared.fault.BsonFault.{BsonFault}
use Rattle.mm_bson.specs.declared.kind.Kind.{Kind}
use Rattle.mm_bson.specs.declared.kind.Kind.TheVariants as kind
use Rattle.mm_bson.specs.Tree.{Tree, min_key, null, int32, int64, string, document, array, binary, object_id, boolean, date, timestamp, max_key, Elements, no_elements, element, Values, no_values, item, tree_depth, depth, values_depth, count}
use Rattle.mm_bson.specs.Named.{named}
use Rattle.mm_bson.specs.Spelling.{type_byte, framed, text_spelling, value_spelling, elements_spelling, values_spelling, spelling, IsName, HasNoZero, IsValue, AreElements, AreValues, IsDocument}
use Rattle.mm_bson.specs.Reading.{Reader, is_due, type_at, number_at, name_at, string_at, binary_at, boolean_at, len_at, document_at, value_at, element_at, elements_at, body, nested_at, whole}
use Rattle.mm_bson.specs.Piece.{text_at}
use Rattle.mm_bson.proofs.Bytes.{wide32, wide64, number_again}
use Rattle.mm_bson.proofs.Numbered.{unnamed_again, numbered_spelling, numeral_is_name, is_itself}
use Rattle.mm_bson.proofs.Parts.{string_parts}
use Rattle.std.specs.Fmt.{decimal}

-- ---- names

abbrev pub not_zero : ℕ → Bool
not_zero b = not (eqb b 0)

pub name_len : (name rest : List ℕ) → HasNoZero name → prefix_len not_zero (name ++ 0 ∷ rest) ≡ length name
name_len [] rest h = refl
name_len (b ∷ name) rest h =
    let e : eqb b 0 ≡ false = grind (arith, nat_tests, h.0) in
    rw e (omega (arith, name_len name rest h.1))

pub name_again : (due : Option ℕ) (end : ℕ) (name rest : List ℕ) → IsName name → is_due due name ≡ true → name_at due end ((name ++ 0 ∷ []) ++ rest) ≡ Ok (name, rest)
unfolding name_at
name_again due end name rest h is_it =
    let joined : (name ++ 0 ∷ []) ++ rest ≡ name ++ 0 ∷ rest = append_assoc name (0 ∷ []) rest in
    let n : prefix_len not_zero (name ++ 0 ∷ rest) ≡ length name = name_len name rest h.1 in
    let within : ltb (length name) (length (name ++ 0 ∷ rest)) ≡ true = lt-ltb _ _ (omega (arith, length-append name (0 ∷ rest))) in
    let after : drop (length name + 1) (name ++ 0 ∷ rest) ≡ rest = ap (drop (length name + 1)) (sym joined) ∙ drop_at (name ++ 0 ∷ []) rest (length name + 1) (omega (arith, length-append name (0 ∷ []))) in
    rw (joined, n, within, take_at name (0 ∷ rest) (length name) refl, h.0, is_it, after) refl

-- ---- texts

pub text_again : (end : ℕ) (s rest : List ℕ) → length (text_spelling s) < 2 ^ 32 → text_at end (text_spelling s ++ rest) ≡ Ok (s, rest)
unfolding text_at text_spelling
text_again end s rest lt =
    let n : ℕ = length s + 1 in
    let tail : List ℕ = (s ++ 0 ∷ []) ++ rest in
    let joined : tail ≡ s ++ 0 ∷ rest = append_assoc s (0 ∷ []) rest in
    let small : n < 2 ^ 32 = omega (arith, length-append s (0 ∷ []), lt) in
    let some : eqb n 0 ≡ false = grind (arith, nat_tests) in
    let long : ltb (length tail) n ≡ false = le-ltb _ _ (omega (arith, ap length joined, length-append s (0 ∷ rest))) in
    let back : n - 1 ≡ length s = omega arith in
    let last : get_or tail (length s) 0 ≡ 0 = ap (λ (x : List ℕ). get_or x (length s) 0) joined ∙ get_or-append_seam s 0 rest 0 in
    let front : take (length s) tail ≡ s = ap (take (length s)) joined ∙ take_at s (0 ∷ rest) (length s) refl in
    let after : drop n tail ≡ rest = drop_at (s ++ 0 ∷ []) rest n (omega (arith, length-append s (0 ∷ []))) in
    ap (text_at end) (append_assoc (to_le_bytes w32 n) (s ++ 0 ∷ []) rest) ∙ rw (number_again w32 (2 ^ 32) wide32 end n tail small, some, long, back, last, front, after) refl

pub string_again : (end : ℕ) (s rest : List ℕ) → is_utf8 s ≡ true → length (text_spelling s) < 2 ^ 32 → string_at end (text_spelling s ++ rest) ≡ Ok (s, rest)
string_again end s rest text lt = string_parts end (text_spelling s ++ rest) ∙ rw (text_again end s rest lt, text) refl

-- ---- documents

pub inner_len : (inner : List ℕ) → length (framed inner) ≡ length inner + 5
unfolding framed
inner_len inner = omega (arith, length-append inner (0 ∷ []))

pub spelling_len : (es : Elements) → length (spelling es) ≡ length (elements_spelling es) + 5
unfolding spelling
spelling_len es = inner_len (elements_spelling es)

pub spelling_opened : (es : Elements) → spelling es ≡ to_le_bytes w32 (length (spelling es)) ++ (elements_spelling es ++ 0 ∷ [])
unfolding spelling framed
spelling_opened es = ap (λ (n : ℕ). to_le_bytes w32 n ++ (elements_spelling es ++ 0 ∷ [])) (sym (spelling_len es))

pub spelling_parts : (es : Elements) (rest : List ℕ) → spelling es ++ rest ≡ to_le_bytes w32 (length (spelling es)) ++ ((elements_spelling es ++ 0 ∷ []) ++ rest)
spelling_parts es rest = ap (λ (x : List ℕ). x ++ rest) (spelling_opened es) ∙ append_assoc (to_le_bytes w32 (length (spelling es))) (elements_spelling es ++ 0 ∷ []) rest

pub document_again : (read : ℕ → List ℕ → Result Elements BsonFault) (end : ℕ) (es : Elements) (rest : List ℕ) → length (spelling es) < 2 ^ 32 → ((start : ℕ) → read start (spelling es) ≡ Ok es)
    → document_at read end (spelling es ++ rest) ≡ Ok (es, rest)
unfolding document_at len_at
document_again read end es rest lt reads =
    let n : ℕ = length (spelling es) in
    let number = ap (number_at w32 end) (spelling_parts es rest) ∙ number_again w32 (2 ^ 32) wide32 end n ((elements_spelling es ++ 0 ∷ []) ++ rest) lt in
    let some : ltb n 5 ≡ false = le-ltb _ _ (omega (arith, spelling_len es)) in
    let long : ltb (length (spelling es ++ rest)) n ≡ false = le-ltb _ _ (omega (arith, length-append (spelling es) rest)) in
    rw (number, some, long, take_at (spelling es) rest n refl, reads (end - length (spelling es ++ rest)), drop_at (spelling es) rest n refl) refl

-- the last byte of a document and what lies between
pub nested_from : (levels : ℕ) (due : Option ℕ) (start : ℕ) (es : Elements)
    → ((end : ℕ) → elements_at (nested_at levels) due start end (length (elements_spelling es)) (elements_spelling es) ≡ Ok es) → nested_at (suc levels) due start (spelling es) ≡ Ok es
unfolding nested_at
nested_from levels due start es given =
    let bytes : List ℕ = spelling es in
    let inner : List ℕ = elements_spelling es in
    let len = spelling_len es in
    let parts : bytes ≡ to_le_bytes w32 (length bytes) ++ (inner ++ 0 ∷ []) = spelling_opened es in
    let between : length bytes - 1 - 4 ≡ length inner = omega (arith, len) in
    let tail : drop 4 bytes ≡ inner ++ 0 ∷ [] = ap (drop 4) parts ∙ drop_at (to_le_bytes w32 (length bytes)) (inner ++ 0 ∷ []) 4 refl in
    let inside : body bytes ≡ inner = ap (take (length bytes - 1 - 4)) tail ∙ ap (λ (i : ℕ). take i (inner ++ 0 ∷ [])) between ∙ take_at inner (0 ∷ []) (length inner) refl in
    let place : length bytes - 1 ≡ length (to_le_bytes w32 (length bytes) ++ inner) = omega (arith, len, length-append (to_le_bytes w32 (length bytes)) inner) in
    let last : get_or bytes (length bytes - 1) 0 ≡ 0 = ap (get_or bytes (length bytes - 1)) refl ∙ ap (λ (i : ℕ). get_or bytes i 0) place ∙ ap (λ (x : List ℕ). get_or x (length (to_le_bytes w32 (length bytes) ++ inner)) 0) (parts ∙ sym (append_assoc (to_le_bytes w32 (length bytes)) inner (0 ∷ []))) ∙ get_or-append_seam (to_le_bytes w32 (length bytes) ++ inner) 0 [] 0 in
    let read : elements_at (nested_at levels) due start (start + (length bytes - 1)) (length (body bytes)) (body bytes) ≡ Ok es = ap (λ (x : List ℕ). elements_at (nested_at levels) due start (start + (length bytes - 1)) (length x) x) inside ∙ given (start + (length bytes - 1)) in
    rw (read, last) refl

-- ---- values and elements

abbrev pub kind_for : Tree → Kind
kind_for (int32 z) = kind.Int32
kind_for (int64 z) = kind.Int64
kind_for (string s) = kind.String
kind_for (document es) = kind.Document
kind_for (array vs) = kind.Array
kind_for (binary k bytes) = kind.Binary
kind_for (object_id bytes) = kind.ObjectId
kind_for (boolean b) = kind.Boolean
kind_for (date z) = kind.Date
kind_for (timestamp s i) = kind.Timestamp
kind_for min_key = kind.MinKey
kind_for null = kind.Null
kind_for max_key = kind.MaxKey

pub type_again : (start end : ℕ) (t : Tree) (rest : List ℕ) → type_at start end (type_byte t ∷ rest) ≡ Ok (kind_for t, rest)
type_again start end (int32 z) rest = refl
type_again start end (int64 z) rest = refl
type_again start end (string s) rest = refl
type_again start end (document es) rest = refl
type_again start end (array vs) rest = refl
type_again start end (binary k bytes) rest = refl
type_again start end (object_id bytes) rest = refl
type_again start end (boolean b) rest = refl
type_again start end (date z) rest = refl
type_again start end (timestamp s i) rest = refl
type_again start end min_key rest = refl
type_again start end null rest = refl
type_again start end max_key rest = refl

pub int32_again : (read : Reader) (end : ℕ) (z : ℤ) (rest : List ℕ) → FitsSigned w32 z → value_at read kind.Int32 end (value_spelling (int32 z) ++ rest) ≡ Ok (int32 z, rest)
unfolding value_at
int32_again read end z rest fits =
    let small : cast_unsigned w32 z < 2 ^ 32 = omega (arith, ints) in
    rw (number_again w32 (2 ^ 32) wide32 end (cast_unsigned w32 z) rest small, to_z-of_z w32 z fits) refl

int64_again : (read : Reader) (end : ℕ) (z : ℤ) (rest : List ℕ) → FitsSigned w64 z → value_at read kind.Int64 end (value_spelling (int64 z) ++ rest) ≡ Ok (int64 z, rest)
unfolding value_at
int64_again read end z rest fits =
    let small : cast_unsigned w64 z < 2 ^ 64 = omega (arith, ints) in
    rw (number_again w64 (2 ^ 64) wide64 end (cast_unsigned w64 z) rest small, to_z-of_z w64 z fits) refl

date_again : (read : Reader) (end : ℕ) (z : ℤ) (rest : List ℕ) → FitsSigned w64 z → value_at read kind.Date end (value_spelling (date z) ++ rest) ≡ Ok (date z, rest)
unfolding value_at
date_again read end z rest fits =
    let small : cast_unsigned w64 z < 2 ^ 64 = omega (arith, ints) in
    rw (number_again w64 (2 ^ 64) wide64 end (cast_unsigned w64 z) rest small, to_z-of_z w64 z fits) refl

pub binary_again : (end k : ℕ) (bytes rest : List ℕ) → length (value_spelling (binary k bytes)) < 2 ^ 32 → binary_at end (value_spelling (binary k bytes) ++ rest) ≡ Ok ((k, bytes), rest)
unfolding binary_at
binary_again end k bytes rest short =
    let n : ℕ = length bytes in
    let small : n < 2 ^ 32 = omega (arith, short) in
    let long : ltb (length (k ∷ (bytes ++ rest))) (n + 1) ≡ false = le-ltb _ _ (omega (arith, length-append bytes rest)) in
    rw (number_again w32 (2 ^ 32) wide32 end n (k ∷ (bytes ++ rest)) small, long, take_at bytes rest n refl, drop_at bytes rest n refl) refl

-- how long an element is
pub element_len_is : (t : Tree) (name others : List ℕ) → length (type_byte t ∷ ((name ++ 0 ∷ []) ++ (value_spelling t ++ others))) ≡ suc (length name + 1 + (length (value_spelling t) + length others))
element_len_is t name others = omega (arith, length-append (name ++ 0 ∷ []) (value_spelling t ++ others), length-append name (0 ∷ []), length-append (value_spelling t) others)

pub count_le : (i : ℕ) (vs : Values) → count vs ≤ length (values_spelling i vs)
count_le i no_values = omega arith
count_le i (item t vs) = omega (arith, element_len_is t (decimal i) (values_spelling (i + 1) vs), count_le (i + 1) vs)

mutual
  unfolding value_at spelling elements_at element_at boolean_at

  pub value_again : (t : Tree) (levels end : ℕ) (rest : List ℕ) → IsValue t → tree_depth t ≤ levels → length (value_spelling t) < 2 ^ 32
      → value_at (nested_at levels) (kind_for t) end (value_spelling t ++ rest) ≡ Ok (t, rest)
  value_again (int32 z) levels end rest fits deep short = int32_again (nested_at levels) end z rest fits
  value_again (int64 z) levels end rest fits deep short = int64_again (nested_at levels) end z rest fits
  value_again (string s) levels end rest fits deep short = rw (string_again end s rest fits short) refl
  value_again (date z) levels end rest fits deep short = date_again (nested_at levels) end z rest fits
  value_again (timestamp s i) levels end rest fits deep short = rw (number_again w32 (2 ^ 32) wide32 end i (to_le_bytes w32 s ++ rest) fits.1, number_again w32 (2 ^ 32) wide32 end s rest fits.0) refl
  value_again (object_id bytes) levels end rest fits deep short =
      let long : ltb (length (bytes ++ rest)) 12 ≡ false = le-ltb _ _ (omega (arith, length-append bytes rest, fits)) in
      rw (long, take_at bytes rest 12 fits, drop_at bytes rest 12 fits) refl
  value_again (binary k bytes) levels end rest fits deep short = rw (binary_again end k bytes rest short) refl
  value_again (boolean true) levels end rest fits deep short = refl
  value_again (boolean false) levels end rest fits deep short = refl
  value_again null levels end rest fits deep short = refl
  value_again min_key levels end rest fits deep short = refl
  value_again max_key levels end rest fits deep short = refl
  value_again (document es) zero end rest fits deep short = absurd (omega arith)
  value_again (document es) (suc levels) end rest fits deep short =
      let small : length (elements_spelling es) < 2 ^ 32 = omega (arith, spelling_len es, short) in
      let inner = λ (start : ℕ). nested_from levels None start es (λ e. elements_again es levels start e (length (elements_spelling es)) fits (omega arith) small (omega arith)) in
      rw (document_again (nested_at (suc levels) None) end es rest short inner) refl
  value_again (array vs) zero end rest fits deep short = absurd (omega arith)
  value_again (array vs) (suc levels) end rest fits deep short =
      let es : Elements = named 0 vs in
      let spelled : values_spelling 0 vs ≡ elements_spelling es = sym (numbered_spelling 0 vs) in
      let same : framed (values_spelling 0 vs) ≡ spelling es = ap framed spelled in
      let small : length (values_spelling 0 vs) < 2 ^ 32 = omega (arith, inner_len (values_spelling 0 vs), short) in
      let few : count vs ≤ length (values_spelling 0 vs) = count_le 0 vs in
      let inner = λ (start : ℕ). nested_from levels (Some 0) start es (λ e. subst (λ (x : List ℕ). elements_at (nested_at levels) (Some 0) start e (length x) x ≡ Ok es) spelled
      (values_again vs 0 levels start e (length (values_spelling 0 vs)) fits (omega arith) small (omega arith) (omega arith))) in
      let read = document_again (nested_at (suc levels) (Some 0)) end es rest (omega (arith, ap length same, short)) inner in
      rw (same, read, unnamed_again 0 vs) refl

  pub elements_again : (es : Elements) (levels start end most : ℕ) → AreElements es → depth es ≤ levels → length (elements_spelling es) < 2 ^ 32 → length (elements_spelling es) ≤ most
      → elements_at (nested_at levels) None start end most (elements_spelling es) ≡ Ok es
  elements_again no_elements levels start end most fits deep short long = refl
  elements_again (element name t es) levels start end zero fits deep short long = absurd (omega arith)
  elements_again (element name t es) levels start end (suc most) fits deep short long =
      let others : List ℕ = elements_spelling es in
      let len = element_len_is t name others in
      let head = type_again start end t ((name ++ 0 ∷ []) ++ (value_spelling t ++ others)) in
      let named = name_again None end name (value_spelling t ++ others) fits.0 refl in
      let value = value_again t levels end others fits.1 (omega arith) (omega (arith, len, short)) in
      let rest = elements_again es levels start end most fits.2 (omega arith) (omega (arith, len, short)) (omega (arith, len, long)) in
      rw (head, named, value, rest) refl

  pub values_again : (vs : Values) (i levels start end most : ℕ) → AreValues vs → values_depth vs ≤ levels → length (values_spelling i vs) < 2 ^ 32 → length (values_spelling i vs) ≤ most → i + count vs < 2 ^ 64
      → elements_at (nested_at levels) (Some i) start end most (values_spelling i vs) ≡ Ok (named i vs)
  values_again no_values i levels start end most fits deep short long few = refl
  values_again (item t vs) i levels start end zero fits deep short long few = absurd (omega arith)
  values_again (item t vs) i levels start end (suc most) fits deep short long few =
      let name : List ℕ = decimal i in
      let others : List ℕ = values_spelling (i + 1) vs in
      let len = element_len_is t name others in
      let head = type_again start end t ((name ++ 0 ∷ []) ++ (value_spelling t ++ others)) in
      let named = name_again (Some i) end name (value_spelling t ++ others) (numeral_is_name i (omega arith)) (is_itself name) in
      let value = value_again t levels end others fits.0 (omega arith) (omega (arith, len, short)) in
      let rest = values_again vs (i + 1) levels start end most fits.1 (omega arith) (omega (arith, len, short)) (omega (arith, len, long)) (omega arith) in
      rw (head, named, value, rest) refl

-- ---- all of the bytes

pub whole_again : (es : Elements) → IsDocument es → whole (spelling es) ≡ Ok es
unfolding whole
whole_again es h =
    let bytes : List ℕ = spelling es in
    let n : ℕ = length bytes in
    let small : n < 2 ^ 32 = omega (arith, h.short) in
    let number = ap (number_at w32 n) (spelling_opened es) ∙ number_again w32 (2 ^ 32) wide32 n n (elements_spelling es ++ 0 ∷ []) small in
    let some : ltb n 5 ≡ false = le-ltb _ _ (omega (arith, spelling_len es)) in
    let same : ltb n n ≡ false = le-ltb _ _ (omega arith) in
    let short : ltb 0x100_0000 n ≡ false = le-ltb _ _ h.short in
    let read = nested_from 99 None 0 es (λ e. elements_again es 99 0 e (length (elements_spelling es)) h.elements (omega (arith, h.levels)) (omega (arith, spelling_len es, small)) (omega arith)) in
    rw (number, some, same, short) read

-- two documents of the same bytes are one
pub spelled_once : (d e : Elements) → IsDocument d → IsDocument e → spelling d ≡ spelling e → d ≡ e
spelled_once d e h g same = read_once d e (sym (whole_again d h) ∙ ap whole same ∙ whole_again e g)
  where
    read : Elements → Result Elements BsonFault
    read x = Ok x

    read_once : (x y : Elements) → read x ≡ read y → x ≡ y
    read_once x y p = cc
