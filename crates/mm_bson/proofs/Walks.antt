-- Walking through bytes that are known to spell a document.
use Rattle.std.proofs.Common.{◌≡◌, ℕ, ◌+◌, ◌-◌, ◌^◌, ◌<◌, ◌≤◌, true, false, eqb, ltb, List, [], ◌∷◌, ◌++◌, length, take, drop, ℤ, Result, Ok, Err, refl, sym, ap, subst, ◌∙◌, append_assoc, arith}
use Rattle.std.specs.Int.{w32, w64, to_le_bytes, cast_unsigned}
use Rattle.std.specs.Int.RustNames.{FitsSigned}
use Rattle.std.specs.List.{prefix_len}
use Rattle.std.specs.Str.{is_utf8}
use Rattle.std.proofs.lemmas.Bool.{le-ltb, lt-ltb}
use Rattle.std.proofs.lemmas.Bool.Decides.{nat_tests}
use Rattle.std.proofs.lemmas.Int.{to_z-of_z, ints}
use Rattle.std.proofs.lemmas.List.{take_at, drop_at, length-append}
use Rattle.mm_bson.specs.declared.fault.BsonFault.{BsonFault}
use Rattle.mm_bson.specs.declared.kind.Kind.TheVariants as kind
use Rattle.mm_bson.specs.Tree.{Tree, min_key, null, int32, int64, string, document, array, binary, object_id, boolean, date, timestamp, max_key, Elements, no_elements, element, Values, no_values, item, depth, values_depth, count}
use Rattle.mm_bson.specs.Named.{named, unnamed, AreNumbered}
use Rattle.mm_bson.specs.Spelling.{framed, value_spelling, elements_spelling, values_spelling, spelling, array_spelling, IsName, IsValue, AreElements, AreValues, IsDocument}
use Rattle.mm_bson.specs.Reading.{number_at, boolean_at, len_at, body}
use Rattle.mm_bson.specs.Piece.{Piece, plain, inner_document, inner_array, framed_at, piece_at, cut_at, piece_for}
use Rattle.mm_bson.specs.Built.{IsBuilt, IsBuiltArray}
use Rattle.mm_bson.specs.Walk.{or_nothing, elements_in, document_in, Spells, SpellsDocument, SpellsArray, IsHeld}
use Rattle.mm_bson.proofs.Bytes.{ok_is, wide32, wide64, number_again}
use Rattle.mm_bson.proofs.Numbered.{unnamed_again, named_again, numbered_spelling, numbered_depth, numbered_values, numeral_is_name}
use Rattle.mm_bson.proofs.Again.{not_zero, name_len, text_again, kind_for, type_again, spelling_len, spelling_opened, spelling_parts, binary_again, element_len_is, count_le, elements_again}

-- ---- pieces again

framed_again : (end : ℕ) (es : Elements) (rest : List ℕ) → length (spelling es) < 2 ^ 32 → framed_at end (spelling es ++ rest) ≡ Ok (spelling es, rest)
unfolding framed_at len_at
framed_again end es rest lt =
    let n : ℕ = length (spelling es) in
    let number = ap (number_at w32 end) (spelling_parts es rest) ∙ number_again w32 (2 ^ 32) wide32 end n ((elements_spelling es ++ 0 ∷ []) ++ rest) lt in
    let some : ltb n 5 ≡ false = le-ltb _ _ (omega (arith, spelling_len es)) in
    let long : ltb (length (spelling es ++ rest)) n ≡ false = le-ltb _ _ (omega (arith, length-append (spelling es) rest)) in
    rw (number, some, long, take_at (spelling es) rest n refl, drop_at (spelling es) rest n refl) refl

-- the spelling of an array is that of the document it stands for
pub array_spelling_is : (vs : Values) → spelling (named 0 vs) ≡ array_spelling vs
unfolding spelling array_spelling
array_spelling_is vs = ap framed (numbered_spelling 0 vs)

int32_piece : (end : ℕ) (z : ℤ) (rest : List ℕ) → FitsSigned w32 z → piece_at kind.Int32 end (value_spelling (int32 z) ++ rest) ≡ Ok (plain (int32 z), rest)
unfolding piece_at
int32_piece end z rest fits =
    let small : cast_unsigned w32 z < 2 ^ 32 = omega (arith, ints) in
    rw (number_again w32 (2 ^ 32) wide32 end (cast_unsigned w32 z) rest small, to_z-of_z w32 z fits) refl

int64_piece : (end : ℕ) (z : ℤ) (rest : List ℕ) → FitsSigned w64 z → piece_at kind.Int64 end (value_spelling (int64 z) ++ rest) ≡ Ok (plain (int64 z), rest)
unfolding piece_at
int64_piece end z rest fits =
    let small : cast_unsigned w64 z < 2 ^ 64 = omega (arith, ints) in
    rw (number_again w64 (2 ^ 64) wide64 end (cast_unsigned w64 z) rest small, to_z-of_z w64 z fits) refl

date_piece : (end : ℕ) (z : ℤ) (rest : List ℕ) → FitsSigned w64 z → piece_at kind.Date end (value_spelling (date z) ++ rest) ≡ Ok (plain (date z), rest)
unfolding piece_at
date_piece end z rest fits =
    let small : cast_unsigned w64 z < 2 ^ 64 = omega (arith, ints) in
    rw (number_again w64 (2 ^ 64) wide64 end (cast_unsigned w64 z) rest small, to_z-of_z w64 z fits) refl

pub piece_again : (t : Tree) (end : ℕ) (rest : List ℕ) → IsValue t → length (value_spelling t) < 2 ^ 32 → piece_at (kind_for t) end (value_spelling t ++ rest) ≡ Ok (piece_for t, rest)
unfolding piece_at spelling array_spelling boolean_at
piece_again (int32 z) end rest fits short = int32_piece end z rest fits
piece_again (int64 z) end rest fits short = int64_piece end z rest fits
piece_again (date z) end rest fits short = date_piece end z rest fits
piece_again (string s) end rest fits short = rw (text_again end s rest short) refl
piece_again (timestamp s i) end rest fits short = rw (number_again w32 (2 ^ 32) wide32 end i (to_le_bytes w32 s ++ rest) fits.1, number_again w32 (2 ^ 32) wide32 end s rest fits.0) refl
piece_again (object_id bytes) end rest fits short =
    let long : ltb (length (bytes ++ rest)) 12 ≡ false = le-ltb _ _ (omega (arith, length-append bytes rest, fits)) in
    rw (long, take_at bytes rest 12 fits, drop_at bytes rest 12 fits) refl
piece_again (binary k bytes) end rest fits short = rw (binary_again end k bytes rest short) refl
piece_again (boolean true) end rest fits short = refl
piece_again (boolean false) end rest fits short = refl
piece_again null end rest fits short = refl
piece_again min_key end rest fits short = refl
piece_again max_key end rest fits short = refl
piece_again (document es) end rest fits short = rw (framed_again end es rest short) refl
piece_again (array vs) end rest fits short =
    let es : Elements = named 0 vs in
    let same : framed (values_spelling 0 vs) ≡ spelling es = sym (array_spelling_is vs) in
    let read = framed_again end es rest (omega (arith, ap length same, short)) in
    rw (same, read) refl

-- an element is cut from the front
pub cut_again : (end : ℕ) (name : List ℕ) (t : Tree) (es : Elements) → IsName name → IsValue t → length (elements_spelling (element name t es)) < 2 ^ 31
    → cut_at end (elements_spelling (element name t es)) ≡ Ok ((name, piece_for t), elements_spelling es)
unfolding cut_at
cut_again end name t es h value short =
    let others : List ℕ = elements_spelling es in
    let behind : List ℕ = value_spelling t ++ others in
    let len = element_len_is t name others in
    let head = type_again 0 end t ((name ++ 0 ∷ []) ++ behind) in
    let joined : (name ++ 0 ∷ []) ++ behind ≡ name ++ 0 ∷ behind = append_assoc name (0 ∷ []) behind in
    let n : prefix_len not_zero (name ++ 0 ∷ behind) ≡ length name = name_len name behind h.1 in
    let within : ltb (length name) (length (name ++ 0 ∷ behind)) ≡ true = lt-ltb _ _ (omega (arith, length-append name (0 ∷ behind))) in
    let after : drop (length name + 1) (name ++ 0 ∷ behind) ≡ behind = ap (drop (length name + 1)) (sym joined) ∙ drop_at (name ++ 0 ∷ []) behind (length name + 1) (omega (arith, length-append name (0 ∷ []))) in
    let read = piece_again t end others value (omega (arith, len, short)) in
    rw (head, joined, n, within, take_at name (0 ∷ behind) (length name) refl, after, read) refl

-- ---- what bytes stand for

pub elements_in-again : (es : Elements) → AreElements es → depth es < 100 → length (elements_spelling es) < 2 ^ 31 → elements_in (elements_spelling es) ≡ es
unfolding elements_in
elements_in-again es fits deep short = ap or_nothing (elements_again es 99 0 0 (length (elements_spelling es)) fits (omega arith) (omega arith) (omega arith))

pub body_is : (es : Elements) → body (spelling es) ≡ elements_spelling es
body_is es =
    let bytes : List ℕ = spelling es in
    let inner : List ℕ = elements_spelling es in
    let parts : bytes ≡ to_le_bytes w32 (length bytes) ++ (inner ++ 0 ∷ []) = spelling_opened es in
    let between : length bytes - 1 - 4 ≡ length inner = omega (arith, spelling_len es) in
    let tail : drop 4 bytes ≡ inner ++ 0 ∷ [] = ap (drop 4) parts ∙ drop_at (to_le_bytes w32 (length bytes)) (inner ++ 0 ∷ []) 4 refl in
    ap (take (length bytes - 1 - 4)) tail ∙ ap (λ (i : ℕ). take i (inner ++ 0 ∷ [])) between ∙ take_at inner (0 ∷ []) (length inner) refl

pub document_in-again : (bytes : List ℕ) (es : Elements) → SpellsDocument bytes es → document_in bytes ≡ es
unfolding document_in
document_in-again bytes es h =
    ap (λ (x : List ℕ). elements_in (body x)) h.spelled ∙ ap elements_in (body_is es) ∙ elements_in-again es h.elements h.levels (omega (arith, spelling_len es, ap length h.spelled, h.fits))

pub document_held : (bytes : List ℕ) (es : Elements) → SpellsDocument bytes es → SpellsDocument bytes (document_in bytes)
document_held bytes es h = subst (SpellsDocument bytes) (sym (document_in-again bytes es h)) h

pub elements_held : (bytes : List ℕ) (es : Elements) → SpellsDocument bytes es → Spells (body bytes) (elements_in (body bytes))
elements_held bytes es h =
    let inner : body bytes ≡ elements_spelling es = ap body h.spelled ∙ body_is es in
    let len : length (elements_spelling es) < 2 ^ 31 = omega (arith, spelling_len es, ap length h.spelled, h.fits) in
    let same : elements_in (body bytes) ≡ es = ap elements_in inner ∙ elements_in-again es h.elements h.levels len in
    rw same (record { spelled = inner; elements = h.elements; levels = h.levels; fits = omega (arith, ap length inner, len) })

-- ---- arrays

named_elements : (i : ℕ) (vs : Values) → AreValues vs → i + count vs < 2 ^ 64 → AreElements (named i vs)
named_elements i no_values h few = tt
named_elements i (item t vs) h few = (numeral_is_name i (omega arith), h.0, named_elements (i + 1) vs h.1 (omega arith))

named_numbered : (i : ℕ) (vs : Values) → AreNumbered i (named i vs)
named_numbered i no_values = tt
named_numbered i (item t vs) = (refl, named_numbered (i + 1) vs)

pub array_spells : (bytes : List ℕ) (vs : Values) → bytes ≡ array_spelling vs → AreValues vs → values_depth vs < 100 → length bytes < 2 ^ 31 → SpellsArray bytes (named 0 vs)
array_spells bytes vs is fits deep short =
    let len = spelling_len (named 0 vs) in
    let same : length bytes ≡ length (spelling (named 0 vs)) = ap length (is ∙ sym (array_spelling_is vs)) in
    let inner : length (elements_spelling (named 0 vs)) ≡ length (values_spelling 0 vs) = ap length (numbered_spelling 0 vs) in
    let deep_is : depth (named 0 vs) ≡ values_depth vs = sym (numbered_depth (named 0 vs)) ∙ ap values_depth (unnamed_again 0 vs) in
    record {
      document = record {
        spelled = is ∙ sym (array_spelling_is vs);
        elements = named_elements 0 vs fits (omega (arith, count_le 0 vs));
        levels = omega (arith, deep_is);
        fits = short;
      };
      numbered = named_numbered 0 vs;
    }

pub array_held : (bytes : List ℕ) (vs : Values) → SpellsArray bytes (named 0 vs) → SpellsArray bytes (document_in bytes) × (unnamed (document_in bytes) ≡ vs)
array_held bytes vs h =
    let same : document_in bytes ≡ named 0 vs = document_in-again bytes (named 0 vs) h.document in
    (subst (SpellsArray bytes) (sym same) h, ap unnamed same ∙ unnamed_again 0 vs)

-- ---- what the code asks

pub is_long : (bytes : List ℕ) (es : Elements) → SpellsDocument bytes es → 5 ≤ length bytes
is_long bytes es h = omega (arith, ap length h.spelled, spelling_len es)

pub fields_are : (bytes inner : List ℕ) → inner ≡ body bytes → elements_in inner ≡ document_in bytes
unfolding document_in
fields_are bytes inner e = ap elements_in e

pub fields_held : (bytes inner : List ℕ) (es : Elements) → inner ≡ body bytes → SpellsDocument bytes es → Spells inner (elements_in inner)
fields_held bytes inner es e h = rw e (elements_held bytes es h)

-- one step
pub record Stepped (es : Elements) (name : List ℕ) (p : Piece) (behind : List ℕ) : Type 0 where
  pub value : Tree
  pub lies : p ≡ piece_for value
  pub held : IsHeld value
  pub named : is_utf8 name ≡ true
  pub left : Spells behind (elements_in behind)
  pub parts : es ≡ element name value (elements_in behind)

abbrev got : List ℕ → Piece → List ℕ → Result ((List ℕ × Piece) × List ℕ) BsonFault
got name p behind = Ok ((name, p), behind)

got_same : (n : List ℕ) (p : Piece) (b : List ℕ) (m : List ℕ) (q : Piece) (c : List ℕ) → got n p b ≡ got m q c → (n ≡ m) × (p ≡ q) × (b ≡ c)
got_same n p b m q c e =
    let both = ok_is ((n, p), b) ((m, q), c) e in
    (ap (λ (y : (List ℕ × Piece) × List ℕ). y.0.0) both, ap (λ (y : (List ℕ × Piece) × List ℕ). y.0.1) both, ap (λ (y : (List ℕ × Piece) × List ℕ). y.1) both)

others_spell : (name : List ℕ) (t : Tree) (es : Elements) (bytes : List ℕ) → Spells bytes (element name t es) → Spells (elements_spelling es) es × IsHeld t
others_spell name t es bytes h =
    let len = element_len_is t name (elements_spelling es) in
    let all : length bytes ≡ length (elements_spelling (element name t es)) = ap length h.spelled in (
      record { spelled = refl; elements = h.elements.2; levels = omega (arith, h.levels); fits = omega (arith, h.fits, all, len) },
      record { value = h.elements.1; levels = omega (arith, h.levels); fits = omega (arith, h.fits, all, len) },
    )

cut_is : (name : List ℕ) (t : Tree) (es : Elements) (bytes : List ℕ) (end : ℕ) → Spells bytes (element name t es) → cut_at end bytes ≡ got name (piece_for t) (elements_spelling es)
cut_is name t es bytes end h = ap (cut_at end) h.spelled ∙ cut_again end name t es h.elements.0 h.elements.1 (omega (arith, h.fits, ap length h.spelled))

pub stepped : (bytes : List ℕ) (es : Elements) → Spells bytes es → eqb (length bytes) 0 ≡ false → (end : ℕ) (name : List ℕ) (p : Piece) (behind : List ℕ) → cut_at end bytes ≡ got name p behind → Stepped es name p behind
stepped bytes no_elements h some end name p behind e =
    let none : length bytes ≡ 0 = ap length h.spelled in
    absurd (grind (arith, nat_tests))
stepped bytes (element n t es) h some end name p behind e =
    let same = got_same n (piece_for t) (elements_spelling es) name p behind (sym (cut_is n t es bytes end h) ∙ e) in
    let next = others_spell n t es bytes h in
    let in_is : elements_in (elements_spelling es) ≡ es = elements_in-again es next.0.elements next.0.levels next.0.fits in
    record {
      value = t;
      lies = sym same.1;
      held = next.1;
      named = ap is_utf8 (sym same.0) ∙ h.elements.0.0;
      left = subst (λ (b : List ℕ). Spells b (elements_in b)) same.2 (rw in_is next.0);
      parts = ap (λ (m : List ℕ). element m t es) same.0 ∙ ap (element name t) (sym in_is ∙ ap elements_in same.2);
    }

pub not_refused : (bytes : List ℕ) (es : Elements) → Spells bytes es → eqb (length bytes) 0 ≡ false → (end : ℕ) (f : BsonFault) → cut_at end bytes ≡ Err f → ⊥
not_refused bytes no_elements h some end f e =
    let none : length bytes ≡ 0 = ap length h.spelled in
    grind (arith, nat_tests)
not_refused bytes (element n t es) h some end f e = differ (cut_at end bytes) (cut_is n t es bytes end h) e
  where
    differ : (r : Result ((List ℕ × Piece) × List ℕ) BsonFault) → r ≡ got n (piece_for t) (elements_spelling es) → r ≡ Err f → ⊥
    differ r a b = cc

-- values
pub document_lies : (b : List ℕ) (t : Tree) → inner_document b ≡ piece_for t → IsHeld t → SpellsDocument b (document_in b) × (document (document_in b) ≡ t)
unfolding spelling
document_lies b (document es) e h =
    let is : b ≡ spelling es = cc in
    let spells : SpellsDocument b es = record { spelled = is; elements = h.value; levels = omega (arith, h.levels); fits = omega (arith, ap length is, h.fits) } in
    (document_held b es spells, ap document (document_in-again b es spells))
document_lies b _ e h = absurd cc

pub array_lies : (b : List ℕ) (t : Tree) → inner_array b ≡ piece_for t → IsHeld t → SpellsArray b (document_in b) × (array (unnamed (document_in b)) ≡ t)
unfolding array_spelling
array_lies b (array vs) e h =
    let is : b ≡ array_spelling vs = cc in
    let held = array_held b vs (array_spells b vs is h.value (omega (arith, h.levels)) (omega (arith, ap length is, h.fits))) in
    (held.0, ap array held.1)
array_lies b _ e h = absurd cc

pub read_spells : (bytes : List ℕ) (es : Elements) → (bytes ≡ spelling es) × IsDocument es → SpellsDocument bytes es
read_spells bytes es h = record { spelled = h.0; elements = h.1.elements; levels = h.1.levels; fits = omega (arith, ap length h.0, h.1.short) }

pub array_spelled : (bytes : List ℕ) (es : Elements) → SpellsArray bytes es → bytes ≡ array_spelling (unnamed es)
array_spelled bytes es h = h.document.spelled ∙ ap spelling (sym (named_again 0 es h.numbered)) ∙ array_spelling_is (unnamed es)

pub list_held : (bytes : List ℕ) (es : Elements) → SpellsArray bytes es → SpellsArray bytes (document_in bytes)
list_held bytes es h = subst (SpellsArray bytes) (sym (document_in-again bytes es h.document)) h

pub list_is_held : (bytes : List ℕ) (vs : Values) → SpellsArray bytes (document_in bytes) → unnamed (document_in bytes) ≡ vs → SpellsArray bytes (named 0 vs)
list_is_held bytes vs h is = subst (SpellsArray bytes) (sym (named_again 0 (document_in bytes) h.numbered) ∙ ap (named 0) is) h

-- documents and arrays in memory
pub built_spells : (bytes : List ℕ) (es : Elements) → bytes ≡ spelling es → IsBuilt es → SpellsDocument bytes es
built_spells bytes es is h = record { spelled = is; elements = h.elements; levels = h.levels; fits = omega (arith, ap length is, h.fits) }

pub built_array_spells : (bytes : List ℕ) (vs : Values) → bytes ≡ array_spelling vs → IsBuiltArray vs → SpellsArray bytes (named 0 vs)
built_array_spells bytes vs is h = array_spells bytes vs is h.values h.levels (omega (arith, ap length is, h.fits))

pub spells_built : (bytes : List ℕ) (es : Elements) → SpellsDocument bytes es → IsBuilt es
spells_built bytes es h = record { elements = h.elements; levels = h.levels; fits = omega (arith, ap length h.spelled, h.fits) }

pub list_built : (bytes : List ℕ) (es : Elements) → SpellsArray bytes es → IsBuiltArray (unnamed es)
list_built bytes es h =
    let d = h.document in
    record { values = numbered_values es d.elements; levels = omega (arith, numbered_depth es, d.levels); fits = omega (arith, ap length (array_spelled bytes es h), d.fits) }
