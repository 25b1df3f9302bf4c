-- An element is read field by field, and then its value's inside.
use Rattle.std.proofs.Common.{◌≡◌, ℕ, ◌+◌, ◌-◌, ◌<◌, ◌≤◌, Bool, true, false, cond, eqb, ltb, ◌||◌, List, length, get_or, take, drop, Option, Some, None, Result, Ok, Err, refl, sym, ap, ◌∙◌, arith}
use Rattle.std.specs.Int.{w32, w64, cast_signed}
use Rattle.std.specs.Str.{is_utf8}
use Rattle.std.proofs.lemmas.Bool.{ltb-false}
use Rattle.std.proofs.lemmas.Bool.Decides.{nat_tests}
use Rattle.std.proofs.lemmas.List.{length-take, length-drop}
use Rattle.mm_bson.specs.declared.fault.BsonFault.{BsonFault}
use Rattle.mm_bson.specs.declared.fault.BsonFault.TheVariants.{BadUtf8}
use Rattle.mm_bson.specs.declared.kind.Kind.{Kind}
use Rattle.mm_bson.specs.declared.kind.Kind.TheVariants as kind
use Rattle.mm_bson.specs.Tree.{Tree, int32, int64, string, document, array, binary, object_id, boolean, date, timestamp, Elements}
use Rattle.mm_bson.specs.Named.{unnamed}
use Rattle.mm_bson.specs.Reading.{◌>>=◌, Reader, bad_length, number_at, bytes_at, boolean_at, binary_at, len_at, text_to, string_at, document_at, type_at, name_at, value_at, element_at}
use Rattle.mm_bson.specs.Piece.{Piece, plain, text, inner_document, inner_array, text_at, framed_at, piece_at, inside_at, head_at}
use Rattle.mm_bson.proofs.Takes.{len_ok}

-- answers with their types
abbrev texts : List ℕ → List ℕ → Result (List ℕ × List ℕ) BsonFault
texts s rest = Ok (s, rest)

abbrev one_tree : Tree → Result Tree BsonFault
one_tree t = Ok t

abbrev trees : Tree → List ℕ → Result (Tree × List ℕ) BsonFault
trees t rest = Ok (t, rest)

abbrev pieces : Piece → List ℕ → Result (Piece × List ℕ) BsonFault
pieces p rest = Ok (p, rest)

abbrev read_elements : Elements → List ℕ → Result (Elements × List ℕ) BsonFault
read_elements es rest = Ok (es, rest)

abbrev heads : List ℕ → Piece → List ℕ → Result ((List ℕ × Piece) × List ℕ) BsonFault
heads name p rest = Ok ((name, p), rest)

abbrev named_trees : List ℕ → Tree → List ℕ → Result ((List ℕ × Tree) × List ℕ) BsonFault
named_trees name t rest = Ok ((name, t), rest)

-- a value is a piece and the look inside
abbrev look : Reader → ℕ → Piece × List ℕ → Result (Tree × List ℕ) BsonFault
look read end p = inside_at read end p.0 (length p.1) >>= λ t. trees t p.1

abbrev pub joined : Reader → ℕ → Result (Piece × List ℕ) BsonFault → Result (Tree × List ℕ) BsonFault
joined read end r = r >>= look read end

bind_then : {A B C : Type 0} (r : Result A BsonFault) (f : A → Result B BsonFault) (g : B → Result C BsonFault) → ((r >>= f) >>= g) ≡ (r >>= λ x. f x >>= g)
bind_then (Ok x) f g = refl
bind_then (Err e) f g = refl

bind_same : {A B : Type 0} (r : Result A BsonFault) (f g : A → Result B BsonFault) → ((x : A) → r ≡ Ok x → f x ≡ g x) → (r >>= f) ≡ (r >>= g)
bind_same (Ok x) f g h = h x refl
bind_same (Err e) f g h = refl

-- the text of a string is looked at last
pub string_parts : (end : ℕ) (bytes : List ℕ) → string_at end bytes ≡ (text_at end bytes >>= λ s. cond (is_utf8 s.0) (texts s.0 s.1) (Err (BadUtf8 (end - (length s.1 + (length s.0 + 1))))))
unfolding string_at text_at
string_parts end bytes = by (number_at w32 end bytes)
  where
    by : (r : Result (ℕ × List ℕ) BsonFault)
        → (r >>= λ n. cond (eqb n.0 0 || ltb (length n.1) n.0) (bad_length end bytes) (cond (eqb (get_or n.1 (n.0 - 1) 0) 0) (text_to end n.1 n.0) (bad_length end bytes)))
        ≡ ((r >>= λ n. cond (eqb n.0 0 || ltb (length n.1) n.0) (bad_length end bytes) (cond (eqb (get_or n.1 (n.0 - 1) 0) 0) (texts (take (n.0 - 1) n.1) (drop n.0 n.1)) (bad_length end bytes)))
        >>= λ s. cond (is_utf8 s.0) (texts s.0 s.1) (Err (BadUtf8 (end - (length s.1 + (length s.0 + 1))))))
    by (Err e) = refl
    by (Ok (n, rest)) = tests (eqb n 0) (ltb (length rest) n) (eqb (get_or rest (n - 1) 0) 0) refl refl
      where
        tests : (zero short last : Bool) → eqb n 0 ≡ zero → ltb (length rest) n ≡ short
            → cond (zero || short) (bad_length end bytes) (cond last (text_to end rest n) (bad_length end bytes))
            ≡ (cond (zero || short) (bad_length end bytes) (cond last (texts (take (n - 1) rest) (drop n rest)) (bad_length end bytes))
            >>= λ s. cond (is_utf8 s.0) (texts s.0 s.1) (Err (BadUtf8 (end - (length s.1 + (length s.0 + 1))))))
        tests true short last z s = refl
        tests false true last z s = refl
        tests false false false z s = refl
        tests false false true z s =
            let some : 0 < n = grind (arith, nat_tests) in
            let long : n ≤ length rest = ltb-false _ _ s in
            let place : length (drop n rest) + (length (take (n - 1) rest) + 1) ≡ length rest = omega (arith, length-take (n - 1) rest, length-drop n rest) in
            rw place refl

-- so are a document's and an array's insides
framed_parts : (read : ℕ → List ℕ → Result Elements BsonFault) (end : ℕ) (bytes : List ℕ)
    → document_at read end bytes ≡ (framed_at end bytes >>= λ b. read (end - (length b.1 + length b.0)) b.0 >>= λ es. read_elements es b.1)
unfolding document_at framed_at
framed_parts read end bytes =
    bind_same (len_at end bytes) (λ n. read (end - length bytes) (take n bytes) >>= λ es. read_elements es (drop n bytes)) (λ n. read (end - (length (drop n bytes) + length (take n bytes))) (take n bytes) >>= λ es. read_elements es (drop n bytes)) (λ n is.
    let fits : n ≤ length bytes = (len_ok end bytes n is).1 in
    let place : length bytes ≡ length (drop n bytes) + length (take n bytes) = omega (arith, length-take n bytes, length-drop n bytes) in
    ap (λ (k : ℕ). read (end - k) (take n bytes) >>= λ es. read_elements es (drop n bytes)) place)
    ∙ sym (bind_then (len_at end bytes) (λ n. texts (take n bytes) (drop n bytes)) (λ b. read (end - (length b.1 + length b.0)) b.0 >>= λ es. read_elements es b.1))

pub value_parts : (read : Reader) (k : Kind) (end : ℕ) (bytes : List ℕ) → value_at read k end bytes ≡ joined read end (piece_at k end bytes)
unfolding value_at piece_at
value_parts read kind.Int32 end bytes = sym (bind_then (number_at w32 end bytes) (λ n. pieces (plain (int32 (cast_signed w32 n.0))) n.1) (look read end))
value_parts read kind.Int64 end bytes = sym (bind_then (number_at w64 end bytes) (λ n. pieces (plain (int64 (cast_signed w64 n.0))) n.1) (look read end))
value_parts read kind.Date end bytes = sym (bind_then (number_at w64 end bytes) (λ n. pieces (plain (date (cast_signed w64 n.0))) n.1) (look read end))
value_parts read kind.Timestamp end bytes = by (number_at w32 end bytes)
  where
    inner : (i : ℕ) (s : Result (ℕ × List ℕ) BsonFault) → (s >>= λ s. trees (timestamp s.0 i) s.1) ≡ joined read end (s >>= λ s. pieces (plain (timestamp s.0 i)) s.1)
    inner i (Ok s) = refl
    inner i (Err e) = refl

    by : (r : Result (ℕ × List ℕ) BsonFault) → (r >>= λ i. number_at w32 end i.1 >>= λ s. trees (timestamp s.0 i.0) s.1) ≡ joined read end (r >>= λ i. number_at w32 end i.1 >>= λ s. pieces (plain (timestamp s.0 i.0)) s.1)
    by (Ok i) = inner i.0 (number_at w32 end i.1)
    by (Err e) = refl
value_parts read kind.ObjectId end bytes = sym (bind_then (bytes_at 12 end bytes) (λ b. pieces (plain (object_id b.0)) b.1) (look read end))
value_parts read kind.Binary end bytes = sym (bind_then (binary_at end bytes) (λ b. pieces (plain (binary b.0.0 b.0.1)) b.1) (look read end))
value_parts read kind.Boolean end bytes = sym (bind_then (boolean_at end bytes) (λ b. pieces (plain (boolean b.0)) b.1) (look read end))
value_parts read kind.Null end bytes = refl
value_parts read kind.MinKey end bytes = refl
value_parts read kind.MaxKey end bytes = refl
value_parts read kind.String end bytes = ap (λ (r : Result (List ℕ × List ℕ) BsonFault). r >>= λ s. trees (string s.0) s.1) (string_parts end bytes) ∙ by (text_at end bytes)
  where
    chosen : (b : Bool) (s : List ℕ × List ℕ) (e : BsonFault) → (cond b (texts s.0 s.1) (Err e) >>= λ s. trees (string s.0) s.1) ≡ (cond b (one_tree (string s.0)) (Err e) >>= λ t. trees t s.1)
    chosen true s e = refl
    chosen false s e = refl

    by : (r : Result (List ℕ × List ℕ) BsonFault)
        → ((r >>= λ s. cond (is_utf8 s.0) (texts s.0 s.1) (Err (BadUtf8 (end - (length s.1 + (length s.0 + 1)))))) >>= λ s. trees (string s.0) s.1) ≡ joined read end (r >>= λ s. pieces (text s.0) s.1)
    by (Ok s) = chosen (is_utf8 s.0) s (BadUtf8 (end - (length s.1 + (length s.0 + 1))))
    by (Err e) = refl
value_parts read kind.Document end bytes = ap (λ (r : Result (Elements × List ℕ) BsonFault). r >>= λ d. trees (document d.0) d.1) (framed_parts (read None) end bytes) ∙ by (framed_at end bytes)
  where
    inner : (r : Result Elements BsonFault) (left : List ℕ) → ((r >>= λ es. read_elements es left) >>= λ d. trees (document d.0) d.1) ≡ ((r >>= λ es. one_tree (document es)) >>= λ t. trees t left)
    inner (Ok es) left = refl
    inner (Err e) left = refl

    by : (r : Result (List ℕ × List ℕ) BsonFault) → ((r >>= λ b. read None (end - (length b.1 + length b.0)) b.0 >>= λ es. read_elements es b.1) >>= λ d. trees (document d.0) d.1) ≡ joined read end (r >>= λ b. pieces (inner_document b.0) b.1)
    by (Ok b) = inner (read None (end - (length b.1 + length b.0)) b.0) b.1
    by (Err e) = refl
value_parts read kind.Array end bytes = ap (λ (r : Result (Elements × List ℕ) BsonFault). r >>= λ d. trees (array (unnamed d.0)) d.1) (framed_parts (read (Some 0)) end bytes) ∙ by (framed_at end bytes)
  where
    inner : (r : Result Elements BsonFault) (left : List ℕ) → ((r >>= λ es. read_elements es left) >>= λ d. trees (array (unnamed d.0)) d.1) ≡ ((r >>= λ es. one_tree (array (unnamed es))) >>= λ t. trees t left)
    inner (Ok es) left = refl
    inner (Err e) left = refl

    by : (r : Result (List ℕ × List ℕ) BsonFault) → ((r >>= λ b. read (Some 0) (end - (length b.1 + length b.0)) b.0 >>= λ es. read_elements es b.1) >>= λ d. trees (array (unnamed d.0)) d.1) ≡ joined read end (r >>= λ b. pieces (inner_array b.0) b.1)
    by (Ok b) = inner (read (Some 0) (end - (length b.1 + length b.0)) b.0) b.1
    by (Err e) = refl

-- an element is its head and the look inside
pub element_parts : (read : Reader) (due : Option ℕ) (start end : ℕ) (bytes : List ℕ)
    → element_at read due start end bytes ≡ (head_at due start end bytes >>= λ h. inside_at read end h.0.1 (length h.1) >>= λ t. named_trees h.0.0 t h.1)
unfolding element_at head_at
element_parts read due start end bytes = by (type_at start end bytes)
  where
    last : (name : List ℕ) (k : Kind) (rest : List ℕ) (r : Result (Piece × List ℕ) BsonFault)
        → (joined read end r >>= λ value. named_trees name value.0 value.1) ≡ ((r >>= λ p. heads name p.0 p.1) >>= λ h. inside_at read end h.0.1 (length h.1) >>= λ t. named_trees h.0.0 t h.1)
    last name k rest (Ok p) = bind_then (inside_at read end p.0 (length p.1)) (λ t. trees t p.1) (λ value. named_trees name value.0 value.1)
    last name k rest (Err e) = refl

    named : (k : Kind) (r : Result (List ℕ × List ℕ) BsonFault)
        → (r >>= λ name. value_at read k end name.1 >>= λ value. named_trees name.0 value.0 value.1)
        ≡ ((r >>= λ name. piece_at k end name.1 >>= λ p. heads name.0 p.0 p.1) >>= λ h. inside_at read end h.0.1 (length h.1) >>= λ t. named_trees h.0.0 t h.1)
    named k (Ok name) = ap (λ (r : Result (Tree × List ℕ) BsonFault). r >>= λ value. named_trees name.0 value.0 value.1) (value_parts read k end name.1) ∙ last name.0 k name.1 (piece_at k end name.1)
    named k (Err e) = refl

    by : (r : Result (Kind × List ℕ) BsonFault)
        → (r >>= λ k. name_at due end k.1 >>= λ name. value_at read k.0 end name.1 >>= λ value. named_trees name.0 value.0 value.1)
        ≡ ((r >>= λ k. name_at due end k.1 >>= λ name. piece_at k.0 end name.1 >>= λ p. heads name.0 p.0 p.1) >>= λ h. inside_at read end h.0.1 (length h.1) >>= λ t. named_trees h.0.0 t h.1)
    by (Ok k) = named k.0 (name_at due end k.1)
    by (Err e) = refl
