-- What a key's bytes begin with, and how many there are.
use Rattle.std.proofs.Common.{◌≡◌, ℕ, ◌+◌, ◌≤◌, List, [], ◌∷◌, ◌++◌, length, refl, sym, ap, ◌∙◌, subst, arith}
use Rattle.std.proofs.lemmas.List.{length-append}
use Rattle.mm_base.specs.Bytes.{part}
use Rattle.mm_base.specs.Fields.{u32_of, u32_bytes}
use Rattle.mm_base.proofs.Numbers.{u32_again, length-u32_bytes}
use Rattle.mm_base.proofs.Parts.{part_first}
use Rattle.mm_bson.specs.Tree.{Elements}
use Rattle.mm_bson.specs.Spelling.{spelling, framed, elements_spelling}
use Rattle.mm_bson.specs.Walk.{SpellsDocument}
use Rattle.mm_bucket.specs.Pairs.{IsNameless, IsKey}

framed_is : (inner : List ℕ) → framed inner ≡ u32_bytes (length inner + 5) ++ (inner ++ 0 ∷ [])
unfolding framed u32_bytes
framed_is inner = refl

framed_len : (inner : List ℕ) → length (framed inner) ≡ length inner + 5
framed_len inner =
    ap length (framed_is inner)
    ∙ omega (arith, length-append (u32_bytes (length inner + 5)) (inner ++ 0 ∷ []), length-append inner (0 ∷ []), length-u32_bytes (length inner + 5))

framed_counted : (inner : List ℕ) → length (framed inner) ≤ 1024 → u32_of (part 0 4 (framed inner)) ≡ length (framed inner)
framed_counted inner short =
    let n = length inner + 5 in
    let front : part 0 4 (framed inner) ≡ u32_bytes n = ap (part 0 4) (framed_is inner) ∙ part_first 4 (u32_bytes n) (inner ++ 0 ∷ []) (length-u32_bytes n) in
    ap u32_of front ∙ (u32_again n (omega (arith, framed_len inner, short)) ∙ sym (framed_len inner))

spelling_is : (es : Elements) → spelling es ≡ framed (elements_spelling es)
unfolding spelling
spelling_is es = refl

pub key_is : (key : List ℕ) → IsKey key → (inner : List ℕ) × (key ≡ framed inner)
key_is key k = (elements_spelling k.document.0, k.document.2 ∙ spelling_is k.document.0)

-- a key has 5 bytes or more
pub key_some : (key : List ℕ) → IsKey key → 5 ≤ length key
key_some key k =
    let f = key_is key k in
    omega (arith, ap length f.1, framed_len f.0)

-- and begins with how many it has
pub key_counted : (key : List ℕ) → IsKey key → u32_of (part 0 4 key) ≡ length key
key_counted key k =
    let f = key_is key k in
    subst (λ (b : List ℕ). u32_of (part 0 4 b) ≡ length b) (sym f.1) (framed_counted f.0 (omega (arith, ap length f.1, k.short)))

-- it is a document in place
pub key_document : (key : List ℕ) (k : IsKey key) → SpellsDocument key k.document.0
key_document key k = record {
  spelled = k.document.2;
  elements = k.document.1.elements;
  levels = k.document.1.levels;
  fits = omega (arith, k.short);
}

pub nameless_of : (a b : List ℕ) → a ≡ b → IsKey b → IsNameless a
nameless_of a b e k = subst IsNameless (sym e) k.document
