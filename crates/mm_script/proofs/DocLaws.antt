-- Documents as parts of a line, as they are read and as the grammar says it.
use Rattle.std.proofs.Common.{◌≡◌, ℕ, ◌⊎◌, inl, inr, Bool, true, false, cond, not, List, [], ◌∷◌, ◌++◌, append_assoc, take, drop, Result, Ok, Err, refl, sym, ap, ◌∙◌, subst, suc}
use Rattle.std.specs.Prelude.{codes}
use Rattle.std.specs.List.{list_all}
use Rattle.std.specs.Str.{bytes_eq}
use Rattle.std.proofs.lemmas.Bool.{eqb-true, and_from, and_parts}
use Rattle.std.proofs.lemmas.List.Sums.{list_all-from_AllPass}
use Rattle.std.specs.List.{AllPass}
use Rattle.std.specs.Prelude.{◌&&◌}
use Rattle.hex.specs.Hex.{decode_of, is_hex_digit}
use Rattle.hex.specs.declared.error.FromHexError.{FromHexError}
use Rattle.hex.proofs.HexLemmas.{decode_of-ok}
use Rattle.mm_bson.specs.Tree.{Elements, no_elements, element}
use Rattle.mm_bson.specs.Spelling.{IsDocument, spelling}
use Rattle.mm_bson.specs.Reading.{whole}
use Rattle.mm_bson.specs.declared.fault.BsonFault.{BsonFault}
use Rattle.mm_bson.proofs.Takes.{whole_takes}
use Rattle.mm_bson.proofs.Again.{whole_again}
use Rattle.mm_notation.specs.Grammar.{IsDocumentText, Object}
use Rattle.mm_notation.specs.Reading.{document_at as notation_of}
use Rattle.mm_notation.proofs.Nests.{document_core}
use Rattle.mm_script.specs.declared.fault.LineWhat.{LineWhat}
use Rattle.mm_script.specs.declared.fault.LineWhat.TheVariants.{Document, Specification}
use Rattle.mm_script.specs.Words.{is_space, is_other, spaces, Ends}
use Rattle.mm_script.specs.Documents.{IsHexText, NextNotation, NextDocument, IsShortSpecification}
use Rattle.mm_script.specs.Reading.{◌>>=◌, begins_space, skip, front, behind, or_document, notation_here, notation_at, hex_of, hex_here, document_here, document_at, is_short_specification, specification_at}
use Rattle.mm_script.proofs.SpecSteps.{short_holds, short_yes}
use Rattle.mm_script.proofs.HexSteps.{hex_text, front_hex, behind_hex}
use Rattle.mm_script.proofs.WordLaws.{skip_parts_more, skip_spaces, front_behind, behind_ends, front_again, behind_again}

-- ---- notation

object_opens : (d : Elements) (part : List ℕ) → Object d part → (more : List ℕ) × (part ≡ 0x7b ∷ more)
object_opens no_elements part o = (o.1, o.2 ∙ ap (λ (f : List ℕ). f ++ o.1) o.3)
object_opens (element name t d) part o = (o.1, o.2 ∙ ap (λ (f : List ℕ). f ++ o.1) o.3)

skip_open : (more : List ℕ) → skip (0x7b ∷ more) ≡ 0x7b ∷ more
unfolding skip
skip_open more = refl

-- a document's text does not begin with a space
first_byte : (d : Elements) (part rest : List ℕ) → IsDocumentText d part → skip (part ++ rest) ≡ part ++ rest
first_byte d part rest l =
    let o = object_opens d part l.1 in
    let is : part ++ rest ≡ 0x7b ∷ (o.0 ++ rest) = ap (λ (p : List ℕ). p ++ rest) o.1 in
    ap skip is ∙ skip_open (o.0 ++ rest) ∙ sym is

pub notation_again : (d : Elements) (text rest : List ℕ) → NextNotation d text rest → notation_at text ≡ Ok (d, rest)
unfolding notation_at notation_here
notation_again d text rest x =
    let t : List ℕ = x.1 ++ rest in
    let skipped : skip (spaces (suc x.0) ++ t) ≡ t = skip_spaces (suc x.0) t ∙ first_byte d x.1 rest x.3 in
    ap (λ (u : List ℕ). cond (begins_space u) (or_document (notation_of (skip u))) (Err Document)) x.2
    ∙ ap (λ (u : List ℕ). or_document (notation_of u)) skipped ∙ ap or_document (document_core.again d x.1 rest x.3 tt)

pub notation_cases : (text : List ℕ) → ((d : Elements) × (rest : List ℕ) × NextNotation d text rest × (notation_at text ≡ Ok (d, rest))) ⊎ (notation_at text ≡ Err Document)
unfolding notation_at notation_here
notation_cases [] = inr refl
notation_cases (a ∷ text) = by (is_space a) refl
  where
    here : (r : Result (Elements × List ℕ) (List ℕ)) → is_space a ≡ true → notation_of (skip (a ∷ text)) ≡ r
        → ((d : Elements) × (rest : List ℕ) × NextNotation d (a ∷ text) rest × (cond (is_space a) (or_document (notation_of (skip (a ∷ text)))) (Err Document) ≡ Ok (d, rest)))
        ⊎ (cond (is_space a) (or_document (notation_of (skip (a ∷ text)))) (Err Document) ≡ Err Document)
    here (Ok x) e is =
        let parts = skip_parts_more a text e in
        let t = document_core.takes (skip (a ∷ text)) x.0 x.1 is in
        inl (
          x.0,
          x.1,
          (parts.0, t.0, parts.1 ∙ ap (λ (u : List ℕ). spaces (suc parts.0) ++ u) t.1, t.2),
          ap (λ (b : Bool). cond b (or_document (notation_of (skip (a ∷ text)))) (Err Document)) e ∙ ap or_document is,
        )
    here (Err r) e is = inr (ap (λ (b : Bool). cond b (or_document (notation_of (skip (a ∷ text)))) (Err Document)) e ∙ ap or_document is)

    by : (s : Bool) → is_space a ≡ s
        → ((d : Elements) × (rest : List ℕ) × NextNotation d (a ∷ text) rest × (cond (is_space a) (or_document (notation_of (skip (a ∷ text)))) (Err Document) ≡ Ok (d, rest)))
        ⊎ (cond (is_space a) (or_document (notation_of (skip (a ∷ text)))) (Err Document) ≡ Err Document)
    by true e = here (notation_of (skip (a ∷ text))) e refl
    by false e = inr (ap (λ (b : Bool). cond b (or_document (notation_of (skip (a ∷ text)))) (Err Document)) e)

pub notation_none : (text : List ℕ) → notation_at text ≡ Err Document → (d : Elements) (rest : List ℕ) → NextNotation d text rest → ⊥
notation_none text is d rest x = cc (sym (notation_again d text rest x) ∙ is)

-- ---- specifications

pub specification_again : (d : Elements) (text rest : List ℕ) → NextNotation d text rest → IsShortSpecification d → specification_at text ≡ Ok (d, rest)
unfolding specification_at
specification_again d text rest x short =
    ap (λ (r : Result (Elements × List ℕ) LineWhat). r >>= λ e. cond (is_short_specification e.0) (Ok e) (Err Specification)) (notation_again d text rest x)
    ∙ ap (λ (b : Bool). cond b (Ok (d, rest)) (Err Specification)) (short_yes d short.specification short.short)

abbrev pub short_of : Result (Elements × List ℕ) LineWhat → Result (Elements × List ℕ) LineWhat
short_of r = r >>= λ e. cond (is_short_specification e.0) (Ok e) (Err Specification)

pub specification_cases : (text : List ℕ) → ((d : Elements) × (rest : List ℕ) × NextNotation d text rest × IsShortSpecification d × (specification_at text ≡ Ok (d, rest)))
    ⊎ ((d : Elements) × (rest : List ℕ) × NextNotation d text rest × (IsShortSpecification d → ⊥) × (specification_at text ≡ Err Specification))
    ⊎ (((d : Elements) (rest : List ℕ) → NextNotation d text rest → ⊥) × (specification_at text ≡ Err Document))
unfolding specification_at
specification_cases text = elim (notation_cases text) [ inl x ↦ found x.0 x.1 x.2 x.3 | inr none ↦ inr (inr (notation_none text none, ap short_of none)) ]
  where
    tell : (d : Elements) (rest : List ℕ) (b : Bool) → NextNotation d text rest → notation_at text ≡ Ok (d, rest) → is_short_specification d ≡ b
        → ((d : Elements) × (rest : List ℕ) × NextNotation d text rest × IsShortSpecification d × (short_of (notation_at text) ≡ Ok (d, rest)))
        ⊎ ((d : Elements) × (rest : List ℕ) × NextNotation d text rest × (IsShortSpecification d → ⊥) × (short_of (notation_at text) ≡ Err Specification))
        ⊎ (((d : Elements) (rest : List ℕ) → NextNotation d text rest → ⊥) × (short_of (notation_at text) ≡ Err Document))
    tell d rest true x is e = inl (d, rest, x, short_holds d e, ap short_of is ∙ ap (λ (b : Bool). cond b (Ok (d, rest)) (Err Specification)) e)
    tell d rest false x is e = inr (inl (d, rest, x, λ short. cc (sym e ∙ short_yes d short.specification short.short), ap short_of is ∙ ap (λ (b : Bool). cond b (Ok (d, rest)) (Err Specification)) e))

    found : (d : Elements) (rest : List ℕ) → NextNotation d text rest → notation_at text ≡ Ok (d, rest)
        → ((d : Elements) × (rest : List ℕ) × NextNotation d text rest × IsShortSpecification d × (short_of (notation_at text) ≡ Ok (d, rest)))
        ⊎ ((d : Elements) × (rest : List ℕ) × NextNotation d text rest × (IsShortSpecification d → ⊥) × (short_of (notation_at text) ≡ Err Specification))
        ⊎ (((d : Elements) (rest : List ℕ) → NextNotation d text rest → ⊥) × (short_of (notation_at text) ≡ Err Document))
    found d rest x is = tell d rest (is_short_specification d) x is refl

-- ---- in notation or in hex

abbrev or_this : Elements × List ℕ → Result (Elements × List ℕ) LineWhat → Elements × List ℕ
or_this x (Ok y) = y
or_this x (Err v) = x

digit_no_space : (b : ℕ) → is_space b ≡ true → is_hex_digit b ≡ false
digit_no_space b is = ap is_hex_digit (eqb-true b 0x20 is)

no_spaces : (digits : List ℕ) → list_all is_hex_digit digits ≡ true → list_all is_other digits ≡ true
no_spaces [] a = refl
no_spaces (b ∷ digits) a = let both = and_parts (is_hex_digit b) (list_all is_hex_digit digits) a in by (is_space b) refl both.0 (no_spaces digits both.1)
  where
    by : (s : Bool) → is_space b ≡ s → is_hex_digit b ≡ true → list_all is_other digits ≡ true → (not (is_space b) && list_all is_other digits) ≡ true
    by true e digit later = absurd (cc (sym digit ∙ digit_no_space b e))
    by false e digit later = and_from (not (is_space b)) (list_all is_other digits) (ap not e) later

digits_whole : (digits : List ℕ) → AllPass is_hex_digit digits → list_all is_other digits ≡ true
digits_whole digits a = no_spaces digits (list_all-from_AllPass is_hex_digit digits a)

abbrev with_rest : List ℕ → Result Elements LineWhat → Result (Elements × List ℕ) LineWhat
with_rest rest (Ok d) = Ok (d, rest)
with_rest rest (Err v) = Err v

abbrev parsed : Result (List ℕ) FromHexError → Result Elements LineWhat
parsed r = or_document r >>= λ bytes. or_document (whole bytes)

abbrev rested : List ℕ → Elements → Result (Elements × List ℕ) LineWhat
rested rest d = Ok (d, rest)

rest_is : (rest : List ℕ) (r : Result Elements LineWhat) → (r >>= rested rest) ≡ with_rest rest r
rest_is rest (Ok d) = refl
rest_is rest (Err v) = refl

hex_here_is : (text : List ℕ) → hex_here text ≡ with_rest (behind text) (parsed (decode_of (drop 4 (front text))))
unfolding hex_here hex_of
hex_here_is text = rest_is (behind text) (parsed (decode_of (drop 4 (front text))))

hex_again : (d : Elements) (digits rest : List ℕ) → decode_of digits ≡ Ok (spelling d) → IsDocument d → Ends rest → document_here (codes "hex:" ++ (digits ++ rest)) ≡ Ok (d, rest)
unfolding document_here
hex_again d digits rest decoded is ends =
    let digit = (decode_of-ok digits (spelling d) decoded).1 in
    let whole_word = digits_whole digits digit in
    let word : front (codes "hex:" ++ (digits ++ rest)) ≡ codes "hex:" ++ digits = front_hex (digits ++ rest) ∙ ap (λ (t : List ℕ). codes "hex:" ++ t) (front_again digits rest whole_word ends) in
    let after : behind (codes "hex:" ++ (digits ++ rest)) ≡ rest = behind_hex (digits ++ rest) ∙ behind_again digits rest whole_word ends in
    hex_here_is (codes "hex:" ++ (digits ++ rest))
    ∙ ap (λ (t : List ℕ). with_rest (behind (codes "hex:" ++ (digits ++ rest))) (parsed (decode_of (drop 4 t)))) word
    ∙ ap (λ (r : Result (List ℕ) FromHexError). with_rest (behind (codes "hex:" ++ (digits ++ rest))) (parsed r)) decoded
    ∙ ap (λ (r : Result Elements BsonFault). with_rest (behind (codes "hex:" ++ (digits ++ rest))) (or_document r)) (whole_again d is)
    ∙ ap (λ (t : List ℕ). Ok (d, t)) after

at_space : (n : ℕ) (text : List ℕ) → document_at (spaces (suc n) ++ text) ≡ document_here (skip text)
unfolding document_at
at_space n text = ap document_here (skip_spaces (suc n) text)

open_here : (more : List ℕ) → document_here (0x7b ∷ more) ≡ or_document (notation_of (0x7b ∷ more))
unfolding document_here notation_here
open_here more = refl

hex_open : (t : List ℕ) → skip (codes "hex:" ++ t) ≡ codes "hex:" ++ t
unfolding skip
hex_open t = refl

pub document_again : (d : Elements) (text rest : List ℕ) → NextDocument d text rest → document_at text ≡ Ok (d, rest)
document_again d text rest (inl x) =
    let t : List ℕ = x.1 ++ rest in
    let o = object_opens d x.1 x.3.1 in
    let is : t ≡ 0x7b ∷ (o.0 ++ rest) = ap (λ (p : List ℕ). p ++ rest) o.1 in
    ap document_at x.2 ∙ at_space x.0 t ∙ ap document_here (first_byte d x.1 rest x.3 ∙ is) ∙ open_here (o.0 ++ rest)
    ∙ ap (λ (u : List ℕ). or_document (notation_of u)) (sym is) ∙ ap or_document (document_core.again d x.1 rest x.3 tt)
document_again d text rest (inr y) =
    let x = y.0 in
    let digits = x.3.0 in
    let is : x.1 ++ rest ≡ codes "hex:" ++ (digits ++ rest) = ap (λ (p : List ℕ). p ++ rest) x.3.1 ∙ append_assoc (codes "hex:") digits rest in
    ap document_at x.2 ∙ at_space x.0 (x.1 ++ rest) ∙ ap (λ (u : List ℕ). document_here (skip u)) is ∙ ap document_here (hex_open (digits ++ rest))
    ∙ hex_again d digits rest x.3.2 x.3.3 y.1

-- what is read in hex
hex_takes : (text digits : List ℕ) (d : Elements) (rest : List ℕ) → text ≡ codes "hex:" ++ digits → hex_here text ≡ Ok (d, rest) → (IsHexText d (front text)) × (behind text ≡ rest)
hex_takes text digits d rest is read = by (decode_of (drop 4 (front text))) refl (sym (hex_here_is text) ∙ read)
  where
    word : front text ≡ codes "hex:" ++ front digits
    word = ap front is ∙ front_hex digits

    inner : (bytes : List ℕ) (r : Result Elements BsonFault) → decode_of (drop 4 (front text)) ≡ Ok bytes → whole bytes ≡ r → with_rest (behind text) (or_document r) ≡ Ok (d, rest) → (IsHexText d (front text)) × (behind text ≡ rest)
    inner bytes (Ok e) dec w got =
        let same : e ≡ d = ap (λ (o : Result (Elements × List ℕ) LineWhat). (or_this (d, rest) o).0) got in
        let after : behind text ≡ rest = ap (λ (o : Result (Elements × List ℕ) LineWhat). (or_this (d, rest) o).1) got in
        let took = whole_takes bytes e (decode_of-ok (drop 4 (front text)) bytes dec).3 w in
        let four : drop 4 (front text) ≡ front digits = ap (drop 4) word in
        let dig : decode_of (front digits) ≡ Ok (spelling d) = ap decode_of (sym four) ∙ dec ∙ ap (λ (b : List ℕ). Ok b) took.0 ∙ ap (λ (x : Elements). Ok (spelling x)) same in
        ((front digits, word, dig, subst IsDocument same took.1), after)
    inner bytes (Err f) dec w got = absurd (cc)

    by : (r : Result (List ℕ) FromHexError) → decode_of (drop 4 (front text)) ≡ r → with_rest (behind text) (parsed r) ≡ Ok (d, rest) → (IsHexText d (front text)) × (behind text ≡ rest)
    by (Ok bytes) dec got = inner bytes (whole bytes) dec refl got
    by (Err f) dec got = absurd (cc)

here_takes : (text : List ℕ) (d : Elements) (rest : List ℕ) → document_here text ≡ Ok (d, rest) → ((part : List ℕ) × (text ≡ part ++ rest) × (IsDocumentText d part ⊎ (IsHexText d part × Ends rest)))
unfolding document_here notation_here
here_takes text d rest is = by (bytes_eq (take 4 text) (codes "hex:")) refl is
  where
    noted : (r : Result (Elements × List ℕ) (List ℕ)) → notation_of text ≡ r → or_document r ≡ Ok (d, rest) → (part : List ℕ) × (text ≡ part ++ rest) × (IsDocumentText d part ⊎ (IsHexText d part × Ends rest))
    noted (Ok x) e got =
        let same : x.0 ≡ d = ap (λ (o : Result (Elements × List ℕ) LineWhat). (or_this (d, rest) o).0) got in
        let after : x.1 ≡ rest = ap (λ (o : Result (Elements × List ℕ) LineWhat). (or_this (d, rest) o).1) got in
        let t = document_core.takes text x.0 x.1 e in
        (t.0, t.1 ∙ ap (λ (r : List ℕ). t.0 ++ r) after, inl (subst (λ (v : Elements). IsDocumentText v t.0) same t.2))
    noted (Err r) e got = absurd (cc)

    by : (b : Bool) → bytes_eq (take 4 text) (codes "hex:") ≡ b → cond b (hex_here text) (or_document (notation_of text)) ≡ Ok (d, rest)
        → (part : List ℕ) × (text ≡ part ++ rest) × (IsDocumentText d part ⊎ (IsHexText d part × Ends rest))
    by true e got =
        let t = hex_takes text (drop 4 text) d rest (hex_text text e) got in
        (front text, front_behind text ∙ ap (λ (r : List ℕ). front text ++ r) t.1, inr (t.0, subst Ends t.1 (behind_ends text)))
    by false e got = noted (notation_of text) refl got

spaced : (n : ℕ) (text rest : List ℕ) (d : Elements) (part : List ℕ) → text ≡ spaces (suc n) ++ (part ++ rest) → (IsDocumentText d part ⊎ (IsHexText d part × Ends rest)) → NextDocument d text rest
spaced n text rest d part is (inl noted) = inl (n, part, is, noted)
spaced n text rest d part is (inr hex) = inr ((n, part, is, hex.0), hex.1)

pub document_takes : (text : List ℕ) (d : Elements) (rest : List ℕ) → document_at text ≡ Ok (d, rest) → NextDocument d text rest
unfolding document_at
document_takes [] d rest is = absurd (cc)
document_takes (a ∷ text) d rest is = by (is_space a) refl is
  where
    by : (s : Bool) → is_space a ≡ s → cond s (document_here (skip (a ∷ text))) (Err Document) ≡ Ok (d, rest) → NextDocument d (a ∷ text) rest
    by true e got =
        let parts = skip_parts_more a text e in
        let t = here_takes (skip (a ∷ text)) d rest got in
        spaced parts.0 (a ∷ text) rest d t.0 (parts.1 ∙ ap (λ (u : List ℕ). spaces (suc parts.0) ++ u) t.1) t.2
    by false e got = absurd (cc)

or_what : {A E : Type 0} (r : Result A E) (v : LineWhat) → or_document r ≡ Err v → v ≡ Document
or_what (Ok x) v is = absurd (cc)
or_what (Err e) v is = cc

hex_what : (text : List ℕ) (v : LineWhat) → hex_here text ≡ Err v → v ≡ Document
hex_what text v is = by (decode_of (drop 4 (front text))) (sym (hex_here_is text) ∙ is)
  where
    inner : (r : Result Elements BsonFault) → with_rest (behind text) (or_document r) ≡ Err v → v ≡ Document
    inner (Ok e) got = absurd (cc)
    inner (Err f) got = cc

    by : (r : Result (List ℕ) FromHexError) → with_rest (behind text) (parsed r) ≡ Err v → v ≡ Document
    by (Ok bytes) got = inner (whole bytes) got
    by (Err f) got = cc

pub document_what : (text : List ℕ) (v : LineWhat) → document_at text ≡ Err v → v ≡ Document
unfolding document_at document_here notation_here
document_what text v is = by (begins_space text) is
  where
    here : (b : Bool) → cond b (hex_here (skip text)) (or_document (notation_of (skip text))) ≡ Err v → v ≡ Document
    here true got = hex_what (skip text) v got
    here false got = or_what (notation_of (skip text)) v got

    by : (s : Bool) → cond s (cond (bytes_eq (take 4 (skip text)) (codes "hex:")) (hex_here (skip text)) (or_document (notation_of (skip text)))) (Err Document) ≡ Err v → v ≡ Document
    by true got = here (bytes_eq (take 4 (skip text)) (codes "hex:")) got
    by false got = cc
