-- Documents in notation: from places in a text to the text behind them.
use Rattle.std.proofs.Common.{◌≡◌, ℕ, ◌+◌, ◌-◌, ◌≤◌, List, [], ◌∷◌, ◌++◌, append_assoc, length, take, drop, get_or, Result, Ok, Err, refl, sym, ap, ◌∙◌, subst, arith}
use Rattle.std.specs.Str.{IsUtf8, IsCharBoundary}
use Rattle.std.proofs.lemmas.Str.{IsCharBoundary-after_ascii}
use Rattle.std.proofs.lemmas.List.{length-append, length-take-le, take-append-drop}
use Rattle.mm_bson.specs.Tree.{Elements, no_elements, element}
use Rattle.mm_notation.specs.Grammar.{IsDocumentText, Object, MoreMembers, Mark}
use Rattle.mm_notation.specs.Reading.{document_at}
use Rattle.mm_notation.specs.Answer.{IsFound, IsRefused}
use Rattle.mm_notation.proofs.Nests.{document_core}
use Rattle.mm_script.specs.declared.fault.LineWhat.TheVariants.{Document}
use Rattle.mm_script.specs.Reading.{or_document, notation_here}

-- the text ends with `}`
abbrev EndsIn : List ℕ → Type 0
EndsIn text = (front : List ℕ) × (text ≡ front ++ 0x7d ∷ [])

behind_ends : (a b text : List ℕ) → text ≡ a ++ b → EndsIn b → EndsIn text
behind_ends a b text is e = (a ++ e.0, is ∙ ap (λ (r : List ℕ). a ++ r) e.1 ∙ sym (append_assoc a e.0 (0x7d ∷ [])))

mark_ends : (text : List ℕ) → Mark 0x7d text → EndsIn text
mark_ends text m = (m.0, m.2 ∙ ap (λ (r : List ℕ). m.0 ++ r) m.4)

more_ends : (es : Elements) (text : List ℕ) → MoreMembers es text → EndsIn text
more_ends no_elements text m = mark_ends text m
more_ends (element name t es) text m = behind_ends m.0 m.1 text m.2 (more_ends es m.1 m.4)

object_ends : (es : Elements) (text : List ℕ) → Object es text → EndsIn text
object_ends no_elements text o = behind_ends o.0 o.1 text o.2 (mark_ends o.1 o.4)
object_ends (element name t es) text o =
    let spaced = o.4 in
    let member = spaced.4 in
    behind_ends o.0 o.1 text o.2 (behind_ends spaced.0 spaced.1 o.1 spaced.2 (behind_ends member.0 member.1 spaced.1 member.2 (more_ends es member.1 member.4)))

at_seam : (front : List ℕ) (b : ℕ) (rest : List ℕ) → get_or (front ++ b ∷ rest) (length front) 0 ≡ b
at_seam [] b rest = refl
at_seam (x ∷ front) b rest = at_seam front b rest

less_none : (n : ℕ) → n - 0 ≡ n
less_none n = omega arith

front_read : (text : List ℕ) (es : Elements) (end : ℕ) → IsFound text 0 es end → IsDocumentText es (take end text)
front_read text es end found = subst (λ (n : ℕ). IsDocumentText es (take n text)) (less_none end) found.stands

-- behind a document's text stands a character, or the end
pub doc_boundary : (text : List ℕ) (es : Elements) (end : ℕ) → IsUtf8 text → IsFound text 0 es end → IsCharBoundary text end
doc_boundary text es end utf8 found =
    let read : IsDocumentText es (take end text) = front_read text es end found in
    let e = object_ends es (take end text) read.1 in
    let size : length (take end text) ≡ end = length-take-le end text found.within in
    let one : length (e.0 ++ 0x7d ∷ []) ≡ length e.0 + 1 = length-append e.0 (0x7d ∷ []) in
    let last : length e.0 + 1 ≡ end = sym one ∙ ap length (sym e.1) ∙ size in
    let parts : text ≡ e.0 ++ 0x7d ∷ drop end text = sym (take-append-drop end text) ∙ ap (λ (t : List ℕ). t ++ drop end text) e.1 ∙ append_assoc e.0 (0x7d ∷ []) (drop end text) in
    let mark : get_or text (length e.0) 0 ≡ 0x7d = ap (λ (t : List ℕ). get_or t (length e.0) 0) parts ∙ at_seam e.0 0x7d (drop end text) in
    let within : end ≤ length text = found.within in
    subst (IsCharBoundary text) last (IsCharBoundary-after_ascii text (length e.0) utf8 (omega (arith, last, within)) (omega (arith, mark)))

-- a document that is found is read
pub found_read : (text : List ℕ) (es : Elements) (end : ℕ) → IsFound text 0 es end → document_at text ≡ Ok (es, drop end text)
found_read text es end found =
    let read : IsDocumentText es (take end text) = front_read text es end found in
    ap document_at (sym (take-append-drop end text)) ∙ document_core.again es (take end text) (drop end text) read tt

pub found_here : (text : List ℕ) (es : Elements) (end : ℕ) → IsFound text 0 es end → notation_here text ≡ Ok (es, drop end text)
unfolding notation_here
found_here text es end found = ap (λ (r : Result (Elements × List ℕ) (List ℕ)). or_document r) (found_read text es end found)

not_read : (text : List ℕ) → ((e : Elements) (q : ℕ) → q ≤ length text → IsDocumentText e (take q text) → ⊥) → (r : Result (Elements × List ℕ) (List ℕ)) → document_at text ≡ r → or_document r ≡ Err Document
not_read text none (Ok x) is =
    let t = document_core.takes text x.0 x.1 is in
    let size : length t.0 ≤ length text = omega (arith, ap length t.1, length-append t.0 x.1) in
    let front : take (length t.0) text ≡ t.0 = ap (take (length t.0)) t.1 ∙ take_all t.0 x.1 in
    absurd (none x.0 (length t.0) size (subst (IsDocumentText x.0) (sym front) t.2))
  where
    take_all : (a b : List ℕ) → take (length a) (a ++ b) ≡ a
    take_all [] b = refl
    take_all (x ∷ a) b = ap (λ (t : List ℕ). x ∷ t) (take_all a b)
not_read text none (Err rest) is = refl

-- where none is found, none is read
pub refused_here : (text : List ℕ) (place : ℕ) → IsRefused text 0 place → notation_here text ≡ Err Document
unfolding notation_here
refused_here text place refused = not_read text (λ e q inside l. refused.none e q (omega arith) inside (subst (λ (n : ℕ). IsDocumentText e (take n text)) (sym (less_none q)) l)) (document_at text) refl
