-- From reading on lists to places in a text.
use Rattle.std.proofs.Common.{◌≡◌, ℕ, ◌+◌, ◌-◌, ◌<◌, ◌≤◌, List, [], ◌∷◌, ◌++◌, append_assoc, append-nil, length, take, drop, Ok, Err, refl, sym, ap, ◌∙◌, subst, arith}
use Rattle.std.specs.Prelude.{slice_range}
use Rattle.std.specs.Str.{IsUtf8}
use Rattle.std.proofs.lemmas.List.{length-append, length-drop, length-take-le, take_at, take_rest, take-append-drop}
use Rattle.mm_bson.specs.Tree.{Elements}
use Rattle.mm_notation.specs.Grammar.{IsDocumentText, BeginsDocument}
use Rattle.mm_notation.specs.Reading.{Read, document_at}
use Rattle.mm_notation.specs.Answer.{IsFound, IsRefused}
use Rattle.mm_notation.proofs.Core.{pair_of, Moved, Fine}
use Rattle.mm_notation.proofs.Nests.{document_core}

-- a stretch that is a document's text is read
stretch_read : (text : List ℕ) (at q : ℕ) (e : Elements) → IsDocumentText e (slice_range text at q) → document_at (drop at text) ≡ Ok (e, drop (q - at) (drop at text))
stretch_read text at q e l =
    ap document_at (sym (take-append-drop (q - at) (drop at text))) ∙ document_core.again e (take (q - at) (drop at text)) (drop (q - at) (drop at text)) l tt

pub found_from : (text : List ℕ) (at : ℕ) (es : Elements) (rest : List ℕ) (end : ℕ) → at ≤ length text → document_at (drop at text) ≡ Ok (es, rest) → end + length rest ≡ length text → IsFound text at es end
found_from text at es rest end inside h whole =
    let t = document_core.takes (drop at text) es rest h in
    let s : List ℕ = t.0 in
    let sizes : length t.0 + length rest ≡ length text - at = sym (length-append t.0 rest) ∙ ap length (sym (t.1)) ∙ length-drop at text in
    let is : slice_range text at end ≡ t.0 = ap (take (end - at)) t.1 ∙ take_at t.0 rest (end - at) (omega (arith, sizes)) in
    record {
      behind = omega (arith, sizes);
      within = omega arith;
      stands = subst (IsDocumentText es) (sym is) t.2;
      only = λ e q low high l.
          let same = pair_of e es (drop (q - at) (drop at text)) rest (sym (stretch_read text at q e l) ∙ h) in
          (same.0, omega (arith, ap length same.1, length-drop (q - at) (drop at text), length-drop at text));
    }

-- a text that can't stand from a byte on begins no document through this byte
begins_none : (p : List ℕ) (c : ℕ) (x : List ℕ) → document_at (p ++ c ∷ x) ≡ Err (c ∷ x) → BeginsDocument (p ++ c ∷ []) → ⊥
begins_none p c x h b =
    let more : List ℕ = b.0 in
    let whole : ((p ++ c ∷ []) ++ more) ++ [] ≡ p ++ c ∷ more = append-nil ((p ++ c ∷ []) ++ more) ∙ append_assoc p (c ∷ []) more in
    let read : document_at (p ++ c ∷ more) ≡ Ok (b.1, []) = ap document_at (sym whole) ∙ document_core.again b.1 ((p ++ c ∷ []) ++ more) [] b.2 tt in
    let moved : Moved (c ∷ x) (c ∷ more) (Err (c ∷ x)) (document_at (p ++ c ∷ more)) = subst (λ (o : Read Elements). Moved (c ∷ x) (c ∷ more) o (document_at (p ++ c ∷ more))) h (document_core.moves p c x more) in
    absurd (cc (sym read ∙ moved [] refl))

past_from : (text : List ℕ) (at : ℕ) (p rest : List ℕ) (place : ℕ) → drop at text ≡ p ++ rest → document_at (drop at text) ≡ Err rest → place + length rest ≡ length text → at + length p ≡ place → place < length text
    → BeginsDocument (slice_range text at (place + 1)) → ⊥
past_from text at p [] place parts h whole behind more b = absurd (omega arith)
past_from text at p (c ∷ x) place parts h whole behind more b =
    let seam : drop at text ≡ (p ++ c ∷ []) ++ x = parts ∙ sym (append_assoc p (c ∷ []) x) in
    let is : slice_range text at (place + 1) ≡ p ++ c ∷ [] = ap (take (place + 1 - at)) seam ∙ take_at (p ++ c ∷ []) x (place + 1 - at) (omega (arith, length-append p (c ∷ []))) in
    begins_none p c x (ap document_at (sym parts) ∙ h) (subst BeginsDocument is b)

-- a front of what begins a document begins it too
begins_front : (p x : List ℕ) → BeginsDocument (p ++ x) → BeginsDocument p
begins_front p x b = (x ++ b.0, b.1, subst (IsDocumentText b.1) (append_assoc p x b.0) b.2)

-- what is read up to the place where reading stops begins a document
begun_from : (text : List ℕ) (at : ℕ) (rest : List ℕ) (place : ℕ) → IsUtf8 text → document_at (drop at text) ≡ Err rest → place + length rest ≡ length text → at ≤ length text
    → (q : ℕ) → at ≤ q → q ≤ place → BeginsDocument (slice_range text at q)
begun_from text at rest place utf8 h whole inside q low high =
    let fine : Fine (drop at text) = (take at text, subst IsUtf8 (sym (take-append-drop at text)) utf8) in
    let t = document_core.stops (drop at text) rest fine h in
    let sizes : length t.0 + length rest ≡ length text - at = sym (length-append t.0 rest) ∙ ap length (sym (t.3)) ∙ length-drop at text in
    let parts : t.0 ≡ take (q - at) t.0 ++ drop (q - at) t.0 = sym (take-append-drop (q - at) t.0) in
    let seam : drop at text ≡ take (q - at) t.0 ++ (drop (q - at) t.0 ++ rest) = t.3 ∙ ap (λ (u : List ℕ). u ++ rest) parts ∙ append_assoc (take (q - at) t.0) (drop (q - at) t.0) rest in
    let size : length (take (q - at) t.0) ≡ q - at = length-take-le (q - at) t.0 (omega (arith, sizes)) in
    let is : slice_range text at q ≡ take (q - at) t.0 = ap (take (q - at)) seam ∙ take_at (take (q - at) t.0) (drop (q - at) t.0 ++ rest) (q - at) size in
    let whole_begun : BeginsDocument t.0 = (t.1, t.2, t.4) in
    subst BeginsDocument (sym is) (begins_front (take (q - at) t.0) (drop (q - at) t.0) (subst BeginsDocument parts whole_begun))

pub refused_from : (text : List ℕ) (at : ℕ) (rest : List ℕ) (place : ℕ) → IsUtf8 text → at ≤ length text → document_at (drop at text) ≡ Err rest → place + length rest ≡ length text → IsRefused text at place
refused_from text at rest place utf8 inside h whole =
    let t = document_core.stands (drop at text) rest h in
    let sizes : length t.0 + length rest ≡ length text - at = sym (length-append t.0 rest) ∙ ap length (sym (t.1)) ∙ length-drop at text in
    record {
      behind = omega (arith, sizes);
      within = omega arith;
      none = λ e q low high l. absurd (cc (sym (stretch_read text at q e l) ∙ h));
      begun = begun_from text at rest place utf8 h whole inside;
      past = past_from text at t.0 rest place t.1 h whole (omega (arith, sizes));
    }

pub one_document : (d e : Elements) (text : List ℕ) → IsDocumentText d text → IsDocumentText e text → d ≡ e
one_document d e text l m = (pair_of d e [] [] (sym (document_core.again d text [] l tt) ∙ document_core.again e text [] m tt)).0

pub found_short : (text : List ℕ) (at : ℕ) (es : Elements) (rest : List ℕ) → document_at (drop at text) ≡ Ok (es, rest) → length rest ≤ length text
found_short text at es rest h =
    let t = document_core.takes (drop at text) es rest h in
    omega (arith, ap length t.1, length-append t.0 rest, length-drop at text)

pub refused_short : (text : List ℕ) (at : ℕ) (rest : List ℕ) → document_at (drop at text) ≡ Err rest → length rest ≤ length text
refused_short text at rest h =
    let t = document_core.stands (drop at text) rest h in
    omega (arith, ap length t.1, length-append t.0 rest, length-drop at text)

-- the text from a place on, as code takes it
pub sliced : (text bytes : List ℕ) (at : ℕ) → bytes ≡ text → take (length bytes - at) (drop at bytes) ≡ drop at text
sliced text bytes at e = take_rest bytes at ∙ ap (drop at) e
