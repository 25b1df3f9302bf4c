-- What is read of a form is what the form means, and what is refused is its first fault.
use Rattle.std.proofs.Common.{◌≡◌, ℕ, inl, inr, Bool, true, false, List, Result, Ok, Err, refl, sym, ap, ◌∙◌, subst}
use Rattle.mm_bson.specs.Tree.{Elements}
use Rattle.mm_model.specs.declared.action.Action.{Action}
use Rattle.mm_script.specs.declared.fault.LineWhat.{LineWhat}
use Rattle.mm_script.specs.Words.{NextWord}
use Rattle.mm_script.specs.Documents.{NextDocument, NextNotation, IsShortSpecification}
use Rattle.mm_script.specs.Form.{Form, ends, word, flag, document, specification, wrong, Means, FirstFault}
use Rattle.mm_script.specs.Reading.{◌>>=◌, part_at, flag_at, end_at, document_at, specification_at, read}
use Rattle.mm_script.proofs.WordLaws.{part_takes, part_again, part_what, flag_cases, end_cases, next_same}
use Rattle.mm_script.proofs.DocLaws.{document_again, document_takes, document_what, specification_again, specification_cases}

-- ---- what is read is meant, and what is refused is the first fault

-- what reading says of a text, as a whole
abbrev pub Told : Form → List ℕ → Result Action LineWhat → Type 0
Told f text (Ok a) = Means f text a
Told f text (Err v) = FirstFault f text v

told_word : (what : LineWhat) (test : List ℕ → Bool) (next : List ℕ → Form) (text : List ℕ) (r : Result (List ℕ × List ℕ) LineWhat) → part_at what test text ≡ r
    → ((w rest : List ℕ) → Told (next w) rest (read (next w) rest)) → Told (word what test next) text (r >>= λ w. read (next w.0) w.1)
told_word what test next text (Ok w) is later = onward (read (next w.0) w.1) (part_takes what test text w is) (later w.0 w.1)
  where
    onward : (o : Result Action LineWhat) → NextWord w.0 text w.1 × (test w.0 ≡ true) → Told (next w.0) w.1 o → Told (word what test next) text o
    onward (Ok a) x t = (w.0, w.1, x.0, x.1, t)
    onward (Err v) x t = inl (w.0, w.1, x.0, x.1, t)
told_word what test next text (Err v) is later = inr (λ w rest x t. cc (sym (part_again what test text w rest x t) ∙ is), part_what what test text v is)

told_flag : (due : List ℕ) (next : Bool → Form) (text : List ℕ) → ((b : Bool) (rest : List ℕ) → Told (next b) rest (read (next b) rest)) → Told (flag due next) text (read (next (flag_at due text).0) (flag_at due text).1)
told_flag due next text later = elim (flag_cases due text) [ inl x ↦ there x.0 x.1 x.2 | inr x ↦ missing x.0 x.1 ]
  where
    there : (rest : List ℕ) → NextWord due text rest → flag_at due text ≡ (true, rest) → Told (flag due next) text (read (next (flag_at due text).0) (flag_at due text).1)
    there rest x is = subst (λ (f : Bool × List ℕ). Told (flag due next) text (read (next f.0) f.1)) (sym is) (onward (read (next true) rest) (later true rest))
      where
        onward : (o : Result Action LineWhat) → Told (next true) rest o → Told (flag due next) text o
        onward (Ok a) t = inl (rest, x, t)
        onward (Err v) t = inl (rest, x, t)

    missing : ((rest : List ℕ) → NextWord due text rest → ⊥) → flag_at due text ≡ (false, text) → Told (flag due next) text (read (next (flag_at due text).0) (flag_at due text).1)
    missing none is = subst (λ (f : Bool × List ℕ). Told (flag due next) text (read (next f.0) f.1)) (sym is) (onward (read (next false) text) (later false text))
      where
        onward : (o : Result Action LineWhat) → Told (next false) text o → Told (flag due next) text o
        onward (Ok a) t = inr (none, t)
        onward (Err v) t = inr (none, t)

told_end : (a : Action) (text : List ℕ) → Told (ends a) text (end_at text >>= λ e. Ok a)
told_end a text = elim (end_cases text) [
  | inl x ↦ subst (λ (r : Result (Unit {0}) LineWhat). Told (ends a) text (r >>= λ e. Ok a)) (sym x.1) (x.0, refl)
  | inr x ↦ subst (λ (r : Result (Unit {0}) LineWhat). Told (ends a) text (r >>= λ e. Ok a)) (sym x.1) (x.0, refl)
]

told_document : (next : Elements → Form) (text : List ℕ) (r : Result (Elements × List ℕ) LineWhat) → document_at text ≡ r
    → ((d : Elements) (rest : List ℕ) → Told (next d) rest (read (next d) rest)) → Told (document next) text (r >>= λ d. read (next d.0) d.1)
told_document next text (Ok d) is later = onward (read (next d.0) d.1) (document_takes text d.0 d.1 is) (later d.0 d.1)
  where
    onward : (o : Result Action LineWhat) → NextDocument d.0 text d.1 → Told (next d.0) d.1 o → Told (document next) text o
    onward (Ok a) x t = (d.0, d.1, x, t)
    onward (Err v) x t = inl (d.0, d.1, x, t)
told_document next text (Err v) is later = inr (λ d rest x. cc (sym (document_again d text rest x) ∙ is), document_what text v is)

told_specification : (next : Elements → Form) (text : List ℕ) → ((d : Elements) (rest : List ℕ) → Told (next d) rest (read (next d) rest)) → Told (specification next) text (specification_at text >>= λ d. read (next d.0) d.1)
told_specification next text later = elim (specification_cases text) [
  | inl x ↦ subst (λ (r : Result (Elements × List ℕ) LineWhat). Told (specification next) text (r >>= λ d. read (next d.0) d.1)) (sym x.4) (onward x.0 x.1 x.2 x.3 (read (next x.0) x.1) (later x.0 x.1))
  | inr y ↦ elim y [
    | inl x ↦ subst (λ (r : Result (Elements × List ℕ) LineWhat). Told (specification next) text (r >>= λ d. read (next d.0) d.1)) (sym x.4) (inr (inl (x.0, x.1, x.2, x.3, refl)))
    | inr x ↦ subst (λ (r : Result (Elements × List ℕ) LineWhat). Told (specification next) text (r >>= λ d. read (next d.0) d.1)) (sym x.1) (inr (inr (x.0, refl)))
  ]
]
  where
    onward : (d : Elements) (rest : List ℕ) → NextNotation d text rest → IsShortSpecification d → (o : Result Action LineWhat) → Told (next d) rest o → Told (specification next) text o
    onward d rest x short (Ok a) t = (d, rest, x, short, t)
    onward d rest x short (Err v) t = inl (d, rest, x, short, t)

-- what reading answers is so
pub told : (f : Form) (text : List ℕ) → Told f text (read f text)
told (ends a) text = told_end a text
told (word what test next) text = told_word what test next text (part_at what test text) refl (λ w rest. told (next w) rest)
told (flag due next) text = told_flag due next text (λ b rest. told (next b) rest)
told (document next) text = told_document next text (document_at text) refl (λ d rest. told (next d) rest)
told (specification next) text = told_specification next text (λ d rest. told (next d) rest)
told (wrong what) text = refl

-- ---- what is meant is read

pub again : (f : Form) (text : List ℕ) (a : Action) → Means f text a → read f text ≡ Ok a
again (ends b) text a m = elim (end_cases text) [
  | inl x ↦ ap (λ (r : Result (Unit {0}) LineWhat). r >>= λ e. Ok b) x.1 ∙ ap (λ (c : Action). Ok c) (sym m.1)
  | inr x ↦ absurd (x.0 m.0)
]
again (word what test next) text a m = ap (λ (r : Result (List ℕ × List ℕ) LineWhat). r >>= λ w. read (next w.0) w.1) (part_again what test text m.0 m.1 m.2 m.3) ∙ again (next m.0) m.1 a m.4
again (flag due next) text a (inl m) = elim (flag_cases due text) [
  | inl x ↦
      let same : (true, x.0) ≡ (true, m.0) = ap (λ (r : List ℕ). (true, r)) (next_same due text x.0 m.0 x.1 m.1) in
      ap (λ (f : Bool × List ℕ). read (next f.0) f.1) (x.2 ∙ same) ∙ again (next true) m.0 a m.2
  | inr x ↦ absurd (x.0 m.0 m.1)
]
again (flag due next) text a (inr m) = elim (flag_cases due text) [
  | inl x ↦ absurd (m.0 x.0 x.1)
  | inr x ↦ ap (λ (f : Bool × List ℕ). read (next f.0) f.1) x.1 ∙ again (next false) text a m.1
]
again (document next) text a m = ap (λ (r : Result (Elements × List ℕ) LineWhat). r >>= λ d. read (next d.0) d.1) (document_again m.0 text m.1 m.2) ∙ again (next m.0) m.1 a m.3
again (specification next) text a m = ap (λ (r : Result (Elements × List ℕ) LineWhat). r >>= λ d. read (next d.0) d.1) (specification_again m.0 text m.1 m.2 m.3) ∙ again (next m.0) m.1 a m.4
again (wrong what) text a m = absurd m
