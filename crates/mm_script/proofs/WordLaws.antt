-- The next word of a text, as it is read and as the grammar says it.
use Rattle.std.proofs.Common.{◌≡◌, ◌≢◌, ℕ, ◌⊎◌, inl, inr, Bool, true, false, cond, not, List, [], ◌∷◌, ◌++◌, append-nil, Option, Some, None, Ok, Err, refl, sym, ap, ◌∙◌, subst, suc, zero}
use Rattle.std.specs.List.{list_all}
use Rattle.std.specs.Str.{bytes_eq}
use Rattle.std.proofs.lemmas.Bool.{eqb-true, and_parts, and_from}
use Rattle.std.proofs.lemmas.Slice.Eq.{bytes_eq-Decides}
use Rattle.mm_script.specs.declared.fault.LineWhat.{LineWhat}
use Rattle.mm_script.specs.declared.fault.LineWhat.TheVariants.{Word}
use Rattle.mm_script.specs.Words.{is_space, is_other, spaces, IsBlank, IsWord, Ends, NextWord}
use Rattle.mm_script.specs.Reading.{skip, front, behind, word_here, next_word, tested, part_at, flagged, flag_at, is_empty, end_at}

pub skip_parts : (text : List ℕ) → (n : ℕ) × (text ≡ spaces n ++ skip text)
unfolding skip
skip_parts [] = (0, refl)
skip_parts (b ∷ text) = by (is_space b) refl (skip_parts text)
  where
    by : (s : Bool) → is_space b ≡ s → (n : ℕ) × (text ≡ spaces n ++ skip text) → (n : ℕ) × (b ∷ text ≡ spaces n ++ cond s (skip text) (b ∷ text))
    by true e p = (suc p.0, ap (λ (c : ℕ). c ∷ text) (eqb-true b 0x20 e) ∙ ap (λ (t : List ℕ). 0x20 ∷ t) p.1)
    by false e p = (0, refl)

-- of a text that begins with a space
pub skip_parts_more : (b : ℕ) (text : List ℕ) → is_space b ≡ true → (n : ℕ) × (b ∷ text ≡ spaces (suc n) ++ skip (b ∷ text))
unfolding skip
skip_parts_more b text is =
    let p = skip_parts text in
    (p.0, ap (λ (c : ℕ). c ∷ text) (eqb-true b 0x20 is) ∙ ap (λ (t : List ℕ). 0x20 ∷ t) p.1 ∙ ap (λ (s : Bool). spaces (suc p.0) ++ cond s (skip text) (b ∷ text)) (sym is))

pub skip_first : (text : List ℕ) (b : ℕ) (t : List ℕ) → skip text ≡ b ∷ t → is_space b ≡ false
unfolding skip
skip_first [] b t is = absurd (cc)
skip_first (a ∷ text) b t is = by (is_space a) refl (skip_first text b t) is
  where
    by : (s : Bool) → is_space a ≡ s → (skip text ≡ b ∷ t → is_space b ≡ false) → cond s (skip text) (a ∷ text) ≡ b ∷ t → is_space b ≡ false
    by true e later is = later is
    by false e later is = let same : a ≡ b = cc in ap is_space (sym same) ∙ e

pub front_behind : (text : List ℕ) → text ≡ front text ++ behind text
unfolding front behind
front_behind [] = refl
front_behind (b ∷ text) = by (is_space b) (front_behind text)
  where
    by : (s : Bool) → text ≡ front text ++ behind text → b ∷ text ≡ cond s [] (b ∷ front text) ++ cond s (b ∷ text) (behind text)
    by true later = refl
    by false later = ap (λ (t : List ℕ). b ∷ t) later

pub front_whole : (text : List ℕ) → list_all is_other (front text) ≡ true
unfolding front
front_whole [] = refl
front_whole (b ∷ text) = by (is_space b) refl (front_whole text)
  where
    by : (s : Bool) → is_space b ≡ s → list_all is_other (front text) ≡ true → list_all is_other (cond s [] (b ∷ front text)) ≡ true
    by true e later = refl
    by false e later = and_from (is_other b) (list_all is_other (front text)) (ap not e) later

pub behind_ends : (text : List ℕ) → Ends (behind text)
unfolding behind
behind_ends [] = tt
behind_ends (b ∷ text) = by (is_space b) refl (behind_ends text)
  where
    by : (s : Bool) → is_space b ≡ s → Ends (behind text) → Ends (cond s (b ∷ text) (behind text))
    by true e later = e
    by false e later = later

pub front_some : (b : ℕ) (text : List ℕ) → is_space b ≡ false → front (b ∷ text) ≢ []
unfolding front
front_some b text other is = let e : b ∷ front text ≡ [] = ap (λ (s : Bool). cond s [] (b ∷ front text)) (sym other) ∙ is in cc

abbrev or_this : List ℕ × List ℕ → Option (List ℕ × List ℕ) → List ℕ × List ℕ
or_this x None = x
or_this x (Some y) = y

pub word_takes : (text w rest : List ℕ) → next_word text ≡ Some (w, rest) → NextWord w text rest
unfolding next_word
word_takes [] w rest is = absurd (cc)
word_takes (a ∷ text) w rest is = by (is_space a) refl is
  where
    here : (t : List ℕ) → is_space a ≡ true → skip (a ∷ text) ≡ t → word_here t ≡ Some (w, rest) → NextWord w (a ∷ text) rest
    here [] e s is = absurd (cc)
    here (b ∷ t) e s is =
        let p : front (b ∷ t) ≡ w = ap (λ (o : Option (List ℕ × List ℕ)). (or_this (w, rest) o).0) is in
        let q : behind (b ∷ t) ≡ rest = ap (λ (o : Option (List ℕ × List ℕ)). (or_this (w, rest) o).1) is in
        let parts = skip_parts_more a text e in
        let cut : skip (a ∷ text) ≡ front (b ∷ t) ++ rest = s ∙ front_behind (b ∷ t) ∙ ap (λ (r : List ℕ). front (b ∷ t) ++ r) q in
        record {
          word_is = record { some = λ none. front_some b t (skip_first (a ∷ text) b t s) (p ∙ none); whole = ap (list_all is_other) (sym p) ∙ front_whole (b ∷ t) };
          next = (parts.0, front (b ∷ t), parts.1 ∙ ap (λ (r : List ℕ). spaces (suc parts.0) ++ r) cut, p);
          ends = subst Ends q (behind_ends (b ∷ t));
        }

    by : (s : Bool) → is_space a ≡ s → cond s (word_here (skip (a ∷ text))) None ≡ Some (w, rest) → NextWord w (a ∷ text) rest
    by true e is = here (skip (a ∷ text)) e refl is
    by false e is = absurd (cc)

pub skip_spaces : (n : ℕ) (t : List ℕ) → skip (spaces n ++ t) ≡ skip t
unfolding skip
skip_spaces zero t = refl
skip_spaces (suc n) t = skip_spaces n t

skip_other : (b : ℕ) (t : List ℕ) → is_other b ≡ true → skip (b ∷ t) ≡ b ∷ t
unfolding skip
skip_other b t is = by (is_space b) is
  where
    by : (s : Bool) → not s ≡ true → cond s (skip t) (b ∷ t) ≡ b ∷ t
    by true e = absurd (cc)
    by false e = refl

pub front_again : (w rest : List ℕ) → list_all is_other w ≡ true → Ends rest → front (w ++ rest) ≡ w
unfolding front
front_again [] [] is ends = refl
front_again [] (b ∷ rest) is ends = ap (λ (s : Bool). cond s [] (b ∷ front rest)) ends
front_again (b ∷ w) rest is ends = let both = and_parts (is_other b) (list_all is_other w) is in by (is_space b) both.0 (front_again w rest both.1 ends)
  where
    by : (s : Bool) → not s ≡ true → front (w ++ rest) ≡ w → cond s [] (b ∷ front (w ++ rest)) ≡ b ∷ w
    by true e later = absurd (cc)
    by false e later = ap (λ (t : List ℕ). b ∷ t) later

pub behind_again : (w rest : List ℕ) → list_all is_other w ≡ true → Ends rest → behind (w ++ rest) ≡ rest
unfolding behind
behind_again [] [] is ends = refl
behind_again [] (b ∷ rest) is ends = ap (λ (s : Bool). cond s (b ∷ rest) (behind rest)) ends
behind_again (b ∷ w) rest is ends = let both = and_parts (is_other b) (list_all is_other w) is in by (is_space b) both.0 (behind_again w rest both.1 ends)
  where
    by : (s : Bool) → not s ≡ true → behind (w ++ rest) ≡ rest → cond s (b ∷ (w ++ rest)) (behind (w ++ rest)) ≡ rest
    by true e later = absurd (cc)
    by false e later = later

word_behind : (n : ℕ) (w rest : List ℕ) → IsWord w → Ends rest → next_word (spaces (suc n) ++ (w ++ rest)) ≡ Some (w, rest)
unfolding next_word
word_behind n [] rest is ends = absurd (is.some refl)
word_behind n (b ∷ w) rest is ends =
    let text : List ℕ = (b ∷ w) ++ rest in
    let skipped : skip (spaces (suc n) ++ text) ≡ text = skip_spaces (suc n) text ∙ skip_other b (w ++ rest) (and_parts (is_other b) (list_all is_other w) is.whole).0 in
    ap word_here skipped ∙ ap (λ (f : List ℕ). Some (f, behind text)) (front_again (b ∷ w) rest is.whole ends) ∙ ap (λ (r : List ℕ). Some (b ∷ w, r)) (behind_again (b ∷ w) rest is.whole ends)

pub word_again : (text w rest : List ℕ) → NextWord w text rest → next_word text ≡ Some (w, rest)
word_again text w rest x =
    ap next_word (x.next.2 ∙ ap (λ (p : List ℕ). spaces (suc x.next.0) ++ (p ++ rest)) x.next.3) ∙ word_behind x.next.0 w rest x.word_is x.ends

-- a word has one place
pub next_same : (word text r s : List ℕ) → NextWord word text r → NextWord word text s → r ≡ s
next_same word text r s x y = ap (λ (o : Option (List ℕ × List ℕ)). (or_this (word, r) o).1) (sym (word_again text word r x) ∙ word_again text word s y)

-- ---- words that pass a test

pub part_takes : (what : LineWhat) (test : List ℕ → Bool) (text : List ℕ) (x : List ℕ × List ℕ) → part_at what test text ≡ Ok x → NextWord x.0 text x.1 × (test x.0 ≡ true)
unfolding part_at
part_takes what test text x is = by (next_word text) refl is
  where
    pass : (w : List ℕ × List ℕ) (b : Bool) → next_word text ≡ Some w → test w.0 ≡ b → cond b (Ok w) (Err what) ≡ Ok x → NextWord x.0 text x.1 × (test x.0 ≡ true)
    pass w true e t is = let same : w ≡ x = cc in (word_takes text x.0 x.1 (e ∙ ap (λ (v : List ℕ × List ℕ). Some v) same), ap (λ (v : List ℕ × List ℕ). test v.0) (sym same) ∙ t)
    pass w false e t is = absurd (cc)

    by : (o : Option (List ℕ × List ℕ)) → next_word text ≡ o → tested what test o ≡ Ok x → NextWord x.0 text x.1 × (test x.0 ≡ true)
    by None e is = absurd (cc)
    by (Some w) e is = pass w (test w.0) e refl is

pub part_again : (what : LineWhat) (test : List ℕ → Bool) (text w rest : List ℕ) → NextWord w text rest → test w ≡ true → part_at what test text ≡ Ok (w, rest)
unfolding part_at
part_again what test text w rest x t = ap (tested what test) (word_again text w rest x) ∙ ap (λ (b : Bool). cond b (Ok (w, rest)) (Err what)) t

pub part_what : (what : LineWhat) (test : List ℕ → Bool) (text : List ℕ) (v : LineWhat) → part_at what test text ≡ Err v → v ≡ what
unfolding part_at
part_what what test text v is = by (next_word text) is
  where
    pass : (w : List ℕ × List ℕ) (b : Bool) → cond b (Ok w) (Err what) ≡ Err v → v ≡ what
    pass w true is = absurd (cc)
    pass w false is = cc

    by : (o : Option (List ℕ × List ℕ)) → tested what test o ≡ Err v → v ≡ what
    by None is = cc
    by (Some w) is = pass w (test w.0) is

-- ---- a word that may stand there

pub flag_cases : (due text : List ℕ)
    → ((rest : List ℕ) × NextWord due text rest × (flag_at due text ≡ (true, rest))) ⊎ (((rest : List ℕ) → NextWord due text rest → ⊥) × (flag_at due text ≡ (false, text)))
unfolding flag_at
flag_cases due text = by (next_word text) refl
  where
    pass : (w : List ℕ × List ℕ) (b : Bool) → next_word text ≡ Some w → bytes_eq w.0 due ≡ b
        → ((rest : List ℕ) × NextWord due text rest × (flagged due text (next_word text) ≡ (true, rest))) ⊎ (((rest : List ℕ) → NextWord due text rest → ⊥) × (flagged due text (next_word text) ≡ (false, text)))
    pass w true e t =
        let same : w.0 ≡ due = (bytes_eq-Decides w.0 due).0 t in
        inl (w.1, word_takes text due w.1 (e ∙ ap (λ (v : List ℕ). Some (v, w.1)) same), ap (flagged due text) e ∙ ap (λ (b : Bool). cond b (true, w.1) (false, text)) t)
    pass w false e t =
        inr (
          λ rest x.
              let both : Some w ≡ Some (due, rest) = sym e ∙ word_again text due rest x in
              let one : w ≡ (due, rest) = cc in
              let same : w.0 ≡ due = ap (λ (v : List ℕ × List ℕ). v.0) one in
              let yes : bytes_eq w.0 due ≡ true = (bytes_eq-Decides w.0 due).1 same in
              cc (sym yes ∙ t),
          ap (flagged due text) e ∙ ap (λ (b : Bool). cond b (true, w.1) (false, text)) t,
        )

    by : (o : Option (List ℕ × List ℕ)) → next_word text ≡ o
        → ((rest : List ℕ) × NextWord due text rest × (flagged due text (next_word text) ≡ (true, rest))) ⊎ (((rest : List ℕ) → NextWord due text rest → ⊥) × (flagged due text (next_word text) ≡ (false, text)))
    by None e = inr (λ rest x. cc (sym e ∙ word_again text due rest x), ap (flagged due text) e)
    by (Some w) e = pass w (bytes_eq w.0 due) e refl

-- ---- the end of a line

blank_skipped : (text : List ℕ) → IsBlank text → skip text ≡ []
unfolding skip
blank_skipped text b = ap skip (b.1 ∙ sym (append-nil (spaces b.0))) ∙ skip_spaces b.0 []

pub end_cases : (text : List ℕ) → (IsBlank text × (end_at text ≡ Ok (tt {0}))) ⊎ ((IsBlank text → ⊥) × (end_at text ≡ Err Word))
unfolding end_at
end_cases text = by (skip text) refl
  where
    by : (t : List ℕ) → skip text ≡ t → (IsBlank text × (cond (is_empty (skip text)) (Ok (tt {0})) (Err Word) ≡ Ok (tt {0}))) ⊎ ((IsBlank text → ⊥) × (cond (is_empty (skip text)) (Ok (tt {0})) (Err Word) ≡ Err Word))
    by [] e =
        let p = skip_parts text in
        inl ((p.0, p.1 ∙ ap (λ (t : List ℕ). spaces p.0 ++ t) e ∙ append-nil (spaces p.0)), ap (λ (t : List ℕ). cond (is_empty t) (Ok (tt {0})) (Err Word)) e)
    by (b ∷ t) e = inr (λ blank. cc (sym e ∙ blank_skipped text blank), ap (λ (t : List ℕ). cond (is_empty t) (Ok (tt {0})) (Err Word)) e)
