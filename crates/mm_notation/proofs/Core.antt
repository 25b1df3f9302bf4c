-- Readers of languages: what is read is in the language, and what is in the language is read.
use Rattle.std.proofs.Common.{◌≡◌, ℕ, zero, suc, ◌<◌, ◌≤◌, ◌⊎◌, inl, inr, List, [], ◌∷◌, ◌++◌, length, Option, Some, None, Result, Ok, Err, append_assoc, append-nil, refl, sym, ap, ◌∙◌, subst, arith}
use Rattle.std.specs.Prelude.{if◌then◌else◌, Bool, true, false}
use Rattle.std.proofs.lemmas.List.{length-append, append_cancel_right}
use Rattle.std.proofs.lemmas.Str.{IsUtf8-nil}
use Rattle.std.specs.Str.{IsUtf8}
use Rattle.mm_notation.specs.Grammar.{◌·◌}
use Rattle.mm_notation.specs.Reading.{Read, Item, ◌>>=◌, behind_item, many_for, many_at}

-- What is read up to a byte doesn't hang on what follows it: where the rest after a first reading ends in z, it ends after the second in w.
abbrev pub Moved : {A : Type 0} → List ℕ → List ℕ → Read A → Read A → Type 0
Moved z w (Ok x) other = (q : List ℕ) → x.1 ≡ q ++ z → other ≡ Ok (x.0, q ++ w)
Moved z w (Err r) other = (q : List ℕ) → r ≡ q ++ z → other ≡ Err (q ++ w)

-- F tells what may follow a value's text.
pub record Half {A : Type 0} (F : A → List ℕ → Type 0) (L : A → List ℕ → Type 0) (read : List ℕ → Read A) : Type 0 where
  pub takes : (text : List ℕ) (v : A) (r : List ℕ) → read text ≡ Ok (v, r) → (s : List ℕ) × (text ≡ s ++ r) × L v s
  pub again : (v : A) (s r : List ℕ) → L v s → F v r → read (s ++ r) ≡ Ok (v, r)
  pub stands : (text r : List ℕ) → read text ≡ Err r → (p : List ℕ) × (text ≡ p ++ r)
  pub moves : (p : List ℕ) (c : ℕ) (x y : List ℕ) → Moved (c ∷ x) (c ∷ y) (read (p ++ c ∷ x)) (read (p ++ c ∷ y))

abbrev pub Any : {A : Type 0} → A → List ℕ → Type 0
Any v r = Unit {0}

abbrev pub IsRead : {A : Type 0} → Result A (List ℕ) → Result A (List ℕ) → Type 0
IsRead x y = x ≡ y

-- what a read value is
pub pair_of : {A : Type 0} (v w : A) (t r : List ℕ) → IsRead {A = A × List ℕ} (Ok (v, t)) (Ok (w, r)) → (v ≡ w) × (t ≡ r)
pair_of {A} v w t r h =
    let e : (v, t) ≡ (w, r) = cc in
    (ap (λ (p : A × List ℕ). p.0) e, ap (λ (p : A × List ℕ). p.1) e)

pub bind_ok : {A B : Type 0} (read : Result A (List ℕ)) (f : A → Result B (List ℕ)) (y : B) → (read >>= f) ≡ Ok y → (x : A) × (read ≡ Ok x) × (f x ≡ Ok y)
bind_ok (Ok x) f y h = (x, refl, h)
bind_ok (Err r) f y h = cc

pub bind_err : {A B : Type 0} (read : Result A (List ℕ)) (f : A → Result B (List ℕ)) (r : List ℕ) → (read >>= f) ≡ Err r
    → (read ≡ Err r) ⊎ ((x : A) × (read ≡ Ok x) × (f x ≡ Err r))
bind_err (Ok x) f r h = inr (x, refl, h)
bind_err (Err s) f r h = inl cc

-- the texts of a first value and of one that depends on it
abbrev pub Then : {A B : Type 0} → (A → List ℕ → Type 0) → (A → B → List ℕ → Type 0) → B → List ℕ → Type 0
Then {A} L M w s = (v : A) × (L v · M v w) s

-- ---- what follows

pub moved_ok : {A : Type 0} (v : A) (p z w : List ℕ) → Moved z w (Ok (v, p ++ z)) (Ok (v, p ++ w))
moved_ok v p z w = λ q e. ap (λ (u : List ℕ). Ok (v, u ++ w)) (append_cancel_right p q z e)

pub moved_err : {A : Type 0} (p z w : List ℕ) → Moved {A = A} z w (Err (p ++ z)) (Err (p ++ w))
moved_err p z w = λ q e. ap (λ (u : List ℕ). Err (u ++ w)) (append_cancel_right p q z e)

pub moved_past : {A : Type 0} (v : A) (c : ℕ) (x w : List ℕ) (other : Read A) → Moved (c ∷ x) w (Ok (v, x)) other
moved_past v c x w other = λ q e. absurd (omega (arith, ap length e, length-append q (c ∷ x)))

pub if_moved : {A : Type 0} (t : Bool) (z w : List ℕ) (a b d e : Read A) → Moved z w a d → Moved z w b e → Moved z w (if t then a else b) (if t then d else e)
if_moved true z w a b d e m n = m
if_moved false z w a b d e m n = n

-- what is left is an end of the text
abbrev pub Ends : {A : Type 0} → (List ℕ → Read A) → Type 0
Ends {A} f = ((text : List ℕ) (v : A) (r : List ℕ) → f text ≡ Ok (v, r) → (s : List ℕ) × (text ≡ s ++ r)) × ((text r : List ℕ) → f text ≡ Err r → (p : List ℕ) × (text ≡ p ++ r))

pub ends_half : {A : Type 0} (F : A → List ℕ → Type 0) (L : A → List ℕ → Type 0) (f : List ℕ → Read A) → Half F L f → Ends f
ends_half F L f c = (λ text v r h. ((c.takes text v r h).0, (c.takes text v r h).1), c.stands)

spent_by : {A : Type 0} (f : List ℕ → Read A) → Ends f → (c : ℕ) (x w : List ℕ) (other o : Read A) → f x ≡ o → Moved (c ∷ x) w o other
spent_by f ends c x w other (Ok y) e = λ q h.
    let t = ends.0 x y.0 y.1 e in
    absurd (omega (arith, ap length t.1, length-append t.0 y.1, ap length h, length-append q (c ∷ x)))
spent_by f ends c x w other (Err r) e = λ q h.
    let t = ends.1 x r e in
    absurd (omega (arith, ap length t.1, length-append t.0 r, ap length h, length-append q (c ∷ x)))

-- behind the byte nothing is left of it
pub spent : {A : Type 0} (f : List ℕ → Read A) → Ends f → (c : ℕ) (x w : List ℕ) (other : Read A) → Moved (c ∷ x) w (f x) other
spent f ends c x w other = spent_by f ends c x w other (f x) refl

pub map_moves : {A B : Type 0} (h : A → B) (z w : List ℕ) (o other : Read A) → Moved z w o other → Moved z w (o >>= λ x. Ok (h x.0, x.1)) (other >>= λ x. Ok (h x.0, x.1))
map_moves h z w (Ok x) other m = λ q e. rw (m q e) refl
map_moves h z w (Err r) other m = λ q e. rw (m q e) refl

module _ {A B : Type 0} (f : List ℕ → Read A) (g : A → List ℕ → Read B) where
  second_moves : (v : A) (r z w : List ℕ) (other : Read A) → Ends (g v) → ((q : List ℕ) → Moved z w (g v (q ++ z)) (g v (q ++ w))) → ((q : List ℕ) → r ≡ q ++ z → other ≡ Ok (v, q ++ w))
      → (o : Read B) → g v r ≡ o → Moved z w o (other >>= λ x. g x.0 x.1)
  second_moves v r z w other ends mg mf (Ok y) e = λ q h.
      let t = ends.0 r y.0 y.1 e in
      let whole : r ≡ (t.0 ++ q) ++ z = t.1 ∙ ap (λ (u : List ℕ). t.0 ++ u) h ∙ sym (append_assoc t.0 q z) in
      let same : g v ((t.0 ++ q) ++ z) ≡ Ok y = ap (g v) (sym whole) ∙ e in
      let m : Moved z w (Ok y) (g v ((t.0 ++ q) ++ w)) = subst (λ (k : Read B). Moved z w k (g v ((t.0 ++ q) ++ w))) same (mg (t.0 ++ q)) in
      rw (mf (t.0 ++ q) whole) (m q h)
  second_moves v r z w other ends mg mf (Err r2) e = λ q h.
      let t = ends.1 r r2 e in
      let whole : r ≡ (t.0 ++ q) ++ z = t.1 ∙ ap (λ (u : List ℕ). t.0 ++ u) h ∙ sym (append_assoc t.0 q z) in
      let same : g v ((t.0 ++ q) ++ z) ≡ Err r2 = ap (g v) (sym whole) ∙ e in
      let m : Moved z w (Err r2) (g v ((t.0 ++ q) ++ w)) = subst (λ (k : Read B). Moved z w k (g v ((t.0 ++ q) ++ w))) same (mg (t.0 ++ q)) in
      rw (mf (t.0 ++ q) whole) (m q h)

  then_moves : (z w : List ℕ) (o other : Read A) → ((v : A) → Ends (g v)) → ((v : A) (q : List ℕ) → Moved z w (g v (q ++ z)) (g v (q ++ w))) → Moved z w o other
      → Moved z w (o >>= λ x. g x.0 x.1) (other >>= λ x. g x.0 x.1)
  then_moves z w (Ok x) other ends mg m = second_moves x.0 x.1 z w other (ends x.0) (mg x.0) m (g x.0 x.1) refl
  then_moves z w (Err r) other ends mg m = λ q e. rw (m q e) refl

module _ {A B : Type 0} (F : A → List ℕ → Type 0) (L : A → List ℕ → Type 0) (f : List ℕ → Read A)
    (G : B → List ℕ → Type 0) (M : A → B → List ℕ → Type 0) (g : A → List ℕ → Read B) where
  pub then_half : Half F L f → ((v : A) → Half G (M v) (g v)) → ((v : A) (w : B) (b r : List ℕ) → M v w b → G w r → F v (b ++ r))
      → Half G (Then L M) (λ text. f text >>= λ x. g x.0 x.1)
  then_half cf cg follows = record {
    takes = λ text w r h.
        let b = bind_ok (f text) (λ x. g x.0 x.1) (w, r) h in
        let one = cf.takes text b.0.0 b.0.1 b.1 in
        let two = (cg b.0.0).takes b.0.1 w r b.2 in
        (one.0 ++ two.0, one.1 ∙ ap (λ (t : List ℕ). one.0 ++ t) two.1 ∙ sym (append_assoc one.0 two.0 r), (b.0.0, (one.0, two.0, refl, one.2, two.2)));
    again = λ w s r l h.
        let v : A = l.0 in
        let front : List ℕ = l.1.0 in
        let rest : List ℕ = l.1.1 in
        let parts : s ++ r ≡ front ++ (rest ++ r) = rw (l.1.2) (append_assoc front rest r) in
        let one : f (front ++ (rest ++ r)) ≡ Ok (v, rest ++ r) = cf.again v front (rest ++ r) l.1.3 (follows v w rest r l.1.4 h) in
        let two : g v (rest ++ r) ≡ Ok (w, r) = (cg v).again w rest r l.1.4 h in
        rw (parts, one) two;
    stands = λ text r h.
        elim (bind_err (f text) (λ x. g x.0 x.1) r h) [
          | inl e ↦ cf.stands text r e
          | inr b ↦
              let one = cf.takes text b.0.0 b.0.1 b.1 in
              let two = (cg b.0.0).stands b.0.1 r b.2 in
              (one.0 ++ two.0, one.1 ∙ ap (λ (t : List ℕ). one.0 ++ t) two.1 ∙ sym (append_assoc one.0 two.0 r))
        ];
    moves = λ p c x y. then_moves f g (c ∷ x) (c ∷ y) (f (p ++ c ∷ x)) (f (p ++ c ∷ y)) (λ v. ends_half G (M v) (g v) (cg v)) (λ v q. (cg v).moves q c x y) (cf.moves p c x y);
  }

-- a value that takes no bytes
pub pure_half : {A : Type 0} (v : A) → Half Any (λ w s. (w ≡ v) × (s ≡ [])) (λ text. Ok (v, text))
pure_half {A} v = record {
  takes = λ text w r h.
      let e = pair_of v w text r h in
      ([], e.1, (sym e.0, refl));
  again = λ w s r l h. rw (l.1, ← (l.0)) refl;
  stands = λ text r h. absurd cc;
  moves = λ p c x y. moved_ok v p (c ∷ x) (c ∷ y);
}

-- the same language, said otherwise
pub same_half : {A : Type 0} (F G : A → List ℕ → Type 0) (L M : A → List ℕ → Type 0) (f : List ℕ → Read A)
    → Half F L f → ((v : A) (s : List ℕ) → L v s → M v s) → ((v : A) (s : List ℕ) → M v s → L v s) → ((v : A) (r : List ℕ) → G v r → F v r) → Half G M f
same_half F G L M f c to from weak = record {
  takes = λ text v r h.
      let t = c.takes text v r h in
      (t.0, t.1, to v t.0 t.2);
  again = λ v s r l h. c.again v s r (from v s l) (weak v r h);
  stands = c.stands;
  moves = c.moves;
}

pub same_half_at : {A : Type 0} (F G : A → List ℕ → Type 0) (L M : A → List ℕ → Type 0) (f : List ℕ → Read A)
    → Half F L f → ((v : A) (s : List ℕ) → L v s → M v s) → ((v : A) (s : List ℕ) → M v s → L v s) → ((v : A) (s r : List ℕ) → M v s → G v r → F v r) → Half G M f
same_half_at F G L M f c to from weak = record {
  takes = λ text v r h.
      let t = c.takes text v r h in
      (t.0, t.1, to v t.0 t.2);
  again = λ v s r l h. c.again v s r (from v s l) (weak v s r l h);
  stands = c.stands;
  moves = c.moves;
}

-- the same reader, said otherwise
pub equal_half : {A : Type 0} (F : A → List ℕ → Type 0) (L : A → List ℕ → Type 0) (f g : List ℕ → Read A) → ((text : List ℕ) → g text ≡ f text) → Half F L f → Half F L g
equal_half F L f g e c = record {
  takes = λ text v r h. c.takes text v r (sym (e text) ∙ h);
  again = λ v s r l h. e (s ++ r) ∙ c.again v s r l h;
  stands = λ text r h. c.stands text r (sym (e text) ∙ h);
  moves = λ p b x y. rw (e (p ++ b ∷ x), e (p ++ b ∷ y)) (c.moves p b x y);
}

-- a function of what is read
pub map_half : {A B : Type 0} (F : List ℕ → Type 0) (L : A → List ℕ → Type 0) (f : List ℕ → Read A) (h : A → B) → Half (λ v r. F r) L f
    → Half (λ w r. F r) (λ w s. (v : A) × (w ≡ h v) × L v s) (λ text. f text >>= λ x. Ok (h x.0, x.1))
map_half F L f h c = record {
  takes = λ text w r e.
      let b = bind_ok (f text) (λ x. Ok (h x.0, x.1)) (w, r) e in
      let p = pair_of (h b.0.0) w b.0.1 r b.2 in
      let t = c.takes text b.0.0 b.0.1 b.1 in
      (t.0, t.1 ∙ ap (λ (u : List ℕ). t.0 ++ u) p.1, (b.0.0, sym p.0, t.2));
  again = λ w s r l e. rw (l.1, c.again l.0 s r l.2 e) refl;
  stands = λ text r e.
      elim (bind_err (f text) (λ x. Ok (h x.0, x.1)) r e) [
        | inl g ↦ c.stands text r g
        | inr b ↦ absurd (cc (b.2))
      ];
  moves = λ p b x y. map_moves h (b ∷ x) (b ∷ y) (f (p ++ b ∷ x)) (f (p ++ b ∷ y)) (c.moves p b x y);
}

-- ---- many items

abbrev pub folded : {X M : Type 0} → M → (X → M → M) → List X → M
folded nil cons [] = nil
folded nil cons (x ∷ xs) = cons x (folded nil cons xs)

-- each item's text, and that of the end
abbrev pub Items : {X : Type 0} → (Option X → List ℕ → Type 0) → List X → List ℕ → Type 0
Items L [] = L None
Items L (x ∷ xs) = L (Some x) · Items L xs

abbrev pub Many : {X M : Type 0} → M → (X → M → M) → (Option X → List ℕ → Type 0) → M → List ℕ → Type 0
Many {X} nil cons L m s = (xs : List X) × (m ≡ folded nil cons xs) × Items L xs s

module _ {X M : Type 0} (nil : M) (cons : X → M → M) (F : Option X → List ℕ → Type 0) (L : Option X → List ℕ → Type 0) (one : Item X) where
  abbrev Takes : (List ℕ → Read M) → Type 0
  Takes read = (text : List ℕ) (m : M) (r : List ℕ) → read text ≡ Ok (m, r) → (s : List ℕ) × (text ≡ s ++ r) × Many nil cons L m s

  item_takes : Half F L one → (others : List ℕ → Read M) → Takes others → (text : List ℕ) (m : M) (r : List ℕ) (x : Option X) (t : List ℕ) → one text ≡ Ok (x, t)
      → behind_item nil cons others x t ≡ Ok (m, r) → (s : List ℕ) × (text ≡ s ++ r) × Many nil cons L m s
  item_takes c others ih text m r None t e h =
      let took = c.takes text None t e in
      let end = pair_of nil m t r h in
      (took.0, took.1 ∙ ap (λ (u : List ℕ). took.0 ++ u) end.1, ([], sym end.0, took.2))
  item_takes c others ih text m r (Some x) t e h =
      let took = c.takes text (Some x) t e in
      let b = bind_ok (others t) (λ n. Ok (cons x n.0, n.1)) (m, r) h in
      let more = ih t b.0.0 b.0.1 b.1 in
      let last = pair_of (cons x b.0.0) m b.0.1 r b.2 in (
        took.0 ++ more.0,
        took.1 ∙ ap (λ (u : List ℕ). took.0 ++ u) (more.1 ∙ ap (λ (u : List ℕ). more.0 ++ u) last.1) ∙ sym (append_assoc took.0 more.0 r),
        (x ∷ more.2.0, sym last.0 ∙ ap (cons x) more.2.1, (took.0, more.0, refl, took.2, more.2.2)),
      )

  many_takes : Half F L one → (fuel : ℕ) → Takes (many_for nil cons one fuel)
  many_takes c zero text m r h = absurd cc
  many_takes c (suc fuel) text m r h =
      let b = bind_ok (one text) (λ x. behind_item nil cons (many_for nil cons one fuel) x.0 x.1) (m, r) h in
      item_takes c (many_for nil cons one fuel) (many_takes c fuel) text m r b.0.0 b.0.1 b.1 b.2

  item_stands : Half F L one → (others : List ℕ → Read M) → ((text r : List ℕ) → others text ≡ Err r → (p : List ℕ) × (text ≡ p ++ r))
      → (text r : List ℕ) (x : Option X) (t : List ℕ) → one text ≡ Ok (x, t) → behind_item nil cons others x t ≡ Err r → (p : List ℕ) × (text ≡ p ++ r)
  item_stands c others ih text r None t e h = absurd cc
  item_stands c others ih text r (Some x) t e h =
      let took = c.takes text (Some x) t e in
      elim (bind_err (others t) (λ n. Ok (cons x n.0, n.1)) r h) [
        | inl f ↦
            let more = ih t r f in
            (took.0 ++ more.0, took.1 ∙ ap (λ (u : List ℕ). took.0 ++ u) more.1 ∙ sym (append_assoc took.0 more.0 r))
        | inr b ↦
            absurd (cc (b.2))
      ]

  many_stands : Half F L one → (fuel : ℕ) (text r : List ℕ) → many_for nil cons one fuel text ≡ Err r → (p : List ℕ) × (text ≡ p ++ r)
  many_stands c zero text r h =
      let same : text ≡ r = cc in
      ([], same)
  many_stands c (suc fuel) text r h =
      elim (bind_err (one text) (λ x. behind_item nil cons (many_for nil cons one fuel) x.0 x.1) r h) [
        | inl e ↦ c.stands text r e
        | inr b ↦ item_stands c (many_for nil cons one fuel) (many_stands c fuel) text r b.0.0 b.0.1 b.1 b.2
      ]

  starts : Half F L one → ((o : Option X) (s : List ℕ) → L o s → 0 < length s) → ((r : List ℕ) → F None r) → ((x : X) (o : Option X) (b r : List ℕ) → L o b → F (Some x) (b ++ r))
      → (x : X) (xs : List X) (b r : List ℕ) → Items L xs b → F (Some x) (b ++ r)
  starts c some last follows x [] b r l = follows x None b r l
  starts c some last follows x (y ∷ ys) b r l =
      let parts : b ++ r ≡ l.0 ++ (l.1 ++ r) = rw (l.2) (append_assoc l.0 l.1 r) in
      rw parts (follows x (Some y) l.0 (l.1 ++ r) l.3)

  many_again : Half F L one → ((o : Option X) (s : List ℕ) → L o s → 0 < length s) → ((r : List ℕ) → F None r) → ((x : X) (o : Option X) (b r : List ℕ) → L o b → F (Some x) (b ++ r))
      → (xs : List X) (fuel : ℕ) (s r : List ℕ) → Items L xs s → length s ≤ fuel → many_for nil cons one fuel (s ++ r) ≡ Ok (folded nil cons xs, r)
  many_again c some last follows [] zero s r l le = absurd (omega (arith, some None s l))
  many_again c some last follows [] (suc fuel) s r l le = rw (c.again None s r l (last r)) refl
  many_again c some last follows (x ∷ xs) zero s r l le = absurd (omega (arith, some (Some x) l.0 l.3, ap length l.2, length-append l.0 l.1))
  many_again c some last follows (x ∷ xs) (suc fuel) s r l le =
      let a : List ℕ = l.0 in
      let b : List ℕ = l.1 in
      let parts : s ++ r ≡ a ++ (b ++ r) = rw (l.2) (append_assoc a b r) in
      let long : length b ≤ fuel = omega (arith, some (Some x) a l.3, ap length l.2, length-append a b) in
      let one_is : one (a ++ (b ++ r)) ≡ Ok (Some x, b ++ r) = c.again (Some x) a (b ++ r) l.3 (starts c some last follows x xs b r l.4) in
      let more : many_for nil cons one fuel (b ++ r) ≡ Ok (folded nil cons xs, r) = many_again c some last follows xs fuel b r l.4 long in
      rw (parts, one_is, more) refl

  rest_moves : (x : X) (t z w : List ℕ) (others elsewhere : List ℕ → Read M) → Ends others → ((q : List ℕ) → t ≡ q ++ z → Moved z w (others (q ++ z)) (elsewhere (q ++ w))) → (other : Read (Option X))
      → ((q : List ℕ) → t ≡ q ++ z → other ≡ Ok (Some x, q ++ w)) → (o : Read M) → others t ≡ o
      → Moved z w (o >>= λ m. Ok (cons x m.0, m.1)) (other >>= λ k. behind_item nil cons elsewhere k.0 k.1)
  rest_moves x t z w others elsewhere ends ih other mf (Ok y) e = λ q h.
      let s = ends.0 t y.0 y.1 e in
      let whole : t ≡ (s.0 ++ q) ++ z = s.1 ∙ ap (λ (u : List ℕ). s.0 ++ u) h ∙ sym (append_assoc s.0 q z) in
      let same : others ((s.0 ++ q) ++ z) ≡ Ok y = ap others (sym whole) ∙ e in
      let m : Moved z w (Ok y) (elsewhere ((s.0 ++ q) ++ w)) = subst (λ (k : Read M). Moved z w k (elsewhere ((s.0 ++ q) ++ w))) same (ih (s.0 ++ q) whole) in
      rw (mf (s.0 ++ q) whole, m q h) refl
  rest_moves x t z w others elsewhere ends ih other mf (Err r) e = λ q h.
      let s = ends.1 t r e in
      let whole : t ≡ (s.0 ++ q) ++ z = s.1 ∙ ap (λ (u : List ℕ). s.0 ++ u) h ∙ sym (append_assoc s.0 q z) in
      let same : others ((s.0 ++ q) ++ z) ≡ Err r = ap others (sym whole) ∙ e in
      let m : Moved z w (Err r) (elsewhere ((s.0 ++ q) ++ w)) = subst (λ (k : Read M). Moved z w k (elsewhere ((s.0 ++ q) ++ w))) same (ih (s.0 ++ q) whole) in
      rw (mf (s.0 ++ q) whole, m q h) refl

  step_moves : Half F L one → ((o : Option X) (s : List ℕ) → L o s → 0 < length s) → (text z w : List ℕ) (others elsewhere : List ℕ → Read M) → Ends others
      → ((q : List ℕ) → length (q ++ z) < length text → Moved z w (others (q ++ z)) (elsewhere (q ++ w))) → (other : Read (Option X)) → (o : Read (Option X)) → one text ≡ o → Moved z w o other
      → Moved z w (o >>= λ k. behind_item nil cons others k.0 k.1) (other >>= λ k. behind_item nil cons elsewhere k.0 k.1)
  step_moves c some text z w others elsewhere ends ih other (Err r) e m = λ q h. rw (m q h) refl
  step_moves c some text z w others elsewhere ends ih other (Ok (None, t)) e m = λ q h. rw (m q h) refl
  step_moves c some text z w others elsewhere ends ih other (Ok (Some x, t)) e m =
      let took = c.takes text (Some x) t e in
      rest_moves x t z w others elsewhere ends (λ q h. ih q (omega (arith, some (Some x) took.0 took.2, ap length took.1, length-append took.0 t, ap length h))) other m (others t) refl

  many_ends : Half F L one → (fuel : ℕ) → Ends (many_for nil cons one fuel)
  many_ends c fuel = (λ text v r h. ((many_takes c fuel text v r h).0, (many_takes c fuel text v r h).1), many_stands c fuel)

  many_moves : Half F L one → ((o : Option X) (s : List ℕ) → L o s → 0 < length s) → (f g : ℕ) (p : List ℕ) (b : ℕ) (x y : List ℕ) → length (p ++ b ∷ x) ≤ f → length (p ++ b ∷ y) ≤ g
      → Moved (b ∷ x) (b ∷ y) (many_for nil cons one f (p ++ b ∷ x)) (many_for nil cons one g (p ++ b ∷ y))
  many_moves c some zero g p b x y l m = absurd (omega (arith, length-append p (b ∷ x)))
  many_moves c some (suc f) zero p b x y l m = absurd (omega (arith, length-append p (b ∷ y)))
  many_moves c some (suc f) (suc g) p b x y l m =
      step_moves c some (p ++ b ∷ x) (b ∷ x) (b ∷ y) (many_for nil cons one f) (many_for nil cons one g) (many_ends c f)
      (λ q h. many_moves c some f g q b x y (omega arith) (omega (arith, length-append q (b ∷ x), length-append q (b ∷ y), length-append p (b ∷ x), length-append p (b ∷ y))))
      (one (p ++ b ∷ y)) (one (p ++ b ∷ x)) refl (c.moves p b x y)

  pub many_half : Half F L one → ((o : Option X) (s : List ℕ) → L o s → 0 < length s) → ((r : List ℕ) → F None r) → ((x : X) (o : Option X) (b r : List ℕ) → L o b → F (Some x) (b ++ r))
      → Half Any (Many nil cons L) (many_at nil cons one)
  unfolding many_at
  many_half c some last follows = record {
    takes = λ text m r h. many_takes c (length text) text m r h;
    again = λ m s r l h. many_again c some last follows l.0 (length (s ++ r)) s r l.2 (omega (arith, length-append s r)) ∙ ap (λ k. Ok (k, r)) (sym (l.1));
    stands = λ text r h. many_stands c (length text) text r h;
    moves = λ p b x y. many_moves c some (length (p ++ b ∷ x)) (length (p ++ b ∷ y)) p b x y (omega arith) (omega arith);
  }

-- ---- what is read can become a text of the language

-- an end of some text of UTF-8
abbrev pub Fine : List ℕ → Type 0
Fine text = (a : List ℕ) × IsUtf8 (a ++ text)

pub fine_nil : Fine []
fine_nil = ([], IsUtf8-nil)

pub fine_rest : (s r text : List ℕ) → text ≡ s ++ r → Fine text → Fine r
fine_rest s r text e f = (f.0 ++ s, subst IsUtf8 (ap (λ (u : List ℕ). f.0 ++ u) e ∙ sym (append_assoc f.0 s r)) f.1)

-- what stands before r becomes a text with more behind it
abbrev pub Completed : {A : Type 0} → (A → List ℕ → Type 0) → List ℕ → List ℕ → Type 0
Completed {A} L text r = (p : List ℕ) × (more : List ℕ) × (v : A) × (text ≡ p ++ r) × L v (p ++ more)

pub record Core {A : Type 0} (F : A → List ℕ → Type 0) (L : A → List ℕ → Type 0) (read : List ℕ → Read A) : Type 0 where
  pub takes : (text : List ℕ) (v : A) (r : List ℕ) → read text ≡ Ok (v, r) → (s : List ℕ) × (text ≡ s ++ r) × L v s
  pub again : (v : A) (s r : List ℕ) → L v s → F v r → read (s ++ r) ≡ Ok (v, r)
  pub stands : (text r : List ℕ) → read text ≡ Err r → (p : List ℕ) × (text ≡ p ++ r)
  pub moves : (p : List ℕ) (c : ℕ) (x y : List ℕ) → Moved (c ∷ x) (c ∷ y) (read (p ++ c ∷ x)) (read (p ++ c ∷ y))
  pub stops : (text r : List ℕ) → Fine text → read text ≡ Err r → Completed L text r

pub half_of : {A : Type 0} (F : A → List ℕ → Type 0) (L : A → List ℕ → Type 0) (f : List ℕ → Read A) → Core F L f → Half F L f
half_of F L f c = record { takes = c.takes; again = c.again; stands = c.stands; moves = c.moves }

pub core_of : {A : Type 0} (F : A → List ℕ → Type 0) (L : A → List ℕ → Type 0) (f : List ℕ → Read A) → Half F L f → ((text r : List ℕ) → Fine text → f text ≡ Err r → Completed L text r) → Core F L f
core_of F L f h s = record { takes = h.takes; again = h.again; stands = h.stands; moves = h.moves; stops = s }

pub ends_of : {A : Type 0} (F : A → List ℕ → Type 0) (L : A → List ℕ → Type 0) (f : List ℕ → Read A) → Core F L f → Ends f
ends_of F L f c = ends_half F L f (half_of F L f c)

alive_by : {A : Type 0} (F : A → List ℕ → Type 0) (L : A → List ℕ → Type 0) (f : List ℕ → Read A) → Core F L f → (o : Read A) → f [] ≡ o → (v : A) × (s : List ℕ) × L v s
alive_by F L f c (Ok x) e =
    let t = c.takes [] x.0 x.1 e in
    (x.0, t.0, t.2)
alive_by F L f c (Err r) e =
    let t = c.stops [] r fine_nil e in
    (t.2, t.0 ++ t.1, t.4)

-- some text is there
pub alive : {A : Type 0} (F : A → List ℕ → Type 0) (L : A → List ℕ → Type 0) (f : List ℕ → Read A) → Core F L f → (v : A) × (s : List ℕ) × L v s
alive F L f c = alive_by F L f c (f []) refl

module _ {A B : Type 0} (F : A → List ℕ → Type 0) (L : A → List ℕ → Type 0) (f : List ℕ → Read A)
    (G : B → List ℕ → Type 0) (M : A → B → List ℕ → Type 0) (g : A → List ℕ → Read B) where
  then_stops : Core F L f → ((v : A) → Core G (M v) (g v)) → (text r : List ℕ) → Fine text → (f text >>= λ x. g x.0 x.1) ≡ Err r → Completed (Then L M) text r
  then_stops cf cg text r fine h =
      elim (bind_err (f text) (λ x. g x.0 x.1) r h) [
        | inl e ↦
            let c = cf.stops text r fine e in
            let i = alive G (M c.2) (g c.2) (cg c.2) in
            (c.0, c.1 ++ i.1, i.0, c.3, (c.2, (c.0 ++ c.1, i.1, sym (append_assoc c.0 c.1 i.1), c.4, i.2)))
        | inr b ↦
            let one = cf.takes text b.0.0 b.0.1 b.1 in
            let c = (cg b.0.0).stops b.0.1 r (fine_rest one.0 b.0.1 text one.1 fine) b.2 in
            (one.0 ++ c.0, c.1, c.2, one.1 ∙ ap (λ (t : List ℕ). one.0 ++ t) c.3 ∙ sym (append_assoc one.0 c.0 r), (b.0.0, (one.0, c.0 ++ c.1, append_assoc one.0 c.0 c.1, one.2, c.4)))
      ]

  pub then_core : Core F L f → ((v : A) → Core G (M v) (g v)) → ((v : A) (w : B) (b r : List ℕ) → M v w b → G w r → F v (b ++ r))
      → Core G (Then L M) (λ text. f text >>= λ x. g x.0 x.1)
  then_core cf cg follows = core_of G (Then L M) (λ text. f text >>= λ x. g x.0 x.1)
      (then_half F L f G M g (half_of F L f cf) (λ v. half_of G (M v) (g v) (cg v)) follows) (then_stops cf cg)

pub pure_core : {A : Type 0} (v : A) → Core Any (λ w s. (w ≡ v) × (s ≡ [])) (λ text. Ok (v, text))
pure_core v = core_of Any (λ w s. (w ≡ v) × (s ≡ [])) (λ text. Ok (v, text)) (pure_half v) (λ text r fine h. absurd cc)

pub same_core : {A : Type 0} (F G : A → List ℕ → Type 0) (L M : A → List ℕ → Type 0) (f : List ℕ → Read A)
    → Core F L f → ((v : A) (s : List ℕ) → L v s → M v s) → ((v : A) (s : List ℕ) → M v s → L v s) → ((v : A) (r : List ℕ) → G v r → F v r) → Core G M f
same_core F G L M f c to from weak = core_of G M f (same_half F G L M f (half_of F L f c) to from weak) (λ text r fine h.
    let t = c.stops text r fine h in
    (t.0, t.1, t.2, t.3, to t.2 (t.0 ++ t.1) t.4))

pub same_core_at : {A : Type 0} (F G : A → List ℕ → Type 0) (L M : A → List ℕ → Type 0) (f : List ℕ → Read A)
    → Core F L f → ((v : A) (s : List ℕ) → L v s → M v s) → ((v : A) (s : List ℕ) → M v s → L v s) → ((v : A) (s r : List ℕ) → M v s → G v r → F v r) → Core G M f
same_core_at F G L M f c to from weak = core_of G M f (same_half_at F G L M f (half_of F L f c) to from weak) (λ text r fine h.
    let t = c.stops text r fine h in
    (t.0, t.1, t.2, t.3, to t.2 (t.0 ++ t.1) t.4))

pub equal_core : {A : Type 0} (F : A → List ℕ → Type 0) (L : A → List ℕ → Type 0) (f g : List ℕ → Read A) → ((text : List ℕ) → g text ≡ f text) → Core F L f → Core F L g
equal_core F L f g e c = core_of F L g (equal_half F L f g e (half_of F L f c)) (λ text r fine h. c.stops text r fine (sym (e text) ∙ h))

pub map_core : {A B : Type 0} (F : List ℕ → Type 0) (L : A → List ℕ → Type 0) (f : List ℕ → Read A) (h : A → B) → Core (λ v r. F r) L f
    → Core (λ w r. F r) (λ w s. (v : A) × (w ≡ h v) × L v s) (λ text. f text >>= λ x. Ok (h x.0, x.1))
map_core {A} F L f h c = core_of (λ w r. F r) (λ w s. (v : A) × (w ≡ h v) × L v s) (λ text. f text >>= λ x. Ok (h x.0, x.1)) (map_half F L f h (half_of (λ v r. F r) L f c)) (λ text r fine e.
    elim (bind_err (f text) (λ x. Ok (h x.0, x.1)) r e) [
      | inl g ↦
          let t = c.stops text r fine g in
          (t.0, t.1, h t.2, t.3, (t.2, refl, t.4))
      | inr b ↦ absurd (cc (b.2))
    ])

module _ {X M : Type 0} (nil : M) (cons : X → M → M) (F : Option X → List ℕ → Type 0) (L : Option X → List ℕ → Type 0) (one : Item X) where
  alone : (e : List ℕ) → L None e → (o : Option X) (s : List ℕ) → L o s → (more : List ℕ) × (m : M) × Many nil cons L m (s ++ more)
  alone e end None s l = ([], nil, ([], refl, subst (L None) (sym (append-nil s)) l))
  alone e end (Some x) s l = (e, cons x nil, (x ∷ [], refl, (s, e, refl, l, end)))

  more_stops : Core F L one → (others : List ℕ → Read M) → ((text r : List ℕ) → Fine text → others text ≡ Err r → Completed (Many nil cons L) text r)
      → (text r : List ℕ) (x : Option X) (t : List ℕ) → Fine text → one text ≡ Ok (x, t) → behind_item nil cons others x t ≡ Err r → Completed (Many nil cons L) text r
  more_stops c others ih text r None t fine e h = absurd cc
  more_stops c others ih text r (Some x) t fine e h =
      let took = c.takes text (Some x) t e in
      elim (bind_err (others t) (λ n. Ok (cons x n.0, n.1)) r h) [
        | inl f ↦
            let k = ih t r (fine_rest took.0 t text took.1 fine) f in (
              took.0 ++ k.0,
              k.1,
              cons x k.2,
              took.1 ∙ ap (λ (u : List ℕ). took.0 ++ u) k.3 ∙ sym (append_assoc took.0 k.0 r),
              (x ∷ k.4.0, ap (cons x) k.4.1, (took.0, k.0 ++ k.1, append_assoc took.0 k.0 k.1, took.2, k.4.2)),
            )
        | inr b ↦ absurd (cc (b.2))
      ]

  many_stops : Core F L one → (e : List ℕ) → L None e → (fuel : ℕ) (text r : List ℕ) → Fine text → many_for nil cons one fuel text ≡ Err r → Completed (Many nil cons L) text r
  many_stops c end last zero text r fine h =
      let same : text ≡ r = cc in
      ([], end, nil, same, ([], refl, last))
  many_stops c end last (suc fuel) text r fine h =
      elim (bind_err (one text) (λ x. behind_item nil cons (many_for nil cons one fuel) x.0 x.1) r h) [
        | inl e ↦
            let t = c.stops text r fine e in
            let k = alone end last t.2 (t.0 ++ t.1) t.4 in
            (t.0, t.1 ++ k.0, k.1, t.3, subst (Many nil cons L k.1) (append_assoc t.0 t.1 k.0) k.2)
        | inr b ↦ more_stops c (many_for nil cons one fuel) (many_stops c end last fuel) text r b.0.0 b.0.1 fine b.1 b.2
      ]

  pub many_core : Core F L one → ((o : Option X) (s : List ℕ) → L o s → 0 < length s) → ((r : List ℕ) → F None r) → ((x : X) (o : Option X) (b r : List ℕ) → L o b → F (Some x) (b ++ r)) → (e : List ℕ) → L None e
      → Core Any (Many nil cons L) (many_at nil cons one)
  unfolding many_at
  many_core c some last follows e end = core_of Any (Many nil cons L) (many_at nil cons one) (many_half nil cons F L one (half_of F L one c) some last follows) (λ text r fine h. many_stops c e end (length text) text r fine h)
