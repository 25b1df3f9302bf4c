-- Objects and arrays as readers of their languages.
use Rattle.std.proofs.Common.{◌≡◌, ℕ, zero, suc, ◌<◌, ◌≤◌, ◌==◌, inl, inr, Bool, true, false, List, [], ◌∷◌, ◌++◌, length, Option, Some, None, Ok, Err, append_assoc, append-nil, refl, sym, ap, ◌∙◌, subst, arith}
use Rattle.std.specs.Prelude.{if◌then◌else◌, ◌≢◌}
use Rattle.std.proofs.lemmas.Bool.{eqb-true, eq-eqb, ne_eqb}
use Rattle.std.proofs.lemmas.List.{length-append}
use Rattle.mm_bson.specs.Tree.{Tree, Elements, no_elements, element, Values, no_values, item, tree_depth, depth, values_depth}
use Rattle.mm_notation.specs.Grammar.{◌·◌, Word, Spaces, Mark, Name, Value, MoreValues, MoreMembers, IsDocumentText}
use Rattle.mm_notation.specs.Reading.{Read, ◌>>=◌, byte_at, skip, mark_at, is_digit, many_at, string_at, closed_at, closing, closing_at, member_at, next_item, more_item, items_behind, items_at, with_element, object_at, array_at, value_at, document_at}
use Rattle.mm_notation.proofs.Core.{Core, Any, Then, IsRead, pair_of, then_core, pure_core, same_core, same_core_at, map_core, folded, Items, Many, many_core, Moved, moved_ok, moved_err, moved_past, if_moved, Half, half_of, Completed}
use Rattle.mm_notation.proofs.Leaves.{chosen, kept_ok, kept_err, byte_core, mark_core, spaces_core, Spaceless, NotSpace, Digitless, NotDigit}
use Rattle.mm_notation.proofs.Texts.{Free, dot_to, dot_from, StringOf, string_core}
use Rattle.mm_notation.proofs.Trees.{Stopped, ObjectOf, ArrayOf, ValueOf, value_core, value_spaceless, mark_digitless, quoted_spaceless, value_front}

abbrev Space : Unit {0} → List ℕ → Type 0
Space v s = Spaces s

abbrev Colon : Unit {0} → List ℕ → Type 0
Colon v s = Mark 0x3a s

-- ---- members

abbrev MemberOf : ℕ → List ℕ × Tree → List ℕ → Type 0
MemberOf levels m s = (Name m.0 · Mark 0x3a · Spaces · Value m.1) s × (tree_depth m.1 ≤ levels)

abbrev MemberParts : ℕ → List ℕ × Tree → List ℕ → Type 0
MemberParts levels = Then (StringOf true) (λ name. Then Colon (λ c. Then Space (λ p m s. (t : Tree) × (m ≡ (name, t)) × ValueOf levels t s)))

member_to : (levels : ℕ) (m : List ℕ × Tree) (s : List ℕ) → MemberParts levels m s → MemberOf levels m s
member_to levels m s (name, l) =
    let x = l.4.1 in
    let y = x.4.1 in
    let z = y.4 in
    let made : MemberOf levels (name, z.0) s = ((l.0, l.1, l.2, (l.3.1 refl, l.3.0), (x.0, x.1, x.2, x.3, (y.0, y.1, y.2, y.3, z.2.0))), z.2.1) in
    subst (λ (k : List ℕ × Tree). MemberOf levels k s) (sym (z.1)) made

member_from : (levels : ℕ) (m : List ℕ × Tree) (s : List ℕ) → MemberOf levels m s → MemberParts levels m s
member_from levels m s (l, deep) =
    let x = l.4 in
    let y = x.4 in
    (m.0, (l.0, l.1, l.2, (l.3.1, λ on. l.3.0), (tt, (x.0, x.1, x.2, x.3, (tt, (y.0, y.1, y.2, y.3, (m.1, refl, (y.4, deep))))))))

member_core : (levels : ℕ) → Core NotDigit (ValueOf levels) (value_at levels) → Core NotDigit (MemberOf levels) (member_at (value_at levels))
unfolding member_at
member_core levels v = same_core NotDigit NotDigit (MemberParts levels) (MemberOf levels) (member_at (value_at levels))
    (then_core Any (StringOf true) (string_at true) NotDigit (λ name. Then Colon (λ c. Then Space (λ p m s. (t : Tree) × (m ≡ (name, t)) × ValueOf levels t s)))
    (λ name text. mark_at 0x3a text >>= λ m. value_at levels (skip m.1) >>= λ t. Ok ((name, t.0), t.1)) (string_core true)
    (λ name. then_core Any Colon (mark_at 0x3a) NotDigit (λ c. Then Space (λ p m s. (t : Tree) × (m ≡ (name, t)) × ValueOf levels t s))
    (λ c text. value_at levels (skip text) >>= λ t. Ok ((name, t.0), t.1)) (mark_core 0x3a (λ e. omega (arith, e)))
    (λ c. then_core NotSpace Space (λ text. Ok (tt, skip text)) NotDigit (λ p m s. (t : Tree) × (m ≡ (name, t)) × ValueOf levels t s) (λ p text. value_at levels text >>= λ t. Ok ((name, t.0), t.1)) spaces_core
    (λ p. map_core Digitless (ValueOf levels) (value_at levels) (λ t. (name, t)) v) (λ p w b r l h. value_spaceless levels l.0 b r l.2))
    (λ p w b r l h. tt))
    (λ p w b r l h. tt))
    (member_to levels) (member_from levels) (λ w r h. h)

member_spaceless : (levels : ℕ) (m : List ℕ × Tree) (s r : List ℕ) → MemberOf levels m s → Spaceless (s ++ r)
member_spaceless levels m s r (l, deep) =
    subst Spaceless (sym (ap (λ (u : List ℕ). u ++ r) l.2 ∙ append_assoc l.0 l.1 r)) (quoted_spaceless _ l.0 (l.1 ++ r) l.3.1.1)

-- ---- behind an item

abbrev ClosingF : Bool → List ℕ → Type 0
ClosingF true r = Unit {0}
ClosingF false r = Spaceless r

abbrev ClosingHead : ℕ → Bool → List ℕ → Type 0
ClosingHead close true s = Word (close ∷ []) s
ClosingHead close false s = (Word (0x2c ∷ []) · Spaces) s

head_takes : (close : ℕ) (text : List ℕ) (v : Bool) (r : List ℕ) → closing close text ≡ Ok (v, r) → (s : List ℕ) × (text ≡ s ++ r) × ClosingHead close v s
head_takes close [] v r h = absurd cc
head_takes close (b ∷ text) v r h =
    elim (chosen (b == close) (Ok (true, text)) (if b == 0x2c then Ok (false, skip text) else Err (b ∷ text)) (Ok (v, r)) h) [
      | inl hit ↦
          let e = pair_of true v text r hit.1 in
          (b ∷ [], ap (λ (u : List ℕ). b ∷ u) e.1, subst (λ o. ClosingHead close o (b ∷ [])) e.0 (ap (λ (k : ℕ). k ∷ []) (eqb-true b close hit.0)))
      | inr miss ↦
          let k = kept_ok (b == 0x2c) (false, skip text) (v, r) (b ∷ text) miss.1 in
          let same : false ≡ v = ap (λ (p : Bool × List ℕ). p.0) k.1 in
          let rest : skip text ≡ r = ap (λ (p : Bool × List ℕ). p.1) k.1 in
          let t = spaces_core.takes text tt (skip text) refl in
          let comma : b ≡ 0x2c = eqb-true b 0x2c k.0 in
          let parts : ClosingHead close false (b ∷ t.0) = (b ∷ [], t.0, refl, ap (λ (k : ℕ). k ∷ []) comma, t.2) in
          (b ∷ t.0, ap (λ (u : List ℕ). b ∷ u) (t.1 ∙ ap (λ (u : List ℕ). t.0 ++ u) rest), subst (λ o. ClosingHead close o (b ∷ t.0)) same parts)
    ]

head_again : (close : ℕ) → close ≢ 0x2c → (v : Bool) (s r : List ℕ) → ClosingHead close v s → ClosingF v r → closing close (s ++ r) ≡ Ok (v, r)
head_again close ne true s r l h = rw (l, eq-eqb close close refl) refl
head_again close ne false s r l h =
    let whole : s ≡ 0x2c ∷ l.1 = l.2 ∙ ap (λ (u : List ℕ). u ++ l.1) l.3 in
    let other : (0x2c == close) ≡ false = ne_eqb 0x2c close (λ e. ne (sym e)) in
    let read : IsRead (Ok (tt, skip (l.1 ++ r))) (Ok (tt, r)) = spaces_core.again tt l.1 r l.4 h in
    let rest : skip (l.1 ++ r) ≡ r = (pair_of tt tt (skip (l.1 ++ r)) r read).1 in
    rw (whole, other, rest) refl

head_stands : (close : ℕ) (text r : List ℕ) → closing close text ≡ Err r → (p : List ℕ) × (text ≡ p ++ r)
head_stands close [] r h = ([], cc)
head_stands close (b ∷ text) r h =
    elim (chosen (b == close) (Ok (true, text)) (if b == 0x2c then Ok (false, skip text) else Err (b ∷ text)) (Err r) h) [
      | inl hit ↦ absurd (cc (hit.1))
      | inr miss ↦ ([], (kept_err (b == 0x2c) (false, skip text) (b ∷ text) r miss.1).1)
    ]

head_stops : (close : ℕ) (text r : List ℕ) → closing close text ≡ Err r → Completed (ClosingHead close) text r
head_stops close [] r h = ([], close ∷ [], true, cc, refl)
head_stops close (b ∷ text) r h =
    elim (chosen (b == close) (Ok (true, text)) (if b == 0x2c then Ok (false, skip text) else Err (b ∷ text)) (Err r) h) [
      | inl hit ↦ absurd (cc (hit.1))
      | inr miss ↦ ([], close ∷ [], true, (kept_err (b == 0x2c) (false, skip text) (b ∷ text) r miss.1).1, refl)
    ]

comma_moves : (p : List ℕ) (c : ℕ) (x y : List ℕ) → Moved (c ∷ x) (c ∷ y) (Ok (false, skip (p ++ c ∷ x))) (Ok (false, skip (p ++ c ∷ y)))
comma_moves p c x y = λ q e.
    let m : IsRead (Ok (tt, skip (p ++ c ∷ y))) (Ok (tt, q ++ c ∷ y)) = spaces_core.moves p c x y q e in
    ap (λ (u : List ℕ). Ok (false, u)) (pair_of tt tt (skip (p ++ c ∷ y)) (q ++ c ∷ y) m).1

comma_past : (c : ℕ) (x w : List ℕ) (other : Read Bool) → Moved (c ∷ x) w (Ok (false, skip x)) other
comma_past c x w other = λ q e.
    let t = spaces_core.takes x tt (skip x) refl in
    absurd (omega (arith, ap length t.1, length-append t.0 (skip x), ap length e, length-append q (c ∷ x)))

head_moves : (close : ℕ) (p : List ℕ) (c : ℕ) (x y : List ℕ) → Moved (c ∷ x) (c ∷ y) (closing close (p ++ c ∷ x)) (closing close (p ++ c ∷ y))
head_moves close [] c x y =
    if_moved (c == close) (c ∷ x) (c ∷ y) (Ok (true, x)) (if c == 0x2c then Ok (false, skip x) else Err (c ∷ x)) (Ok (true, y)) (if c == 0x2c then Ok (false, skip y) else Err (c ∷ y)) (moved_past true c x (c ∷ y) (Ok (true, y)))
    (if_moved (c == 0x2c) (c ∷ x) (c ∷ y) (Ok (false, skip x)) (Err (c ∷ x)) (Ok (false, skip y)) (Err (c ∷ y)) (comma_past c x (c ∷ y) (Ok (false, skip y))) (moved_err [] (c ∷ x) (c ∷ y)))
head_moves close (d ∷ p) c x y =
    if_moved (d == close) (c ∷ x) (c ∷ y) (Ok (true, p ++ c ∷ x)) (if d == 0x2c then Ok (false, skip (p ++ c ∷ x)) else Err (d ∷ (p ++ c ∷ x))) (Ok (true, p ++ c ∷ y)) (if d == 0x2c then Ok (false, skip (p ++ c ∷ y)) else Err (d ∷ (p ++ c ∷ y)))
    (moved_ok true p (c ∷ x) (c ∷ y))
    (if_moved (d == 0x2c) (c ∷ x) (c ∷ y) (Ok (false, skip (p ++ c ∷ x))) (Err (d ∷ (p ++ c ∷ x))) (Ok (false, skip (p ++ c ∷ y))) (Err (d ∷ (p ++ c ∷ y))) (comma_moves p c x y) (moved_err (d ∷ p) (c ∷ x) (c ∷ y)))

abbrev ClosingParts : ℕ → Bool → List ℕ → Type 0
ClosingParts close = Then Space (λ p. ClosingHead close)

head_spaceless : (close : ℕ) → close ≢ 0x20 → (p : Unit {0}) (v : Bool) (s r : List ℕ) → ClosingHead close v s → ClosingF v r → Spaceless (s ++ r)
head_spaceless close ns p true s r l h = rw l ns
head_spaceless close ns p false s r l h = rw (l.2, l.3) (λ e. omega (arith, e))

closing_core : (close : ℕ) → close ≢ 0x2c → close ≢ 0x20 → Core ClosingF (ClosingParts close) (closing_at close)
unfolding closing_at
closing_core close nc ns = then_core NotSpace Space (λ text. Ok (tt, skip text)) ClosingF (λ p. ClosingHead close) (λ p. closing close) spaces_core
    (λ p. record { takes = head_takes close; again = head_again close nc; stands = head_stands close; moves = head_moves close; stops = λ text r fine h. head_stops close text r h }) (head_spaceless close ns)

-- ---- one more item, or the end

module _ {X : Type 0} (L : X → List ℕ → Type 0) (read : List ℕ → Read X) (close : ℕ) where
  abbrev MoreF : Option X → List ℕ → Type 0
  MoreF None r = Unit {0}
  MoreF (Some x) r = Digitless r

  abbrev NextOf : Bool → Option X → List ℕ → Type 0
  NextOf true o s = (o ≡ None) × (s ≡ [])
  NextOf false o s = (x : X) × (o ≡ Some x) × L x s

  abbrev MoreOf : Option X → List ℕ → Type 0
  MoreOf None = Mark close
  MoreOf (Some x) = Mark 0x2c · Spaces · L x

  next_core : Core NotDigit L read → (b : Bool) → Core MoreF (NextOf b) (next_item read b)
  next_core c true = same_core Any MoreF (λ w s. (w ≡ None) × (s ≡ [])) (NextOf true) (next_item read true) (pure_core None) (λ v s l. l) (λ v s l. l) (λ v r h. tt)
  next_core c false = same_core_at (λ w r. Digitless r) MoreF (NextOf false) (NextOf false) (next_item read false) (map_core Digitless L read (λ x. Some x) c) (λ v s l. l) (λ v s l. l)
      (λ v s r l h. subst (λ o. MoreF o r) l.1 h)

  next_follows : ((x : X) (s r : List ℕ) → L x s → Spaceless (s ++ r)) → (b : Bool) (o : Option X) (s r : List ℕ) → NextOf b o s → MoreF o r → ClosingF b (s ++ r)
  next_follows sp true o s r l h = tt
  next_follows sp false o s r l h = sp l.0 s r l.2

  more_to : (o : Option X) (s : List ℕ) → Then (ClosingParts close) NextOf o s → MoreOf o s
  more_to o s (true, l) =
      let whole : s ≡ l.0 = l.2 ∙ ap (λ (u : List ℕ). l.0 ++ u) l.4.1 ∙ append-nil l.0 in
      subst (λ p. MoreOf p s) (sym (l.4.0)) (subst (Mark close) (sym whole) l.3.1)
  more_to o s (false, l) =
      let front = dot_from Spaces (Word (0x2c ∷ [])) Spaces l.0 l.3.1 in
      let parts : (Mark 0x2c · (Spaces · L l.4.0)) s = dot_to (Mark 0x2c) Spaces (L l.4.0) s (l.0, l.1, l.2, front, l.4.2) in
      subst (λ p. MoreOf p s) (sym (l.4.1)) parts

  more_from : (o : Option X) (s : List ℕ) → MoreOf o s → Then (ClosingParts close) NextOf o s
  more_from None s l = (true, (s, [], sym (append-nil s), (tt, l), (refl, refl)))
  more_from (Some x) s l =
      let parts = dot_from (Mark 0x2c) Spaces (L x) s l in
      (false, (parts.0, parts.1, parts.2, (tt, dot_to Spaces (Word (0x2c ∷ [])) Spaces parts.0 parts.3), (x, refl, parts.4)))

  more_core : close ≢ 0x2c → close ≢ 0x20 → ((x : X) (s r : List ℕ) → L x s → Spaceless (s ++ r)) → Core NotDigit L read → Core MoreF MoreOf (more_item close read)
  unfolding more_item
  more_core nc ns sp c = same_core MoreF MoreF (Then (ClosingParts close) NextOf) MoreOf (more_item close read)
      (then_core ClosingF (ClosingParts close) (closing_at close) MoreF NextOf (next_item read) (closing_core close nc ns) (next_core c) (next_follows sp))
      more_to more_from (λ v r h. h)

  mark_some : (b : ℕ) (s : List ℕ) → Mark b s → 0 < length s
  mark_some b s l = omega (arith, ap length l.2, length-append l.0 l.1, ap length l.4)

  more_some : (o : Option X) (s : List ℕ) → MoreOf o s → 0 < length s
  more_some None s l = mark_some close s l
  more_some (Some x) s l = omega (arith, ap length l.2, length-append l.0 l.1, mark_some 0x2c l.0 l.3)

  more_digitless : is_digit close ≡ false → (x : X) (o : Option X) (s r : List ℕ) → MoreOf o s → Digitless (s ++ r)
  more_digitless d x None s r l = mark_digitless close s r d l
  more_digitless d x (Some y) s r l = subst Digitless (sym (ap (λ (u : List ℕ). u ++ r) l.2 ∙ append_assoc l.0 l.1 r)) (mark_digitless 0x2c l.0 (l.1 ++ r) refl l.3)

  module _ {M : Type 0} (nil : M) (cons : X → M → M) (first : ℕ) where
    others_core : close ≢ 0x2c → close ≢ 0x20 → is_digit close ≡ false → ((x : X) (s r : List ℕ) → L x s → Spaceless (s ++ r)) → Core NotDigit L read
        → Core Any (Many nil cons MoreOf) (many_at nil cons (more_item close read))
    others_core nc ns d sp c = many_core nil cons MoreF MoreOf (more_item close read) (more_core nc ns sp c) more_some (λ r. tt) (more_digitless d) (close ∷ []) ([], close ∷ [], refl, (0, refl), refl)

-- ---- items between marks

abbrev Closeless : ℕ → List ℕ → Type 0
Closeless close [] = Unit {0}
Closeless close (b ∷ r) = b ≢ close

abbrev ClosedF : ℕ → Bool → List ℕ → Type 0
ClosedF close true r = Unit {0}
ClosedF close false r = Closeless close r

abbrev ClosedOf : ℕ → Bool → List ℕ → Type 0
ClosedOf close true s = Word (close ∷ []) s
ClosedOf close false s = s ≡ []

closed_takes : (close : ℕ) (text : List ℕ) (v : Bool) (r : List ℕ) → closed_at close text ≡ Ok (v, r) → (s : List ℕ) × (text ≡ s ++ r) × ClosedOf close v s
unfolding closed_at
closed_takes close [] v r h =
    let e = pair_of false v [] r h in
    ([], e.1, subst (λ o. ClosedOf close o []) e.0 refl)
closed_takes close (b ∷ text) v r h =
    elim (chosen (b == close) (Ok (true, text)) (Ok (false, b ∷ text)) (Ok (v, r)) h) [
      | inl hit ↦
          let e = pair_of true v text r hit.1 in
          (b ∷ [], ap (λ (u : List ℕ). b ∷ u) e.1, subst (λ o. ClosedOf close o (b ∷ [])) e.0 (ap (λ (k : ℕ). k ∷ []) (eqb-true b close hit.0)))
      | inr miss ↦
          let e = pair_of false v (b ∷ text) r miss.1 in
          ([], e.1, subst (λ o. ClosedOf close o []) e.0 refl)
    ]

open_again : (close : ℕ) (r : List ℕ) → Closeless close r → closed_at close r ≡ Ok (false, r)
unfolding closed_at
open_again close [] h = refl
open_again close (b ∷ r) h = rw (ne_eqb b close h) refl

closed_again : (close : ℕ) (v : Bool) (s r : List ℕ) → ClosedOf close v s → ClosedF close v r → closed_at close (s ++ r) ≡ Ok (v, r)
unfolding closed_at
closed_again close true s r l h = rw (l, eq-eqb close close refl) refl
closed_again close false s r l h = rw (l) (open_again close r h)

closed_never : (close : ℕ) (text r : List ℕ) → closed_at close text ≡ Err r → ⊥
unfolding closed_at
closed_never close [] r h = absurd cc
closed_never close (b ∷ text) r h =
    elim (chosen (b == close) (Ok (true, text)) (Ok (false, b ∷ text)) (Err r) h) [ inl hit ↦ absurd (cc (hit.1)) | inr miss ↦ absurd (cc (miss.1)) ]

closed_moves : (close : ℕ) (p : List ℕ) (c : ℕ) (x y : List ℕ) → Moved (c ∷ x) (c ∷ y) (closed_at close (p ++ c ∷ x)) (closed_at close (p ++ c ∷ y))
unfolding closed_at
closed_moves close [] c x y = if_moved (c == close) (c ∷ x) (c ∷ y) (Ok (true, x)) (Ok (false, c ∷ x)) (Ok (true, y)) (Ok (false, c ∷ y)) (moved_past true c x (c ∷ y) (Ok (true, y))) (moved_ok false [] (c ∷ x) (c ∷ y))
closed_moves close (d ∷ p) c x y =
    if_moved (d == close) (c ∷ x) (c ∷ y) (Ok (true, p ++ c ∷ x)) (Ok (false, d ∷ (p ++ c ∷ x))) (Ok (true, p ++ c ∷ y)) (Ok (false, d ∷ (p ++ c ∷ y))) (moved_ok true p (c ∷ x) (c ∷ y)) (moved_ok false (d ∷ p) (c ∷ x) (c ∷ y))

closed_core : (close : ℕ) → Core (ClosedF close) (ClosedOf close) (closed_at close)
closed_core close = record { takes = closed_takes close; again = closed_again close; stands = λ text r h. absurd (closed_never close text r h); moves = closed_moves close; stops = λ text r fine h. absurd (closed_never close text r h) }

module _ {X M : Type 0} (L : X → List ℕ → Type 0) (read : List ℕ → Read X) (first close : ℕ) (nil : M) (cons : X → M → M) where
  abbrev Others : M → List ℕ → Type 0
  Others = Many nil cons (MoreOf L read close)

  abbrev FirstParts : M → List ℕ → Type 0
  FirstParts = Then L (λ x w s. (m : M) × (w ≡ cons x m) × Others m s)

  abbrev BehindOf : Bool → M → List ℕ → Type 0
  BehindOf true w s = (w ≡ nil) × (s ≡ [])
  BehindOf false w s = FirstParts w s

  abbrev ItemsParts : M → List ℕ → Type 0
  ItemsParts = Then (λ (v : Unit {0}) s. Word (first ∷ []) s) (λ o. Then Space (λ p. Then (ClosedOf close) BehindOf))

  items_digitless : is_digit close ≡ false → (xs : List X) (s r : List ℕ) → Items (MoreOf L read close) xs s → Digitless (s ++ r)
  items_digitless d [] s r l = mark_digitless close s r d l
  items_digitless d (x ∷ xs) s r l = subst Digitless (sym (ap (λ (u : List ℕ). u ++ r) l.2 ∙ append_assoc l.0 l.1 r)) (more_digitless L read close d x (Some x) l.0 (l.1 ++ r) l.3)

  behind_core : close ≢ 0x2c → close ≢ 0x20 → is_digit close ≡ false → ((x : X) (s r : List ℕ) → L x s → Spaceless (s ++ r)) → Core NotDigit L read
      → (b : Bool) → Core Any (BehindOf b) (items_behind nil cons close read b)
  behind_core nc ns d sp c true = pure_core nil
  behind_core nc ns d sp c false = then_core NotDigit L read Any (λ x w s. (m : M) × (w ≡ cons x m) × Others m s)
      (λ x text. many_at nil cons (more_item close read) text >>= λ m. Ok (cons x m.0, m.1)) c
      (λ x. map_core Free Others (many_at nil cons (more_item close read)) (λ m. cons x m) (others_core L read close nil cons first nc ns d sp c))
      (λ x w s r l h. items_digitless d l.2.0 s r l.2.2)

  behind_closeless : ((x : X) (s r : List ℕ) → L x s → Closeless close (s ++ r)) → (b : Bool) (w : M) (s r : List ℕ) → BehindOf b w s → ClosedF close b (s ++ r)
  behind_closeless cl true w s r l = tt
  behind_closeless cl false w s r (x, l) = subst (Closeless close) (sym (ap (λ (u : List ℕ). u ++ r) l.2 ∙ append_assoc l.0 l.1 r)) (cl x l.0 (l.1 ++ r) l.3)

  closed_spaceless : close ≢ 0x20 → ((x : X) (s r : List ℕ) → L x s → Spaceless (s ++ r)) → (w : M) (s r : List ℕ) → Then (ClosedOf close) BehindOf w s → Spaceless (s ++ r)
  closed_spaceless ns sp w s r (true, l) = rw (l.2, l.3) ns
  closed_spaceless ns sp w s r (false, l) =
      let m = l.4.1 in
      let whole : s ≡ l.1 = l.2 ∙ ap (λ (u : List ℕ). u ++ l.1) l.3 in
      subst Spaceless (sym (ap (λ (u : List ℕ). u ++ r) (whole ∙ m.2) ∙ append_assoc m.0 m.1 r)) (sp l.4.0 m.0 (m.1 ++ r) m.3)

  items_core : close ≢ 0x2c → close ≢ 0x20 → is_digit close ≡ false → ((x : X) (s r : List ℕ) → L x s → Spaceless (s ++ r)) → ((x : X) (s r : List ℕ) → L x s → Closeless close (s ++ r)) → Core NotDigit L read
      → Core Any ItemsParts (items_at nil cons first close read)
  unfolding items_at
  items_core nc ns d sp cl c = then_core Any (λ (v : Unit {0}) s. Word (first ∷ []) s) (byte_at first) Any (λ o. Then Space (λ p. Then (ClosedOf close) BehindOf))
      (λ o text. closed_at close (skip text) >>= λ b. items_behind nil cons close read b.0 b.1) (byte_core first)
      (λ o. then_core NotSpace Space (λ text. Ok (tt, skip text)) Any (λ p. Then (ClosedOf close) BehindOf) (λ p text. closed_at close text >>= λ b. items_behind nil cons close read b.0 b.1) spaces_core
      (λ p. then_core (ClosedF close) (ClosedOf close) (closed_at close) Any BehindOf (items_behind nil cons close read) (closed_core close) (behind_core nc ns d sp c) (λ b w s r l h. behind_closeless cl b w s r l))
      (λ p w s r l h. closed_spaceless ns sp w s r l))
      (λ o w s r l h. tt)

-- ---- objects

abbrev MemberMore : ℕ → Option (List ℕ × Tree) → List ℕ → Type 0
MemberMore levels = MoreOf (MemberOf levels) (member_at (value_at levels)) 0x7d

members_to : (levels : ℕ) (xs : List (List ℕ × Tree)) (s : List ℕ) → Items (MemberMore levels) xs s
    → MoreMembers (folded no_elements with_element xs) s × (depth (folded no_elements with_element xs) ≤ levels)
members_to levels [] s l = (l, omega arith)
members_to levels (x ∷ xs) s l =
    let more = members_to levels xs l.1 l.4 in
    let m = l.3 in
    let n = m.4 in
    ((l.0, l.1, l.2, (m.0, m.1, m.2, m.3, (n.0, n.1, n.2, n.3, n.4.0)), more.0), omega (arith, more.1, n.4.1))

members_from : (levels : ℕ) (es : Elements) (s : List ℕ) → MoreMembers es s → depth es ≤ levels
    → (xs : List (List ℕ × Tree)) × (es ≡ folded no_elements with_element xs) × Items (MemberMore levels) xs s
members_from levels no_elements s l deep = ([], refl, l)
members_from levels (element name t es) s l deep =
    let more = members_from levels es l.1 l.4 (omega arith) in
    let m = l.3 in
    let n = m.4 in
    let shallow : tree_depth t ≤ levels = omega arith in
    ((name, t) ∷ more.0, ap (element name t) more.1, (l.0, l.1, l.2, (m.0, m.1, m.2, m.3, (n.0, n.1, n.2, n.3, (n.4, shallow))), more.2))

abbrev ObjectParts : ℕ → Elements → List ℕ → Type 0
ObjectParts levels = ItemsParts (MemberOf levels) (member_at (value_at levels)) 0x7b 0x7d no_elements with_element

object_to : (levels : ℕ) (es : Elements) (s : List ℕ) → ObjectParts levels es s → ObjectOf (suc levels) es s
object_to levels es s (o, (f, r, e, w, (p, (g, q, i, sp, (true, c))))) =
    let whole : q ≡ c.0 = c.2 ∙ ap (λ (u : List ℕ). c.0 ++ u) c.4.1 ∙ append-nil c.0 in
    let made : ObjectOf (suc levels) no_elements s = ((f, r, e, w, (g, q, i, sp, whole ∙ c.3)), omega arith) in
    subst (λ d. ObjectOf (suc levels) d s) (sym (c.4.0)) made
object_to levels es s (o, (f, r, e, w, (p, (g, q, i, sp, (false, c))))) =
    let x = c.4.0 in
    let m = c.4.1 in
    let whole : q ≡ c.1 = c.2 ∙ ap (λ (u : List ℕ). u ++ c.1) c.3 in
    let many = m.4.2 in
    let others = members_to levels many.0 m.1 many.2 in
    let is : es ≡ with_element x (folded no_elements with_element many.0) = m.4.1 ∙ ap (with_element x) many.1 in
    let made : ObjectOf (suc levels) (with_element x (folded no_elements with_element many.0)) s = ((f, r, e, w, (g, q, i, sp, (m.0, m.1, whole ∙ m.2, m.3.0, others.0))), omega (arith, others.1, m.3.1)) in
    subst (λ d. ObjectOf (suc levels) d s) (sym is) made

object_from : (levels : ℕ) (es : Elements) (s : List ℕ) → ObjectOf (suc levels) es s → ObjectParts levels es s
object_from levels no_elements s (l, deep) =
    let m = l.4 in
    (tt, (l.0, l.1, l.2, l.3, (tt, (m.0, m.1, m.2, m.3, (true, (m.1, [], sym (append-nil m.1), m.4, (refl, refl)))))))
object_from levels (element name t es) s (l, deep) =
    let m = l.4 in
    let n = m.4 in
    let shallow : tree_depth t ≤ levels = omega arith in
    let others = members_from levels es n.1 n.4 (omega arith) in
    (tt, (l.0, l.1, l.2, l.3, (tt, (m.0, m.1, m.2, m.3, (false, ([], m.1, refl, refl, ((name, t), (n.0, n.1, n.2, (n.3, shallow), (es, refl, others)))))))))

member_closeless : (levels : ℕ) (m : List ℕ × Tree) (s r : List ℕ) → MemberOf levels m s → Closeless 0x7d (s ++ r)
member_closeless levels m s r (l, deep) =
    let q = l.3.1.1 in
    subst (Closeless 0x7d) (sym (ap (λ (u : List ℕ). u ++ r) l.2 ∙ append_assoc l.0 l.1 r)) (rw (q.2, q.3) (λ e. omega (arith, e)))

-- ---- arrays

abbrev ValueMore : ℕ → Option Tree → List ℕ → Type 0
ValueMore levels = MoreOf (ValueOf levels) (value_at levels) 0x5d

values_to : (levels : ℕ) (xs : List Tree) (s : List ℕ) → Items (ValueMore levels) xs s → MoreValues (folded no_values item xs) s × (values_depth (folded no_values item xs) ≤ levels)
values_to levels [] s l = (l, omega arith)
values_to levels (x ∷ xs) s l =
    let more = values_to levels xs l.1 l.4 in
    let m = l.3 in
    let n = m.4 in
    ((l.0, l.1, l.2, (m.0, m.1, m.2, m.3, (n.0, n.1, n.2, n.3, n.4.0)), more.0), omega (arith, more.1, n.4.1))

values_from : (levels : ℕ) (vs : Values) (s : List ℕ) → MoreValues vs s → values_depth vs ≤ levels → (xs : List Tree) × (vs ≡ folded no_values item xs) × Items (ValueMore levels) xs s
values_from levels no_values s l deep = ([], refl, l)
values_from levels (item t vs) s l deep =
    let more = values_from levels vs l.1 l.4 (omega arith) in
    let m = l.3 in
    let n = m.4 in
    let shallow : tree_depth t ≤ levels = omega arith in
    (t ∷ more.0, ap (item t) more.1, (l.0, l.1, l.2, (m.0, m.1, m.2, m.3, (n.0, n.1, n.2, n.3, (n.4, shallow))), more.2))

abbrev ArrayParts : ℕ → Values → List ℕ → Type 0
ArrayParts levels = ItemsParts (ValueOf levels) (value_at levels) 0x5b 0x5d no_values item

array_to : (levels : ℕ) (vs : Values) (s : List ℕ) → ArrayParts levels vs s → ArrayOf (suc levels) vs s
array_to levels vs s (o, (f, r, e, w, (p, (g, q, i, sp, (true, c))))) =
    let whole : q ≡ c.0 = c.2 ∙ ap (λ (u : List ℕ). c.0 ++ u) c.4.1 ∙ append-nil c.0 in
    let made : ArrayOf (suc levels) no_values s = ((f, r, e, w, (g, q, i, sp, whole ∙ c.3)), omega arith) in
    subst (λ d. ArrayOf (suc levels) d s) (sym (c.4.0)) made
array_to levels vs s (o, (f, r, e, w, (p, (g, q, i, sp, (false, c))))) =
    let x = c.4.0 in
    let m = c.4.1 in
    let whole : q ≡ c.1 = c.2 ∙ ap (λ (u : List ℕ). u ++ c.1) c.3 in
    let many = m.4.2 in
    let others = values_to levels many.0 m.1 many.2 in
    let is : vs ≡ item x (folded no_values item many.0) = m.4.1 ∙ ap (item x) many.1 in
    let made : ArrayOf (suc levels) (item x (folded no_values item many.0)) s = ((f, r, e, w, (g, q, i, sp, (m.0, m.1, whole ∙ m.2, m.3.0, others.0))), omega (arith, others.1, m.3.1)) in
    subst (λ d. ArrayOf (suc levels) d s) (sym is) made

array_from : (levels : ℕ) (vs : Values) (s : List ℕ) → ArrayOf (suc levels) vs s → ArrayParts levels vs s
array_from levels no_values s (l, deep) =
    let m = l.4 in
    (tt, (l.0, l.1, l.2, l.3, (tt, (m.0, m.1, m.2, m.3, (true, (m.1, [], sym (append-nil m.1), m.4, (refl, refl)))))))
array_from levels (item t vs) s (l, deep) =
    let m = l.4 in
    let n = m.4 in
    let shallow : tree_depth t ≤ levels = omega arith in
    let others = values_from levels vs n.1 n.4 (omega arith) in
    (tt, (l.0, l.1, l.2, l.3, (tt, (m.0, m.1, m.2, m.3, (false, ([], m.1, refl, refl, (t, (n.0, n.1, n.2, (n.3, shallow), (vs, refl, others)))))))))

value_closeless : (levels : ℕ) (t : Tree) (s r : List ℕ) → ValueOf levels t s → Closeless 0x5d (s ++ r)
value_closeless levels t s r l =
    let n = value_front levels t s l in
    subst (Closeless 0x5d) (sym (ap (λ (u : List ℕ). u ++ r) n.2)) n.3

-- ---- levels

none_half : {A : Type 0} (L : A → List ℕ → Type 0) → ((v : A) (s : List ℕ) → L v s → ⊥) → Half Any L (λ text. Err text)
none_half L none = record { takes = λ text v r h. absurd cc; again = λ v s r l h. absurd (none v s l); stands = λ text r h. ([], cc); moves = λ p c x y. moved_err p (c ∷ x) (c ∷ y) }

-- where objects and arrays of so many levels are read
abbrev Nest : ℕ → Type 0
Nest levels = Half Any (ObjectOf levels) (object_at levels) × Half Any (ArrayOf levels) (array_at levels) × Stopped (ObjectOf levels) (object_at levels) × Stopped (ArrayOf levels) (array_at levels)

object_core : (levels : ℕ) → Nest levels → Core Any (ObjectOf (suc levels)) (object_at (suc levels))
object_core levels inner = same_core Any Any (ObjectParts levels) (ObjectOf (suc levels)) (object_at (suc levels))
    (items_core (MemberOf levels) (member_at (value_at levels)) 0x7b 0x7d no_elements with_element (λ e. omega (arith, e)) (λ e. omega (arith, e)) refl (member_spaceless levels) (member_closeless levels)
    (member_core levels (value_core levels inner.0 inner.1 inner.2 inner.3)))
    (object_to levels) (object_from levels) (λ w r h. h)

array_core : (levels : ℕ) → Nest levels → Core Any (ArrayOf (suc levels)) (array_at (suc levels))
array_core levels inner = same_core Any Any (ArrayParts levels) (ArrayOf (suc levels)) (array_at (suc levels))
    (items_core (ValueOf levels) (value_at levels) 0x5b 0x5d no_values item (λ e. omega (arith, e)) (λ e. omega (arith, e)) refl (value_spaceless levels) (value_closeless levels)
    (value_core levels inner.0 inner.1 inner.2 inner.3))
    (array_to levels) (array_from levels) (λ w r h. h)

-- at level 0 there is neither, and reading stops at the mark that opens one
nest : (levels : ℕ) → Nest levels
nest zero = (none_half (ObjectOf 0) (λ v s l. omega (arith, l.1)), none_half (ArrayOf 0) (λ v s l. omega (arith, l.1)), λ text r fine h. inr cc, λ text r fine h. inr cc)
nest (suc levels) =
    let objects = object_core levels (nest levels) in
    let arrays = array_core levels (nest levels) in (
      half_of Any (ObjectOf (suc levels)) (object_at (suc levels)) objects,
      half_of Any (ArrayOf (suc levels)) (array_at (suc levels)) arrays,
      λ text r fine h. inl (objects.stops text r fine h),
      λ text r fine h. inl (arrays.stops text r fine h),
    )

pub document_core : Core Any IsDocumentText document_at
unfolding document_at
document_core = same_core Any Any (ObjectOf 100) IsDocumentText document_at (object_core 99 (nest 99)) (λ v s l. (l.1, l.0)) (λ v s l. (l.1, l.0)) (λ v r h. h)
