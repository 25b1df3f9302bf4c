-- Marks, when an entry comes and when a group is closed.
use Rattle.std.proofs.Common.{◌≡◌, ◌≢◌, ℕ, ◌+◌, ◌≤◌, ◌<◌, ◌==◌, zero, suc, true, false, cond, List, [], ◌∷◌, ◌++◌, length, get_or, slice_set, slice_get, Some, map, refl, sym, ◌∙◌, ap, subst, arith, rules, inl, inr}
use Rattle.std.proofs.lemmas.Bool.Decides.{nat_tests, eqb_tells}
use Rattle.std.proofs.lemmas.List.{length_push, length-append, length-map, get_or-set_same, get_or-set_other}
use Rattle.std.proofs.lemmas.List.Elements.{filter-append}
use Rattle.std.proofs.lemmas.Option.{slice_get_within, get_or_from_slice_get}
use Rattle.std.proofs.Math.Seq.{map-set_same}
use Rattle.mm_model.specs.declared.action.Entry.{Entry}
use Rattle.mm_tie.specs.Ends.{Ring, given, giver_ring, giver_room}
use Rattle.mm_tie.specs.declared.ends.Giver.{Giver}
use Rattle.mm_held.specs.declared.pass.Mark.{Mark}
use Rattle.mm_held.specs.Log.{mark, marks_at, marks_in, marks_of, joined, IsAboveLast, LinesRise, IsGiven, IsInTurn, AllGiven}

append_assoc : (xs ys zs : List Mark) → (xs ++ ys) ++ zs ≡ xs ++ (ys ++ zs)
append_assoc [] ys zs = refl
append_assoc (x ∷ xs) ys zs = ap (λ rest. x ∷ rest) (append_assoc xs ys zs)

append_nil : (xs : List Mark) → xs ++ [] ≡ xs
append_nil [] = refl
append_nil (x ∷ xs) = ap (λ rest. x ∷ rest) (append_nil xs)

pub marks_at-push : (place section : ℕ) (es : List Entry) (e : Entry) → marks_at place section (es ++ e ∷ []) ≡ marks_at place section es ++ mark (place + length es) section e ∷ []
marks_at-push place section [] e = ap (λ n. mark n section e ∷ []) (omega arith)
marks_at-push place section (x ∷ es) e =
    ap (λ ms. mark place section x ∷ ms) (marks_at-push (place + 1) section es e ∙ ap (λ n. marks_at (place + 1) section es ++ mark n section e ∷ []) (omega arith))

-- an entry in the last group
pub marks_push : (place section : ℕ) (groups : List (List Entry)) (waiting : List Entry) (e : Entry)
    → marks_in place section (groups ++ (waiting ++ e ∷ []) ∷ []) ≡ marks_in place section (groups ++ waiting ∷ []) ++ mark (place + length (joined groups ++ waiting)) (section + length groups) e ∷ []
marks_push place section [] waiting e =
    append_nil (marks_at place section (waiting ++ e ∷ [])) ∙ (marks_at-push place section waiting e
    ∙ (ap (λ ms. ms ++ mark (place + length waiting) section e ∷ []) (sym (append_nil (marks_at place section waiting)))
    ∙ ap (λ s. (marks_at place section waiting ++ []) ++ mark (place + length waiting) s e ∷ []) (omega arith)))
marks_push place section (g ∷ groups) waiting e =
    let rest = marks_push (place + length g) (section + 1) groups waiting e in
    let len : length ((g ++ joined groups) ++ waiting) ≡ length g + length (joined groups ++ waiting) = lengths g (joined groups) waiting in
    ap (λ ms. marks_at place section g ++ ms) rest
    ∙ (sym (append_assoc (marks_at place section g) (marks_in (place + length g) (section + 1) (groups ++ waiting ∷ [])) (mark (place + length g + length (joined groups ++ waiting)) (section + 1 + length groups) e ∷ []))
    ∙ (ap (λ n. (marks_at place section g ++ marks_in (place + length g) (section + 1) (groups ++ waiting ∷ [])) ++ mark n (section + 1 + length groups) e ∷ []) (omega (arith, len))
    ∙ ap (λ s. (marks_at place section g ++ marks_in (place + length g) (section + 1) (groups ++ waiting ∷ [])) ++ mark (place + length ((g ++ joined groups) ++ waiting)) s e ∷ []) (omega arith)))
  where
    lengths : (xs ys zs : List Entry) → length ((xs ++ ys) ++ zs) ≡ length xs + length (ys ++ zs)
    lengths xs ys zs = let a = length-append (xs ++ ys) zs in let b = length-append xs ys in let c = length-append ys zs in omega (arith, a, b, c)

-- an empty group at the end has no marks
pub marks_closed : (place section : ℕ) (groups : List (List Entry)) (waiting : List Entry) → marks_in place section ((groups ++ waiting ∷ []) ++ [] ∷ []) ≡ marks_in place section (groups ++ waiting ∷ [])
marks_closed place section [] waiting = refl
marks_closed place section (g ∷ groups) waiting = ap (λ ms. marks_at place section g ++ ms) (marks_closed (place + length g) (section + 1) groups waiting)

pub mine : (session : ℕ) (marks : List Mark) (m : Mark) → m.entry.session ≡ session → marks_of session (marks ++ m ∷ []) ≡ marks_of session marks ++ m ∷ []
mine session marks m is =
    let own : marks_of session (m ∷ []) ≡ m ∷ [] = ap (λ b. cond b (m ∷ []) []) (test is) in
    filter-append (λ (k : Mark). k.entry.session == session) marks (m ∷ []) ∙ ap (λ ms. marks_of session marks ++ ms) own
  where
    test : m.entry.session ≡ session → (m.entry.session == session) ≡ true
    test e = grind (arith, nat_tests, e)

pub others : (session : ℕ) (marks : List Mark) (m : Mark) → m.entry.session ≢ session → marks_of session (marks ++ m ∷ []) ≡ marks_of session marks
others session marks m other =
    let none : marks_of session (m ∷ []) ≡ [] = ap (λ b. cond b (m ∷ []) []) (test other) in
    filter-append (λ (k : Mark). k.entry.session == session) marks (m ∷ []) ∙ (ap (λ ms. marks_of session marks ++ ms) none ∙ append_nil (marks_of session marks))
  where
    test : m.entry.session ≢ session → (m.entry.session == session) ≡ false
    test e = grind (arith, nat_tests, e)

pub rise_push : (marks : List Mark) (m : Mark) → LinesRise marks → IsAboveLast m.entry.line marks → LinesRise (marks ++ m ∷ [])
rise_push [] m rise above = tt
rise_push (k ∷ []) m rise above = (above, tt)
rise_push (k ∷ l ∷ marks) m rise above = (rise.0, rise_push (l ∷ marks) m rise.1 above)

-- a mark more, given to its session
pub given_more : (givers : List (Giver Mark)) (marks : List Mark) (s : ℕ) (g g' : Giver Mark) (m : Mark)
    → AllGiven givers marks → s < length givers → g ≡ get_or givers s g → m.entry.session ≡ s + 1 → given g' ≡ given g ++ m ∷ [] → giver_room g' ≡ giver_room g
    → IsAboveLast m.entry.line (given g) → length (given g) < giver_room g
    → AllGiven (slice_set givers s g') (marks ++ m ∷ [])
given_more givers marks s g g' m all lies at is more room above free k d within =
    let len : length (slice_set givers s g') ≡ length givers = search rules in
    let old = subst (λ h. IsGiven h (marks_of (s + 1) marks)) (sym at) (all s g lies) in
    elim (eqb_tells k s) [
      | inl p ↦
          (let here : g' ≡ get_or (slice_set givers s g') k d = sym (ap (λ i. get_or (slice_set givers s g') i d) p.1 ∙ get_or-set_same givers s g' d lies) in
          let longer = length_push (given g) m in
          let now : IsGiven g' (given g ++ m ∷ []) = record {
            marks = more;
            rise = rise_push (given g) m (subst LinesRise (sym old.marks) old.rise) above;
            few = omega (arith, longer, room, free);
          } in
          let mine_now : given g ++ m ∷ [] ≡ marks_of (k + 1) (marks ++ m ∷ []) = ap (λ ms. ms ++ m ∷ []) old.marks ∙ (sym (mine (s + 1) marks m is) ∙ ap (λ i. marks_of (i + 1) (marks ++ m ∷ [])) (sym p.1)) in
          subst (λ h. IsGiven h (marks_of (k + 1) (marks ++ m ∷ []))) here (subst (IsGiven g') mine_now now))
      | inr p ↦
          (let there : get_or givers k d ≡ get_or (slice_set givers s g') k d = sym (get_or-set_other givers s k g' d p.1) in
          let before = all k d (omega (arith, len, within)) in
          let same : marks_of (k + 1) marks ≡ marks_of (k + 1) (marks ++ m ∷ []) = sym (others (k + 1) marks m (λ q. p.1 (omega (arith, q, is)))) in
          subst (λ h. IsGiven h (marks_of (k + 1) (marks ++ m ∷ []))) there (subst (IsGiven (get_or givers k d)) same before))
    ]

-- what a session was given
pub sits : (givers : List (Giver Mark)) (marks : List Mark) (s : ℕ) (g : Giver Mark) → AllGiven givers marks → s < length givers → g ≡ get_or givers s g → IsGiven g (marks_of (s + 1) marks)
sits givers marks s g all lies at = subst (λ h. IsGiven h (marks_of (s + 1) marks)) (sym at) (all s g lies)

-- an end that gave the same
pub given_same : (givers : List (Giver Mark)) (marks : List Mark) (s : ℕ) (g g' : Giver Mark)
    → AllGiven givers marks → s < length givers → g ≡ get_or givers s g → given g' ≡ given g → giver_room g' ≡ giver_room g → AllGiven (slice_set givers s g') marks
given_same givers marks s g g' all lies at is room k d within =
    let len : length (slice_set givers s g') ≡ length givers = search rules in
    elim (eqb_tells k s) [
      | inl p ↦
          (let here : g' ≡ get_or (slice_set givers s g') k d = sym (ap (λ i. get_or (slice_set givers s g') i d) p.1 ∙ get_or-set_same givers s g' d lies) in
          let old = subst (λ i. IsGiven g (marks_of (i + 1) marks)) (sym p.1) (sits givers marks s g all lies at) in
          let now : IsGiven g' (marks_of (k + 1) marks) = record { marks = is ∙ old.marks; rise = old.rise; few = subst (λ n. length (marks_of (k + 1) marks) ≤ n) (sym room) old.few } in
          subst (λ h. IsGiven h (marks_of (k + 1) marks)) here now)
      | inr p ↦ subst (λ h. IsGiven h (marks_of (k + 1) marks)) (sym (get_or-set_other givers s k g' d p.1)) (all k d (omega (arith, len, within)))
    ]

-- an end that shows the same ring and room
pub same_rings : (givers : List (Giver Mark)) (s : ℕ) (g g' : Giver Mark) → g ≡ get_or givers s g → giver_ring g' ≡ giver_ring g → map giver_ring (slice_set givers s g') ≡ map giver_ring givers
same_rings givers s g g' at ring = map-set_same giver_ring givers s g' g (ring ∙ ap giver_ring at)

pub same_rooms : (givers : List (Giver Mark)) (s : ℕ) (g g' : Giver Mark) → g ≡ get_or givers s g → giver_room g' ≡ giver_room g → map giver_room (slice_set givers s g') ≡ map giver_room givers
same_rooms givers s g g' at room = map-set_same giver_room givers s g' g (room ∙ ap giver_room at)

pub seat_within : (givers : List (Giver Mark)) (s : ℕ) (r : Ring) → slice_get (map giver_ring givers) s ≡ Some r → s < length givers
seat_within givers s r found = omega (arith, slice_get_within (map giver_ring givers) s r found, length-map givers giver_ring)

pub same_length : (givers : List (Giver Mark)) (s : ℕ) (g' : Giver Mark) → length (slice_set givers s g') ≡ length givers
same_length givers s g' = search rules

shown_or : {A : Type 0} (f : Giver Mark → A) (givers : List (Giver Mark)) (s : ℕ) (g : Giver Mark) → get_or (map f givers) s (f g) ≡ f (get_or givers s g)
shown_or f [] s g = refl
shown_or f (h ∷ givers) zero g = refl
shown_or f (h ∷ givers) (suc s) g = shown_or f givers s g

-- what an end shows is what the list of the shown has at its place
pub shown_at : {A : Type 0} (f : Giver Mark → A) (givers : List (Giver Mark)) (s : ℕ) (g : Giver Mark) (x : A) → slice_get (map f givers) s ≡ Some x → g ≡ get_or givers s g → f g ≡ x
shown_at f givers s g x found at = ap f at ∙ (sym (shown_or f givers s g) ∙ get_or_from_slice_get (map f givers) s x (f g) found)

-- each session was told its own in turn
pub in_turn : (givers : List (Giver Mark)) (marks : List Mark) → AllGiven givers marks → (place room : ℕ) → slice_get (map giver_room givers) place ≡ Some room → IsInTurn room (marks_of (place + 1) marks)
in_turn [] marks all place room found = absurd (let lies = slice_get_within [] place room found in omega (arith, lies))
in_turn (h ∷ givers) marks all place room found =
    let lies : place < length (h ∷ givers) = omega (arith, slice_get_within (map giver_room (h ∷ givers)) place room found, length-map (h ∷ givers) giver_room) in
    let own = all place h lies in
    let is : giver_room (get_or (h ∷ givers) place h) ≡ room = sym (shown_or giver_room (h ∷ givers) place h) ∙ get_or_from_slice_get (map giver_room (h ∷ givers)) place room (giver_room h) found in
    record { rise = own.rise; few = subst (λ n. length (marks_of (place + 1) marks) ≤ n) is own.few }

pub same_count : (givers others : List (Giver Mark)) → length others ≡ length givers → length (map giver_room givers) ≡ length (map giver_room others)
same_count givers others same = length-map givers giver_room ∙ (sym same ∙ sym (length-map others giver_room))
