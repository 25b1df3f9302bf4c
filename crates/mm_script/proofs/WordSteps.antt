-- Where words begin and end.
use Rattle.std.proofs.Common.{◌≡◌, ℕ, ◌+◌, ◌<◌, ◌≤◌, Bool, true, false, cond, List, [], ◌∷◌, length, take, drop, get_or, Some, None, refl, sym, ap, ◌∙◌, subst, arith, ltb, ltb-false, not, suc, zero, position}
use Rattle.std.proofs.lemmas.Bool.{eqb-true}
use Rattle.std.specs.List.{position_or_len}
use Rattle.std.specs.Str.{IsCharBoundary, IsUtf8}
use Rattle.std.proofs.lemmas.Str.{IsCharBoundary-start, IsCharBoundary-after_ascii}
use Rattle.std.proofs.lemmas.Option.{cond_some, none-some}
use Rattle.std.proofs.lemmas.List.Sums.{prefix_len-le-length}
use Rattle.mm_script.specs.Words.{is_space, is_other}
use Rattle.mm_script.specs.Reading.{front, behind, skip}

-- where `position` finds a place, it is the first
pub place_found : (p : ℕ → Bool) (bytes : List ℕ) (place : ℕ) → position p bytes ≡ Some place → place ≡ position_or_len p bytes
place_found p bytes place is = sym (cond_some _ _ _ is).1

none_below : (m n : ℕ) (x : ℕ) (b : Bool) → ltb m n ≡ b → cond b (Some x) None ≡ None → n ≤ m
none_below m n x true test is = absurd (none-some x (sym is))
none_below m n x false test is = ltb-false m n test

-- where it finds none, the first place is past the end
pub place_missing : (p : ℕ → Bool) (bytes : List ℕ) → position p bytes ≡ None → length bytes ≡ position_or_len p bytes
place_missing p bytes is =
    let past : length bytes ≤ position_or_len p bytes = none_below (position_or_len p bytes) (length bytes) _ _ refl is in
    omega (arith, prefix_len-le-length (λ b. not (p b)) bytes)

to_first : (k byte : ℕ) (bytes : List ℕ) → take (1 + k) (byte ∷ bytes) ≡ byte ∷ take k bytes
to_first k byte bytes = ap (λ n. take n (byte ∷ bytes)) (omega arith ∙ refl {a = suc k})

past_first : (k byte : ℕ) (bytes : List ℕ) → drop (1 + k) (byte ∷ bytes) ≡ drop k bytes
past_first k byte bytes = ap (λ n. drop n (byte ∷ bytes)) (omega arith ∙ refl {a = suc k})

front_step : (s : Bool) (k b : ℕ) (text : List ℕ) → take k text ≡ front text → take (cond (not s) (1 + k) 0) (b ∷ text) ≡ cond s [] (b ∷ front text)
front_step true k b text is = refl
front_step false k b text is = to_first k b text ∙ ap (λ t. b ∷ t) is

pub front_is : (text : List ℕ) → take (position_or_len is_space text) text ≡ front text
unfolding front
front_is [] = refl
front_is (b ∷ text) = front_step (is_space b) (position_or_len is_space text) b text (front_is text)

behind_step : (s : Bool) (k b : ℕ) (text : List ℕ) → drop k text ≡ behind text → drop (cond (not s) (1 + k) 0) (b ∷ text) ≡ cond s (b ∷ text) (behind text)
behind_step true k b text is = refl
behind_step false k b text is = past_first k b text ∙ is

pub behind_is : (text : List ℕ) → drop (position_or_len is_space text) text ≡ behind text
unfolding behind
behind_is [] = refl
behind_is (b ∷ text) = behind_step (is_space b) (position_or_len is_space text) b text (behind_is text)

at_next : (k b : ℕ) (text : List ℕ) → get_or (b ∷ text) (1 + k) 0 ≡ get_or text k 0
at_next k b text = ap (λ n. get_or (b ∷ text) n 0) (omega arith ∙ refl {a = suc k})

space_step : (b k : ℕ) (text : List ℕ) (s : Bool) → is_space b ≡ s → (k < length text → get_or text k 0 ≡ 0x20)
    → cond (not s) (1 + k) 0 < length (b ∷ text) → get_or (b ∷ text) (cond (not s) (1 + k) 0) 0 ≡ 0x20
space_step b k text true test below inside = eqb-true b 0x20 test
space_step b k text false test below inside = at_next k b text ∙ below (omega arith)

-- at the first space stands a space
pub space_at : (text : List ℕ) → position_or_len is_space text < length text → get_or text (position_or_len is_space text) 0 ≡ 0x20
space_at [] inside = absurd (omega arith)
space_at (b ∷ text) inside = space_step b (position_or_len is_space text) text (is_space b) refl (space_at text) inside

skip_step : (s : Bool) (k b : ℕ) (text : List ℕ) → drop k text ≡ skip text → drop (cond (not (not s)) (1 + k) 0) (b ∷ text) ≡ cond s (skip text) (b ∷ text)
skip_step true k b text is = past_first k b text ∙ is
skip_step false k b text is = refl

pub skip_is : (text : List ℕ) → drop (position_or_len is_other text) text ≡ skip text
unfolding skip
skip_is [] = refl
skip_is (b ∷ text) = skip_step (is_space b) (position_or_len is_other text) b text (skip_is text)

run_step : (b n k : ℕ) (text : List ℕ) (s : Bool) → is_space b ≡ s → ((j : ℕ) → j < n → get_or text j 0 ≡ 0x20)
    → k < cond (not (not s)) (1 + n) 0 → get_or (b ∷ text) k 0 ≡ 0x20
run_step b n zero text true test below inside = eqb-true b 0x20 test
run_step b n (suc k) text true test below inside = below k (omega arith)
run_step b n k text false test below inside = absurd (omega arith)

-- before the first other byte stand spaces
pub spaces_before : (text : List ℕ) (k : ℕ) → k < position_or_len is_other text → get_or text k 0 ≡ 0x20
spaces_before [] k inside = absurd (omega arith)
spaces_before (b ∷ text) k inside = run_step b (position_or_len is_other text) k text (is_space b) refl (spaces_before text) inside

pub boundary_behind : (text : List ℕ) (place : ℕ) → IsUtf8 text → place ≤ length text → ((k : ℕ) → k < place → get_or text k 0 ≡ 0x20) → IsCharBoundary text place
boundary_behind text zero utf8 inside below = IsCharBoundary-start text utf8
boundary_behind text (suc k) utf8 inside below =
    let next : k + 1 ≡ suc k = omega arith in
    let space = below k (omega arith) in
    subst (IsCharBoundary text) next (IsCharBoundary-after_ascii text k utf8 (omega arith) (omega (arith, space)))
