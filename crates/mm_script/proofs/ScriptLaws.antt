-- What is read of a script is what its lines stand for, and what is refused is the first line that a script can't have.
use Rattle.std.proofs.Common.{◌≡◌, ℕ, ◌+◌, ◌<◌, ◌≤◌, ◌⊎◌, inl, inr, Bool, true, false, cond, List, [], ◌∷◌, ◌++◌, length, Option, Some, None, Result, Ok, Err, refl, sym, ap, ◌∙◌, subst, arith}
use Rattle.std.specs.Prelude.{nat_lt, ◌&&◌}
use Rattle.std.specs.List.{cons_option}
use Rattle.std.specs.Str.{is_utf8}
use Rattle.std.proofs.lemmas.Bool.{ltb-true, lt-ltb, ltb-false, and_parts, and_from}
use Rattle.mm_model.specs.declared.action.Action.{Action}
use Rattle.mm_script.specs.declared.fault.LineWhat.{LineWhat}
use Rattle.mm_script.specs.declared.fault.LineWhat.TheVariants.{Utf8, TooManyLines, TooLong}
use Rattle.mm_script.specs.Grammar.{Setting, line_form}
use Rattle.mm_script.specs.Lines.{is_skipped, bytes_of}
use Rattle.mm_script.specs.Script.{most_lines, most_bytes, IsLine, AreActions, HoldsTooMuch, IsWrong, IsRefused}
use Rattle.mm_script.specs.Reading.{◌>>=◌, line_at, some_of, judged, numbered, script_at}
use Rattle.mm_script.proofs.FormLaws.{told, again, Told}
use Rattle.mm_script.proofs.ReadSteps.{line_reads, line_fails}

-- ---- one line

line_takes : (s : Setting) (n : ℕ) (line : List ℕ) (a : Action) → is_skipped line ≡ false → line_at s n line ≡ Ok a → IsLine s n line a
line_takes s n line a counts is = by (is_utf8 line) refl
  where
    by : (b : Bool) → is_utf8 line ≡ b → IsLine s n line a
    by true e = record { counts = counts; utf8 = e; means = subst (Told (line_form s n) (0x20 ∷ line)) (sym (line_reads s n line e) ∙ is) (told (line_form s n) (0x20 ∷ line)) }
    by false e = absurd (cc (sym (line_fails s n line e) ∙ is))

pub line_again : (s : Setting) (n : ℕ) (line : List ℕ) (a : Action) → IsLine s n line a → line_at s n line ≡ Ok a
line_again s n line a l = line_reads s n line l.utf8 ∙ again (line_form s n) (0x20 ∷ line) a l.means

line_wrong : (s : Setting) (n : ℕ) (line : List ℕ) (v : LineWhat) → line_at s n line ≡ Err v → IsWrong s n line v
line_wrong s n line v is = by (is_utf8 line) refl
  where
    by : (b : Bool) → is_utf8 line ≡ b → IsWrong s n line v
    by true e = inr (e, subst (Told (line_form s n) (0x20 ∷ line)) (sym (line_reads s n line e) ∙ is) (told (line_form s n) (0x20 ∷ line)))
    by false e = let same : Err v ≡ Err Utf8 = sym is ∙ line_fails s n line e in inl (e, cc)

-- ---- a line in its place

-- what a line comes to
pub data Comes (s : Setting) (n : ℕ) (line : List ℕ) : Option Action → Type 0 where
  skipped : is_skipped line ≡ true → Comes s n line None
  asked : (a : Action) → IsLine s n line a → Comes s n line (Some a)

abbrev too_long : ℕ → ℕ → List ℕ → Bool
too_long total at line = nat_lt most_bytes total && nat_lt most_bytes (at + length line + 1)

holds : (total at : ℕ) (line : List ℕ) → too_long total at line ≡ true → HoldsTooMuch total at line
holds total at line is = let both = and_parts (nat_lt most_bytes total) (nat_lt most_bytes (at + length line + 1)) is in (ltb-true most_bytes total both.0, ltb-true most_bytes (at + length line + 1) both.1)

held : (total at : ℕ) (line : List ℕ) → HoldsTooMuch total at line → too_long total at line ≡ true
held total at line h = and_from _ _ (lt-ltb most_bytes total h.0) (lt-ltb most_bytes (at + length line + 1) h.1)

-- what judging a line says
abbrev Judged : Setting → ℕ → ℕ → ℕ → List ℕ → Result (Option Action) LineWhat → Type 0
Judged s total at n line (Ok o) = (n ≤ most_lines) × (HoldsTooMuch total at line → ⊥) × Comes s n line o
Judged s total at n line (Err v) = IsRefused s total at n line v

judged_so : (s : Setting) (total at n : ℕ) (line : List ℕ) → Judged s total at n line (judged s total at n line)
unfolding judged
judged_so s total at n line = many (nat_lt most_lines n) refl
  where
    counted : (r : Result Action LineWhat) → n ≤ most_lines → (HoldsTooMuch total at line → ⊥) → is_skipped line ≡ false → line_at s n line ≡ r → Judged s total at n line (r >>= some_of)
    counted (Ok a) few short e is = (few, short, asked a (line_takes s n line a e is))
    counted (Err v) few short e is = inr (inr (few, short, e, line_wrong s n line v is))

    seen : (b : Bool) → n ≤ most_lines → (HoldsTooMuch total at line → ⊥) → is_skipped line ≡ b → Judged s total at n line (cond b (Ok None) (line_at s n line >>= some_of))
    seen true few short e = (few, short, skipped e)
    seen false few short e = counted (line_at s n line) few short e refl

    long : (b : Bool) → n ≤ most_lines → too_long total at line ≡ b → Judged s total at n line (cond b (Err TooLong) (cond (is_skipped line) (Ok None) (line_at s n line >>= some_of)))
    long true few e = inr (inl (few, holds total at line e, refl))
    long false few e = seen (is_skipped line) few (λ h. cc (sym (held total at line h) ∙ e)) refl

    many : (b : Bool) → nat_lt most_lines n ≡ b → Judged s total at n line (cond b (Err TooManyLines) (cond (too_long total at line) (Err TooLong) (cond (is_skipped line) (Ok None) (line_at s n line >>= some_of))))
    many true e = inl (ltb-true most_lines n e, refl)
    many false e = long (too_long total at line) (ltb-false most_lines n e) refl

-- ---- all lines

-- the lines stand for the actions, there aren't too many of them, and none holds the byte past the most
pub record Good (s : Setting) (total at n : ℕ) (ls : List (List ℕ)) (actions : List Action) : Type 0 where
  pub are : AreActions s n ls actions
  pub few : (ls ≡ []) ⊎ (n + length ls ≤ most_lines + 1)
  pub short : (ls ≡ []) ⊎ ((total ≤ most_bytes) ⊎ (at + bytes_of ls ≤ most_bytes))

abbrev pub Ended : Setting → ℕ → ℕ → ℕ → List (List ℕ) → ℕ → LineWhat → Type 0
Ended s total at n ls m v =
    (before : List (List ℕ)) × (line : List ℕ) × (behind : List (List ℕ)) × (actions : List Action) × (ls ≡ before ++ line ∷ behind) × (m ≡ n + length before) × Good s total at n before actions
    × IsRefused s total (at + bytes_of before) m line v

abbrev pub Whole : Setting → ℕ → ℕ → ℕ → List (List ℕ) → Result (List Action) (ℕ × LineWhat) → Type 0
Whole s total at n ls (Ok actions) = Good s total at n ls actions
Whole s total at n ls (Err e) = Ended s total at n ls e.0 e.1

more_good : (s : Setting) (total at n : ℕ) (line : List ℕ) (ls : List (List ℕ)) (o : Option Action) (actions : List Action) → n ≤ most_lines → (HoldsTooMuch total at line → ⊥) → Comes s n line o
    → Good s total (at + length line + 1) (n + 1) ls actions → Good s total at n (line ∷ ls) (cons_option o actions)
more_good s total at n line ls o actions few short comes good = record {
  are = stand o comes;
  few = inr (counts good.few);
  short = inr (sizes good.short);
}
  where
    stand : (o : Option Action) → Comes s n line o → AreActions s n (line ∷ ls) (cons_option o actions)
    stand o (skipped e) = inl (e, good.are)
    stand o (asked a is) = inr (a, actions, refl, is, good.are)

    counts : (ls ≡ []) ⊎ ((n + 1) + length ls ≤ most_lines + 1) → n + length (line ∷ ls) ≤ most_lines + 1
    counts (inl none) = omega (arith, ap length none)
    counts (inr more) = omega arith

    limit : (a b : ℕ) → ((most_bytes < a) × (most_bytes < b) → ⊥) → (a ≤ most_bytes) ⊎ (b ≤ most_bytes)
    limit a b fails = by (nat_lt most_bytes a) (nat_lt most_bytes b) refl refl
      where
        by : (p q : Bool) → nat_lt most_bytes a ≡ p → nat_lt most_bytes b ≡ q → (a ≤ most_bytes) ⊎ (b ≤ most_bytes)
        by false q e f = inl (ltb-false most_bytes a e)
        by true false e f = inr (ltb-false most_bytes b f)
        by true true e f = absurd (fails (ltb-true most_bytes a e, ltb-true most_bytes b f))

    last : (total ≤ most_bytes) ⊎ (at + length line + 1 ≤ most_bytes) → ls ≡ [] → (total ≤ most_bytes) ⊎ (at + bytes_of (line ∷ ls) ≤ most_bytes)
    last (inl small) none = inl small
    last (inr small) none = inr (omega (arith, ap bytes_of none))

    sizes : (ls ≡ []) ⊎ ((total ≤ most_bytes) ⊎ ((at + length line + 1) + bytes_of ls ≤ most_bytes)) → (total ≤ most_bytes) ⊎ (at + bytes_of (line ∷ ls) ≤ most_bytes)
    sizes (inl none) = last (limit total (at + length line + 1) short) none
    sizes (inr (inl small)) = inl small
    sizes (inr (inr small)) = inr (omega arith)

none_good : (s : Setting) (total at n : ℕ) → Good s total at n [] []
none_good s total at n = record { are = refl; few = inl refl; short = inl refl }

pub whole_so : (s : Setting) (total at n : ℕ) (ls : List (List ℕ)) → Whole s total at n ls (script_at s total at n ls)
whole_so s total at n [] = none_good s total at n
whole_so s total at n (line ∷ ls) = by (judged s total at n line) (judged_so s total at n line) (whole_so s total (at + length line + 1) (n + 1) ls)
  where
    onward : (o : Option Action) (r : Result (List Action) (ℕ × LineWhat)) → Judged s total at n line (Ok o) → Whole s total (at + length line + 1) (n + 1) ls r
        → Whole s total at n (line ∷ ls) (r >>= λ others. Ok (cons_option o others))
    onward o (Ok actions) j w = more_good s total at n line ls o actions j.0 j.1 j.2 w
    onward o (Err e) j w = (
      line ∷ w.0,
      w.1,
      w.2,
      cons_option o w.3,
      ap (λ (x : List (List ℕ)). line ∷ x) w.4,
      w.5 ∙ omega arith,
      more_good s total at n line w.0 o w.3 j.0 j.1 j.2 w.6,
      subst (λ (k : ℕ). IsRefused s total k e.0 w.1 e.1) (omega arith) w.7,
    )

    by : (r : Result (Option Action) LineWhat) → Judged s total at n line r → Whole s total (at + length line + 1) (n + 1) ls (script_at s total (at + length line + 1) (n + 1) ls)
        → Whole s total at n (line ∷ ls) (numbered n r >>= λ a. script_at s total (at + length line + 1) (n + 1) ls >>= λ others. Ok (cons_option a others))
    by (Ok o) j w = onward o (script_at s total (at + length line + 1) (n + 1) ls) j w
    by (Err v) j w = ([], line, ls, [], refl, omega arith, none_good s total at n, subst (λ (k : ℕ). IsRefused s total k n line v) (omega arith) j)
