-- What holds of each image that a crash leaves goes on by one call more.
use Rattle.std.proofs.Common.{◌≡◌, inl, inr, ℕ, ◌+◌, ◌<◌, ◌≤◌, Bool, true, false, cond, List, [], ◌∷◌, length, Result, Ok, Err, refl, sym, ◌∙◌, ap, subst, arith}
use Rattle.std.proofs.lemmas.Bool.{cases_lt, cases_eq}
use Rattle.std.proofs.lemmas.Bool.Decides.{nat_tests}
use Rattle.std.specs.Prelude.{nat_le, ◌==◌}
use Rattle.std.specs.Bool.{MatchBool}
use Rattle.mm_outside.specs.Image.{Image}
use Rattle.mm_outside.specs.Told.{Change, Call, Told, called, told_after, MayLeave, Left, begun}
use Rattle.mm_outside.specs.Crash.{LeavesOnly}
use Rattle.mm_outside.specs.Place.{calls_at}
use Rattle.mm_outside.specs.Leaves.{LeavesNow, Leaves}
use Rattle.mm_outside.specs.declared.disk.Device.{Device}
use Rattle.mm_outside.specs.declared.disk.Device.TheVariants.{Fault, NoMemory}
use Rattle.mm_outside.proofs.Moments.{not_first, is_first, left_now, may_leave_begun}

-- ---- what was told at a moment

calls_before : (call : Call) (calls : List Call) (m : ℕ) → m ≤ length calls → calls_at (call ∷ calls) m ≡ calls_at calls m
calls_before call calls m le =
    let early : nat_le m (length calls) ≡ true = grind (arith, nat_tests) in
    ap (λ b. cond b (calls_at calls m) (cond (m == length calls + 1) (begun call ∷ calls) (call ∷ calls))) early

calls_within : (call : Call) (calls : List Call) (m : ℕ) → m ≡ length calls + 1 → calls_at (call ∷ calls) m ≡ begun call ∷ calls
calls_within call calls m is =
    let late : nat_le m (length calls) ≡ false = grind (arith, nat_tests) in
    let now : (m == length calls + 1) ≡ true = grind (arith, nat_tests) in
    ap (λ b. cond b (calls_at calls m) (cond (m == length calls + 1) (begun call ∷ calls) (call ∷ calls))) late ∙ ap (λ b. cond b (begun call ∷ calls) (call ∷ calls)) now

pub calls_now : (calls : List Call) (m : ℕ) → length calls < m → calls_at calls m ≡ calls
calls_now [] m lt = refl
calls_now (call ∷ calls) m lt =
    let late : nat_le m (length calls) ≡ false = grind (arith, nat_tests) in
    let past : (m == length calls + 1) ≡ false = grind (arith, nat_tests) in
    ap (λ b. cond b (calls_at calls m) (cond (m == length calls + 1) (begun call ∷ calls) (call ∷ calls))) late ∙ ap (λ b. cond b (begun call ∷ calls) (call ∷ calls)) past

told_with : (start : Image) (a b : List Call) → a ≡ b → let x : Told = record { start = start; calls = a } in let y : Told = record { start = start; calls = b } in x ≡ y
told_with start a b e = cc

-- ---- with what was told then

-- before the first call
pub leaves_first : (P : ℕ → Told → Image → Type 0) (t : Told) → LeavesNow P (length t.calls) t → Leaves P t t
leaves_first P t here = record {
  later = omega arith;
  each = λ m image lt l. subst (λ (x : Told). P m x image) (told_with t.start t.calls (calls_at t.calls m) (sym (calls_now t.calls m lt))) (here m image lt (left_now t.start t.calls m image lt l));
  before = λ m image le l. l;
}

-- A call that has begun, and is done or not: what a crash within it leaves, and what one after it does.
pub leaves_called : (P : ℕ → Told → Image → Type 0) (t u : Told) (name : List ℕ) (change : Change) (done : Bool) → Leaves P t u
    → ((image : Image) → MayLeave u.start (called name change false u).calls image → P (length u.calls + 1) (called name change false u) image)
    → LeavesNow P (length u.calls + 1) (called name change done u) → Leaves P t (called name change done u)
leaves_called P t u name change done so_far within after = record {
  later = omega (arith, so_far.later);
  each = λ m image lt l. elim (cases_lt (length u.calls) m) [
    | inl late ↦
        let later : nat_le m (length u.calls) ≡ false = grind (arith, nat_tests) in
        let rest = not_first (nat_le m (length u.calls)) (Left u m image) (MatchBool (m == length u.calls + 1) (MayLeave u.start (called name change false u).calls image) (MayLeave u.start (called name change done u).calls image)) later l in
        elim (cases_eq m (length u.calls + 1)) [
          | inl same ↦
              let is_now : (m == length u.calls + 1) ≡ true = grind (arith, nat_tests) in
              let here = subst (λ (k : ℕ). P k (called name change false u) image) (sym same) (within image (is_first _ _ _ is_now rest)) in
              subst (λ (x : Told). P m x image) (told_with u.start (called name change false u).calls (calls_at (called name change done u).calls m) (sym (calls_within _ u.calls m same))) here
          | inr apart ↦
              let isnt : (m == length u.calls + 1) ≡ false = grind (arith, nat_tests) in
              let past : length u.calls + 1 < m = omega arith in
              subst (λ (x : Told). P m x image) (told_with u.start (called name change done u).calls (calls_at (called name change done u).calls m) (sym (calls_now (called name change done u).calls m (omega arith)))) (after m image past (not_first _ _ _ isnt rest))
        ]
    | inr early ↦
        let earlier : nat_le m (length u.calls) ≡ true = grind (arith, nat_tests) in
        subst (λ (x : Told). P m x image) (told_with u.start (calls_at u.calls m) (calls_at (called name change done u).calls m) (sym (calls_before _ u.calls m early))) (so_far.each m image lt (is_first _ _ _ earlier l))
  ];
  before = λ m image le l.
      let earlier : nat_le m (length u.calls) ≡ true = grind (arith, nat_tests, so_far.later) in
      so_far.before m image le (is_first _ _ _ earlier l);
}

-- One call more, whatever it answers: what is left while it has not answered has P, and what is left after it is done.
pub leaves_on : {T : Type 0} (P : ℕ → Told → Image → Type 0) (t u : Told) (name : List ℕ) (change : Change) (r : Result T Device) → Leaves P t u → LeavesNow P (length u.calls) (called name change false u)
    → LeavesNow P (length u.calls + 1) (called name change true u) → Leaves P t (told_after name change r u)
leaves_on P t u name change (Ok x) so_far within after = leaves_called P t u name change true so_far (λ image. within (length u.calls + 1) image (omega arith)) after
leaves_on P t u name change (Err Fault) so_far within after = leaves_called P t u name change false so_far (λ image. within (length u.calls + 1) image (omega arith)) (λ m image lt. within m image (omega arith))
leaves_on P t u name change (Err NoMemory) so_far within after = so_far

-- another word for the same moments, where now has the new one
pub leaves_retold : (P Q : ℕ → Told → Image → Type 0) (t u : Told) → Leaves P t u → ((m : ℕ) (x : Told) (image : Image) → m ≤ length u.calls → P m x image → Q m x image) → LeavesNow Q (length u.calls) u → Leaves Q t u
leaves_retold P Q t u so_far past now = record {
  later = so_far.later;
  each = λ m image lt l. elim (cases_lt (length u.calls) m) [
    | inl late ↦ subst (λ (x : Told). Q m x image) (told_with u.start u.calls (calls_at u.calls m) (sym (calls_now u.calls m late))) (now m image late (left_now u.start u.calls m image late l))
    | inr early ↦ past m _ image early (so_far.each m image lt l)
  ];
  before = so_far.before;
}

pub leaves_map : (P Q : ℕ → Told → Image → Type 0) (t u : Told) → ((m : ℕ) (x : Told) (image : Image) → P m x image → Q m x image) → Leaves P t u → Leaves Q t u
leaves_map P Q t u f l = record { later = l.later; each = λ m image lt left. f m _ image (l.each m image lt left); before = l.before }

-- ---- where what was told doesn't count

-- before the first call
pub started : (P : ℕ → Image → Type 0) (t : Told) → ((m : ℕ) (image : Image) → length t.calls < m → MayLeave t.start t.calls image → P m image) → LeavesOnly P t t
started P t here = leaves_first (λ m _ image. P m image) t here

-- One call more, whatever it answers: what a crash within it leaves, and what one after it does.
pub goes_on : {T : Type 0} (P : ℕ → Image → Type 0) (t u : Told) (name : List ℕ) (change : Change) (r : Result T Device) → LeavesOnly P t u
    → ((image : Image) → MayLeave u.start (called name change false u).calls image → P (length u.calls + 1) image)
    → ((m : ℕ) (image : Image) → length u.calls + 1 < m → MayLeave u.start (told_after name change r u).calls image → P m image)
    → LeavesOnly P t (told_after name change r u)
goes_on P t u name change (Ok x) so_far within after = leaves_called (λ m _ image. P m image) t u name change true so_far within after
goes_on P t u name change (Err Fault) so_far within after = leaves_called (λ m _ image. P m image) t u name change false so_far within after
goes_on P t u name change (Err NoMemory) so_far within after = so_far

-- the same, of what doesn't depend on the moment
pub goes_on_same : {T : Type 0} (P : Image → Type 0) (t u : Told) (name : List ℕ) (change : Change) (r : Result T Device) → LeavesOnly (λ _. P) t u
    → ((image : Image) → MayLeave u.start (called name change false u).calls image → P image) → LeavesOnly (λ _. P) t (told_after name change r u)
goes_on_same P t u name change r so_far here = leaves_on (λ _ _ image. P image) t u name change r so_far (λ m image lt. here image) (λ m image lt l. here image (may_leave_begun u name change image l))

-- one run after another
pub joined : (P : ℕ → Image → Type 0) (t u w : Told) → LeavesOnly P t u → LeavesOnly P u w → LeavesOnly P t w
joined P t u w first second = record {
  later = omega (arith, first.later, second.later);
  each = λ m image lt l. elim (cases_lt (length u.calls) m) [
    | inl late ↦ second.each m image late l
    | inr early ↦ first.each m image lt (second.before m image early l)
  ];
  before = λ m image le l. first.before m image le (second.before m image (omega (arith, first.later)) l);
}
