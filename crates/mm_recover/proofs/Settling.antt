-- The first syncs: they settle the disk, and change nothing that is read.
use Rattle.std.proofs.Common.{◌≡◌, inl, inr, ℕ, ◌+◌, ◌≤◌, Bool, true, false, cond, List, [], ◌∷◌, length, Option, Some, None, refl, sym, ◌∙◌, ap, subst, arith}
use mathlib.Core.Bool.{true≢false}
use Rattle.std.specs.Prelude.{◌||◌, nat_le, ◌==◌, is_some}
use Rattle.std.specs.List.{list_any}
use Rattle.std.specs.Ordering.{eq_by_cmp}
use Rattle.std.specs.FinMap.{get, keys, contains_key-keys}
use Rattle.std.proofs.lemmas.Bool.{cases_lt}
use Rattle.std.proofs.lemmas.Bool.Decides.{nat_tests}
use Rattle.mm_outside.specs.Image.{Image, name_cmp}
use Rattle.mm_outside.specs.Told.{Call, Told, Pending, called, image_of, begun, Syncs}
use Rattle.mm_outside.specs.Place.{Place, place_of, place_by, clean, IsClean, calls_at, at_moment}
use Rattle.mm_outside.specs.Ask.{Ask, after_ask, asked, IsCut}
use Rattle.mm_outside.specs.Leaves.{LeavesNow, Leaves}
use Rattle.mm_outside.proofs.Places.{place_step}
use Rattle.mm_outside.proofs.Cuts.{Safe, leaves_cut}
use Rattle.mm_outside.proofs.LeavesRuns.{leaves_first}
use Rattle.mm_outside.proofs.CleanPlaces.{same_image, left_clean, clean_as_read}
use Rattle.mm_crash.specs.Recovered.{Files, Recovers}
use Rattle.mm_crash.specs.Chance.{RecoversAt}
use Rattle.mm_crash.specs.Asks.{sync_asks}
use Rattle.mm_journal.proofs.Real.{the_format, the_names}
use Rattle.mm_recover.specs.Recovering.{settled, CanSettle}

-- ---- what is read

pub image_synced : (names : List (List ℕ)) (t : Told) → image_of (asked (sync_asks names) t) ≡ image_of t
image_synced [] t = refl
image_synced (n ∷ names) t = image_synced names (called n Syncs true t)

-- ---- what is pending

clean_stays : (done : Bool) (file : Option (List ℕ)) → place_by Syncs done (clean file) ≡ clean file
clean_stays true None = refl
clean_stays false None = refl
clean_stays true (Some x) = refl
clean_stays false (Some x) = refl

-- a file with nothing pending stays so
one_clean : (n q : List ℕ) (u : Told) (done : Bool) (file : Option (List ℕ)) → place_of u q ≡ clean file → place_of (called n Syncs done u) q ≡ clean file
one_clean n q u done file is = by (eq_by_cmp name_cmp q n) refl
  where
    by : (same : Bool) → eq_by_cmp name_cmp q n ≡ same → place_of (called n Syncs done u) q ≡ clean file
    by true e = place_step u n q Syncs done true e ∙ ap (place_by Syncs done) is ∙ clean_stays done file
    by false e = place_step u n q Syncs done false e ∙ is

all_clean : (names : List (List ℕ)) (q : List ℕ) (u : Told) (file : Option (List ℕ)) → place_of u q ≡ clean file → place_of (asked (sync_asks names) u) q ≡ clean file
all_clean [] q u file is = is
all_clean (n ∷ names) q u file is = all_clean names q (called n Syncs true u) file (one_clean n q u true file is)

synced_one : (p : Place) (x : List ℕ) → p.file ≡ Some x → place_by Syncs true p ≡ clean (Some x)
synced_one p x is = by p.file p.pending p.writes p.last_synced is
  where
    by : (f : Option (List ℕ)) (pd : Pending) (ws : List (ℕ × List ℕ)) (st : Option (List ℕ)) → f ≡ Some x → place_by Syncs true (record { file = f; pending = pd; writes = ws; last_synced = st }) ≡ clean (Some x)
    by None pd ws st e = absurd (Rattle.std.proofs.lemmas.Option.none-some x e)
    by (Some y) pd ws st e = ap (λ (l : List ℕ). clean (Some l)) (Rattle.std.proofs.lemmas.Option.same_Some y x e)

-- a file that is there, and is one of these, has nothing pending afterwards
there_clean : (names : List (List ℕ)) (q : List ℕ) (u : Told) (x : List ℕ) → list_any (eq_by_cmp name_cmp q) names ≡ true → (place_of u q).file ≡ Some x → place_of (asked (sync_asks names) u) q ≡ clean (Some x)
there_clean [] q u x among is = absurd (true≢false (sym among))
there_clean (n ∷ names) q u x among is = by (there_clean names q (called n Syncs true u) x) (eq_by_cmp name_cmp q n) refl among
  where
    by : (list_any (eq_by_cmp name_cmp q) names ≡ true → (place_of (called n Syncs true u) q).file ≡ Some x → place_of (asked (sync_asks names) (called n Syncs true u)) q ≡ clean (Some x))
        → (same : Bool) → eq_by_cmp name_cmp q n ≡ same → (same || list_any (eq_by_cmp name_cmp q) names) ≡ true → place_of (asked (sync_asks names) (called n Syncs true u)) q ≡ clean (Some x)
    by next true e h = all_clean names q (called n Syncs true u) (Some x) (place_step u n q Syncs true true e ∙ synced_one (place_of u q) x is)
    by next false e h = next h (ap (λ (p : Place). p.file) (place_step u n q Syncs true false e) ∙ is)

pub settled_clean : (t : Told) → CanSettle t → IsClean (settled t)
settled_clean t can q = by (get (image_of t) q) refl
  where
    names : List (List ℕ)
    names = keys (image_of t)

    by : (file : Option (List ℕ)) → get (image_of t) q ≡ file → place_of (settled t) q ≡ clean (get (image_of (settled t)) q)
    by None e = clean_as_read (settled t) q None (all_clean names q t None (can q e))
    by (Some x) e = clean_as_read (settled t) q (Some x) (there_clean names q t x (sym (contains_key-keys (image_of t) q) ∙ ap is_some e) e)

pub clean_settles : (t : Told) → IsClean t → CanSettle t
clean_settles t is name none = is name ∙ ap clean none

-- ---- what a crash leaves

module _ (files : Files) (t : Told) (w : Recovers the_format the_names (image_of t) files) (is : IsClean t) where
  abbrev P : ℕ → Told → Image → Type 0
  P = RecoversAt the_format the_names files

  abbrev Good : (List ℕ → Place) → Type 0
  Good place = (name : List ℕ) → place name ≡ clean (get (image_of t) name)

  good_now : (u : Told) (n : ℕ) → 0 ≤ n → Good (place_of u) → LeavesNow P n u
  good_now u n le good m image lt left chance = subst (λ (i : Image). Recovers the_format the_names i files) (sym (same_image image (image_of t) (λ name. left_clean u name (get (image_of t) name) image (good name) left))) w

  syncs_safe : (names : List (List ℕ)) (u : Told) → Good (place_of u) → Safe Good (sync_asks names) u
  syncs_safe [] u good = tt
  syncs_safe (n ∷ names) u good =
      let next : (done : Bool) → Good (place_of (called n Syncs done u)) = λ done q. one_clean n q u done (get (image_of t) q) (good q) in
      (next false, (next true, syncs_safe names (called n Syncs true u) (next true)))

  pub leaves_syncs : (names : List (List ℕ)) (u : Told) → IsCut (sync_asks names) t u → Leaves P t u
  leaves_syncs names u cut = leaves_cut P Good t 0 good_now (sync_asks names) t u (omega arith) (leaves_first P t (good_now t (length t.calls) (omega arith) is)) (syncs_safe names t is) cut

-- ---- one run after another

calls_before : (call : Call) (calls : List Call) (m : ℕ) → m ≤ length calls → calls_at (call ∷ calls) m ≡ calls_at calls m
calls_before call calls m le =
    let early : nat_le m (length calls) ≡ true = grind (arith, nat_tests) in
    ap (λ b. cond b (calls_at calls m) (cond (m == length calls + 1) (begun call ∷ calls) (call ∷ calls))) early

told_before : (x : Ask) (done : Bool) (u : Told) (m : ℕ) → m ≤ length u.calls → at_moment (after_ask x done u) m ≡ at_moment u m
told_before x done u m le = ap (λ (l : List Call). let t : Told = record { start = u.start; calls = l } in t) (calls_before (record { name = x.name; change = x.change; is_done = done }) u.calls m le)

-- what was told at a moment doesn't change any more
pub told_early : (asks : List Ask) (u v : Told) → IsCut asks u v → (m : ℕ) → m ≤ length u.calls → at_moment v m ≡ at_moment u m
told_early [] u v cut m le = ap (λ (t : Told). at_moment t m) cut
told_early (x ∷ asks) u v (inl same) m le = ap (λ (t : Told). at_moment t m) same
told_early (x ∷ asks) u v (inr (inl stopped)) m le = ap (λ (t : Told). at_moment t m) stopped ∙ told_before x false u m le
told_early (x ∷ asks) u v (inr (inr cut)) m le = told_early asks (after_ask x true u) v cut m (omega arith) ∙ told_before x true u m le

pub leaves_joined : (P : ℕ → Told → Image → Type 0) (t u v : Told) → ((m : ℕ) → m ≤ length u.calls → at_moment v m ≡ at_moment u m) → Leaves P t u → Leaves P u v → Leaves P t v
leaves_joined P t u v early first second = record {
  later = omega (arith, first.later, second.later);
  each = λ m image lt l. elim (cases_lt (length u.calls) m) [
    | inl late ↦ second.each m image late l
    | inr le ↦ subst (λ (x : Told). P m x image) (sym (early m le)) (first.each m image lt (second.before m image le l))
  ];
  before = λ m image le l. first.before m image le (second.before m image (omega (arith, le, first.later)) l);
}
