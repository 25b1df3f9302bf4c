-- One call more: the place of its file steps, and each other place stays.
use Rattle.std.proofs.Common.{◌≡◌, ℕ, Bool, true, false, cond, List, [], Option, Some, None, refl, sym, ◌∙◌, ap, subst}
use mathlib.Core.Bool.{true≢false}
use Rattle.std.proofs.lemmas.Bool.{cond-true, cond-false, false_from_ne_true}
use Rattle.std.proofs.lemmas.Option.{none-some, same_Some}
use Rattle.std.specs.Option.{option_map_or}
use Rattle.std.specs.declared.cmp.Ordering.{Ordering}
use Rattle.std.specs.declared.cmp.Ordering.TheVariants.{Less, Equal, Greater}
use Rattle.std.specs.Ordering.{is_eq, eq_by_cmp}
use Rattle.std.specs.Cmp.{tied_itself}
use Rattle.std.specs.Cmp.Lexicographic.{nat_list_cmp_total}
use Rattle.std.specs.FinMap.{get, insert, get-insert, get-remove, nat_cmp-IsAntisymmetric, slice_cmp-IsAntisymmetric}
use Rattle.mm_bytes.specs.Files.{resized, overwritten}
use Rattle.mm_outside.specs.Image.{Image, name_cmp}
use Rattle.mm_outside.specs.Told.{Change, Told, Pending, called, changed, image_of, Becomes, pending_by, pending_of, MayLeaveFile, MayLeave, Creates, Writes, Resizes, Syncs, Removes}
use Rattle.mm_outside.specs.Crash.{file_after}
use Rattle.mm_outside.specs.Place.{Place, place_of, place_by, under_way_by, under_way, last_synced_by, last_synced}

-- names that tie are one
is_equal : (o : Ordering) → is_eq o ≡ true → o ≡ Equal
is_equal Less e = absurd (true≢false (sym e))
is_equal Equal e = refl
is_equal Greater e = absurd (true≢false (sym e))

pub one_name : (q name : List ℕ) → eq_by_cmp name_cmp q name ≡ true → q ≡ name
one_name q name e = slice_cmp-IsAntisymmetric nat_cmp-IsAntisymmetric q name (is_equal _ e)

pub same_name : (name : List ℕ) → eq_by_cmp name_cmp name name ≡ true
same_name name = ap is_eq (tied_itself nat_list_cmp_total name)

pub different : (q name : List ℕ) → (q ≡ name → ⊥) → eq_by_cmp name_cmp q name ≡ false
different q name ne = false_from_ne_true _ (λ e. ne (one_name q name e))

pub apart : (q name : List ℕ) → eq_by_cmp name_cmp q name ≡ false → q ≡ name → ⊥
apart q name e is = true≢false (sym (same_name name) ∙ subst (λ (n : List ℕ). eq_by_cmp name_cmp n name ≡ false) is e)

-- to leave a file as it is
kept : (image : Image) (name q : List ℕ) (b : Bool) → eq_by_cmp name_cmp q name ≡ b → get image q ≡ cond b (get image name) (get image q)
kept image name q true e = ap (get image) (one_name q name e)
kept image name q false e = refl

kept_as : (image : Image) (name q : List ℕ) (file : Option (List ℕ)) → get image name ≡ file → get image q ≡ cond (eq_by_cmp name_cmp q name) file (get image q)
kept_as image name q file e = kept image name q _ refl ∙ ap (λ (f : Option (List ℕ)). cond (eq_by_cmp name_cmp q name) f (get image q)) e

-- what is read after a call that was done
get-changed : (change : Change) (image : Image) (name q : List ℕ) (file : Option (List ℕ)) → get image name ≡ file
    → get (changed change name image) q ≡ cond (eq_by_cmp name_cmp q name) (file_after change file) (get image q)
get-changed Creates image name q None e = subst (λ (o : Option (List ℕ)). get (option_map_or (λ _. image) o (insert image name [])) q ≡ cond (eq_by_cmp name_cmp q name) (Some []) (get image q)) (sym e) (get-insert nat_list_cmp_total image name [] q)
get-changed Creates image name q (Some old) e = subst (λ (o : Option (List ℕ)). get (option_map_or (λ _. image) o (insert image name [])) q ≡ cond (eq_by_cmp name_cmp q name) (Some old) (get image q)) (sym e) (kept_as image name q (Some old) e)
get-changed (Writes at bytes) image name q None e = subst (λ (o : Option (List ℕ)). get (option_map_or (λ old. insert image name (overwritten at bytes old)) o image) q ≡ cond (eq_by_cmp name_cmp q name) None (get image q)) (sym e) (kept_as image name q None e)
get-changed (Writes at bytes) image name q (Some was) e = subst (λ (o : Option (List ℕ)). get (option_map_or (λ old. insert image name (overwritten at bytes old)) o image) q ≡ cond (eq_by_cmp name_cmp q name) (Some (overwritten at bytes was)) (get image q)) (sym e) (get-insert nat_list_cmp_total image name (overwritten at bytes was) q)
get-changed (Resizes len) image name q None e = subst (λ (o : Option (List ℕ)). get (option_map_or (λ old. insert image name (resized len old)) o image) q ≡ cond (eq_by_cmp name_cmp q name) None (get image q)) (sym e) (kept_as image name q None e)
get-changed (Resizes len) image name q (Some was) e = subst (λ (o : Option (List ℕ)). get (option_map_or (λ old. insert image name (resized len old)) o image) q ≡ cond (eq_by_cmp name_cmp q name) (Some (resized len was)) (get image q)) (sym e) (get-insert nat_list_cmp_total image name (resized len was) q)
get-changed Syncs image name q file e = kept_as image name q file e
get-changed Removes image name q file e = get-remove nat_list_cmp_total image name q

-- ---- the place of a call's file

same_place : (f g : Option (List ℕ)) (p q : Pending) (v w : List (ℕ × List ℕ)) (s z : Option (List ℕ)) → f ≡ g → p ≡ q → v ≡ w → s ≡ z
    → let a : Place = record { file = f; pending = p; writes = v; last_synced = s } in let b : Place = record { file = g; pending = q; writes = w; last_synced = z } in a ≡ b
same_place f g p q v w s z a b c d = cc

file_here : (t : Told) (name : List ℕ) (change : Change) (done : Bool) → get (image_of (called name change done t)) name ≡ cond done (file_after change (get (image_of t) name)) (get (image_of t) name)
file_here t name change true = get-changed change (image_of t) name name _ refl ∙ cond-true _ (file_after change (get (image_of t) name)) (get (image_of t) name) (same_name name)
file_here t name change false = refl

-- the place of a call's file steps
pub place_here : (t : Told) (name : List ℕ) (change : Change) (done : Bool) → place_of (called name change done t) name ≡ place_by change done (place_of t name)
place_here t name change done = same_place _ _ _ _ _ _ _ _ (file_here t name change done)
    (cond-true _ (pending_by change done (get (image_of t) name) (pending_of t name)) (pending_of t name) (same_name name))
    (cond-true _ (under_way_by change done (under_way t.calls name)) (under_way t.calls name) (same_name name))
    (cond-true _ (last_synced_by change done (get (image_of t) name) (last_synced t.start t.calls name)) (last_synced t.start t.calls name) (same_name name))

file_there : (t : Told) (name q : List ℕ) (change : Change) (done : Bool) → eq_by_cmp name_cmp q name ≡ false → get (image_of (called name change done t)) q ≡ get (image_of t) q
file_there t name q change true e = get-changed change (image_of t) name q _ refl ∙ cond-false _ (file_after change (get (image_of t) name)) (get (image_of t) q) e
file_there t name q change false e = refl

-- each other place stays
pub place_there : (t : Told) (name q : List ℕ) (change : Change) (done : Bool) → eq_by_cmp name_cmp q name ≡ false → place_of (called name change done t) q ≡ place_of t q
place_there t name q change done e = same_place _ _ _ _ _ _ _ _ (file_there t name q change done e)
    (cond-false _ (pending_by change done (get (image_of t) q) (pending_of t q)) (pending_of t q) e)
    (cond-false _ (under_way_by change done (under_way t.calls q)) (under_way t.calls q) e)
    (cond-false _ (last_synced_by change done (get (image_of t) q) (last_synced t.start t.calls q)) (last_synced t.start t.calls q) e)

-- both at once, by whether the names are one
pub place_step : (t : Told) (name q : List ℕ) (change : Change) (done same : Bool) → eq_by_cmp name_cmp q name ≡ same → place_of (called name change done t) q ≡ cond same (place_by change done (place_of t q)) (place_of t q)
place_step t name q change done true e = subst (λ (n : List ℕ). place_of (called n change done t) q ≡ place_by change done (place_of t q)) (one_name q name e) (place_here t q change done)
place_step t name q change done false e = place_there t name q change done e

-- what a crash now leaves of a file whose place is known
pub left_at : (t : Told) (name : List ℕ) (p : Place) (image : Image) → place_of t name ≡ p → MayLeave t.start t.calls image → MayLeaveFile p.file p.pending (get image name)
left_at t name p image is left = subst (λ (x : Place). MayLeaveFile x.file x.pending (get image name)) is (left name)

-- what is told after a step was told before it
pub was_told : (old new : Option Told) (step : Told → Told) → Becomes old new step → (u : Told) → new ≡ Some u → (t : Told) × (old ≡ Some t) × (u ≡ step t)
was_told old new step goes u is = by old refl
  where
    by : (o : Option Told) → old ≡ o → (t : Told) × (old ≡ Some t) × (u ≡ step t)
    by None e = absurd (none-some u (sym (goes.silent e) ∙ is))
    by (Some t) e = (t, e, same_Some u (step t) (sym is ∙ goes.tells t e))
