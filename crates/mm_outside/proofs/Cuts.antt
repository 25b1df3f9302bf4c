-- Runs of calls that are cut anywhere: what is told, and what a crash leaves.
use Rattle.std.proofs.Common.{◌≡◌, ◌⊎◌, inl, inr, ℕ, ◌+◌, ◌≤◌, Bool, true, false, List, [], ◌∷◌, ◌++◌, length, Result, Ok, Err, refl, sym, ◌∙◌, subst, arith}
use Rattle.mm_outside.specs.Image.{Image}
use Rattle.mm_outside.specs.Told.{Told, told_after}
use Rattle.mm_outside.specs.declared.disk.Device.{Device}
use Rattle.mm_outside.specs.declared.disk.Device.TheVariants.{Fault, NoMemory}
use Rattle.mm_outside.specs.Place.{Place, place_of}
use Rattle.mm_outside.specs.Ask.{Ask, after_ask, asked, IsCut, SparesFile}
use Rattle.mm_outside.specs.Leaves.{LeavesNow, Leaves}
use Rattle.mm_outside.proofs.Places.{different, place_there}
use Rattle.mm_outside.proofs.LeavesRuns.{leaves_called}

pub asked-append : (a b : List Ask) (t : Told) → asked (a ++ b) t ≡ asked b (asked a t)
asked-append [] b t = refl
asked-append (x ∷ a) b t = asked-append a b (after_ask x true t)

pub cut_before : (asks : List Ask) (t : Told) → IsCut asks t t
cut_before [] t = refl
cut_before (x ∷ asks) t = inl refl

pub cut_append : (a b : List Ask) (t u : Told) → IsCut a t u → IsCut (a ++ b) t u
cut_append [] b t u cut = subst (IsCut b t) (sym cut) (cut_before b t)
cut_append (x ∷ a) b t u (inl same) = inl same
cut_append (x ∷ a) b t u (inr (inl stopped)) = inr (inl stopped)
cut_append (x ∷ a) b t u (inr (inr cut)) = inr (inr (cut_append a b (after_ask x true t) u cut))

pub cut_after : (a b : List Ask) (t u : Told) → IsCut b (asked a t) u → IsCut (a ++ b) t u
cut_after [] b t u cut = cut
cut_after (x ∷ a) b t u cut = inr (inr (cut_after a b (after_ask x true t) u cut))

pub cut_all : (asks : List Ask) (t : Told) → IsCut asks t (asked asks t)
cut_all [] t = refl
cut_all (x ∷ asks) t = inr (inr (cut_all asks (after_ask x true t)))

-- one call, whatever it answers
pub cut_one : {T : Type 0} (x : Ask) (rest : List Ask) (r : Result T Device) (t : Told) → IsCut (x ∷ rest) t (told_after x.name x.change r t)
cut_one x rest (Ok v) t = inr (inr (cut_before rest (after_ask x true t)))
cut_one x rest (Err Fault) t = inr (inl refl)
cut_one x rest (Err NoMemory) t = inl refl

-- a run in two parts is cut in one of them
pub cut_split : (a b : List Ask) (t u : Told) → IsCut (a ++ b) t u → IsCut a t u ⊎ IsCut b (asked a t) u
cut_split [] b t u cut = inr cut
cut_split (x ∷ a) b t u (inl same) = inl (inl same)
cut_split (x ∷ a) b t u (inr (inl stopped)) = inl (inr (inl stopped))
cut_split (x ∷ a) b t u (inr (inr cut)) = elim (cut_split a b (after_ask x true t) u cut) [ inl first ↦ inl (inr (inr first)) | inr second ↦ inr second ]

-- a file that no call of the run is for keeps its place
pub spared_asked : (asks : List Ask) (name : List ℕ) (t : Told) → SparesFile name asks → place_of (asked asks t) name ≡ place_of t name
spared_asked [] name t spares = refl
spared_asked (x ∷ asks) name t spares = spared_asked asks name (after_ask x true t) spares.1 ∙ place_there t x.name name x.change true (different name x.name spares.0)

pub spared_cut : (asks : List Ask) (name : List ℕ) (t u : Told) → SparesFile name asks → IsCut asks t u → place_of u name ≡ place_of t name
spared_cut [] name t u spares cut = subst (λ (v : Told). place_of v name ≡ place_of t name) (sym cut) refl
spared_cut (x ∷ asks) name t u spares (inl same) = subst (λ (v : Told). place_of v name ≡ place_of t name) (sym same) refl
spared_cut (x ∷ asks) name t u spares (inr (inl stopped)) = subst (λ (v : Told). place_of v name ≡ place_of t name) (sym stopped) (place_there t x.name name x.change false (different name x.name spares.0))
spared_cut (x ∷ asks) name t u spares (inr (inr cut)) = spared_cut asks name (after_ask x true t) u spares.1 cut ∙ place_there t x.name name x.change true (different name x.name spares.0)

-- ---- what a crash leaves

-- what a crash leaves within each call and after it is as it should be
abbrev pub Safe : ((List ℕ → Place) → Type 0) → List Ask → Told → Type 0
Safe Good [] t = Unit {0}
Safe Good (x ∷ asks) t = Good (place_of (after_ask x false t)) × (Good (place_of (after_ask x true t)) × Safe Good asks (after_ask x true t))

pub safe_append : (Good : (List ℕ → Place) → Type 0) (a b : List Ask) (t : Told) → Safe Good a t → Safe Good b (asked a t) → Safe Good (a ++ b) t
safe_append Good [] b t x y = y
safe_append Good (k ∷ a) b t x y = (x.0, (x.1.0, safe_append Good a b (after_ask k true t) x.1.1 y))

module _ (P : ℕ → Told → Image → Type 0) (Good : (List ℕ → Place) → Type 0) (t : Told) (since : ℕ) (good : (u : Told) (n : ℕ) → since ≤ n → Good (place_of u) → LeavesNow P n u) where
  one : (u : Told) (x : Ask) (done : Bool) → since ≤ length u.calls → Leaves P t u → Good (place_of (after_ask x false u)) → Good (place_of (after_ask x done u)) → Leaves P t (after_ask x done u)
  one u x done le so_far within after = leaves_called P t u x.name x.change done so_far (λ image. good (after_ask x false u) (length u.calls) le within (length u.calls + 1) image (omega arith)) (good (after_ask x done u) (length u.calls + 1) (omega arith) after)

  pub leaves_all : (asks : List Ask) (u : Told) → since ≤ length u.calls → Leaves P t u → Safe Good asks u → Leaves P t (asked asks u)
  leaves_all [] u le so_far safe = so_far
  leaves_all (x ∷ asks) u le so_far safe = leaves_all asks (after_ask x true u) (omega arith) (one u x true le so_far safe.0 safe.1.0) safe.1.1

  pub leaves_cut : (asks : List Ask) (u v : Told) → since ≤ length u.calls → Leaves P t u → Safe Good asks u → IsCut asks u v → Leaves P t v
  leaves_cut [] u v le so_far safe cut = subst (Leaves P t) (sym cut) so_far
  leaves_cut (x ∷ asks) u v le so_far safe (inl same) = subst (Leaves P t) (sym same) so_far
  leaves_cut (x ∷ asks) u v le so_far safe (inr (inl stopped)) = subst (Leaves P t) (sym stopped) (one u x false le so_far safe.0 safe.0)
  leaves_cut (x ∷ asks) u v le so_far safe (inr (inr cut)) = leaves_cut asks (after_ask x true u) v (omega arith) (one u x true le so_far safe.0 safe.1.0) safe.1.1 cut
