-- What a crash leaves of the files, one after another.
use Rattle.std.proofs.Common.{◌≡◌, ◌⊎◌, inl, inr, ℕ, Bool, true, false, ◌+◌, ◌<◌, List, [], ◌∷◌, ◌++◌, length, get_or, take, map, reverse, Option, Some, None, refl, sym, ◌∙◌, ap, subst, string_bytes}
use Rattle.std.specs.Prelude.{◌||◌}
use Rattle.std.proofs.lemmas.Bool.{cases_Bool, cond-true, cond-false}
use Rattle.std.proofs.lemmas.List.{take_more, map-append, reverse-append}
use Rattle.std.proofs.lemmas.List.Folds.{list_any-append}
use Rattle.std.specs.List.{list_any}
use Rattle.std.specs.Ordering.{eq_by_cmp}
use Rattle.std.specs.FinMap.{get, keys, contains_key, contains_key-keys}
use Rattle.mm_outside.specs.Image.{Image, name_cmp}
use Rattle.mm_outside.specs.Told.{Told, Call, MayLeaveFile, image_after, pending_after, called}
use Rattle.mm_outside.specs.Place.{Place, place_of, place_by}
use Rattle.mm_outside.proofs.Places.{one_name, same_name, different, place_here, place_there}
use Rattle.mm_memdisk.specs.Calls.{call_of, calls_of, change_of, told_of}
use Rattle.mm_memdisk.specs.Files.{Files, file_at}
use Rattle.mm_memdisk.specs.Left.{Puts, TracesFile, LeavesAt, LeavesFile, LeavesAll, LeavesThese}
use Rattle.mm_memdisk.specs.Traced.{Traces, StepsBy}
use Rattle.mm_memdisk.specs.declared.call.Begun.{Begun}
use Rattle.mm_memdisk.specs.declared.traced.Traced.{Traced}

module _ (start : Image) (calls : List Begun) where
  -- ---- the trace of one file

  next_told : (i : ℕ) (b : Begun) → i < length calls → b ≡ get_or calls i b → told_of start (take (i + 1) calls) ≡ called (string_bytes b.name) (change_of b.change) b.is_done (told_of start (take i calls))
  next_told i b lt is =
      let more : take (i + 1) calls ≡ take i calls ++ b ∷ [] = take_more calls i b lt ∙ ap (λ (x : Begun). take i calls ++ x ∷ []) (sym is) in
      ap (told_of start) more ∙ ap (λ (l : List Call). let t : Told = record { start = start; calls = l } in t) (ap reverse (map-append call_of (take i calls) (b ∷ [])) ∙ reverse-append (map call_of (take i calls)) (call_of b ∷ []))

  traces_place : (t u : Told) (name : List ℕ) (traced : Traced) → place_of t name ≡ place_of u name → Traces (place_of u name).file (place_of u name).pending traced → Traces (place_of t name).file (place_of t name).pending traced
  traces_place t u name traced e h = subst (λ (p : Place). Traces p.file p.pending traced) (sym e) h

  pub trace_step : (i : ℕ) (b : Begun) (name : List ℕ) (old new : Traced) → i < length calls → b ≡ get_or calls i b → string_bytes b.name ≡ name → StepsBy (change_of b.change) b.is_done old new → TracesFile start (take i calls) name old
      → TracesFile start (take (i + 1) calls) name new
  trace_step i b name old new lt is e step h =
      let t : Told = told_of start (take i calls) in
      let here : place_of (told_of start (take (i + 1) calls)) name ≡ place_by (change_of b.change) b.is_done (place_of t name) =
      ap (λ (u : Told). place_of u name) (next_told i b lt is ∙ ap (λ (n : List ℕ). called n (change_of b.change) b.is_done t) e) ∙ place_here t name (change_of b.change) b.is_done in
      subst (λ (p : Place). Traces p.file p.pending new) (sym here) (step _ _ h)

  pub trace_other : (i : ℕ) (b : Begun) (name : List ℕ) (traced : Traced) → i < length calls → b ≡ get_or calls i b → (string_bytes b.name ≡ name → ⊥) → TracesFile start (take i calls) name traced → TracesFile start (take (i + 1) calls) name traced
  trace_other i b name traced lt is ne h =
      traces_place _ (told_of start (take i calls)) name traced (ap (λ (u : Told). place_of u name) (next_told i b lt is) ∙ place_there (told_of start (take i calls)) (string_bytes b.name) name (change_of b.change) b.is_done (different name (string_bytes b.name) (λ e. ne (sym e)))) h

  -- ---- files that are put

  abbrev At : List ℕ → Option (List ℕ) → Type 0
  At = LeavesAt start calls

  put_at : (name : List ℕ) (left : Option (List ℕ)) (old new : Files) → Puts name left old new → (q : List ℕ) → (file_at new q ≡ file_at old q) ⊎ ((q ≡ name) × (file_at new q ≡ left))
  put_at name None old new puts q = inl (puts q)
  put_at name (Some bytes) old new puts q = elim (cases_Bool (eq_by_cmp name_cmp q name)) [
    | inl same ↦ inr (one_name q name same, puts q ∙ cond-true _ (Some bytes) (file_at old q) same)
    | inr other ↦ inl (puts q ∙ cond-false _ (Some bytes) (file_at old q) other)
  ]

  after_put : (name : List ℕ) (old new : Files) → LeavesFile start calls name old new → (q : List ℕ) → At q (file_at old q) → At q (file_at new q)
  after_put name old new l q h = elim (put_at name l.left old new l.puts q) [
    | inl same ↦ subst (At q) (sym same) h
    | inr own ↦ subst (At q) (sym own.1) (subst (λ (n : List ℕ). At n l.left) (sym own.0) l.may)
  ]

  own_put : (name : List ℕ) (old new : Files) (left : Option (List ℕ)) → At name left → Puts name left old new → At name (file_at old name) ⊎ (file_at old name ≡ None) → At name (file_at new name)
  own_put name old new None may puts (inl h) = subst (At name) (sym (puts name)) h
  own_put name old new None may puts (inr none) = subst (At name) (sym (puts name ∙ none)) may
  own_put name old new (Some bytes) may puts h = subst (At name) (sym (puts name ∙ cond-true _ (Some bytes) (file_at old name) (same_name name))) may

  either_true : (a b : Bool) → (a || (b || false)) ≡ true → (a ≡ true) ⊎ (b ≡ true)
  either_true true b e = inl refl
  either_true false true e = inr refl
  either_true false false e = absurd cc

  pub these_next : (names : List (List ℕ)) (name : List ℕ) (old new : Files) → LeavesThese start calls names old → LeavesFile start calls name old new → LeavesThese start calls (names ++ name ∷ []) new
  these_next names name old new h l = record {
    these = λ q among. elim (either_true _ _ (sym (list_any-append (eq_by_cmp name_cmp q) names (name ∷ [])) ∙ among)) [
      | inl before ↦ after_put name old new l q (h.these q before)
      | inr own ↦ subst (λ (n : List ℕ). At n (file_at new n)) (sym (one_name q name own)) (own_put name old new l.left l.may l.puts (h.others name))
    ];
    others = λ q. elim (put_at name l.left old new l.puts q) [
      | inl same ↦ elim (h.others q) [ inl m ↦ inl (subst (At q) (sym same) m) | inr none ↦ inr (same ∙ none) ]
      | inr own ↦ inl (subst (At q) (sym own.1) (subst (λ (n : List ℕ). At n l.left) (sym own.0) l.may))
    ];
  }

  pub none_yet : (files : Files) → ((q : List ℕ) → file_at files q ≡ None) → LeavesThese start calls [] files
  none_yet files none = record { these = λ q among. absurd cc; others = λ q. inr (none q) }

  pub all_next : (name : List ℕ) (old new : Files) → LeavesAll start calls old → LeavesFile start calls name old new → LeavesAll start calls new
  all_next name old new h l q = after_put name old new l q (h q)

  -- the others aren't there
  pub all_left : (files : Files) → LeavesThese start calls (keys (image_after start (calls_of calls))) files → LeavesAll start calls files
  all_left files h q = elim (cases_Bool (contains_key image q)) [
    | inl there ↦ h.these q (sym (contains_key-keys image q) ∙ there)
    | inr away ↦ elim (h.others q) [ inl m ↦ m | inr none ↦ subst (At q) (sym none) (absent (get image q) away) ]
  ]
    where
      image : Image
      image = image_after start (calls_of calls)

      absent : (o : Option (List ℕ)) → Rattle.std.specs.Prelude.is_some o ≡ false → MayLeaveFile o (pending_after start (calls_of calls) q) None
      absent None e = tt
      absent (Some x) e = absurd cc
