-- The places of a change in reading order, one after the other.
use Rattle.std.proofs.Common.{◌≡◌, ℕ, Bool, true, false, cond, List, [], ◌∷◌, ◌++◌, Option, Some, None, refl, sym, ap, ◌∙◌, append_assoc, append-nil}
use Rattle.mm_update.specs.declared.fault.ChangeFault.{ChangeFault}
use Rattle.mm_bson.specs.Tree.{Tree, document}
use Rattle.mm_update.specs.declared.fault.ChangeFault.TheVariants.{BadChange, ChangesId, NotNumber, IncOverflow, TooLong, TooDeep, NoMemory}
use Rattle.mm_update.specs.declared.step.Operator.{Operator}
use Rattle.std.specs.Prelude.{◌&&◌, ◌||◌, not}
use Rattle.mm_update.specs.Paths.{has_empty_step, overlap, overlaps_any, is_id}
use Rattle.mm_update.specs.Edit.{Edit, paths, Knows, operator_of, edits_in}
use Rattle.mm_update.specs.Form.{Place, field, entry, entries, entries_in, needs_number, is_number, wrong_field, wrong_edit, or_else, first_wrong, Refuses}

or_else-assoc : (a b c : Option ChangeFault) → or_else (or_else a b) c ≡ or_else a (or_else b c)
or_else-assoc None b c = refl
or_else-assoc (Some f) b c = refl

or_else-none : (a : Option ChangeFault) → or_else a None ≡ a
or_else-none None = refl
or_else-none (Some f) = refl

-- the paths of one operator are walked first, then what comes behind them
pub first_wrong-entries : (es : List Edit) (earlier : List (List ℕ)) (ps : List Place) → first_wrong earlier (entries es ++ ps) ≡ or_else (first_wrong earlier (entries es)) (first_wrong (earlier ++ paths es) ps)
first_wrong-entries [] earlier ps = ap (λ (x : List (List ℕ)). first_wrong x ps) (sym (append-nil earlier))
first_wrong-entries (e ∷ es) earlier ps =
    ap (or_else (wrong_edit earlier e)) (first_wrong-entries es (earlier ++ e.path ∷ []) ps ∙ ap (λ (x : List (List ℕ)). or_else (first_wrong (earlier ++ e.path ∷ []) (entries es)) (first_wrong x ps)) (append_assoc earlier (e.path ∷ []) (paths es)))
    ∙ sym (or_else-assoc (wrong_edit earlier e) (first_wrong (earlier ++ e.path ∷ []) (entries es)) (first_wrong (earlier ++ paths (e ∷ es)) ps))

pub paths-append : (a b : List Edit) → paths (a ++ b) ≡ paths a ++ paths b
paths-append [] b = refl
paths-append (e ∷ a) b = ap (λ (x : List (List ℕ)). e.path ∷ x) (paths-append a b)

-- an edit that nothing is wrong with, and the places behind it
pub walk_on : (steps new : List Edit) (e : Edit) (ps : List Place) (total : Option ChangeFault) → new ≡ steps ++ e ∷ [] → wrong_edit (paths steps) e ≡ None
    → first_wrong (paths steps) (entry e ∷ ps) ≡ total → first_wrong (paths new) ps ≡ total
walk_on steps new e ps total is fine told = rw (is, paths-append steps (e ∷ [])) (rw fine at told)

-- ---- the paths before an edit

wrong_same : (ps qs : List (List ℕ)) (e : Edit) → overlaps_any ps e.path ≡ overlaps_any qs e.path → wrong_edit ps e ≡ wrong_edit qs e
wrong_same ps qs e same =
    ap (λ (over : Bool). cond (has_empty_step e.path) (Some (BadChange e.path)) (cond over (Some (BadChange e.path)) (cond (is_id e.path) (Some ChangesId) (cond (needs_number e.operator && not (is_number e.operand)) (Some (NotNumber e.path)) None)))) same

pub any_last : (ps : List (List ℕ)) (p q : List ℕ) → overlaps_any (ps ++ p ∷ []) q ≡ (overlap p q || overlaps_any ps q)
any_last [] p q = refl
any_last (x ∷ ps) p q = ap (λ (b : Bool). overlap x q || b) (any_last ps p q) ∙ or_swap (overlap x q) (overlap p q) (overlaps_any ps q)
  where
    or_swap : (a b c : Bool) → (a || (b || c)) ≡ (b || (a || c))
    or_swap true true c = refl
    or_swap true false c = refl
    or_swap false b c = refl

module _ (earlier : List (List ℕ)) (steps : List Edit) (known : Knows earlier steps) (e : Edit) where
  pub wrong_known : wrong_edit earlier e ≡ wrong_edit (paths steps) e
  wrong_known = wrong_same earlier (paths steps) e (known e.path)

  pub knows_on : (next : List (List ℕ)) (new : List Edit) → ((q : List ℕ) → overlaps_any next q ≡ (overlap e.path q || overlaps_any earlier q)) → new ≡ steps ++ e ∷ [] → Knows next new
  knows_on next new more is q =
      more q ∙ ap (λ (b : Bool). overlap e.path q || b) (known q) ∙ sym (any_last (paths steps) e.path q) ∙ ap (λ (ps : List (List ℕ)). overlaps_any ps q) (sym (ap paths is ∙ paths-append steps (e ∷ [])))

pub entries_are : (o : Option Operator) (t : Tree) → entries_in o t ≡ entries (edits_in o t)
entries_are None t = refl
entries_are (Some operator) t = by t
  where
    by : (t : Tree) → entries_in (Some operator) t ≡ entries (edits_in (Some operator) t)
    by (document ps) = refl
    by _ = refl

-- a field with its paths, and the places behind them
pub field_first : (earlier : List (List ℕ)) (name : List ℕ) (t : Tree) (ps : List Place)
    → first_wrong earlier (field name t ∷ (entries_in (operator_of name) t ++ ps)) ≡ or_else (first_wrong earlier (field name t ∷ entries_in (operator_of name) t)) (first_wrong (earlier ++ paths (edits_in (operator_of name) t)) ps)
field_first earlier name t ps =
    let es : List Edit = edits_in (operator_of name) t in
    rw (entries_are (operator_of name) t)
    (ap (or_else (wrong_field name t)) (first_wrong-entries es earlier ps) ∙ sym (or_else-assoc (wrong_field name t) (first_wrong earlier (entries es)) (first_wrong (earlier ++ paths es) ps)))

pub walk_field : (steps new : List Edit) (name : List ℕ) (t : Tree) (ps : List Place) (total : Option ChangeFault) → new ≡ steps ++ edits_in (operator_of name) t
    → first_wrong (paths steps) (field name t ∷ entries_in (operator_of name) t) ≡ None → first_wrong (paths steps) (field name t ∷ (entries_in (operator_of name) t ++ ps)) ≡ total → first_wrong (paths new) ps ≡ total
walk_field steps new name t ps total is fine told =
    rw (is, paths-append steps (edits_in (operator_of name) t)) (ap (λ (o : Option ChangeFault). or_else o (first_wrong (paths steps ++ paths (edits_in (operator_of name) t)) ps)) (sym fine) ∙ sym (field_first (paths steps) name t ps) ∙ told)

pub Refuses-first : (f : ChangeFault) (o later : Option ChangeFault) → Refuses f o → Refuses f (or_else o later)
Refuses-first NoMemory o later h = tt
Refuses-first (BadChange n) o later h = rw h refl
Refuses-first ChangesId o later h = rw h refl
Refuses-first (NotNumber n) o later h = rw h refl
Refuses-first (IncOverflow n) o later h = rw h refl
Refuses-first (TooLong n) o later h = rw h refl
Refuses-first TooDeep o later h = rw h refl

pub Refuses-along : (f : ChangeFault) (o p : Option ChangeFault) → o ≡ p → Refuses f o → Refuses f p
Refuses-along f o p e h = rw (← e) h

pub field_refused : (f : ChangeFault) (steps : List Edit) (name : List ℕ) (t : Tree) (ps : List Place) (total : Option ChangeFault)
    → Refuses f (first_wrong (paths steps) (field name t ∷ entries_in (operator_of name) t)) → first_wrong (paths steps) (field name t ∷ (entries_in (operator_of name) t ++ ps)) ≡ total → Refuses f total
field_refused f steps name t ps total h told =
    Refuses-along f _ total (sym (field_first (paths steps) name t ps) ∙ told) (Refuses-first f _ (first_wrong (paths steps ++ paths (edits_in (operator_of name) t)) ps) h)

pub entry_refused : (f : ChangeFault) (earlier : List (List ℕ)) (e : Edit) (ps : List Place) (wrong total : Option ChangeFault) → Refuses f wrong → wrong ≡ wrong_edit earlier e → first_wrong earlier (entry e ∷ ps) ≡ total → Refuses f total
entry_refused f earlier e ps wrong total h is told = Refuses-along f _ total told (Refuses-first f (wrong_edit earlier e) (first_wrong (earlier ++ e.path ∷ []) ps) (Refuses-along f wrong _ is h))
