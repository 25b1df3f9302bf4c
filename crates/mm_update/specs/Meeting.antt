-- How a path meets a document, and what an edit at it adds to the document's length.
use Rattle.std.specs.Prelude.{◌≡◌, ◌≢◌, ◌<◌, ◌⊎◌, ℕ, zero, suc, ◌+◌, max, false, List, [], ◌∷◌, Option, Some, None, Ok, Err, length, if◌then◌else◌}
use Rattle.std.specs.Str.{bytes_eq}
use Rattle.mm_bson.specs.Tree.{Tree, document, Elements}
use Rattle.mm_bson.specs.Path.{names, find}
use Rattle.mm_bson.specs.Spelling.{spelling, value_spelling}
use Rattle.mm_update.specs.declared.step.Operator.{Operator}
use Rattle.mm_update.specs.declared.step.Operator.TheVariants.{Unset}
use Rattle.mm_update.specs.Paths.{overlaps_any}
use Rattle.mm_update.specs.Edit.{Edit, paths}
use Rattle.mm_update.specs.Edited.{Outcome, Fails, all_edited}
use Rattle.mm_update.specs.Laws.{AreApart}

-- so many steps lead to documents, and the next one isn't there; or a step before the last leads to another value; or the last step, which has this name, leads to a value
pub data Meeting : Type 0 where
  absent : ℕ → Meeting
  blocked : Meeting
  present : List ℕ → Tree → Meeting

-- seen from one step before, and from so many
abbrev pub deeper : Meeting → Meeting
deeper (absent k) = absent (suc k)
deeper blocked = blocked
deeper (present name t) = present name t

abbrev pub farther : ℕ → Meeting → Meeting
farther n (absent k) = absent (n + k)
farther n blocked = blocked
farther n (present name t) = present name t

abbrev pub meet_inside : (Elements → Meeting) → Tree → Meeting
meet_inside inside (document es) = deeper (inside es)
meet_inside inside _ = blocked

abbrev pub meet_onward : List ℕ → List (List ℕ) → (Elements → Meeting) → Option Tree → Meeting
meet_onward name others inside None = absent 0
meet_onward name [] inside (Some t) = present name t
meet_onward name (next ∷ others) inside (Some t) = meet_inside inside t

abbrev pub meet : List (List ℕ) → Elements → Meeting
meet [] es = blocked
meet (name ∷ others) es = meet_onward name others (meet others) (find name es)

-- ---- several paths

-- how many steps two paths have in common at their start
abbrev pub common : List (List ℕ) → List (List ℕ) → ℕ
common [] others = 0
common (name ∷ names) [] = 0
common (name ∷ names) (other ∷ others) = if bytes_eq name other then suc (common names others) else 0

-- how many of the steps are there once an edit is made: $unset makes none
abbrev pub reach_by : Operator → List (List ℕ) → List (List ℕ) → ℕ
reach_by Unset names others = 0
reach_by _ names others = common names others

abbrev pub reach : Edit → List (List ℕ) → ℕ
reach e others = reach_by e.operator (names e.path) others

abbrev pub reached : List Edit → List (List ℕ) → ℕ
reached [] others = 0
reached (e ∷ es) others = max (reach e others) (reached es others)

-- how many steps of a path are there once these paths are
abbrev pub most_common : List (List ℕ) → List (List ℕ) → ℕ
most_common [] others = 0
most_common (p ∷ ps) others = max (common (names p) others) (most_common ps others)

-- the same of the two neighbours of its place alone
abbrev pub common_before : List ℕ → ℕ → List (List ℕ) → ℕ
common_before q zero ps = 0
common_before q (suc k) [] = 0
common_before q (suc zero) (p ∷ ps) = common (names p) (names q)
common_before q (suc (suc k)) (p ∷ ps) = common_before q (suc k) ps

abbrev pub common_at : List ℕ → ℕ → List (List ℕ) → ℕ
common_at q k [] = 0
common_at q zero (p ∷ ps) = common (names p) (names q)
common_at q (suc k) (p ∷ ps) = common_at q k ps

-- so many steps are there at least
abbrev pub closer : ℕ → Meeting → Meeting
closer n (absent k) = absent (max n k)
closer n blocked = blocked
closer n (present name t) = present name t

-- ---- lengths

-- steps that are made: each has a name, a type byte and a 00, and the five bytes of a document behind it, which the last one lacks
abbrev pub steps_len : List (List ℕ) → ℕ
steps_len [] = 0
steps_len (name ∷ others) = length name + 7 + steps_len others

-- what a call answers that gives the length of an outcome
abbrev pub GivesLen : {X : Type 0} → (X → ℕ) → Outcome ℕ → Outcome X → Type 0
GivesLen {X} len (Ok n) outcome = (x : X) × (outcome ≡ Ok x) × (len x ≡ n)
GivesLen len (Err f) outcome = Fails f outcome

abbrev pub doc_len : Elements → ℕ
doc_len es = length (spelling es)

abbrev pub tree_len : Tree → ℕ
tree_len t = length (value_spelling t)

-- ---- edits one after the other

-- the paths of edits overlap none of these
abbrev pub ArePast : List (List ℕ) → List Edit → Type 0
ArePast earlier [] = Unit {0}
ArePast earlier (e ∷ es) = (overlaps_any earlier e.path ≡ false) × ArePast earlier es

-- a document with the first edits made has this length, and it meets other paths as the old one does, but where the edits reach
pub record Measured (done rest : List Edit) (old : Elements) (whole : Outcome Elements) (len : ℕ) : Type 0 where
  pub doc : Elements
  pub told : all_edited rest doc ≡ whole
  pub counted : doc_len doc ≡ len
  pub met : (q : List ℕ) → overlaps_any (paths done) q ≡ false → meet (names q) doc ≡ closer (reached done (names q)) (meet (names q) old)
  pub past : ArePast (paths done) rest
  pub apart : AreApart rest

-- some edits are made, and these are the paths that they make
pub record MeasuredBy (makers : List (List ℕ)) (rest : List Edit) (old : Elements) (whole : Outcome Elements) (len : ℕ) : Type 0 where
  pub done : List Edit
  pub measured : Measured done rest old whole len
  pub made : (ms : List (List ℕ)) → most_common makers ms ≡ reached done ms
  pub free : (q : List ℕ) → overlaps_any (paths done) q ≡ false → overlaps_any makers q ≡ false

-- an edit that makes more steps than a document may have levels
abbrev pub IsLong : Edit → Type 0
IsLong e = (e.operator ≢ Unset) × (100 < length (names e.path))

abbrev pub HasLong : List Edit → Type 0
HasLong [] = ⊥
HasLong (e ∷ es) = IsLong e ⊎ HasLong es
