-- What the calls of the records of a namespace make of its documents: a document comes, goes, or is written anew, and those of all other namespaces stay.
use Rattle.std.specs.Prelude.{◌≡◌, ◌≢◌, ℕ, List, ◌∷◌, ◌++◌}
use Rattle.mm_bson.specs.Tree.{Elements}
use Rattle.mm_bson.specs.Spelling.{IsDocument, spelling}
use Rattle.mm_ranges.specs.Overlay.{Image}
use Rattle.mm_links.specs.Links.{Place}
use Rattle.mm_records.specs.Shape.{Shape}
use Rattle.mm_records.specs.Map.{live_at, IsFreed, IsRewritten}
use Rattle.mm_records.specs.Allocating.{IsAllocated}
use Rattle.mm_standing.specs.Documents.{Laid, Begins, Holds}

-- the live records of every other namespace stay
abbrev pub OthersKeep : Shape → Shape → List ℕ → Type 0
OthersKeep s t name = (m : List ℕ) → name ≢ m → (q : Place) → live_at t m q ≡ live_at s m q

-- A place is taken for the bytes of a document: the namespace holds it besides, wherever it is put in the list.
abbrev pub DocumentComes : Type 0
DocumentComes = (image : Image) (s t : Shape) (free name : List ℕ) (p : Place) (r : ℕ) (doc : Elements) (ls ms : List Laid) → IsDocument doc → Holds s name (ls ++ ms)
    → IsAllocated image s t free name p r (spelling doc) → Holds t name (ls ++ (record { at = p; document = doc }) ∷ ms) × OthersKeep s t name

-- The record of a document is freed: the namespace holds the others.
abbrev pub DocumentGoes : Type 0
DocumentGoes = (s t : Shape) (name : List ℕ) (n : ℕ) (l : Laid) (ls ms : List Laid) → Holds s name (ls ++ l ∷ ms) → IsFreed s t name l.at n
    → Holds t name (ls ++ ms) × OthersKeep s t name

-- The record of a document has a room that begins with another: the namespace holds this one in its stead.
abbrev pub DocumentIsRewritten : Type 0
DocumentIsRewritten = (s t : Shape) (name room : List ℕ) (doc : Elements) (l : Laid) (ls ms : List Laid) → Holds s name (ls ++ l ∷ ms) → IsRewritten s t l.at room → Begins room doc
    → Holds t name (ls ++ (record { at = l.at; document = doc }) ∷ ms) × OthersKeep s t name
