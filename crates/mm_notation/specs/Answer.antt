-- What reading a text from a place on answers.
use Rattle.std.specs.Prelude.{◌≡◌, ℕ, ◌+◌, ◌<◌, ◌≤◌, List, length, slice_range, Result, Ok, Err}
use Rattle.mm_bson.specs.Tree.{Elements}
use Rattle.mm_notation.specs.declared.fault.NotationFault.{NotationFault}
use Rattle.mm_notation.specs.declared.fault.NotationFault.TheVariants.{Notation, NoMemory}
use Rattle.mm_notation.specs.Grammar.{IsDocumentText, BeginsDocument}

-- The stretch from at up to end is the document's text, and no other stretch from at is one of any document.
pub record IsFound (text : List ℕ) (at : ℕ) (es : Elements) (end : ℕ) : Type 0 where
  pub behind : at ≤ end
  pub within : end ≤ length text
  pub stands : IsDocumentText es (slice_range text at end)
  pub only : (e : Elements) (q : ℕ) → at ≤ q → q ≤ length text → IsDocumentText e (slice_range text at q) → (e ≡ es) × (q ≡ end)

-- No stretch from at is a document's text, and this is the least place of such a kind: the text up to it, as up to each place before, can still become a document's, and where the text goes on
-- here, the text through this byte begins none.
pub record IsRefused (text : List ℕ) (at : ℕ) (place : ℕ) : Type 0 where
  pub behind : at ≤ place
  pub within : place ≤ length text
  pub none : (e : Elements) (q : ℕ) → at ≤ q → q ≤ length text → IsDocumentText e (slice_range text at q) → ⊥
  pub begun : (q : ℕ) → at ≤ q → q ≤ place → BeginsDocument (slice_range text at q)
  pub past : place < length text → BeginsDocument (slice_range text at (place + 1)) → ⊥

abbrev pub IfRefused : {X : Type 0} → Result X NotationFault → (ℕ → Type 0) → Type 0
IfRefused (Ok x) P = Unit {0}
IfRefused (Err (Notation place)) P = P place
IfRefused (Err NoMemory) P = Unit {0}
