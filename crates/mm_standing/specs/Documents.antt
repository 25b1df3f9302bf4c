-- The documents of a namespace in its records (MongoDB 2.6, MMAPv1). A document is the first bytes of a record's room, as many as its own length says.
use Rattle.std.specs.Prelude.{◌≡◌, ℕ, true, List, map, ◌++◌, Some}
use Rattle.std.specs.List.{AllByRecursion}
use Rattle.mm_bson.specs.Tree.{Elements}
use Rattle.mm_bson.specs.Spelling.{IsDocument, spelling}
use Rattle.mm_links.specs.Links.{Place, has, once}
use Rattle.mm_records.specs.Shape.{Shape}
use Rattle.mm_records.specs.Map.{live_at}

-- a document, and the place of its record
pub record Laid : Type 0 where
  pub at : Place
  pub document : Elements

-- a room begins with a document, whatever stands behind
pub record Begins (room : List ℕ) (document : Elements) : Type 0 where
  pub is_document : IsDocument document
  pub behind : List ℕ
  pub bytes : room ≡ spelling document ++ behind

-- the namespace has a live record there, which begins with the document
pub record IsLaid (s : Shape) (name : List ℕ) (l : Laid) : Type 0 where
  pub room : List ℕ
  pub live : live_at s name l.at ≡ Some room
  pub begins : Begins room l.document

abbrev pub places : List Laid → List Place
places ls = map (λ l. l.at) ls

abbrev pub documents : List Laid → List Elements
documents ls = map (λ l. l.document) ls

-- The live records of the namespace hold these documents, each once.
pub record Holds (s : Shape) (name : List ℕ) (ls : List Laid) : Type 0 where
  pub laid : AllByRecursion (IsLaid s name) ls
  pub apart : once (places ls) ≡ true
  pub all : (p : Place) (room : List ℕ) → live_at s name p ≡ Some room → has (places ls) p ≡ true
