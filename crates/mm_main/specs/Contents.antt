-- What a data file without a finding holds, and what a dump prints of it.
use Rattle.std.specs.Prelude.{◌≡◌, ℕ, ◌<◌, List, [], ◌∷◌, ◌++◌, length, map, codes, Option, Some, None}
use Rattle.mm_bson.specs.Built.{IsBuilt}
use Rattle.mm_bson.specs.Tree.{Elements}
use Rattle.mm_bson.specs.Spelling.{IsDocument, spelling}
use Rattle.mm_notation.specs.Written.{written}
use Rattle.mm_main.specs.declared.reading.Contents.{Contents}
use Rattle.mm_main.specs.DataFile.{IsFile}
use Rattle.mm_main.specs.Collections.{IsCollection}

abbrev pub AreDocuments : List Elements → Type 0
AreDocuments [] = Unit {0}
AreDocuments (doc ∷ docs) = IsDocument doc × AreDocuments docs

-- the file holds these documents of the collection, as it is written once
pub record HoldsDocs (collection : List ℕ) (docs : List Elements) (file : List ℕ) : Type 0 where
  pub written : IsFile collection (map spelling docs) file
  pub documents : AreDocuments docs
  pub name : 0 < length docs → IsCollection collection

-- documents in memory, which may be too long for a file
abbrev pub AreBuilt : List Elements → Type 0
AreBuilt [] = Unit {0}
AreBuilt (doc ∷ docs) = IsBuilt doc × AreBuilt docs

-- these are documents that the collection may hold, where they find room
pub record AreDocsOf (collection : List ℕ) (docs : List Elements) : Type 0 where
  pub documents : AreBuilt docs
  pub name : 0 < length docs → IsCollection collection

-- the full name of a collection of the database `test`
abbrev pub full_name : List ℕ → List ℕ
full_name collection = codes "test." ++ collection

-- what a reader answers of such a file: nothing where it has no extent
abbrev pub Tells : List ℕ → List Elements → Option Contents → Type 0
Tells collection docs None = docs ≡ []
Tells collection docs (Some contents) = (contents.namespace ≡ full_name collection) × (contents.docs.items ≡ docs)

-- the file holds what is told
abbrev pub IsRead : List ℕ → Option Contents → Type 0
IsRead file contents = (collection : List ℕ) × (docs : List Elements) × HoldsDocs collection docs file × Tells collection docs contents

-- the line of a document: its collection's full name, and its written form
abbrev pub doc_line : List ℕ → Elements → List ℕ
doc_line name doc = name ++ (codes " " ++ (written doc ++ codes "\n"))

abbrev pub doc_lines : List ℕ → List Elements → List ℕ
doc_lines name [] = []
doc_lines name (doc ∷ docs) = doc_line name doc ++ doc_lines name docs

-- the text is the lines of the documents that the file holds
abbrev pub Shows : List ℕ → List ℕ → Type 0
Shows file text = (collection : List ℕ) × (docs : List Elements) × HoldsDocs collection docs file × (text ≡ doc_lines (full_name collection) docs)
