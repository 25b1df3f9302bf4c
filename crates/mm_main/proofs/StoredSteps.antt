-- The documents of a script, and those of them that are stored, are documents that the collection may hold.
use Rattle.std.proofs.Common.{◌+◌, ◌<◌, ℕ, List, [], ◌∷◌, length, map, arith}
use Rattle.mm_bson.specs.Tree.{Elements}
use Rattle.mm_bson.specs.Spelling.{spelling}
use Rattle.std.proofs.lemmas.List.{length-map}
use Rattle.mm_model.specs.declared.action.Action.{Action}
use Rattle.mm_main.specs.declared.answers.Reply.{Reply}
use Rattle.mm_main.specs.declared.answers.Reply.TheVariants.{Done, NoSpace}
use Rattle.mm_main.specs.Contents.{AreBuilt, AreDocuments, AreDocsOf, HoldsDocs}
use Rattle.mm_main.specs.DataFile.{Fit, IsFile}
use Rattle.mm_main.specs.Inserts.{ArePlayed, collection_in, doc_of, docs_of}
use Rattle.mm_main.specs.Room.{first_at, block_len, replies_of, stored_by, stored}
use Rattle.mm_main.proofs.LiveSteps.{request_enough}

stored_built : (replies : List Reply) (docs : List Elements) → AreBuilt docs → AreBuilt (stored_by replies docs)
stored_built [] docs all = tt
stored_built (reply ∷ replies) [] all = tt
stored_built (Done ∷ replies) (doc ∷ docs) all = (all.0, stored_built replies docs all.1)
stored_built (NoSpace ∷ replies) (doc ∷ docs) all = stored_built replies docs all.1

-- documents that find room are short enough
fitting_documents : (at : ℕ) (docs : List Elements) → AreBuilt docs → Fit at (map spelling docs) → AreDocuments docs
fitting_documents at [] all fit = tt
fitting_documents at (doc ∷ docs) all fit = (
  record { elements = all.0.elements; levels = all.0.levels; short = omega (arith, fit.0, request_enough (length (spelling doc))) },
  fitting_documents (at + block_len at (length (spelling doc))) docs all.1 fit.1,
)

stored_some : (replies : List Reply) (docs : List Elements) → 0 < length (stored_by replies docs) → 0 < length docs
stored_some [] docs some = absurd (omega (arith, some))
stored_some (reply ∷ replies) [] some = absurd (omega (arith, some))
stored_some (reply ∷ replies) (doc ∷ docs) some = omega arith

-- a file that is written with the documents that are stored holds them
holds_stored : (collection : List ℕ) (docs : List Elements) (file : List ℕ) → AreDocsOf collection docs → IsFile collection (map spelling (stored docs)) file → HoldsDocs collection (stored docs) file
holds_stored collection docs file all written = record {
  written = written;
  documents = fitting_documents first_at (stored docs) (stored_built (replies_of docs) docs all.documents) written.fit;
  name = λ some. all.name (stored_some (replies_of docs) docs some);
}

-- the same of the documents of a script
pub holds_played : (actions : List Action) (file : List ℕ) → ArePlayed actions → AreBuilt (docs_of actions) → IsFile (collection_in actions) (map spelling (stored (docs_of actions))) file
    → HoldsDocs (collection_in actions) (stored (docs_of actions)) file
holds_played actions file played built written = holds_stored (collection_in actions) (docs_of actions) file all written
  where
    all : AreDocsOf (collection_in actions) (docs_of actions)
    all = record { documents = built; name = λ some. played.name (omega (arith, some, length-map actions doc_of)) }
