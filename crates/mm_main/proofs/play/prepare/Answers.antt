use Rattle.std.proofs.Common.{map}
use Rattle.mm_bson.specs.Spelling.{spelling}
use Rattle.mm_main.specs.DataFile.{IsFile}
use Rattle.mm_main.specs.Inserts.{collection_in, docs_of}
use Rattle.mm_main.specs.Room.{stored}
use Rattle.mm_main.proofs.LiveSteps.{live_of}
use Rattle.mm_main.proofs.StoredSteps.{holds_played}
use Rattle.mm_main.proofs.play.prepare.Goals as goal

pub returns-clause-holds : goal.returns-clause-holds
returns-clause-holds c =
    let written : IsFile (collection_in c.args.actions.now) (map spelling (stored (docs_of c.args.actions.now))) c.in_ok-filed.filed.file.items = rw c.collection_in.ensures at c.in_ok-filed.ensures.written in
    holds_played c.args.actions.now c.in_ok-filed.filed.file.items c.requires c.in_ok-filed.ensures.built written

pub returns-clause-live : goal.returns-clause-live
returns-clause-live c =
    let written : IsFile (collection_in c.args.actions.now) (map spelling (stored (docs_of c.args.actions.now))) c.in_ok-filed.filed.file.items = rw c.collection_in.ensures at c.in_ok-filed.ensures.written in
    live_of (collection_in c.args.actions.now) _ _ written.fit written.holds
