-- A fact of the reply, whatever comes of the nodes.
use Rattle.std.proofs.Common.{ℕ, Bool, true, false, List, Option, Some, None}
use Rattle.std.specs.Prelude.{nat_lt}
use Rattle.mm_model.specs.declared.reply.Reply.{Reply}
use Rattle.mm_model.specs.declared.reply.Reply.TheVariants.{NsFull}
use Rattle.mm_model.specs.Database.{Database, nodes_in}
use Rattle.mm_model.specs.Commands.{Outcome, refused, answered, done, unless}
use Rattle.mm_model.specs.After.{unless_full, with_collection, settled}

abbrev pub ReplyHas : (Reply → Type 0) → Outcome → Type 0
ReplyHas P (refused r) = P r
ReplyHas P (answered r) = P r
ReplyHas P (done r x) = P r

reply_if : (P : Reply → Type 0) (b : Bool) (r : Reply) (old new : Database) → P NsFull → P r → P (unless_full b old r new).0
reply_if P true r old new full h = full
reply_if P false r old new full h = h

pub reply-has : (P : Reply → Type 0) (nodes : ℕ) (coll : List ℕ) (db : Database) (o : Outcome) → P NsFull → ReplyHas P o → P (settled nodes coll db o).0
reply-has P nodes coll db (refused r) full h = h
reply-has P nodes coll db (answered r) full h = h
reply-has P nodes coll db (done r x) full h = reply_if P (nat_lt nodes (nodes_in (with_collection coll x db))) r db (with_collection coll x db) full h

-- a fact of every reply in an option
abbrev pub Each : (Reply → Type 0) → Option Reply → Type 0
Each P None = Unit {0}
Each P (Some r) = P r

pub unless-has : (P : Reply → Type 0) (o : Option Reply) (x : Outcome) → Each P o → ReplyHas P x → ReplyHas P (unless o x)
unless-has P None x h p = p
unless-has P (Some r) x h p = h
