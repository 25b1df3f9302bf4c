-- Folds of longer logs.
use Rattle.std.proofs.Common.{◌≡◌, ℕ, ◌≤◌, List, [], ◌∷◌, ◌++◌, refl, arith}
use Rattle.mm_model.specs.declared.action.Entry.{Entry}
use Rattle.mm_model.specs.declared.command.Command.{Command}
use Rattle.mm_model.specs.declared.reply.Reply.{Reply}
use Rattle.mm_model.specs.declared.reply.Reply.TheVariants.{Done, Found, DocTooLarge, DocTooDeep, IdArray, BadOperator, BadChange, ChangesId, NotNumber, IncOverflow, NoCollection, NoIndex, IdIndex, IndexDiffers, TooManyIndexes, ArrayKey, KeyTooLong, Duplicate, NsFull, NoSpace, OpTooLarge}
use Rattle.mm_held.specs.Meaning.{Meaning, Stored}
use Rattle.mm_held.specs.History.{fold, moved, IsReply, AreReplies}

pub fold_push : (m : Meaning) (db : Stored) (log : List Entry) (e : Entry) → fold m db (log ++ e ∷ []) ≡ moved m (fold m db log) e.command e.reply
fold_push m db [] e = refl
fold_push m db (x ∷ log) e = fold_push m (moved m db x.command x.reply) log e

pub replies_push : (m : Meaning) (room : ℕ) (db : Stored) (log : List Entry) (e : Entry) → AreReplies m room db log → IsReply m room (fold m db log) e.command e.reply → AreReplies m room db (log ++ e ∷ [])
replies_push m room db [] e old new = (new, tt)
replies_push m room db (x ∷ log) e old new = (old.0, replies_push m room (moved m db x.command x.reply) log e old.1 new)

-- What holds with more room holds with less.
less_room : (m : Meaning) (more room : ℕ) (db : Stored) (c : Command) (r : Reply) → room ≤ more → IsReply m more db c r → IsReply m room db c r
less_room m more room db c (Done n) less h = h
less_room m more room db c (Found ds) less h = h
less_room m more room db c (DocTooLarge len) less h = h
less_room m more room db c DocTooDeep less h = h
less_room m more room db c IdArray less h = h
less_room m more room db c (BadOperator name) less h = h
less_room m more room db c (BadChange name) less h = h
less_room m more room db c ChangesId less h = h
less_room m more room db c (NotNumber path) less h = h
less_room m more room db c (IncOverflow path) less h = h
less_room m more room db c (NoCollection name) less h = h
less_room m more room db c (NoIndex name) less h = h
less_room m more room db c IdIndex less h = h
less_room m more room db c (IndexDiffers name) less h = h
less_room m more room db c TooManyIndexes less h = h
less_room m more room db c (ArrayKey index) less h = h
less_room m more room db c (KeyTooLong index len) less h = h
less_room m more room db c (Duplicate index key) less h = h
less_room m more room db c NsFull less h = h
less_room m more room db c NoSpace less h = record { image = h.image; stands = h.stands; room = omega (arith, less, h.room); done = h.done; cause = h.cause }
less_room m more room db c (OpTooLarge weight) less h = (h.0, record { image = h.1.image; stands = h.1.stands; room = omega (arith, less, h.1.room); done = h.1.done; cause = h.1.cause })

pub replies_later : (m : Meaning) (more room : ℕ) (db : Stored) (log : List Entry) → room ≤ more → AreReplies m more db log → AreReplies m room db log
replies_later m more room db [] less all = tt
replies_later m more room db (x ∷ log) less all = (less_room m more room db x.command x.reply less all.0, replies_later m more room (moved m db x.command x.reply) log less all.1)
