-- What an engine's answer is to the history, by its reply.
use Rattle.std.proofs.Common.{◌≡◌, ℕ, true, false, refl, arith}
use Rattle.mm_views.specs.State.{Drafting}
use Rattle.mm_model.specs.declared.command.Command.{Command}
use Rattle.mm_model.specs.declared.reply.Reply.{Reply}
use Rattle.mm_model.specs.declared.reply.Reply.TheVariants.{Done, Found, DocTooLarge, DocTooDeep, IdArray, BadOperator, BadChange, ChangesId, NotNumber, IncOverflow, NoCollection, NoIndex, IdIndex, IndexDiffers, TooManyIndexes, ArrayKey, KeyTooLong, Duplicate, NsFull, NoSpace, OpTooLarge}
use Rattle.mm_model.specs.Laws.{is_ok}
use Rattle.mm_held.specs.Meaning.{Meaning, Stored}
use Rattle.mm_held.specs.History.{IsReply, moved}
use Rattle.mm_held.specs.Steps.{IsCarriedOut, IsAnswered, IsLimited}

module _ (m : Meaning) (db : Stored) (c : Command) (old new : Drafting) where
  -- An Ok was carried out.
  pub carried_out : (r : Reply) → is_ok r ≡ true → IsAnswered m db c old new r → IsCarriedOut m db c old new r
  carried_out (Done n) is a = a
  carried_out (Found ds) is a = a
  carried_out (DocTooLarge len) is a = absurd cc
  carried_out DocTooDeep is a = absurd cc
  carried_out IdArray is a = absurd cc
  carried_out (BadOperator name) is a = absurd cc
  carried_out (BadChange name) is a = absurd cc
  carried_out ChangesId is a = absurd cc
  carried_out (NotNumber path) is a = absurd cc
  carried_out (IncOverflow path) is a = absurd cc
  carried_out (NoCollection name) is a = absurd cc
  carried_out (NoIndex name) is a = absurd cc
  carried_out IdIndex is a = absurd cc
  carried_out (IndexDiffers name) is a = absurd cc
  carried_out TooManyIndexes is a = absurd cc
  carried_out (ArrayKey index) is a = absurd cc
  carried_out (KeyTooLong index len) is a = absurd cc
  carried_out (Duplicate index key) is a = absurd cc
  carried_out NsFull is a = absurd cc
  carried_out NoSpace is a = absurd cc
  carried_out (OpTooLarge weight) is a = absurd cc

  -- Any other answer is a reply to the command that keeps the database.
  pub replied : (r : Reply) → is_ok r ≡ false → m.stands old.image db → IsAnswered m db c old new r → IsReply m (m.room old.image) db c r
  replied (Done n) is stands a = absurd cc
  replied (Found ds) is stands a = absurd cc
  replied (DocTooLarge len) is stands a = a.reply
  replied DocTooDeep is stands a = a.reply
  replied IdArray is stands a = a.reply
  replied (BadOperator name) is stands a = a.reply
  replied (BadChange name) is stands a = a.reply
  replied ChangesId is stands a = a.reply
  replied (NotNumber path) is stands a = a.reply
  replied (IncOverflow path) is stands a = a.reply
  replied (NoCollection name) is stands a = a.reply
  replied (NoIndex name) is stands a = a.reply
  replied IdIndex is stands a = a.reply
  replied (IndexDiffers name) is stands a = a.reply
  replied TooManyIndexes is stands a = a.reply
  replied (ArrayKey index) is stands a = a.reply
  replied (KeyTooLong index len) is stands a = a.reply
  replied (Duplicate index key) is stands a = a.reply
  replied NsFull is stands a = a.reply
  replied NoSpace is stands a = record { image = old.image; stands = stands; room = omega arith; done = a.done; cause = a.cause }
  replied (OpTooLarge weight) is stands a = absurd a

  -- A limit's refusal has its cause on the draft's image before.
  pub limited : (r : Reply) → IsAnswered m db c old new r → IsLimited m old.image c r
  limited (Done n) a = tt
  limited (Found ds) a = tt
  limited (DocTooLarge len) a = tt
  limited DocTooDeep a = tt
  limited IdArray a = tt
  limited (BadOperator name) a = tt
  limited (BadChange name) a = tt
  limited ChangesId a = tt
  limited (NotNumber path) a = tt
  limited (IncOverflow path) a = tt
  limited (NoCollection name) a = tt
  limited (NoIndex name) a = tt
  limited IdIndex a = tt
  limited (IndexDiffers name) a = tt
  limited TooManyIndexes a = tt
  limited (ArrayKey index) a = tt
  limited (KeyTooLong index len) a = tt
  limited (Duplicate index key) a = tt
  limited NsFull a = tt
  limited NoSpace a = a.cause
  limited (OpTooLarge weight) a = absurd a

  pub kept : (r : Reply) → is_ok r ≡ false → IsAnswered m db c old new r → moved m db c r ≡ db
  kept (Done n) is a = absurd cc
  kept (Found ds) is a = absurd cc
  kept (DocTooLarge len) is a = a.kept
  kept DocTooDeep is a = a.kept
  kept IdArray is a = a.kept
  kept (BadOperator name) is a = a.kept
  kept (BadChange name) is a = a.kept
  kept ChangesId is a = a.kept
  kept (NotNumber path) is a = a.kept
  kept (IncOverflow path) is a = a.kept
  kept (NoCollection name) is a = a.kept
  kept (NoIndex name) is a = a.kept
  kept IdIndex is a = a.kept
  kept (IndexDiffers name) is a = a.kept
  kept TooManyIndexes is a = a.kept
  kept (ArrayKey index) is a = a.kept
  kept (KeyTooLong index len) is a = a.kept
  kept (Duplicate index key) is a = a.kept
  kept NsFull is a = a.kept
  kept NoSpace is a = refl
  kept (OpTooLarge weight) is a = absurd a

-- An Ok is what follows the command, and moves the database there.
pub ok_reply : (m : Meaning) (room : ℕ) (db : Stored) (c : Command) (r : Reply) → is_ok r ≡ true → r ≡ (m.after db c).0 → IsReply m room db c r
ok_reply m room db c (Done n) is e = e
ok_reply m room db c (Found ds) is e = e
ok_reply m room db c (DocTooLarge len) is e = absurd cc
ok_reply m room db c DocTooDeep is e = absurd cc
ok_reply m room db c IdArray is e = absurd cc
ok_reply m room db c (BadOperator name) is e = absurd cc
ok_reply m room db c (BadChange name) is e = absurd cc
ok_reply m room db c ChangesId is e = absurd cc
ok_reply m room db c (NotNumber path) is e = absurd cc
ok_reply m room db c (IncOverflow path) is e = absurd cc
ok_reply m room db c (NoCollection name) is e = absurd cc
ok_reply m room db c (NoIndex name) is e = absurd cc
ok_reply m room db c IdIndex is e = absurd cc
ok_reply m room db c (IndexDiffers name) is e = absurd cc
ok_reply m room db c TooManyIndexes is e = absurd cc
ok_reply m room db c (ArrayKey index) is e = absurd cc
ok_reply m room db c (KeyTooLong index len) is e = absurd cc
ok_reply m room db c (Duplicate index key) is e = absurd cc
ok_reply m room db c NsFull is e = absurd cc
ok_reply m room db c NoSpace is e = absurd cc
ok_reply m room db c (OpTooLarge weight) is e = absurd cc

pub ok_moved : (m : Meaning) (db : Stored) (c : Command) (r : Reply) → is_ok r ≡ true → moved m db c r ≡ (m.after db c).1
ok_moved m db c (Done n) is = refl
ok_moved m db c (Found ds) is = refl
ok_moved m db c (DocTooLarge len) is = absurd cc
ok_moved m db c DocTooDeep is = absurd cc
ok_moved m db c IdArray is = absurd cc
ok_moved m db c (BadOperator name) is = absurd cc
ok_moved m db c (BadChange name) is = absurd cc
ok_moved m db c ChangesId is = absurd cc
ok_moved m db c (NotNumber path) is = absurd cc
ok_moved m db c (IncOverflow path) is = absurd cc
ok_moved m db c (NoCollection name) is = absurd cc
ok_moved m db c (NoIndex name) is = absurd cc
ok_moved m db c IdIndex is = absurd cc
ok_moved m db c (IndexDiffers name) is = absurd cc
ok_moved m db c TooManyIndexes is = absurd cc
ok_moved m db c (ArrayKey index) is = absurd cc
ok_moved m db c (KeyTooLong index len) is = absurd cc
ok_moved m db c (Duplicate index key) is = absurd cc
ok_moved m db c NsFull is = absurd cc
ok_moved m db c NoSpace is = absurd cc
ok_moved m db c (OpTooLarge weight) is = absurd cc
