-- The history of one database, in the words of its engine.
use Rattle.std.specs.Prelude.{◌≡◌, ℕ, ◌<◌, ◌≤◌, true, List, [], ◌∷◌}
use Rattle.mm_ranges.specs.Overlay.{Image}
use Rattle.mm_model.specs.declared.action.Entry.{Entry}
use Rattle.mm_model.specs.declared.command.Command.{Command}
use Rattle.mm_model.specs.declared.reply.Reply.{Reply}
use Rattle.mm_model.specs.declared.reply.Reply.TheVariants.{NoSpace, OpTooLarge}
use Rattle.mm_model.specs.Laws.{is_ok}
use Rattle.mm_held.specs.Meaning.{Meaning, Stored}

-- Why a limit refuses a command on the database: it isn't refused else, and an image of the database with at least this room gives the cause.
pub record IsExcused (m : Meaning) (least : ℕ) (db : Stored) (c : Command) (IsCauseOn : Image → Type 0) : Type 0 where
  pub image : Image
  pub stands : m.stands image db
  pub room : least ≤ m.room image
  pub done : is_ok (m.after db c).0 ≡ true
  pub cause : IsCauseOn image

-- The reply to a command on the database: what follows it, or a limit's refusal with its cause.
abbrev pub IsReply : Meaning → ℕ → Stored → Command → Reply → Type 0
IsReply m room db c NoSpace = IsExcused m room db c (λ image. m.may_lack image c)
IsReply m room db c (OpTooLarge weight) = (67108864 < weight) × IsExcused m room db c (λ image. m.may_weigh image c weight)
IsReply m room db c reply = reply ≡ (m.after db c).0

-- The database after a command with this reply. A limit's refusal keeps it.
abbrev pub moved : Meaning → Stored → Command → Reply → Stored
moved m db c NoSpace = db
moved m db c (OpTooLarge weight) = db
moved m db c reply = (m.after db c).1

-- the database after all these entries
abbrev pub fold : Meaning → Stored → List Entry → Stored
fold m db [] = db
fold m db (e ∷ es) = fold m (moved m db e.command e.reply) es

-- Each entry has the reply to its command on the database after all entries before it.
abbrev pub AreReplies : Meaning → ℕ → Stored → List Entry → Type 0
AreReplies m room db [] = Unit {0}
AreReplies m room db (e ∷ es) = IsReply m room db e.command e.reply × AreReplies m room (moved m db e.command e.reply) es
