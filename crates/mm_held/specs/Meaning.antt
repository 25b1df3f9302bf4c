-- What the calls of a database's engine mean: relations between the image of its files and the database that it stands for.
use Rattle.std.specs.Prelude.{ℕ, List}
use Rattle.mm_ranges.specs.Overlay.{Image}
use Rattle.mm_model.specs.Database.{Database}
use Rattle.mm_model.specs.declared.command.Command.{Command}
use Rattle.mm_model.specs.declared.reply.Reply.{Reply}
use Rattle.mm_model.specs.declared.finding.Finding.{Finding}

-- a database with its name and with the number of nodes of its `.ns` file
pub record Stored : Type 0 where
  pub name : List ℕ
  pub nodes : ℕ
  pub content : Database

pub record Meaning : Type 1 where
  -- the image stands for the database
  pub stands : Image → Stored → Type 0
  -- the reply and the new database that follow a command. A refusal keeps the database.
  pub after : Stored → Command → Reply × Stored
  -- what the draft of a command that is carried out on the image may weigh
  pub may_weigh : Image → Command → ℕ → Type 0
  -- the command may find no space on the image
  pub may_lack : Image → Command → Type 0
  -- in the draft of a command that found no space there is no fit for what it asked: the image before, the command, and the draft's image
  pub lacks : Image → Command → Image → Type 0
  -- how much room the image has
  pub room : Image → ℕ
  -- what is first found wrong with an image that stands for no database
  pub finds : Image → Finding → Type 0
