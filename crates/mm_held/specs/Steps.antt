-- What one step owes, by its reply.
use Rattle.std.specs.Prelude.{◌≡◌, ℕ, ◌+◌, ◌<◌, ◌≤◌, true, false}
use Rattle.mm_ranges.specs.Overlay.{Image}
use Rattle.mm_views.specs.State.{State, Drafting, weight_in}
use Rattle.mm_model.specs.declared.command.Command.{Command}
use Rattle.mm_model.specs.declared.reply.Reply.{Reply}
use Rattle.mm_model.specs.declared.reply.Reply.TheVariants.{Done, Found, NoSpace, OpTooLarge}
use Rattle.mm_model.specs.declared.finding.CheckFault.{CheckFault}
use Rattle.mm_model.specs.declared.finding.CheckFault.TheVariants.{Found as Finds, NoMemory as NoMemoryThere}
use Rattle.mm_model.specs.Laws.{is_ok}
use Rattle.mm_held.specs.declared.fault.Refused.{Refused}
use Rattle.mm_held.specs.declared.fault.Refused.TheVariants.{GroupFull, NoMemory as NoneLeft}
use Rattle.mm_held.specs.Meaning.{Meaning, Stored}
use Rattle.mm_held.specs.History.{IsReply, moved}

-- ---- what an engine owes

-- The command was carried out in the draft.
pub record IsCarriedOut (m : Meaning) (db : Stored) (c : Command) (old new : Drafting) (r : Reply) : Type 0 where
  pub reply : r ≡ (m.after db c).0
  pub stands : m.stands new.image (m.after db c).1
  pub weight : m.may_weigh old.image c (weight_in new.made new.declared)
  pub room : m.room new.image ≤ m.room old.image

-- The command found no space; the draft is to be dropped.
pub record IsLacking (m : Meaning) (db : Stored) (c : Command) (old new : Drafting) : Type 0 where
  pub done : is_ok (m.after db c).0 ≡ true
  pub cause : m.may_lack old.image c
  pub no_fit : m.lacks old.image c new.image

-- The command is refused, and the database is kept; the draft is to be dropped.
pub record IsRefused (m : Meaning) (db : Stored) (c : Command) (r : Reply) : Type 0 where
  pub reply : r ≡ (m.after db c).0
  pub kept : (m.after db c).1 ≡ db

-- The answer to a command in a draft. An engine doesn't weigh its draft.
abbrev pub IsAnswered : Meaning → Stored → Command → Drafting → Drafting → Reply → Type 0
IsAnswered m db c old new (Done n) = IsCarriedOut m db c old new (Done n)
IsAnswered m db c old new (Found documents) = IsCarriedOut m db c old new (Found documents)
IsAnswered m db c old new NoSpace = IsLacking m db c old new
IsAnswered m db c old new (OpTooLarge weight) = ⊥
IsAnswered m db c old new reply = IsRefused m db c reply

-- An image without files stands for a database, and for each such database the new image stands as well.
pub record IsSetUp (m : Meaning) (old new : Image) : Type 0 where
  pub some : (db : Stored) × m.stands old db
  pub all : (db : Stored) → m.stands old db → m.stands new db

-- What is told of files that aren't accepted: the first finding, where they stand for no database.
abbrev pub IsFound : Meaning → Image → CheckFault → Type 0
IsFound m image (Finds finding) = m.finds image finding × ((db : Stored) → m.stands image db → ⊥)
IsFound m image NoMemoryThere = Unit {0}

-- ---- what a step of a database owes

-- What an Ok opens: the draft's weight is one that the command may have, within a step's limit, and within a group's together with what was opened.
pub record IsOpened (m : Meaning) (c : Command) (old new : State) : Type 0 where
  pub weight : ℕ
  pub cause : m.may_weigh old.private c weight
  pub limit : weight ≤ 67108864
  pub group : weight_in old.made old.opened + weight ≤ 134217728
  pub opened : weight_in new.made new.opened ≤ weight_in old.made old.opened + weight

-- A limit's refusal has its cause on this very image: the command may lack space there, or its draft may have the weight, which is above a step's limit.
abbrev pub IsLimited : Meaning → Image → Command → Reply → Type 0
IsLimited m image c NoSpace = m.may_lack image c
IsLimited m image c (OpTooLarge weight) = (67108864 < weight) × m.may_weigh image c weight
IsLimited m image c reply = Unit {0}

-- The command has this reply, and if it is a limit's, the private image before is the cause; the private image then stands for the database after
-- the command, and its room hasn't risen. The shared image and the closed parts stay. An Ok opens what its draft declared, and a refusal changes
-- nothing at all.
pub record IsStep (m : Meaning) (db : Stored) (c : Command) (old new : State) (r : Reply) : Type 0 where
  pub reply : IsReply m (m.room new.private) db c r
  pub limit : IsLimited m old.private c r
  pub stands : m.stands new.private (moved m db c r)
  pub room : m.room new.private ≤ m.room old.private
  pub shared : new.shared ≡ old.shared
  pub closed : new.closed ≡ old.closed
  pub opened : is_ok r ≡ true → IsOpened m c old new
  pub refused : is_ok r ≡ false → new ≡ old

-- The opened group has no room for the step: the command isn't refused, and what is opened weighs more than 134,217,728 together with the
-- draft, which is within a step's limit.
pub record IsFull (m : Meaning) (db : Stored) (c : Command) (image : Image) (used weight : ℕ) : Type 0 where
  pub done : is_ok (m.after db c).0 ≡ true
  pub draft : ℕ
  pub cause : m.may_weigh image c draft
  pub limit : draft ≤ 67108864
  pub sum : weight ≡ used + draft
  pub full : 134217728 < weight

-- why a step isn't taken
abbrev pub IsCause : Meaning → Stored → Command → Image → ℕ → Refused → Type 0
IsCause m db c image used (GroupFull weight) = IsFull m db c image used weight
IsCause m db c image used NoneLeft = Unit {0}
