-- What becomes of the draft of one command.
use Rattle.std.specs.Prelude.{◌≡◌, ℕ, ◌+◌, ◌<◌, ◌≤◌, true, false}
use Rattle.mm_views.specs.State.{Drafting, weight_in}
use Rattle.mm_model.specs.declared.command.Command.{Command}
use Rattle.mm_model.specs.declared.reply.Reply.{Reply}
use Rattle.mm_model.specs.declared.reply.Reply.TheVariants.{OpTooLarge}
use Rattle.mm_model.specs.Laws.{is_ok}
use Rattle.mm_held.specs.declared.attempt.Answer.{Answer}
use Rattle.mm_held.specs.declared.attempt.Fate.{Fate}
use Rattle.mm_held.specs.declared.attempt.Fate.TheVariants.{Adopted, GivenUp}
use Rattle.mm_held.specs.declared.fault.Refused.{Refused}
use Rattle.mm_held.specs.declared.fault.Refused.TheVariants.{GroupFull, NoMemory as NoneLeft}
use Rattle.mm_held.specs.Meaning.{Meaning, Stored}
use Rattle.mm_held.specs.History.{IsReply, moved}
use Rattle.mm_held.specs.Steps.{IsCarriedOut, IsLimited}

abbrev pub weight_of : Drafting → ℕ
weight_of d = weight_in d.made d.declared

-- the same draft, whether or not it is reserved
pub record AreSame (old new : Drafting) : Type 0 where
  pub views : new.views ≡ old.views
  pub image : new.image ≡ old.image
  pub made : new.made ≡ old.made
  pub declared : new.declared ≡ old.declared

-- a draft that is to be adopted is reserved, and has room in the group and in a step
pub record IsReady (used : ℕ) (d : Drafting) : Type 0 where
  pub reserved : d.is_reserved ≡ true
  pub step : weight_of d ≤ 67108864
  pub group : used + weight_of d ≤ 134217728

abbrev pub IsReadyFor : ℕ → Drafting → Fate → Type 0
IsReadyFor used d (Adopted answer) = IsReady used d
IsReadyFor used d (GivenUp answer) = Unit {0}

pub record IsTwice (answer : Answer) (r : Reply) : Type 0 where
  pub reply : answer.reply ≡ r
  pub kept : answer.kept ≡ r

-- a draft in which a command was carried out is adopted with its reply, or given up for its weight
abbrev pub IsWeighed : Drafting → Reply → Fate → Type 0
IsWeighed d reply (Adopted answer) = IsTwice answer reply
IsWeighed d reply (GivenUp answer) = IsTwice answer (OpTooLarge (weight_of d)) × (67108864 < weight_of d)

-- or the group has no room for it
abbrev pub IsTooMuch : ℕ → Drafting → Refused → Type 0
IsTooMuch used d (GroupFull weight) = (weight ≡ used + weight_of d) × (weight_of d ≤ 67108864) × (134217728 < weight)
IsTooMuch used d NoneLeft = Unit {0}

-- what the fate of a draft owes to the history
pub record IsAdoptedFor (m : Meaning) (db : Stored) (c : Command) (old new : Drafting) (answer : Answer) : Type 0 where
  pub twice : answer.kept ≡ answer.reply
  pub done : is_ok answer.reply ≡ true
  pub limit : IsLimited m old.image c answer.reply
  pub carried : IsCarriedOut m db c old new answer.reply

pub record IsGivenUpFor (m : Meaning) (db : Stored) (c : Command) (old : Drafting) (answer : Answer) : Type 0 where
  pub twice : answer.kept ≡ answer.reply
  pub refused : is_ok answer.reply ≡ false
  pub reply : IsReply m (m.room old.image) db c answer.reply
  pub limit : IsLimited m old.image c answer.reply
  pub kept : moved m db c answer.reply ≡ db

abbrev pub IsFate : Meaning → Stored → Command → Drafting → Drafting → Fate → Type 0
IsFate m db c old new (Adopted answer) = IsAdoptedFor m db c old new answer
IsFate m db c old new (GivenUp answer) = IsGivenUpFor m db c old answer
