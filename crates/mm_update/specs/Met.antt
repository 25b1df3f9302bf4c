-- What a meeting in memory stands for.
use Rattle.mm_bson.specs.View.{tree}
use Rattle.mm_update.specs.declared.long.Meeting.{Meeting}
use Rattle.mm_update.specs.declared.long.Meeting.TheVariants.{Absent, Blocked, Present}
use Rattle.mm_update.specs.Meeting.{Meeting as Met, absent, blocked, present}

abbrev pub seen : Meeting → Met
seen (Absent k) = absent k
seen Blocked = blocked
seen (Present name value) = present name.now (tree value.now)
