use Rattle.std.proofs.Common.{arith}
use Rattle.mm_main.specs.Drafted.{drafted}
use Rattle.mm_main.proofs.MoreSteps.{first_stands, stands_inside, empty_end, some_placed}
use Rattle.mm_main.proofs.file.insert.Goals as goal

pub insert_first-requires-clause-room : goal.insert_first-requires-clause-room
insert_first-requires-clause-room c = omega (arith, c.requires.room, empty_end _ _ _ _ _ c.in-None.is c.requires.stands.1)

pub insert_next-requires-clause-behind : goal.insert_next-requires-clause-behind
insert_next-requires-clause-behind c = (stands_inside _ _ _ _ _ c.requires.stands.1).0

pub insert_next-requires-clause-last : goal.insert_next-requires-clause-last
insert_next-requires-clause-last c = (some_placed _ _ _ _ _ _ c.in-Some.is c.requires.stands.1).low

pub insert_next-requires-clause-apart : goal.insert_next-requires-clause-apart
insert_next-requires-clause-apart c = (some_placed _ _ _ _ _ _ c.in-Some.is c.requires.stands.1).apart

pub insert_next-requires-clause-inside : goal.insert_next-requires-clause-inside
insert_next-requires-clause-inside c = (stands_inside _ _ _ _ _ c.requires.stands.1).1

pub returns-in-None-clause-stands : goal.returns-in-None-clause-stands
returns-in-None-clause-stands c = λ payloads stands. first_stands c.args.collection.now payloads (drafted c.args.draft.now) _ c.args.payload.now _ _ c.insert_first.result c.in-None.is stands c.insert_first.ensures.stands
