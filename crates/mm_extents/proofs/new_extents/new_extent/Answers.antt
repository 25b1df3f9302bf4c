use Rattle.std.proofs.Common.{◌*◌}
use Rattle.std.proofs.lemmas.Result.{on_ok_weaker}
use Rattle.mm_extents.proofs.RoomFalls.{lowers_none}
use Rattle.mm_extents.proofs.NewExtents.{not_shorter, holds_of, holds_anyway}
use Rattle.mm_extents.proofs.new_extents.new_extent.Goals as goal

pub reuse_new-requires : goal.reuse_new-requires
reuse_new-requires c = let s = c.requires.stands in (s.0, (s.1.0, (s.1.1.0, (s.1.1.1, c.in-Some.ensures.some s.0 s.1.0 s.1.1.0 s.1.1.1))))

pub cut_new-requires-clause-stands : goal.cut_new-requires-clause-stands
cut_new-requires-clause-stands c = let s = c.requires.stands in (s.0, (s.1.0, (s.1.1.0, (c.args.free.now, s.1.1.1))))

pub returns-in-Some-clause-ok : goal.returns-in-Some-clause-ok
returns-in-Some-clause-ok c = holds_of c.reuse_new.result c.reuse_new.ensures.ok (λ e a db heap chain f isnt. a db heap chain f (c.in-Some.ensures.some db heap chain f) isnt)

pub returns-in-Some-clause-space : goal.returns-in-Some-clause-space
returns-in-Some-clause-space c = holds_anyway c.reuse_new.result (λ e db heap chain f no. not_shorter c.args.draft.now.image db heap chain c.args.free.now c.args.len (c.in-Some.at.file, c.in-Some.at.ofs) f (c.in-Some.ensures.some db heap chain f) no.short)

pub returns-in-None-clause-ok : goal.returns-in-None-clause-ok
returns-in-None-clause-ok c = holds_of c.cut_new.result c.cut_new.ensures.ok (λ e a db heap chain f isnt. a db heap chain c.args.free.now f (c.in-None.ensures.none db heap chain f) isnt)

pub returns-in-None-clause-full : goal.returns-in-None-clause-full
returns-in-None-clause-full c = λ e db heap chain f. record { short = c.in-None.ensures.none db heap chain f; no_rest = c.cut_new.ensures.full e }

pub returns-in-Some-clause-room : goal.returns-in-Some-clause-room
returns-in-Some-clause-room c = on_ok_weaker c.reuse_new.result (λ e. lowers_none c.args.draft.now.image c.reuse_new.«new».draft.image (4 * c.args.len) e) c.reuse_new.ensures.room

pub returns-in-Some-clause-left : goal.returns-in-Some-clause-left
returns-in-Some-clause-left c = λ e. absurd (c.reuse_new.ensures.memory e)

pub returns-in-None-clause-left : goal.returns-in-None-clause-left
returns-in-None-clause-left c = c.cut_new.ensures.left
