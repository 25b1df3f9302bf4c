use Rattle.std.proofs.Common.{◌∷◌, [], ◌^◌, refl, ◌∙◌, arith}
use Rattle.mm_bson.specs.Spelling.{array_spelling, values_spelling}
use Rattle.mm_bson.proofs.Building.{array_spelling_len}
use Rattle.mm_update.specs.Drafted.{values_at}
use Rattle.mm_update.proofs.Frames.{ended, ended_room, ended_short, framed_put}
use Rattle.mm_update.proofs.write.put_array.Goals as goal

pub put_items-requires : goal.put_items-requires
put_items-requires c = omega (arith, c.requires, array_spelling_len (values_at c.args.values.now))

pub seal-requires-clause-room : goal.seal-requires-clause-room
seal-requires-clause-room c =
    let inner = values_spelling 0 (values_at c.args.values.now) in
    let is = ended c.args.out.now.items (0 ∷ 0 ∷ 0 ∷ 0 ∷ []) inner c.put.new.out.items c.put_items.new.out.items c.put-2.new.out.items c.in_ok-put.ensures c.in_ok-put_items.ensures.items c.in_ok-put-2.ensures in
    ended_room c.args.out.now.items (0 ∷ 0 ∷ 0 ∷ 0 ∷ []) inner c.put-2.new.out.items c.filled-start.result is refl c.filled-start.ensures

pub seal-requires-clause-short : goal.seal-requires-clause-short
seal-requires-clause-short c =
    let inner = values_spelling 0 (values_at c.args.values.now) in
    let is = ended c.args.out.now.items (0 ∷ 0 ∷ 0 ∷ 0 ∷ []) inner c.put.new.out.items c.put_items.new.out.items c.put-2.new.out.items c.in_ok-put.ensures c.in_ok-put_items.ensures.items c.in_ok-put-2.ensures in
    ended_short c.args.out.now.items (0 ∷ 0 ∷ 0 ∷ 0 ∷ []) inner c.put-2.new.out.items c.filled-start.result (2 ^ 31) is refl c.filled-start.ensures (omega (arith, c.requires, array_spelling_len (values_at c.args.values.now)))

pub returns-clause-items : goal.returns-clause-items
unfolding array_spelling
returns-clause-items c =
    let inner = values_spelling 0 (values_at c.args.values.now) in
    let is = ended c.args.out.now.items (0 ∷ 0 ∷ 0 ∷ 0 ∷ []) inner c.put.new.out.items c.put_items.new.out.items c.put-2.new.out.items c.in_ok-put.ensures c.in_ok-put_items.ensures.items c.in_ok-put-2.ensures in
    c.seal.ensures ∙ framed_put c.args.out.now.items (0 ∷ 0 ∷ 0 ∷ 0 ∷ []) inner c.put-2.new.out.items c.filled-start.result is refl c.filled-start.ensures
