use Rattle.std.proofs.Common.{inr, refl, [], ◌∷◌}
use Rattle.mm_outside.specs.Told.{Creates, Writes, Syncs}
use Rattle.mm_outside.specs.Ask.{Ask}
use Rattle.mm_outside.proofs.Cuts.{cut_one}
use Rattle.mm_main.proofs.disk.write_file.Goals as goal

pub returns-in_err-create-clause-some : goal.returns-in_err-create-clause-some
returns-in_err-create-clause-some g c = λ t is.
    let first : Ask = record { name = c.args.name.now; change = Creates } in
    let second : Ask = record { name = c.args.name.now; change = Writes 0 c.args.bytes.now } in
    let third : Ask = record { name = c.args.name.now; change = Syncs } in
    (_, c.create.ensures.told.tells t is, cut_one first (second ∷ third ∷ []) c.create.result t)

pub returns-in_err-write_at-clause-some : goal.returns-in_err-write_at-clause-some
returns-in_err-write_at-clause-some g c = λ t is.
    let second : Ask = record { name = c.args.name.now; change = Writes 0 c.args.bytes.now } in
    let third : Ask = record { name = c.args.name.now; change = Syncs } in
    (_, c.write_at.ensures.told.tells _ (c.in_ok-create.ensures.told.tells t is), inr (inr (cut_one second (third ∷ []) c.write_at.result _)))

pub returns-in_err-sync-clause-some : goal.returns-in_err-sync-clause-some
returns-in_err-sync-clause-some g c = λ t is.
    let third : Ask = record { name = c.args.name.now; change = Syncs } in
    (_, c.sync.ensures.told.tells _ (c.in_ok-write_at.ensures.told.tells _ (c.in_ok-create.ensures.told.tells t is)), inr (inr (inr (inr (cut_one third [] c.sync.result _)))))

pub returns-clause-some : goal.returns-clause-some
returns-clause-some g c = λ t is.
    (_, c.in_ok-sync.ensures.told.tells _ (c.in_ok-write_at.ensures.told.tells _ (c.in_ok-create.ensures.told.tells t is)), inr (inr (inr (inr (inr (inr refl))))))
