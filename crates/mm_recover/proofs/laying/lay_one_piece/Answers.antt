use Rattle.std.proofs.Common.{ℕ, List, ◌∙◌, subst}
use Rattle.mm_outside.specs.Ask.{MakesSome}
use Rattle.mm_crash.specs.Overlay as overlay
use Rattle.mm_crash.specs.Asks.{act_asks}
use Rattle.mm_journal.specs.Real.{disk_name}
use Rattle.mm_jfiles.proofs.Asking.{some_before}
use Rattle.mm_recover.proofs.laying.lay_one_piece.Goals as goal

pub returns-in_err-file-clause-cut : goal.returns-in_err-file-clause-cut
returns-in_err-file-clause-cut g c = some_before (act_asks (disk_name c.args.name.now c.args.piece.now.file) (overlay.Puts c.args.piece.now.at c.args.piece.now.bytes)) (g.D.Disk.told c.args.disk.now)

pub returns-clause-cut : goal.returns-clause-cut
returns-clause-cut g c =
    let old = g.D.Disk.told c.args.disk.now in
    let new = g.D.Disk.told c.put_bytes.new.disk in
    subst (λ (n : List ℕ). MakesSome (act_asks n (overlay.Puts c.args.piece.now.at c.args.piece.now.bytes)) old new) (c.deref.ensures ∙ c.in_ok-file.ensures)
    (subst (λ (l : List ℕ). MakesSome (act_asks c.deref.result.now (overlay.Puts c.args.piece.now.at l)) old new) c.as_slice.ensures c.put_bytes.ensures.cut)
