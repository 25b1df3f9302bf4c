use Rattle.std.proofs.Common.{ℕ, List, ◌∙◌, subst}
use Rattle.mm_outside.specs.Ask.{MakesSome}
use Rattle.mm_crash.specs.Overlay as overlay
use Rattle.mm_crash.specs.Asks.{act_asks}
use Rattle.mm_journal.specs.Real.{disk_name}
use Rattle.mm_jfiles.proofs.Asking.{some_before}
use Rattle.mm_recover.proofs.laying.lay_one_made.Goals as goal

pub returns-in_err-file-clause-cut : goal.returns-in_err-file-clause-cut
returns-in_err-file-clause-cut g c = some_before (act_asks (disk_name c.args.name.now c.args.made.file) (overlay.Makes c.args.made.len)) (g.D.Disk.told c.args.disk.now)

pub returns-clause-cut : goal.returns-clause-cut
returns-clause-cut g c = subst (λ (n : List ℕ). MakesSome (act_asks n (overlay.Makes c.args.made.len)) (g.D.Disk.told c.args.disk.now) (g.D.Disk.told c.make_file.new.disk)) (c.deref.ensures ∙ c.in_ok-file.ensures) c.make_file.ensures.cut
