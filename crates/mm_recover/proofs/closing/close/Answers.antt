use Rattle.std.proofs.Common.{ℕ, List, ◌++◌, map, String, string_bytes}
use Rattle.std.specs.declared.alloc.Global.{Global}
use Rattle.std.proofs.lemmas.Result.{on_ok_weaker}
use Rattle.mm_outside.specs.Ask.{Ask}
use Rattle.mm_crash.specs.Asks.{sync_asks, mark_asks, remove_asks}
use Rattle.mm_jfiles.proofs.Asking.{some_then, some_first, made_then}
use Rattle.mm_journal.proofs.Real.{the_format, the_names, marks_so}
use Rattle.mm_recover.proofs.EachAsk.{made_by, some_by}
use Rattle.mm_recover.proofs.closing.close.Goals as goal

abbrev syncs : List (String Global) → List Ask
syncs names = sync_asks (map string_bytes names)

abbrev mark : ℕ → List Ask
mark lsn = mark_asks the_names.lsn the_format.size (the_format.number lsn)

pub returns-in_err-sync_all-clause-cut : goal.returns-in_err-sync_all-clause-cut
returns-in_err-sync_all-clause-cut g c = some_first (syncs c.args.names.now) (mark c.args.lsn ++ remove_asks the_names c.args.numbers.now) _ _ c.sync_all.ensures.cut

pub returns-in_err-write_mark-clause-cut : goal.returns-in_err-write_mark-clause-cut
returns-in_err-write_mark-clause-cut g c = some_then (syncs c.args.names.now) (mark c.args.lsn ++ remove_asks the_names c.args.numbers.now) _ _ _ c.in_ok-sync_all.ensures.made
    (some_first (mark c.args.lsn) (remove_asks the_names c.args.numbers.now) _ _ (some_by _ _ _ _ (marks_so c.args.lsn c.ranges.lsn.fits) c.write_mark.ensures.cut))

pub returns-clause-made : goal.returns-clause-made
returns-clause-made g c = on_ok_weaker c.remove_all.result
    (λ removed. made_then (syncs c.args.names.now) (mark c.args.lsn ++ remove_asks the_names c.args.numbers.now) _ _ _ c.in_ok-sync_all.ensures.made
    (made_then (mark c.args.lsn) (remove_asks the_names c.args.numbers.now) _ _ _ (made_by _ _ _ _ (marks_so c.args.lsn c.ranges.lsn.fits) c.in_ok-write_mark.ensures.made) removed)) c.remove_all.ensures.made

pub returns-clause-cut : goal.returns-clause-cut
returns-clause-cut g c = some_then (syncs c.args.names.now) (mark c.args.lsn ++ remove_asks the_names c.args.numbers.now) _ _ _ c.in_ok-sync_all.ensures.made
    (some_then (mark c.args.lsn) (remove_asks the_names c.args.numbers.now) _ _ _ (made_by _ _ _ _ (marks_so c.args.lsn c.ranges.lsn.fits) c.in_ok-write_mark.ensures.made) c.remove_all.ensures.cut)
