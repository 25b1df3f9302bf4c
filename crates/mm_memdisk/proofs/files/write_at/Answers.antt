use Rattle.std.proofs.Common.{◌≡◌, Some, rules}
use Rattle.std.specs.BTreeMap.{get_by_text}
use Rattle.std.proofs.lemmas.Result.{on_ok_weaker, on_err_weaker}
use Rattle.mm_bytes.specs.Files.{overwritten}
use Rattle.mm_memdisk.proofs.Updates.{rewritten, kept}
use Rattle.mm_memdisk.proofs.files.write_at.Goals as goal

pub returns-in-Some-clause-ok : goal.returns-in-Some-clause-ok
returns-in-Some-clause-ok c =
    let there : get_by_text c.args.files.now c.args.name.now ≡ Some c.in-Some.file.now = search rules in
    let updates = (c.get_mut.follows.holds c.overwrite.new.file).3 (search rules) in
    on_ok_weaker c.overwrite.result (rewritten c.args.files.now (c.get_mut.follows.lender c.overwrite.new.file) c.args.name.now c.in-Some.file.now c.overwrite.new.file (overwritten c.args.at c.args.bytes.now) updates there) c.overwrite.ensures.ok

pub returns-in-Some-clause-err : goal.returns-in-Some-clause-err
returns-in-Some-clause-err c =
    let there : get_by_text c.args.files.now c.args.name.now ≡ Some c.in-Some.file.now = search rules in
    let updates = (c.get_mut.follows.holds c.overwrite.new.file).3 (search rules) in
    on_err_weaker c.overwrite.result (kept c.args.files.now (c.get_mut.follows.lender c.overwrite.new.file) c.args.name.now c.in-Some.file.now c.overwrite.new.file updates there) c.overwrite.ensures.err
