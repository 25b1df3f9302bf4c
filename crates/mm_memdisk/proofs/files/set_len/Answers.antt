use Rattle.std.proofs.Common.{◌≡◌, Some, rules}
use Rattle.std.specs.BTreeMap.{get_by_text}
use Rattle.std.proofs.lemmas.Result.{on_ok_weaker, on_err_weaker}
use Rattle.mm_bytes.specs.Files.{resized}
use Rattle.mm_memdisk.proofs.Updates.{rewritten, kept}
use Rattle.mm_memdisk.proofs.files.set_len.Goals as goal

pub returns-in-Some-clause-ok : goal.returns-in-Some-clause-ok
returns-in-Some-clause-ok c =
    let there : get_by_text c.args.files.now c.args.name.now ≡ Some c.in-Some.file.now = search rules in
    let updates = (c.get_mut.follows.holds c.resize.new.file).3 (search rules) in
    on_ok_weaker c.resize.result (rewritten c.args.files.now (c.get_mut.follows.lender c.resize.new.file) c.args.name.now c.in-Some.file.now c.resize.new.file (resized c.args.len) updates there) c.resize.ensures.ok

pub returns-in-Some-clause-err : goal.returns-in-Some-clause-err
returns-in-Some-clause-err c =
    let there : get_by_text c.args.files.now c.args.name.now ≡ Some c.in-Some.file.now = search rules in
    let updates = (c.get_mut.follows.holds c.resize.new.file).3 (search rules) in
    on_err_weaker c.resize.result (kept c.args.files.now (c.get_mut.follows.lender c.resize.new.file) c.args.name.now c.in-Some.file.now c.resize.new.file updates there) c.resize.ensures.err
