use Rattle.mm_memdisk.proofs.Updates.{removed}
use Rattle.mm_memdisk.proofs.files.remove.Goals as goal

pub returns : goal.returns
returns c = removed c.args.files.now c.remove.new.self c.args.name.now c.remove.ensures.updates
