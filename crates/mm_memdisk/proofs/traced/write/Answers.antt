use Rattle.mm_memdisk.proofs.Steps.{wrote_some}
use Rattle.mm_memdisk.proofs.traced.write.Goals as goal

pub returns : goal.returns
returns c =
    wrote_some c.args.at c.args.bytes.now c.args.is_done c.args.old c.in-Some.contents c.in_ok-contents.contents c.in_ok-pending.pending c.in-Some.is c.in_ok-contents.ensures.read c.in_ok-contents.ensures.synced c.in_ok-contents.ensures.written c.in_ok-pending.ensures
