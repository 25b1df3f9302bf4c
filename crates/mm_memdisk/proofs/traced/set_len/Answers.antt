use Rattle.mm_memdisk.proofs.Steps.{sized_some}
use Rattle.mm_memdisk.proofs.traced.set_len.Goals as goal

pub returns : goal.returns
returns c =
    sized_some c.args.len c.args.is_done c.args.old c.in-Some.contents c.in_ok-contents.contents c.with_len.result c.in-Some.is c.in_ok-contents.ensures.read c.in_ok-contents.ensures.synced c.in_ok-contents.ensures.written c.with_len.ensures
