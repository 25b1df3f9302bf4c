use Rattle.mm_durable.specs.Durable.{items_of}
use Rattle.mm_durable.proofs.Standing.{standing}
use Rattle.mm_durable.proofs.laws.files_read_flushed_items.Goals as goal

pub returns : goal.returns
returns g c = λ t u story history k. standing c.args.durable.now.log c.requires.sound (items_of c.args.durable.now) t u story history k
