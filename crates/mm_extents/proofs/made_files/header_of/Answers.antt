use Rattle.std.proofs.Common.{◌-◌}
use Rattle.mm_extents.proofs.made_files.header_of.Goals as goal

pub returns : goal.returns
returns c = λ i. record { version = 4; version_minor = 5; file_length = c.file_len-len.ensures.is i; unused = c.place.ensures i; unused_length = c.file_len-len.ensures.is i - c.args.unused }
