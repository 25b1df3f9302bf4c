use Rattle.mm_outside.specs.Told.{image_of}
use Rattle.mm_recover.proofs.LsnRead.{same_mark}
use Rattle.mm_recover.proofs.log.read_lsn.Goals as goal

pub returns-clause-lsn : goal.returns-clause-lsn
returns-clause-lsn g c = λ t is. same_mark (image_of t) c.in_ok-lsn.lsn c.as_read.result c.as_read.ensures.same c.as_read.ensures.fits (c.in_ok-lsn.ensures.mark t is) (c.in_ok-lsn.ensures.bytes t is)
