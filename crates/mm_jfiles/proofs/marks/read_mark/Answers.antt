use Rattle.std.proofs.Common.{ℕ, ◌<◌, List, get_or, subst}
use Rattle.mm_outside.specs.Image.{bytes_at}
use Rattle.mm_outside.specs.Told.{image_of}
use Rattle.mm_jfiles.specs.Marks.{HasMark}
use Rattle.mm_jfiles.proofs.MarkRead.{mark_read, bytes_read}
use Rattle.mm_jfiles.proofs.marks.read_mark.Goals as goal

pub returns-clause-mark : goal.returns-clause-mark
returns-clause-mark g c = λ t is.
    subst (λ (name : List ℕ). HasMark (bytes_at (image_of t) name) c.lsn_of.result) c.lsn_name.ensures
    (mark_read (bytes_at (image_of t) c.lsn_name.result.now) c.read_at.new.out _ c.in_ok-len.len c.lsn_of.result (c.in_ok-len.ensures.filled t is) (c.in_ok-len.ensures.bytes t is) c.lsn_of.ensures.some c.lsn_of.ensures.none)

pub returns-clause-bytes : goal.returns-clause-bytes
returns-clause-bytes g c = λ t is i lt.
    subst (λ (name : List ℕ). get_or (bytes_at (image_of t) name) i 0 < 256) c.lsn_name.ensures
    (bytes_read (bytes_at (image_of t) c.lsn_name.result.now) c.read_at.new.out _ c.in_ok-len.len (c.in_ok-len.ensures.filled t is) (c.in_ok-len.ensures.bytes t is) c.lsn_of.ensures.bytes i lt)
