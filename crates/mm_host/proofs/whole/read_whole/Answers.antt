use Rattle.std.proofs.Common.{◌≡◌, ℕ, ◌-◌, arith, rules, length, subst, length-append, length-take-le}
use Rattle.std.specs.Io.KnownBytes.{Consumes}
use Rattle.std.proofs.KnownBytes.{Consumes-trans}
use Rattle.mm_host.proofs.Parts.{put_mid-rest, take-put_mid-rest}
use Rattle.mm_host.proofs.whole.read_whole.Goals as goal

pub loop-filled-preserved : goal.loop-filled-preserved
loop-filled-preserved g c =
    let within = c.loop-filled.invariant.1 in
    let fits : length c.read.new.buf ≡ length c.loop-filled.out - c.loop-filled.filled = search rules in
    let whole = put_mid-rest c.loop-filled.filled c.loop-filled.out c.read.new.buf within fits in
    let consumed = Consumes-trans _ _ _ _ _ c.loop-filled.invariant.2 c.in_ok-n.ensures.bytes.0 in
    (search rules, rw whole (omega (arith, length-append {A = ℕ}, length-take-le c.loop-filled.filled c.loop-filled.out within, c.in_ok-n.ensures.bound.0)), subst (Consumes _ _) (take-put_mid-rest c.loop-filled.filled c.in_ok-n.n c.loop-filled.out c.read.new.buf within fits) consumed)
