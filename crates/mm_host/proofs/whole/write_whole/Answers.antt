use Rattle.std.proofs.Common.{ℕ, arith, length-take, length-drop, subst}
use Rattle.std.specs.Io.KnownBytes.{Appends}
use Rattle.std.proofs.KnownBytes.{Appends-trans}
use Rattle.mm_host.proofs.Parts.{take-take-rest}
use Rattle.mm_host.proofs.whole.write_whole.Goals as goal

pub loop-written-preserved : goal.loop-written-preserved
loop-written-preserved g c =
    let appended = Appends-trans _ _ _ _ _ c.loop-written.invariant.1 c.in_ok-n.ensures.bytes in
    (grind (arith, length-take {A = ℕ}, length-drop {A = ℕ}), subst (Appends _ _) (take-take-rest c.loop-written.written c.in_ok-n.n c.args.bytes.now) appended)
