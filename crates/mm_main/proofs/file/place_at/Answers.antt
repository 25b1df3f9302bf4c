use Rattle.std.proofs.Common.{refl, arith}
use Rattle.std.specs.Int.{w32}
use Rattle.std.proofs.lemmas.Int.{to_z_pos}
use Rattle.mm_main.proofs.FrameSteps.{place_is_at}
use Rattle.mm_main.proofs.file.place_at.Goals as goal

pub returns : goal.returns
returns c = place_is_at _ c.args.ofs _ refl refl (to_z_pos w32 c.args.ofs (omega arith))
