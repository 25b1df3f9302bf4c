use Rattle.std.proofs.Common.{arith}
use Rattle.std.specs.Int.{w32}
use Rattle.std.proofs.lemmas.Int.{to_z_pos}
use Rattle.mm_extents.proofs.Spots.{place_is}
use Rattle.mm_extents.proofs.places.place.Goals as goal

pub returns : goal.returns
returns c = place_is _ c.args.at.file c.args.at.ofs (to_z_pos w32 c.args.at.file (let r = c.requires.file in omega (arith, r))) (to_z_pos w32 c.args.at.ofs c.requires.ofs)
