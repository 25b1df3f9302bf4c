use Rattle.std.proofs.Common.{◌≡◌, Some, None}
use Rattle.mm_extents.proofs.places.spot_of.Goals as goal

pub named_spot-requires : goal.named_spot-requires
named_spot-requires c = (Some c.requires.0, (c.requires.1.0, c.requires.1.1))

pub unreachable-requires : goal.unreachable-requires
unreachable-requires c = let no : Some c.requires.0 ≡ None = c.in-None.ensures.none (Some c.requires.0) c.requires.1.0 c.requires.1.1 in cc

pub returns : goal.returns
returns c = λ p e low. let same : Some p ≡ Some (c.in-Some.spot.file, c.in-Some.spot.ofs) = c.in-Some.ensures.some (Some p) e low in cc
