use Rattle.std.proofs.Common.{refl}
use Rattle.mm_base.specs.Places.{null}
use Rattle.mm_base.proofs.PlaceLaws.{place_same}
use Rattle.mm_main.proofs.file.no_place.Goals as goal

pub returns : goal.returns
returns c = place_same _ null refl refl
