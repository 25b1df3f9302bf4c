use Rattle.std.proofs.Common.{ap, ◌∙◌}
use Rattle.mm_bson.specs.Named.{unnamed}
use Rattle.mm_bson.proofs.Numbered.{unnamed_again}
use Rattle.mm_bson.proofs.place.ListRef.items.Goals as goal

pub returns : goal.returns
returns c = ap unnamed c.named.ensures ∙ unnamed_again 0 _
