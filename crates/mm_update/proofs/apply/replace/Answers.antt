use Rattle.mm_update.proofs.Fields.{AreNames-built}
use Rattle.mm_update.proofs.apply.replace.Goals as goal

pub add_others-requires : goal.add_others-requires
add_others-requires c = rw c.elements-2.ensures.elements (AreNames-built c.args.new.now c.elements-2.ensures.built.elements)
