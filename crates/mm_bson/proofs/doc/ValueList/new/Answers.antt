use Rattle.mm_bson.proofs.Building.{empty_array}
use Rattle.mm_bson.proofs.doc.ValueList.new.Goals as goal

pub of_parts-requires : goal.of_parts-requires
of_parts-requires c = rw (c.in_ok-bytes.ensures, c.in_ok-from_slice.ensures.items, c.new.ensures.items) empty_array
