use Rattle.std.specs.Int.{w32}
use Rattle.std.proofs.lemmas.Int.{to_z-of_z}
use Rattle.mm_extents.proofs.Names.{name_again}
use Rattle.mm_extents.proofs.dropping.freed_header.Goals as goal

pub returns-clause-named : goal.returns-clause-named
returns-clause-named c = name_again c.args.name.now c.bytes-bytes.ensures.name

pub returns-clause-is : goal.returns-clause-is
returns-clause-is c = λ i. record {
  magic = 0x41424344;
  my_loc = c.place.ensures i;
  xnext = c.no_place-null.ensures i;
  xprev = c.args.prev;
  namespace = c.padded.ensures i;
  len = to_z-of_z w32 c.args.len c.ranges.len i;
  first_record = c.no_place-null.ensures i;
  last_record = c.no_place-null.ensures i;
}
