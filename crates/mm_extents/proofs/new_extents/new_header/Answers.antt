use Rattle.std.proofs.Common.{◌≡◌, pos, to_z, arith}
use Rattle.std.specs.Int.{w32}
use Rattle.std.proofs.lemmas.Int.{to_z_pos}
use Rattle.mm_extents.proofs.Names.{name_again}
use Rattle.mm_extents.proofs.new_extents.new_header.Goals as goal

pub returns-clause-named : goal.returns-clause-named
returns-clause-named c = name_again c.args.name.now c.bytes-bytes.ensures.name

pub returns-clause-is : goal.returns-clause-is
returns-clause-is c =
    let short = c.requires.len in
    let len : to_z w32 c.args.len ≡ pos c.args.len = to_z_pos w32 c.args.len (omega (arith, short)) in
    λ i. record {
      magic = 0x41424344;
      my_loc = c.place.ensures i;
      xnext = c.no_place-null.ensures i;
      xprev = c.no_place-null.ensures i;
      namespace = c.padded.ensures i;
      len = len i;
      first_record = c.no_place-null.ensures i;
      last_record = c.no_place-null.ensures i;
    }
