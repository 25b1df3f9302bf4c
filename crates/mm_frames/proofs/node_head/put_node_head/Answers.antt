use Rattle.std.proofs.Common.{arith, rules, refl}
use Rattle.mm_base.proofs.Sets.{signed}
use Rattle.mm_base.proofs.TableLaws.{puts_table}
use Rattle.mm_frames.specs.NodeHead.{node_head_table, node_head_bytes, node_head_of}
use Rattle.mm_frames.proofs.Again.{node_head_is}
use Rattle.mm_frames.proofs.node_head.put_node_head.Goals as goal

pub returns : goal.returns
unfolding node_head_bytes
returns c =
    let x = c.args.head.now in
    puts_table 132 node_head_table node_head_of c.args.at x c.args.bytes.now _ refl (search rules) (omega arith) (node_head_is x _) (grind (arith, signed))
