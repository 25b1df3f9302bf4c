use Rattle.std.proofs.Common.{arith, rules, refl}
use Rattle.mm_base.proofs.Sets.{signed}
use Rattle.mm_base.proofs.TableLaws.{puts_table}
use Rattle.mm_frames.specs.KeyNode.{key_node_table, key_node_bytes, key_node_of}
use Rattle.mm_frames.proofs.Again.{key_node_is}
use Rattle.mm_frames.proofs.key_node.put_key_node.Goals as goal

pub returns : goal.returns
unfolding key_node_bytes
returns c =
    let x = c.args.node.now in
    puts_table 18 key_node_table key_node_of c.args.at x c.args.bytes.now _ refl (search rules) (omega arith) (key_node_is x _) (grind (arith, signed))
