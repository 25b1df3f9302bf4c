use Rattle.std.proofs.Common.{◌-◌, length, arith}
use Rattle.mm_bucket.specs.Pairs.{Pair}
use Rattle.mm_bucket.proofs.Laying.{pushed, put_both}
use Rattle.mm_bucket.proofs.builder.put_pair.Goals as goal

pub returns-clause-pushed : goal.returns-clause-pushed
returns-clause-pushed c =
    let old = c.args.bytes.now in
    let first = c.args.begin - length c.args.key.now in
    let p : Pair = record { left = c.args.left; rec = c.args.rec; key = c.args.key.now } in
    let w = put_both old c.put_bytes.new.bytes c.put_key_node.new.bytes c.args.count c.args.begin first p c.requires.whole (omega arith) (omega arith) c.requires.inside c.put_bytes.ensures c.put_key_node.ensures in
    λ ps b. pushed old c.put_key_node.new.bytes c.args.count c.args.begin first p ps w c.requires.key (omega arith) (omega arith) b
