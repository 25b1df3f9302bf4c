use Rattle.std.proofs.Common.{◌≡◌, ℕ, ◌+◌, ◌*◌, ◌<◌, List, length, get_or, ap, ◌∙◌, sym, subst, arith}
use Rattle.mm_base.specs.Bytes.{part}
use Rattle.mm_frames.specs.declared.key_node.KeyNode.{KeyNode}
use Rattle.mm_bucket.specs.Pairs.{Contents, IsKey, blank}
use Rattle.mm_bucket.specs.Layout.{Held, pairs_in}
use Rattle.mm_bucket.proofs.Laying.{node_at}
use Rattle.mm_bucket.proofs.Heading.{HasPair, has_pair}
use Rattle.mm_bucket.proofs.bucket.Bucket.key.Goals as goal

-- the pair, for the node that was read
pair : (bytes : List ℕ) (n begin i : ℕ) (b view : Contents) (node : KeyNode) → node ≡ node_at bytes (40 + 18 * i) → view ≡ b → Held bytes n begin view → i < length b.pairs → HasPair bytes node (get_or b.pairs i blank)
pair bytes n begin i b view node e f h l = subst (λ (x : KeyNode). HasPair bytes x (get_or b.pairs i blank)) (sym e) (has_pair bytes n begin i b (subst (Held bytes n begin) f h) l)

pub read_u32-len-requires : goal.read_u32-len-requires
read_u32-len-requires c =
    let b = c.self.inside in
    let view : Contents = record { parent = b.parent; pairs = pairs_in b.bytes 40 b.count; next = b.next } in
    let p = pair b.bytes b.count b.begin c.args.place c.args.self.now view c.read_key_node-node.result c.read_key_node-node.ensures c.self.view_is c.self.invariant c.requires in
    omega (arith, p.front, c.self.invariant.spelled.laid.whole)

pub frame-requires : goal.frame-requires
frame-requires c =
    let b = c.self.inside in
    let view : Contents = record { parent = b.parent; pairs = pairs_in b.bytes 40 b.count; next = b.next } in
    let p = pair b.bytes b.count b.begin c.args.place c.args.self.now view c.read_key_node-node.result c.read_key_node-node.ensures c.self.view_is c.self.invariant c.requires in
    omega (arith, p.whole, c.self.invariant.spelled.laid.whole, c.read_u32-len.ensures)

pub returns-clause-is : goal.returns-clause-is
returns-clause-is c =
    let b = c.self.inside in
    let view : Contents = record { parent = b.parent; pairs = pairs_in b.bytes 40 b.count; next = b.next } in
    let p = pair b.bytes b.count b.begin c.args.place c.args.self.now view c.read_key_node-node.result c.read_key_node-node.ensures c.self.view_is c.self.invariant c.requires in
    c.frame.ensures.is ∙ (ap (λ n. part (40 + c.read_key_node-node.result.key_ofs) n b.bytes) c.read_u32-len.ensures ∙ p.key)

pub returns-clause-key : goal.returns-clause-key
returns-clause-key c =
    let b = c.self.inside in
    let view : Contents = record { parent = b.parent; pairs = pairs_in b.bytes 40 b.count; next = b.next } in
    let p = pair b.bytes b.count b.begin c.args.place c.args.self.now view c.read_key_node-node.result c.read_key_node-node.ensures c.self.view_is c.self.invariant c.requires in
    subst IsKey (sym (c.frame.ensures.is ∙ (ap (λ n. part (40 + c.read_key_node-node.result.key_ofs) n b.bytes) c.read_u32-len.ensures ∙ p.key))) p.good
