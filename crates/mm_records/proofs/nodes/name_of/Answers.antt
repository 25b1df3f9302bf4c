use Rattle.std.proofs.Common.{◌≡◌, ◌∙◌, ℕ, ◌*◌, length, rules, refl, sym, ap}
use Rattle.mm_base.specs.Bytes.{padded}
use Rattle.mm_frames.specs.Texts.{text_in}
use Rattle.mm_frames.specs.declared.node_head.NodeHead.{NodeHead}
use Rattle.mm_nstable.specs.Nodes.{node_at, name_in, head_in}
use Rattle.mm_nstable.specs.Changes.{ns_of}
use Rattle.mm_nstable.proofs.Tables.{used_parts, text_is}
use Rattle.mm_nstable.proofs.Written.{head_is}
use Rattle.mm_records.proofs.nodes.name_of.Goals as goal

pub unreachable-requires : goal.unreachable-requires
unreachable-requires c =
    let ns = ns_of c.args.draft.now in
    let head : c.read_node_head.result ≡ head_in (node_at ns c.args.node) = head_is ns c.read.«new».out (628 * c.args.node) c.args.node _ c.read_node_head.result (used_parts ns c.args.node c.requires.used).there refl refl c.read.ensures c.read_node_head.ensures in
    let named = c.requires.table.named c.args.node c.requires.used in
    let len : length c.read_node_head.result.name ≡ 128 = search rules in
    c.in-None.ensures.none (name_in (node_at ns c.args.node)) named.name (ap (λ (h : NodeHead). h.name) head ∙ named.field ∙ ap (λ (n : ℕ). padded n (name_in (node_at ns c.args.node))) (sym len))

pub returns : goal.returns
returns c =
    let ns = ns_of c.args.draft.now in
    let head : c.read_node_head.result ≡ head_in (node_at ns c.args.node) = head_is ns c.read.«new».out (628 * c.args.node) c.args.node _ c.read_node_head.result (used_parts ns c.args.node c.requires.used).there refl refl c.read.ensures c.read_node_head.ensures in
    sym (text_is c.read_node_head.result.name c.in-Some.name c.in-Some.ensures.some.0 c.in-Some.ensures.some.1) ∙ ap (λ (h : NodeHead). text_in h.name) head
