use Rattle.std.proofs.Common.{◌≡◌, ℕ, ap, sym, subst, arith, Bool, ◌||◌}
use Rattle.std.specs.Prelude.{IsTrue, false}
use Rattle.mm_frames.specs.declared.key_node.KeyNode.{KeyNode}
use Rattle.mm_bucket.specs.Marks.{mark, AreFree, is_in, IsKeyAt}
use Rattle.mm_bucket.proofs.Nexts.{pair_here, ofs_here, read_of, grown, marked_next, apart_read, next_of, free_next}
use Rattle.mm_bucket.proofs.reading.next_pair.Goals as goal
use Rattle.mm_bucket.proofs.reading.next_pair.Goals.{else-begin-from-via-then-begin-from+else-claim, else-begin-from-via-else-begin-from}

not_true : (b : Bool) → IsTrue b → b ≡ false → ⊥
not_true b t f = cc

pub returns-in-None-clause-none : goal.returns-in-None-clause-none
returns-in-None-clause-none c = λ f m g.
    let bytes = c.args.bytes.now in
    let e : ofs_here bytes c.args.place ≡ c.read_key_node-node.result.key_ofs = sym (ap (λ (x : KeyNode). x.key_ofs) c.read_key_node-node.ensures) in
    let k = (next_of bytes c.args.begin c.args.place g).key in
    c.in-None.ensures.none (pair_here bytes c.args.place).key (subst (λ (z : ℕ). IsKeyAt bytes z (pair_here bytes c.args.place).key) e k)

pub returns-then-claim-clause-some : goal.returns-then-claim-clause-some
returns-then-claim-clause-some c = λ f m.
    let bytes = c.args.bytes.now in
    let i = c.args.place in
    let ofs = c.read_key_node-node.result.key_ofs in
    let e : ofs ≡ ofs_here bytes i = ap (λ (x : KeyNode). x.key_ofs) c.read_key_node-node.ensures in
    let n = c.in-Some.len in
    let r = read_of bytes i n ofs e c.in-Some.ensures.some c.in-Some.ensures.len c.in-Some.ensures.inside c.told-bytes in
    let free = subst (λ (z : ℕ). AreFree c.args.taken.now z n) e (c.claim.ensures.free.0 c.if-claim.true) in
    let marks = subst (λ (z : ℕ). (q : ℕ) → mark c.claim.new.taken q ≡ (is_in z n q || mark c.args.taken.now q)) e (c.claim.ensures.taken c.if-claim.true) in (
      grown bytes c.args.begin i n r (omega (arith, e, c.if-begin-from.true)) (apart_read bytes c.args.begin i n c.args.taken.now r f m free) f,
      marked_next bytes i n c.args.taken.now c.claim.new.taken r m marks,
    )

pub returns-else-begin-from-clause-none : goal.returns-else-begin-from-clause-none
returns-else-begin-from-clause-none c = λ f m g.
    let bytes = c.args.bytes.now in
    let i = c.args.place in
    let ofs = c.read_key_node-node.result.key_ofs in
    let e : ofs ≡ ofs_here bytes i = ap (λ (x : KeyNode). x.key_ofs) c.read_key_node-node.ensures in
    let n = c.in-Some.len in
    let r = read_of bytes i n ofs e c.in-Some.ensures.some c.in-Some.ensures.len c.in-Some.ensures.inside c.told-bytes in
    elim c.else-begin-from.branch [
      | else-begin-from-via-then-begin-from+else-claim w ↦ not_true w.claim.result (w.claim.ensures.free.1 (subst (λ (z : ℕ). AreFree c.args.taken.now z n) (sym e) (free_next bytes c.args.begin i n c.args.taken.now r m g))) w.if-claim.false
      | else-begin-from-via-else-begin-from w ↦ omega (arith, e, w.if-begin-from.false, (next_of bytes c.args.begin i g).low)
    ]
