use Rattle.std.proofs.Common.{ℕ, List, length, ◌∙◌, ap, arith, length-append}
use Rattle.mm_rows_records.proofs.CallLaws.{ns_kept}
use Rattle.mm_rows_records.proofs.calls.written_inside.Goals as goal

pub payload-requires : goal.payload-requires
payload-requires c =
    let g = c.requires.good in
    let t = c.in-Some.ensures g.0 g.1.0 g.1.1 in
    (g.0, (g.1.0, t))

pub write_inside-requires : goal.write_inside-requires
write_inside-requires c =
    let g = c.requires.good in
    let t = c.in-Some.ensures g.0 g.1.0 g.1.1 in
    let out = c.in_ok-payload.ensures.ok g.0 g.1.0 t.0 t.1.0 t.1.1 in
    let few = c.if-from-bytes.false in
    let len = c.len.ensures in
    let none = ap (λ (xs : List ℕ). length xs) c.new-out.ensures.items in
    let long = ap (λ (xs : List ℕ). length xs) out ∙ length-append c.new-out.result.items t.1.0 in
    (g.0, (g.1.0, (t.0, (t.1.0, (t.1.1, omega (arith, few, len, none, long))))))

pub returns-clause-good : goal.returns-clause-good
returns-clause-good c =
    let g = c.requires.good in
    let t = c.in-Some.ensures g.0 g.1.0 g.1.1 in
    let out = c.in_ok-payload.ensures.ok g.0 g.1.0 t.0 t.1.0 t.1.1 in
    let few = c.if-from-bytes.false in
    let len = c.len.ensures in
    let none = ap (λ (xs : List ℕ). length xs) c.new-out.ensures.items in
    let long = ap (λ (xs : List ℕ). length xs) out ∙ length-append c.new-out.result.items t.1.0 in
    let u = c.in_ok-write_inside.ensures.stands g.0 g.1.0 t.0 t.1.0 t.1.1 (omega (arith, few, len, none, long)) in
    (g.0, (u.0, u.1.0))

pub returns-clause-node : goal.returns-clause-node
returns-clause-node c = ns_kept c.args.draft.now.image c.write_inside.«new».draft.image c.args.store.node c.in_ok-write_inside.ensures.ns c.requires.node
