use Rattle.std.proofs.Common.{◌+◌, take, drop, sym, ap, ◌∙◌, arith}
use Rattle.mm_bson.proofs.Ends.{part_len, part_of_part}
use Rattle.mm_bson.proofs.shared.Shared.part.Goals as goal

pub overflow_cast-result : goal.overflow_cast-result
overflow_cast-result c = omega (arith, part_len _ _ _ _ c.self.invariant.0 c.self.view_is, c.self.invariant.1, c.requires)

pub overflow_add-result : goal.overflow_add-result
overflow_add-result c = omega (arith, part_len _ _ _ _ c.self.invariant.0 c.self.view_is, c.self.invariant.1, c.requires)

pub overflow_cast-result-2 : goal.overflow_cast-result-2
overflow_cast-result-2 c = omega (arith, part_len _ _ _ _ c.self.invariant.0 c.self.view_is, c.self.invariant.1, c.requires)

pub invariant_of-result : goal.invariant_of-result
invariant_of-result c =
    let len = part_len _ _ _ _ c.self.invariant.0 c.self.view_is in
    rw c.in_ok-all.ensures (omega (arith, len, c.self.invariant.0, c.requires), omega (arith, len, c.self.invariant.1, c.requires))

pub returns : goal.returns
returns c =
    let s = c.self.inside.start in
    let len = part_len _ _ _ _ c.self.invariant.0 c.self.view_is in
    ap (λ v. take c.args.len (drop (s + c.args.start) v.items)) c.in_ok-all.ensures
    ∙ sym (part_of_part _ s c.self.inside.len c.args.start c.args.len (omega (arith, len, c.requires)))
    ∙ ap (λ x. take c.args.len (drop c.args.start x)) c.self.view_is
