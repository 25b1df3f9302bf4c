use Rattle.std.proofs.Common.{◌++◌, ◌∷◌, [], ap, ◌∙◌}
use Rattle.mm_notation.proofs.Behind.{framed_put}
use Rattle.mm_notation.proofs.putting.finish.Goals as goal

pub returns-clause-frame : goal.returns-clause-frame
returns-clause-frame c = λ old inner at is. c.seal.ensures ∙ framed_put old inner c.put.new.out.items c.args.start (c.in_ok-put.ensures.ok ∙ ap (λ x. x ++ 0 ∷ []) is) at
