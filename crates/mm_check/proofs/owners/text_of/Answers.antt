use Rattle.std.proofs.Common.{ℕ, ap, take}
use Rattle.mm_frames.specs.Texts.{text_in}
use Rattle.mm_check.proofs.owners.text_of.Goals as goal

pub returns : goal.returns
unfolding text_in
returns c = ap (λ (n : ℕ). take n c.args.field.now) c.len_before_zero-len.ensures.before
