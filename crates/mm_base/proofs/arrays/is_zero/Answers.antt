use Rattle.std.proofs.Common.{◌∙◌, ap, sym}
use Rattle.std.specs.Prelude.{◌==◌}
use Rattle.std.specs.List.{list_all}
use Rattle.mm_base.specs.Bytes.{zeros}
use Rattle.mm_base.proofs.Spelled.{zeros_if, all_zeros}
use Rattle.mm_base.proofs.arrays.is_zero.Goals as goal

pub returns : goal.returns
returns c =
    let frame = c.frame.result.now in (
      λ all. sym c.frame.ensures.is ∙ zeros_if frame (sym c.are_zeros.ensures ∙ all) ∙ ap zeros c.frame.ensures.len,
      λ is. c.are_zeros.ensures ∙ ap (list_all (λ b. b == 0)) (c.frame.ensures.is ∙ is) ∙ all_zeros c.args.len,
    )
