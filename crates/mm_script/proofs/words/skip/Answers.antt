use Rattle.std.proofs.Common.{◌≡◌, length, ap, ◌∙◌, arith, drop}
use Rattle.std.specs.List.{position_or_len}
use Rattle.mm_script.specs.Words.{is_other}
use Rattle.mm_script.proofs.WordSteps.{skip_is, spaces_before, boundary_behind}
use Rattle.mm_script.proofs.words.skip.Goals as goal

pub split_at-requires : goal.split_at-requires
split_at-requires c =
    let text = c.args.text.now in
    let is : c.place_behind_spaces.result ≡ position_or_len is_other text = c.place_behind_spaces.ensures.place ∙ ap (position_or_len is_other) c.as_bytes.ensures.value in
    let same = ap length c.as_bytes.ensures.value in
    boundary_behind text c.place_behind_spaces.result c.utf8.text (omega (arith, same, c.place_behind_spaces.ensures.within)) (λ k below. spaces_before text k (omega (arith, is, below)))

pub returns : goal.returns
returns c =
    let text = c.args.text.now in
    c.split_at.ensures.back ∙ ap (λ k. drop k text) (c.place_behind_spaces.ensures.place ∙ ap (position_or_len is_other) c.as_bytes.ensures.value) ∙ skip_is text
