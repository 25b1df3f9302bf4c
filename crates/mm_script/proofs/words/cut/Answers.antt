use Rattle.std.proofs.Common.{◌≡◌, length, get_or, ap, ◌∙◌, arith, take, drop}
use Rattle.std.specs.List.{position_or_len}
use Rattle.mm_script.specs.Words.{is_space}
use Rattle.mm_script.proofs.WordSteps.{front_is, behind_is, space_at}
use Rattle.mm_script.proofs.words.cut.Goals as goal

pub split_at-requires : goal.split_at-requires
split_at-requires c =
    let text = c.args.text.now in
    let is : c.place_of_space.result ≡ position_or_len is_space text = c.place_of_space.ensures.place ∙ ap (position_or_len is_space) c.as_bytes.ensures.value in
    let same = ap length c.as_bytes.ensures.value in (
      omega (arith, same, c.place_of_space.ensures.within),
      λ inside low.
          let space : get_or text c.place_of_space.result 0 ≡ 0x20 = ap (λ k. get_or text k 0) is ∙ space_at text (omega (arith, is)) in
          absurd (omega (arith, space, low)),
    )

pub returns-clause-front : goal.returns-clause-front
returns-clause-front c =
    let text = c.args.text.now in
    c.split_at.ensures.front ∙ ap (λ k. take k text) (c.place_of_space.ensures.place ∙ ap (position_or_len is_space) c.as_bytes.ensures.value) ∙ front_is text

pub returns-clause-behind : goal.returns-clause-behind
returns-clause-behind c =
    let text = c.args.text.now in
    c.split_at.ensures.back ∙ ap (λ k. drop k text) (c.place_of_space.ensures.place ∙ ap (position_or_len is_space) c.as_bytes.ensures.value) ∙ behind_is text
