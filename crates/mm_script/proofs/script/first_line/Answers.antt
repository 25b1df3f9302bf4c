use Rattle.std.proofs.Common.{◌≡◌, length, ap, sym, ◌∙◌, ◌∷◌, take, drop, rules, inl, inr, arith}
use Rattle.mm_script.specs.Lines.{lines}
use Rattle.mm_script.proofs.LineSteps.{first_and_rest, last_line, none_there}
use Rattle.mm_script.proofs.script.first_line.Goals as goal

pub returns-then-is_empty-clause-first : goal.returns-then-is_empty-clause-first
returns-then-is_empty-clause-first c =
    let none : length c.split_at.result.1.now ≡ 0 = search rules in
    let line = take c.place_of_end.result c.args.bytes.now in
    rw c.split_at.ensures.front (first_and_rest c.args.bytes.now c.place_of_end.result c.requires c.place_of_end.ensures.place
    ∙ ap (λ rest. line ∷ lines (drop 1 rest)) (sym c.split_at.ensures.back) ∙ ap (λ others. line ∷ others) (last_line c.split_at.result.1.now none))

pub returns-then-is_empty-clause-sizes : goal.returns-then-is_empty-clause-sizes
returns-then-is_empty-clause-sizes c =
    let none : length c.split_at.result.1.now ≡ 0 = search rules in
    inr (omega (arith, c.split_at.ensures.front_len, c.split_at.ensures.back_len), none_there c.split_at.result.1.now none)

pub returns-clause-first : goal.returns-clause-first
returns-clause-first c = rw (c.split_at.ensures.front, c.split_at-2.ensures.back, c.split_at.ensures.back) (first_and_rest c.args.bytes.now c.place_of_end.result c.requires c.place_of_end.ensures.place)

pub returns-clause-sizes : goal.returns-clause-sizes
returns-clause-sizes c = inl (omega (arith, c.split_at.ensures.front_len, c.split_at.ensures.back_len, c.split_at-2.ensures.back_len))
