use Rattle.std.proofs.Common.{rules, ◌≡◌, ◌-◌, ◌+◌, length, sym, ap, ◌∙◌, arith, refl}
use Rattle.mm_script.specs.Grammar.{setting}
use Rattle.mm_script.specs.Lines.{lines}
use Rattle.mm_script.specs.Reading.{script_at}
use Rattle.mm_script.proofs.LoopSteps.{onto, long_is, turn, sizes_of, all_read}
use Rattle.mm_script.proofs.script.actions_of.Goals as goal

pub lines-preserved : goal.lines-preserved
lines-preserved c =
    let s = setting c.args.names.now c.args.stamp c.args.steps in
    let total = length c.args.bytes.now in
    let rest = c.lines.rest.now in
    let line = c.first_line.result.0.now in
    let after = c.first_line.result.1.now in
    let sizes = c.first_line.ensures.sizes in
    let long = long_is 67108864 total (total - length rest) (length line) (length rest) (length after) c.lines.invariant.shorter refl (sizes_of (length line) (length after) (length rest) after sizes refl) in
    let is = c.in-Ok.ensures.judged total (total - length rest) long in
    record {
      shorter = omega (arith, c.first_line.ensures.shorter, c.lines.invariant.shorter);
      few = omega (arith, c.in-Ok.ensures.few);
      so_far = ap (λ b. onto b (script_at s total (total - length after) (c.lines.number + 1) (lines after))) c.in_ok-push_found-in-Ok.ensures.ok ∙ turn s total c.lines.number c.lines.actions.items rest line after c.in-Ok.found _ c.lines.invariant.shorter c.first_line.ensures.first sizes is c.lines.invariant.so_far;
    }

pub returns : goal.returns
returns c =
    let none : length c.lines.rest.now ≡ 0 = search rules in
    sym c.lines.invariant.so_far ∙ all_read _ _ _ _ c.lines.actions.items c.lines.rest.now none
