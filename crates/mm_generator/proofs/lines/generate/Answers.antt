use Rattle.std.proofs.Common.{◌≡◌, ◌+◌, ◌-◌, ◌∷◌, ◌++◌, ℕ, arith, length, ap, ◌∙◌}
use Rattle.mm_generator.specs.Generator.{bulk_line, pause}
use Rattle.mm_generator.proofs.Steps.{line_on, all_lines}
use Rattle.mm_generator.proofs.lines.generate.Goals as goal

-- src/lines.rt:123:5
pub lines-preserved : goal.lines-preserved
lines-preserved c =
    let same : c.in_ok-databases.databases ≡ length c.args.names.now = c.in_ok-databases.ensures in
    record {
      within = omega (arith, c.lines-test.true);
      so_far = line_on (length c.args.names.now) c.lines.line c.args.count c.lines.draws c.push_line.new.draws c.lines.actions.items c.push_line.new.actions.items _ c.lines-test.true
          (c.in_ok-push_line.ensures.actions
          ∙ ap (λ (d : ℕ). c.lines.actions.items ++ ((bulk_line d (c.lines.line + 1) c.lines.draws).0 ∷ pause d (c.lines.line + 1))) same)
          (c.in_ok-push_line.ensures.state ∙ ap (λ (d : ℕ). (bulk_line d (c.lines.line + 1) c.lines.draws).1) same) c.lines.invariant.so_far;
    }

-- src/lines.rt:107:1
pub returns : goal.returns
returns c = all_lines (length c.args.names.now) (c.lines.line + 1) c.lines.draws (c.args.count - c.lines.line) c.lines.actions.items _ (omega (arith, c.lines-test.false)) c.lines.invariant.so_far
