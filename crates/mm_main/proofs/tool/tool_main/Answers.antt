use Rattle.std.proofs.Common.{sym, ◌∙◌}
use Rattle.std.proofs.lemmas.Bool.{true≢false}
use Rattle.mm_main.proofs.DumpSteps.{dump_asks}
use Rattle.mm_main.proofs.tool.tool_main.Goals as goal

pub returns-then-is_command-2-clause-plays : goal.returns-then-is_command-2-clause-plays
returns-then-is_command-2-clause-plays g c = λ play. absurd (true≢false (sym (c.is_command.ensures.1 play) ∙ c.if-is_command.false))

pub returns-then-is_command-2-clause-unasked : goal.returns-then-is_command-2-clause-unasked
returns-then-is_command-2-clause-unasked g c = dump_asks _ _ _ _ _ _ c.dump_main.ensures.dumps

pub returns-clause-plays : goal.returns-clause-plays
returns-clause-plays g c = λ play. absurd (true≢false (sym (c.is_command.ensures.1 play) ∙ c.if-is_command.false))
