use Rattle.std.proofs.Common.{◌≡◌, ◌++◌, drop, string_bytes}
use Rattle.mm_main.specs.Answers.{reply_lines}
use Rattle.mm_main.proofs.text.push_replies.Given as goal

abbrev pub invariant-loop-action : goal.invariant-loop-action
invariant-loop-action l = string_bytes l.out ++ reply_lines (drop l.action-index l.actions) l.rest ≡ string_bytes l.fn.out ++ reply_lines l.actions l.replies
