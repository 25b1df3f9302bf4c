-- The text of what is answered.
use Rattle.std.specs.Prelude.{ℕ, List, [], ◌∷◌, ◌++◌, codes}
use Rattle.std.specs.Fmt.{decimal}
use Rattle.mm_model.specs.declared.action.Action.{Action}
use Rattle.mm_script.specs.Render.{line_of}
use Rattle.mm_main.specs.declared.answers.Reply.{Reply}
use Rattle.mm_main.specs.declared.answers.Reply.TheVariants.{Done, NoSpace}

-- the text of a reply
abbrev pub reply_text : Reply → List ℕ
reply_text Done = codes " ok 1\n"
reply_text NoSpace = codes " NoSpace\n"

-- a line for each reply to an action, with the number of the action's line
abbrev pub reply_lines : List Action → List Reply → List ℕ
reply_lines [] replies = []
reply_lines (action ∷ actions) [] = []
reply_lines (action ∷ actions) (reply ∷ replies) = decimal (line_of action) ++ (reply_text reply ++ reply_lines actions replies)
