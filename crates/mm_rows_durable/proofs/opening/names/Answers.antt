use Rattle.std.proofs.Common.{List, ℕ, take, ◌∙◌, ap}
use Rattle.mm_rows_durable.proofs.Keeping.{four_names}
use Rattle.mm_rows_durable.proofs.opening.names.Goals as goal

pub returns : goal.returns
returns c =
    c.truncate.ensures.items
    ∙ ap (λ (l : List (List ℕ)). take c.args.count l)
    (four_names c.new-names.result.items c.push_name.new.names.items c.push_name-2.new.names.items c.push_name-3.new.names.items c.push_name-4.new.names.items c.new-names.ensures.items c.in_ok-push_name.ensures c.in_ok-push_name-2.ensures c.in_ok-push_name-3.ensures c.in_ok-push_name-4.ensures)
