use Rattle.std.proofs.Common.{◌<◌, length, sym, ◌∙◌, string_bytes, rules}
use Rattle.mm_main.proofs.RunSteps.{first_of_names}
use Rattle.mm_main.proofs.disk.first_file.Goals as goal

pub returns-clause-first : goal.returns-clause-first
returns-clause-first g c = λ t is.
    let some : 0 < length c.in_ok-names.names.items = search rules in
    let first = first_of_names string_bytes c.in_ok-names.names.items c.swap_remove.result some c.swap_remove.ensures.value in
    (first.0, sym (c.in_ok-names.ensures.names t is) ∙ first.1)
