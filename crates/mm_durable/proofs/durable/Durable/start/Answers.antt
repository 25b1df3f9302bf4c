use Rattle.std.proofs.Common.{List, ℕ, sym, subst}
use Rattle.mm_durable.specs.Intake.{by_name, lists}
use Rattle.mm_durable.specs.Durable.{ReadItems}
use Rattle.mm_durable.proofs.Openings.{first_images}
use Rattle.mm_durable.proofs.durable.Durable.start.Goals as goal

pub returns-in-Ok-clause-kept : goal.returns-in-Ok-clause-kept
returns-in-Ok-clause-kept g c = λ files u told recovered reads.
    let log = c.in-Ok.log in
    let items = by_name log.names.items (lists c.in-Ok.intake) in
    record {
      log_is = c.in-Ok.ensures.kept files u recovered;
      images = first_images log.names.items items files c.args.last (subst (λ (l : List (List ℕ)). ReadItems files l items) (sym c.in-Ok.ensures.begun.names_are) reads);
    }
