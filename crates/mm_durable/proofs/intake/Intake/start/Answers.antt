use Rattle.std.proofs.Common.{ℕ, List, map, ◌∙◌, ap}
use Rattle.mm_durable.specs.Names.{index_of}
use Rattle.mm_durable.proofs.Openings.{opens}
use Rattle.mm_durable.proofs.intake.Intake.start.Goals as goal

pub returns-clause-intake : goal.returns-clause-intake
returns-clause-intake c =
    let r = c.requires in
    let names = c.args.names.now in
    opens names r.some r.few r.names _ c.in_ok-sorted.ensures.same c.in_ok-sorted.ensures.rising
    (c.in_ok-ranks.ensures ∙ ap (λ (l : List (List ℕ)). map (λ (n : List ℕ). index_of l n) names) c.deref.ensures.value) r.feeds r.first c.new.ensures.items
