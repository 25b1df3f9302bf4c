use Rattle.std.proofs.Common.{◌≡◌, false, sym, ◌∙◌}
use Rattle.mm_bson.specs.Path.{names}
use Rattle.mm_update.specs.Paths.{leads}
use Rattle.mm_update.proofs.Steps.{leads-short}
use Rattle.mm_update.proofs.path.leads.Goals as goal

pub returns-in-Some-None : goal.returns-in-Some-None
returns-in-Some-None c =
    let short : leads (names c.loop-a.left.now) (names c.loop-a.right.now) ≡ false =
    rw (c.split-a.ensures.steps, c.split-b.ensures.steps, c.in-Some-None.is-0, c.in-Some-None.is-1) (leads-short c.split-a.result.name.now c.split-b.result.name.now c.in-Some-None.field-0-0.now) in
    sym short ∙ c.loop-a.invariant.2
