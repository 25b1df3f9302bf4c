use Rattle.std.proofs.Common.{ℕ, List, Option, ap, arith}
use Rattle.std.specs.Prelude.{is_some}
use Rattle.mm_views.specs.State.{State}
use Rattle.mm_cases_check.proofs.LoadLaws.{zeros_there, zeros_long}
use Rattle.mm_cases_check.proofs.loading.Files.put.Goals as goal

pub fill-requires-clause-there : goal.fill-requires-clause-there
fill-requires-clause-there c = ap (λ (o : Option (List ℕ)). is_some o) (zeros_there c.args.file c.args.len c.args.self.now.held.private c.load.new.self.private (ap (λ (s : State). s.private) c.in_ok-load.ensures.ok))

pub fill-requires-clause-inside : goal.fill-requires-clause-inside
fill-requires-clause-inside c =
    let long = zeros_long c.args.file c.args.len c.args.self.now.held.private c.load.new.self.private (ap (λ (s : State). s.private) c.in_ok-load.ensures.ok) in
    omega (arith, c.requires, long)
