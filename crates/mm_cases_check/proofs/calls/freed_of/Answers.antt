use Rattle.std.proofs.lemmas.Result.{on_ok_weaker}
use Rattle.mm_cases_check.proofs.calls.freed_of.Goals as goal

pub free-requires : goal.free-requires
free-requires c =
    let g = c.requires.good in
    let t = c.in-Some.ensures g.0 g.1.0 g.1.1 in
    (g.0, (g.1.0, t))

pub returns-in-Some : goal.returns-in-Some
returns-in-Some c =
    let g = c.requires.good in
    let t = c.in-Some.ensures g.0 g.1.0 g.1.1 in
    on_ok_weaker c.free.result (λ f. let u = f g.0 g.1.0 t.0 t.1.0 t.1.1 in (g.0, (u.0, u.1.0))) c.free.ensures.stands
