use Rattle.std.proofs.Common.{◌≡◌, ◌≤◌, ℕ, List, Option, None, Some, sym, ◌∙◌, ap, subst}
use Rattle.std.proofs.lemmas.Result.{on_ok_weaker}
use Rattle.mm_ranges.specs.Limits.{most_of}
use Rattle.mm_crash.specs.Overlay.{size}
use Rattle.mm_recover.specs.Overlaid.{bytes_of}
use Rattle.mm_recover.proofs.Loads.{takes_none, takes_as}
use Rattle.mm_recover.proofs.loading.take_in.Goals as goal

pub returns-in-Some-clause-ok : goal.returns-in-Some-clause-ok
returns-in-Some-clause-ok c =
    let are : Some c.deref.result.now ≡ bytes_of c.args.content.now = ap (λ (l : List ℕ). Some l) c.deref.ensures.value ∙ ap bytes_of (sym c.in-Some.is) in
    on_ok_weaker c.put_in.result (takes_as c.args.file (Some c.deref.result.now) (bytes_of c.args.content.now) c.args.views.now c.put_in.new.views are) c.put_in.ensures.ok

pub put_in-requires-clause-short : goal.put_in-requires-clause-short
put_in-requires-clause-short c =
    let are : bytes_of c.args.content.now ≡ Some c.deref.result.now = ap bytes_of c.in-Some.is ∙ ap (λ (l : List ℕ). Some l) (sym c.deref.ensures.value) in
    subst (λ (o : Option (List ℕ)). size o ≤ most_of c.args.file) are c.requires.short

pub returns-in-None-clause-ok : goal.returns-in-None-clause-ok
returns-in-None-clause-ok c = takes_as c.args.file None (bytes_of c.args.content.now) c.args.views.now c.args.views.now (ap bytes_of (sym c.in-None.is)) (takes_none c.args.file c.args.views.now)
