use Rattle.std.proofs.Common.{List, [], Vec, Global, ℕ, map, sym, subst}
use Rattle.mm_walk.specs.Walk.{Knows, seen_after}
use Rattle.mm_check.specs.Findings.{Clear6}
use Rattle.mm_check.proofs.ChainRows.{knows_none}
use Rattle.mm_check.proofs.CheckSteps.{finds_again}
use Rattle.mm_check.proofs.order.check_owned.Goals as goal

pub records_of-requires : goal.records_of-requires
records_of-requires c = record { clear = c.requires.clear; extents = c.requires.extents; none = knows_none c.new-seen.result c.new-seen.ensures.empty }

pub check_deleted-requires : goal.check_deleted-requires
check_deleted-requires c =
    record {
      clear = subst (λ (vs : List (Vec (ℕ × ℕ) Global)). Clear6 c.args.name.now c.args.views.now.private (map (λ ps. ps.items) c.args.chains.now) (map (λ ps. ps.items) vs)) (sym c.deref.ensures.value) c.in-Ok.ensures.clear;
      owned = c.requires.owned;
      extents = c.requires.extents;
      seen = subst (λ (vs : List (Vec (ℕ × ℕ) Global)). Knows c.records_of.new.seen (seen_after [] (map (λ ps. ps.items) vs))) (sym c.deref.ensures.value) c.in-Ok.ensures.seen;
    }

pub returns-in-Err : goal.returns-in-Err
returns-in-Err c = record { clear = tt; found = finds_again (Vec (Vec (ℕ × ℕ) Global) Global) (Unit {0}) c.args.name.now c.args.views.now.private c.in-Err.fault c.in-Err.ensures.found }

pub returns : goal.returns
returns c = record { clear = c.check_deleted.ensures.clear; found = c.check_deleted.ensures.found }
