use Rattle.std.proofs.Common.{List, [], map, ap, sym, ◌∙◌, subst, ℕ, Vec, Global}
use Rattle.mm_model.specs.declared.finding.What.TheVariants.{Chain}
use Rattle.mm_links.specs.Links.{Place, has}
use Rattle.mm_walk.specs.Walk.{AreWhole, BreaksFirst}
use Rattle.mm_check.specs.Phases.{record_chain}
use Rattle.mm_check.proofs.Insides.{inside_owners}
use Rattle.mm_check.proofs.CheckSteps.{broken_finds}
use Rattle.mm_check.proofs.order.records_of.Goals as goal

pub live_records-requires : goal.live_records-requires
live_records-requires c =
    record {
      inside = λ p h. inside_owners c.args.name.now c.args.views.now.private _ c.requires.clear p (ap (λ (es : List Place). has es p) (sym c.requires.extents) ∙ h);
      none = c.requires.none;
    }

pub returns-in-Ok : goal.returns-in-Ok
returns-in-Ok c =
    record {
      clear = record { before = c.requires.clear; whole = subst (λ (es : List Place). AreWhole [] (map (record_chain c.args.views.now.private) es) (map (λ ps. ps.items) c.in-Ok.records.items)) c.requires.extents c.in-Ok.ensures.whole };
      seen = c.in-Ok.ensures.seen;
      found = tt;
    }

pub returns-in-Err : goal.returns-in-Err
returns-in-Err c =
    record {
      clear = tt;
      seen = tt;
      found = broken_finds (Vec (Vec (ℕ × ℕ) Global) Global) (Vec (Vec (ℕ × ℕ) Global) Global) c.args.name.now c.args.views.now.private Chain (λ at. BreaksFirst [] (map (record_chain c.args.views.now.private) c.args.extents.now) at) c.in-Err.broken c.fault.result c.fault.ensures c.in-Err.ensures.broken
          (λ at h. record { chains = _; before = c.requires.clear; is = subst (λ (es : List Place). BreaksFirst [] (map (record_chain c.args.views.now.private) es) at) c.requires.extents h });
    }
