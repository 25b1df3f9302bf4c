use Rattle.std.proofs.Common.{ℕ, List, [], Vec, Global, map, sym, ap, ◌∙◌, subst}
use Rattle.std.specs.Prelude.{flat_map}
use Rattle.std.proofs.lemmas.List.{map-append, take_all, get_or_default}
use Rattle.mm_links.specs.Links.{Place}
use Rattle.mm_walk.specs.Walk.{AreWhole, Knows, seen_after}
use Rattle.mm_check.specs.Findings.{lists_of}
use Rattle.mm_check.specs.Phases.{owner_of}
use Rattle.mm_check.specs.declared.owners.Owned.{Owned}
use Rattle.mm_check.proofs.ChainRows.{seen_append, fresh_after}
use Rattle.mm_check.proofs.CheckSteps.{broken_mapped}
use Rattle.mm_check.proofs.PhaseLoops.{lists_next, lists_break, own_among}
use Rattle.mm_check.proofs.phases.deleted_blocks.Goals as goal

-- the places of lists, one list each
abbrev places : List (Vec (ℕ × ℕ) Global) → List (List Place)
places vs = map (λ v. v.items) vs

pub loop-i-init : goal.loop-i-init
loop-i-init c before k o =
    let e = ap places c.new-all.ensures.items in (
      subst (λ (pss : List (List Place)). AreWhole before [] pss) (sym e) tt,
      subst (λ (pss : List (List Place)). Knows c.args.seen.now (seen_after before pss)) (sym e) k,
    )

pub deleted_of-requires : goal.deleted_of-requires
deleted_of-requires c =
    let s = c.requires.some in
    let inv = c.loop-i.invariant s.0 s.1.0 s.1.1 in
    record {
      node = c.requires.nodes c.loop-i.i _ c.loop-i-test.true;
      inside = λ p h. c.requires.inside p (own_among {V = Owned} owner_of c.args.owners.now c.loop-i.i _ p c.loop-i-test.true (get_or_default c.args.owners.now c.loop-i.i _ _ c.loop-i-test.true) h);
      some = (seen_after s.0 (places c.loop-i.all.items), (inv.1, fresh_after s.0 _ _ inv.0 s.1.1));
    }

pub loop-i-preserved : goal.loop-i-preserved
loop-i-preserved c before k o =
    let image = c.args.views.now.private in
    let inv = c.loop-i.invariant before k o in
    let pss = places c.loop-i.all.items in
    let qss = places c.in-Ok.lists.items in
    let fresh = fresh_after before _ pss inv.0 o in
    let items = ap places c.in_ok-append-in-Ok.ensures.items ∙ map-append (λ v. v.items) c.loop-i.all.items c.in-Ok.lists.items in (
      lists_next {V = Owned} image owner_of c.args.owners.now c.loop-i.i _ before pss qss _ c.loop-i-test.true (get_or_default c.args.owners.now c.loop-i.i _ _ c.loop-i-test.true) inv.0 (c.in-Ok.ensures.whole (seen_after before pss) inv.1 fresh) items,
      subst (λ (yss : List (List Place)). Knows c.deleted_of.new.seen (seen_after before yss)) (sym items)
          (subst (λ (ps : List Place). Knows c.deleted_of.new.seen ps) (sym (seen_append before pss qss)) (c.in-Ok.ensures.seen (seen_after before pss) inv.1 fresh)),
    )

pub returns-in-Err : goal.returns-in-Err
returns-in-Err c =
    let image = c.args.views.now.private in
    let pss = places c.loop-i.all.items in
    record {
      whole = tt;
      broken = broken_mapped (Vec (Vec (ℕ × ℕ) Global) Global) (Vec (Vec (ℕ × ℕ) Global) Global) c.in-Err.broken _ _
          (λ at h before k o.
          let inv = c.loop-i.invariant before k o in
          lists_break {V = Owned} image owner_of c.args.owners.now c.loop-i.i _ before pss at c.loop-i-test.true (get_or_default c.args.owners.now c.loop-i.i _ _ c.loop-i-test.true) inv.0 (h (seen_after before pss) inv.1 (fresh_after before _ pss inv.0 o)))
          c.in-Err.ensures.broken;
    }

pub returns : goal.returns
returns c =
    let image = c.args.views.now.private in
    record {
      whole = λ before k o.
          subst (λ (xs : List Owned). AreWhole before (flat_map (lists_of image) (map owner_of xs)) (places c.loop-i.all.items)) (take_all c.loop-i.i c.args.owners.now c.loop-i-test.false) (c.loop-i.invariant before k o).0;
      broken = tt;
    }
