use Rattle.std.proofs.Common.{◌≡◌, ◌++◌, [], ◌∷◌, arith, sym, ap, ◌∙◌, refl, length, rules, subst}
use Rattle.std.specs.Int.{w32}
use Rattle.std.proofs.lemmas.Int.{to_z-of_z}
use Rattle.std.proofs.lemmas.List.{length_push}
use Rattle.mm_main.specs.declared.chain.Link.{Link}
use Rattle.mm_main.specs.declared.chain.Link.TheVariants.{To, Outside}
use Rattle.mm_main.specs.declared.finding.What.TheVariants.{Chain}
use Rattle.mm_main.specs.Findings.{IsFollowed, IsLinked, prev_of, last_or}
use Rattle.mm_main.proofs.ChainSteps.{Following, follow_first, follow_step, leads_outside, if_found}
use Rattle.mm_main.proofs.chain.follow.Goals as goal

pub records-init : goal.records-init
records-init c = follow_first c.args.file.now c.args.first _ _ c.new-ats.ensures.items c.place_link-link.ensures

pub prev_of-requires : goal.prev_of-requires
prev_of-requires c = omega (arith, ap (last_or 0) c.deref.ensures.value, c.records.invariant.last_small)

pub returns-in_default-next_of-clause-found : goal.returns-in_default-next_of-clause-found
returns-in_default-next_of-clause-found c =
    let prev = to_z-of_z w32 c.prev_of.result (record { sfits = c.prev_of.type_inv }) ∙ c.prev_of.ensures ∙ ap prev_of c.deref.ensures.value in
    if_found (Unit {0}) _ (record { at = c.in-To.at; what = Chain }) _ c.wrong.ensures (
      refl,
      c.records.ats.items,
      To c.in-To.at,
      subst (λ (l : Link). IsFollowed c.args.file.now c.args.first c.records.ats.items l) c.in-To.is c.records.invariant.followed,
      λ last. (refl, λ here. c.in_default-next_of.ensures.none (subst (λ z. IsLinked c.args.file.now z c.in-To.at) (sym prev) here.0)),
    )

pub records-preserved : goal.records-preserved
records-preserved c =
    let prev = to_z-of_z w32 c.prev_of.result (record { sfits = c.prev_of.type_inv }) ∙ c.prev_of.ensures ∙ ap prev_of c.deref.ensures.value in
    follow_step c.args.file.now c.args.first c.records.ats.items c.in-To.at c.records.link _ c.in-Some.next _ c.records.invariant c.in-To.is prev c.in-Some.ensures.some (to_z-of_z w32 c.in-Some.next (search rules)) _ c.in_ok-push.ensures.items _ c.link_of-link.ensures

pub records-smaller : goal.records-smaller
records-smaller c =
    let more : Following c.args.file.now c.args.first c.push.new.self.items c.link_of-link.result = records-preserved c in
    let longer : length c.push.new.self.items ≡ length (c.records.ats.items ++ c.in-To.at ∷ []) = ap length c.in_ok-push.ensures.items in
    omega (arith, more.count, longer, length_push c.records.ats.items c.in-To.at)

pub returns-in_default-link : goal.returns-in_default-link
returns-in_default-link c = record {
  followed = tt;
  found = if_found (Unit {0}) _ (record { at = c.last_or.result; what = Chain }) _ c.wrong-in_default-link.ensures (
    refl,
    c.records.ats.items,
    Outside,
    subst (λ (l : Link). IsFollowed c.args.file.now c.args.first c.records.ats.items l) (leads_outside c.records.link c.in_default.not-To c.in_default-link.not-End) c.records.invariant.followed,
    λ last. c.last_or.ensures ∙ ap (last_or 8192) c.deref-in_default-link.ensures.value,
  );
}

pub returns-in-End : goal.returns-in-End
returns-in-End c = record { followed = subst (λ (l : Link). IsFollowed c.args.file.now c.args.first c.records.ats.items l) c.in-End.is c.records.invariant.followed; found = tt }
