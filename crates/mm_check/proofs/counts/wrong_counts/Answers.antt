use Rattle.std.proofs.Common.{ℕ, List, Vec, Global, Some, map, refl, sym, ap, ◌∙◌}
use Rattle.std.proofs.lemmas.List.{at_drop_all, take-map, drop-map, get_or_default}
use Rattle.mm_ranges.specs.declared.limits.TheConstants.{NS_FILE}
use Rattle.mm_links.specs.Links.{Place, has}
use Rattle.mm_walk.specs.Questions.{first_failing}
use Rattle.mm_check.specs.Findings.{joined, count_questions}
use Rattle.mm_check.specs.Phases.{owner_of}
use Rattle.mm_check.specs.declared.owners.Owned.{Owned}
use Rattle.mm_check.proofs.PhaseLoops.{own_among, joined_taken, joined_dropped, counts_wrong, counts_next}
use Rattle.mm_check.proofs.counts.wrong_counts.Goals as goal

abbrev items : Vec (ℕ × ℕ) Global → List Place
items v = v.items

pub loop-i-init : goal.loop-i-init
loop-i-init c = record { left = refl; inside = c.requires.records }

pub counts_right-requires : goal.counts_right-requires
counts_right-requires c =
    record {
      node = c.requires.nodes c.loop-i.i _ c.loop-i-test.true;
      extents = λ p h. c.requires.extents p (own_among {V = Owned} owner_of c.args.owners.now c.loop-i.i _ p c.loop-i-test.true (get_or_default c.args.owners.now c.loop-i.i _ _ c.loop-i-test.true) h);
      records = λ p h. c.loop-i.invariant.inside p (joined_taken (map items c.loop-i.rest.now) _ p (ap (λ (pss : List (List Place)). has (joined pss) p) (take-map items _ c.loop-i.rest.now ∙ ap (map items) (sym c.first_lists.ensures)) ∙ h));
    }

pub node_ofs-requires : goal.node_ofs-requires
node_ofs-requires c = c.requires.nodes c.loop-i.i _ c.loop-i-test.true

pub returns-then-not-branch : goal.returns-then-not-branch
returns-then-not-branch c =
    ap (λ (n : ℕ). Some (NS_FILE, n)) c.node_ofs.ensures.is
    ∙ sym (c.loop-i.invariant.left
    ∙ counts_wrong {V = Owned} owner_of items c.args.views.now.private c.args.owners.now c.loop-i.rest.now c.loop-i.i _ c.loop-i-test.true (get_or_default c.args.owners.now c.loop-i.i _ _ c.loop-i-test.true) c.first_lists.result.now c.first_lists.ensures c.in_ok-counts_right.field-0 c.in_ok-counts_right.ensures c.if-not-branch.true)

pub loop-i-preserved : goal.loop-i-preserved
loop-i-preserved c =
    record {
      left = c.loop-i.invariant.left
          ∙ counts_next {V = Owned} owner_of items c.args.views.now.private c.args.owners.now c.loop-i.rest.now c.loop-i.i _ c.loop-i-test.true (get_or_default c.args.owners.now c.loop-i.i _ _ c.loop-i-test.true) c.first_lists.result.now c.other_lists-rest.result.now c.first_lists.ensures c.other_lists-rest.ensures c.in_ok-counts_right.field-0 c.in_ok-counts_right.ensures c.if-not-branch.false;
      inside = λ p h. c.loop-i.invariant.inside p (joined_dropped (map items c.loop-i.rest.now) _ p (ap (λ (pss : List (List Place)). has (joined pss) p) (drop-map items _ c.loop-i.rest.now ∙ ap (map items) (sym c.other_lists-rest.ensures)) ∙ h));
    }

pub returns : goal.returns
returns c =
    sym (c.loop-i.invariant.left ∙ at_drop_all (λ (os : List Owned). first_failing (count_questions c.args.views.now.private (map owner_of os) (map items c.loop-i.rest.now))) c.args.owners.now c.loop-i.i c.loop-i-test.false)
