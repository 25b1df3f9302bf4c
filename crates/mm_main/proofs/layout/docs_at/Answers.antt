use Rattle.std.proofs.Common.{◌≡◌, ◌+◌, ◌≤◌, ℕ, List, arith, sym, ap, ◌∙◌, subst, length, drop, suc, rules}
use Rattle.std.proofs.lemmas.Bool.{false≢true}
use Rattle.mm_bson.specs.Tree.{Elements}
use Rattle.mm_main.specs.declared.finding.What.TheVariants.{Tiling}
use Rattle.mm_main.specs.Findings.{Breaks}
use Rattle.mm_main.specs.Room.{block_len}
use Rattle.mm_main.proofs.ChainSteps.{if_found}
use Rattle.mm_main.proofs.LayoutSteps.{Reading, reading_first, reading_more, breaks_at, fails_next, if_found_then, breaks_behind}
use Rattle.mm_main.proofs.layout.docs_at.Goals as goal

pub loop-place-init : goal.loop-place-init
loop-place-init c = subst (λ (docs : List Elements). Reading c.args.file.now c.args.ats.now docs 0 8368) (sym c.new-docs.ensures.items) (reading_first c.args.file.now c.args.ats.now)

pub loop-place-preserved : goal.loop-place-preserved
loop-place-preserved c =
    let is = c.block_len-at.ensures.value ∙ ap (λ (xs : List ℕ). block_len c.loop-place.at (length xs)) c.bytes.ensures.spelled in
    let more = reading_more c.args.file.now c.args.ats.now c.loop-place.docs.items c.in-Ok.doc c.loop-place.place-index c.loop-place.at c.block_len-at.result _ c.loop-place.invariant c.loop-place-test.true c.if-place-at.false c.in-Ok.ensures.laid is c.block_len-at.ensures.inside
    c.block_len-at.ensures.no_crumb in
    subst (λ (docs : List Elements). Reading c.args.file.now c.args.ats.now docs (c.loop-place.place-index + 1) (c.loop-place.at + c.block_len-at.result)) (sym c.in_ok-push.ensures.items) more

pub returns-in-Err-clause-found : goal.returns-in-Err-clause-found
returns-in-Err-clause-found c =
    if_found_then (Unit {0}) (Unit {0}) c.in-Err.fault _ _ (λ at what fails. subst (λ (x : ℕ). Breaks c.args.file.now c.args.ats.now x what) (sym fails.0)
    (breaks_at c.args.file.now c.args.ats.now c.loop-place.docs.items c.loop-place.place-index c.loop-place.at _ what c.loop-place.invariant c.loop-place-test.true (fails_next c.args.file.now c.loop-place.docs.items (drop (suc c.loop-place.place-index) c.args.ats.now) c.loop-place.at _ what c.if-place-at.false fails.1))) c.in-Err.ensures.found

pub returns-then-is_empty-clause-found : goal.returns-then-is_empty-clause-found
returns-then-is_empty-clause-found c =
    let past : length c.args.ats.now ≤ c.loop-place.place-index = omega arith in
    let none : length c.loop-place.docs.items ≡ 0 = search rules in
    if_found (Unit {0}) _ (record { at = c.loop-place.at; what = Tiling }) _ c.wrong-then-is_empty.ensures
    (breaks_behind c.args.file.now c.args.ats.now c.loop-place.docs.items c.loop-place.place-index c.loop-place.at c.loop-place.invariant past (λ some rest. omega (arith, none)))

pub returns-then-not-is_rest-clause-found : goal.returns-then-not-is_rest-clause-found
returns-then-not-is_rest-clause-found c =
    let past : length c.args.ats.now ≤ c.loop-place.place-index = omega arith in
    if_found (Unit {0}) _ (record { at = c.loop-place.at; what = Tiling }) _ c.wrong-then-not-is_rest.ensures
    (breaks_behind c.args.file.now c.args.ats.now c.loop-place.docs.items c.loop-place.place-index c.loop-place.at c.loop-place.invariant past (λ some rest. false≢true (sym c.if-not-is_rest.true ∙ c.is_rest.ensures.1 rest)))
