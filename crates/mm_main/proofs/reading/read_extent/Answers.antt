use Rattle.std.proofs.Common.{◌+◌, ◌≤◌, ℕ, List, sym, refl, subst}
use Rattle.std.specs.Prelude.{All}
use Rattle.mm_main.specs.declared.chain.Link.TheVariants.{End}
use Rattle.mm_main.specs.declared.finding.What.{What}
use Rattle.mm_main.specs.declared.finding.What.TheVariants.{Extent}
use Rattle.mm_main.specs.Findings.{IsFinding, IsChained, IsTiled, Breaks}
use Rattle.mm_main.specs.Room.{file_len}
use Rattle.mm_main.proofs.ChainSteps.{if_found, all_inside}
use Rattle.mm_main.proofs.LayoutSteps.{if_found_then}
use Rattle.mm_main.proofs.ReadSteps.{holds_read, finding_of}
use Rattle.mm_main.proofs.reading.read_extent.Goals as goal

pub returns-in_default-clause-found : goal.returns-in_default-clause-found
returns-in_default-clause-found c = if_found (Unit {0}) _ (record { at = 8192; what = Extent }) _ c.wrong.ensures (refl, c.requires.size, c.requires.header, c.in_default.ensures.none)

pub returns-in-Err-clause-found : goal.returns-in-Err-clause-found
returns-in-Err-clause-found c =
    let opened = c.in-Some.ensures.some in
    if_found_then (Unit {0}) (Unit {0}) c.in-Err.fault _ _ (λ at what f. subst (λ (w : What). IsFinding c.args.file.now at w) (sym f.0) (opened.0, c.in-Some.extent.first, c.in-Some.extent.last, f.1, f.2, opened.2, f.3, f.4)) c.in-Err.ensures.found

pub docs_at-requires-clause-inside : goal.docs_at-requires-clause-inside
docs_at-requires-clause-inside c = subst (λ (ats : List ℕ). All (λ at. at + 16 ≤ file_len) ats) (sym c.deref.ensures.value) (all_inside c.args.file.now c.in-Some.extent.first c.in-Ok.ats.items End c.in-Ok.ensures.followed.0)

pub returns-clause-read : goal.returns-clause-read
returns-clause-read c =
    let opened = c.in-Some.ensures.some in
    let chained : IsChained c.args.file.now opened.0 c.in-Ok.ats.items = record { first = c.in-Some.extent.first; last = c.in-Some.extent.last; opened = opened.2; followed = c.in-Ok.ensures.followed.0; last_is = c.in-Ok.ensures.followed.1 } in
    let tiled = subst (λ (ats : List ℕ). IsTiled c.args.file.now c.in-Ok-docs_at.docs.items ats) c.deref.ensures.value c.in-Ok-docs_at.ensures.tiled in
    (opened.0, c.in-Ok-docs_at.docs.items, holds_read c.args.file.now opened.0 c.in-Ok.ats.items c.in-Ok-docs_at.docs.items chained tiled, (opened.1, refl))

pub returns-in-Err-docs_at-clause-found : goal.returns-in-Err-docs_at-clause-found
returns-in-Err-docs_at-clause-found c =
    let opened = c.in-Some.ensures.some in
    let chained : IsChained c.args.file.now opened.0 c.in-Ok.ats.items = record { first = c.in-Some.extent.first; last = c.in-Some.extent.last; opened = opened.2; followed = c.in-Ok.ensures.followed.0; last_is = c.in-Ok.ensures.followed.1 } in
    if_found_then (Unit {0}) (Unit {0}) c.in-Err-docs_at.fault _ _ (λ at what breaks. finding_of c.args.file.now opened.0 c.in-Ok.ats.items at what chained (subst (λ (ats : List ℕ). Breaks c.args.file.now ats at what) c.deref.ensures.value breaks)) c.in-Err-docs_at.ensures.found
