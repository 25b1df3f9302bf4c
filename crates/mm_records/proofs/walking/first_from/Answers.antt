use Rattle.std.proofs.Common.{◌≡◌, Some, sym, ◌∙◌, arith}
use Rattle.std.proofs.lemmas.Bool.{false≢true}
use Rattle.mm_links.specs.Links.{first_of}
use Rattle.mm_extents.proofs.Spots.{none_of}
use Rattle.mm_records.proofs.WalkLaws.{start, low_here, header_inside, found, further, no_more, few_steps}
use Rattle.mm_records.proofs.walking.first_from.Goals as goal

pub loop-step-init : goal.loop-step-init
loop-step-init c = λ free s name rest r. start c.args.draft.now.image free s name rest c.args.from r

pub named_spot-requires : goal.named_spot-requires
named_spot-requires c =
    let w = c.loop-step.invariant c.requires.0 c.requires.1.0 c.requires.1.1.0 c.requires.1.1.1.0 c.requires.1.1.1.1 in
    (first_of w.rest, (w.now.here, low_here c.args.draft.now.image c.requires.0 c.requires.1.0 c.requires.1.1.0 c.requires.1.1.1.0 c.loop-step.step c.loop-step.at w))

pub read_extent-header-requires : goal.read_extent-header-requires
read_extent-header-requires c =
    let w = c.loop-step.invariant c.requires.0 c.requires.1.0 c.requires.1.1.0 c.requires.1.1.1.0 c.requires.1.1.1.1 in
    let low = low_here c.args.draft.now.image c.requires.0 c.requires.1.0 c.requires.1.1.0 c.requires.1.1.1.0 c.loop-step.step c.loop-step.at w in
    let here : first_of w.rest ≡ Some (c.in-Some.extent.file, c.in-Some.extent.ofs) = c.in-Some.ensures.some (first_of w.rest) w.now.here low in
    header_inside c.args.draft.now.image c.requires.0 c.requires.1.0 c.requires.1.1.0 c.requires.1.1.1.0 c.loop-step.step c.loop-step.at w (c.in-Some.extent.file, c.in-Some.extent.ofs) here

pub returns-in_default : goal.returns-in_default
returns-in_default c = λ free s name rest r.
    let w = c.loop-step.invariant free s name rest r in
    let low = low_here c.args.draft.now.image free s name rest c.loop-step.step c.loop-step.at w in
    let none = none_of _ c.named_spot.result c.named_spot.ensures.none (λ x e. c.in_default.not-Some x e) in
    no_more c.args.draft.now.image free s name rest c.loop-step.step c.loop-step.at w (none (first_of w.rest) w.now.here low)

pub returns-else-is_null : goal.returns-else-is_null
returns-else-is_null c = λ free s name rest r.
    let w = c.loop-step.invariant free s name rest r in
    let low = low_here c.args.draft.now.image free s name rest c.loop-step.step c.loop-step.at w in
    let here : first_of w.rest ≡ Some (c.in-Some.extent.file, c.in-Some.extent.ofs) = c.in-Some.ensures.some (first_of w.rest) w.now.here low in
    found c.args.draft.now.image free s name rest c.loop-step.step c.loop-step.at w (c.in-Some.extent.file, c.in-Some.extent.ofs) here c.read_extent-header.result c.read_extent-header.ensures
    (λ z. false≢true (sym c.if-is_null.false ∙ c.is_null.ensures.1 z))

pub loop-step-preserved : goal.loop-step-preserved
loop-step-preserved c = λ free s name rest r.
    let w = c.loop-step.invariant free s name rest r in
    let low = low_here c.args.draft.now.image free s name rest c.loop-step.step c.loop-step.at w in
    let here : first_of w.rest ≡ Some (c.in-Some.extent.file, c.in-Some.extent.ofs) = c.in-Some.ensures.some (first_of w.rest) w.now.here low in
    further c.args.draft.now.image free s name rest c.loop-step.step c.loop-step.at w (c.in-Some.extent.file, c.in-Some.extent.ofs) here c.read_extent-header.result c.read_extent-header.ensures
    (c.is_null.ensures.0 c.if-is_null.true)

pub unreachable-requires : goal.unreachable-requires
unreachable-requires c =
    let w = c.loop-step.invariant c.requires.0 c.requires.1.0 c.requires.1.1.0 c.requires.1.1.1.0 c.requires.1.1.1.1 in
    let most = few_steps c.args.draft.now.image c.requires.0 c.requires.1.0 c.requires.1.1.0 c.requires.1.1.1.0 c.loop-step.step c.loop-step.at w c.args.from c.requires.1.1.1.1 in
    let past = c.loop-step-test.false in
    omega (arith, most, past)
