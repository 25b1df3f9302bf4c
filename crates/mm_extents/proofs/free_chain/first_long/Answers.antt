use Rattle.std.proofs.Common.{◌≡◌, ◌∙◌, ℕ, pos, Some, sym, ap, arith, rules}
use Rattle.std.specs.Prelude.{FitsSigned}
use Rattle.std.specs.Int.{w32}
use Rattle.std.proofs.lemmas.Int.{to_z-of_z}
use Rattle.mm_frames.specs.declared.extent_header.ExtentHeader.{ExtentHeader}
use Rattle.mm_links.specs.Links.{first_of}
use Rattle.mm_extents.specs.FreeExtents.{extent_at}
use Rattle.mm_extents.proofs.FreeWalks.{nonneg, same_number}
use Rattle.mm_extents.proofs.FreeWalks.{start, stepped, fits, ends, at_of, none_left, low_first, listed_at}
use Rattle.mm_extents.proofs.Spots.{none_of}
use Rattle.mm_extents.proofs.free_chain.first_long.Goals as goal

pub loop-step-init : goal.loop-step-init
loop-step-init c = λ list l. start c.args.draft.now.image list c.args.len c.args.head l

pub named_spot-requires : goal.named_spot-requires
named_spot-requires c =
    let w = c.loop-step.invariant c.requires.0 c.requires.1 in
    let low = low_first c.args.draft.now.image c.requires.0 c.args.len c.args.head c.requires.1 c.loop-step.step c.loop-step.next w in
    (first_of w.rest, (w.here, low))

pub read_extent-header-requires : goal.read_extent-header-requires
read_extent-header-requires c =
    let w = c.loop-step.invariant c.requires.0 c.requires.1 in
    let low = low_first c.args.draft.now.image c.requires.0 c.args.len c.args.head c.requires.1 c.loop-step.step c.loop-step.next w in
    let here : first_of w.rest ≡ Some (c.in-Some.at.file, c.in-Some.at.ofs) = c.in-Some.ensures.some (first_of w.rest) w.here low in
    (listed_at c.args.draft.now.image c.requires.0 c.args.len c.args.head c.requires.1 c.loop-step.step c.loop-step.next w (c.in-Some.at.file, c.in-Some.at.ofs) here).inside

pub natural-requires : goal.natural-requires
natural-requires c =
    let w = c.loop-step.invariant c.requires.0 c.requires.1 in
    let low = low_first c.args.draft.now.image c.requires.0 c.args.len c.args.head c.requires.1 c.loop-step.step c.loop-step.next w in
    let here : first_of w.rest ≡ Some (c.in-Some.at.file, c.in-Some.at.ofs) = c.in-Some.ensures.some (first_of w.rest) w.here low in
    let b = listed_at c.args.draft.now.image c.requires.0 c.args.len c.args.head c.requires.1 c.loop-step.step c.loop-step.next w (c.in-Some.at.file, c.in-Some.at.ofs) here in
    let f : FitsSigned w32 c.read_extent-header.result.len = search rules in
    nonneg _ b.len (to_z-of_z w32 c.read_extent-header.result.len f ∙ ap (λ (h : ExtentHeader). h.len) c.read_extent-header.ensures ∙ b.len_is)

pub returns-then-natural-len-clause-some : goal.returns-then-natural-len-clause-some
returns-then-natural-len-clause-some c = λ list l.
    let w = c.loop-step.invariant list l in
    let low = low_first c.args.draft.now.image list c.args.len c.args.head l c.loop-step.step c.loop-step.next w in
    let here : first_of w.rest ≡ Some (c.in-Some.at.file, c.in-Some.at.ofs) = c.in-Some.ensures.some (first_of w.rest) w.here low in
    let f : FitsSigned w32 c.read_extent-header.result.len = search rules in
    let same : (n : ℕ) → (extent_at c.args.draft.now.image (c.in-Some.at.file, c.in-Some.at.ofs)).len ≡ pos n → n ≡ c.natural.result =
    λ n e. same_number n c.natural.result (sym e ∙ ap (λ (h : ExtentHeader). h.len) (sym c.read_extent-header.ensures) ∙ sym (to_z-of_z w32 c.read_extent-header.result.len f) ∙ c.natural.ensures) in
    let enough = c.if-natural-len.true in
    fits c.args.draft.now.image list c.args.len c.args.head l c.loop-step.step c.loop-step.next (c.in-Some.at.file, c.in-Some.at.ofs) (at_of c.args.draft.now.image list c.args.len c.args.head l c.loop-step.step c.loop-step.next w (c.in-Some.at.file, c.in-Some.at.ofs) here) (λ n e. let s = same n e in omega (arith, s, enough))

pub loop-step-preserved : goal.loop-step-preserved
loop-step-preserved c = λ list l.
    let w = c.loop-step.invariant list l in
    let low = low_first c.args.draft.now.image list c.args.len c.args.head l c.loop-step.step c.loop-step.next w in
    let here : first_of w.rest ≡ Some (c.in-Some.at.file, c.in-Some.at.ofs) = c.in-Some.ensures.some (first_of w.rest) w.here low in
    let f : FitsSigned w32 c.read_extent-header.result.len = search rules in
    let same : (n : ℕ) → (extent_at c.args.draft.now.image (c.in-Some.at.file, c.in-Some.at.ofs)).len ≡ pos n → n ≡ c.natural.result =
    λ n e. same_number n c.natural.result (sym e ∙ ap (λ (h : ExtentHeader). h.len) (sym c.read_extent-header.ensures) ∙ sym (to_z-of_z w32 c.read_extent-header.result.len f) ∙ c.natural.ensures) in
    let few = c.if-natural-len.false in
    stepped c.args.draft.now.image list c.args.len c.args.head l c.loop-step.step c.loop-step.next (c.in-Some.at.file, c.in-Some.at.ofs) c.read_extent-header.result.xnext (at_of c.args.draft.now.image list c.args.len c.args.head l c.loop-step.step c.loop-step.next w (c.in-Some.at.file, c.in-Some.at.ofs) here) (ap (λ (h : ExtentHeader). h.xnext) c.read_extent-header.ensures) (λ n e. let s = same n e in omega (arith, s, few))

pub returns-in_default-clause-none : goal.returns-in_default-clause-none
returns-in_default-clause-none c = λ list l.
    let w = c.loop-step.invariant list l in
    let low = low_first c.args.draft.now.image list c.args.len c.args.head l c.loop-step.step c.loop-step.next w in
    let none = none_of _ c.named_spot.result c.named_spot.ensures.none (λ x e. c.in_default.not-Some x e) in
    none_left c.args.draft.now.image list c.args.len c.args.head l c.loop-step.step c.loop-step.next w (none (first_of w.rest) w.here low)

pub unreachable-requires : goal.unreachable-requires
unreachable-requires c =
    let w = c.loop-step.invariant c.requires.0 c.requires.1 in
    let most = ends c.args.draft.now.image c.requires.0 c.args.len c.args.head c.requires.1 c.loop-step.step c.loop-step.next w in
    let past = c.loop-step-test.false in
    omega (arith, most, past)
