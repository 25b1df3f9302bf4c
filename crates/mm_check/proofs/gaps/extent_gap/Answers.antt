use Rattle.std.proofs.Common.{ℕ, ◌+◌, ◌<◌, ◌^◌, refl, ap, ◌∙◌, arith, rules}
use Rattle.std.specs.Prelude.{FitsSigned}
use Rattle.std.specs.Int.{w32}
use Rattle.std.proofs.lemmas.Int.{to_z-of_z}
use Rattle.mm_frames.specs.declared.extent_header.ExtentHeader.{ExtentHeader}
use Rattle.mm_check.specs.ExtentChain.{nat_of}
use Rattle.mm_check.proofs.PhaseLoops.{gap_found}
use Rattle.mm_check.proofs.gaps.extent_gap.Goals as goal

pub returns : goal.returns
returns c =
    let f : FitsSigned w32 c.read_extent.result.len = search rules in
    let file = c.requires.data_file in
    let ofs = c.requires.low in
    let low : c.args.extent.0 < 2 ^ 32 = omega (arith, file) in
    let lows : c.args.extent.1 < 2 ^ 32 = omega (arith, ofs) in
    gap_found c.gap_in.result c.args.views.now.private c.args.extent _ _ c.in_ok-blocks.blocks.items c.args.map.now refl
    (ap (λ (n : ℕ). c.args.extent.1 + n) (c.size-len.ensures ∙ ap nat_of (to_z-of_z w32 c.read_extent.result.len f) ∙ ap (λ (h : ExtentHeader). nat_of h.len) c.read_extent.ensures))
    low lows c.in_ok-blocks.ensures c.gap_in.ensures
