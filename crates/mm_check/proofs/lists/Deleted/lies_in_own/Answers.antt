use Rattle.std.proofs.Common.{sym, ◌∙◌, ap, rules}
use Rattle.std.specs.Prelude.{FitsSigned}
use Rattle.std.specs.Int.{w32}
use Rattle.std.proofs.lemmas.Int.{to_z-of_z}
use Rattle.mm_frames.specs.declared.extent_header.ExtentHeader.{ExtentHeader}
use Rattle.mm_check.specs.ExtentChain.{nat_of}
use Rattle.mm_check.proofs.CodeTests.{nonneg_abs, own_none, own_is}
use Rattle.mm_check.proofs.lists.Deleted.lies_in_own.Goals as goal

pub returns-then-not-is_known : goal.returns-then-not-is_known
returns-then-not-is_known c =
    let s = c.args.self.now in
    own_none c.args.self.now.views.now.private c.args.self.now.own.now c.args.at c.args.extent_ofs _ c.is_known.result (sym (to_z-of_z w32 c.args.extent_ofs c.ranges.extent_ofs) ∙ nonneg_abs _ c.if-extent_ofs-lt0.false)
    (c.is_known.ensures c.args.self.now.own.now c.args.self.now.extents.known) c.if-not-is_known.true

pub read_extent-requires : goal.read_extent-requires
read_extent-requires c = (c.args.self.now.extents.inside _ (sym (c.is_known.ensures c.args.self.now.own.now c.args.self.now.extents.known) ∙ c.if-not-is_known.false)).inside

pub returns : goal.returns
returns c =
    let f : FitsSigned w32 c.read_extent.result.len = search rules in
    own_is c.args.self.now.views.now.private c.args.self.now.own.now c.args.at c.args.extent_ofs _ c.size.result c.lies_in.result (sym (to_z-of_z w32 c.args.extent_ofs c.ranges.extent_ofs) ∙ nonneg_abs _ c.if-extent_ofs-lt0.false)
    (sym (c.is_known.ensures c.args.self.now.own.now c.args.self.now.extents.known) ∙ c.if-not-is_known.false)
    (c.size.ensures ∙ ap nat_of (to_z-of_z w32 c.read_extent.result.len f) ∙ ap (λ (h : ExtentHeader). nat_of h.len) c.read_extent.ensures) c.lies_in.ensures
