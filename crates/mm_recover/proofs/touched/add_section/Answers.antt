use Rattle.std.proofs.Common.{sym, ◌∙◌, ap}
use Rattle.std.proofs.lemmas.Result.{IfOk-weaker}
use Rattle.mm_recover.specs.Laying.{parts_entries, newer_entries}
use Rattle.mm_recover.proofs.NewerAsks.{not_newer, is_newer}
use Rattle.mm_recover.proofs.TouchedNames.{adds_none, adds_as}
use Rattle.mm_recover.proofs.touched.add_section.Goals as goal

pub returns-then-section-lsn : goal.returns-then-section-lsn
returns-then-section-lsn c = adds_as _ _ c.args.names c.args.names (sym (not_newer c.args.lsn c.args.section.now c.if-section-lsn.true)) (adds_none c.args.names)

pub returns : goal.returns
returns c = IfOk-weaker c.add_parts.result _ _ (λ new adds. adds_as (parts_entries c.as_slice.result.now) (newer_entries c.args.lsn c.args.section.now) c.args.names new (ap parts_entries c.as_slice.ensures ∙ sym (is_newer c.args.lsn c.args.section.now c.if-section-lsn.false)) adds) c.add_parts.ensures
