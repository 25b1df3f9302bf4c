use Rattle.std.proofs.Common.{sym, ◌∙◌, ap}
use Rattle.std.proofs.lemmas.Result.{IfOk-weaker}
use Rattle.mm_recover.specs.Laying.{parts_entries, newer_entries}
use Rattle.mm_recover.proofs.NewerAsks.{not_newer, is_newer}
use Rattle.mm_recover.proofs.LaidOver.{lays_none, lays_as}
use Rattle.mm_recover.specs.Overlaid.{own_name}
use Rattle.mm_recover.proofs.overlaying.lay_section.Goals as goal

pub returns-then-section-lsn : goal.returns-then-section-lsn
returns-then-section-lsn c = lays_as (own_name c.args.file.now) _ _ c.args.content c.args.content (sym (not_newer c.args.lsn c.args.section.now c.if-section-lsn.true)) (lays_none (own_name c.args.file.now) c.args.content)

pub returns : goal.returns
returns c = IfOk-weaker c.lay_parts.result _ _ (λ new lays. lays_as (own_name c.args.file.now) (parts_entries c.as_slice.result.now) (newer_entries c.args.lsn c.args.section.now) c.args.content new (ap parts_entries c.as_slice.ensures ∙ sym (is_newer c.args.lsn c.args.section.now c.if-section-lsn.false)) lays) c.lay_parts.ensures
