use Rattle.std.proofs.Common.{List, ℕ, sym, ◌∙◌, ap, subst}
use Rattle.mm_outside.specs.Told.{image_of}
use Rattle.mm_crash.specs.Journal.{AllCan}
use Rattle.mm_journal.specs.Real.{disk_name}
use Rattle.mm_journal.proofs.Real.{the_format}
use Rattle.mm_recover.proofs.Loads.{laid_is}
use Rattle.mm_recover.proofs.loading.read_laid.Goals as goal

pub returns-clause-content : goal.returns-clause-content
returns-clause-content g c = λ t is. laid_is (image_of t) c.args.log.now.lsn c.args.log.now.sections.items c.deref-2.result.now c.unwrap_or.result c.args.file c.args.name.now c.deref.result.now c.in_ok-content.content c.in_ok-laid.laid
    c.unwrap_or.ensures c.deref-2.ensures.value (c.deref.ensures ∙ c.in_ok-own.ensures ∙ ap (λ (l : List ℕ). disk_name l c.args.file) c.bytes.ensures.is) (c.in_ok-content.ensures.content t is) c.in_ok-laid.ensures

pub overlay-requires-clause-can : goal.overlay-requires-clause-can
overlay-requires-clause-can g c = subst (AllCan the_format) (sym c.deref-2.ensures.value) c.requires.can
