use Rattle.std.proofs.Common.{refl, ◌∙◌, ap}
use Rattle.std.proofs.lemmas.Result.{err_from_is_err_and}
use Rattle.mm_outside.specs.Told.{image_of}
use Rattle.mm_crash.specs.Overlay.{size}
use Rattle.mm_recover.specs.Loading.{files_with}
use Rattle.mm_recover.proofs.Loads.{device_long, takes_as, none_is}
use Rattle.mm_recover.proofs.loading.load_file.Goals as goal

pub returns-in_err-content-clause-err : goal.returns-in_err-content-clause-err
returns-in_err-content-clause-err g c = let p = err_from_is_err_and c.from_residual.result c.from_residual.ensures.1 in rw (p.1, p.2) (λ t is. device_long c.args.file (files_with (image_of t) c.args.log.now.lsn c.args.log.now.sections.items c.args.name.now c.args.file) c.in_err-content.field-0.0)

pub returns-in-Some-clause-err : goal.returns-in-Some-clause-err
returns-in-Some-clause-err g c = λ t is. (refl, c.in-Some.ensures.some.0 ∙ ap size (c.in_ok-content.ensures.content t is), c.in-Some.ensures.some.1)

pub take_in-requires-clause-short : goal.take_in-requires-clause-short
take_in-requires-clause-short g c = none_is c.excess.result _ c.excess.ensures.none (λ x f. c.in_default.not-Some x f)

pub returns-clause-ok : goal.returns-clause-ok
returns-clause-ok g c = λ t is. takes_as c.args.file _ _ c.args.views.now c.take_in.new.views (c.in_ok-content.ensures.content t is) c.in_ok-take_in.ensures.ok

pub returns-in_err-take_in-clause-err : goal.returns-in_err-take_in-clause-err
returns-in_err-take_in-clause-err g c = let p = err_from_is_err_and c.from_residual-in_err-take_in.result c.from_residual-in_err-take_in.ensures.1 in rw (p.1, p.2) (λ t is. tt)
