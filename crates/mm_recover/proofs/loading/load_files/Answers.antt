use Rattle.std.proofs.Common.{◌≡◌, refl, ◌∙◌, subst, arith}
use Rattle.std.proofs.lemmas.Result.{err_from_is_err_and}
use Rattle.mm_outside.specs.Told.{image_of}
use Rattle.mm_recover.specs.Loading.{files_with, HasFirst}
use Rattle.mm_recover.proofs.Loads.{first_none, first_next, first_long, quiet_none}
use Rattle.mm_recover.proofs.loading.load_files.Goals as goal

pub loop-place-init : goal.loop-place-init
loop-place-init g c = record {
  within = omega arith;
  first = λ t is. first_none (files_with (image_of t) c.args.log.now.lsn c.args.log.now.sections.items c.args.name.now) c.args.views.now c.requires.views;
  quiet = quiet_none c.args.views.now c.requires.views;
  told = refl;
  moment = refl;
  faults = omega arith;
}

pub loop-place-preserved : goal.loop-place-preserved
loop-place-preserved g c =
    let e = c.in_ok-load_file.ensures in
    let inv = c.loop-place.invariant in
    record {
      within = omega (arith, c.loop-place-test.true);
      first = λ t is. first_next (files_with (image_of t) c.args.log.now.lsn c.args.log.now.sections.items c.args.name.now) c.loop-place.place c.file_at.result _ _ c.file_at.ensures.order (inv.first t is) (e.ok t (inv.told ∙ is));
      quiet = e.quiet;
      told = e.told ∙ inv.told;
      moment = e.moment ∙ inv.moment;
      faults = omega (arith, e.cause.later, inv.faults);
    }

pub returns-in_err-load_file-clause-err : goal.returns-in_err-load_file-clause-err
returns-in_err-load_file-clause-err g c =
    let p = err_from_is_err_and c.from_residual.result c.from_residual.ensures.1 in
    let inv = c.loop-place.invariant in
    rw (p.1, p.2) (λ t is. first_long (files_with (image_of t) c.args.log.now.lsn c.args.log.now.sections.items c.args.name.now) c.loop-place.place c.file_at.result _ c.file_at.ensures.file c.file_at.ensures.order (inv.first t is) c.in_err-load_file.field-0.0 (c.in_err-load_file.ensures.err t (inv.told ∙ is)))

pub returns-clause-ok : goal.returns-clause-ok
returns-clause-ok g c = λ t is.
    let last : c.loop-place.place ≡ 9 = omega (arith, c.loop-place-test.false, c.loop-place.invariant.within) in
    subst (λ n. HasFirst (files_with (image_of t) c.args.log.now.lsn c.args.log.now.sections.items c.args.name.now) n c.loop-place.views) last (c.loop-place.invariant.first t is)

pub load_file-requires : goal.load_file-requires
load_file-requires g c = record { file = c.file_at.ensures.file; name = c.requires.name; can = c.requires.can; quiet = c.loop-place.invariant.quiet }
