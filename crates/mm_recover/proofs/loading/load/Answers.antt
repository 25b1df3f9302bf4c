use Rattle.std.proofs.Common.{◌∙◌}
use Rattle.std.proofs.lemmas.Result.{err_from_is_err_and, on_ok_weaker}
use Rattle.mm_outside.specs.Told.{image_of}
use Rattle.mm_recover.proofs.Afterwards.{names_told}
use Rattle.mm_recover.proofs.Headers.{err_weaker}
use Rattle.mm_recover.proofs.Loads.{is_loaded, fault_long, fault_log, device_load, quiet_none}
use Rattle.mm_recover.proofs.loading.load.Goals as goal

pub returns-in_err-names-clause-fault : goal.returns-in_err-names-clause-fault
returns-in_err-names-clause-fault g c = let p = err_from_is_err_and c.from_residual.result c.from_residual.ensures.1 in rw (p.1, p.2) (λ t is. device_load (image_of t) c.args.name.now c.in_err-names.field-0.0)

pub returns-in_err-log-clause-fault : goal.returns-in_err-log-clause-fault
returns-in_err-log-clause-fault g c =
    let p = err_from_is_err_and c.from_residual-in_err-log.result c.from_residual-in_err-log.ensures.1 in
    rw (p.1, p.2) (λ t is. fault_log (image_of t) c.args.name.now c.in_err-log.field-0.0 (c.in_err-log.ensures.fault t (c.in_ok-names.ensures.told ∙ is)
    (names_told _ c.new-names.result.items c.names.new.out.items c.deref.result.now c.new-names.ensures.items c.deref.ensures.value c.in_ok-names.ensures.names t is)))

pub load_files-requires : goal.load_files-requires
load_files-requires g c = record { views = c.requires.views; name = c.requires.name; can = c.in_ok-log.ensures.can }

pub returns-clause-loaded : goal.returns-clause-loaded
returns-clause-loaded g c =
    let log = c.in_ok-log.log in
    let name = c.args.name.now in
    on_ok_weaker c.load_files.result (λ first t is.
    let named = names_told _ c.new-names.result.items c.names.new.out.items c.deref.result.now c.new-names.ensures.items c.deref.ensures.value c.in_ok-names.ensures.names t is in
    let reads = c.in_ok-log.ensures.reads t (c.in_ok-names.ensures.told ∙ is) named in
    is_loaded (image_of t) name log.lsn log.numbers.items log.sections.items reads c.load_files.new.views c.requires.name (first t (c.in_ok-log.ensures.told ∙ c.in_ok-names.ensures.told ∙ is)))
    c.load_files.ensures.ok

pub returns-clause-fault : goal.returns-clause-fault
returns-clause-fault g c =
    let log = c.in_ok-log.log in
    let name = c.args.name.now in
    err_weaker c.load_files.result _ _ (λ e long t is.
    let named = names_told _ c.new-names.result.items c.names.new.out.items c.deref.result.now c.new-names.ensures.items c.deref.ensures.value c.in_ok-names.ensures.names t is in
    let reads = c.in_ok-log.ensures.reads t (c.in_ok-names.ensures.told ∙ is) named in
    fault_long (image_of t) name log.lsn log.numbers.items log.sections.items reads e (long t (c.in_ok-log.ensures.told ∙ c.in_ok-names.ensures.told ∙ is)))
    c.load_files.ensures.err

pub returns-in_err-names-clause-quiet : goal.returns-in_err-names-clause-quiet
returns-in_err-names-clause-quiet g c = quiet_none c.args.views.now c.requires.views

pub returns-in_err-log-clause-quiet : goal.returns-in_err-log-clause-quiet
returns-in_err-log-clause-quiet g c = quiet_none c.args.views.now c.requires.views
