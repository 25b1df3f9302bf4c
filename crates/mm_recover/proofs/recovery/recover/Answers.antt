use Rattle.std.proofs.Common.{map, string_bytes, sym, ◌∙◌, ap, subst}
use Rattle.std.proofs.lemmas.Result.{err_from_is_err_and}
use Rattle.mm_outside.specs.Told.{image_of}
use Rattle.mm_crash.specs.Journal.{AllCan}
use Rattle.mm_journal.proofs.Real.{the_format}
use Rattle.mm_recover.specs.Faults.{fault_of}
use Rattle.mm_recover.proofs.Afterwards.{settles_some, settles_same, keeps_some, keeps_some_settled, device_fault, device_only, settled_only, fault_settled, replays_all, ends_recovered, keeps_recovery, keeps_settled, touched_as}
use Rattle.mm_recover.proofs.Headers.{err_weaker, on_and}
use Rattle.mm_recover.proofs.Replayed.{of_device}
use Rattle.mm_recover.proofs.recovery.recover.Goals as goal

-- ---- the first syncs failed

pub returns-in_err-names-clause-any_moment : goal.returns-in_err-names-clause-any_moment
returns-in_err-names-clause-any_moment g c = keeps_some _ _ c.settle.ensures.cut

pub returns-in_err-names-clause-since_settled : goal.returns-in_err-names-clause-since_settled
returns-in_err-names-clause-since_settled g c = keeps_some_settled _ _ c.settle.ensures.cut

pub returns-in_err-names-clause-fault : goal.returns-in_err-names-clause-fault
returns-in_err-names-clause-fault g c = let p = err_from_is_err_and c.from_residual.result c.from_residual.ensures.1 in rw (p.1, p.2) (λ t is. device_fault (image_of t) (fault_of c.in_err-names.field-0.0) (of_device c.in_err-names.field-0.0))

pub returns-in_err-names-clause-unwritten : goal.returns-in_err-names-clause-unwritten
returns-in_err-names-clause-unwritten g c = let p = err_from_is_err_and c.from_residual.result c.from_residual.ensures.1 in rw (p.1, p.2) (device_only _ _ (fault_of c.in_err-names.field-0.0) (of_device c.in_err-names.field-0.0))

-- ---- the journal is bad, or wasn't read

pub returns-in_err-log-clause-any_moment : goal.returns-in_err-log-clause-any_moment
returns-in_err-log-clause-any_moment g c = keeps_some _ _ (settles_some _ _ (settles_same _ _ _ c.in_ok-names.ensures.made c.read_log.ensures.told))

pub returns-in_err-log-clause-since_settled : goal.returns-in_err-log-clause-since_settled
returns-in_err-log-clause-since_settled g c = keeps_some_settled _ _ (settles_some _ _ (settles_same _ _ _ c.in_ok-names.ensures.made c.read_log.ensures.told))

pub returns-in_err-log-clause-fault : goal.returns-in_err-log-clause-fault
returns-in_err-log-clause-fault g c = let p = err_from_is_err_and c.from_residual-in_err-log.result c.from_residual-in_err-log.ensures.1 in rw (p.1, p.2)
    (fault_settled _ _ (map string_bytes c.deref.result.now) c.in_err-log.field-0.0 c.in_ok-names.ensures.made (λ t is. ap (map string_bytes) c.deref.ensures.value ∙ c.in_ok-names.ensures.names t is) c.in_err-log.ensures.fault)

pub returns-in_err-log-clause-unwritten : goal.returns-in_err-log-clause-unwritten
returns-in_err-log-clause-unwritten g c = let p = err_from_is_err_and c.from_residual-in_err-log.result c.from_residual-in_err-log.ensures.1 in rw (p.1, p.2)
    (settled_only _ _ c.in_err-log.field-0.0 (settles_same _ _ _ c.in_ok-names.ensures.made c.read_log.ensures.told))

-- ---- memory was wanting for the names

pub returns-in_err-names-2-clause-any_moment : goal.returns-in_err-names-2-clause-any_moment
returns-in_err-names-2-clause-any_moment g c = keeps_some _ _ (settles_some _ _ (settles_same _ _ _ c.in_ok-names.ensures.made c.in_ok-log.ensures.told))

pub returns-in_err-names-2-clause-since_settled : goal.returns-in_err-names-2-clause-since_settled
returns-in_err-names-2-clause-since_settled g c = keeps_some_settled _ _ (settles_some _ _ (settles_same _ _ _ c.in_ok-names.ensures.made c.in_ok-log.ensures.told))

pub returns-in_err-names-2-clause-fault : goal.returns-in_err-names-2-clause-fault
returns-in_err-names-2-clause-fault g c = let p = err_from_is_err_and c.from_residual-in_err-names-2.result c.from_residual-in_err-names-2.ensures.1 in rw (p.1, p.2) (λ t is. tt)

pub returns-in_err-names-2-clause-unwritten : goal.returns-in_err-names-2-clause-unwritten
returns-in_err-names-2-clause-unwritten g c = let p = err_from_is_err_and c.from_residual-in_err-names-2.result c.from_residual-in_err-names-2.ensures.1 in rw (p.1, p.2) tt

-- ---- the end

pub returns-clause-replays : goal.returns-clause-replays
returns-clause-replays g c =
    let log = c.in_ok-log.log in
    on_and c.replay.result _ _ _ _ (λ r made last replayed. replays_all _ _ _ _ (map string_bytes c.deref.result.now) log.lsn log.numbers.items log.sections.items (map string_bytes c.deref-3.result.now) c.in_ok-names.ensures.made c.in_ok-log.ensures.told (λ t is. ap (map string_bytes) c.deref.ensures.value ∙ c.in_ok-names.ensures.names t is) c.in_ok-log.ensures.reads c.in_ok-log.ensures.can r last replayed made)
    c.replay.ensures.made c.replay.ensures.last c.replay.ensures.replayed

pub returns-clause-recovered : goal.returns-clause-recovered
returns-clause-recovered g c =
    let log = c.in_ok-log.log in
    on_and c.replay.result _ _ _ _ (λ r made last replayed. ends_recovered _ _ _ _ (map string_bytes c.deref.result.now) log.lsn log.numbers.items log.sections.items (map string_bytes c.deref-3.result.now) c.in_ok-names.ensures.made c.in_ok-log.ensures.told (λ t is. ap (map string_bytes) c.deref.ensures.value ∙ c.in_ok-names.ensures.names t is) c.in_ok-log.ensures.reads
    (touched_as log.lsn log.sections.items c.unwrap_or.result c.deref-2.result.now c.in_ok-names-2.names.items c.deref-3.result.now c.unwrap_or.ensures c.deref-2.ensures.value c.deref-3.ensures.value c.in_ok-names-2.ensures) r last made)
    c.replay.ensures.made c.replay.ensures.last c.replay.ensures.replayed

pub returns-clause-any_moment : goal.returns-clause-any_moment
returns-clause-any_moment g c =
    let log = c.in_ok-log.log in
    keeps_recovery _ _ _ _ (map string_bytes c.deref.result.now) log.lsn log.numbers.items log.sections.items (map string_bytes c.deref-3.result.now) c.in_ok-names.ensures.made c.in_ok-log.ensures.told (λ t is. ap (map string_bytes) c.deref.ensures.value ∙ c.in_ok-names.ensures.names t is) c.in_ok-log.ensures.reads
    (touched_as log.lsn log.sections.items c.unwrap_or.result c.deref-2.result.now c.in_ok-names-2.names.items c.deref-3.result.now c.unwrap_or.ensures c.deref-2.ensures.value c.deref-3.ensures.value c.in_ok-names-2.ensures) c.replay.ensures.cut

pub returns-clause-since_settled : goal.returns-clause-since_settled
returns-clause-since_settled g c =
    let log = c.in_ok-log.log in
    keeps_settled _ _ _ _ (map string_bytes c.deref.result.now) log.lsn log.numbers.items log.sections.items (map string_bytes c.deref-3.result.now) c.in_ok-names.ensures.made c.in_ok-log.ensures.told (λ t is. ap (map string_bytes) c.deref.ensures.value ∙ c.in_ok-names.ensures.names t is) c.in_ok-log.ensures.reads
    (touched_as log.lsn log.sections.items c.unwrap_or.result c.deref-2.result.now c.in_ok-names-2.names.items c.deref-3.result.now c.unwrap_or.ensures c.deref-2.ensures.value c.deref-3.ensures.value c.in_ok-names-2.ensures) c.replay.ensures.cut

pub returns-clause-fault : goal.returns-clause-fault
returns-clause-fault g c = err_weaker c.replay.result _ _ (λ e is t told. device_fault (image_of t) e is) c.replay.ensures.err

pub returns-clause-unwritten : goal.returns-clause-unwritten
returns-clause-unwritten g c = err_weaker c.replay.result _ _ (λ e is. device_only _ _ e is) c.replay.ensures.err

pub replay-requires : goal.replay-requires
replay-requires g c = record { can = c.in_ok-log.ensures.can; numbers = c.in_ok-log.ensures.numbers }

pub touched-requires : goal.touched-requires
touched-requires g c = subst (AllCan the_format) (sym c.deref-2.ensures.value) c.in_ok-log.ensures.can
