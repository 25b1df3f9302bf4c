use Rattle.std.proofs.Common.{ℕ, List, sym, ◌∙◌, subst}
use Rattle.std.proofs.lemmas.Result.{err_from_is_err_and}
use Rattle.mm_outside.specs.Told.{image_of}
use Rattle.mm_recover.specs.Reading.{AreNumbers, ReadsAs, journal_in}
use Rattle.mm_recover.proofs.LsnRead.{journal_fault}
use Rattle.mm_recover.proofs.log.read_log.Goals as goal

pub returns-in_err-sections-clause-fault : goal.returns-in_err-sections-clause-fault
returns-in_err-sections-clause-fault g c =
    let p = err_from_is_err_and c.from_residual-in_err-sections.result c.from_residual-in_err-sections.ensures.1 in
    rw (p.1, p.2) (λ t is named. journal_fault (image_of t) c.in_ok-lsn.lsn (c.in_ok-lsn.ensures.lsn t is) c.in_err-sections.field-0.0 (c.in_err-sections.ensures.fault t (c.in_ok-lsn.ensures.told ∙ is) (subst (AreNumbers (journal_in t) 0) (sym c.deref.ensures.value) (c.in_ok-numbers.ensures.all (image_of t) named))))

pub returns-clause-reads : goal.returns-clause-reads
returns-clause-reads g c = λ t is named. record { mark = c.in_ok-lsn.ensures.lsn t is; journal = subst (λ (l : List ℕ). ReadsAs c.in_ok-lsn.lsn (journal_in t) l c.in_ok-sections.sections.items) c.deref.ensures.value (c.in_ok-sections.ensures.reads t (c.in_ok-lsn.ensures.told ∙ is) (subst (AreNumbers (journal_in t) 0) (sym c.deref.ensures.value) (c.in_ok-numbers.ensures.all (image_of t) named))) }
