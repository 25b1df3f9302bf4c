use Rattle.std.proofs.Common.{◌≡◌, ◌-◌, false, [], List, length, take, refl, sym, ◌∙◌, subst, arith}
use Rattle.std.proofs.lemmas.Result.{err_from_is_err_and}
use Rattle.mm_section.specs.declared.section.Section.{Section}
use Rattle.mm_crash.specs.Journal.{AllCan}
use Rattle.mm_journal.proofs.Real.{the_format}
use Rattle.mm_recover.specs.Reading.{AreSmall, HasFront, journal_in}
use Rattle.mm_recover.proofs.EachAsk.{number_at}
use Rattle.mm_recover.proofs.Fronts.{front_none, front_at_index, fault_at_index}
use Rattle.mm_recover.proofs.journal.read_front.Goals as goal

pub loop-at-init : goal.loop-at-init
loop-at-init g c =
    let none = sym c.new-sections.ensures.items in
    record {
      within = omega arith;
      small = subst AreSmall none tt;
      can = subst (AllCan the_format) none tt;
      reads = λ t is are. subst (λ (l : List Section). HasFront c.args.lsn (journal_in t) [] l) none (front_none c.args.lsn (journal_in t));
      told = refl;
      moment = refl;
      faults = omega arith;
    }

pub loop-at-preserved : goal.loop-at-preserved
loop-at-preserved g c =
    let e = c.in_ok-sections.ensures in
    let inv = c.loop-at.invariant in
    record {
      within = omega (arith, c.loop-at-test.true);
      small = e.small;
      can = e.can;
      reads = λ t is are. front_at_index c.args.lsn (journal_in t) c.args.numbers.now c.loop-at.at (omega (arith, c.loop-at-test.true)) are c.loop-at.sections.items c.in_ok-sections.sections.items (inv.reads t is are) (e.takes t (inv.told ∙ is));
      told = e.told ∙ inv.told;
      moment = e.moment ∙ inv.moment;
      faults = omega (arith, e.cause.later, inv.faults);
    }

pub read_one-requires : goal.read_one-requires
read_one-requires g c = record { small = c.loop-at.invariant.small; can = c.loop-at.invariant.can; number = number_at c.args.numbers.now c.loop-at.at 0 (omega (arith, c.loop-at-test.true)) c.requires.numbers }

pub returns-in_err-sections-clause-fault : goal.returns-in_err-sections-clause-fault
returns-in_err-sections-clause-fault g c =
    let p = err_from_is_err_and c.from_residual.result c.from_residual.ensures.1 in
    let inv = c.loop-at.invariant in
    rw (p.1, p.2) (λ t is are. fault_at_index c.args.lsn (journal_in t) c.args.numbers.now c.loop-at.at (omega (arith, c.loop-at-test.true)) are false c.loop-at.sections.items (λ isnt. omega (arith, c.loop-at-test.true)) (inv.reads t is are) c.in_err-sections.field-0.0 (c.in_err-sections.ensures.fault t (inv.told ∙ is)))

pub returns-clause-reads : goal.returns-clause-reads
returns-clause-reads g c = λ t is are.
    let last : c.loop-at.at ≡ length c.args.numbers.now - 1 = omega (arith, c.loop-at-test.false, c.loop-at.invariant.within) in
    subst (λ n. HasFront c.args.lsn (journal_in t) (take n c.args.numbers.now) c.loop-at.sections.items) last (c.loop-at.invariant.reads t is are)
