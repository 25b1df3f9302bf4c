use Rattle.std.proofs.Common.{◌-◌, ◌<◌, true, List, length, sym, ◌∙◌, subst, arith}
use mathlib.Core.Bool.{true≢false}
use Rattle.std.proofs.lemmas.Result.{IfOk-weaker}
use Rattle.mm_section.specs.declared.section.Section.{Section}
use Rattle.mm_recover.specs.Reading.{ReadsAs, journal_in}
use Rattle.mm_recover.proofs.EachAsk.{number_at}
use Rattle.mm_recover.proofs.Fronts.{reads_none, reads_at_last, fault_at_index, no_numbers}
use Rattle.mm_recover.proofs.Headers.{err_weaker}
use Rattle.mm_recover.proofs.journal.read_journal.Goals as goal

pub returns-clause-reads : goal.returns-clause-reads
returns-clause-reads g c =
    let numbers = c.args.numbers.now in
    let lt : length numbers - 1 < length numbers = omega (arith, c.if-count-eq0.false) in
    IfOk-weaker c.read_one.result _ _ (λ all takes t is are. reads_at_last c.args.lsn (journal_in t) numbers (length numbers - 1) lt are c.in_ok-front.front.items all.items (omega (arith, lt)) (c.in_ok-front.ensures.reads t is are) (takes t (c.in_ok-front.ensures.told ∙ is))) c.read_one.ensures.takes

pub returns-clause-fault : goal.returns-clause-fault
returns-clause-fault g c =
    let numbers = c.args.numbers.now in
    let lt : length numbers - 1 < length numbers = omega (arith, c.if-count-eq0.false) in
    err_weaker c.read_one.result _ _ (λ e fault t is are. fault_at_index c.args.lsn (journal_in t) numbers (length numbers - 1) lt are true c.in_ok-front.front.items (λ isnt. absurd (true≢false isnt)) (c.in_ok-front.ensures.reads t is are) e (fault t (c.in_ok-front.ensures.told ∙ is))) c.read_one.ensures.fault

pub read_one-requires : goal.read_one-requires
read_one-requires g c = record { small = c.in_ok-front.ensures.small; can = c.in_ok-front.ensures.can; number = number_at c.args.numbers.now (length c.args.numbers.now - 1) 0 (omega (arith, c.if-count-eq0.false)) c.requires.numbers }

pub returns-then-count-eq0-clause-reads : goal.returns-then-count-eq0-clause-reads
returns-then-count-eq0-clause-reads g c = λ t is are. subst (λ (l : List Section). ReadsAs c.args.lsn (journal_in t) c.args.numbers.now l) (sym c.new.ensures.items) (reads_none c.args.lsn (journal_in t) c.args.numbers.now (no_numbers c.args.numbers.now (omega (arith, c.if-count-eq0.true))) are)
