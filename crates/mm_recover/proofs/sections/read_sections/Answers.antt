use Rattle.std.proofs.Common.{List, subst, rules}
use Rattle.mm_section.specs.declared.section.Section.{Section}
use Rattle.mm_section.specs.Spells.{Begins, HasNone}
use Rattle.mm_recover.specs.Reading.{MayFollow, IsGap}
use Rattle.mm_recover.proofs.ReadTo.{read_next, read_smaller, read_gap, read_all, begins_at, none_at}
use Rattle.mm_recover.proofs.sections.read_sections.Goals as goal

pub returns-in-Some-gap_before-clause-gap : goal.returns-in-Some-gap_before-clause-gap
returns-in-Some-gap_before-clause-gap c =
    let begins : Begins c.in-Some.section c.args.id c.in-Some.len c.tail.result.now = search rules in
    read_gap c.args.lsn _ c.args.bytes.now c.args.sections.items c.loop-sections.sections.items c.loop-sections.at c.loop-sections.invariant c.in-Some.section c.in-Some.len
    (begins_at c.in-Some.section c.in-Some.len c.args.id c.loop-sections.at c.args.bytes.now c.tail.result.now c.requires.id c.tail.ensures begins) c.in-Some-gap_before.expected
    (subst (λ (l : List Section). IsGap c.args.lsn l c.in-Some-gap_before.expected c.in-Some.section.number) c.deref.ensures.value c.in-Some-gap_before.ensures.some)

pub loop-sections-smaller : goal.loop-sections-smaller
loop-sections-smaller c =
    let begins : Begins c.in-Some.section c.args.id c.in-Some.len c.tail.result.now = search rules in
    read_smaller c.args.lsn _ c.args.bytes.now c.args.sections.items c.loop-sections.sections.items c.loop-sections.at c.loop-sections.invariant c.in-Some.section c.in-Some.len
    (begins_at c.in-Some.section c.in-Some.len c.args.id c.loop-sections.at c.args.bytes.now c.tail.result.now c.requires.id c.tail.ensures begins)

pub loop-sections-preserved : goal.loop-sections-preserved
loop-sections-preserved c =
    let begins : Begins c.in-Some.section c.args.id c.in-Some.len c.tail.result.now = search rules in
    read_next c.args.lsn _ c.args.bytes.now c.args.sections.items c.loop-sections.sections.items c.loop-sections.at c.loop-sections.invariant c.in-Some.section c.in-Some.len
    (begins_at c.in-Some.section c.in-Some.len c.args.id c.loop-sections.at c.args.bytes.now c.tail.result.now c.requires.id c.tail.ensures begins) c.push.new.self.items c.in_ok-push.ensures.items
    (subst (λ (l : List Section). MayFollow c.args.lsn l c.in-Some.section.number) c.deref.ensures.value c.in_default-gap_before.ensures.none)

pub returns-clause-more : goal.returns-clause-more
returns-clause-more c =
    let none : HasNone c.args.id c.tail.result.now = search rules in
    read_all c.args.lsn _ c.args.bytes.now c.args.sections.items c.loop-sections.sections.items c.loop-sections.at c.loop-sections.invariant (none_at c.args.id c.loop-sections.at c.args.bytes.now c.tail.result.now c.requires.id c.tail.ensures none)
