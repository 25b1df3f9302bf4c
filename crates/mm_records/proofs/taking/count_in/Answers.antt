use Rattle.mm_records.proofs.taking.count_in.Goals as goal

pub returns-then-is_null-clause-linked : goal.returns-then-is_null-clause-linked
returns-then-is_null-clause-linked c = λ ne. absurd (ne (c.is_null.ensures.0 c.if-is_null.true))
