use Rattle.mm_query.proofs.filter.Filter.bounds.Goals as goal

pub returns-clause-between : goal.returns-clause-between
returns-clause-between c = c.bounds_with.ensures.between

pub returns-clause-equality : goal.returns-clause-equality
returns-clause-equality c = c.bounds_with.ensures.equality

pub returns-clause-exact : goal.returns-clause-exact
returns-clause-exact c = c.bounds_with.ensures.exact
