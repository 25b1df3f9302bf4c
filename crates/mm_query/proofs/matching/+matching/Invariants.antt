use Rattle.std.proofs.Common.{◌+◌, ◌*◌, ◌≤◌, drop}
use Rattle.std.specs.Prelude.{◌↔◌}
use Rattle.mm_bson.specs.Tree.{depth, values_depth, no_elements}
use Rattle.mm_query.specs.Match.{Matches, EachMatches, OneMatches}
use Rattle.mm_query.specs.Kept.{filters_of, condition_on, conditions_of, AreConditions}
use Rattle.mm_query.proofs.matching.+matching.Given as goal

abbrev pub decreases-holds : goal.decreases-holds
decreases-holds l = 4 * depth (condition_on l.condition.now no_elements) + 1

abbrev pub decreases-all_hold : goal.decreases-all_hold
decreases-all_hold l = 4 * depth (conditions_of l.conditions.now) + 2

abbrev pub decreases-matches : goal.decreases-matches
decreases-matches l = 4 * depth l.filter.now + 3

abbrev pub decreases-each_matches : goal.decreases-each_matches
decreases-each_matches l = 4 * values_depth (filters_of l.filters.now) + 4

abbrev pub decreases-one_matches : goal.decreases-one_matches
decreases-one_matches l = 4 * values_depth (filters_of l.filters.now) + 4

abbrev pub invariant-all_hold-conditions : goal.invariant-all_hold-conditions
invariant-all_hold-conditions l = record {
  same : Matches (conditions_of (drop l.condition-index l.conditions)) l.doc ↔ Matches (conditions_of l.conditions) l.doc;
  kept : AreConditions (drop l.condition-index l.conditions);
  shallow : depth (conditions_of (drop l.condition-index l.conditions)) ≤ depth (conditions_of l.conditions);
}

abbrev pub invariant-each_matches-each : goal.invariant-each_matches-each
invariant-each_matches-each l = record {
  same : EachMatches (filters_of (drop l.filter-index l.filters)) l.doc ↔ EachMatches (filters_of l.filters) l.doc;
  shallow : values_depth (filters_of (drop l.filter-index l.filters)) ≤ values_depth (filters_of l.filters);
}

abbrev pub invariant-one_matches-one : goal.invariant-one_matches-one
invariant-one_matches-one l = record {
  same : OneMatches (filters_of (drop l.filter-index l.filters)) l.doc ↔ OneMatches (filters_of l.filters) l.doc;
  shallow : values_depth (filters_of (drop l.filter-index l.filters)) ≤ values_depth (filters_of l.filters);
}
