-- A conjunction is deeper than those inside it.
use Rattle.std.specs.Prelude.{◌≤◌, ◌+◌, List, [], ◌∷◌}
use Rattle.std.proofs.Common.{arith}
use denote.Param.Weighed.{most}
use Rattle.mm_bson.specs.Tree.{Elements, depth, values_depth, no_elements}
use Rattle.mm_query.specs.declared.kept.Condition.{Condition}
use Rattle.mm_query.specs.declared.kept.Condition.TheVariants.{At, AllOf, AnyOf}
use Rattle.mm_query.specs.declared.kept.Conjunction.TheDeep.{deep-Condition}
use Rattle.mm_query.specs.Kept.{filters_of, condition_on, conditions_of}

pub filters_fall : (fs : List Elements) → most (λ es. depth es + 1) fs ≤ values_depth (filters_of fs)
filters_fall [] = omega arith
filters_fall (es ∷ fs) = omega (arith, filters_fall fs)

pub condition_falls : (c : Condition) → deep-Condition c ≤ depth (condition_on c no_elements)
condition_falls (At path demand) = omega arith
condition_falls (AllOf fs) = omega (arith, filters_fall fs.items)
condition_falls (AnyOf fs) = omega (arith, filters_fall fs.items)

pub conditions_fall : (cs : List Condition) → most deep-Condition cs ≤ depth (conditions_of cs)
conditions_fall [] = omega arith
conditions_fall (c ∷ cs) = by c (conditions_fall cs)
  where
    by : (c : Condition) → most deep-Condition cs ≤ depth (conditions_of cs) → most deep-Condition (c ∷ cs) ≤ depth (condition_on c (conditions_of cs))
    by (At path demand) later = omega (arith, later)
    by (AllOf fs) later = omega (arith, later, filters_fall fs.items)
    by (AnyOf fs) later = omega (arith, later, filters_fall fs.items)
