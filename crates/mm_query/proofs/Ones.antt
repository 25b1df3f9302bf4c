-- A list of one filter.
use Rattle.std.proofs.Common.{inl, inr, ◌⊎◌}
use Rattle.std.specs.Prelude.{◌↔◌, codes}
use Rattle.mm_bson.specs.Tree.{document, array, Elements, no_elements, element, item, no_values}
use Rattle.mm_query.specs.Match.{Matches}

pub and_one : (es d : Elements) → Matches (element (codes "$and") (array (item (document es) no_values)) no_elements) d ↔ Matches es d
and_one es d = (λ h. h.0.0, λ m. ((m, tt), tt))

pub or_one : (es d : Elements) → Matches (element (codes "$or") (array (item (document es) no_values)) no_elements) d ↔ Matches es d
or_one es d = (λ h. one h.0, λ m. (inl m, tt))
  where
    one : Matches es d ⊎ ⊥ → Matches es d
    one (inl m) = m
    one (inr wrong) = absurd wrong
