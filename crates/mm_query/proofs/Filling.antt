-- A bound that grows place by place.
use Rattle.std.proofs.Common.{◌≡◌, ℕ, List, [], sym, ap, ◌∙◌}
use Rattle.mm_bson.specs.Tree.{Tree, Elements, no_elements, element, append}
use Rattle.mm_bson.proofs.Loop.{append_assoc}
use Rattle.mm_query.specs.declared.side.Side.{Side}
use Rattle.mm_query.specs.Bounds.{turned, extreme, extremes}

module _ (side : Side) (done spec all : Elements) (so_far : append done (extremes side spec) ≡ all) where
  pub extremes_on : (path : List ℕ) (sign last : Tree) (rest new : Elements) → spec ≡ element path sign rest → last ≡ extreme (turned sign side) → new ≡ append done (element [] last no_elements) → append new (extremes side rest) ≡ all
  extremes_on path sign last rest new is same pushed =
      rw (pushed, same, append_assoc done (element [] (extreme (turned sign side)) no_elements) (extremes side rest)) (ap (λ (s : Elements). append done (extremes side s)) (sym is) ∙ so_far)
