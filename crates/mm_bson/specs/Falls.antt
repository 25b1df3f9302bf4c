-- A document or array is deeper than those inside it.
use Rattle.std.specs.Prelude.{◌≤◌, List, [], ◌∷◌}
use Rattle.std.proofs.Common.{arith}
use denote.Param.Weighed.{most}
use Rattle.mm_bson.specs.declared.doc.Value.{Value}
use Rattle.mm_bson.specs.declared.doc.Value.TheVariants.{Document, Array}
use Rattle.mm_bson.specs.declared.doc.Element.{Element}
use Rattle.mm_bson.specs.declared.doc.Doc.TheDeep.{deep-Element, deep-Value}
use Rattle.mm_bson.specs.Tree.{tree_depth, depth, values_depth}
use Rattle.mm_bson.specs.View.{tree, elements_of, values_of}

pub value_falls : (v : Value) → deep-Value v ≤ tree_depth (tree v)
value_falls (Document d) = omega arith
value_falls (Array vs) = omega arith
value_falls _ = omega arith

pub elements_fall : (es : List Element) → most deep-Element es ≤ depth (elements_of es)
elements_fall [] = omega arith
elements_fall (e ∷ es) = omega (arith, elements_fall es, value_falls e.value)

pub values_fall : (vs : List Value) → most deep-Value vs ≤ values_depth (values_of vs)
values_fall [] = omega arith
values_fall (v ∷ vs) = omega (arith, values_fall vs, value_falls v)
