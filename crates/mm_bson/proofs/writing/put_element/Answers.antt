use Rattle.std.proofs.Common.{◌≡◌, ◌-◌, [], ◌∷◌, ◌++◌, List, ℕ, length, refl, ap, ◌∙◌, arith}
use Rattle.mm_bson.specs.Spelling.{framed, element_spelling, value_spelling}
use Rattle.mm_bson.specs.View.{tree_in}
use Rattle.mm_bson.proofs.Building.{sealed, refilled}
use Rattle.mm_bson.proofs.writing.put_element.Goals as goal

pub returns-clause-spelled : goal.returns-clause-spelled
returns-clause-spelled c = λ inner is.
    let name = c.args.name.now in
    let t = tree_in c.args.value.now in
    let all : List ℕ = c.put-3.new.out.items in
    let parts : all ≡ (((framed inner ++ name) ++ 0 ∷ []) ++ value_spelling t) ++ 0 ∷ [] = rw (c.put-3.ensures.items, c.put_value.ensures.items, c.put-2.ensures.items, c.put.ensures.items, is) refl in
    let last : c.len-last.result - 1 ≡ length (framed inner) - 1 = omega (arith, ap length is) in
    let given : c.seal.new.bytes ≡ framed (inner ++ element_spelling name t) =
    c.seal.ensures ∙ rw (c.as_mut_slice.ensures.value, c.type_byte.ensures) (sealed inner name (value_spelling t) all _ (c.len-last.result - 1) parts last) in
    refilled c.put-3.new.out.len c.seal.new.bytes all (omega arith) (omega arith) ∙ given
