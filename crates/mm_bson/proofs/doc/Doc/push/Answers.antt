use Rattle.std.proofs.Common.{◌≡◌, max, length, ap, subst, ◌∙◌, arith}
use Rattle.mm_bson.specs.Tree.{tree_depth, no_elements, element, append}
use Rattle.mm_bson.specs.Spelling.{spelling, IsValue}
use Rattle.mm_bson.specs.View.{tree, elements_of}
use Rattle.mm_bson.proofs.Loop.{elements_of-push}
use Rattle.mm_bson.proofs.Building.{spelling_len, document_grows}
use Rattle.mm_bson.proofs.doc.Doc.push.Goals as goal

pub put-requires-clause-ended : goal.put-requires-clause-ended
put-requires-clause-ended c = omega (arith, ap length c.self.invariant.spelled, spelling_len (elements_of c.self.inside.elements.items))

pub invariant_of-self-2 : goal.invariant_of-self-2
invariant_of-self-2 c =
    let t = tree c.args.value in
    let es = elements_of c.self.inside.elements.items in
    let pushed : elements_of c.push_reserved.new.self.items ≡ append es (element c.args.name t no_elements) = rw (c.push_reserved.ensures.items, c.reserve.ensures.items) (elements_of-push c.self.inside.elements.items (record { name = c.args.name; value = c.args.value })) in
    let deep : c.max-self-inside.result ≡ max c.self.inside.inner_levels (tree_depth t) = omega (arith, c.max-self-inside.ensures, c.levels.ensures.levels) in
    let grown = rw (c.as_bytes.ensures.bytes, c.as_ref.ensures) at c.in_ok-put.ensures.spelled in
    rw (pushed, deep) (document_grows c.self.inside.bytes c.put.new.self c.self.inside.inner_levels es c.args.name t c.self.invariant (c.as_bytes.ensures.utf8, c.requires.name) (subst IsValue c.as_ref.ensures c.in_ok-put.ensures.sound) c.requires.levels
    (omega (arith, c.requires.fits, ap (λ d. length (spelling d)) c.self.view_is)) grown)

pub returns-clause-ok : goal.returns-clause-ok
returns-clause-ok c =
    let t = tree c.args.value in
    let pushed : elements_of c.push_reserved.new.self.items ≡ append (elements_of c.self.inside.elements.items) (element c.args.name t no_elements) = rw (c.push_reserved.ensures.items, c.reserve.ensures.items) (elements_of-push c.self.inside.elements.items (record { name = c.args.name; value = c.args.value })) in
    pushed ∙ ap (λ es. append es (element c.args.name t no_elements)) c.self.view_is
