use Rattle.std.proofs.Common.{◌≡◌, [], Ok, sym, ap, ◌∙◌, arith}
use Rattle.mm_bson.specs.Tree.{Elements}
use Rattle.mm_notation.specs.Reading.{document_at}
use Rattle.mm_notation.proofs.Behind.{whole_spells}
use Rattle.mm_notation.proofs.objects.document.Goals as goal

pub of_spelled-requires : goal.of_spelled-requires
of_spelled-requires c =
    let none : c.new-out.result.items ≡ [] = grind arith in
    (c.in_ok-rest.ensures.wrote.found, whole_spells c.new-out.result.items c.object.new.out.items c.args.text.now c.in_ok-rest.rest.now none c.in_ok-rest.ensures.wrote)

pub returns : goal.returns
unfolding document_at
returns c =
    let none : c.new-out.result.items ≡ [] = grind arith in
    let w = c.in_ok-rest.ensures.wrote in
    let spells = whole_spells c.new-out.result.items c.object.new.out.items c.args.text.now c.in_ok-rest.rest.now none w in
    w.read_is ∙ ap (λ (d : Elements). Ok (d, c.in_ok-rest.rest.now)) (sym (c.in_ok-found.ensures w.found spells))
