use Rattle.std.proofs.Common.{◌≡◌, max, length, ap, subst, ◌∙◌, arith}
use Rattle.std.specs.Fmt.{decimal}
use Rattle.mm_bson.specs.Tree.{tree_depth, no_values, item, append_values, count}
use Rattle.mm_bson.specs.Spelling.{IsValue}
use Rattle.mm_bson.specs.View.{tree, values_of}
use Rattle.mm_bson.proofs.Numbered.{values_of-push, count_is}
use Rattle.mm_bson.proofs.Building.{array_spelling_len, array_grows}
use Rattle.mm_bson.proofs.doc.ValueList.push.Goals as goal

pub put-requires-clause-ended : goal.put-requires-clause-ended
put-requires-clause-ended c = omega (arith, ap length c.self.invariant.spelled, array_spelling_len (values_of c.self.inside.values.items))

pub put-requires-clause-short : goal.put-requires-clause-short
put-requires-clause-short c =
    let vs = values_of c.self.inside.values.items in
    let place : c.len.result ≡ count vs = omega (arith, count_is c.self.inside.values.items) in
    let name : c.as_bytes-name.result.now ≡ decimal (count vs) = c.as_bytes-name.ensures.value ∙ c.format.ensures.text ∙ ap decimal place in
    let fits = rw (← c.self.view_is) at c.requires.fits in
    rw (name, c.as_ref.ensures) (omega (arith, fits, ap length c.self.invariant.spelled))

pub invariant_of-self-2 : goal.invariant_of-self-2
invariant_of-self-2 c =
    let t = tree c.args.value in
    let vs = values_of c.self.inside.values.items in
    let place : c.len.result ≡ count vs = omega (arith, count_is c.self.inside.values.items) in
    let name : c.as_bytes-name.result.now ≡ decimal (count vs) = c.as_bytes-name.ensures.value ∙ c.format.ensures.text ∙ ap decimal place in
    let pushed : values_of c.push_reserved.new.self.items ≡ append_values vs (item t no_values) = rw (c.push_reserved.ensures.items, c.reserve.ensures.items) (values_of-push c.self.inside.values.items c.args.value) in
    let deep : c.max-self-inside.result ≡ max c.self.inside.inner_levels (tree_depth t) = omega (arith, c.max-self-inside.ensures, c.levels.ensures.levels) in
    let fits = rw (← c.self.view_is) at c.requires.fits in
    let grown = rw (name, c.as_ref.ensures) at c.in_ok-put.ensures.spelled in
    rw (pushed, deep) (array_grows c.self.inside.bytes c.put.new.self c.self.inside.inner_levels vs t c.self.invariant (subst IsValue c.as_ref.ensures c.in_ok-put.ensures.sound) c.requires.levels fits grown)

pub returns-clause-ok : goal.returns-clause-ok
returns-clause-ok c =
    let t = tree c.args.value in
    let pushed : values_of c.push_reserved.new.self.items ≡ append_values (values_of c.self.inside.values.items) (item t no_values) = rw (c.push_reserved.ensures.items, c.reserve.ensures.items) (values_of-push c.self.inside.values.items c.args.value) in
    pushed ∙ ap (λ vs. append_values vs (item t no_values)) c.self.view_is
