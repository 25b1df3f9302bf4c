use Rattle.std.proofs.Common.{◌≡◌, ℕ, sym, ap, ◌∙◌, length, subst}
use Rattle.std.proofs.lemmas.Bool.{false≢true}
use Rattle.mm_base.specs.Bytes.{padded}
use Rattle.mm_main.specs.Contents.{full_name}
use Rattle.mm_main.specs.Collections.{IsCollection}
use Rattle.mm_main.proofs.HeaderSteps.{name_of_collection, one_name, one_collection}
use Rattle.mm_main.proofs.headers.name_in.Goals as goal

pub returns-in_default-behind-clause-none : goal.returns-in_default-behind-clause-none
returns-in_default-behind-clause-none c = λ collection named is.
    let other : c.args.field.now ≡ padded (length c.args.field.now) (full_name collection) = is ∙ ap (λ (n : ℕ). padded n (full_name collection)) (sym c.requires) in
    let same = one_name c.args.field.now c.in-Some.name (full_name collection) c.in-Some.ensures.some.0 (name_of_collection collection named) c.in-Some.ensures.some.1 other in
    c.in_default-behind.ensures.none collection (c.bytes.ensures.is ∙ same)

pub returns-else-is_collection-clause-none : goal.returns-else-is_collection-clause-none
returns-else-is_collection-clause-none c = λ collection named is.
    let other : c.args.field.now ≡ padded (length c.args.field.now) (full_name collection) = is ∙ ap (λ (n : ℕ). padded n (full_name collection)) (sym c.requires) in
    let same = one_name c.args.field.now c.in-Some.name (full_name collection) c.in-Some.ensures.some.0 (name_of_collection collection named) c.in-Some.ensures.some.1 other in
    let rest = one_collection collection c.in-Some-behind.collection.now (sym same ∙ sym c.bytes.ensures.is ∙ c.in-Some-behind.ensures.some) in
    false≢true (sym c.if-is_collection.false ∙ c.is_collection.ensures ∙ subst IsCollection rest named)

pub returns-in_default-clause-none : goal.returns-in_default-clause-none
returns-in_default-clause-none c = λ collection named is. c.in_default.ensures.none (full_name collection) (name_of_collection collection named) (is ∙ ap (λ (n : ℕ). padded n (full_name collection)) (sym c.requires))
