use Rattle.std.proofs.Common.{◌≡◌, ◌∙◌, length, take}
use Rattle.mm_base.proofs.NameLaws.{length_found, front_is, rest_is, padded_is, some_name, no_name}
use Rattle.mm_base.proofs.name.Name.from_padded.Goals as goal

pub returns-then-not-is_zero-clause-none : goal.returns-then-not-is_zero-clause-none
returns-then-not-is_zero-clause-none c = λ name is spelled.
    let field = c.args.field.now in
    let len = c.len_before_zero-len in
    let at : len.result ≡ length name = len.ensures.before ∙ length_found field name is spelled in
    absurd (let zero = c.is_zero.ensures.1 (rest_is field name len.result at spelled) in let false = c.if-not-is_zero.true in cc)

pub returns-clause-some : goal.returns-clause-some
returns-clause-some c =
    let field = c.args.field.now in
    let len = c.len_before_zero-len in
    some_name c.new.result field (take len.result field) c.new.ensures.some.0 c.new.ensures.bytes
    (padded_is field len.result len.ensures.inside (c.is_zero.ensures.0 c.if-not-is_zero.false))

pub returns-clause-none : goal.returns-clause-none
returns-clause-none c =
    let field = c.args.field.now in
    let len = c.len_before_zero-len in
    no_name c.new.result field (take len.result field) c.new.ensures.some.1
    (λ name is spelled. front_is field name len.result (len.ensures.before ∙ length_found field name is spelled) spelled)
