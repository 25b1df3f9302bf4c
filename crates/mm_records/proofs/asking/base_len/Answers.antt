use Rattle.std.proofs.Common.{◌∙◌, ℕ, ◌*◌, rules, sym, ap, arith}
use Rattle.std.specs.Prelude.{FitsSigned, min}
use Rattle.std.specs.Int.{w32}
use Rattle.std.proofs.lemmas.Bool.{false≢true}
use Rattle.std.proofs.lemmas.Int.{to_z-of_z}
use Rattle.mm_records.proofs.FreeSteps.{nonneg, same_number}
use Rattle.mm_records.proofs.Askings.{base_none, last_len}
use Rattle.mm_records.proofs.asking.base_len.Goals as goal

pub returns-then-is_null-clause-is : goal.returns-then-is_null-clause-is
returns-then-is_null-clause-is c = λ free s st. sym (base_none c.args.draft.now.image free s c.args.node c.args.counts.now st (c.is_null.ensures.0 c.if-is_null.true))

pub natural-requires : goal.natural-requires
natural-requires c =
    let l = last_len c.args.draft.now.image c.requires.0 c.requires.1.0 c.args.node c.args.counts.now c.requires.1.1 (λ e. false≢true (sym c.if-is_null.false ∙ c.is_null.ensures.1 e)) in
    let f : FitsSigned w32 c.args.counts.now.last_extent_size = search rules in
    nonneg _ _ (to_z-of_z w32 c.args.counts.now.last_extent_size f ∙ l.is)

pub overflow_mul-natural : goal.overflow_mul-natural
overflow_mul-natural c =
    let l = last_len c.args.draft.now.image c.requires.0 c.requires.1.0 c.args.node c.args.counts.now c.requires.1.1 (λ e. false≢true (sym c.if-is_null.false ∙ c.is_null.ensures.1 e)) in
    let f : FitsSigned w32 c.args.counts.now.last_extent_size = search rules in
    let same = same_number l.n c.natural.result (sym (to_z-of_z w32 c.args.counts.now.last_extent_size f ∙ l.is) ∙ c.natural.ensures) in
    let most = l.most in
    omega (arith, same, most)

pub returns-clause-is : goal.returns-clause-is
returns-clause-is c = λ free s st.
    let l = last_len c.args.draft.now.image free s c.args.node c.args.counts.now st (λ e. false≢true (sym c.if-is_null.false ∙ c.is_null.ensures.1 e)) in
    let f : FitsSigned w32 c.args.counts.now.last_extent_size = search rules in
    let same = same_number l.n c.natural.result (sym (to_z-of_z w32 c.args.counts.now.last_extent_size f ∙ l.is) ∙ c.natural.ensures) in
    c.min.ensures ∙ ap (λ (n : ℕ). min (2 * n) 8388608) (sym same) ∙ sym l.base
