use Rattle.std.proofs.Common.{ℕ, Bool, sym, ap, ◌∙◌}
use Rattle.std.specs.Prelude.{◌&&◌, ◌==◌}
use Rattle.mm_nstable.specs.Hash.{hash_of}
use Rattle.mm_check.specs.NodeQuestions.{has_form}
use Rattle.mm_check.proofs.table.is_named.Goals as goal

pub returns-then-not-has_form : goal.returns-then-not-has_form
returns-then-not-has_form c d f =
    sym (ap (λ (b : Bool). b && (c.args.hashed == hash_of c.args.name.now)) (ap (has_form d) (sym c.bytes.ensures.is) ∙ sym (c.has_form.ensures d f) ∙ c.if-not-has_form.true))

pub returns : goal.returns
returns c d f =
    ap (λ (n : ℕ). c.args.hashed == n) (c.hash.ensures ∙ ap hash_of c.bytes-2.ensures.is)
    ∙ sym (ap (λ (b : Bool). b && (c.args.hashed == hash_of c.args.name.now)) (ap (has_form d) (sym c.bytes.ensures.is) ∙ sym (c.has_form.ensures d f) ∙ c.if-not-has_form.false))
