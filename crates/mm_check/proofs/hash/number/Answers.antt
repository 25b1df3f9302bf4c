use Rattle.std.proofs.Common.{◌∙◌, ◌+◌, ◌*◌, ◌%◌, ◌^◌, ℕ, List, get_or, refl, ap, sym, take}
use Rattle.std.proofs.lemmas.List.{take_more, take_all}
use Rattle.mm_nstable.specs.Hash.{number_of}
use Rattle.mm_nstable.proofs.Numbers.{number_of-push, number_step}
use Rattle.mm_check.proofs.hash.number.Goals as goal

pub loop-byte-init : goal.loop-byte-init
unfolding number_of
loop-byte-init c = refl

pub loop-byte-preserved : goal.loop-byte-preserved
loop-byte-preserved c =
    let bytes = c.args.bytes.now in
    let i = c.loop-byte.byte-index in
    let b = get_or c.args.bytes.now c.loop-byte.byte-index 0 in
    ap (λ (n : ℕ). (n * 131 % 2 ^ 32 + c.from.result) % 2 ^ 32) c.loop-byte.invariant
    ∙ ap (λ (d : ℕ). (number_of (take i bytes) % 2 ^ 32 * 131 % 2 ^ 32 + d) % 2 ^ 32) c.from.ensures
    ∙ number_step (number_of (take i bytes)) b (2 ^ 32)
    ∙ ap (λ (n : ℕ). n % 2 ^ 32) (sym (ap number_of (take_more bytes i 0 c.loop-byte-test.true) ∙ number_of-push (take i bytes) b))

pub returns : goal.returns
returns c = c.loop-byte.invariant ∙ ap (λ (xs : List ℕ). number_of xs % 2 ^ 32) (take_all c.loop-byte.byte-index c.args.bytes.now c.loop-byte-test.false)
