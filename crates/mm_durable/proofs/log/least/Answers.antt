use Rattle.std.proofs.Common.{ℕ, ◌+◌, get_or, refl, sym, subst}
use Rattle.mm_durable.proofs.Least.{IsLeastOf, less, no_less}
use Rattle.mm_durable.proofs.log.least.Goals.{then-number-least, else-number-least}
use Rattle.mm_durable.proofs.log.least.Goals as goal

pub loop-number-preserved : goal.loop-number-preserved
loop-number-preserved c =
    let i = c.loop-number.number-index in
    let numbers = c.args.numbers.now in
    elim c.if-number-least.branch [
      | then-number-least w ↦ record { least = subst (λ (n : ℕ). IsLeastOf n numbers (i + 1) c.args.one) (sym w.least-is) (less c.loop-number.least numbers i c.args.one (get_or numbers i 0) refl w.if-number-least.true c.loop-number.invariant.least) }
      | else-number-least w ↦ record { least = subst (λ (n : ℕ). IsLeastOf n numbers (i + 1) c.args.one) (sym w.least-is) (no_less c.loop-number.least numbers i c.args.one (get_or numbers i 0) refl w.if-number-least.false c.loop-number.invariant.least) }
    ]
