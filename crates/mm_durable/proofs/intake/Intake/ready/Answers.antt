use Rattle.std.proofs.Common.{◌==◌, List, map, length, refl, ◌∙◌, sym, ap, arith}
use Rattle.mm_durable.specs.Intake.{empty_seat}
use Rattle.mm_durable.specs.declared.intake.Seat.{Seat}
use Rattle.mm_durable.proofs.Sealed.{readied, empty_of}
use Rattle.mm_durable.proofs.intake.Intake.ready.Goals as goal

pub returns-in_ok-self-clause-kept : goal.returns-in_ok-self-clause-kept
returns-in_ok-self-clause-kept c = λ names count is.
    let old = c.args.self.now in
    readied names count old _ (empty_of old.seats.items (ap (λ (l : List Seat). length l == 0) (sym c.as_slice.ensures.value) ∙ sym c.is_empty.ensures ∙ c.if-is_empty.true))
    (record { lists_kept = refl; rooms_kept = refl; rings_kept = refl; sorted_kept = refl; ranks_kept = refl })
    (c.in_ok-self.ensures ∙ ap (map empty_seat) c.deref.ensures.value) c.in_ok-parts.ensures.items (omega (arith, c.in_ok-parts.ensures.exact, ap length c.as_slice-then-is_empty.ensures.value)) is
