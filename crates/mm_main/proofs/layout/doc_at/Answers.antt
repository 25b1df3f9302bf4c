use Rattle.std.proofs.Common.{ℕ, ◌+◌, arith, refl, sym, ap, ◌∙◌, subst, length}
use Rattle.mm_base.specs.Bytes.{part}
use Rattle.mm_main.specs.declared.finding.What.TheVariants.{Document}
use Rattle.mm_main.specs.Findings.{IsDue}
use Rattle.mm_main.proofs.ChainSteps.{if_found}
use Rattle.mm_main.proofs.LayoutSteps.{announced, one_announced}
use Rattle.mm_main.proofs.LiveSteps.{request_enough}
use Rattle.mm_main.proofs.layout.doc_at.Goals as goal

pub returns-in_default-clause-found : goal.returns-in_default-clause-found
returns-in_default-clause-found c =
    if_found (Unit {0}) _ (record { at = c.args.at; what = Document }) _ c.wrong.ensures (refl, (λ mislaid. c.in_default.ensures.none mislaid.0 mislaid.1, λ doc begins. c.in_default.ensures.none _ (announced c.args.file.now c.args.at doc begins)))

pub frame-requires : goal.frame-requires
frame-requires c =
    let due = c.is_due.ensures.0 c.if-not-is_due.false in
    omega (arith, due.room, request_enough c.in-Some.len, c.requires.size, c.requires.inside)

pub returns-in_default-found-clause-found : goal.returns-in_default-found-clause-found
returns-in_default-found-clause-found c =
    let none = rw c.in_default-found.is at c.in_ok-found.ensures.none in
    let due = c.is_due.ensures.0 c.if-not-is_due.false in
    if_found (Unit {0}) _ (record { at = c.args.at; what = Document }) _ c.wrong-in_default-found.ensures (
      refl,
      (
        λ mislaid. mislaid.2 (subst (λ (n : ℕ). IsDue c.args.file.now c.args.at n) (one_announced c.args.file.now c.args.at _ _ c.in-Some.ensures.some mislaid.1) due),
        λ doc begins. none doc begins.document (c.frame.ensures.is ∙ ap (λ (n : ℕ). part (c.args.at + 16) n c.args.file.now) (one_announced c.args.file.now c.args.at _ _ c.in-Some.ensures.some (announced c.args.file.now c.args.at doc begins)) ∙ begins.bytes),
      ),
    )

pub returns-clause-laid : goal.returns-clause-laid
returns-clause-laid c =
    let some = rw c.in-Some-found.is at c.in_ok-found.ensures.some in
    let long = sym (ap length some.1) ∙ c.frame.ensures.len in
    let due = c.is_due.ensures.0 c.if-not-is_due.false in
    record {
      begins = record { document = some.0; bytes = ap (λ (n : ℕ). part (c.args.at + 16) n c.args.file.now) long ∙ sym c.frame.ensures.is ∙ some.1 };
      due = subst (λ (n : ℕ). IsDue c.args.file.now c.args.at n) (sym long) due;
    }
