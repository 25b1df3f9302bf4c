use Rattle.std.proofs.Common.{refl, length, subst, sym}
use Rattle.mm_prefix.specs.Prefix.{Numbers, since}
use Rattle.mm_durable.specs.Log.{IsKept, sealed}
use Rattle.mm_durable.specs.Intake.{lists}
use Rattle.mm_durable.proofs.Steps.{on_err_holds}
use Rattle.mm_durable.proofs.Serving.{same_items, taken_same, serves, leaves_off, orderly, ended_stays, goes_as}
use Rattle.mm_durable.proofs.Sealed.{images_moved, intake_moved}
use Rattle.mm_durable.proofs.Gone.{gone_then, numbers_same}
use Rattle.mm_durable.proofs.durable.Durable.sync_data.Goals as goal

pub returns-in_err-sync_data-clause-left : goal.returns-in_err-sync_data-clause-left
returns-in_err-sync_data-clause-left g c = on_err_holds c.from_residual.result _ (leaves_off c.args.self.now _ _ c.requires.orderly.sound c.sync_data.ensures.run (taken_same c.args.self.now.intake) c.in_err-sync_data.ensures.unmoved _ _ c.in_err-sync_data.ensures.left)

pub returns-clause-same : goal.returns-clause-same
returns-clause-same g c =
    let old = c.args.self.now in
    record { gone = gone_then old.log c.sync_data.«new».self c.let_go.«new».self c.sync_data.ensures.run c.let_go.ensures.gone; same_taken = taken_same old.intake }

pub returns-clause-orderly : goal.returns-clause-orderly
returns-clause-orderly g c =
    let old = c.args.self.now in
    let gone = gone_then old.log c.sync_data.«new».self c.let_go.«new».self c.sync_data.ensures.run c.let_go.ensures.gone in
    record {
      sound = c.let_go.ensures.sound;
      goes = λ e. goes_as c.sync_data.«new».self c.let_go.«new».self c.let_go.ensures.journal c.let_go.ensures.counts.receipts_kept c.in_ok-sync_data.ensures.goes;
      intake_is = intake_moved old.log.names.items c.let_go.«new».self.names.items (sealed old.log) (sealed c.let_go.«new».self) old.intake gone.names gone.sealed_same c.requires.orderly.intake_is;
    }

pub returns-clause-kept : goal.returns-clause-kept
returns-clause-kept g c = λ t u story history is k.
    let old = c.args.self.now in
    let mid = c.sync_data.«new».self in
    let «new» = c.let_go.«new».self in
    let on = serves old.log mid old.intake old.intake c.sync_data.ensures.run (taken_same old.intake) _ _ c.in_ok-sync_data.ensures.kept t u story history is k in (
      on.0,
      on.1,
      record {
        log_is = subst (λ (n : Numbers). IsKept t story (since (length on.0.calls) n history) «new» on.0) (sym (numbers_same mid «new» c.let_go.ensures.counts)) (c.let_go.ensures.kept t on.0 story _ on.2.log_is);
        images = images_moved mid.names.items «new».names.items (lists old.intake) (lists old.intake) story c.let_go.ensures.gone.names refl on.2.images;
      },
    )

pub returns-in_err-sync_data-clause-still : goal.returns-in_err-sync_data-clause-still
returns-in_err-sync_data-clause-still g c = on_err_holds c.from_residual.result _ (same_items c.args.self.now _ c.sync_data.ensures.run refl)

pub returns-in_err-sync_data-clause-orderly : goal.returns-in_err-sync_data-clause-orderly
returns-in_err-sync_data-clause-orderly g c = orderly c.args.self.now _ (same_items c.args.self.now _ c.sync_data.ensures.run refl) c.requires.orderly c.sync_data.ensures.sound ended_stays
