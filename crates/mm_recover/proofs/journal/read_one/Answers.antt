use Rattle.std.proofs.Common.{◌≡◌, inr, ℕ, List, ◌∙◌, subst}
use Rattle.std.proofs.lemmas.Result.{IfOk-weaker}
use Rattle.mm_outside.specs.Told.{image_of}
use Rattle.mm_journal.proofs.Real.{the_names}
use Rattle.mm_recover.specs.Reading.{TakesFile, HasFileFault}
use Rattle.mm_recover.proofs.EachAsk.{file_named}
use Rattle.mm_recover.proofs.Fronts.{takes_can, read_is}
use Rattle.mm_recover.proofs.Headers.{err_weaker}
use Rattle.mm_recover.proofs.journal.read_one.Goals as goal

pub returns-clause-can : goal.returns-clause-can
returns-clause-can g c = IfOk-weaker c.take_file.result _ _ (λ all t. takes_can c.args.lsn c.args.number c.args.is_last c.as_slice.result.now c.args.sections.items all.items c.requires.can t) c.take_file.ensures.takes

pub returns-clause-takes : goal.returns-clause-takes
returns-clause-takes g c =
    let named : c.deref.result.now ≡ the_names.journal c.args.number = c.deref.ensures ∙ c.in_ok-name.ensures ∙ file_named c.args.number c.requires.number in
    IfOk-weaker c.take_file.result _ _ (λ all takes t is bytes has. subst (λ (l : List ℕ). TakesFile c.args.lsn c.args.number c.args.is_last l c.args.sections.items all.items)
    (read_is (image_of t) c.args.number c.deref.result.now c.as_slice.result.now bytes c.requires.number named (c.as_slice.ensures.value ∙ c.in_ok-bytes.ensures.bytes t is) has) takes) c.take_file.ensures.takes

pub returns-clause-fault : goal.returns-clause-fault
returns-clause-fault g c =
    let named : c.deref.result.now ≡ the_names.journal c.args.number = c.deref.ensures ∙ c.in_ok-name.ensures ∙ file_named c.args.number c.requires.number in
    err_weaker c.take_file.result _ _ (λ e fault t is. inr (λ bytes has. subst (λ (l : List ℕ). HasFileFault c.args.lsn c.args.number c.args.is_last l c.args.sections.items e)
    (read_is (image_of t) c.args.number c.deref.result.now c.as_slice.result.now bytes c.requires.number named (c.as_slice.ensures.value ∙ c.in_ok-bytes.ensures.bytes t is) has) fault)) c.take_file.ensures.fault
