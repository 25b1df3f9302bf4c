use Rattle.std.proofs.Common.{◌≡◌, ◌+◌, inl, inr, refl, sym, ◌∙◌, subst}
use Rattle.std.proofs.lemmas.Result.{IfOk-weaker}
use Rattle.mm_frames.specs.JournalHeader.{header_kind}
use Rattle.mm_frames.specs.declared.journal_header.HeaderKind.TheVariants.{Ours, Foreign, Broken}
use Rattle.mm_recover.specs.Reading.{HasFileFault}
use Rattle.mm_recover.proofs.Headers.{ours_long, broken_so, foreign_so, takes_none, takes_more, gap_behind, err_weaker}
use Rattle.mm_recover.proofs.journal.take_file.Goals as goal

pub tail-behind-requires : goal.tail-behind-requires
tail-behind-requires c = ours_long c.args.number c.args.bytes.now (sym c.read_journal_header.ensures ∙ c.in-Ours.is)

pub returns-in-Ours-clause-takes : goal.returns-in-Ours-clause-takes
returns-in-Ours-clause-takes c =
    let kind : header_kind (c.args.number + 1) c.args.bytes.now ≡ Ours = sym c.read_journal_header.ensures ∙ c.in-Ours.is in
    IfOk-weaker c.read_sections.result _ _ (λ all more. takes_more c.args.lsn c.args.number c.args.is_last c.args.bytes.now c.tail-behind.result.now c.args.sections.items all.items kind c.tail-behind.ensures more) c.read_sections.ensures.more

pub returns-in-Ours-clause-fault : goal.returns-in-Ours-clause-fault
returns-in-Ours-clause-fault c =
    let kind : header_kind (c.args.number + 1) c.args.bytes.now ≡ Ours = sym c.read_journal_header.ensures ∙ c.in-Ours.is in
    err_weaker c.read_sections.result _ _ (λ e gap. gap_behind c.args.lsn c.args.number c.args.is_last c.args.bytes.now c.tail-behind.result.now c.args.sections.items kind c.tail-behind.ensures e gap) c.read_sections.ensures.gap

pub returns-in-Foreign-clause-fault : goal.returns-in-Foreign-clause-fault
returns-in-Foreign-clause-fault c =
    let kind : header_kind (c.args.number + 1) c.args.bytes.now ≡ Foreign = sym c.read_journal_header.ensures ∙ c.in-Foreign.is in
    subst (HasFileFault c.args.lsn c.args.number c.args.is_last c.args.bytes.now c.args.sections.items) (sym c.bad_header.ensures) (refl, inl (foreign_so c.args.number c.args.bytes.now kind))

pub returns-then-is_last-clause-takes : goal.returns-then-is_last-clause-takes
returns-then-is_last-clause-takes c =
    let kind : header_kind (c.args.number + 1) c.args.bytes.now ≡ Broken = sym c.read_journal_header.ensures ∙ c.in-Broken.is in
    takes_none c.args.lsn c.args.number c.args.is_last c.args.bytes.now c.args.sections.items c.if-is_last.true (broken_so c.args.number c.args.bytes.now kind)

pub returns-else-is_last-clause-fault : goal.returns-else-is_last-clause-fault
returns-else-is_last-clause-fault c =
    let kind : header_kind (c.args.number + 1) c.args.bytes.now ≡ Broken = sym c.read_journal_header.ensures ∙ c.in-Broken.is in
    subst (HasFileFault c.args.lsn c.args.number c.args.is_last c.args.bytes.now c.args.sections.items) (sym c.bad_header-else-is_last.ensures) (refl, inr (broken_so c.args.number c.args.bytes.now kind, c.if-is_last.false))
