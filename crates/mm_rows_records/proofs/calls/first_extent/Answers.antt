use Rattle.std.proofs.Common.{◌∙◌, sym}
use Rattle.std.proofs.lemmas.Bool.{false≢true}
use Rattle.mm_rows_records.proofs.CallLaws.{extent_first}
use Rattle.mm_rows_records.proofs.calls.first_extent.Goals as goal

pub returns-else-is_null : goal.returns-else-is_null
returns-else-is_null c = extent_first c.args.draft.now.image c.args.store.node c.requires.node c.details.result c.details.ensures.table (λ e. false≢true (sym c.if-is_null.false ∙ c.is_null.ensures.1 e))
