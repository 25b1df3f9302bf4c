use Rattle.std.proofs.Common.{ap, ◌∙◌}
use Rattle.mm_records.specs.Constants.{is_name}
use Rattle.mm_check.proofs.CodeTests.{bytes_name}
use Rattle.mm_check.proofs.constants.is_system_indexes.Goals as goal

pub returns : goal.returns
returns c = c.eq.ensures ∙ bytes_name c.args.name.now c.as_slice.result.now ∙ ap (is_name c.args.name.now) c.as_slice.ensures
