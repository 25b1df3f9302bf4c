use Rattle.mm_held.specs.Loaded.{all_files}
use Rattle.mm_held.proofs.begun.loaded.Goals as goal

pub returns : goal.returns
unfolding all_files
returns c = c.copied.ensures
