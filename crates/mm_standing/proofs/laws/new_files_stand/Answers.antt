use Rattle.mm_standing.proofs.NewFiles.{new_files_stand}
use Rattle.mm_standing.proofs.laws.new_files_stand.Goals as goal

pub returns : goal.returns
returns c = new_files_stand
