use Rattle.mm_journal.specs.Real.{disk_name}
use Rattle.mm_recover.proofs.TouchedNames.{name_added}
use Rattle.mm_recover.proofs.touched.add_file.Goals as goal

pub returns : goal.returns
returns c = name_added (disk_name c.args.name.now c.args.file) c.in_ok-text.text c.args.names c.insert.new.self c.in_ok-text.ensures c.in_ok-insert.ensures.updates
