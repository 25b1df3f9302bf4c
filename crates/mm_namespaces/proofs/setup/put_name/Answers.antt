use Rattle.std.proofs.Common.{Err, ◌∙◌, ap}
use Rattle.mm_nstable.specs.declared.fault.NsFault.{NsFault}
use Rattle.mm_namespaces.proofs.setup.put_name.Goals as goal

pub unreachable-requires : goal.unreachable-requires
unreachable-requires c = c.requires.room (c.put_fresh.ensures.full.0 (c.in-Err-NsFull.is ∙ ap (λ (f : NsFault). Err f) c.in-Err-NsFull.field-0-is))
