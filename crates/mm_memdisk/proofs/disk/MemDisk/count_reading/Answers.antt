use Rattle.std.proofs.Common.{ap, arith}
use Rattle.mm_memdisk.specs.declared.disk.MemDisk.{MemDisk}
use Rattle.mm_memdisk.proofs.disk.MemDisk.count_reading.Goals as goal

pub returns-then-stops-clause-cause : goal.returns-then-stops-clause-cause
returns-then-stops-clause-cause c =
    let same = ap (λ (d : MemDisk). d.fault_count) c.count_call.ensures in
    let more = ap (λ (d : MemDisk). d.fault_count) c.fault.ensures.counted in
    record { later = omega (arith, same, c.fault.ensures.later); rose = λ is lt. omega (arith, same, more, lt) }
