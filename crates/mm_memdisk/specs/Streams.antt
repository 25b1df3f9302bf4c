-- What a source and a sink in memory show of themselves.
use Rattle.std.specs.Prelude.{◌≡◌, ℕ, ◌-◌, List, length, drop, Option, Some, vec_len, vec_capacity}
use Rattle.mm_memdisk.specs.Fails.{one_more}
use Rattle.mm_memdisk.specs.declared.source.MemSource.{MemSource}
use Rattle.mm_memdisk.specs.declared.sink.MemSink.{MemSink}

-- ---- a source

-- it always tells the bytes to come
abbrev pub coming_of : MemSource → Option (List ℕ)
coming_of source = Some (drop source.at source.bytes.items)

-- how many faults were counted
abbrev pub read_faults : MemSource → ℕ
read_faults source = source.plan.faults

-- the numbers of the reads that are to fail, counted from 1
abbrev pub reads_to_fail : MemSource → List ℕ
reads_to_fail source = source.plan.failing.items

-- how many reads were made
abbrev pub reads_made : MemSource → ℕ
reads_made source = source.plan.calls

-- the most bytes that a read gives
abbrev pub read_limit : MemSource → ℕ
read_limit source = source.most

-- how many bytes are still to come
abbrev pub bytes_left : MemSource → ℕ
bytes_left source = length source.bytes.items - source.at

-- one more read was made, and the rest of the plan stays
pub record CountsRead (old new : MemSource) : Type 0 where
  pub made : reads_made new ≡ one_more (reads_made old)
  pub failing : reads_to_fail new ≡ reads_to_fail old
  pub limit : read_limit new ≡ read_limit old

-- ---- a sink

-- it always tells the bytes that it took
abbrev pub taken_by : MemSink → Option (List ℕ)
taken_by sink = Some sink.bytes.items

-- how many faults were counted
abbrev pub write_faults : MemSink → ℕ
write_faults sink = sink.plan.faults

-- the numbers of the writes that are to fail, counted from 1
abbrev pub writes_to_fail : MemSink → List ℕ
writes_to_fail sink = sink.plan.failing.items

-- how many writes were made
abbrev pub writes_made : MemSink → ℕ
writes_made sink = sink.plan.calls

-- the most bytes that a write takes
abbrev pub write_limit : MemSink → ℕ
write_limit sink = sink.most

-- how many bytes it took
abbrev pub taken_len : MemSink → ℕ
taken_len sink = vec_len sink.bytes

-- for how many bytes in all it has memory
abbrev pub room_of : MemSink → ℕ
room_of sink = vec_capacity sink.bytes

-- one more write was made, and the rest of the plan stays
pub record CountsWrite (old new : MemSink) : Type 0 where
  pub made : writes_made new ≡ one_more (writes_made old)
  pub failing : writes_to_fail new ≡ writes_to_fail old
  pub limit : write_limit new ≡ write_limit old
