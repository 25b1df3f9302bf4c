-- What a disk in memory shows of itself.
use Rattle.std.specs.Prelude.{◌≡◌, ℕ, ◌+◌, true, false, List, length, Option, Some, Result, Ok, Err}
use Rattle.mm_outside.specs.Told.{Told}
use Rattle.mm_outside.specs.declared.disk.Device.{Device}
use Rattle.mm_outside.specs.declared.disk.Device.TheVariants.{Fault, NoMemory}
use Rattle.mm_memdisk.specs.Files.{image_of_entries}
use Rattle.mm_memdisk.specs.Calls.{told_of}
use Rattle.mm_memdisk.specs.Fails.{FailsAsTold, FailsAsStopped, is_stopped, faults_after, one_more}
use Rattle.mm_memdisk.specs.declared.disk.MemDisk.{MemDisk}

-- what it was asked
abbrev pub told_by : MemDisk → Told
told_by disk = told_of (image_of_entries disk.start.entries) disk.calls.items

-- it always tells
abbrev pub tells : MemDisk → Option Told
tells disk = Some (told_by disk)

-- how many changing calls have begun
abbrev pub moment_of : MemDisk → ℕ
moment_of disk = length disk.calls.items

-- how many faults were counted
abbrev pub faults_counted : MemDisk → ℕ
faults_counted disk = disk.fault_count

-- the numbers of the changing calls that are to fail, counted from 1
abbrev pub failing_of : MemDisk → List ℕ
failing_of disk = disk.failing.items

-- the number of the changing call at which it is stopped
abbrev pub stop_of : MemDisk → Option ℕ
stop_of disk = disk.stop

-- how many calls of any kind were made
abbrev pub calls_made : MemDisk → ℕ
calls_made disk = disk.made

-- A changing call fails exactly as it was told, or for want of memory. It counts a fault where it fails and only there, and the calls that are to fail stay.
pub record FollowsPlan {T : Type 0} (old new : MemDisk) (result : Result T Device) : Type 0 where
  pub fails : FailsAsTold (failing_of old) (stop_of old) (moment_of old + 1) result
  pub faults : faults_counted new ≡ faults_after result (faults_counted old)
  pub made : calls_made new ≡ one_more (calls_made old)
  pub failing : failing_of new ≡ failing_of old
  pub stop : stop_of new ≡ stop_of old

-- A reading call fails exactly where the disk is stopped, or for want of memory, and counts a fault where it fails.
pub record OnlyReads {T : Type 0} (old new : MemDisk) (result : Result T Device) : Type 0 where
  pub fails : FailsAsStopped (stop_of old) (moment_of old) result
  pub faults : faults_counted new ≡ faults_after result (faults_counted old)
  pub made : calls_made new ≡ one_more (calls_made old)
  pub failing : failing_of new ≡ failing_of old
  pub stop : stop_of new ≡ stop_of old

-- one call more is counted
abbrev pub counted : MemDisk → MemDisk
counted disk = record disk { made = one_more disk.made }

-- A call that only reads is counted, and a fault where the disk is stopped.
abbrev pub Reading : {T : Type 0} → MemDisk → MemDisk → Result T Device → Type 0
Reading old new (Ok _) = (is_stopped (stop_of old) (moment_of old) ≡ false) × (new ≡ counted old)
Reading old new (Err Fault) = (is_stopped (stop_of old) (moment_of old) ≡ true) × (new ≡ record (counted old) { fault_count = one_more old.fault_count })
Reading old new (Err NoMemory) = ⊥
