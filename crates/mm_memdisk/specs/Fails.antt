-- Which calls of a fake fail, and what it counts.
use Rattle.std.specs.Prelude.{◌≡◌, ℕ, ◌+◌, ◌-◌, ◌^◌, min, Bool, true, false, nat_le, List, Option, None, Some, Contains, ◌⊎◌, Result, Ok, Err, ⊤}
use Rattle.mm_outside.specs.declared.disk.Device.{Device}
use Rattle.mm_outside.specs.declared.disk.Device.TheVariants.{Fault, NoMemory}

-- one more, up to the last value of a u64
abbrev pub one_more : ℕ → ℕ
one_more count = min (count + 1) (2 ^ 64 - 1)

-- the disk is stopped at the changing call of this number, or at one before it
abbrev pub is_stopped : Option ℕ → ℕ → Bool
is_stopped None number = false
is_stopped (Some call) number = nat_le call number

-- A changing call with this number fails exactly where it is among those that are to fail, or the disk is stopped by then. Memory alone may be wanting besides.
abbrev pub FailsAsTold : {T : Type 0} → List ℕ → Option ℕ → ℕ → Result T Device → Type 0
FailsAsTold failing stop number (Ok _) = (Contains failing number → ⊥) × (is_stopped stop number ≡ false)
FailsAsTold failing stop number (Err Fault) = Contains failing number ⊎ (is_stopped stop number ≡ true)
FailsAsTold failing stop number (Err NoMemory) = ⊤

-- A reading call fails exactly where the changing call at which the disk is stopped has begun.
abbrev pub FailsAsStopped : {T : Type 0} → Option ℕ → ℕ → Result T Device → Type 0
FailsAsStopped stop moment (Ok _) = is_stopped stop moment ≡ false
FailsAsStopped stop moment (Err Fault) = is_stopped stop moment ≡ true
FailsAsStopped stop moment (Err NoMemory) = ⊤

-- how many faults are counted after a call of a disk
abbrev pub faults_after : {T : Type 0} → Result T Device → ℕ → ℕ
faults_after (Ok _) count = count
faults_after (Err Fault) count = one_more count
faults_after (Err NoMemory) count = count

-- the same after a call whose only error is a fault
abbrev pub faults_after_any : {T E : Type 0} → Result T E → ℕ → ℕ
faults_after_any (Ok _) count = count
faults_after_any (Err _) count = one_more count
