-- The calls of a replay: sections are laid, and then the end is made.
use Rattle.std.proofs.Common.{◌≡◌, ℕ, List, ◌++◌, Option, ◌∙◌, ap}
use Rattle.std.specs.Prelude.{unwrap_or}
use Rattle.mm_outside.specs.Ask.{Ask}
use Rattle.mm_outside.specs.declared.disk.Device.{Device}
use Rattle.mm_outside.specs.declared.disk.Device.TheVariants as device
use Rattle.mm_section.specs.declared.section.Section.{Section}
use Rattle.mm_crash.specs.Journal.{above, entries_of}
use Rattle.mm_crash.specs.Asks.{lay_asks}
use Rattle.mm_journal.proofs.Real.{the_names}
use Rattle.mm_recover.specs.Closing.{close_asks}
use Rattle.mm_recover.specs.Faults.{fault_of}
use Rattle.mm_recover.specs.Recovering.{last_number, replay_asks, IsOfDevice}

abbrev pub laying : ℕ → List Section → List Ask
laying lsn sections = lay_asks (entries_of the_names.disk_name (above lsn sections))

pub parted : (lsn : Option ℕ) (ns : List ℕ) (sections : List Section) (names : List (List ℕ)) (l last : ℕ) (ss : List Section) (ks : List ℕ) → l ≡ unwrap_or lsn 0 → ss ≡ sections → ks ≡ ns → last ≡ last_number lsn sections → laying l ss ++ close_asks names last ks ≡ replay_asks lsn ns sections names
parted lsn ns sections names l last ss ks e f h g =
    ap (λ n. laying n ss ++ close_asks names last ks) e
    ∙ ap (λ (x : List Section). laying (unwrap_or lsn 0) x ++ close_asks names last ks) f
    ∙ ap (λ (x : List ℕ). laying (unwrap_or lsn 0) sections ++ close_asks names last x) h
    ∙ ap (λ n. laying (unwrap_or lsn 0) sections ++ close_asks names n ns) g

pub of_device : (d : Device) → IsOfDevice (fault_of d)
of_device device.Fault = tt
of_device device.NoMemory = tt
