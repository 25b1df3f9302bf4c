-- The lsn, as it was read.
use Rattle.std.proofs.Common.{◌≡◌, inl, inr, ℕ, ◌^◌, ◌<◌, List, get_or, Option, Some, None, sym, ◌∙◌, ap, subst, arith}
use Rattle.std.specs.Prelude.{IfSome}
use Rattle.std.proofs.lemmas.Bool.{cases_lt}
use Rattle.mm_outside.specs.Image.{Image, bytes_at}
use Rattle.mm_jfiles.specs.Names.{lsn_name}
use Rattle.mm_jfiles.specs.Marks.{HasMark}
use Rattle.mm_journal.specs.Real.{number_bytes}
use Rattle.mm_journal.proofs.Real.{the_format, the_names, small, great}
use Rattle.mm_crash.specs.Recovered.{journal_of}
use Rattle.mm_recover.specs.declared.fault.Recover.{Recover}
use Rattle.mm_recover.specs.declared.fault.Recover.TheVariants.{DiskFault, NoMemory, BadHeader, JournalGap, BadLength}
use Rattle.mm_recover.specs.Reading.{HasFault}
use Rattle.mm_recover.specs.Recovering.{ReadsLsn, IsFaultOf}

-- a number that bytes spell fits 64 bits
fits : (bytes : List ℕ) → ((i : ℕ) → i < 89 → get_or bytes i 0 < 256) → (n : ℕ) → bytes ≡ number_bytes n → n < 2 ^ 64
fits bytes are n is = elim (cases_lt n (2 ^ 64)) [
  | inl lt ↦ lt
  | inr le ↦ absurd (omega (arith, le, are 0 (omega arith), ap (λ (l : List ℕ). get_or l 0 0) (is ∙ great n le)))
]

pub reads_lsn : (image : Image) (mark : Option ℕ) → IfSome mark (λ n. n < 2 ^ 64) → HasMark (bytes_at image lsn_name) mark → ((i : ℕ) → i < 89 → get_or (bytes_at image lsn_name) i 0 < 256) → ReadsLsn image mark
unfolding the_names the_format
reads_lsn image None lt has are = record { reads = λ n e. has n (fits (bytes_at image lsn_name) are n e) (e ∙ small n (fits (bytes_at image lsn_name) are n e)); small = fits (bytes_at image lsn_name) are }
reads_lsn image (Some n) lt has are = record { reads = has ∙ sym (small n lt); small = fits (bytes_at image lsn_name) are }

pub same_mark : (image : Image) (old mark : Option ℕ) → mark ≡ old → IfSome mark (λ n. n < 2 ^ 64) → HasMark (bytes_at image lsn_name) old → ((i : ℕ) → i < 89 → get_or (bytes_at image lsn_name) i 0 < 256) → ReadsLsn image mark
same_mark image old mark same lt has are = reads_lsn image mark lt (subst (HasMark (bytes_at image lsn_name)) (sym same) has) are

pub journal_fault : (image : Image) (lsn : Option ℕ) → ReadsLsn image lsn → (e : Recover) → HasFault lsn (journal_of the_names image) e → IsFaultOf image e
journal_fault image lsn reads NoMemory h = tt
journal_fault image lsn reads DiskFault h = tt
journal_fault image lsn reads (BadLength file len) h = h
journal_fault image lsn reads (BadHeader file) h = (lsn, reads, h)
journal_fault image lsn reads (JournalGap expected found) h = (lsn, reads, h)
