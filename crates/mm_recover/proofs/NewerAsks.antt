-- The sections above a number, one after another.
use Rattle.std.proofs.Common.{◌≡◌, ℕ, zero, suc, Bool, true, false, cond, ◌<◌, ◌≤◌, List, [], ◌∷◌, ◌++◌, length, get_or, refl, sym, ◌∙◌, ap, subst, arith}
use Rattle.std.specs.Prelude.{nat_lt}
use Rattle.std.proofs.lemmas.Bool.Decides.{nat_tests}
use Rattle.mm_ranges.specs.declared.part.Part.{Part}
use Rattle.mm_section.specs.declared.section.Section.{Section}
use Rattle.mm_section.specs.Spells.{AreParts}
use Rattle.mm_crash.specs.Overlay.{Entry}
use Rattle.mm_crash.specs.Journal.{AllCan, above, entries_of}
use Rattle.mm_journal.specs.Real.{disk_name}
use Rattle.mm_journal.proofs.Real.{the_format, the_names, can_is}
use Rattle.mm_recover.specs.Laying.{parts_entries, newer_entries, AreNamed}
use Rattle.mm_recover.proofs.LayAsks.{all_entries}
use Rattle.mm_recover.proofs.ReadTo.{can_as}

turn : (b : Bool) (s : Section) (ss : List Section) (rest : List Entry) → rest ≡ entries_of disk_name ss → cond b (parts_entries s.parts) [] ++ rest ≡ entries_of disk_name (cond b (s ∷ ss) ss)
turn true s ss rest is = ap (λ (l : List Entry). parts_entries s.parts ++ l) is
turn false s ss rest is = is

above_all : (lsn : ℕ) (sections : List Section) → all_entries (newer_entries lsn) sections ≡ entries_of disk_name (above lsn sections)
above_all lsn [] = refl
above_all lsn (s ∷ sections) = turn (nat_lt lsn s.number) s (above lsn sections) (all_entries (newer_entries lsn) sections) (above_all lsn sections)

pub newer_all : (lsn : ℕ) (sections : List Section) → all_entries (newer_entries lsn) sections ≡ entries_of the_names.disk_name (above lsn sections)
unfolding the_names
newer_all lsn sections = above_all lsn sections

named_parts : (ps : List Part) → AreParts ps → AreNamed ps
named_parts [] are = tt
named_parts (p ∷ ps) are = (are.0.name, named_parts ps are.1)

pub can_named : (sections : List Section) (i : ℕ) (s : Section) → i < length sections → s ≡ get_or sections i s → AllCan the_format sections → AreNamed s.parts
can_named [] i s lt is can = absurd (omega arith)
can_named (x ∷ sections) zero s lt is can = subst (λ (y : Section). AreNamed y.parts) (sym is) (named_parts x.parts (can_is x (sym (can_as x) ∙ can.0)).parts)
can_named (x ∷ sections) (suc i) s lt is can = can_named sections i s (omega (arith, lt)) is can.1

pub not_newer : (lsn : ℕ) (s : Section) → s.number ≤ lsn → newer_entries lsn s ≡ []
not_newer lsn s le = let no : nat_lt lsn s.number ≡ false = grind (arith, nat_tests) in ap (λ (b : Bool). cond b (parts_entries s.parts) []) no

pub is_newer : (lsn : ℕ) (s : Section) → lsn < s.number → newer_entries lsn s ≡ parts_entries s.parts
is_newer lsn s lt = let yes : nat_lt lsn s.number ≡ true = grind (arith, nat_tests) in ap (λ (b : Bool). cond b (parts_entries s.parts) []) yes
