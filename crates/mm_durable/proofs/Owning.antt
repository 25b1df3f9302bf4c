-- What one database's parts lay, part by part and section by section.
use Rattle.std.proofs.Common.{◌≡◌, ℕ, zero, suc, ◌<◌, Bool, true, false, cond, List, [], ◌∷◌, ◌++◌, length, get_or, refl, sym, ap, subst, arith}
use Rattle.std.specs.Ordering.{eq_by_cmp}
use Rattle.mm_outside.specs.Image.{name_cmp}
use Rattle.mm_ranges.specs.declared.part.Part.{Part}
use Rattle.mm_section.specs.declared.section.Section.{Section}
use Rattle.mm_crash.specs.Overlay.{Entry}
use Rattle.mm_recover.specs.Laying.{part_entries, AreNamed}
use Rattle.mm_recover.proofs.LayAsks.{all_entries}
use Rattle.mm_durable.specs.Own.{own_of, own_of_parts, own_of_sections, AreAllNamed}

-- whether the part is the database's
is_own : (name : List ℕ) (part : Part) (b : Bool) → b ≡ eq_by_cmp name_cmp part.name name → cond b (part_entries part) [] ≡ own_of name part
is_own name part b e = ap (λ (x : Bool). cond x (part_entries part) []) e

pub own_is : (name : List ℕ) (part : Part) → true ≡ eq_by_cmp name_cmp part.name name → part_entries part ≡ own_of name part
own_is name part e = is_own name part true e

pub own_isnt : (name : List ℕ) (part : Part) → false ≡ eq_by_cmp name_cmp part.name name → [] ≡ own_of name part
own_isnt name part e = is_own name part false e

abbrev pub own_in_section : List ℕ → Section → List Entry
own_in_section name section = own_of_parts name section.parts

pub parts_are : (name : List ℕ) (parts : List Part) → all_entries (own_of name) parts ≡ own_of_parts name parts
parts_are name [] = refl
parts_are name (p ∷ parts) = ap (λ (l : List Entry). own_of name p ++ l) (parts_are name parts)

pub sections_are : (name : List ℕ) (sections : List Section) → all_entries (own_in_section name) sections ≡ own_of_sections name sections
sections_are name [] = refl
sections_are name (s ∷ sections) = ap (λ (l : List Entry). own_of_parts name s.parts ++ l) (sections_are name sections)

pub section_named : (sections : List Section) (i : ℕ) (s : Section) → i < length sections → s ≡ get_or sections i s → AreAllNamed sections → AreNamed s.parts
section_named [] i s lt is named = absurd (omega arith)
section_named (r ∷ sections) zero s lt is named = subst (λ (x : Section). AreNamed x.parts) (sym is) named.0
section_named (r ∷ sections) (suc i) s lt is named = section_named sections i s (omega (arith, lt)) is named.1
