use Rattle.std.proofs.Common.{◌≡◌, ◌+◌, ◌-◌, ℕ, List, length, take, drop, sym, ◌∙◌, ap, subst, arith, rules}
use Rattle.mm_section.proofs.Seals.{section_found, no_seal, no_parts}
use Rattle.mm_base.specs.Bytes.{part}
use Rattle.mm_ranges.specs.declared.part.Part.{Part}
use Rattle.mm_section.specs.Spells.{Begins, padding}
use Rattle.mm_section.specs.Reading.{HasNoSeal, AreSpelled}
use Rattle.mm_section.proofs.reading.read_section.Goals as goal

pub returns-in_default-clause-none : goal.returns-in_default-clause-none
returns-in_default-clause-none c = no_seal c.args.id c.args.input.now (let none : HasNoSeal c.args.id c.args.input.now = search rules in none)

pub returns-in_default-2-clause-none : goal.returns-in_default-2-clause-none
unfolding part
returns-in_default-2-clause-none c =
    let input = c.args.input.now in
    let header = c.in-Some.header in
    let none : (parts : List Part) → AreSpelled parts (take (header.len - 32 - 20) (drop 20 input)) → ⊥ = search rules in
    let size : header.len - 32 - 20 ≡ header.len - 52 = omega arith in
    no_parts c.args.id header input (omega arith) c.in-Some.ensures.some (subst (λ n. (parts : List Part) → AreSpelled parts (take n (drop 20 input)) → ⊥) size none)

pub returns-clause-some : goal.returns-clause-some
unfolding part
returns-clause-some c =
    let input = c.args.input.now in
    let header = c.in-Some.header in
    let parts = c.in-Some-2.parts.items in
    let found : AreSpelled parts (take (header.len - 32 - 20) (drop 20 input)) = search rules in
    let size : header.len - 32 - 20 ≡ header.len - 52 = omega arith in
    let begins = section_found c.args.id header parts input (λ i. (c.type_inv.input i).fits) c.in-Some.ensures.some (subst (λ n. AreSpelled parts (take n (drop 20 input))) size found) in
    subst (λ n. Begins (record { number = header.number; parts = c.new.result }) c.args.id (header.len + n) input) (sym c.padding.ensures.is)
    (subst (λ (l : List Part). Begins (record { number = header.number; parts = l }) c.args.id (header.len + padding header.len) input) (sym c.new.ensures) begins)
