use Rattle.std.proofs.Common.{◌≡◌, true, false, Ok, sym, ap, ◌∙◌, subst}
use Rattle.mm_base.specs.Names.{IsName}
use Rattle.mm_model.specs.WellFormed.{is_index_name}
use Rattle.mm_script.specs.declared.fault.LineWhat.TheVariants as what
use Rattle.mm_script.proofs.NameSteps.{part_taken, part_refused, index_is_name}
use Rattle.mm_script.proofs.verbs.index.Goals as goal

pub returns-then-not-is_index : goal.returns-then-not-is_index
returns-then-not-is_index c =
    let w = c.in_ok-word.word.now in
    let fails : is_index_name w ≡ false = ap is_index_name (sym c.as_bytes.ensures.value) ∙ sym c.is_index.ensures ∙ (cc) in
    part_refused what.Index is_index_name c.args.text.now (w, c.in_ok-word.rest.now) c.in_ok-word.ensures fails

pub returns-in-Some : goal.returns-in-Some
returns-in-Some c =
    let w = c.in_ok-word.word.now in
    let passes : is_index_name w ≡ true = ap is_index_name (sym c.as_bytes.ensures.value) ∙ sym c.is_index.ensures ∙ (cc) in
    let same : w ≡ c.in-Some.name = sym c.as_bytes-2.ensures.value ∙ sym c.in-Some.ensures.bytes in
    part_taken what.Index is_index_name c.args.text.now (w, c.in_ok-word.rest.now) c.in_ok-word.ensures passes ∙ ap (λ v. Ok (v, c.in_ok-word.rest.now)) same

pub returns-in-None : goal.returns-in-None
returns-in-None c =
    let w = c.in_ok-word.word.now in
    let passes : is_index_name w ≡ true = ap is_index_name (sym c.as_bytes.ensures.value) ∙ sym c.is_index.ensures ∙ (cc) in
    let name : IsName c.as_bytes-2.result.now = subst IsName (sym c.as_bytes-2.ensures.value) (index_is_name w passes) in
    let wrong : false ≡ true = c.in-None.ensures.some.1 name in
    absurd (cc)
