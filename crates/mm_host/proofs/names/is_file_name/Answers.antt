use Rattle.std.proofs.Common.{◌≡◌, ◌≢◌, ℕ, List, ◌++◌, None, Some, sym, subst, ◌∙◌}
use Rattle.std.proofs.lemmas.Bool.Decides.{Decides-eqb}
use Rattle.std.proofs.lemmas.Slice.Eq.{strip_prefix_is}
use Rattle.mm_host.specs.Names.{IsPart, journal_prefix}
use Rattle.mm_host.proofs.FileNames.{names_below, names_beside}
use Rattle.mm_host.proofs.names.is_file_name.Goals as goal

pub returns-in-Some : goal.returns-in-Some
returns-in-Some c =
    let split : c.as_bytes-bytes.result.now ≡ journal_prefix ++ c.in-Some.part.now = strip_prefix_is Decides-eqb c.as_bytes-bytes.result.now journal_prefix (Some c.in-Some.part) c.in-Some.ensures.cases in
    let both = names_below c.args.name.now c.in-Some.part.now (sym c.as_bytes-bytes.ensures.value ∙ split) in
    ((λ t. both.1 (c.is_part.ensures.0 t)), λ is. c.is_part.ensures.1 (both.0 is))

pub returns-in-None : goal.returns-in-None
returns-in-None c =
    let none : (part : List ℕ) → c.as_bytes-bytes.result.now ≢ journal_prefix ++ part = strip_prefix_is Decides-eqb c.as_bytes-bytes.result.now journal_prefix None c.in-None.ensures.cases in
    let both = names_beside c.args.name.now (λ part e. none part (c.as_bytes-bytes.ensures.value ∙ e)) in
    let same = c.as_bytes-bytes.ensures.value in
    ((λ t. both.1 (subst IsPart same (c.is_part-in-None.ensures.0 t))), λ is. c.is_part-in-None.ensures.1 (subst IsPart (sym same) (both.0 is)))
