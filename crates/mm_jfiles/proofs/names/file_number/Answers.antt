use Rattle.std.proofs.Common.{◌≡◌, ℕ, ◌^◌, ◌<◌, List, ◌++◌, Result, Ok, arith, sym, ◌∙◌, ap, refl, rules}
use mathlib.Core.Bool.{true≢false}
use Rattle.std.specs.Prelude.{codes, nat_eq}
use Rattle.std.specs.Cmp.Lexicographic.{pointwise}
use Rattle.std.proofs.lemmas.Cmp.{nat_list_eq_equiv}
use Rattle.std.specs.Fmt.{decimal}
use Rattle.std.proofs.lemmas.Fmt.{parse-decimal}
use Rattle.std.proofs.lemmas.List.{append_cancel_left}
use Rattle.mm_jfiles.specs.Names.{journal_name}
use Rattle.mm_jfiles.proofs.names.file_number.Goals as goal

named : (n : ℕ) (name : List ℕ) → name ≡ journal_name n → name ≡ codes "journal/j._" ++ decimal n
unfolding journal_name
named n name is = is

pub returns-in_default-clause-none : goal.returns-in_default-clause-none
returns-in_default-clause-none c = λ n lt is. c.in_default.ensures.cases (decimal n) (named n c.args.name.now is)

pub returns-in_default-parse-clause-none : goal.returns-in_default-parse-clause-none
returns-in_default-parse-clause-none c = λ n lt is.
    let cases = c.in-Some.ensures.cases in
    let digits : c.in-Some.digits.now ≡ decimal n = cases.2 ∙ append_cancel_left (codes "journal/j._") _ _ (sym cases.1.1 ∙ named n c.args.name.now is) in
    c.in_default-parse.not-Ok n (parse-decimal 32 n c.in-Some.digits.now c.parse.result lt (omega (arith, lt)) digits c.parse.ensures.value.0)

pub returns-clause-none : goal.returns-clause-none
returns-clause-none c = λ n lt is.
    let cases = c.in-Some.ensures.cases in
    let digits : c.in-Some.digits.now ≡ decimal n = cases.2 ∙ append_cancel_left (codes "journal/j._") _ _ (sym cases.1.1 ∙ named n c.args.name.now is) in
    let parsed : c.parse.result ≡ Ok n = parse-decimal 32 n c.in-Some.digits.now c.parse.result lt (omega (arith, lt)) digits c.parse.ensures.value.0 in
    let same : c.in-Ok.number ≡ n = let was = c.in-Ok.is in cc in
    let its : c.as_str.result.now ≡ c.args.name.now = c.as_str.ensures.value ∙ c.in_ok-its_name.ensures ∙ ap journal_name same ∙ sym is in
    true≢false (sym (nat_list_eq_equiv.refl c.args.name.now) ∙ sym (ap (λ (l : List ℕ). pointwise nat_eq l c.args.name.now) its) ∙ sym c.eq.ensures ∙ c.if-eq.false)
