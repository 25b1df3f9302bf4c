use Rattle.std.proofs.Common.{◌≡◌, ◌-◌, length, drop, take, Ok, Err, sym, ap, ◌∙◌, subst, arith}
use Rattle.mm_notation.specs.Reading.{document_at, Fails}
use Rattle.mm_notation.proofs.Answering.{found_from, refused_from, found_short, refused_short, sliced}
use Rattle.mm_notation.proofs.reading.read_doc.Goals as goal

pub overflow_sub-result : goal.overflow_sub-result
overflow_sub-result c =
    let read : document_at (drop c.args.at c.args.text.now) ≡ Ok (c.in-Ok.found, c.in-Ok.after.now) = ap document_at (sym (sliced c.args.text.now c.as_bytes.result.now c.args.at c.as_bytes.ensures.value)) ∙ c.in-Ok.ensures in
    found_short c.args.text.now c.args.at c.in-Ok.found c.in-Ok.after.now read

pub overflow_sub-result-in-Err-At : goal.overflow_sub-result-in-Err-At
overflow_sub-result-in-Err-At c =
    let part = take (length c.as_bytes.result.now - c.args.at) (drop c.args.at c.as_bytes.result.now) in
    let told : document_at part ≡ Err c.in-Err-At.left.now = subst (λ e. Fails e (document_at part)) c.in-Err-At.field-0-is c.in-Err-At.ensures in
    let read : document_at (drop c.args.at c.args.text.now) ≡ Err c.in-Err-At.left.now = ap document_at (sym (sliced c.args.text.now c.as_bytes.result.now c.args.at c.as_bytes.ensures.value)) ∙ told in
    refused_short c.args.text.now c.args.at c.in-Err-At.left.now read

pub returns-in-Ok-clause-found : goal.returns-in-Ok-clause-found
returns-in-Ok-clause-found c =
    let read : document_at (drop c.args.at c.args.text.now) ≡ Ok (c.in-Ok.found, c.in-Ok.after.now) = ap document_at (sym (sliced c.args.text.now c.as_bytes.result.now c.args.at c.as_bytes.ensures.value)) ∙ c.in-Ok.ensures in
    let short = found_short c.args.text.now c.args.at c.in-Ok.found c.in-Ok.after.now read in
    found_from c.args.text.now c.args.at c.in-Ok.found c.in-Ok.after.now (length c.args.text.now - length c.in-Ok.after.now) c.requires.boundary.0 read (omega (arith, short))

pub returns-in-Err-At-clause-refused : goal.returns-in-Err-At-clause-refused
returns-in-Err-At-clause-refused c =
    let part = take (length c.as_bytes.result.now - c.args.at) (drop c.args.at c.as_bytes.result.now) in
    let told : document_at part ≡ Err c.in-Err-At.left.now = subst (λ e. Fails e (document_at part)) c.in-Err-At.field-0-is c.in-Err-At.ensures in
    let read : document_at (drop c.args.at c.args.text.now) ≡ Err c.in-Err-At.left.now = ap document_at (sym (sliced c.args.text.now c.as_bytes.result.now c.args.at c.as_bytes.ensures.value)) ∙ told in
    let short = refused_short c.args.text.now c.args.at c.in-Err-At.left.now read in
    refused_from c.args.text.now c.args.at c.in-Err-At.left.now (length c.args.text.now - length c.in-Err-At.left.now) c.utf8.text c.requires.boundary.0 read (omega (arith, short))
