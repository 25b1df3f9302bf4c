use Rattle.std.proofs.Common.{◌≡◌, ℕ, ◌+◌, ◌-◌, [], ◌∷◌, ◌++◌, take, sym, ◌∙◌, arith}
use Rattle.std.specs.Prelude.{slice_set}
use Rattle.std.proofs.lemmas.List.{take_more_set, length-set, take_all}
use Rattle.std.proofs.lemmas.Result.{err_from_is_err_and}
use Rattle.mm_notation.proofs.Loops.{pairs_on, pairs_done, pairs_stop}
use Rattle.mm_notation.proofs.values.twelve.Goals as goal

pub loop-i-preserved : goal.loop-i-preserved
loop-i-preserved c =
    let inv = c.loop-i.invariant in
    let i : ℕ = c.loop-i.i in
    let e = c.in_ok-byte in
    let put : take (i + 1) (slice_set c.loop-i.found i e.byte) ≡ take i c.loop-i.found ++ e.byte ∷ [] = take_more_set c.loop-i.found i e.byte (omega arith) in
    record {
      same = rw put (sym (pairs_on (12 - i) (12 - (i + 1)) (take i c.loop-i.found) c.loop-i.rest.now e.after.now e.byte (omega arith) e.ensures.gives) ∙ inv.same);
      left = omega (arith, e.ensures.left);
      sized = length-set c.loop-i.found i e.byte ∙ inv.sized;
    }

pub returns-in_err-byte-clause-gives : goal.returns-in_err-byte-clause-gives
returns-in_err-byte-clause-gives c =
    let p = err_from_is_err_and c.from_residual.result c.from_residual.ensures.1 in
    let inv = c.loop-i.invariant in
    rw (p.1, p.2) (pairs_stop (12 - c.loop-i.i) (take c.loop-i.i c.loop-i.found) c.loop-i.rest.now c.in_err-byte.field-0.0 _ (omega arith) c.in_err-byte.ensures.gives inv.same)

pub returns-clause-gives : goal.returns-clause-gives
returns-clause-gives c =
    let inv = c.loop-i.invariant in
    let all : take c.loop-i.i c.loop-i.found ≡ c.loop-i.found = take_all c.loop-i.i c.loop-i.found (omega (arith, inv.sized)) in
    sym inv.same ∙ rw all (pairs_done (12 - c.loop-i.i) c.loop-i.found c.loop-i.rest.now (omega arith))
