use Rattle.std.proofs.Common.{◌≡◌, Bool, true, false, refl, sym, ◌∙◌}
use Rattle.std.specs.Prelude.{not}
use Rattle.std.specs.Str.{bytes_eq}
use Rattle.mm_bson.specs.Path.{names}
use Rattle.mm_update.specs.Meeting.{common}
use Rattle.mm_update.proofs.Steps.{some_step}
use Rattle.mm_update.proofs.apart.common.Goals as goal

not_false : (b : Bool) → not b ≡ false → b ≡ true
not_false true e = refl
not_false false e = absurd cc

pub returns-in_default : goal.returns-in_default
returns-in_default c =
    let a = c.split-a.result in
    let b = c.split-b.result in
    let some = some_step c.in_default.field-0-0.now in
    let ne : not (bytes_eq a.name.now b.name.now) ≡ false = rw (← c.as_bytes.ensures.value, ← c.as_bytes-in-loop-a.ensures.value) (sym c.ne.ensures ∙ c.if-ne.false) in
    let equal : bytes_eq a.name.now b.name.now ≡ true = not_false (bytes_eq a.name.now b.name.now) ne in
    let one : common (names c.loop-a.left.now) (names c.loop-a.right.now) ≡ 1 =
    rw (c.split-a.ensures.steps, c.split-b.ensures.steps, c.in_default.is-0, c.in_default.is-1, some.2) (rw equal refl) in
    rw one at c.loop-a.invariant.told
