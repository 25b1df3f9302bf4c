-- Writing piece by piece, each behind what was written before.
use Rattle.std.proofs.Common.{◌≡◌, ℕ, List, [], ◌++◌, Result, Ok, Err, OnOk, OnErr, append_assoc, append-nil, sym, ap, ◌∙◌}
use Rattle.mm_notation.specs.Written.{Grows}

-- what grew where nothing or something was put
pub grows_none : (old new : List ℕ) → new ≡ old → Grows old new
grows_none old new h = ([], h ∙ sym (append-nil old))

pub grows_behind : (old mid new a : List ℕ) → mid ≡ old ++ a → Grows mid new → Grows old new
grows_behind old mid new a h g = (a ++ g.0, g.1 ∙ ap (λ (x : List ℕ). x ++ g.0) h ∙ append_assoc old a g.0)

pub on_err : {T E P : Type 0} (result : Result T E) → P → OnErr result P
on_err (Ok x) p = tt
on_err (Err e) p = p

-- what the call gives whose result is returned, behind the piece before it
pub behind_ok : {T E : Type 0} (result : Result T E) (old mid new a b : List ℕ) → mid ≡ old ++ a → OnOk result (new ≡ mid ++ b) → OnOk result (new ≡ old ++ (a ++ b))
behind_ok (Ok x) old mid new a b h p = p ∙ ap (λ (x : List ℕ). x ++ b) h ∙ append_assoc old a b
behind_ok (Err e) old mid new a b h p = tt

pub same_err : {T E : Type 0} (result : Result T E) (old new : List ℕ) → OnErr result (new ≡ old) → OnErr result (Grows old new)
same_err (Ok x) old new p = tt
same_err (Err e) old new p = grows_none old new p

pub behind_err : {T E : Type 0} (result : Result T E) (old mid new a : List ℕ) → mid ≡ old ++ a → OnErr result (Grows mid new) → OnErr result (Grows old new)
behind_err (Ok x) old mid new a h p = tt
behind_err (Err e) old mid new a h p = grows_behind old mid new a h p
