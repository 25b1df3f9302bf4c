-- What holds of a result's value.
use Rattle.std.proofs.Common.{Result, Ok, Err, IfOk}

pub ok_mapped : {T E : Type 0} (r : Result T E) (P Q : T → Type 0) → ((x : T) → P x → Q x) → IfOk r P → IfOk r Q
ok_mapped (Ok x) P Q f h = f x h
ok_mapped (Err x) P Q f h = h
