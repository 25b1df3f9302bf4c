-- A fault that a call hands on.
use Rattle.std.proofs.Common.{◌≡◌, ◌∙◌, Result, Ok, Err, sym}
use Rattle.std.specs.Result.{IsErrAnd}
use Rattle.mm_btree.specs.declared.fault.TreeFault.{TreeFault}
use Rattle.mm_btree.specs.declared.fault.TreeFault.TheVariants.{Duplicate, NoSpace, NoMemory}

pub handed_on : {T : Type 0} (r : Result T TreeFault) (f x : TreeFault) → IsErrAnd r (λ fault. fault ≡ f) → r ≡ Err x → f ≡ x
handed_on (Ok y) f x and e = absurd and
handed_on (Err y) f x and e = let same : y ≡ x = cc in sym and ∙ same

-- want of memory is no other fault
pub no_space : {T : Type 0} (r : Result T TreeFault) → IsErrAnd r (λ fault. fault ≡ NoMemory) → r ≡ Err NoSpace → ⊥
no_space r and e = let z : NoMemory ≡ NoSpace = handed_on r NoMemory NoSpace and e in cc

pub no_duplicate : {T : Type 0} (r : Result T TreeFault) → IsErrAnd r (λ fault. fault ≡ NoMemory) → r ≡ Err Duplicate → ⊥
no_duplicate r and e = let z : NoMemory ≡ Duplicate = handed_on r NoMemory Duplicate and e in cc
