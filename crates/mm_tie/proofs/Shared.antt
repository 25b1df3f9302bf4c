-- What a `&` to an end of a ring holds names no thread, so any thread may have it.
use Rattle.std.proofs.Common.{ℕ, zero, suc, List, [], ◌∷◌, length}
use mir.Syntax.{Ty}
use base.Fml.{Fml}
use denote.RattleType.{RattleType}
use denote.RawPtr.{Ptr}
use denote.Struct.Struct.{Struct}
use denote.Struct.Owning.{shape, to}
use denote.Param.Send.{IsSync, Common, sendable, recorded_sync, struct_sync}
use Rattle.std.specs.declared.alloc.Allocator as Allocator
use Rattle.rtrb.specs.declared.Protocol as Protocol
use Rattle.rtrb.specs.Shared.{Names, front_lent, mine_lent}
use Rattle.rtrb.specs.contracts.end.End.{the_row, the_type}
use denote.Struct.Declared as declared
use Rattle.std.proofs.alloc.Global.TheSendSync as handle
use Rattle.mm_tie.specs.contracts.ends.Giver as giver
use Rattle.mm_tie.specs.contracts.ends.Taker as taker

module _ (t : Ty → Ptr → Fml) (R : RattleType) (y : IsSync R) (allows : List R.Denot → R.Denot → Type 0) (w p : Ptr) (z : Names) where
  front : (k : ℕ) (xs : List R.Denot) → Common (front_lent t R allows w p z k xs)
  front k [] κ = tt
  front k (x ∷ xs) κ = (tt, y.shared x _ _ κ)

  mine_common : (role : ℕ) (past ahead : List R.Denot) → Common (mine_lent t R allows w p z role past ahead)
  mine_common zero past ahead κ = tt
  mine_common (suc zero) past ahead κ = (tt, front (length past) ahead κ)
  mine_common (suc (suc n)) past ahead κ = tt

pub end_sync : (T A P : RattleType) (g : Allocator.Ghosts A.Denot) (gp : Protocol.Ghosts P.Denot T.Denot) → IsSync T → IsSync (the_row T A P g gp)
end_sync T A P g gp y = let fields : IsSync (Struct (shape (the_type T A P g gp))) = search sendable depth 20 in
    record { shared = λ d b o κ. (fields.shared (to (the_type T A P g gp) d) b o κ, ((λ _. tt), mine_common (g.dealloc_token d.heap) T y gp.allows d.words d.slots d.names d.role d.past d.ahead κ)) }

pub giver_sync : (T : RattleType) → IsSync T → IsSync (giver.the_row T)
giver_sync T y = recorded_sync _ _ _ (giver.the_type T).to_one (struct_sync (declared.shape (giver.the_type T)) (search (sendable, end_sync, handle.the_field_sync) depth 30, tt))

pub taker_sync : (T : RattleType) → IsSync T → IsSync (taker.the_row T)
taker_sync T y = recorded_sync _ _ _ (taker.the_type T).to_one (struct_sync (declared.shape (taker.the_type T)) (search (sendable, end_sync, handle.the_field_sync) depth 30, tt))
