use Rattle.std.proofs.Common.{inl, refl}
use Rattle.mm_durable.proofs.Sealed.{sealed_more}
use Rattle.mm_rows_durable.proofs.Taking.{all_closed, has_entry, sealed_bench}
use Rattle.mm_rows_durable.proofs.closing.close_and_seal.Goals as goal

pub seal-requires : goal.seal-requires
seal-requires c =
    let b = c.close_all.«new».bench in
    let is = c.in_ok-close_all.ensures in
    record { orderly = is.orderly; ready = is.ready; closed = all_closed b _ _ is refl; entry = inl (has_entry b _ _ is refl) }

pub returns : goal.returns
returns c =
    let b = c.close_all.«new».bench in
    let is = c.in_ok-close_all.ensures in
    let sealed = c.seal.ensures in
    sealed_bench b _ _ _ is refl sealed.orderly sealed.ended sealed.more.names (sealed_more _ _ _ sealed.more) sealed.feeds refl
