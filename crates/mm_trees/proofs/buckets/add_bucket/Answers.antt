use Rattle.std.proofs.Common.{◌≡◌, ◌*◌, ◌∙◌, Some, Result, Ok, Err, refl, sym, ap, arith}
use Rattle.std.specs.Prelude.{IsErrAnd}
use Rattle.mm_base.specs.declared.place.DiskLoc.{DiskLoc}
use Rattle.mm_extents.specs.declared.fault.SpaceFault.{SpaceFault}
use Rattle.mm_extents.specs.declared.fault.SpaceFault.TheVariants.{NoSpace}
use Rattle.mm_btree.specs.Nodes.{node_of}
use Rattle.mm_records.proofs.Serving.{no_block}
use Rattle.mm_records.specs.Map.{name_at}
use Rattle.mm_trees.proofs.Calls.{added_node, added_change, was_free, new_not_null, step_of}
use Rattle.mm_trees.proofs.buckets.add_bucket.Goals as goal

pub alloc-requires-clause-bucket : goal.alloc-requires-clause-bucket
alloc-requires-clause-bucket c = λ _. let l = c.bytes.ensures.laid.whole in omega (arith, l)

pub alloc-requires-clause-stands : goal.alloc-requires-clause-stands
alloc-requires-clause-stands c = let r = c.requires.holds in (r.0, (r.1.0, (r.1.1.stands, r.1.1.is_node)))

pub returns-clause-free : goal.returns-clause-free
returns-clause-free c =
    let r = c.requires.holds in
    let h = r.1.1 in
    let x = c.in_ok-at.ensures.ok r.0 r.1.0 8208 h.stands h.is_node refl in
    was_free c.args.draft.now.image c.alloc.new.draft.image r.0 r.1.0 x.0 c.args.node h c.in_ok-at.at x.1.1.0 c.bytes.result.now c.args.bucket.now x.1.0 x.1.1.1.0 x.1.1.1.1 c.bytes.ensures c.requires.alike

pub returns-clause-place : goal.returns-clause-place
returns-clause-place c =
    let r = c.requires.holds in
    let h = r.1.1 in
    let x = c.in_ok-at.ensures.ok r.0 r.1.0 8208 h.stands h.is_node refl in
    new_not_null c.args.draft.now.image c.alloc.new.draft.image r.0 r.1.0 x.0 c.args.node h c.in_ok-at.at x.1.1.0 c.bytes.result.now c.args.bucket.now x.1.0 x.1.1.1.0 x.1.1.1.1 c.bytes.ensures c.requires.alike

pub returns-clause-step : goal.returns-clause-step
returns-clause-step c =
    let r = c.requires.holds in
    let old = c.args.draft.now.image in
    let new = c.alloc.new.draft.image in
    let e = c.in_ok-at.ensures in
    step_of old new c.args.node 1 c.in_ok-at.at (Some (node_of c.args.bucket.now)) r.0 r.1.0 r.1.1 (λ free s h.
    let x = e.ok free s 8208 h.stands h.is_node refl in
    record {
      t = x.0;
      w = Some x.1.1.1.1.room;
      change = added_change old new free s x.0 c.args.node h c.in_ok-at.at x.1.1.0 c.bytes.result.now c.args.bucket.now x.1.0 x.1.1.1.0 x.1.1.1.1 c.bytes.ensures c.requires.alike e.names e.constants;
      node_is = added_node old new free s x.0 c.args.node h c.in_ok-at.at x.1.1.0 c.bytes.result.now c.args.bucket.now x.1.0 x.1.1.1.0 x.1.1.1.1 c.bytes.ensures c.requires.alike;
    })

-- the fault that is handed on
same_fault : (r : Result DiskLoc SpaceFault) (f : SpaceFault) → IsErrAnd r (λ fault. fault ≡ f) → r ≡ Err NoSpace → f ≡ NoSpace
same_fault (Ok x) f and e = absurd and
same_fault (Err y) f and e = let same : y ≡ NoSpace = cc in sym and ∙ same

pub returns-in_err-at-clause-full : goal.returns-in_err-at-clause-full
returns-in_err-at-clause-full c = λ e free s h. (s, c.in_err-at.ensures.left (ap Err (same_fault c.from_residual.result c.in_err-at.field-0.0 c.from_residual.ensures.1 e)) free s 8208 h.stands h.is_node refl)

pub returns-in_err-at-clause-scarce : goal.returns-in_err-at-clause-scarce
returns-in_err-at-clause-scarce c = λ e free s h b.
    let x = c.in_err-at.ensures.full (ap Err (same_fault c.from_residual.result c.in_err-at.field-0.0 c.from_residual.ensures.1 e)) free s 8208 h.stands h.is_node refl in
    no_block s (name_at c.args.draft.now.image c.args.node) 8208 (8208 * 1) x.no_block (omega arith) b
