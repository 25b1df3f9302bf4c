use Rattle.std.proofs.Common.{◌≡◌, ℕ, ◌+◌, List, [], length, take, Option, Some, None, Vec, inl, inr, refl, sym, ◌∙◌, ap, subst, rules}
use Rattle.std.specs.Prelude.{unwrap_or}
use Rattle.std.specs.Option.{option_map, option_copied}
use Rattle.std.specs.declared.alloc.Global.{Global}
use Rattle.std.specs.BTreeMap.{get_by_text}
use Rattle.std.specs.FinMap.{get}
use Rattle.mm_outside.specs.Told.{nothing_pending}
use Rattle.mm_memdisk.specs.Left.{start_of, TracesFile}
use Rattle.mm_memdisk.specs.Traced.{Traces}
use Rattle.mm_memdisk.proofs.Updates.{reads_as}
use Rattle.mm_memdisk.proofs.Leaving.{trace_step, trace_other}
use Rattle.mm_memdisk.proofs.crash.trace.Goals as goal
use denote.Bor.{Bor}

lent : {A B : Type 0} (f : A → B) (r : Option (Bor A)) → option_map (λ (b : Bor A). f b.now) r ≡ option_map f (option_copied r)
lent f None = refl
lent f (Some b) = refl

pub loop-begun-init : goal.loop-begun-init
loop-begun-init c =
    let there : option_copied c.get.result ≡ get_by_text c.args.disk.now.start.now c.args.name.now = search rules in
    let file : option_map (λ (b : Bor (Vec ℕ Global)). b.now.items) c.get.result ≡ get (start_of c.args.disk.now) c.args.name.now =
    lent (λ (v : Vec ℕ Global). v.items) c.get.result ∙ ap (option_map (λ (v : Vec ℕ Global). v.items)) there ∙ reads_as c.args.disk.now.start.now c.args.name.now in
    subst (λ (o : Option (List ℕ)). Traces o (nothing_pending (length (unwrap_or o []))) c.in_ok-traced.traced) file c.in_ok-traced.ensures

pub loop-begun-preserved : goal.loop-begun-preserved
loop-begun-preserved c =
    let start = start_of c.args.disk.now in
    let calls = c.args.disk.now.calls.now in
    let i = c.loop-begun.begun-index in
    let name = c.args.name.now in
    elim c.in_ok-traced-2.ensures [
      | inl own ↦ trace_step start calls i c.begun-item.result name c.loop-begun.traced c.in_ok-traced-2.traced c.loop-begun-test.true c.begun-item.is own.0 own.1 c.loop-begun.invariant
      | inr other ↦ subst (TracesFile start (take (i + 1) calls) name) (sym other.1) (trace_other start calls i c.begun-item.result name c.loop-begun.traced c.loop-begun-test.true c.begun-item.is other.0 c.loop-begun.invariant)
    ]
