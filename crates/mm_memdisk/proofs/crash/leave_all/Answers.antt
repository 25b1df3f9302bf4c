use Rattle.std.proofs.Common.{◌≡◌, ◌+◌, List, [], ◌∷◌, ◌++◌, ℕ, take, map, string_bytes, sym, ◌∙◌, ap, subst}
use Rattle.std.proofs.lemmas.List.{take_more, map-append}
use Rattle.mm_memdisk.specs.Left.{start_of, LeavesThese}
use Rattle.mm_memdisk.proofs.Leaving.{these_next}
use Rattle.mm_memdisk.proofs.crash.leave_all.Goals as goal

pub loop-name-preserved : goal.loop-name-preserved
loop-name-preserved c =
    let names = c.args.names.now in
    let i = c.loop-name.name-index in
    let one = c.name-item.result in
    let more : map string_bytes (take (i + 1) names) ≡ map string_bytes (take i names) ++ string_bytes one ∷ [] =
    ap (map string_bytes) (take_more names i one c.loop-name-test.true) ∙ map-append string_bytes (take i names) _ ∙ ap (λ x. map string_bytes (take i names) ++ string_bytes x ∷ []) (sym c.name-item.is) in
    let named : string_bytes one ≡ c.deref.result.now = sym c.deref.ensures in
    record {
      same = c.in_ok-left.ensures.same;
      left = subst (λ (l : List (List ℕ)). LeavesThese (start_of c.args.disk.now) c.args.disk.now.calls.now l c.in_ok-left.left.files) (sym (more ∙ ap (λ (n : List ℕ). map string_bytes (take i names) ++ n ∷ []) named))
          (these_next (start_of c.args.disk.now) c.args.disk.now.calls.now (map string_bytes (take i names)) c.deref.result.now c.loop-name.left.files c.in_ok-left.left.files c.loop-name.invariant.left c.in_ok-left.ensures.puts);
    }
