use Rattle.std.proofs.Common.{◌≡◌, ℕ, List, map, string_bytes, ◌∙◌, ap, subst}
use Rattle.std.specs.FinMap.{keys}
use Rattle.mm_outside.specs.Told.{image_after}
use Rattle.mm_memdisk.specs.Calls.{calls_of}
use Rattle.mm_memdisk.specs.Left.{start_of, LeavesThese}
use Rattle.mm_memdisk.proofs.Leaving.{all_left}
use Rattle.mm_memdisk.proofs.crash.leave.Goals as goal

pub leave_absent-requires-clause-left : goal.leave_absent-requires-clause-left
leave_absent-requires-clause-left c =
    let start = start_of c.args.disk.now in
    let calls = c.args.disk.now.calls.now in
    let names : map string_bytes c.deref.result.now ≡ keys (image_after start (calls_of calls)) = ap (map string_bytes) c.deref.ensures.value ∙ c.in_ok-names.ensures (image_after start (calls_of calls)) c.requires.reads in
    all_left start calls c.in_ok-left.left.files (subst (λ (l : List (List ℕ)). LeavesThese start calls l c.in_ok-left.left.files) names c.in_ok-left.ensures.left)
