use Rattle.std.proofs.Common.{◌≡◌, refl, rules, arith, length}
use Rattle.mm_frames.specs.FileHeader.{file_header_bytes}
use Rattle.mm_main.proofs.DraftedSteps.{frame_put, put_behind}
use Rattle.mm_main.proofs.file.put_header.Goals as goal

pub returns-clause-header : goal.returns-clause-header
unfolding file_header_bytes
returns-clause-header c =
    frame_put _ _ c.put.result 8192 0 _ _ _ _ refl (search rules) (omega arith) (rw c.place_at.ensures at c.file_header_frame.ensures.spelled) c.put.ensures.ok

pub returns-clause-behind : goal.returns-clause-behind
returns-clause-behind c =
    let long : length c.file_header_frame.result ≡ 8192 = search rules in
    put_behind _ _ c.put.result 0 8192 _ _ _ (omega arith) (omega (arith, long)) c.put.ensures.ok
