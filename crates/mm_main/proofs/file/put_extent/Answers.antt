use Rattle.std.proofs.Common.{◌≡◌, ◌++◌, codes, refl, rules, arith, length}
use Rattle.mm_base.proofs.NameLaws.{length-padded}
use Rattle.mm_frames.specs.ExtentHeader.{extent_header_bytes}
use Rattle.mm_main.specs.DataFile.{namespace_of}
use Rattle.mm_main.proofs.DraftedSteps.{frame_put, put_before, put_behind}
use Rattle.mm_main.proofs.file.put_extent.Goals as goal

pub returns-clause-header : goal.returns-clause-header
unfolding extent_header_bytes
returns-clause-header c =
    let name : length (namespace_of c.args.collection.now) ≡ 128 = length-padded 128 (codes "test." ++ c.args.collection.now) (omega (arith, c.requires.name)) in
    let spelled = rw (c.place_at.ensures, c.place_at-2.ensures, c.place_at-3.ensures, c.namespace_of.ensures, c.no_place.ensures, c.no_place-2.ensures) at c.extent_header_frame.ensures.spelled in
    frame_put _ _ c.put.result 176 8192 _ _ _ _ refl (search (rules, name)) (omega arith) spelled c.put.ensures.ok

pub returns-clause-before : goal.returns-clause-before
returns-clause-before c = put_before _ _ c.put.result 8192 _ _ _ (omega arith) c.put.ensures.ok

pub returns-clause-behind : goal.returns-clause-behind
returns-clause-behind c =
    let long : length c.extent_header_frame.result ≡ 176 = search rules in
    put_behind _ _ c.put.result 8192 8368 _ _ _ (omega arith) (omega (arith, long)) c.put.ensures.ok
