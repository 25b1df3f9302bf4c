use Rattle.std.proofs.Common.{◌≤◌, ◌+◌, length, arith, refl, subst, ap}
use Rattle.mm_ranges.specs.Overlay.{bytes_at}
use Rattle.mm_links.specs.Links.{Place}
use Rattle.mm_trees.proofs.Showing.{found}
use Rattle.mm_trees.proofs.Calls.{is_room, room_inside, bytes_are, spelled_there, bucket_found, alike_found, not_null}
use Rattle.mm_trees.proofs.buckets.bucket_at.Goals as goal

pub spot_of-spot-requires : goal.spot_of-spot-requires
spot_of-spot-requires c =
    let r = c.requires in
    let f = found c.args.draft.now.image r.0 r.1.0 c.args.node c.args.at r.1.1.0 r.1.1.1 in
    (f.p, (f.has_record.named, f.low))

pub overflow_add-spot : goal.overflow_add-spot
overflow_add-spot c =
    let r = c.requires in
    let f = found c.args.draft.now.image r.0 r.1.0 c.args.node c.args.at r.1.1.0 r.1.1.1 in
    let low = f.low.ofs in
    let same = ap (λ (x : Place). x.1) (c.spot_of-spot.ensures f.p f.has_record.named f.low) in
    omega (arith, low, same)

pub read-requires : goal.read-requires
read-requires c =
    let r = c.requires in
    let f = found c.args.draft.now.image r.0 r.1.0 c.args.node c.args.at r.1.1.0 r.1.1.1 in
    subst (λ (x : Place). x.1 + 16 + 8192 ≤ length (bytes_at c.args.draft.now.image x.0)) (c.spot_of-spot.ensures f.p f.has_record.named f.low) (room_inside c.args.draft.now.image r.0 r.1.0 c.args.node c.args.at r.1.1.0 f)

pub unreachable-requires : goal.unreachable-requires
unreachable-requires c =
    let r = c.requires in
    let f = found c.args.draft.now.image r.0 r.1.0 c.args.node c.args.at r.1.1.0 r.1.1.1 in
    let bytes = bytes_are c.args.draft.now.image r.0 r.1.0 c.args.node c.args.at r.1.1.0 f (c.spot_of-spot.result.file, c.spot_of-spot.result.ofs) c.read.new.out 8192 (c.spot_of-spot.ensures f.p f.has_record.named f.low) refl c.read.ensures in
    c.in-None.ensures.none (is_room c.args.draft.now.image r.0 r.1.0 c.args.node c.args.at r.1.1.0 f).b (spelled_there c.args.draft.now.image r.0 r.1.0 c.args.node c.args.at r.1.1.0 f c.read.new.out bytes)

pub returns-clause-bucket : goal.returns-clause-bucket
returns-clause-bucket c =
    let r = c.requires in
    let f = found c.args.draft.now.image r.0 r.1.0 c.args.node c.args.at r.1.1.0 r.1.1.1 in
    let bytes = bytes_are c.args.draft.now.image r.0 r.1.0 c.args.node c.args.at r.1.1.0 f (c.spot_of-spot.result.file, c.spot_of-spot.result.ofs) c.read.new.out 8192 (c.spot_of-spot.ensures f.p f.has_record.named f.low) refl c.read.ensures in
    bucket_found c.args.draft.now.image r.0 r.1.0 c.args.node c.args.at r.1.1.0 f c.read.new.out c.in-Some.bucket bytes c.in-Some.ensures.some

pub returns-clause-alike : goal.returns-clause-alike
returns-clause-alike c =
    let r = c.requires in
    let f = found c.args.draft.now.image r.0 r.1.0 c.args.node c.args.at r.1.1.0 r.1.1.1 in
    let bytes = bytes_are c.args.draft.now.image r.0 r.1.0 c.args.node c.args.at r.1.1.0 f (c.spot_of-spot.result.file, c.spot_of-spot.result.ofs) c.read.new.out 8192 (c.spot_of-spot.ensures f.p f.has_record.named f.low) refl c.read.ensures in
    alike_found c.args.draft.now.image r.0 r.1.0 c.args.node c.args.at r.1.1.0 f c.read.new.out c.in-Some.bucket bytes c.in-Some.ensures.some

pub returns-clause-place : goal.returns-clause-place
returns-clause-place c =
    let r = c.requires in
    let f = found c.args.draft.now.image r.0 r.1.0 c.args.node c.args.at r.1.1.0 r.1.1.1 in
    not_null c.args.draft.now.image r.0 r.1.0 c.args.node c.args.at r.1.1.0 f
