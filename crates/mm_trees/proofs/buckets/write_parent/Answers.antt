use Rattle.std.proofs.Common.{◌≡◌, ℕ, ◌+◌, List, [], ◌∷◌, Some, length, subst, sym, ◌∙◌, ap, arith}
use Rattle.mm_base.specs.Bytes.{part, overwritten}
use Rattle.mm_base.specs.Places.{place_bytes}
use Rattle.mm_base.specs.declared.place.DiskLoc.{DiskLoc}
use Rattle.mm_base.proofs.Parts.{overwritten_whole}
use Rattle.mm_base.proofs.PlaceLaws.{length-place_bytes}
use Rattle.mm_bucket.specs.Layout.{Spells}
use Rattle.mm_btree.specs.Nodes.{with_parent}
use Rattle.mm_trees.specs.Buckets.{bucket_in}
use Rattle.mm_trees.proofs.Showing.{found}
use Rattle.mm_trees.proofs.Calls.{fits, is_room, parent_spelled, parent_node, new_node, written_change, step_of}
use Rattle.mm_trees.proofs.buckets.write_parent.Goals as goal

written_is : (up : DiskLoc) (bytes : List ℕ) → bytes ≡ overwritten 0 (place_bytes up) (0 ∷ 0 ∷ 0 ∷ 0 ∷ 0 ∷ 0 ∷ 0 ∷ 0 ∷ []) → bytes ≡ place_bytes up
written_is up bytes e = e ∙ overwritten_whole (place_bytes up) (0 ∷ 0 ∷ 0 ∷ 0 ∷ 0 ∷ 0 ∷ 0 ∷ 0 ∷ []) (length-place_bytes up)

long : (up : DiskLoc) (bytes : List ℕ) → bytes ≡ place_bytes up → length bytes + 8184 ≡ 8192
long up bytes e = let l = ap (λ (xs : List ℕ). length xs) e in omega (arith, l, length-place_bytes up)

pub write_inside-requires : goal.write_inside-requires
write_inside-requires c =
    let r = c.requires in
    let image = c.args.draft.now.image in
    let up = c.args.up in
    let bytes = c.put_place.new.bytes in
    let e = written_is up bytes c.put_place.ensures in
    let f = found image r.0 r.1.0 c.args.node c.args.at r.1.1.0 r.1.1.1 in
    let room = is_room image r.0 r.1.0 c.args.node c.args.at r.1.1.0 f in
    let sp = subst (λ (x : List ℕ). Spells (overwritten 0 x (part 0 8192 f.room)) (record room.b { parent = up })) (sym e) (parent_spelled image r.0 r.1.0 c.args.node c.args.at r.1.1.0 f up) in
    (r.0, (r.1.0, (f.p, (f.room, (f.has_record, fits image r.0 r.1.0 c.args.node c.args.at r.1.1.0 f bytes (record room.b { parent = up }) 8184 (long up bytes e) sp room.alike)))))

pub returns-clause-step : goal.returns-clause-step
returns-clause-step c =
    let r = c.requires in
    let old = c.args.draft.now.image in
    let new = c.write_inside.new.draft.image in
    let node = c.args.node in
    let up = c.args.up in
    let bytes = c.put_place.new.bytes in
    let e = written_is up bytes c.put_place.ensures in
    let w = c.in_ok-write_inside.ensures in
    step_of old new node 0 c.args.at (with_parent up (bucket_in old node c.args.at)) r.0 r.1.0 r.1.1.0 (λ free s h.
    let f = found old free s node c.args.at h r.1.1.1 in
    let room = is_room old free s node c.args.at h f in
    let b = record room.b { parent = up } in
    let sp = subst (λ (x : List ℕ). Spells (overwritten 0 x (part 0 8192 f.room)) b) (sym e) (parent_spelled old free s node c.args.at h f up) in
    let le = fits old free s node c.args.at h f bytes b 8184 (long up bytes e) sp room.alike in
    let x = w.stands free s f.p f.room f.has_record le in
    record {
      t = x.0;
      w = Some (overwritten 0 bytes f.room);
      change = written_change old free s node c.args.at h f bytes b 8184 (long up bytes e) sp room.alike new x.0 w.ns x.1.0 x.1.1;
      node_is = new_node old free s node c.args.at h f bytes b 8184 (long up bytes e) sp room.alike ∙ parent_node old free s node c.args.at h f up;
    })
