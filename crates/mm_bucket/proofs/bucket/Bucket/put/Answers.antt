use Rattle.std.specs.Prelude.{◌≡◌, Bool, false, IsTrue}
use Rattle.std.proofs.Common.{◌-◌, length, insert, refl, ap, ◌∙◌, subst, arith}
use Rattle.std.proofs.lemmas.List.{length-append}
use Rattle.mm_base.specs.declared.place.DiskLoc.{DiskLoc}
use Rattle.mm_bucket.specs.Pairs.{Pair, Contents, child_at, IsParted}
use Rattle.mm_bucket.proofs.Putting.{many, Split, put_left, put_right, length_child}
use Rattle.mm_bucket.proofs.bucket.Bucket.put.Goals as goal

not_true : (b : Bool) → IsTrue b → b ≡ false → ⊥
not_true b t f = cc

pub split-last-requires : goal.split-last-requires
split-last-requires c =
    many c.set_child.new.self.pairs (length c.args.key.now) c.len-pairs.ensures.keys c.requires.key.short (λ le. not_true c.fits.result (c.fits.ensures.1 le) c.if-fits.false)

pub insert_at-requires-else-place-last-clause-place : goal.insert_at-requires-else-place-last-clause-place
insert_at-requires-else-place-last-clause-place c =
    let s = c.split-last.ensures in
    let same : length c.set_child.new.self.pairs ≡ length c.args.self.now.pairs = ap (λ (b : Contents). length b.pairs) c.set_child.ensures ∙ length_child c.args.self.now c.args.place c.args.after c.requires.place in
    omega (arith, ap length s.joined, length-append c.split-last.new.self.pairs c.split-last.new.right.pairs, s.last, same, c.requires.place)

pub returns-then-place-last-clause-parted : goal.returns-then-place-last-clause-parted
returns-then-place-last-clause-parted c =
    let e = c.split-last.ensures in
    let i = c.args.place in
    let v = c.set_child.new.self in
    let right = c.split-last.new.right in
    let new = c.insert_at-then-place-last.new.self in
    let s : Split v c.split-last.new.self right c.split-last.result =
    record { joined = e.joined; last_is = e.last; some = e.some; more = e.more; next = e.next; right_next = e.right_next; parent = e.parent; right_parent = e.right_parent } in
    let p : Pair = record { left = c.child-before.result; rec = c.args.rec; key = c.args.key.now } in
    subst (λ (z : Contents). IsParted (record z { pairs = insert z.pairs i (record p { left = child_at c.args.self.now i }) }) new right) c.set_child.ensures
    (subst (λ (q : DiskLoc). IsParted (record v { pairs = insert v.pairs i (record p { left = q }) }) new right) c.child-before.ensures
    (put_left v c.split-last.new.self right new i c.split-last.result p s c.if-place-last.true c.insert_at-then-place-last.ensures))

pub returns-else-place-last-clause-parted : goal.returns-else-place-last-clause-parted
returns-else-place-last-clause-parted c =
    let e = c.split-last.ensures in
    let i = c.args.place in
    let v = c.set_child.new.self in
    let left = c.split-last.new.self in
    let new = c.insert_at-else-place-last.new.self in
    let s : Split v left c.split-last.new.right c.split-last.result =
    record { joined = e.joined; last_is = e.last; some = e.some; more = e.more; next = e.next; right_next = e.right_next; parent = e.parent; right_parent = e.right_parent } in
    let p : Pair = record { left = c.child-before.result; rec = c.args.rec; key = c.args.key.now } in
    subst (λ (z : Contents). IsParted (record z { pairs = insert z.pairs i (record p { left = child_at c.args.self.now i }) }) left new) c.set_child.ensures
    (subst (λ (q : DiskLoc). IsParted (record v { pairs = insert v.pairs i (record p { left = q }) }) left new) c.child-before.ensures
    (put_right v left c.split-last.new.right new i (i - c.split-last.result - 1) c.split-last.result p s (omega (arith, c.if-place-last.false)) refl c.insert_at-else-place-last.ensures))
