use Rattle.std.proofs.Common.{◌<◌, length, sym, ap, ◌∙◌, Some, arith}
use Rattle.mm_base.specs.declared.place.DiskLoc.{DiskLoc}
use Rattle.mm_btree.proofs.Searched.{none_at_end, some_there, none_there, not_less_there}
use Rattle.mm_btree.proofs.search.equal_at.Goals as goal

pub returns-then-pairs-place : goal.returns-then-pairs-place
returns-then-pairs-place c = none_at_end c.args.spec.now c.args.key.now c.args.bucket.now.pairs c.args.place (omega (arith, c.requires.inside, c.if-pairs-place.true, c.len-pairs.ensures.len))

pub returns-in-Less : goal.returns-in-Less
returns-in-Less c =
    let lt : c.args.place < length c.args.bucket.now.pairs = omega (arith, c.if-pairs-place.false, c.len-pairs.ensures.len) in
    absurd (not_less_there c.args.spec.now c.args.key.now c.args.bucket.now.pairs c.args.place lt c.requires.place (sym c.in-Less.ensures))

pub returns-in-Equal : goal.returns-in-Equal
returns-in-Equal c =
    let lt : c.args.place < length c.args.bucket.now.pairs = omega (arith, c.if-pairs-place.false, c.len-pairs.ensures.len) in
    ap (λ (r : DiskLoc). Some r) c.rec.ensures ∙ some_there c.args.spec.now c.args.key.now c.args.bucket.now.pairs c.args.place lt (sym c.in-Equal.ensures)

pub returns-in-Greater : goal.returns-in-Greater
returns-in-Greater c =
    let lt : c.args.place < length c.args.bucket.now.pairs = omega (arith, c.if-pairs-place.false, c.len-pairs.ensures.len) in
    none_there c.args.spec.now c.args.key.now c.args.bucket.now.pairs c.args.place lt c.requires.order (sym c.in-Greater.ensures)
