use Rattle.std.proofs.Common.{Some, sym, ap, ◌∙◌, subst}
use Rattle.mm_bucket.specs.Pairs.{Contents, with_pair}
use Rattle.mm_bucket.specs.Rules.{children, AreAlike}
use Rattle.mm_btree.specs.Nodes.{node_of, put}
use Rattle.mm_btree.proofs.settle.settle.Goals as goal

pub write-requires-clause-alike : goal.write-requires-clause-alike
write-requires-clause-alike g c = subst (λ (z : Contents). AreAlike (children z)) (sym c.in-None.ensures.whole) c.requires.alike

pub part-requires-clause-last : goal.part-requires-clause-last
part-requires-clause-last g c = c.in-Some.ensures.last

pub part-requires-clause-whole : goal.part-requires-clause-whole
part-requires-clause-whole g c = (with_pair c.args.bucket c.args.place c.args.key.now c.args.rec c.args.after, c.in-Some.ensures.parted, c.requires.alike, c.requires.kids)

pub returns-in_ok-write-in-None-clause-ok : goal.returns-in_ok-write-in-None-clause-ok
returns-in_ok-write-in-None-clause-ok g c =
    let m = g.S.NodeStore.bucket_at c.args.store.now in
    λ q. c.in_ok-write-in-None.ensures.same q ∙ ap (λ (z : Contents). put m c.args.at (Some (node_of z)) q) c.in-None.ensures.whole

pub returns-in_ok-up-in-Some-clause-ok : goal.returns-in_ok-up-in-Some-clause-ok
returns-in_ok-up-in-Some-clause-ok g c =
    c.in_ok-up-in-Some.ensures.ok (with_pair c.args.bucket c.args.place c.args.key.now c.args.rec c.args.after) c.in-Some.ensures.parted c.requires.alike
