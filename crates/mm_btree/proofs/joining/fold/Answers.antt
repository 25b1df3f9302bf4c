use Rattle.std.proofs.Common.{Option, Some, None, IsSome, cond, sym, ap, ◌∙◌, subst}
use Rattle.mm_bucket.specs.Pairs.{Contents, with_pair}
use Rattle.mm_bucket.specs.Rules.{children, AreAlike}
use Rattle.mm_btree.specs.Nodes.{Node, node_of, place_eq, put}
use Rattle.mm_btree.proofs.joining.fold.Goals as goal

pub write-requires-clause-there : goal.write-requires-clause-there
write-requires-clause-there g c = subst IsSome (sym (c.in_ok-free-in-None.ensures.same c.args.left)) (rw c.requires.apart c.requires.left)

pub write-requires-clause-alike : goal.write-requires-clause-alike
write-requires-clause-alike g c = subst (λ (z : Contents). AreAlike (children z)) (sym c.in-None.ensures.whole) c.requires.alike

pub part_anew-requires-clause-last : goal.part_anew-requires-clause-last
part_anew-requires-clause-last g c = c.in-Some.ensures.last

pub part_anew-requires-clause-whole : goal.part_anew-requires-clause-whole
part_anew-requires-clause-whole g c = (with_pair c.args.whole c.args.place c.args.key.now c.args.rec c.args.after, c.in-Some.ensures.parted, c.requires.alike, c.requires.kids)

pub returns-in_ok-write-in-None-clause-ok : goal.returns-in_ok-write-in-None-clause-ok
returns-in_ok-write-in-None-clause-ok g c =
    let m = g.S.NodeStore.bucket_at c.args.store.now in
    λ q. c.in_ok-write-in-None.ensures.same q
    ∙ (ap (λ (z : Option Node). cond (place_eq q c.args.left) (Some (node_of c.put.new.self)) z) (c.in_ok-free-in-None.ensures.same q)
    ∙ ap (λ (z : Contents). put (put m c.args.right None) c.args.left (Some (node_of z)) q) c.in-None.ensures.whole)

pub returns-in_ok-mid-in-Some-clause-ok : goal.returns-in_ok-mid-in-Some-clause-ok
returns-in_ok-mid-in-Some-clause-ok g c =
    c.in_ok-mid-in-Some.ensures.ok (with_pair c.args.whole c.args.place c.args.key.now c.args.rec c.args.after) c.in-Some.ensures.parted c.requires.alike
