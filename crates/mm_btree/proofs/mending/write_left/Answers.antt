use Rattle.std.proofs.Common.{arith}
use Rattle.std.proofs.lemmas.List.{length-map}
use Rattle.mm_btree.specs.Nodes.{item_of}
use Rattle.mm_btree.proofs.MendCalls.{no_items}
use Rattle.mm_btree.proofs.mending.write_left.Goals as goal

pub returns-then-len-eq0-clause-ok : goal.returns-then-len-eq0-clause-ok
returns-then-len-eq0-clause-ok g c = record {
  settled = c.in_ok-write.ensures.same;
  thin = λ e. no_items c.args.bucket.now.pairs (omega (arith, c.if-len-eq0.true, c.len.ensures.len));
  whole = λ e. absurd cc;
}

pub returns-clause-ok : goal.returns-clause-ok
returns-clause-ok g c = record {
  settled = c.in_ok-write.ensures.same;
  thin = λ e. absurd cc;
  whole = λ e. omega (arith, c.if-len-eq0.false, c.len.ensures.len, length-map c.args.bucket.now.pairs item_of);
}
