use Rattle.std.proofs.Common.{◌≡◌, refl, length, arith, rules}
use Rattle.std.specs.Vec.{vec_len}
use Rattle.mm_tie.specs.Ends.{taken, taker_ring, taker_room}
use Rattle.mm_durable.proofs.Feeds.{own_within, shown_at, list_has, still_shows}
use Rattle.mm_durable.proofs.intake.Intake.agree.Goals as goal

pub index_mut-requires : goal.index_mut-requires
index_mut-requires g c =
    let len : vec_len c.args.self.now.feeds ≡ length c.args.self.now.feeds.items = search rules in
    omega (arith, len, own_within c.args.self.now.feeds.items c.args.db _ c.requires)

pub agree-requires : goal.agree-requires
agree-requires g c = shown_at taker_ring c.args.self.now.feeds.items c.args.db c.index_mut.result.now _ c.requires c.index_mut.ensures.value

pub returns-clause-agree : goal.returns-clause-agree
returns-clause-agree g c = list_has taken c.args.self.now.feeds.items c.args.db c.index_mut.result.now _ (own_within c.args.self.now.feeds.items c.args.db _ c.requires) c.index_mut.ensures.value c.agree.ensures.agree

pub returns-clause-same : goal.returns-clause-same
returns-clause-same g c =
    let feeds = c.args.self.now.feeds.items in
    let at = c.index_mut.ensures.value in
    record {
      lists_same = still_shows taken feeds c.args.db c.index_mut.result.now c.agree.new.feed at c.agree.ensures.taken;
      rooms_same = still_shows taker_room feeds c.args.db c.index_mut.result.now c.agree.new.feed at c.agree.ensures.ring.1;
      rings_same = still_shows taker_ring feeds c.args.db c.index_mut.result.now c.agree.new.feed at c.agree.ensures.ring.0;
      sorted = refl;
      ranks = refl;
      seats = refl;
      parts = refl;
      space = refl;
    }
