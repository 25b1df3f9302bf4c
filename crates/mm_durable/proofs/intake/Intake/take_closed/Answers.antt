use Rattle.std.proofs.Common.{◌≡◌, length, get_or, slice_set, map, refl, ◌∙◌, ap, arith, rules}
use Rattle.std.specs.Vec.{vec_len}
use Rattle.std.proofs.lemmas.List.{map-set}
use Rattle.mm_tie.specs.Ends.{taken, taker_ring, taker_room}
use Rattle.mm_durable.specs.Intake.{seated}
use Rattle.mm_durable.proofs.Feeds.{own_within, shown_at, list_has, still_shows}
use Rattle.mm_durable.proofs.Parts.{same_number, put_in_seat}
use Rattle.mm_durable.proofs.intake.Intake.take_closed.Goals as goal

pub index_mut-requires : goal.index_mut-requires
index_mut-requires g c =
    let len : vec_len c.args.self.now.feeds ≡ length c.args.self.now.feeds.items = search rules in
    omega (arith, len, own_within c.args.self.now.feeds.items c.args.db _ c.requires.own)

pub close-item-requires : goal.close-item-requires
close-item-requires g c = record {
  own = shown_at taker_ring c.args.self.now.feeds.items c.args.db c.index_mut.result.now _ c.requires.own c.index_mut.ensures.value;
  ready = c.requires.ready;
  room = c.requires.room;
}

pub returns-clause-agree : goal.returns-clause-agree
returns-clause-agree g c = list_has taken c.args.self.now.feeds.items c.args.db c.index_mut.result.now _ (own_within c.args.self.now.feeds.items c.args.db _ c.requires.own) c.index_mut.ensures.value c.close-item.ensures.agree

pub returns-clause-takes : goal.returns-clause-takes
returns-clause-takes g c =
    let old = c.args.self.now in
    let feeds = old.feeds.items in
    let at = c.index_mut.ensures.value in
    let rank : c.index-rank.result.now ≡ get_or old.ranks.items c.args.db 0 = c.index-rank.ensures ∙ same_number old.ranks.items c.args.db c.index-rank.result.now 0 c.requires.ranks in
    record {
      item = c.close-item.result;
      more = c.close-item.ensures.given;
      follows = c.close-item.ensures.follows;
      lists_more = map-set taken feeds c.args.db c.close-item.«new».feed ∙ ap (slice_set (map taken feeds) c.args.db) c.close-item.ensures.taken;
      rooms_kept = still_shows taker_room feeds c.args.db c.index_mut.result.now c.close-item.«new».feed at c.close-item.ensures.feed;
      rings_kept = still_shows taker_ring feeds c.args.db c.index_mut.result.now c.close-item.«new».feed at c.close-item.ensures.ring;
      sorted_kept = refl;
      ranks_kept = refl;
      in_seat = put_in_seat old.seats.items c.index-rank.result.now c.index_mut-2.result.now c.close-item.result (omega (arith, rank, c.requires.seat)) c.index_mut-2.ensures.value
          ∙ ap (λ r. seated r c.close-item.result old.seats.items) rank;
      parts_kept = refl;
      space_kept = refl;
    }
