use Rattle.std.proofs.Common.{◌∙◌, ap, length}
use Rattle.std.proofs.lemmas.List.{length_push}
use Rattle.mm_rows_durable.proofs.Keeping.{fed_pushed}
use Rattle.mm_rows_durable.proofs.opening.add.Goals as goal

pub returns-clause-fed : goal.returns-clause-fed
returns-clause-fed c =
    let one = c.in_ok-side.ensures in
    fed_pushed c.args.sides.now.items c.push.new.self.items c.args.feeds.now.items c.push-2.new.self.items c.in_ok-side.side c.in_ok-side.feed c.in_ok-push.ensures.items c.in_ok-push-2.ensures.items c.requires one.side one.own one.first

pub returns-clause-count : goal.returns-clause-count
returns-clause-count c = ap length c.in_ok-push.ensures.items ∙ length_push c.args.sides.now.items c.in_ok-side.side
