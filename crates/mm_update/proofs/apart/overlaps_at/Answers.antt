use Rattle.std.proofs.Common.{map, arith}
use Rattle.mm_update.proofs.Ordered.{mapped_length, place_within}
use Rattle.mm_update.proofs.apart.overlaps_at.Goals as goal

pub is_led_to-requires : goal.is_led_to-requires
is_led_to-requires c = omega (arith, mapped_length (λ t. t.now) c.args.paths.now, place_within c.args.path.now c.args.place (map (λ t. t.now) c.args.paths.now) c.requires.place)

pub returns-clause-none : goal.returns-clause-none
returns-clause-none c = λ is. (c.leads_at.ensures.free is, c.is_led_to.ensures.free c.if-is_led_to.false)
