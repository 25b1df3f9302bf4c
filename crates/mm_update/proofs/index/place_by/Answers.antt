use Rattle.std.proofs.Common.{◌+◌, sym, ap, ◌∙◌, arith}
use Rattle.std.specs.Prelude.{option_map}
use Rattle.mm_update.specs.Drafted.{place_in}
use Rattle.mm_update.proofs.Places.{from_named, never_named}
use Rattle.mm_update.proofs.index.place_by.Goals as goal

pub split_at-requires : goal.split_at-requires
split_at-requires c =
    let es = c.args.entries.now in
    omega (arith, (from_named c.args.name.now es c.in-Some.first (sym (c.first_of.ensures es c.requires) ∙ c.in-Some.is)).within)

pub place_among-requires : goal.place_among-requires
place_among-requires c =
    let es = c.args.entries.now in
    grind (arith, c.split_at.ensures.back_len, c.split_at.ensures.front_len, (from_named c.args.name.now es c.in-Some.first (sym (c.first_of.ensures es c.requires) ∙ c.in-Some.is)).within)

pub returns-in-None : goal.returns-in-None
returns-in-None c =
    let es = c.args.entries.now in
    sym (never_named c.args.name.now es (sym (c.first_of.ensures es c.requires) ∙ c.in-None.is))

pub returns-in-Some : goal.returns-in-Some
returns-in-Some c =
    let es = c.args.entries.now in
    c.place_among.ensures ∙ ap (λ xs. option_map (λ k. c.in-Some.first + k) (place_in c.args.name.now xs)) c.split_at.ensures.back ∙ (from_named c.args.name.now es c.in-Some.first (sym (c.first_of.ensures es c.requires) ∙ c.in-Some.is)).same
