use Rattle.std.proofs.Common.{sym, ◌∙◌, arith, rules}
use Rattle.std.specs.Int.{w32}
use Rattle.std.proofs.lemmas.Bool.{false≢true}
use Rattle.std.proofs.lemmas.Int.{to_z-of_z}
use Rattle.mm_main.proofs.ChainSteps.{behind_of, linked_of}
use Rattle.mm_main.proofs.chain.next_of.Goals as goal

pub returns-then-not-is_behind-clause-none : goal.returns-then-not-is_behind-clause-none
returns-then-not-is_behind-clause-none c =
    let known = rw (to_z-of_z w32 c.args.prev c.ranges.prev) at c.is_behind.ensures in
    λ here. false≢true (sym c.if-not-is_behind.true ∙ known.1 (behind_of _ _ _ _ c.read_rec_header-header.ensures here))

pub returns-clause-some : goal.returns-clause-some
returns-clause-some c =
    let known = rw (to_z-of_z w32 c.args.prev c.ranges.prev) at c.is_behind.ensures in
    linked_of _ _ _ c.args.at c.read_rec_header-header.result c.if-at-lt-EXTENT_AT.false (omega (arith, c.if-at.false)) c.read_rec_header-header.ensures (known.0 c.if-not-is_behind.false) (sym (to_z-of_z w32 c.read_rec_header-header.result.next_ofs (search rules)))
