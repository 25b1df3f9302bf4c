use Rattle.std.proofs.Common.{Option, Some, None}
use Rattle.std.specs.Prelude.{IfNone}
use Rattle.std.proofs.lemmas.Option.{IfSome_then}
use Rattle.mm_extents.proofs.FreeWalks.{is_chain, is_first, all_shorter}
use Rattle.mm_extents.proofs.free_chain.first_free.Goals as goal

none_then : {X : Type 0} (r : Option X) {P Q : Type 0} → IfNone r P → (P → Q) → IfNone r Q
none_then None p f = f p
none_then (Some x) p f = tt

pub first_long-requires : goal.first_long-requires
first_long-requires c = (c.requires.1.1.0, is_chain c.args.draft.now.image c.requires.0 c.requires.1.0 c.requires.1.1.0 c.args.free.now c.requires.1.1.1)

pub returns-clause-some : goal.returns-clause-some
returns-clause-some c = IfSome_then c.first_long.result c.first_long.ensures.some (λ at f db heap chain h.
    is_first c.args.draft.now.image db heap chain c.args.free.now h c.args.len (at.file, at.ofs) (f chain (is_chain c.args.draft.now.image db heap chain c.args.free.now h)))

pub returns-clause-none : goal.returns-clause-none
returns-clause-none c = none_then c.first_long.result c.first_long.ensures.none (λ f db heap chain h.
    all_shorter c.args.draft.now.image db heap chain c.args.free.now h c.args.len chain (f chain (is_chain c.args.draft.now.image db heap chain c.args.free.now h)))
