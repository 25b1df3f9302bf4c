use Rattle.std.proofs.Common.{ℕ, sym, subst}
use Rattle.mm_check.specs.ExtentChain.{EndsIn}
use Rattle.mm_check.proofs.Lows.{ends_in, header_fits}
use Rattle.mm_check.proofs.chains.file_chain.Goals as goal

pub unused-unused-requires : goal.unused-unused-requires
unused-unused-requires c = header_fits c.args.views.now.private c.args.file c.requires.files (record { low = c.requires.data_file; there = c.requires.there })

pub invariant_of-result : goal.invariant_of-result
invariant_of-result c =
    let image = c.args.views.now.private in
    record {
      ends = subst (λ (u : ℕ). EndsIn image c.args.file u) (sym c.unused-unused.ensures) (ends_in image c.args.file c.requires.files (record { low = c.requires.data_file; there = c.requires.there }));
    }
