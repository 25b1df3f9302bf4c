use Rattle.std.proofs.Common.{arith}
use Rattle.mm_records.proofs.Allocs.{block_low}
use Rattle.mm_records.proofs.allocating.put_found.Goals as goal

pub place-requires-clause-file : goal.place-requires-clause-file
place-requires-clause-file c = (block_low c.args.draft.now.image c.requires.chosen.0 c.requires.chosen.1.0 c.args.node c.args.counts c.args.len c.args.block.list c.args.block.before (c.args.block.at.file, c.args.block.at.ofs) c.requires.chosen.1.1.0 c.requires.chosen.1.1.1).file

pub place-requires-clause-ofs : goal.place-requires-clause-ofs
place-requires-clause-ofs c =
    let low = (block_low c.args.draft.now.image c.requires.chosen.0 c.requires.chosen.1.0 c.args.node c.args.counts c.args.len c.args.block.list c.args.block.before (c.args.block.at.file, c.args.block.at.ofs) c.requires.chosen.1.1.0 c.requires.chosen.1.1.1).ofs in
    omega (arith, low)

pub returns-clause-files : goal.returns-clause-files
returns-clause-files c = c.in_ok-put_record.ensures.files
