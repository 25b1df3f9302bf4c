use Rattle.std.proofs.Common.{◌≡◌, ℕ, ◌+◌, ◌*◌, ◌<◌, get_or, length}
use Rattle.mm_base.specs.Bytes.{part}
use Rattle.mm_frames.specs.IndexPair.{index_pair_of}
use Rattle.mm_frames.specs.declared.index_pair.IndexPair.{IndexPair}
use Rattle.mm_frames.proofs.index_pair.read_index_pairs.Given as goal

abbrev pub invariant-loop-i : goal.invariant-loop-i
invariant-loop-i g l = (length l.pairs ≡ g.row.N) × ((k : ℕ) (d : IndexPair) → k < l.i → get_or l.pairs k d ≡ index_pair_of (part (l.at + 16 * k) 16 l.bytes))
